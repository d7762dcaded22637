-- `meaning::Refusal::number` meets its contract: in each arm the definition computes.
use Rattle.meaning.proofs.Refusal.number.Goals as goal

pub returns-in-Truncated : goal.returns-in-Truncated
returns-in-Truncated c = rw c.in-Truncated.is

pub returns-in-WrongLength : goal.returns-in-WrongLength
returns-in-WrongLength c = rw c.in-WrongLength.is

pub returns-in-WrongKind : goal.returns-in-WrongKind
returns-in-WrongKind c = rw c.in-WrongKind.is

pub returns-in-WrongSignals : goal.returns-in-WrongSignals
returns-in-WrongSignals c = rw c.in-WrongSignals.is

pub returns-in-WrongCount : goal.returns-in-WrongCount
returns-in-WrongCount c = rw c.in-WrongCount.is

pub returns-in-WrongOperand : goal.returns-in-WrongOperand
returns-in-WrongOperand c = rw c.in-WrongOperand.is

pub returns-in-OutOfRange : goal.returns-in-OutOfRange
returns-in-OutOfRange c = rw c.in-OutOfRange.is

pub returns-in-EighthTemporal : goal.returns-in-EighthTemporal
returns-in-EighthTemporal c = rw c.in-EighthTemporal.is

pub returns-in-TrailingBytes : goal.returns-in-TrailingBytes
returns-in-TrailingBytes c = rw c.in-TrailingBytes.is

pub returns-in-ShortOutput : goal.returns-in-ShortOutput
returns-in-ShortOutput c = rw c.in-ShortOutput.is

pub returns-in-TooManyResiduals : goal.returns-in-TooManyResiduals
returns-in-TooManyResiduals c = rw c.in-TooManyResiduals.is

pub returns-in-WrongEvent : goal.returns-in-WrongEvent
returns-in-WrongEvent c = rw c.in-WrongEvent.is

pub returns-in-WrongState : goal.returns-in-WrongState
returns-in-WrongState c = rw c.in-WrongState.is

pub returns-in-WrongWatch : goal.returns-in-WrongWatch
returns-in-WrongWatch c = rw c.in-WrongWatch.is

pub returns-in-WrongTable : goal.returns-in-WrongTable
returns-in-WrongTable c = rw c.in-WrongTable.is

pub returns-in-WrongText : goal.returns-in-WrongText
returns-in-WrongText c = rw c.in-WrongText.is

pub returns-in-TooManyNodes : goal.returns-in-TooManyNodes
returns-in-TooManyNodes c = rw c.in-TooManyNodes.is

pub returns-in-NoEvent : goal.returns-in-NoEvent
returns-in-NoEvent c = rw c.in-NoEvent.is

pub returns-in-WrongDesk : goal.returns-in-WrongDesk
returns-in-WrongDesk c = rw c.in-WrongDesk.is

pub returns-in-WrongNumber : goal.returns-in-WrongNumber
returns-in-WrongNumber c = rw c.in-WrongNumber.is

pub returns-in-QueueFull : goal.returns-in-QueueFull
returns-in-QueueFull c = rw c.in-QueueFull.is

pub returns-in-CountFull : goal.returns-in-CountFull
returns-in-CountFull c = rw c.in-CountFull.is

pub returns-in-WrongRecordings : goal.returns-in-WrongRecordings
returns-in-WrongRecordings c = rw c.in-WrongRecordings.is

pub returns-in-Contradiction : goal.returns-in-Contradiction
returns-in-Contradiction c = rw c.in-Contradiction.is

pub returns-in-WrongOpening : goal.returns-in-WrongOpening
returns-in-WrongOpening c = rw c.in-WrongOpening.is
