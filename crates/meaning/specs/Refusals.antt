-- Document 01's table "Refusing", and the numbers that document 02 adds.
use Rattle.std.specs.Prelude.{ℕ}
use Rattle.meaning.specs.declared.Refusal.{Refusal}
use Rattle.meaning.specs.declared.Refusal.TheVariants.{Truncated, WrongLength, WrongKind, WrongSignals, WrongCount, WrongOperand, OutOfRange, EighthTemporal, TrailingBytes, ShortOutput, TooManyResiduals, WrongEvent, WrongState, WrongWatch, WrongTable, WrongText, TooManyNodes, NoEvent, WrongDesk, WrongNumber, QueueFull, CountFull, WrongRecordings, Contradiction, WrongOpening}

-- "Returned" and "Place", of each case
abbrev pub code_of : Refusal → ℕ × ℕ
code_of (Truncated p) = (1, p)
code_of (WrongLength p) = (2, p)
code_of (WrongKind p) = (3, p)
code_of WrongSignals = (4, 0)
code_of WrongCount = (5, 0)
code_of (WrongOperand p) = (6, p)
code_of (OutOfRange p) = (7, p)
code_of (EighthTemporal p) = (8, p)
code_of (TrailingBytes p) = (9, p)
code_of ShortOutput = (10, 0)
code_of TooManyResiduals = (11, 0)
code_of (WrongEvent p) = (12, p)
code_of WrongState = (13, 0)
code_of (WrongWatch p) = (13, p)
code_of WrongTable = (14, 0)
code_of (WrongText p) = (15, p)
code_of TooManyNodes = (16, 0)
code_of (NoEvent p) = (17, p)
code_of WrongDesk = (18, 0)
code_of (WrongNumber p) = (19, p)
code_of (QueueFull p) = (20, p)
code_of (CountFull p) = (21, p)
code_of WrongRecordings = (22, 0)
code_of (Contradiction p) = (23, p)
code_of (WrongOpening p) = (24, p)
