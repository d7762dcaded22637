-- Document 02, C-15: "From a fresh desk, which only posts and turns with one table change, each turn taking the number that the turn before returned".
use Rattle.std.specs.Prelude.{List, [], ◌∷◌, ◌++◌, cond, ℕ, suc, replicate, eqb}
use Rattle.meaning.specs.TableFiles.{monitor_of}
use Rattle.meaning.specs.Openings.{Opening}
use Rattle.meaning.specs.Desks.{Outcome, fresh_watch, post_of, turn_of}
use Rattle.meaning.specs.declared.Watch.{Watch}
use Rattle.meaning.specs.declared.Served.{Served}
use Rattle.std.specs.Prelude.{Result, Ok, Err}
use Rattle.meaning.specs.declared.Refusal.{Refusal}

-- What is asked of a desk: an event posted to a number, or a turn.
pub data Action : Type 0 where
  Post : ℕ → ℕ → Action
  Turn : Action

-- A desk, and the number that the next turn takes.
pub record Standing : Type 0 where
  pub desk : List Watch
  pub last : ℕ

-- a fresh desk of n watches, made with the opening o, whose first turn takes l
abbrev pub begun : Opening → ℕ → ℕ → Standing
begun o n l = record { desk = replicate n (fresh_watch o.number ((monitor_of o.table).verdict 0)); last = l }

-- the number that an answer returns, and l where it returns none
abbrev pub last_after : Result Served Refusal → ℕ → ℕ
last_after (Ok Served.Done) l = l
last_after (Ok (Served.Heard i e s v)) l = i
last_after (Ok (Served.NoneWaits k)) l = k
last_after (Err x) l = l

-- what an action comes to, with the opening o
abbrev pub asked : Opening → Standing → Action → Outcome
asked o c (Post i e) = post_of o c.desk i e
asked o c Turn = turn_of o c.desk c.last

abbrev pub onward : Opening → Standing → Action → Standing
onward o c a = record { desk = (asked o c a).desk; last = last_after (asked o c a).answer c.last }

-- after a list of actions
abbrev pub reached : Opening → Standing → List Action → Standing
reached o c [] = c
reached o c (a ∷ rest) = reached o (onward o c a) rest

-- the event that an action adds to tunnel i, if its answer takes it
abbrev pub takes : ℕ → Action → Result Served Refusal → List ℕ
takes i (Post j e) (Ok Served.Done) = cond (eqb i j) (e ∷ []) []
takes i (Post j e) (Ok (Served.Heard k x s v)) = []
takes i (Post j e) (Ok (Served.NoneWaits k)) = []
takes i (Post j e) (Err x) = []
takes i Turn r = []

-- the event of tunnel i that an answer says was heard
abbrev pub hears : ℕ → Result Served Refusal → List ℕ
hears i (Ok Served.Done) = []
hears i (Ok (Served.Heard j e s v)) = cond (eqb i j) (e ∷ []) []
hears i (Ok (Served.NoneWaits k)) = []
hears i (Err x) = []

-- the "accepted events" of tunnel i, and those that were heard, in order
abbrev pub accepted : Opening → Standing → ℕ → List Action → List ℕ
accepted o c i [] = []
accepted o c i (a ∷ rest) = takes i a (asked o c a).answer ++ accepted o (onward o c a) i rest

abbrev pub heard : Opening → Standing → ℕ → List Action → List ℕ
heard o c i [] = []
heard o c i (a ∷ rest) = hears i (asked o c a).answer ++ heard o (onward o c a) i rest

-- how many turns there are among the actions
abbrev pub turns : List Action → ℕ
turns [] = 0
turns (Post i e ∷ rest) = turns rest
turns (Turn ∷ rest) = suc (turns rest)
