-- What C-15 and C-16 say of a desk over whole histories. o is the opening of the one table; the desk begins fresh, with n watches, and its first turn takes l.
use Rattle.std.specs.Prelude.{◌≡◌, ◌⊎◌, List, ◌++◌, not, ℕ, ◌≤◌, ◌<◌, eqb, length, take}
use Rattle.meaning.specs.Verdicts.{Judged}
use Rattle.meaning.specs.Refusals.{code_of}
use Rattle.meaning.specs.RuleFiles.{Rule, alphabet_of, property_of}
use Rattle.meaning.specs.TableFiles.{monitor_of}
use Rattle.meaning.specs.Runs.{decides}
use Rattle.meaning.specs.Openings.{Opening, start_of, run_from}
use Rattle.meaning.specs.Desks.{queue, first_stood, stands, oldest, watch_at}
use Rattle.meaning.specs.Histories.{Action, Post, Turn, begun, reached, asked, accepted, heard, turns}
use Rattle.meaning.specs.declared.Refusal.{Refusal}
use Rattle.meaning.specs.declared.Verdict.{Verdict}
use Rattle.meaning.specs.declared.Watch.{Watch}
use Rattle.meaning.specs.declared.State.{State}
use Rattle.meaning.specs.declared.Served.TheVariants as Served
use Rattle.std.specs.Prelude.{Result, Ok, Err, Option}
use Rattle.meaning.specs.declared.Arrival.{Arrival}

-- the run is not refused, and ends in the state s
abbrev pub EndsIn : Result (Arrival State) Refusal → State → Type 0
EndsIn (Ok a) q = a.state ≡ q
EndsIn (Err x) q = ⊥

-- After the actions h, of tunnel i.
pub record TunnelRight (o : Opening) (n l : ℕ) (h : List Action) (i : ℕ) : Type 0 where
  -- nothing that was accepted is lost or heard twice: the accepted events are the heard ones and then those waiting, in order
  pub kept : accepted o (begun o n l) i h ≡ heard o (begun o n l) i h ++ queue (watch_at (reached o (begun o n l) h).desk i)
  -- "after a tunnel's j-th heard event its state is the one that a run from state 0 over its own first j accepted events returns"
  pub state : EndsIn (run_from o (start_of o) (take (length (heard o (begun o n l) i h)) (accepted o (begun o n l) i h))) (stands (watch_at (reached o (begun o n l) h).desk i))
  -- "a tunnel with an event waiting is heard within 64 turns, whoever else posts": within as many turns as the row has watches, whatever is posted between
  pub in_time : (g : List Action) → 1 ≤ (watch_at (reached o (begun o n l) h).desk i).waiting → n ≤ turns g → 1 ≤ length (heard o (reached o (begun o n l) h) i g)

-- After the actions h, the next action.
pub record NextRight (o : Opening) (n l : ℕ) (h : List Action) : Type 0 where
  -- a turn is never refused
  pub turn : (x : Refusal) → ¬ ((asked o (reached o (begun o n l) h) Turn).answer ≡ Err x)
  -- a post is refused for what is posted alone: by 19, 12, 20 or 21, and so never by 18, 24, 13 or 14
  pub post : (i e : ℕ) (x : Refusal) → (asked o (reached o (begun o n l) h) (Post i e)).answer ≡ Err x
      → ((code_of x).0 ≡ 19) ⊎ ((code_of x).0 ≡ 12) ⊎ ((code_of x).0 ≡ 20) ⊎ ((code_of x).0 ≡ 21)
  -- what a turn says that it heard: the tunnel is one of the row, the event was its oldest, and the state and verdict are those in which the tunnel now stands
  pub heard : (i e : ℕ) (s : State) (v : Verdict) → (asked o (reached o (begun o n l) h) Turn).answer ≡ Ok (Served.Heard i e s v)
      → (i < n) × (e ≡ oldest (watch_at (reached o (begun o n l) h).desk i)) × (s ≡ stands (watch_at (asked o (reached o (begun o n l) h) Turn).desk i)) × (v ≡ (monitor_of o.table).verdict s.number)

-- With a built table the verdict of a tunnel's state is demand 2's for what the tunnel heard.
abbrev pub VerdictRight : Rule → Opening → ℕ → ℕ → List Action → ℕ → Type 0
VerdictRight r o n l h i = Judged (alphabet_of r) (property_of r) (heard o (begun o n l) i h) ((monitor_of o.table).verdict (watch_at (reached o (begun o n l) h).desk i).state)

-- ---- C-16

-- the run is not refused, and a verdict other than undecided first stood in it after so many events
abbrev pub CountIs : Result (Arrival State) Refusal → Option ℕ → Type 0
CountIs (Ok a) c = a.decided ≡ c
CountIs (Err x) c = ⊥

-- After the actions h, of tunnel i, what its watch remembers.
pub record WhenRight (o : Opening) (n l : ℕ) (h : List Action) (i : ℕ) : Type 0 where
  -- "the number of events heard"
  pub count : (watch_at (reached o (begun o n l) h).desk i).heard ≡ length (heard o (begun o n l) i h)
  -- "From a fresh desk the second equals the count that a run over the heard events would return, unfilled for "none"."
  pub first : CountIs (run_from o (start_of o) (heard o (begun o n l) i h)) (first_stood (watch_at (reached o (begun o n l) h).desk i))

-- the second number is filled exactly if the verdict of the watch's state isn't undecided
abbrev pub FilledWhile : Opening → Watch → Type 0
FilledWhile o w = not (eqb w.filled 0) ≡ decides ((monitor_of o.table).verdict w.state)

-- "Then, with a built table, it is filled exactly while the verdict isn't undecided."
abbrev pub FilledRight : Opening → ℕ → ℕ → List Action → ℕ → Type 0
FilledRight o n l h i = FilledWhile o (watch_at (reached o (begun o n l) h).desk i)
