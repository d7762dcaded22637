-- One pass over a row, and what is done after it: the definitions that the code follows.
use Rattle.std.specs.Prelude.{◌≡◌, List, [], ◌∷◌, Bool, true, cond, not, ◌&&◌, ℕ, zero, suc, ltb, leb, eqb, Option, Some, None, Result, Ok, Err}
use Rattle.std.specs.Option.{option_or}
use Rattle.meaning.specs.Bytes.{bit}
use Rattle.meaning.specs.RuleFiles.{first_of}
use Rattle.meaning.specs.TableFiles.{successor, verdict_byte, verdict_of}
use Rattle.meaning.specs.Runs.{counts_fit, in_table}
use Rattle.meaning.specs.Openings.{state_of}
use Rattle.meaning.specs.Desks.{counted, no_watch, watch_at, oldest, with_event, without_oldest}
use Rattle.meaning.specs.declared.Arrival.{Arrival}
use Rattle.meaning.specs.declared.Refusal.{Refusal}
use Rattle.meaning.specs.declared.Refusal.TheVariants.{WrongEvent, WrongState, WrongWatch, WrongTable, WrongDesk, WrongNumber, QueueFull, CountFull, WrongOpening}
use Rattle.meaning.specs.declared.Verdict.{Verdict}
use Rattle.meaning.specs.declared.Watch.{Watch}
use Rattle.meaning.specs.declared.Served.{Served}
use Rattle.table_layout.specs.Masks.{MaskIn}
use Rattle.watches.specs.Fitting.{fits_in}
use Rattle.desk_tasks.specs.declared.Request.{Request}
use Rattle.desk_tasks.specs.declared.Request.TheVariants.{Post, Turn}
use Rattle.desk_tasks.specs.declared.Task.{Task}
use Rattle.desk_tasks.specs.declared.Service.{Service}

-- the number after which a turn begins
abbrev pub last_in : Request → ℕ
last_in (Post n i e) = 0
last_in (Turn n l) = l

-- the number of the opening that is asked
abbrev pub opening_in : Request → ℕ
opening_in (Post n i e) = n
opening_in (Turn n l) = n

abbrev pub row_fits : ℕ → Bool
row_fits n = leb 1 n && leb n 64

-- The task of a request over the bytes t with counts P and S and a row of n watches, before the pass. Where the counts are a table's, its mask is that of
-- the table's events.
pub record Begun (t : List ℕ) (P S : ℕ) (r : Request) (n : ℕ) (s : Task) : Type 0 where
  pub request : s.request ≡ r
  pub signals : s.signals ≡ P
  pub states : s.states ≡ S
  pub table : s.table ≡ counts_fit t P S
  pub mask : counts_fit t P S ≡ true → MaskIn t P s.mask
  pub length : s.length ≡ n
  pub upto : s.upto ≡ cond (counts_fit t P S && row_fits n) n 0
  pub last : s.last ≡ last_in r
  pub opening : s.opening ≡ opening_in r
  pub foreign : s.foreign ≡ None
  pub wrong : s.wrong ≡ None
  pub waits : s.waits ≡ None
  pub later : s.later ≡ None

-- number i where the watch with it is such a one, and else what was found before
abbrev pub found : Bool → ℕ → Option ℕ → Option ℕ
found such i before = cond such (Some i) before

-- after a look at the watch w, which has number i
abbrev pub look_of : Task → Watch → ℕ → Task
look_of s w i =
    record {
      request = s.request;
      signals = s.signals;
      states = s.states;
      table = s.table;
      mask = s.mask;
      length = s.length;
      upto = s.upto;
      last = s.last;
      opening = s.opening;
      foreign = found (not (eqb w.opening s.opening)) i s.foreign;
      wrong = found (not (fits_in s.mask s.states w)) i s.wrong;
      waits = found (ltb 0 w.waiting) i s.waits;
      later = found (ltb 0 w.waiting && ltb s.last i) i s.later;
    }

-- after a pass over the first k watches, the last of them first
unfoldable pub pass_over : List Watch → ℕ → Task → Task
pass_over d zero s = s
pass_over d (suc k) s = pass_over d k (look_of s (watch_at d k) k)

-- the next number, going round, that has an event waiting
abbrev pub next_of : Task → Option ℕ
next_of s = option_or s.later s.waits

-- the number that the request is about
abbrev pub wanted_by : Task → Request → Option ℕ
wanted_by s (Post n i e) = Some i
wanted_by s (Turn n l) = next_of s

abbrev pub wanted_of : Task → Option ℕ
wanted_of s = wanted_by s s.request

-- the watch with that number
abbrev pub watch_for : List Watch → Option ℕ → Watch
watch_for d (Some i) = watch_at d i
watch_for d None = no_watch

-- a watch with a number is changed, and the answer
abbrev pub changing : ℕ → Watch → Served → Result Service Refusal
changing i w r = Ok (record { change = Some (record { number = i; watch = w }); answer = r })

-- 19, 12, 20 and 21
abbrev pub post_checks : Task → Watch → ℕ → ℕ → List (Bool × Refusal)
post_checks s w i e =
    (leb s.length i, WrongNumber i)
    ∷ (not (eqb (bit e s.mask) 1), WrongEvent i)
    ∷ (leb 32 w.waiting, QueueFull i)
    ∷ (eqb (counted w) 4294967295, CountFull i)
    ∷ []

-- the watch w, which has number i, with the event e
abbrev pub addition : Watch → ℕ → ℕ → Result Service Refusal
addition w i e = changing i (with_event w e) Served.Done

abbrev pub post_decided : Task → Watch → ℕ → ℕ → Result Service Refusal
post_decided s w i e = first_of Err (post_checks s w i e) (addition w i e)

-- hearing, with the opening n, the oldest event of watch w, which has number i and is led by it to a state with a verdict
abbrev pub hearing : ℕ → Watch → ℕ → ℕ → Verdict → Result Service Refusal
hearing n w i to v = changing i (without_oldest w to v) (Served.Heard i (oldest w) (state_of n to) v)

-- where the run over it ended so
abbrev pub hear_decided : Task → Watch → ℕ → Result (Arrival ℕ) Refusal → Result Service Refusal
hear_decided s w i (Ok a) = hearing s.opening w i a.state a.verdict
hear_decided s w i (Err x) = Err x

-- the same from what the task knows of the table: 14, 13 and 12 as a run has them, and 14 where the way leaves the table
abbrev pub heard_from : List ℕ → Task → Watch → ℕ → Result Service Refusal
heard_from t s w i =
    let to = successor t s.signals w.state (oldest w) in
    first_of Err
    ((not (leb s.signals 4), WrongTable)
    ∷ (not (ltb w.state s.states), WrongState)
    ∷ (not (eqb (bit (oldest w) s.mask) 1), WrongEvent 0)
    ∷ (not (in_table t s.signals s.states w.state && in_table t s.signals s.states to), WrongTable)
    ∷ [])
    (hearing s.opening w i to (verdict_of (verdict_byte t s.signals to)))

-- where one event more can be counted: it can for every watch that fits and has one waiting
abbrev pub counted_from : List ℕ → Task → Watch → ℕ → Result Service Refusal
counted_from t s w i = cond (ltb w.heard 4294967295) (heard_from t s w i) (Err (WrongWatch i))

-- of the next number
abbrev pub turn_from : List ℕ → Task → Watch → ℕ → Option ℕ → Result Service Refusal
turn_from t s w l (Some i) = counted_from t s w i
turn_from t s w l None = Ok (record { change = None; answer = Served.NoneWaits l })

abbrev pub turn_decided : List ℕ → Task → Watch → ℕ → Result Service Refusal
turn_decided t s w l = turn_from t s w l (next_of s)

abbrev pub request_decided : List ℕ → Task → Watch → Request → Result Service Refusal
request_decided t s w (Post n i e) = post_decided s w i e
request_decided t s w (Turn n l) = turn_decided t s w l

-- the refusal of a number, where one was found
abbrev pub unless : (ℕ → Refusal) → Option ℕ → Result Service Refusal → Result Service Refusal
unless f (Some i) y = Err (f i)
unless f None y = y

-- 14 and 18
abbrev pub row_checks : Task → List (Bool × Refusal)
row_checks s = (not s.table, WrongTable) ∷ (not (row_fits s.length), WrongDesk) ∷ []

-- 14, 18, 24 and 13, and then an answer
abbrev pub checked : Task → Result Service Refusal → Result Service Refusal
checked s y = first_of Err (row_checks s) (unless WrongOpening s.foreign (unless WrongWatch s.wrong y))

abbrev pub decided_of : List ℕ → Task → Watch → Result Service Refusal
decided_of t s w = checked s (request_decided t s w s.request)
