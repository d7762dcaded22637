-- Document 02, C-15: "One desk for sixty-four tunnels". A desk is a list of watches; the number of a tunnel is the index of its watch. In the field's
-- terms a watch is a monitor's state with a bounded first-in, first-out queue, and turns serve the queues round robin.
-- C-16: "Watches remember when": a watch also counts the events that it heard, and keeps the count at which a verdict other than undecided first stood.
-- C-18: "States from the wrong table": a watch also carries the number of its opening.
use Rattle.std.specs.Prelude.{List, [], ◌∷◌, ◌++◌, map, Bool, cond, not, ◌&&◌, ℕ, ◌+◌, ◌-◌, ◌%◌, length, get_or, set, take, drop, replicate, ltb, leb, eqb}
use Rattle.sequences.specs.Tabulate.{every, least_below}
use Rattle.meaning.specs.Traces.{Alphabet, is_event}
use Rattle.meaning.specs.TableFiles.{is_table, alphabet_in, signals_in, states_in, monitor_in, monitor_of}
use Rattle.meaning.specs.RuleFiles.{first_of}
use Rattle.meaning.specs.Runs.{decides, run_of, ran_in, counts_fit, in_table}
use Rattle.meaning.specs.Openings.{Opening, state_of}
use Rattle.meaning.specs.declared.Verdict.{Verdict}
use Rattle.meaning.specs.declared.Verdict.TheVariants.{Undecided}
use Rattle.meaning.specs.declared.Refusal.{Refusal}
use Rattle.meaning.specs.declared.Refusal.TheVariants.{WrongEvent, WrongWatch, WrongTable, WrongDesk, WrongNumber, QueueFull, CountFull, WrongOpening}
use Rattle.meaning.specs.declared.State.{State}
use Rattle.meaning.specs.declared.Watch.{Watch}
use Rattle.meaning.specs.declared.Served.{Served}
use Rattle.std.specs.Prelude.{Result, Ok, Err, Option, Some, None}
use Rattle.meaning.specs.declared.Arrival.{Arrival}

-- "each with its state and up to 32 waiting events, oldest first": of its slots the first `waiting`
abbrev pub queue : Watch → List ℕ
queue w = take w.waiting w.events

-- "the number at which a verdict first stood", as a run counts it: after so many events, and never where it is unfilled
abbrev pub first_stood : Watch → Option ℕ
first_stood w = cond (eqb w.filled 0) None (Some w.first)

-- C-18: "States and watches .. carry it": the state in which a watch stands
abbrev pub stands : Watch → State
stands w = state_of w.opening w.state

-- "heard plus waiting"
abbrev pub counted : Watch → ℕ
counted w = w.heard + w.waiting

-- "A fresh desk has every watch in state 0 with nothing waiting." C-16: "On a fresh desk .. the first is 0, and the second 0 if the start's verdict isn't
-- undecided, otherwise unfilled". C-18: "fresh ones too, carry it". The opening's number and its start's verdict are given
abbrev pub fresh_watch : ℕ → Verdict → Watch
fresh_watch n v = record { state = 0; opening = n; waiting = 0; filled = cond (decides v) 1 0; heard = 0; first = 0; events = replicate 32 0 }

-- what is read past a row's end
abbrev pub no_watch : Watch
no_watch = fresh_watch 0 Undecided

-- the watch with a number
abbrev pub watch_at : List Watch → ℕ → Watch
watch_at d i = get_or d i no_watch

-- An answer, and the desk after it.
pub record Outcome : Type 0 where
  pub answer : Result Served Refusal
  pub desk : List Watch

-- a refusal changes nothing lent
abbrev pub refused : List Watch → Refusal → Outcome
refused d x = record { answer = Err x; desk = d }

-- ---- refusals: "18 row empty or above 64", "13 for a watch with a state too large, over 32 waiting or a waiting byte that is no possible event";
-- C-16: "13 covers a watch where that sum is larger", heard plus waiting larger than 4,294,967,295

abbrev pub row_fits : List Watch → Bool
row_fits d = leb 1 (length d) && leb (length d) 64

abbrev pub watch_fits : Alphabet → ℕ → Watch → Bool
watch_fits Σ S w = every (ltb w.state S ∷ leb w.waiting 32 ∷ leb (counted w) 4294967295 ∷ every (map (is_event Σ) (queue w)) ∷ [])

-- "Place .. of 13 the first such watch": its number, and the row's length where there is none
abbrev pub first_wrong : Alphabet → ℕ → List Watch → ℕ
first_wrong Σ S d = least_below (length d) (λ i. not (watch_fits Σ S (watch_at d i)))

-- C-18: "24 numbers differ, .. with 13's place": the number of the first watch that carries another than n, and the row's length where none does
abbrev pub first_foreign : ℕ → List Watch → ℕ
first_foreign n d = least_below (length d) (λ i. not (eqb (watch_at d i).opening n))

-- "for all watches before any 13"; 18 stands before both
abbrev pub desk_checks : ℕ → Alphabet → ℕ → List Watch → List (Bool × Refusal)
desk_checks n Σ S d =
    (not (row_fits d), WrongDesk)
    ∷ (ltb (first_foreign n d) (length d), WrongOpening (first_foreign n d))
    ∷ (ltb (first_wrong Σ S d) (length d), WrongWatch (first_wrong Σ S d))
    ∷ []

-- ---- "Posting adds an event to a tunnel."

-- in the first free slot
abbrev pub with_event : Watch → ℕ → Watch
with_event w e =
    record {
      state = w.state;
      opening = w.opening;
      waiting = w.waiting + 1;
      filled = w.filled;
      heard = w.heard;
      first = w.first;
      events = set w.events w.waiting e;
    }

-- "Order 18, 13 .., 19, 12, 20"; "19 tunnel number outside the row; 20 already 32 waiting"; their place is "the tunnel number". C-16: "21 heard plus
-- waiting is 4,294,967,295, at posting, last in order, place the tunnel number". C-18: n is the number of the opening with which it is posted
unfoldable pub post_by : ℕ → Alphabet → ℕ → List Watch → ℕ → ℕ → Outcome
post_by n Σ S d i e =
    first_of (refused d)
    (desk_checks n Σ S d
    ++ ((leb (length d) i, WrongNumber i)
    ∷ (not (is_event Σ e), WrongEvent i)
    ∷ (leb 32 (watch_at d i).waiting, QueueFull i)
    ∷ (eqb (counted (watch_at d i)) 4294967295, CountFull i)
    ∷ []))
    (record { answer = Ok Served.Done; desk = set d i (with_event (watch_at d i) e) })

-- ---- "A turn takes the last-heard number and hears the oldest event of the next tunnel after it, going round, that has one waiting"

-- "A number outside the row counts as the last tunnel."
abbrev pub last_of : ℕ → ℕ → ℕ
last_of n l = cond (ltb l n) l (n - 1)

-- the k-th number after it, from 0, going round a row of n: the given one comes last
abbrev pub after : ℕ → ℕ → ℕ → ℕ
after n l k = (last_of n l + 1 + k) % n

-- how many numbers are passed before one that has an event waiting; n where none has
abbrev pub passed : List Watch → ℕ → ℕ
passed d l = least_below (length d) (λ k. leb 1 (watch_at d (after (length d) l k)).waiting)

-- the oldest event of a watch
abbrev pub oldest : Watch → ℕ
oldest w = get_or w.events 0 0

-- C-16: "Hearing an event fills the second, where it is unfilled and the new verdict isn't undecided; otherwise it keeps it."
abbrev pub fills : Watch → Verdict → Bool
fills w v = eqb w.filled 0 && decides v

-- "Hearing takes the event out and moves the state by it", to s with verdict v: the others move up, and the last slot is 0; one event more is heard
abbrev pub without_oldest : Watch → ℕ → Verdict → Watch
without_oldest w s v =
    record {
      state = s;
      opening = w.opening;
      waiting = w.waiting - 1;
      filled = cond (fills w v) 1 w.filled;
      heard = w.heard + 1;
      first = cond (fills w v) (w.heard + 1) w.first;
      events = drop 1 w.events ++ (0 ∷ []);
    }

-- what hearing at a number comes to, where the run over the oldest event ended so; the answer's state carries the opening's number
abbrev pub heard_by : ℕ → List Watch → ℕ → Result (Arrival ℕ) Refusal → Outcome
heard_by n d i (Ok a) =
    record {
      answer = Ok (Served.Heard i (oldest (watch_at d i)) (state_of n a.state) a.verdict);
      desk = set d i (without_oldest (watch_at d i) a.state a.verdict);
    }
heard_by n d i (Err x) = refused d x

-- "it returns the number now last heard, or says that none waits and returns the number given"; the run over one event from a state is given
unfoldable pub turn_by : ℕ → (ℕ → ℕ → Result (Arrival ℕ) Refusal) → Alphabet → ℕ → List Watch → ℕ → Outcome
turn_by n step Σ S d l =
    let i = after (length d) l (passed d l) in
    first_of (refused d) (desk_checks n Σ S d)
    (cond (ltb (passed d l) (length d))
    (heard_by n d i (step (watch_at d i).state (oldest (watch_at d i))))
    (record { answer = Ok (Served.NoneWaits l); desk = d }))

-- ---- over an opened table, "A site runs up to 64 tunnels on one table": 14 where the bytes are none, before all else

unfoldable pub post_of : Opening → List Watch → ℕ → ℕ → Outcome
post_of o d i e =
    let t = o.table in
    cond (is_table t) (post_by o.number (alphabet_in t (signals_in t)) (states_in t) d i e) (refused d WrongTable)

unfoldable pub turn_of : Opening → List Watch → ℕ → Outcome
turn_of o d l =
    let t = o.table in
    cond (is_table t) (turn_by o.number (λ s e. run_of t s (e ∷ [])) (alphabet_in t (signals_in t)) (states_in t) d l) (refused d WrongTable)

-- the same from the opening's number and bytes and counts in hand, as a step takes them: a turn that would leave the table is refused by 14
unfoldable pub post_in : ℕ → List ℕ → ℕ → ℕ → List Watch → ℕ → ℕ → Outcome
post_in n t P S d i e = cond (counts_fit t P S) (post_by n (alphabet_in t P) S d i e) (refused d WrongTable)

unfoldable pub turn_in : ℕ → List ℕ → ℕ → ℕ → List Watch → ℕ → Outcome
turn_in n t P S d l = cond (counts_fit t P S) (turn_by n (λ s e. ran_in t P S s (e ∷ [])) (alphabet_in t P) S d l) (refused d WrongTable)

-- "A fresh desk": the whole row, where the opening's number and its start's verdict are given; 18
abbrev pub fresh_by : ℕ → Verdict → List Watch → Outcome
fresh_by n v d = cond (row_fits d) (record { answer = Ok Served.Done; desk = replicate (length d) (fresh_watch n v) }) (refused d WrongDesk)

-- "made with C-15's one table": 14 before 18
unfoldable pub fresh_of : Opening → List Watch → Outcome
fresh_of o d = cond (is_table o.table) (fresh_by o.number ((monitor_of o.table).verdict 0) d) (refused d WrongTable)

-- from the opening's number and bytes and counts in hand: 14 too where the start's verdict byte is none of the four
unfoldable pub fresh_in : ℕ → List ℕ → ℕ → ℕ → List Watch → Outcome
fresh_in n t P S d = cond (counts_fit t P S && in_table t P S 0) (fresh_by n ((monitor_in t P S).verdict 0) d) (refused d WrongTable)
