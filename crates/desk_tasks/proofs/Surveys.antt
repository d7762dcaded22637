-- What is decided after a pass is what the definitions of post and turn say.
--     begun-upto    a pass looks at no watch past the row
--     surveyed      a service that was made by a pass over the row
use Rattle.std.proofs.Common.{Result, Ok, Err, Option, Some, None}
use Rattle.std.specs.Option.{option_or}
use mathlib.Core.Path.{◌≡◌, refl, sym, ap, ap₂, ◌∙◌, subst}
use mathlib.Core.List.{List, [], ◌∷◌, map}
use mathlib.Core.Bool.{Bool, true, false, cond, not, ◌&&◌}
use Prim.Native.Nat.{ℕ, ◌≤◌, ◌<◌}
use native.Mathlib.Omega.{arith}
use native.Mathlib.Decide.{dec_lt}
use native.Mathlib.Nat.{mod-lt}
use borrow.Author.Tests.{lt-ltb, le-ltb, leb-true, ltb-false}
use lib.Dec.{ltb, leb, eqb}
use lib.ListN.{length, set}
use Rattle.sequences.specs.Tabulate.{every, least_below}
use Rattle.sequences.proofs.Pointwise.{least-same}
use Rattle.sequences.proofs.Pigeonhole.{least-below}
use Rattle.sequences.proofs.Tests.{holds}
use Rattle.meaning.specs.Bytes.{bit}
use Rattle.meaning.specs.Traces.{Alphabet, is_event}
use Rattle.meaning.specs.TableFiles.{alphabet_in, monitor_in}
use Rattle.meaning.specs.RuleFiles.{first_of}
use Rattle.meaning.specs.Runs.{end_of, counts_fit, on_table, tested, ran_in}
use Rattle.meaning.specs.Desks.{Outcome, refused, watch_fits, queue, counted, first_wrong, first_foreign, desk_checks, watch_at, oldest, with_event, after, passed, heard_by, post_by, turn_by, post_in, turn_in}
use Rattle.meaning.specs.declared.Refusal.{Refusal}
use Rattle.meaning.specs.declared.Refusal.TheVariants.{WrongEvent, WrongState, WrongWatch, WrongTable, WrongNumber, QueueFull, CountFull, WrongOpening}
use Rattle.meaning.specs.declared.Watch.{Watch}
use Rattle.meaning.specs.declared.Served.TheVariants as Served
use Rattle.event_lists.specs.Masks.{all_in}
use Rattle.table_layout.specs.Masks.{MaskIn}
use Rattle.table_layout.proofs.Form.{counts-few}
use Rattle.watches.specs.Fitting.{fits_in}
use Rattle.desk_tasks.specs.declared.Request.{Request}
use Rattle.desk_tasks.specs.declared.Request.TheVariants.{Post, Turn}
use Rattle.desk_tasks.specs.declared.Task.{Task}
use Rattle.desk_tasks.specs.declared.Service.{Service}
use Rattle.desk_tasks.specs.Tasks.{Begun, row_fits, last_in, opening_in, pass_over, next_of, wanted_by, wanted_of, watch_for, unless, checked, post_checks, addition, post_decided, hear_decided, heard_from, turn_from, turn_decided, request_decided, decided_of}
use Rattle.desk_tasks.specs.Surveys.{served_in, applied, Surveyed}
use Rattle.desk_tasks.proofs.Laws.{by_tests, way_here, heard_here, few-first}
use Rattle.desk_tasks.proofs.Passes.{at, Kept, lowest, lowest-least, pass_kept, pass-foreign, pass-wrong, pass-waits, pass-later}
use Rattle.desk_tasks.proofs.Nexts.{next-at}
use Rattle.meaning.specs.declared.Arrival.{Arrival}

pub begun-upto : {t : List ℕ} {P S n : ℕ} {r : Request} {s : Task} → Begun t P S r n s → s.upto ≤ n
begun-upto {t} {P} {S} {n} {s = s} h = go (counts_fit t P S && row_fits n) h.upto
  where
    go : (b : Bool) → s.upto ≡ cond b n 0 → s.upto ≤ n
    go true e = omega arith
    go false e = omega arith

-- ---- what a service makes of a desk

module _ (d : List Watch) where
  -- the first check that fails
  applied-first : (cs : List (Bool × Refusal)) (y : Result Service Refusal) → applied d (first_of Err cs y) ≡ first_of (refused d) cs (applied d y)
  applied-first [] y = refl
  applied-first (c ∷ cs) y = go c.0 (applied-first cs y)
    where
      go : (b : Bool) → applied d (first_of Err cs y) ≡ first_of (refused d) cs (applied d y)
          → applied d (cond b (Err c.1) (first_of Err cs y)) ≡ cond b (refused d c.1) (first_of (refused d) cs (applied d y))
      go true h = refl
      go false h = h

  -- a number of the row is refused, and none is not
  applied-unless : (f : ℕ → Refusal) (n j : ℕ) (y : Result Service Refusal) (z : Outcome) → (ltb j n ≡ false → applied d y ≡ z)
      → applied d (unless f (at n j) y) ≡ cond (ltb j n) (refused d (f j)) z
  applied-unless f n j y z h = go (ltb j n) refl
    where
      go : (b : Bool) → ltb j n ≡ b → applied d (unless f (at n j) y) ≡ cond (ltb j n) (refused d (f j)) z
      go true e = rw e
      go false e = rw e (h e)

  applied-heard : (s : Task) (w : Watch) (i : ℕ) → w ≡ watch_at d i → (r : Result (Arrival ℕ) Refusal) → applied d (hear_decided s w i r) ≡ heard_by s.opening d i r
  applied-heard s w i e (Ok a) = rw e
  applied-heard s w i e (Err x) = refl

-- ---- a watch fits by the mask exactly if it fits

module _ (t : List ℕ) (P m : ℕ) (bits : MaskIn t P m) where
  all-events : (q : List ℕ) → all_in m q ≡ every (map (is_event (alphabet_in t P)) q)
  all-events [] = refl
  all-events (e ∷ q) = rw (bits.bits e, all-events q)

  fits-so : (S : ℕ) (w : Watch) → fits_in m S w ≡ watch_fits (alphabet_in t P) S w
  fits-so S w = ap (λ (b : Bool). every (ltb w.state S ∷ leb w.waiting 32 ∷ leb (counted w) 4294967295 ∷ b ∷ [])) (all-events (queue w))

-- ---- hearing from what the task knows is a run over the event

module _ (t : List ℕ) (s : Task) (w : Watch) (i : ℕ) where
  abbrev e : ℕ
  e = oldest w

  -- the run by the same tests
  abbrev ran_by : Bool → Bool → Bool → Result (Arrival ℕ) Refusal
  ran_by inside can way =
      tested way
      (cond inside
      (cond (ltb (cond (not can) 0 1) 1) (Err (WrongEvent (cond (not can) 0 1))) (end_of (monitor_in t s.signals s.states) w.state (e ∷ [])))
      (Err WrongState))

  by-tests : (inside can way : Bool) → by_tests (heard_here t s w i) (not inside) (not can) (not way) ≡ hear_decided s w i (ran_by inside can way)
  by-tests true true true = refl
  by-tests true true false = refl
  by-tests true false true = refl
  by-tests true false false = refl
  by-tests false can true = refl
  by-tests false can false = refl

  -- over the task's own counts
  heard-own : counts_fit t s.signals s.states ≡ true → eqb (bit e s.mask) 1 ≡ is_event (alphabet_in t s.signals) e
      → heard_from t s w i ≡ hear_decided s w i (ran_in t s.signals s.states w.state (e ∷ []))
  unfolding on_table
  heard-own fit can =
      few-first t s w i (counts-few t s.signals s.states fit)
      ∙ ap (λ (x : Bool). by_tests (heard_here t s w i) (not (ltb w.state s.states)) (not x) (not (way_here t s w i))) can
      ∙ by-tests (ltb w.state s.states) (is_event (alphabet_in t s.signals) e) (way_here t s w i)
      ∙ ap (λ (b : Bool). hear_decided s w i (cond b (ran_by (ltb w.state s.states) (is_event (alphabet_in t s.signals) e) (way_here t s w i)) (Err WrongTable))) (sym fit)

  heard-so : (P S : ℕ) → s.signals ≡ P → s.states ≡ S → counts_fit t P S ≡ true → eqb (bit e s.mask) 1 ≡ is_event (alphabet_in t P) e
      → heard_from t s w i ≡ hear_decided s w i (ran_in t P S w.state (e ∷ []))
  heard-so P S p q fit can =
      let fit' : counts_fit t s.signals s.states ≡ true = ap (λ (x : ℕ). counts_fit t x s.states) p ∙ ap (counts_fit t P) q ∙ fit in
      let can' : eqb (bit e s.mask) 1 ≡ is_event (alphabet_in t s.signals) e = can ∙ ap (λ (x : ℕ). is_event (alphabet_in t x) e) (sym p) in
      heard-own fit' can' ∙ ap (λ (x : ℕ). hear_decided s w i (ran_in t x s.states w.state (e ∷ []))) p ∙ ap (λ (x : ℕ). hear_decided s w i (ran_in t P x w.state (e ∷ []))) q

-- ---- the whole

module _ (t : List ℕ) (P S : ℕ) (r : Request) (d : List Watch) (s₀ s : Task) (begun : Begun t P S r (length d) s₀) (pass : s ≡ pass_over d s₀.upto s₀) where
  abbrev n : ℕ
  n = length d

  abbrev Σ : Alphabet
  Σ = alphabet_in t P

  kept : Kept s₀ s
  kept = subst (Kept s₀) (sym pass) (pass_kept d s₀.upto s₀)

  own : s.opening ≡ opening_in r
  own = kept.opening ∙ begun.opening

  long : s.length ≡ n
  long = kept.length ∙ begun.length

  -- over a table and a row that fit
  module _ (fit : counts_fit t P S ≡ true) (row : row_fits n ≡ true) where
    all : s₀.upto ≡ n
    all = begun.upto ∙ rw (fit, row)

    bits : MaskIn t P s₀.mask
    bits = begun.mask fit

    over-all : s ≡ pass_over d n s₀
    over-all = pass ∙ ap (λ (k : ℕ). pass_over d k s₀) all

    wrong-is : s.wrong ≡ at n (first_wrong Σ S d)
    wrong-is =
        ap (λ (x : Task). x.wrong) over-all ∙ pass-wrong d n s₀
        ∙ ap (lowest n (λ i. not (fits_in s₀.mask s₀.states (watch_at d i)))) begun.wrong
        ∙ lowest-least n (λ i. not (fits_in s₀.mask s₀.states (watch_at d i)))
        ∙ ap (at n) (least-same n _ _ (λ i l. ap (λ (x : ℕ). not (fits_in s₀.mask x (watch_at d i))) begun.states ∙ ap not (fits-so t P s₀.mask bits S (watch_at d i))))

    foreign-is : s.foreign ≡ at n (first_foreign (opening_in r) d)
    foreign-is =
        ap (λ (x : Task). x.foreign) over-all ∙ pass-foreign d n s₀
        ∙ ap (lowest n (λ i. not (eqb (watch_at d i).opening s₀.opening))) begun.foreign
        ∙ lowest-least n (λ i. not (eqb (watch_at d i).opening s₀.opening))
        ∙ ap (at n) (least-same n _ _ (λ i l. ap (λ (x : ℕ). not (eqb (watch_at d i).opening x)) begun.opening))

    some : 1 ≤ n
    some = go (leb 1 n) refl row
      where
        go : (b : Bool) → leb 1 n ≡ b → (b && leb n 64) ≡ true → 1 ≤ n
        go true e h = leb-true 1 n e
        go false e h = leb-true 1 n (e ∙ h)

    -- the next to be heard after l
    next-so : (k l : ℕ) → r ≡ Turn k l → next_of s ≡ cond (ltb (passed d l) n) (Some (after n l (passed d l))) None
    next-so k l e =
        let from : s₀.last ≡ l = begun.last ∙ ap last_in e in
        let later : s.later ≡ at n (least_below n (λ i. ltb 0 (watch_at d i).waiting && ltb l i)) =
        ap (λ (x : Task). x.later) over-all ∙ pass-later d n s₀ ∙ ap (λ (x : ℕ). lowest n (λ i. ltb 0 (watch_at d i).waiting && ltb x i) s₀.later) from
        ∙ ap (lowest n (λ i. ltb 0 (watch_at d i).waiting && ltb l i)) begun.later ∙ lowest-least n (λ i. ltb 0 (watch_at d i).waiting && ltb l i) in
        let waits : s.waits ≡ at n (least_below n (λ i. ltb 0 (watch_at d i).waiting)) =
        ap (λ (x : Task). x.waits) over-all ∙ pass-waits d n s₀ ∙ ap (lowest n (λ i. ltb 0 (watch_at d i).waiting)) begun.waits ∙ lowest-least n (λ i. ltb 0 (watch_at d i).waiting) in
        ap₂ option_or later waits ∙ next-at n l (λ i. ltb 0 (watch_at d i).waiting) some

    post-so : (i e : ℕ) (w : Watch) → w ≡ watch_at d i
        → applied d (post_decided s w i e)
        ≡ first_of (refused d) ((leb n i, WrongNumber i) ∷ (not (is_event Σ e), WrongEvent i) ∷ (leb 32 (watch_at d i).waiting, QueueFull i) ∷ (eqb (counted (watch_at d i)) 4294967295, CountFull i) ∷ [])
        (record { answer = Ok Served.Done; desk = set d i (with_event (watch_at d i) e) })
    post-so i e w q =
        let can : eqb (bit e s.mask) 1 ≡ is_event Σ e = ap (λ (m : ℕ). eqb (bit e m) 1) kept.mask ∙ bits.bits e in
        applied-first d (post_checks s w i e) (addition w i e) ∙ rw (long, can, q)

    -- a turn that hears number i, and one that hears none
    abbrev hearing : ℕ → Outcome
    hearing i = heard_by (opening_in r) d i (ran_in t P S (watch_at d i).state (oldest (watch_at d i) ∷ []))

    abbrev silence : ℕ → Outcome
    silence l = record { answer = Ok (Served.NoneWaits l); desk = d }

    -- where no watch is wrong, one that waits can count an event more
    module _ (sound : ltb (first_wrong Σ S d) n ≡ false) where
      fits-there : (i : ℕ) → i < n → watch_fits Σ S (watch_at d i) ≡ true
      fits-there i l = go (watch_fits Σ S (watch_at d i)) refl ((least-below n (λ k. not (watch_fits Σ S (watch_at d k)))).before i (omega (arith, ltb-false (first_wrong Σ S d) n sound)))
        where
          go : (b : Bool) → watch_fits Σ S (watch_at d i) ≡ b → not b ≡ false → watch_fits Σ S (watch_at d i) ≡ true
          go true e h = e
          go false e h = e ∙ sym h

      can-count : (l : ℕ) → passed d l < n → (watch_at d (after n l (passed d l))).heard < 4294967295
      can-count l p =
          let i : ℕ = after n l (passed d l) in
          let waits : 1 ≤ (watch_at d i).waiting = leb-true 1 (watch_at d i).waiting ((least-below n (λ k. leb 1 (watch_at d (after n l k)).waiting)).here p) in
          let w : Watch = watch_at d i in
          let tests : List Bool = ltb w.state S ∷ leb w.waiting 32 ∷ leb (counted w) 4294967295 ∷ every (map (is_event Σ) (queue w)) ∷ [] in
          let sum : counted w ≤ 4294967295 = leb-true (counted w) 4294967295 (holds tests (fits-there i (mod-lt _ some)) 2) in
          omega arith

    turn-so : ltb (first_wrong Σ S d) n ≡ false → (k l : ℕ) → r ≡ Turn k l → (w : Watch) → w ≡ watch_for d (next_of s)
        → applied d (turn_decided t s w l) ≡ cond (ltb (passed d l) n) (hearing (after n l (passed d l))) (silence l)
    turn-so sound k l e w q = go (dec_lt (passed d l) n)
      where
        go : Dec (passed d l < n) → applied d (turn_decided t s w l) ≡ cond (ltb (passed d l) n) (hearing (after n l (passed d l))) (silence l)
        go (yes p) =
            let i : ℕ = after n l (passed d l) in
            let here : next_of s ≡ Some i = next-so k l e ∙ rw (lt-ltb (passed d l) n p) in
            let is : w ≡ watch_at d i = q ∙ ap (watch_for d) here in
            let can : eqb (bit (oldest w) s.mask) 1 ≡ is_event Σ (oldest w) = ap (λ (m : ℕ). eqb (bit (oldest w) m) 1) kept.mask ∙ bits.bits (oldest w) in
            let run : (Result (Arrival ℕ) Refusal) = ran_in t P S (watch_at d i).state (oldest (watch_at d i) ∷ []) in
            let ran : heard_from t s w i ≡ hear_decided s w i run = heard-so t s w i P S (kept.signals ∙ begun.signals) (kept.states ∙ begun.states) fit can ∙ ap (λ (x : Watch). hear_decided s w i (ran_in t P S x.state (oldest x ∷ []))) is in
            let more : ltb w.heard 4294967295 ≡ true = lt-ltb w.heard 4294967295 (subst (λ (x : Watch). x.heard < 4294967295) (sym is) (can-count sound l p)) in
            rw (lt-ltb (passed d l) n p)
            (ap (λ (o : Option ℕ). applied d (turn_from t s w l o)) here ∙ ap (λ (b : Bool). applied d (cond b (heard_from t s w i) (Err (WrongWatch i)))) more ∙ ap (applied d) ran
            ∙ applied-heard d s w i is run ∙ ap (λ (x : ℕ). heard_by x d i run) own)
        go (no h) =
            let here : next_of s ≡ None = next-so k l e ∙ rw (le-ltb (passed d l) n (omega arith)) in
            rw (le-ltb (passed d l) n (omega arith)) (ap (λ (o : Option ℕ). applied d (turn_from t s w l o)) here)

  table_is : (b : Bool) → counts_fit t P S ≡ b → s.table ≡ b
  table_is b e = kept.table ∙ begun.table ∙ e

  -- 14, 18, 24 and 13, and then what the request comes to
  row-so : (y : Result Service Refusal) (z : Outcome) → (counts_fit t P S ≡ true → row_fits n ≡ true → ltb (first_wrong Σ S d) n ≡ false → applied d y ≡ z)
      → applied d (checked s y) ≡ cond (counts_fit t P S) (first_of (refused d) (desk_checks (opening_in r) Σ S d) z) (refused d WrongTable)
  row-so y z h = go (counts_fit t P S) (row_fits n) refl refl
    where
      go : (b c : Bool) → counts_fit t P S ≡ b → row_fits n ≡ c
          → applied d (checked s y) ≡ cond (counts_fit t P S) (first_of (refused d) (desk_checks (opening_in r) Σ S d) z) (refused d WrongTable)
      go false c e q = rw (table_is false e, e)
      go true false e q = rw (table_is true e, e, long, q)
      go true true e q =
          rw (table_is true e, e, long, q)
          (ap₂ (λ (o p : Option ℕ). applied d (unless WrongOpening o (unless WrongWatch p y))) (foreign-is e q) (wrong-is e q)
          ∙ applied-unless d WrongOpening n (first_foreign (opening_in r) d) _ _ (λ _. applied-unless d WrongWatch n (first_wrong Σ S d) y z (h e q)))

  served-so : (w : Watch) → w ≡ watch_for d (wanted_of s) → applied d (decided_of t s w) ≡ served_in t P S r d
  unfolding post_in post_by turn_in turn_by
  served-so w q = ap (λ (x : Request). applied d (checked s (request_decided t s w x))) asked ∙ go r refl
    where
      asked : s.request ≡ r
      asked = kept.request ∙ begun.request

      wanted : (x : Request) → r ≡ x → w ≡ watch_for d (wanted_by s x)
      wanted x e = q ∙ ap (λ (y : Request). watch_for d (wanted_by s y)) (asked ∙ e)

      own_is : (x : Request) → r ≡ x → (f : ℕ → Outcome) → f (opening_in r) ≡ f (opening_in x)
      own_is x e f = ap (λ (y : Request). f (opening_in y)) e

      go : (x : Request) → r ≡ x → applied d (checked s (request_decided t s w x)) ≡ served_in t P S x d
      go (Post k i e) h = row-so _ _ (λ fit row sound. post-so fit row i e w (wanted (Post k i e) h)) ∙ own_is (Post k i e) h (λ o. post_in o t P S d i e)
      go (Turn k l) h = row-so _ _ (λ fit row sound. turn-so fit row sound k l h w (wanted (Turn k l) h)) ∙ own_is (Turn k l) h (λ o. turn_in o t P S d l)

pub surveyed : (t : List ℕ) (P S : ℕ) (r : Request) (d : List Watch) (s₀ s : Task) (w : Watch) (v : Result Service Refusal)
    → Begun t P S r (length d) s₀ → s ≡ pass_over d s₀.upto s₀ → w ≡ watch_for d (wanted_of s) → v ≡ decided_of t s w → Surveyed t P S r d v
surveyed t P S r d s₀ s w v begun pass e h = record { is = ap (applied d) h ∙ served-so t P S r d s₀ s begun pass w e }
