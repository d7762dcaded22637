-- One event of two recordings, and the pass over all.
--     same-choices          a mask that has exactly the possible events gives their choices
--     joined-refused, joined-heard     of a joined event: none agrees, or the set moves by those that do
--     fault-form, fault-both, hears    of both events: 12, 23, and what the joined one says
--     pass-fault, pass-end             of the pass: the first refusal, and the end
use Rattle.std.proofs.Common.{Result, Ok, Err}
use mathlib.Core.Path.{◌≡◌, refl, sym, ap, ap₂, subst, ◌∙◌}
use mathlib.Core.Logic.{inl, inr}
use mathlib.Core.List.{List, [], ◌∷◌}
use mathlib.Core.Bool.{Bool, true, false, cond, ◌&&◌}
use Prim.Native.Nat.{ℕ, zero, suc, ◌+◌, ◌/◌, ◌^◌, ◌≤◌, ◌<◌}
use native.Mathlib.Omega.{arith}
use native.Mathlib.Numerals.{add-one}
use borrow.Author.Tests.{ltb-true, lt-ltb, leb-true, eqb-true, eq-eqb, ne_eqb}
use lib.Bits.{or_lt}
use lib.Dec.{T, ltb, eqb}
use lib.ListN.{length, get_or, set, take, replicate}
use lib.Seq.{get_or-take, length-take-le}
use Rattle.sequences.specs.Tabulate.{all_below, tabulate, joined}
use Rattle.sequences.proofs.Loops.{tabulate-snoc}
use Rattle.sequences.proofs.Tests.{holds, both}
use Rattle.meaning.specs.Bytes.{bit}
use Rattle.meaning.specs.Traces.{Alphabet, Event, masked}
use Rattle.meaning.specs.Monitors.{keep}
use Rattle.meaning.specs.TableFiles.{alphabet_in, counts_tests, row_at}
use Rattle.meaning.specs.Runs.{in_table, counts_fit}
use Rattle.meaning.specs.Recordings.{lengths_fit, seen_at, knows, join, joined_at, joined_list, agrees, choices, seen_fits, contradict, event_checks}
use Rattle.meaning.specs.declared.Refusal.{Refusal}
use Rattle.meaning.specs.declared.Refusal.TheVariants.{WrongEvent, Contradiction}
use Rattle.meaning.specs.declared.Seen.{Seen}
use Rattle.table_layout.specs.Masks.{MaskIn}
use Rattle.table_layout.proofs.Form.{counts-few, counts_some, row_inside}
use Rattle.state_sets.specs.Sets.{Among, Moved}
use Rattle.completions.specs.Passing.{Cleared, Fault, Steps, Reached, concluded, events_judged}
use Rattle.completions.proofs.Members.{In, in-choices, choices-in}
use Rattle.completions.proofs.Reaching.{cleared-none, cleared_more, fault-at, cleared-all, reached-start, reached-more, concluded-right}
use Rattle.recordings.specs.Hearings.{HearsJoined, Hears}

-- ---- choices

keep_same : (n : ℕ) (f : ℕ → ℕ) (p q : ℕ → Bool) → ((i : ℕ) → i < n → p (f i) ≡ q (f i)) → keep p (tabulate n f) ≡ keep q (tabulate n f)
keep_same zero f p q h = refl
keep_same (suc n) f p q h = rw (h 0 (omega arith), keep_same n (λ i. f (suc i)) p q (λ i l. h (suc i) (omega arith)))

pub same-choices : (t : List ℕ) (P mask : ℕ) (r : Seen) → MaskIn t P mask → choices (masked (2 ^ P) mask) P r ≡ choices (alphabet_in t P) P r
same-choices t P mask r h = ap (λ (l : List ℕ). keep (agrees P r) l) (keep_same (2 ^ P) (λ i. i) (λ e. eqb (bit e mask) 1) (alphabet_in t P).possible at)
  where
    at : (e : ℕ) → e < 2 ^ P → eqb (bit e mask) 1 ≡ (alphabet_in t P).possible e
    at e l = h.bits e ∙ ap (λ (b : Bool). b && (alphabet_in t P).possible e) (lt-ltb e (2 ^ P) l)

-- the events of a list, by index
in-among : (l : List ℕ) (e : ℕ) → In e l → Among (length l) l e
in-among [] e i = elim i [ ]
in-among (x ∷ l) e (inl q) = (0, omega arith, sym q)
in-among (x ∷ l) e (inr h) = let k = in-among l e h in (suc k.0, omega (arith, k.1), k.2)

among_in : (l : List ℕ) (k e : ℕ) → k < length l → get_or l k 0 ≡ e → In e l
among_in [] k e h q = absurd (omega arith)
among_in (x ∷ l) zero e h q = inl (sym q)
among_in (x ∷ l) (suc k) e h q = inr (among_in l k e (omega arith) q)

-- ---- a joined event

module _ (t : List ℕ) (P S : ℕ) (r : Seen) (mask n : ℕ) (es : List ℕ) (h : MaskIn t P mask) (long : length es ≡ 16) (few : n ≤ 16) (is : take n es ≡ choices (masked (2 ^ P) mask) P r) where
  chosen-are : take n es ≡ choices (alphabet_in t P) P r
  chosen-are = is ∙ same-choices t P mask r h

  counted : length (choices (alphabet_in t P) P r) ≡ n
  counted = ap length (sym chosen-are) ∙ length-take-le n es (omega (arith, long, few))

  pub joined-refused : n < 1 → length (choices (alphabet_in t P) P r) ≡ 0
  joined-refused l = counted ∙ omega arith

  pub joined-some : 1 ≤ n → 1 ≤ length (choices (alphabet_in t P) P r)
  joined-some l = omega (arith, counted, l)

  pub joined-heard : (old new : List Bool) (ok : Bool) → 1 ≤ n → Moved t P S n es S old new ok → Steps t P S r old new ok
  joined-heard old new ok l m = record { count = n; events = es; some = l; chosen = chosen; all = all; moved = m }
    where
      chosen : (e : ℕ) → Among n es e → Event (alphabet_in t P) e × T (agrees P r e)
      chosen e (k, b, q) =
          choices-in (alphabet_in t P) P r e
          (subst (λ (l : List ℕ). In e l) chosen-are (among_in (take n es) k e (omega (arith, b, length-take-le n es (omega (arith, long, few)))) (get_or-take n es k 0 b ∙ q)))

      all : (e : ℕ) → Event (alphabet_in t P) e → T (agrees P r e) → Among n es e
      all e c a =
          let i = in-among (take n es) e (subst (λ (l : List ℕ). In e l) (sym chosen-are) (in-choices (alphabet_in t P) P r e c a)) in
          let b : i.0 < n = omega (arith, i.1, length-take-le n es (omega (arith, long, few))) in
          (i.0, b, sym (get_or-take n es i.0 0 b) ∙ i.2)

-- ---- both events

module _ (Σ : Alphabet) (P : ℕ) (a b : List ℕ) (i : ℕ) where
  abbrev fit : Bool
  fit = seen_fits P (seen_at a i) && seen_fits P (seen_at b i)

  pub fault-form : fit ≡ false → Fault (event_checks Σ P a b i) (WrongEvent i)
  fault-form h = record { is = λ z. rw h }

  pub fault-both : fit ≡ true → contradict P (seen_at a i) (seen_at b i) ≡ true → Fault (event_checks Σ P a b i) (Contradiction i)
  fault-both h k = record { is = λ z. rw (h, k) }

  fault-none : fit ≡ true → contradict P (seen_at a i) (seen_at b i) ≡ false → length (choices Σ P (joined_at a b i)) ≡ 0 → Fault (event_checks Σ P a b i) (WrongEvent i)
  fault-none h k l = record { is = λ z. rw (h, k, eq-eqb (length (choices Σ P (joined_at a b i))) 0 l) }

  clear : fit ≡ true → contradict P (seen_at a i) (seen_at b i) ≡ false → 1 ≤ length (choices Σ P (joined_at a b i)) → Cleared (event_checks Σ P a b i)
  clear h k l = record { is = λ z. rw (h, k, ne_eqb (length (choices Σ P (joined_at a b i))) 0 (λ q. omega (arith, q, l))) }

pub hears : (t : List ℕ) (P S : ℕ) (a b : List ℕ) (i : ℕ) (old new : List Bool) (r : Result Bool Refusal) → fit (alphabet_in t P) P a b i ≡ true → contradict P (seen_at a i) (seen_at b i) ≡ false
    → HearsJoined t P S (joined_at a b i) i old new r → Hears t P S a b i old new r
hears t P S a b i old new (Ok ok) h k (l, s) = (clear (alphabet_in t P) P a b i h k l, s)
hears t P S a b i old new (Err x) h k (l, e) = subst (λ (y : Refusal). Fault (event_checks (alphabet_in t P) P a b i) y) (sym e) (fault-none (alphabet_in t P) P a b i h k l)

-- what was read and tested, said of the recordings
pub fit_is : (P : ℕ) (a b : List ℕ) (i : ℕ) (r q : Seen) (x y : Bool) → r ≡ seen_at a i → q ≡ seen_at b i → x ≡ seen_fits P r → y ≡ seen_fits P q
    → (seen_fits P (seen_at a i) && seen_fits P (seen_at b i)) ≡ (x && y)
fit_is P a b i r q x y e f k l = ap₂ (λ (c d : Bool). c && d) (sym (k ∙ ap (seen_fits P) e)) (sym (l ∙ ap (seen_fits P) f))

pub contra-is : (P : ℕ) (a b : List ℕ) (i : ℕ) (r q : Seen) (x : Bool) → r ≡ seen_at a i → q ≡ seen_at b i → x ≡ contradict P r q → contradict P (seen_at a i) (seen_at b i) ≡ x
contra-is P a b i r q x e f k = sym (k ∙ ap₂ (contradict P) e f)

-- an event that fits has no bit too high, and neither has the join of two
pub known-low : (P : ℕ) (r q : Seen) → seen_fits P r ≡ true → seen_fits P q ≡ true → (join r q).known < 2 ^ P
known-low P r q h k = or_lt P r.known q.known (low r h) (low q k)
  where
    low : (s : Seen) → seen_fits P s ≡ true → s.known < 2 ^ P
    low s f = ltb-true s.known (2 ^ P) (holds (ltb s.known (2 ^ P) ∷ ltb s.values (2 ^ P) ∷ all_below P (λ k. cond (knows s k) true (eqb (bit k s.values) 0)) ∷ []) f 0)

-- ---- the pass

module _ (t : List ℕ) (P S : ℕ) (a b : List ℕ) where
  -- the checks that are passed, and the states that are reached, after i events
  pub record Passed (i : ℕ) (inside : Bool) (members : List Bool) : Type 0 where
    pub cleared : Cleared (joined i (event_checks (alphabet_in t P) P a b))
    pub reached : Reached t P S (tabulate i (joined_at a b)) inside members

  pub passed-more : (i : ℕ) (inside ok : Bool) (old new : List Bool) → Passed i inside old → Cleared (event_checks (alphabet_in t P) P a b i) × Steps t P S (joined_at a b i) old new ok
      → Passed (i + 1) (inside && ok) new
  passed-more i inside ok old new h k = record {
    cleared = cleared_more (event_checks (alphabet_in t P) P a b) i h.cleared k.0;
    reached =
        subst (λ (rs : List Seen). Reached t P S rs (inside && ok) new) (sym (tabulate-snoc i (joined_at a b)) ∙ ap (λ (n : ℕ). tabulate n (joined_at a b)) (sym (add-one i)))
        (reached-more t P S (tabulate i (joined_at a b)) (joined_at a b i) old new inside ok h.reached k.1);
  }

  pub passed_none : Passed 0 (in_table t P S 0) (set (replicate 256 false) 0 true)
  passed_none = record { cleared = cleared-none (event_checks (alphabet_in t P) P a b); reached = reached-start t P S }

  -- an event is refused
  pub pass-fault : (i : ℕ) (inside : Bool) (members : List Bool) (x : Refusal) → Passed i inside members → i < length a / 2 → Fault (event_checks (alphabet_in t P) P a b i) x
      → Err x ≡ events_judged t P S a b
  unfolding events_judged
  pass-fault i inside members x h l k = sym ((fault-at (event_checks (alphabet_in t P) P a b) (length a / 2) i x h.cleared k l).is _)

  -- the end
  pub pass-end : (i : ℕ) (inside : Bool) (members : List Bool) → Passed i inside members → i ≡ length a / 2 → concluded t P S members inside ≡ events_judged t P S a b
  unfolding events_judged
  pass-end i inside members h e =
      let all = cleared-all (event_checks (alphabet_in t P) P a b) i (length a / 2) h.cleared e in
      let reached : Reached t P S (joined_list a b) inside members = subst (λ (n : ℕ). Reached t P S (tabulate n (joined_at a b)) inside members) e h.reached in
      concluded-right t P S (joined_list a b) inside members reached ∙ sym (all.is _)

  -- what counts and lengths that fit tell
  pub record Given : Type 0 where
    pub few : P ≤ 4
    pub states : S ≤ 256
    pub first-row : row_at P 1 ≤ length t
    pub even : length a ≡ length b

  pub given : counts_fit t P S ≡ true → lengths_fit a b ≡ true → Given
  given h k = record {
    few = counts-few t P S h;
    states = leb-true S 256 (holds (counts_tests t P S) h 3);
    first-row = row_inside t P S h 0 (omega (arith, counts_some t P S h));
    even = eqb-true (length a) (length b) (both (eqb (length a) (length b)) _ k).0;
  }
