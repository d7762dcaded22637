-- The laws of joining.
--     symmetric          the two recordings may be exchanged
--     join-agrees        an event agrees with the join exactly if it agrees with both
--     complete-run       with nothing unknown the answer is the run's verdict
--     more-knowledge     recordings that know more do not take a verdict other than undecided back
--     empty-start        recordings of no event show the start's verdict
use mathlib.Core.Path.{◌≡◌, refl, sym, ap, ap₂, subst, ◌∙◌}
use mathlib.Core.List.{List, [], ◌∷◌, ◌++◌}
use mathlib.Core.Bool.{Bool, true, false, cond, not, ◌&&◌}
use Prim.Native.Nat.{ℕ, zero, suc, ◌/◌, ◌%◌, ◌^◌, ◌<◌}
use native.Mathlib.Omega.{arith}
use borrow.Author.Tests.{eqb-true, eq-eqb, ne_eqb, not-false, ltb-true}
use lib.Bits.{bit_or, or_comm, or_shr, or_mod, or_lt}
use lib.Dec.{T, eqb, ltb}
use lib.ListN.{length}
use Rattle.sequences.specs.Tabulate.{all_below, tabulate, joined}
use Rattle.sequences.proofs.Loops.{all-at}
use Rattle.sequences.proofs.Pointwise.{all_same, all-is, is_true, tabulate-same}
use Rattle.sequences.proofs.Tests.{holds, never, both}
use Rattle.meaning.specs.Bytes.{bit}
use Rattle.meaning.specs.Traces.{Alphabet, Event}
use Rattle.meaning.specs.Monitors.{Monitor, follow}
use Rattle.meaning.specs.RuleFiles.{first_of}
use Rattle.meaning.specs.TableFiles.{is_table, alphabet_in, signals_in, monitor_of}
use Rattle.meaning.specs.Runs.{decides, run_of}
use Rattle.meaning.specs.Recordings.{seen_at, knows, join, joined_at, joined_list, agrees, Completion, completions, all_end, verdict_over, lengths_fit, seen_fits, contradict, event_checks, judged_of}
use Rattle.meaning.specs.declared.Verdict.{Verdict}
use Rattle.meaning.specs.declared.Verdict.TheVariants.{Undecided, Satisfied, Violated, Moot}
use Rattle.meaning.specs.declared.Refusal.{Refusal}
use Rattle.meaning.specs.declared.Refusal.TheVariants.{WrongTable, WrongRecordings}
use Rattle.meaning.specs.declared.Seen.{Seen}
use Rattle.recorded_events.proofs.Laws.{digit, same_bits}
use Rattle.recording_laws.specs.Laws.{EndsWith, NothingUnknown, recorded_events, KnowsMore, Richer}
use Rattle.recording_laws.proofs.Unrefused.{Unrefused, unrefused}
use Rattle.recording_laws.proofs.Answers.{completion, ends_with, answer_is, answer-ends}
use Rattle.std.proofs.Common.{Result, Ok, Err}

and_comm : (x y : Bool) → (x && y) ≡ (y && x)
and_comm true true = refl
and_comm true false = refl
and_comm false true = refl
and_comm false false = refl

-- ---- exchanged

eqb_comm : (x y : ℕ) → eqb x y ≡ eqb y x
eqb_comm x y = go (eqb x y) refl
  where
    go : (c : Bool) → eqb x y ≡ c → eqb x y ≡ eqb y x
    go true e = e ∙ sym (eq-eqb y x (sym (eqb-true x y e)))
    go false e = e ∙ sym (ne_eqb y x (λ q. never (sym (eq-eqb x y (sym q)) ∙ e)))

contradict-comm : (P : ℕ) (r q : Seen) → contradict P r q ≡ contradict P q r
contradict-comm P r q =
    ap not
    (all_same P _ _ (λ s l. ap₂ (λ (x y : Bool). cond x y true) (and_comm (knows r s) (knows q s)) (eqb_comm (bit s r.values) (bit s q.values))))

join-comm : (r q : Seen) → join r q ≡ join q r
join-comm r q = ap₂ (λ (k v : ℕ). record { known = k; values = v }) (or_comm r.known q.known) (or_comm r.values q.values)

joined_same : (n : ℕ) (f g : ℕ → List (Bool × Refusal)) → ((i : ℕ) → f i ≡ g i) → joined n f ≡ joined n g
joined_same zero f g h = refl
joined_same (suc n) f g h = ap₂ (λ (x y : List (Bool × Refusal)). x ++ y) (joined_same n f g h) (h n)

checks-comm : (Σ : Alphabet) (P : ℕ) (a b : List ℕ) (i : ℕ) → event_checks Σ P a b i ≡ event_checks Σ P b a i
checks-comm Σ P a b i =
    rw (and_comm (seen_fits P (seen_at a i)) (seen_fits P (seen_at b i)), contradict-comm P (seen_at a i) (seen_at b i), join-comm (seen_at a i) (seen_at b i))

lengths-comm : (a b : List ℕ) → lengths_fit a b ≡ lengths_fit b a
lengths-comm a b = go (eqb (length a) (length b)) refl
  where
    go : (c : Bool) → eqb (length a) (length b) ≡ c → lengths_fit a b ≡ lengths_fit b a
    go true e = let q = eqb-true (length a) (length b) e in ap₂ (λ (x y : Bool). x && y) (eqb_comm (length a) (length b)) (ap (λ (n : ℕ). eqb (n % 2) 0) q)
    go false e = rw (e, eqb_comm (length b) (length a), e)

module _ (t : List ℕ) where
  abbrev Σ : Alphabet
  Σ = alphabet_in t (signals_in t)

  abbrev answered : Bool → List (Bool × Refusal) → List Seen → Result Verdict Refusal
  answered fit cs rs =
      cond (is_table t)
      (first_of Err ((not fit, WrongRecordings) ∷ cs) (Ok (verdict_over (monitor_of t) (completions Σ (signals_in t) rs))))
      (Err WrongTable)

  answered-so : (a b : List ℕ) → judged_of t a b ≡ answered (lengths_fit a b) (joined (length a / 2) (event_checks Σ (signals_in t) a b)) (joined_list a b)
  unfolding judged_of
  answered-so a b = refl

  -- recordings of different lengths are refused before their events
  answered-none : (cs ds : List (Bool × Refusal)) (rs qs : List Seen) → answered false cs rs ≡ answered false ds qs
  answered-none cs ds rs qs = refl

  -- whatever the bytes and the recordings, refusals included
  pub symmetric : (a b : List ℕ) → judged_of t a b ≡ judged_of t b a
  symmetric a b = answered-so a b ∙ go (eqb (length a) (length b)) refl ∙ sym (answered-so b a)
    where
      go : (c : Bool) → eqb (length a) (length b) ≡ c → answered (lengths_fit a b) (joined (length a / 2) (event_checks Σ (signals_in t) a b)) (joined_list a b)
          ≡ answered (lengths_fit b a) (joined (length b / 2) (event_checks Σ (signals_in t) b a)) (joined_list b a)
      go true e =
          let q = eqb-true (length a) (length b) e in
          let same : joined (length a / 2) (event_checks Σ (signals_in t) a b) ≡ joined (length b / 2) (event_checks Σ (signals_in t) b a) =
          joined_same (length a / 2) (event_checks Σ (signals_in t) a b) (event_checks Σ (signals_in t) b a) (λ i. checks-comm Σ (signals_in t) a b i)
          ∙ ap (λ (n : ℕ). joined (n / 2) (event_checks Σ (signals_in t) b a)) q in
          let all : joined_list a b ≡ joined_list b a =
          tabulate-same (length a / 2) (joined_at a b) (joined_at b a) (λ i l. join-comm (seen_at a i) (seen_at b i)) ∙ ap (λ (n : ℕ). tabulate (n / 2) (joined_at b a)) q in
          ap (λ (f : Bool). answered f (joined (length a / 2) (event_checks Σ (signals_in t) a b)) (joined_list a b)) (lengths-comm a b)
          ∙ ap₂ (λ (cs : List (Bool × Refusal)) (rs : List Seen). answered (lengths_fit b a) cs rs) same all
      go false e =
          let no : lengths_fit a b ≡ false = rw e in
          let no' : lengths_fit b a ≡ false = sym (lengths-comm a b) ∙ no in
          ap (λ (f : Bool). answered f (joined (length a / 2) (event_checks Σ (signals_in t) a b)) (joined_list a b)) no
          ∙ answered-none (joined (length a / 2) (event_checks Σ (signals_in t) a b)) (joined (length b / 2) (event_checks Σ (signals_in t) b a)) (joined_list a b) (joined_list b a)
          ∙ sym (ap (λ (f : Bool). answered f (joined (length b / 2) (event_checks Σ (signals_in t) b a)) (joined_list b a)) no')

-- ---- the join, signal by signal

or-bit : (s x y : ℕ) → bit s (bit_or x y) ≡ bit_or (bit s x) (bit s y)
or-bit s x y = ap (λ (n : ℕ). n % 2) (or_shr x y s) ∙ or_mod (x / 2 ^ s) (y / 2 ^ s) 1

-- one signal: a and b say who knows it, c and d with which value, and e is the event's
abbrev One : ℕ → ℕ → ℕ → ℕ → ℕ → Type 0
One a b c d e =
    cond (eqb a 1) true (eqb c 0) ≡ true → cond (eqb b 1) true (eqb d 0) ≡ true → cond (eqb a 1 && eqb b 1) (eqb c d) true ≡ true
    → cond (eqb (bit_or a b) 1) (eqb e (bit_or c d)) true ≡ (cond (eqb a 1) (eqb e c) true && cond (eqb b 1) (eqb e d) true)

one_known : (a b c d : ℕ) → One a b c d 0 → One a b c d 1 → (s e : ℕ) → One a b c d (bit s e)
one_known a b c d p q s e = digit (λ x. One a b c d x) p q s e

-- nobody knows it, the first alone, the second alone, both
one-signal : (s x y v w e : ℕ) → One (bit s x) (bit s y) (bit s v) (bit s w) (bit s e)
one-signal s x y v w e =
    digit (λ a. One a (bit s y) (bit s v) (bit s w) (bit s e))
    (digit (λ b. One 0 b (bit s v) (bit s w) (bit s e))
    (λ p q r. refl)
    (digit (λ c. One 0 1 c (bit s w) (bit s e)) (digit (λ d. One 0 1 0 d (bit s e)) (λ p q r. refl) (λ p q r. refl) s w) (λ p q r. never (sym p)) s v)
    s y)
    (digit (λ b. One 1 b (bit s v) (bit s w) (bit s e))
    (digit (λ d. One 1 0 (bit s v) d (bit s e)) (digit (λ c. One 1 0 c 0 (bit s e)) (digit (One 1 0 0 0) (λ p q r. refl) (λ p q r. refl) s e) (digit (One 1 0 1 0) (λ p q r. refl) (λ p q r. refl) s e) s v) (λ p q r. never (sym q)) s w)
    (digit (λ c. One 1 1 c (bit s w) (bit s e))
    (digit (λ d. One 1 1 0 d (bit s e)) (digit (One 1 1 0 0) (λ p q r. refl) (λ p q r. refl) s e) (λ p q r. never (sym r)) s w)
    (digit (λ d. One 1 1 1 d (bit s e)) (λ p q r. never (sym r)) (digit (One 1 1 1 1) (λ p q r. refl) (λ p q r. refl) s e) s w)
    s v)
    s y)
    s x

all_both : (n : ℕ) (f g h : ℕ → Bool) → ((i : ℕ) → i < n → f i ≡ (g i && h i)) → all_below n f ≡ (all_below n g && all_below n h)
all_both zero f g h k = refl
all_both (suc n) f g h k =
    ap₂ (λ (x y : Bool). cond x y false) (k 0 (omega arith)) (all_both n (λ i. f (suc i)) (λ i. g (suc i)) (λ i. h (suc i)) (λ i l. k (suc i) (omega arith)))
    ∙ sort (g 0) (h 0) (all_below n (λ i. g (suc i))) (all_below n (λ i. h (suc i)))
  where
    sort : (a b c d : Bool) → cond (a && b) (c && d) false ≡ (cond a c false && cond b d false)
    sort true true c d = refl
    sort true false true d = refl
    sort true false false d = refl
    sort false b c d = refl

module _ (P : ℕ) (r : Seen) where
  abbrev tests : List Bool
  tests = ltb r.known (2 ^ P) ∷ ltb r.values (2 ^ P) ∷ all_below P (λ s. cond (knows r s) true (eqb (bit s r.values) 0)) ∷ []

  fits-values : seen_fits P r ≡ true → r.values < 2 ^ P
  fits-values h = ltb-true r.values (2 ^ P) (holds tests h 1)

  fits-at : seen_fits P r ≡ true → (s : ℕ) → s < P → cond (knows r s) true (eqb (bit s r.values) 0) ≡ true
  fits-at h s l = all-at P (λ k. cond (knows r k) true (eqb (bit k r.values) 0)) (holds tests h 2) s l

-- "each filling the other's gaps"
pub join-agrees : (P : ℕ) (r q : Seen) (e : ℕ) → seen_fits P r ≡ true → seen_fits P q ≡ true → contradict P r q ≡ false → agrees P (join r q) e ≡ (agrees P r e && agrees P q e)
join-agrees P r q e h k n =
    all_both P _ (λ s. cond (knows r s) (eqb (bit s e) (bit s r.values)) true) (λ s. cond (knows q s) (eqb (bit s e) (bit s q.values)) true)
    (λ s l.
    ap₂ (λ (x y : ℕ). cond (eqb x 1) (eqb (bit s e) y) true) (or-bit s r.known q.known) (or-bit s r.values q.values)
    ∙ one-signal s r.known q.known r.values q.values e (fits-at P r h s l) (fits-at P q k s l) (all-at P (λ i. cond (knows r i && knows q i) (eqb (bit i r.values) (bit i q.values)) true) (not-false _ n) s l))

-- ---- completions compared

yes-it : (b : Bool) → b ≡ true → T b
yes-it true e = tt
yes-it false e = never (sym e)

module _ (Σ : Alphabet) (P : ℕ) where
  -- what agrees with one agrees with the other
  completion-mono : (n : ℕ) (f g : ℕ → Seen) → ((i : ℕ) → i < n → (e : ℕ) → agrees P (f i) e ≡ true → agrees P (g i) e ≡ true) → (w : List ℕ)
      → Completion Σ P (tabulate n f) w → Completion Σ P (tabulate n g) w
  completion-mono zero f g h [] c = tt
  completion-mono zero f g h (e ∷ w) c = absurd c
  completion-mono (suc n) f g h [] c = absurd c
  completion-mono (suc n) f g h (e ∷ w) c =
      (c.0, yes-it (agrees P (g 0) e) (h 0 (omega arith) e (is_true (agrees P (f 0) e) c.1)), completion-mono n (λ i. f (suc i)) (λ i. g (suc i)) (λ i l. h (suc i) (omega arith)) w c.2)

  -- only one event agrees with each
  completion-one : (n : ℕ) (f : ℕ → Seen) (x : ℕ → ℕ) → ((i : ℕ) → i < n → (e : ℕ) → Event Σ e → agrees P (f i) e ≡ true → e ≡ x i) → (w : List ℕ)
      → Completion Σ P (tabulate n f) w → w ≡ tabulate n x
  completion-one zero f x h [] c = refl
  completion-one zero f x h (e ∷ w) c = absurd c
  completion-one (suc n) f x h [] c = absurd c
  completion-one (suc n) f x h (e ∷ w) c =
      ap₂ (λ (d : ℕ) (v : List ℕ). d ∷ v) (h 0 (omega arith) e c.0 (is_true (agrees P (f 0) e) c.1)) (completion-one n (λ i. f (suc i)) (λ i. x (suc i)) (λ i l. h (suc i) (omega arith)) w c.2)

-- ---- nothing unknown

no-decision : (v : Verdict) → decides v ≡ false → (u : Verdict) → decides u ≡ false → v ≡ u
no-decision Undecided p Undecided q = refl
no-decision Undecided p Satisfied q = never q
no-decision Undecided p Violated q = never q
no-decision Undecided p Moot q = never q
no-decision Satisfied p u q = never p
no-decision Violated p u q = never p
no-decision Moot p u q = never p

module _ (t a b : List ℕ) (v : Verdict) (h : judged_of t a b ≡ Ok v) where
  abbrev P : ℕ
  P = signals_in t

  right : Unrefused t a b v
  right = unrefused t a b v h

  each_fits : (i : ℕ) → i < length a / 2 → (seen_fits P (seen_at a i) ≡ true) × (seen_fits P (seen_at b i) ≡ true)
  each_fits i l = both (seen_fits P (seen_at a i)) (seen_fits P (seen_at b i)) (right.fits i l)

  -- an event agrees with the joined one exactly if it agrees with both
  pub agrees-both : (i : ℕ) → i < length a / 2 → (e : ℕ) → agrees P (joined_at a b i) e ≡ (agrees P (seen_at a i) e && agrees P (seen_at b i) e)
  agrees-both i l e = let f = each_fits i l in join-agrees P (seen_at a i) (seen_at b i) e f.0 f.1 (right.agree i l)

  module _ (k : NothingUnknown P a b) where
    the-event : (i : ℕ) → i < length a / 2 → (e : ℕ) → Event (Σ t) e → agrees P (joined_at a b i) e ≡ true → e ≡ (joined_at a b i).values
    the-event i l e c g =
        let f = each_fits i l in
        let low = or_lt P (seen_at a i).values (seen_at b i).values (fits-values P (seen_at a i) f.0) (fits-values P (seen_at b i) f.1) in
        let x = (joined_at a b i).values in
        let same : all_below P (λ s. eqb (bit s e) (bit s x)) ≡ true =
        all-is P (λ s. eqb (bit s e) (bit s x))
        (λ s m. sym (ap (λ (z : Bool). cond z (eqb (bit s e) (bit s x)) true) (k i l s m)) ∙ all-at P (λ j. cond (knows (joined_at a b i) j) (eqb (bit j e) (bit j x)) true) g s m) in
        eqb-true e x (sym (same_bits P e x c.0 low) ∙ same)

    all_one : (w : List ℕ) → Completion (Σ t) P (joined_list a b) w → w ≡ recorded_events a b
    all_one w c = completion-one (Σ t) P (length a / 2) (joined_at a b) (λ i. (joined_at a b i).values) the-event w c

    recorded : Completion (Σ t) P (joined_list a b) (recorded_events a b)
    recorded = let w = completion t a b v right in subst (λ (x : List ℕ). Completion (Σ t) P (joined_list a b) x) (all_one w.0 w.1) w.1

    abbrev shown : Verdict
    shown = (monitor_of t).verdict (follow (monitor_of t) 0 (recorded_events a b))

    shown-is : (c : Bool) → decides shown ≡ c → (d : Bool) → decides v ≡ d → shown ≡ v
    shown-is true p d q = sym (answer_is t a b v right shown p (λ w c. ap (λ (x : List ℕ). (monitor_of t).verdict (follow (monitor_of t) 0 x)) (all_one w c)))
    shown-is false p true q = answer-ends t a b v right q (recorded_events a b) recorded
    shown-is false p false q = no-decision shown p v q

    pub complete-run : EndsWith (run_of t 0 (recorded_events a b)) v
    complete-run = ends_with t a b v right v (recorded_events a b) recorded (shown-is (decides shown) refl (decides v) refl)

-- ---- more knowledge

agree_less : (P : ℕ) (r q : Seen) → KnowsMore P r q → (e : ℕ) → agrees P q e ≡ true → agrees P r e ≡ true
agree_less P r q k e h = all-is P (λ s. cond (knows r s) (eqb (bit s e) (bit s r.values)) true) (λ s l. at s l (knows r s) refl)
  where
    at : (s : ℕ) → s < P → (b : Bool) → knows r s ≡ b → cond b (eqb (bit s e) (bit s r.values)) true ≡ true
    at s l false p = refl
    at s l true p =
        let m = k s l p in
        let y : eqb (bit s e) (bit s q.values) ≡ true = sym (ap (λ (z : Bool). cond z (eqb (bit s e) (bit s q.values)) true) m.0) ∙ all-at P (λ i. cond (knows q i) (eqb (bit i e) (bit i q.values)) true) h s l in
        ap (λ (x : ℕ). eqb (bit s e) x) m.1 ∙ y

module _ (t a b a' b' : List ℕ) (v u : Verdict) (h : judged_of t a b ≡ Ok v) (h' : judged_of t a' b' ≡ Ok u) (m : Richer (signals_in t) a a') (m' : Richer (signals_in t) b b') where
  same_length : length b ≡ length a
  same_length = sym (eqb-true (length a) (length b) (both (eqb (length a) (length b)) (eqb (length a % 2) 0) (unrefused t a b v h).lengths).0)

  poorer : (i : ℕ) → i < length a' / 2 → (e : ℕ) → agrees (signals_in t) (joined_at a' b' i) e ≡ true → agrees (signals_in t) (joined_at a b i) e ≡ true
  poorer i l e g =
      let k : i < length a / 2 = subst (λ (n : ℕ). i < n / 2) (sym m.long) l in
      let k' : i < length b / 2 = subst (λ (n : ℕ). i < n / 2) (sym same_length) k in
      let x = both (agrees (signals_in t) (seen_at a' i) e) (agrees (signals_in t) (seen_at b' i) e) (sym (agrees-both t a' b' u h' i l e) ∙ g) in
      let y = agree_less (signals_in t) (seen_at a i) (seen_at a' i) (m.more i k) e x.0 in
      let z = agree_less (signals_in t) (seen_at b i) (seen_at b' i) (m'.more i k') e x.1 in
      agrees-both t a b v h i k e ∙ rw (y, z)

  -- "more knowledge never takes a verdict other than undecided back"
  pub more-knowledge : decides v ≡ true → u ≡ v
  more-knowledge d =
      answer_is t a' b' u (unrefused t a' b' u h') v d
      (λ w c. answer-ends t a b v (unrefused t a b v h) d w
      (subst (λ (n : ℕ). Completion (Σ t) (signals_in t) (tabulate (n / 2) (joined_at a b)) w) (sym m.long)
      (completion-mono (Σ t) (signals_in t) (length a' / 2) (joined_at a' b') (joined_at a b) poorer w c)))

-- ---- nothing recorded

over-one : (m : Monitor) (v : Verdict) → m.verdict 0 ≡ v → verdict_over m ([] ∷ []) ≡ v
unfolding all_end
over-one m Undecided e = rw e
over-one m Satisfied e = rw e
over-one m Violated e = rw e
over-one m Moot e = rw e

-- whose one completion is the empty list
pub empty-start : (t : List ℕ) → is_table t ≡ true → judged_of t [] [] ≡ Ok ((monitor_of t).verdict 0)
unfolding judged_of completions
empty-start t h = rw h (ap Ok (over-one (monitor_of t) ((monitor_of t).verdict 0) refl))
