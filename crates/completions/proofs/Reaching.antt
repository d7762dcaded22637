-- The pass over two recordings, event by event.
--     cleared-none, -more, fault-at, cleared-all     its checks
--     reached-start, -more                           the states that completions reach
--     concluded-right                                what they tell at the end
use mathlib.Core.Path.{◌≡◌, refl, sym, ap, subst, ◌∙◌}
use mathlib.Core.List.{List, [], ◌∷◌, ◌++◌, map}
use mathlib.Core.Bool.{Bool, true, false, cond, ◌&&◌}
use Prim.Native.Nat.{ℕ, zero, suc, ◌+◌, ◌≤◌, ◌<◌}
use native.Mathlib.Omega.{arith}
use native.Mathlib.Numerals.{add-one}
use native.Mathlib.Decide.{dec_lt}
use borrow.Author.Tests.{ltb-true, leb-true}
use lib.Dec.{ltb, leb, eqb}
use lib.ListN.{length, get_or, set, replicate}
use Rattle.sequences.specs.Tabulate.{every, joined}
use Rattle.sequences.proofs.Loops.{all-at}
use Rattle.sequences.proofs.Pointwise.{all-is}
use Rattle.sequences.proofs.Tests.{never, both}
use Rattle.meaning.specs.Traces.{Alphabet}
use Rattle.meaning.specs.Monitors.{Monitor, follow}
use Rattle.meaning.specs.RuleFiles.{first_of}
use Rattle.meaning.specs.TableFiles.{alphabet_in, monitor_in, successor, verdict_byte, verdict_of, verdict_number}
use Rattle.meaning.specs.Runs.{in_table, on_table}
use Rattle.meaning.specs.Recordings.{Completion, completions, all_end, verdict_over}
use Rattle.meaning.specs.declared.Verdict.{Verdict}
use Rattle.meaning.specs.declared.Verdict.TheVariants.{Satisfied, Violated, Moot}
use Rattle.meaning.specs.declared.Refusal.{Refusal}
use Rattle.meaning.specs.declared.Refusal.TheVariants.{WrongTable}
use Rattle.meaning.specs.declared.Seen.{Seen}
use Rattle.moore.proofs.Words.{follow-append}
use Rattle.table_run.proofs.Answers.{on-end}
use Rattle.state_sets.specs.Sets.{Has, Among, shows_byte, all_show}
use Rattle.completions.specs.Passing.{Cleared, Fault, Steps, Reached, concluded}
use Rattle.completions.proofs.Members.{Last, completion-snoc, completion-unsnoc, all-complete, complete-all, not-all}
use Rattle.std.proofs.Common.{Result, Ok, Err}

-- ---- checks

first-append : (cs ds : List (Bool × Refusal)) (z : Result Verdict Refusal) → first_of Err (cs ++ ds) z ≡ first_of Err cs (first_of Err ds z)
first-append [] ds z = refl
first-append (c ∷ cs) ds z = ap (λ (r : Result Verdict Refusal). cond c.0 (Err c.1) r) (first-append cs ds z)

module _ (f : ℕ → List (Bool × Refusal)) where
  pub cleared-none : Cleared (joined 0 f)
  cleared-none = record { is = λ z. refl }

  pub cleared_more : (i : ℕ) → Cleared (joined i f) → Cleared (f i) → Cleared (joined (i + 1) f)
  cleared_more i h k = record { is = λ z. ap (λ (n : ℕ). first_of Err (joined n f) z) (add-one i) ∙ first-append (joined i f) (f i) z ∙ h.is (first_of Err (f i) z) ∙ k.is z }

  -- the checks up to the one with index i, which refuses, and those behind it
  up_to : (n i : ℕ) (x : Refusal) (z : Result Verdict Refusal) → Cleared (joined i f) → Fault (f i) x → i < n → first_of Err (joined n f) z ≡ Err x
  up_to zero i x z h k l = absurd (omega arith)
  up_to (suc n) i x z h k l = first-append (joined n f) (f n) z ∙ go (dec_lt i n) (λ m. up_to n i x (first_of Err (f n) z) h k m)
    where
      go : Dec (i < n) → (i < n → first_of Err (joined n f) (first_of Err (f n) z) ≡ Err x)
          → first_of Err (joined n f) (first_of Err (f n) z) ≡ Err x
      go (yes m) more = more m
      go (no m) more = let e : i ≡ n = omega arith in subst (λ (j : ℕ). first_of Err (joined j f) (first_of Err (f j) z) ≡ Err x) e (h.is (first_of Err (f i) z) ∙ k.is z)

  pub fault-at : (n i : ℕ) (x : Refusal) → Cleared (joined i f) → Fault (f i) x → i < n → Fault (joined n f) x
  fault-at n i x h k l = record { is = λ z. up_to n i x z h k l }

  pub cleared-all : (i n : ℕ) → Cleared (joined i f) → i ≡ n → Cleared (joined n f)
  cleared-all i n h e = subst (λ (k : ℕ). Cleared (joined k f)) e h

-- ---- states

module _ (t : List ℕ) (P S : ℕ) where
  abbrev Σ : Alphabet
  Σ = alphabet_in t P

  abbrev m : Monitor
  m = monitor_in t P S

  -- one event more
  follow-snoc : (w : List ℕ) (e : ℕ) → follow m 0 (w ++ (e ∷ [])) ≡ successor t P (follow m 0 w) e
  follow-snoc w e = follow-append m 0 w (e ∷ [])

  on-snoc : (s : ℕ) (w : List ℕ) (e : ℕ) → on_table t P S s (w ++ (e ∷ [])) ≡ (on_table t P S s w && in_table t P S (successor t P (follow m s w) e))
  unfolding on_table
  on-snoc s [] e = refl
  on-snoc s (d ∷ w) e = ap (λ (b : Bool). in_table t P S s && b) (on-snoc (successor t P s d) w e) ∙ and_assoc (in_table t P S s) (on_table t P S (successor t P s d) w) (in_table t P S (successor t P (follow m (successor t P s d) w) e))
    where
      and_assoc : (a b c : Bool) → (a && (b && c)) ≡ ((a && b) && c)
      and_assoc true b c = refl
      and_assoc false b c = refl

  joint : {a b : Bool} → a ≡ true → b ≡ true → (a && b) ≡ true
  joint {a} {b} p q = rw p q

  in-states : (s : ℕ) → in_table t P S s ≡ true → (s < S) × (verdict_byte t P s ≤ 3)
  in-states s h = let k = both (ltb s S) (leb (verdict_byte t P s) 3) h in (ltb-true s S k.0, leb-true (verdict_byte t P s) 3 k.1)

  -- ---- the start

  abbrev first : List Bool
  first = set (replicate 256 false) 0 true

  only-first : (s : ℕ) → Has first s → 0 ≡ s
  only-first zero h = refl
  only-first (suc s) h = never (sym h ∙ none s 255)
    where
      none : (i n : ℕ) → get_or (replicate n false) i false ≡ false
      none i zero = refl
      none zero (suc n) = refl
      none (suc i) (suc n) = none i n

  pub reached-start : Reached t P S [] (in_table t P S 0) first
  unfolding on_table
  reached-start = record { long = refl; reached = λ _ s h. ([], tt, only-first s h); marked = at-start; left = λ h. ([], tt, h) }
    where
      at-start : in_table t P S 0 ≡ true → (w : List ℕ) → Completion Σ P [] w → (on_table t P S 0 w ≡ true) × Has first (follow m 0 w)
      at-start h [] c = (h, refl)
      at-start h (e ∷ w) c = absurd c

  -- ---- one recorded event more

  module _ (rs : List Seen) (r : Seen) (old new : List Bool) where
    inside-more : Reached t P S rs true old → Steps t P S r old new true → Reached t P S (rs ++ (r ∷ [])) true new
    inside-more h k = record { long = k.moved.long; reached = λ _ q a. reaches q (k.moved.only q a); marked = λ _ w c. marks w (completion-unsnoc Σ P rs r w c); left = λ f. never f }
      where
        reaches : (q : ℕ) → ((s : ℕ) × (e : ℕ) × Has old s × Among k.count k.events e × (successor t P s e ≡ q)) → (w : List ℕ) × Completion Σ P (rs ++ (r ∷ [])) w × (follow m 0 w ≡ q)
        reaches q (s, e, a, i, p) =
            let w = h.reached refl s a in
            let c = k.chosen e i in
            (w.0 ++ (e ∷ []), completion-snoc Σ P rs r w.0 e w.1 c.0 c.1, follow-snoc w.0 e ∙ ap (λ (x : ℕ). successor t P x e) w.2 ∙ p)

        marks : (w : List ℕ) → Last Σ P rs r w → (on_table t P S 0 w ≡ true) × Has new (follow m 0 w)
        marks w l =
            let a = h.marked refl l.front l.completes in
            let below = in-states (follow m 0 l.front) (on-end t P S 0 l.front a.0) in
            let b = k.moved.hit refl (follow m 0 l.front) l.event below.0 a.1 (k.all l.event l.can l.agree) in
            subst (λ (v : List ℕ). (on_table t P S 0 v ≡ true) × Has new (follow m 0 v)) (sym l.is)
            (on-snoc 0 l.front l.event ∙ joint a.0 b.0, subst (λ (x : ℕ). Has new x) (sym (follow-snoc l.front l.event)) b.1)

    -- a way that leaves the table, one event longer
    outside-more : (inside ok : Bool) → (inside && ok) ≡ false → length new ≡ 256 → ((w : List ℕ) × Completion Σ P (rs ++ (r ∷ [])) w × (on_table t P S 0 w ≡ false)) → Reached t P S (rs ++ (r ∷ [])) (inside && ok) new
    outside-more inside ok f l out = record { long = l; reached = λ q. never (sym q ∙ f); marked = λ q. never (sym q ∙ f); left = λ _. out }

    -- it left the table before
    left-before : Reached t P S rs false old → (ok : Bool) → Steps t P S r old new ok → (w : List ℕ) × Completion Σ P (rs ++ (r ∷ [])) w × (on_table t P S 0 w ≡ false)
    left-before h ok k =
        let w = h.left refl in
        let e = get_or k.events 0 0 in
        let c = k.chosen e (0, k.some, refl) in
        (w.0 ++ (e ∷ []), completion-snoc Σ P rs r w.0 e w.1 c.0 c.1, on-snoc 0 w.0 e ∙ ap (λ (b : Bool). b && in_table t P S (successor t P (follow m 0 w.0) e)) w.2)

    -- it leaves the table now
    left-now : Reached t P S rs true old → Steps t P S r old new false → (w : List ℕ) × Completion Σ P (rs ++ (r ∷ [])) w × (on_table t P S 0 w ≡ false)
    left-now h k =
        let o = k.moved.out refl in
        let e = o.1 in
        let w = h.reached refl o.0 o.3 in
        let c = k.chosen e o.4 in
        let there : in_table t P S (successor t P (follow m 0 w.0) e) ≡ false = ap (λ (x : ℕ). in_table t P S (successor t P x e)) w.2 ∙ o.5 in
        (w.0 ++ (e ∷ []), completion-snoc Σ P rs r w.0 e w.1 c.0 c.1, on-snoc 0 w.0 e ∙ ap (λ (b : Bool). on_table t P S 0 w.0 && b) there ∙ and-false (on_table t P S 0 w.0))
      where
        and-false : (b : Bool) → (b && false) ≡ false
        and-false true = refl
        and-false false = refl

    pub reached-more : (inside ok : Bool) → Reached t P S rs inside old → Steps t P S r old new ok → Reached t P S (rs ++ (r ∷ [])) (inside && ok) new
    reached-more true true h k = inside-more h k
    reached-more true false h k = outside-more true false refl k.moved.long (left-now h k)
    reached-more false ok h k = outside-more false ok refl k.moved.long (left-before h ok k)

  -- ---- the end

  module _ (rs : List Seen) (inside : Bool) (marks : List Bool) (h : Reached t P S rs inside marks) where
    abbrev ws : List (List ℕ)
    ws = completions Σ P rs

    all-on : every (map (on_table t P S 0) ws) ≡ inside
    all-on = go inside refl
      where
        go : (b : Bool) → inside ≡ b → every (map (on_table t P S 0) ws) ≡ inside
        go true e = complete-all Σ P (on_table t P S 0) rs (λ w c. (h.marked e w c).0) ∙ sym e
        go false e = let o = h.left e in not-all Σ P (on_table t P S 0) rs o.0 o.1 o.2 ∙ sym e

    -- a verdict byte and the number of its verdict
    same_number : (v : ℕ) → v ≤ 3 → verdict_number (verdict_of v) ≡ v
    same_number zero l = refl
    same_number (suc zero) l = refl
    same_number (suc (suc zero)) l = refl
    same_number (suc (suc (suc zero))) l = refl
    same_number (suc (suc (suc (suc v)))) l = absurd (omega arith)

    abbrev shown : Verdict → List ℕ → Bool
    shown v w = eqb (verdict_number (m.verdict (follow m 0 w))) (verdict_number v)

    module _ (e : inside ≡ true) (v : Verdict) where
      number_at : (w : List ℕ) → Completion Σ P rs w → verdict_number (m.verdict (follow m 0 w)) ≡ verdict_byte t P (follow m 0 w)
      number_at w c = same_number (verdict_byte t P (follow m 0 w)) (in-states (follow m 0 w) (on-end t P S 0 w (h.marked e w c).0)).1

      -- where every member has the byte, every completion ends with it
      from-members : all_show t P S marks (verdict_number v) ≡ true → all_end m ws v ≡ true
      unfolding all_end
      from-members a = complete-all Σ P (shown v) rs (λ w c. at w c)
        where
          at : (w : List ℕ) → Completion Σ P rs w → shown v w ≡ true
          at w c =
              let here = h.marked e w c in
              let s = follow m 0 w in
              let q = all-at S (shows_byte t P marks (verdict_number v)) a s (in-states s (on-end t P S 0 w here.0)).0 in
              let r : eqb (verdict_byte t P s) (verdict_number v) ≡ true = sym (ap (λ (b : Bool). cond b (eqb (verdict_byte t P s) (verdict_number v)) true) here.1) ∙ q in
              ap (λ (n : ℕ). eqb n (verdict_number v)) (number_at w c) ∙ r

      to-members : all_end m ws v ≡ true → all_show t P S marks (verdict_number v) ≡ true
      unfolding all_end
      to-members a = all-is S (shows_byte t P marks (verdict_number v)) (λ s l. at s (get_or marks s false) refl)
        where
          at : (s : ℕ) (b : Bool) → get_or marks s false ≡ b → shows_byte t P marks (verdict_number v) s ≡ true
          at s false q = rw q
          at s true q =
              let w = h.reached e s q in
              let r = all-complete Σ P (shown v) rs a w.0 w.1 in
              let k : eqb (verdict_byte t P (follow m 0 w.0)) (verdict_number v) ≡ true = sym (ap (λ (n : ℕ). eqb n (verdict_number v)) (number_at w.0 w.1)) ∙ r in
              rw q (subst (λ (x : ℕ). eqb (verdict_byte t P x) (verdict_number v) ≡ true) w.2 k)

      same_test : all_show t P S marks (verdict_number v) ≡ all_end m ws v
      same_test = go (all_show t P S marks (verdict_number v)) refl (all_end m ws v) refl
        where
          go : (b : Bool) → all_show t P S marks (verdict_number v) ≡ b → (d : Bool) → all_end m ws v ≡ d → all_show t P S marks (verdict_number v) ≡ all_end m ws v
          go true p d q = p ∙ sym (from-members p)
          go false p true q = never (sym (to-members q) ∙ p)
          go false p false q = p ∙ sym q

    pub concluded-right : concluded t P S marks inside ≡ cond (every (map (on_table t P S 0) ws)) (Ok (verdict_over m ws)) (Err WrongTable)
    concluded-right = go inside refl ∙ sym (ap (λ (b : Bool). cond b (Ok (verdict_over m ws)) (Err WrongTable)) all-on)
      where
        go : (b : Bool) → inside ≡ b → concluded t P S marks inside ≡ cond inside (Ok (verdict_over m ws)) (Err WrongTable)
        go true e = rw (e, same_test e Satisfied, same_test e Violated, same_test e Moot)
        go false e = rw e
