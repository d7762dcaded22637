-- The quotient follows the machine group by group, shows what the machine's classes say, and any two of its states are told apart.
use mathlib.Core.Path.{◌≡◌, refl, sym, ap, ◌∙◌, subst}
use mathlib.Core.Logic.{◌⊎◌, ◌≢◌, ◌↔◌, inl, inr}
use mathlib.Core.List.{List, [], ◌∷◌}
use mathlib.Core.Bool.{Bool, true, false, cond}
use Prim.Native.Nat.{ℕ, zero, suc, ◌≤◌, ◌<◌}
use native.Mathlib.Decide.{ℕ_discrete}
use native.Mathlib.Omega.{arith}
use lib.ListN.{get_or}
use borrow.Author.Tests.{eqb-true, eqb-false, eq-eqb}
use Rattle.sequences.specs.Tabulate.{tabulate}
use Rattle.sequences.proofs.Loops.{get_d-tab}
use Rattle.meaning.specs.Traces.{Alphabet, Event, Word}
use Rattle.meaning.specs.Monitors.{Over, follow, shows}
use Rattle.meaning.specs.TableFiles.{verdict_of}
use Rattle.meaning.specs.declared.Verdict.{Verdict}
use Rattle.meaning.specs.declared.Verdict.TheVariants.{Undecided, Satisfied, Violated, Moot}
use Rattle.moore.specs.Reduced.{Apart}
use Rattle.moore.specs.Counting.{count_below}
use Rattle.moore.specs.Grouping.{entry, machine, Machine, leads, together, Differ, Grouped, Stable}
use Rattle.moore.specs.Quotient.{leaders, leader, size, number, closed, verdict_byte, verdicts, quotient_rows, quotient, Later, Says}
use Rattle.moore.proofs.Words.{follow-in}
use Rattle.sequences.proofs.Pointwise.{is_true}
use Rattle.moore.proofs.Tests.{bool_cases, events-true, events-fail}
use Rattle.moore.proofs.Counting.{count-lt, count-one, Standing, standing}
use Rattle.moore.proofs.Grouping.{machine-over}

-- the class that a verdict tells
class_of : Verdict → ℕ
class_of Undecided = 0
class_of Satisfied = 1
class_of Violated = 2
class_of Moot = 0

one-or-two : (c : ℕ) → c ≤ 2 → c ≢ 0 → (c ≡ 1) ⊎ (c ≡ 2)
one-or-two zero l d = absurd (d refl)
one-or-two (suc zero) l d = inl refl
one-or-two (suc (suc zero)) l d = inr refl
one-or-two (suc (suc (suc c))) l d = absurd (omega arith)

module _ {Σ : Alphabet} {n : ℕ} {rows : List (List ℕ)} {classes group : List ℕ}
    (M : Machine Σ n rows classes) (G : Grouped Σ n rows classes group) (S : Stable Σ n rows group) where
  pub leader-is : (q : ℕ) → q < size n group → Standing n (leads group) q (leader n group q)
  unfolding leader leaders size
  leader-is q l = standing n (leads group) q l

  pub leader-in : (q : ℕ) → q < size n group → leader n group q < n
  leader-in q l = (leader-is q l).below

  leader-own : (q : ℕ) → q < size n group → get_or group (leader n group q) 0 ≡ leader n group q
  leader-own q l = eqb-true (get_or group (leader n group q) 0) (leader n group q) (leader-is q l).passes

  pub number-leader : (q : ℕ) → q < size n group → number group (leader n group q) ≡ q
  unfolding number
  number-leader q l = ap (λ (s : ℕ). count_below s (leads group)) (leader-own q l) ∙ (leader-is q l).count

  pub own-leads : (i : ℕ) → i < n → leads group (get_or group i 0) ≡ true
  own-leads i l = eq-eqb (get_or group (get_or group i 0) 0) (get_or group i 0) (G.own i l)

  own_in : (i : ℕ) → i < n → get_or group i 0 < n
  own_in i l = let h : get_or group i 0 ≤ i = G.least i l in omega arith

  pub number_in : (i : ℕ) → i < n → number group i < size n group
  unfolding number size
  number_in i l = count-lt (get_or group i 0) n (leads group) (own_in i l) (own-leads i l)

  pub leader-number : (i : ℕ) → i < n → leader n group (number group i) ≡ get_or group i 0
  unfolding number
  leader-number i l = let s = leader-is (number group i) (number_in i l) in count-one (leader n group (number group i)) (get_or group i 0) (leads group) s.passes (own-leads i l) s.count

  number_same : (i j : ℕ) → get_or group i 0 ≡ get_or group j 0 → number group i ≡ number group j
  unfolding number
  number_same i j e = ap (λ (s : ℕ). count_below s (leads group)) e

  pub number-start : number group 0 ≡ 0
  unfolding number
  number-start = let h : get_or group 0 0 ≤ 0 = G.least 0 M.some in let e : get_or group 0 0 ≡ 0 = omega arith in ap (λ (s : ℕ). count_below s (leads group)) e

  -- ---- the rows
  next-leader : (q e : ℕ) → q < size n group → Event Σ e → entry (quotient_rows Σ n rows group) q e ≡ number group (entry rows (leader n group q) e)
  unfolding quotient_rows leader
  next-leader q e l h =
      ap (λ (r : List ℕ). get_or r e 0) (get_d-tab (size n group) (λ q. tabulate Σ.width (at q)) q [] l)
      ∙ get_d-tab Σ.width (at q) e 0 h.0
      ∙ ap (λ (b : Bool). cond b (get_or (tabulate n (number group)) (entry rows (leader n group q) e) 0) 0) (is_true (Σ.possible e) h.1)
      ∙ get_d-tab n (number group) (entry rows (leader n group q) e) 0 (M.inside (leader n group q) e (leader-in q l) h)
    where
      at : ℕ → ℕ → ℕ
      at q e = cond (Σ.possible e) (get_or (tabulate n (number group)) (entry rows (get_or (leaders n group) q 0) e) 0) 0

  pub next-number : (i e : ℕ) → i < n → Event Σ e → entry (quotient_rows Σ n rows group) (number group i) e ≡ number group (entry rows i e)
  next-number i e l h =
      next-leader (number group i) e (number_in i l) h
      ∙ number_same (entry rows (leader n group (number group i)) e) (entry rows i e)
      (S.keeps (leader n group (number group i)) i (leader-in (number group i) (number_in i l)) l (ap (λ (s : ℕ). get_or group s 0) (leader-number i l) ∙ G.own i l) e h)

  pub quotient-over : Over Σ (quotient Σ n rows classes group)
  quotient-over = record {
    start_in = subst (λ (q : ℕ). q < size n group) number-start (number_in 0 M.some);
    next_in = λ q e l h. rw (next-leader q e l h) (number_in (entry rows (leader n group q) e) (M.inside (leader n group q) e (leader-in q l) h));
  }

  pub stands : (w : List ℕ) (i : ℕ) → i < n → Word Σ w → follow (quotient Σ n rows classes group) (number group i) w ≡ number group (follow (machine n rows classes) i w)
  stands [] i l h = refl
  stands (e ∷ w) i l h = ap (λ (q : ℕ). follow (quotient Σ n rows classes group) q w) (next-number i e l h.0) ∙ stands w (entry rows i e) (M.inside i e l h.0) h.1

  pub stands-from-start : (w : List ℕ) → Word Σ w → follow (quotient Σ n rows classes group) 0 w ≡ number group (follow (machine n rows classes) 0 w)
  stands-from-start w h = ap (λ (q : ℕ). follow (quotient Σ n rows classes group) q w) (sym number-start) ∙ stands w 0 M.some h

  -- ---- the verdicts
  verdict-number : (i : ℕ) → i < n → (quotient Σ n rows classes group).verdict (number group i) ≡ verdict_of (verdict_byte (get_or classes i 0) (closed Σ rows group (get_or group i 0)))
  unfolding verdicts leader
  verdict-number i l =
      ap verdict_of (get_d-tab (size n group) at (number group i) 0 (number_in i l)
      ∙ ap (λ (s : ℕ). verdict_byte (get_or classes s 0) (closed Σ rows group s)) (leader-number i l)
      ∙ ap (λ (c : ℕ). verdict_byte c (closed Σ rows group (get_or group i 0))) (G.class (get_or group i 0) i (own_in i l) l (G.own i l)))
    where
      at : ℕ → ℕ
      at q = verdict_byte (get_or classes (get_or (leaders n group) q 0) 0) (closed Σ rows group (get_or (leaders n group) q 0))

  -- a closed group is never left
  never-left : (i : ℕ) → i < n → closed Σ rows group (get_or group i 0) ≡ true → (w : List ℕ) (j : ℕ) → j < n → Word Σ w → get_or group j 0 ≡ get_or group i 0
      → get_or group (follow (machine n rows classes) j w) 0 ≡ get_or group i 0
  unfolding closed
  never-left i l c [] j m h e = e
  never-left i l c (a ∷ w) j m h e =
      never-left i l c w (entry rows j a) (M.inside j a m h.0) h.1
      (S.keeps j (get_or group i 0) m (own_in i l) (e ∙ sym (G.own i l)) a h.0
      ∙ eqb-true (get_or group (entry rows (get_or group i 0) a) 0) (get_or group (get_or group i 0) 0) (events-true Σ (λ e. together group (entry rows (get_or group i 0) e) (get_or group i 0)) c a h.0)
      ∙ G.own i l)

  -- from a group that is not closed, a word brings another class
  left : (i : ℕ) → i < n → get_or classes i 0 ≡ 0 → closed Σ rows group (get_or group i 0) ≡ false → Later Σ n rows classes i
  unfolding closed
  left i l z c =
      let f = events-fail Σ (λ e. together group (entry rows (get_or group i 0) e) (get_or group i 0)) c in
      let e = f.0 in
      let d : get_or group (entry rows i e) 0 ≢ get_or group i 0 = λ q. eqb-false (get_or group (entry rows (get_or group i 0) e) 0) (get_or group (get_or group i 0) 0) f.2
      (S.keeps (get_or group i 0) i (own_in i l) l (G.own i l) e f.1 ∙ q ∙ sym (G.own i l)) in
      go e f.1 (G.apart (entry rows i e) i (M.inside i e l f.1) l d)
    where
      class : ℕ → List ℕ → ℕ
      class s w = get_or classes (follow (machine n rows classes) s w) 0

      other : (w : List ℕ) → Word Σ w → class i w ≢ 0 → Later Σ n rows classes i
      other w h d = record { by = w; word = h; brings = one-or-two (class i w) (M.class (follow (machine n rows classes) i w) (follow-in (machine-over M) i w l h)) d }

      go : (e : ℕ) → Event Σ e → Differ Σ n rows classes (entry rows i e) i → Later Σ n rows classes i
      go e h a = pick (ℕ_discrete (class i a.by) 0)
        where
          pick : Dec (class i a.by ≡ 0) → Later Σ n rows classes i
          pick (yes q) = other (e ∷ a.by) (h, a.word) (λ r. a.differ (r ∙ sym q))
          pick (no q) = other a.by a.word q

  never : (i : ℕ) → i < n → get_or classes i 0 ≡ 0 → closed Σ rows group (get_or group i 0) ≡ true → (w : List ℕ) → Word Σ w → get_or classes (follow (machine n rows classes) i w) 0 ≡ 0
  never i l z c w h = G.class (follow (machine n rows classes) i w) i (follow-in (machine-over M) i w l h) l (never-left i l c w i l h refl) ∙ z

  says : (i : ℕ) → i < n → Says Σ n rows classes i (verdict_of (verdict_byte (get_or classes i 0) (closed Σ rows group (get_or group i 0))))
  says i l = go (get_or classes i 0) (closed Σ rows group (get_or group i 0)) refl refl (M.class i l)
    where
      go : (c : ℕ) (b : Bool) → get_or classes i 0 ≡ c → closed Σ rows group (get_or group i 0) ≡ b → c ≤ 2 → Says Σ n rows classes i (verdict_of (verdict_byte c b))
      go zero true e f h = never i l e f
      go zero false e f h = (e, left i l e f)
      go (suc zero) b e f h = e
      go (suc (suc zero)) b e f h = e
      go (suc (suc (suc c))) b e f h = absurd (omega arith)

  not_both : (i : ℕ) → Later Σ n rows classes i → ((w : List ℕ) → Word Σ w → get_or classes (follow (machine n rows classes) i w) 0 ≡ 0) → ⊥
  not_both i a h = go a.brings (h a.by a.word)
    where
      go : {c : ℕ} → (c ≡ 1) ⊎ (c ≡ 2) → c ≡ 0 → ⊥
      go (inl e) z = omega arith
      go (inr e) z = omega arith

  says-one : (i : ℕ) → i < n → (v : Verdict) → Says Σ n rows classes i v → verdict_of (verdict_byte (get_or classes i 0) (closed Σ rows group (get_or group i 0))) ≡ v
  says-one i l Satisfied h = rw h
  says-one i l Violated h = rw h
  says-one i l Moot h = rw (h [] tt) (go (bool_cases (closed Σ rows group (get_or group i 0))))
    where
      go : (closed Σ rows group (get_or group i 0) ≡ true) ⊎ (closed Σ rows group (get_or group i 0) ≡ false) → verdict_of (verdict_byte 0 (closed Σ rows group (get_or group i 0))) ≡ Moot
      go (inl c) = rw c
      go (inr c) = absurd (not_both i (left i l (h [] tt) c) h)
  says-one i l Undecided h = rw h.0 (go (bool_cases (closed Σ rows group (get_or group i 0))))
    where
      go : (closed Σ rows group (get_or group i 0) ≡ true) ⊎ (closed Σ rows group (get_or group i 0) ≡ false) → verdict_of (verdict_byte 0 (closed Σ rows group (get_or group i 0))) ≡ Undecided
      go (inl c) = absurd (not_both i h.1 (never i l h.0 c))
      go (inr c) = rw c

  pub verdict-iff : (i : ℕ) → i < n → (v : Verdict) → ((quotient Σ n rows classes group).verdict (number group i) ≡ v) ↔ Says Σ n rows classes i v
  verdict-iff i l v = (λ e. subst (Says Σ n rows classes i) (sym (verdict-number i l) ∙ e) (says i l), λ h. verdict-number i l ∙ says-one i l v h)

  -- after a word, the quotient shows what holds of the state on which the machine then stands
  pub shows-iff : (w : List ℕ) → Word Σ w → (v : Verdict) → (shows (quotient Σ n rows classes group) w ≡ v) ↔ Says Σ n rows classes (follow (machine n rows classes) 0 w) v
  shows-iff w h v =
      let i = follow (machine n rows classes) 0 w in
      let e : follow (quotient Σ n rows classes group) 0 w ≡ number group i = stands-from-start w h in
      let r = verdict-iff i (follow-in (machine-over M) 0 w M.some h) v in
      (λ q. r.0 (ap (quotient Σ n rows classes group).verdict (sym e) ∙ q), λ s. ap (quotient Σ n rows classes group).verdict e ∙ r.1 s)

  -- ---- no two states show the same after every word
  class-of : (i : ℕ) → i < n → (v : Verdict) → (quotient Σ n rows classes group).verdict (number group i) ≡ v → get_or classes i 0 ≡ class_of v
  unfolding class_of
  class-of i l v e = go v ((verdict-iff i l v).0 e)
    where
      go : (v : Verdict) → Says Σ n rows classes i v → get_or classes i 0 ≡ class_of v
      go Satisfied h = h
      go Violated h = h
      go Moot h = h [] tt
      go Undecided h = h.0

  pub quotient-apart : (q q' : ℕ) → q < size n group → q' < size n group → q ≢ q' → Apart Σ (quotient Σ n rows classes group) q q'
  quotient-apart q q' l l' d =
      let i = leader n group q in
      let j = leader n group q' in
      let li : i < n = leader-in q l in
      let lj : j < n = leader-in q' l' in
      let a = G.apart i j li lj (λ e. d (sym (number-leader q l) ∙ number_same i j e ∙ number-leader q' l')) in
      let u = follow (machine n rows classes) i a.by in
      let v = follow (machine n rows classes) j a.by in
      let eu : follow (quotient Σ n rows classes group) q a.by ≡ number group u = ap (λ (s : ℕ). follow (quotient Σ n rows classes group) s a.by) (sym (number-leader q l)) ∙ stands a.by i li a.word in
      let ev : follow (quotient Σ n rows classes group) q' a.by ≡ number group v = ap (λ (s : ℕ). follow (quotient Σ n rows classes group) s a.by) (sym (number-leader q' l')) ∙ stands a.by j lj a.word in
      record {
        by = a.by;
        word = a.word;
        differ = λ e. a.differ
            (class-of u (follow-in (machine-over M) i a.by li a.word) ((quotient Σ n rows classes group).verdict (number group v))
            (ap (quotient Σ n rows classes group).verdict (sym eu) ∙ e ∙ ap (quotient Σ n rows classes group).verdict ev)
            ∙ sym (class-of v (follow-in (machine-over M) j a.by lj a.word) ((quotient Σ n rows classes group).verdict (number group v)) refl));
      }
