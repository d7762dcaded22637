-- The values that specs/Valuation.antt computes are truth, where the next label is right; and so is the label then.
use mathlib.Core.Path.{◌≡◌, refl, sym, ap, ◌∙◌, subst}
use mathlib.Core.Logic.{◌≢◌}
use mathlib.Core.Bool.{Bool}
use mathlib.Core.List.{List, [], ◌∷◌, ◌++◌}
use Prim.Native.Nat.{ℕ, zero, suc, ◌+◌, ◌^◌, ◌<◌}
use native.Mathlib.Nat.{add-zero, add-suc, suc-add}
use native.Mathlib.Decide.{ℕ_discrete}
use native.Mathlib.Omega.{arith}
use lib.ListN.{length, length-append}
use lib.Seq.{get_or_at}
use lib.Dec.{leb, eqb→eq, leb→le, le→leb}
use Rattle.meaning.specs.Bytes.{bit}
use Rattle.meaning.specs.Formulas.{Formula, Sat, count_on}
use Rattle.ltl.specs.Sets.{on, put}
use Rattle.ltl.specs.Nodes.{Plain, falsum, verum, signal, at_least, neg, and, or, implies, iff, xor, Temporal, Split, plain, temporal, temporals, operand, plain_formula, temporal_formula}
use Rattle.ltl.specs.Valuation.{plain_value, temporal_value, label_bit, fair_bit, Valued, none, value, value_all}
use Rattle.ltl.proofs.Sets.{on-zero, put-lt, put-here, put_other}
use Rattle.ltl.proofs.Truth.{◌⇔◌, t_not, t-and, t-or, t-fun, t-iff, t-xor}

-- ---- sizes, and bits that stay

pub record Sized (s : Valued) : Type 0 where
  pub values-lt : s.values < 2 ^ s.count
  pub label-lt : s.label < 2 ^ s.temporals
  pub fairs-lt : s.fairs < 2 ^ s.temporals

pub sized-none : Sized none
sized-none = record { values-lt = omega arith; label-lt = omega arith; fairs-lt = omega arith }

module _ (e y : ℕ) where
  pub sized-value : {s : Valued} → Sized s → (n : Split) → Sized (value e y s n)
  sized-value {s} z (plain p) = record { values-lt = put-lt s.count (plain_value s.values e p) s.values z.values-lt; label-lt = z.label-lt; fairs-lt = z.fairs-lt }
  sized-value {s} z (temporal t) = record {
    values-lt = put-lt s.count (temporal_value s.values (on y s.temporals) t) s.values z.values-lt;
    label-lt = put-lt s.temporals (label_bit s.values (on y s.temporals) t) s.label z.label-lt;
    fairs-lt = put-lt s.temporals (fair_bit s.values (on y s.temporals) t) s.fairs z.fairs-lt;
  }

  pub sized-all : {s : Valued} → Sized s → (ns : List Split) → Sized (value_all e y s ns)
  sized-all z [] = z
  sized-all {s = s} z (n ∷ ns) = sized-all {s = value e y s n} (sized-value z n) ns

  pub count-all : (s : Valued) (ns : List Split) → (value_all e y s ns).count ≡ s.count + length ns
  count-all s [] = sym (add-zero s.count)
  count-all s (plain p ∷ ns) = count-all (value e y s (plain p)) ns ∙ suc-add s.count (length ns) ∙ sym (add-suc s.count (length ns))
  count-all s (temporal t ∷ ns) = count-all (value e y s (temporal t)) ns ∙ suc-add s.count (length ns) ∙ sym (add-suc s.count (length ns))

  pub temporals-all : (s : Valued) (ns : List Split) → (value_all e y s ns).temporals ≡ s.temporals + temporals ns
  temporals-all s [] = sym (add-zero s.temporals)
  temporals-all s (plain p ∷ ns) = temporals-all (value e y s (plain p)) ns
  temporals-all s (temporal t ∷ ns) = temporals-all (value e y s (temporal t)) ns ∙ suc-add s.temporals (temporals ns) ∙ sym (add-suc s.temporals (temporals ns))

  -- what is known of the first temporal nodes stays as it is
  label-stays : (s : Valued) → Sized s → (ns : List Split) (j : ℕ) → j < s.temporals → on (value_all e y s ns).label j ≡ on s.label j
  label-stays s z [] j h = refl
  label-stays s z (plain p ∷ ns) j h = label-stays (value e y s (plain p)) (sized-value z (plain p)) ns j h
  label-stays s z (temporal t ∷ ns) j h =
      label-stays (value e y s (temporal t)) (sized-value z (temporal t)) ns j (omega arith)
      ∙ put_other s.temporals (label_bit s.values (on y s.temporals) t) s.label j z.label-lt (omega arith)

  fairs-stay : (s : Valued) → Sized s → (ns : List Split) (j : ℕ) → j < s.temporals → on (value_all e y s ns).fairs j ≡ on s.fairs j
  fairs-stay s z [] j h = refl
  fairs-stay s z (plain p ∷ ns) j h = fairs-stay (value e y s (plain p)) (sized-value z (plain p)) ns j h
  fairs-stay s z (temporal t ∷ ns) j h =
      fairs-stay (value e y s (temporal t)) (sized-value z (temporal t)) ns j (omega arith)
      ∙ put_other s.temporals (fair_bit s.values (on y s.temporals) t) s.fairs j z.fairs-lt (omega arith)

-- ---- truth of the nodes so far at one position

-- s holds the truth at i of the formulas fs, j of them of temporal nodes
pub record Known (w : ℕ → ℕ) (i : ℕ) (fs : List Formula) (j : ℕ) (s : Valued) : Type 0 where
  pub sized : Sized s
  pub counted : length fs ≡ s.count
  pub labelled : s.temporals ≡ j
  pub right : (a : ℕ) → Sat w (operand fs a) i ⇔ on s.values a

pub known-none : (w : ℕ → ℕ) (i : ℕ) → Known w i [] 0 none
known-none w i = record { sized = sized-none; counted = refl; labelled = refl; right = λ a. rw (on-zero a) (λ x. x, λ x. x) }

operand-other : (fs : List Formula) (f : Formula) (a : ℕ) → a ≢ length fs → operand (fs ++ (f ∷ [])) a ≡ operand fs a
operand-other [] f zero n = absurd (n refl)
operand-other [] f (suc a) n = refl
operand-other (g ∷ fs) f zero n = refl
operand-other (g ∷ fs) f (suc a) n = operand-other fs f a (λ e. n (ap suc e))

module _ {w : ℕ → ℕ} {i : ℕ} {fs : List Formula} {j : ℕ} {s : Valued} (k : Known w i fs j s) where
  -- one formula more
  snoc-right : (f : Formula) (v : Bool) → Sat w f i ⇔ v → (a : ℕ) → Sat w (operand (fs ++ (f ∷ [])) a) i ⇔ on (put s.count v s.values) a
  snoc-right f v h a = go (ℕ_discrete a s.count)
    where
      go : Dec (a ≡ s.count) → Sat w (operand (fs ++ (f ∷ [])) a) i ⇔ on (put s.count v s.values) a
      go (yes e) = rw (e, get_or_at fs f [] Formula.falsum s.count k.counted, put-here s.count v s.values k.sized.values-lt) h
      go (no n) = rw (operand-other fs f a (λ e. n (e ∙ k.counted)), put_other s.count v s.values a k.sized.values-lt n) (k.right a)

  snoc-counted : (f : Formula) → length (fs ++ (f ∷ [])) ≡ suc s.count
  snoc-counted f = simp length-append (omega (arith, k.counted))

  pub known-plain : (y : ℕ) (p : Plain) → Sat w (plain_formula fs p) i ⇔ plain_value s.values (w i) p → Known w i (fs ++ (plain_formula fs p ∷ [])) j (value (w i) y s (plain p))
  known-plain y p h = record {
    sized = sized-value (w i) y k.sized (plain p);
    counted = snoc-counted (plain_formula fs p);
    labelled = k.labelled;
    right = snoc-right (plain_formula fs p) (plain_value s.values (w i) p) h;
  }

  pub known-temporal : (y : ℕ) (t : Temporal) → Sat w (temporal_formula fs t) i ⇔ temporal_value s.values (on y j) t
      → Known w i (fs ++ (temporal_formula fs t ∷ [])) (suc j) (value (w i) y s (temporal t))
  known-temporal y t h = record {
    sized = sized-value (w i) y k.sized (temporal t);
    counted = snoc-counted (temporal_formula fs t);
    labelled = ap suc k.labelled;
    right = snoc-right (temporal_formula fs t) (temporal_value s.values (on y s.temporals) t) (rw k.labelled h);
  }

  pub plain-right : (p : Plain) → Sat w (plain_formula fs p) i ⇔ plain_value s.values (w i) p
  plain-right falsum = (λ x. x, λ x. x)
  plain-right verum = (λ x. x, λ x. x)
  plain-right (signal a) = (λ e. rw e tt, λ t. eqb→eq (bit a (w i)) 1 t)
  plain-right (at_least m n u) =
      let c = count_on 4 m (w i) in
      t-and (leb n c) (leb c u) (λ l. le→leb n c l, λ t. leb→le n c t) (λ l. le→leb c u l, λ t. leb→le c u t)
  plain-right (neg a) = t_not (on s.values a) (k.right a)
  plain-right (and a b) = t-and (on s.values a) (on s.values b) (k.right a) (k.right b)
  plain-right (or a b) = t-or (on s.values a) (on s.values b) (k.right a) (k.right b)
  plain-right (implies a b) = t-fun (on s.values a) (on s.values b) (k.right a) (k.right b)
  plain-right (iff a b) = t-iff (on s.values a) (on s.values b) (k.right a) (k.right b)
  plain-right (xor a b) = t-xor (on s.values a) (on s.values b) (k.right a) (k.right b)

  -- the bits of the first of the temporal nodes that are left
  pub label-here : (e y : ℕ) (t : Temporal) (ns : List Split) → on (value_all e y s (temporal t ∷ ns)).label j ≡ label_bit s.values (on y j) t
  label-here e y t ns =
      subst (λ (n : ℕ). on (value_all e y s (temporal t ∷ ns)).label n ≡ label_bit s.values (on y n) t) k.labelled
      (label-stays e y (value e y s (temporal t)) (sized-value e y k.sized (temporal t)) ns s.temporals (omega arith)
      ∙ put-here s.temporals (label_bit s.values (on y s.temporals) t) s.label k.sized.label-lt)

  pub fairs-here : (e y : ℕ) (t : Temporal) (ns : List Split) → on (value_all e y s (temporal t ∷ ns)).fairs j ≡ fair_bit s.values (on y j) t
  fairs-here e y t ns =
      subst (λ (n : ℕ). on (value_all e y s (temporal t ∷ ns)).fairs n ≡ fair_bit s.values (on y n) t) k.labelled
      (fairs-stay e y (value e y s (temporal t)) (sized-value e y k.sized (temporal t)) ns s.temporals (omega arith)
      ∙ put-here s.temporals (fair_bit s.values (on y s.temporals) t) s.fairs k.sized.fairs-lt)
