-- A right label of any trace of events that can happen is realizable. Some label z comes again and again. For each
-- temporal node, the labels from an occurrence of z to one behind a position where the node's promise is kept make a
-- closed walk that is fair to the node. These walks are joined, and the stretch before them leads to z.
use mathlib.Core.Path.{◌≡◌, subst}
use mathlib.Core.Logic.{◌⊎◌, inl, inr}
use mathlib.Core.Bool.{Bool, true, false}
use mathlib.Core.List.{List, []}
use Prim.Native.Nat.{ℕ, zero, suc, ◌+◌, ◌-◌, ◌^◌, ◌≤◌, ◌<◌}
use native.Mathlib.Nat.{zero-add}
use native.Mathlib.Decide.{ℕ_discrete, dec_lt}
use native.Mathlib.Omega.{arith}
use lib.Dec.{T}
use Rattle.meaning.specs.Traces.{Alphabet, Event}
use Rattle.meaning.specs.Formulas.{Sat}
use Rattle.ltl.specs.Sets.{on, set_below}
use Rattle.ltl.specs.Nodes.{Split, temporals, operand, obligations}
use Rattle.ltl.specs.Valuation.{valued}
use Rattle.ltl.specs.Realizable.{realizable}
use Rattle.ltl.specs.Residuals.{before}
use Rattle.ltl.proofs.Sets.{on-set, set-lt}
use Rattle.ltl.proofs.Truth.{◌⇔◌}
use Rattle.ltl.proofs.Unfolding.{Later}
use Rattle.ltl.proofs.Valuation.{known-none}
use Rattle.ltl.proofs.Labels.{LabelRight, label-right, label-lt, label-one, right-obligations}
use Rattle.ltl.proofs.Walks.{Walk, one, step, Has, Closed, Round, join}
use Rattle.ltl.proofs.Realizable.{Edge, Fair, →realizable}
use Rattle.ltl.proofs.Tables.{Tabulates, before-is, before-lt}
use Rattle.ltl.proofs.Deciding.{decided, all-below, stable-test}
use Rattle.ltl.proofs.Recurring.{Labelled, Again, recurs}
use Rattle.ltl.proofs.Promises.{FairAt, fair-again}

-- ---- the right label of a position: not none

module _ (w : ℕ → ℕ) (ns : List Split) where
  abbrev pub Right : ℕ → ℕ → Type 0
  Right i y = LabelRight w i [] 0 y ns

  abbrev holding : ℕ → ℕ → Type 0
  holding i q = Sat w (operand (obligations [] ns) q) i

  module _ (i : ℕ) (d : (q : ℕ) → q < temporals ns → Dec (holding i q)) where
    abbrev bit-of : (q : ℕ) → Dec (q < temporals ns) → Bool
    bit-of q (yes h) = elim (d q h) [ yes x ↦ true | no x ↦ false ]
    bit-of q (no h) = false

    abbrev test : ℕ → Bool
    test q = bit-of q (dec_lt q (temporals ns))

    test-right : (q : ℕ) → q < temporals ns → holding i q ⇔ test q
    test-right q h = go (dec_lt q (temporals ns))
      where
        truth : (b : Dec (holding i q)) → holding i q ⇔ elim b [ yes x ↦ true | no x ↦ false ]
        truth (yes x) = (λ _. tt, λ _. x)
        truth (no x) = (x, λ t. absurd t)

        go : (l : Dec (q < temporals ns)) → holding i q ⇔ bit-of q l
        go (yes l) = truth (d q l)
        go (no l) = absurd (l h)

    labelled : Labelled Right (2 ^ temporals ns) i
    labelled = record {
      label = set_below (temporals ns) test;
      below = set-lt (temporals ns) test;
      has = right-obligations w i [] 0 (set_below (temporals ns) test) ns
          (λ q h. rw (zero-add q, on-set (temporals ns) test q h) (test-right q h));
    }

  pub right-some : (i : ℕ) → ¬ ¬ Labelled Right (2 ^ temporals ns) i
  right-some i g = all-below (temporals ns) (λ q h. decided (holding i q)) (λ d. g (labelled i d))

  pub right-back : (i y : ℕ) → Right (suc i) y → Right i (valued (w i) y ns).label
  right-back i y r = label-right w i y (known-none w i) ns r

-- ---- walks of right labels

module _ {Σ : Alphabet} {ns : List Split} {profile fair : ℕ → ℕ → ℕ} (table : Tabulates Σ ns profile fair) (σ : ℕ → ℕ)
    (c : (i : ℕ) → Event Σ (σ i)) where
  abbrev n : ℕ
  n = 2 ^ temporals ns

  abbrev E : ℕ → ℕ → ℕ → Type 0
  E x e y = Edge Σ n (before n profile) x e y

  -- a walk over the labels from i, a right one there, to z at j; it is fair to q where q's promise is kept on the way
  record Stretch (i j z : ℕ) : Type 0 where
    label : ℕ
    below : label < n
    right : Right σ ns i label
    walk : Walk E label z
    has : (q k : ℕ) → i ≤ k → k < j → FairAt σ ns q k → Has (Fair fair q) walk

  edge_at : (i y : ℕ) → y < n → E (valued (σ i) y ns).label (σ i) y
  edge_at i y h = record { event = c i; to = h; is = before-is table (σ i) y (c i) h }

  fair-edge : (i y q : ℕ) → y < n → Right σ ns (suc i) y → FairAt σ ns q i → T (on (fair (σ i) y) q)
  fair-edge i y q h r f = rw (table.fair-is (σ i) y (c i) h) (f y r)

  stretch : (d i j z : ℕ) → j ≡ i + suc d → z < n → Right σ ns j z → Stretch i j z
  stretch zero i j z e h r =
      let p : j ≡ suc i = omega arith in
      let s = subst (λ (m : ℕ). Right σ ns m z) p r in
      record {
        label = (valued (σ i) z ns).label;
        below = label-lt (σ i) z ns;
        right = right-back σ ns i z s;
        walk = one (edge_at i z h);
        has = λ q k l g f.
            let t : k ≡ i = omega arith in
            fair-edge i z q h s (subst (λ (m : ℕ). FairAt σ ns q m) t f);
      }
  stretch (suc d) i j z e h r = on-from (stretch d (suc i) j z (omega arith) h r)
    where
      on-from : Stretch (suc i) j z → Stretch i j z
      on-from s = record {
        label = (valued (σ i) s.label ns).label;
        below = label-lt (σ i) s.label ns;
        right = right-back σ ns i s.label s.right;
        walk = step (edge_at i s.label s.below) s.walk;
        has = λ q k l g f. pick q k l g f (ℕ_discrete k i);
      }
        where
          pick : (q k : ℕ) → i ≤ k → k < j → FairAt σ ns q k → Dec (k ≡ i)
              → T (on (fair (σ i) s.label) q) ⊎ Has (Fair fair q) s.walk
          pick q k l g f (yes t) =
              inl (fair-edge i s.label q s.below s.right (subst (λ (m : ℕ). FairAt σ ns q m) t f))
          pick q k l g f (no t) = inr (s.has q k (omega arith) g f)

  -- the same from the right label x on
  record From (i j x z : ℕ) : Type 0 where
    walk : Walk E x z
    has : (q k : ℕ) → i ≤ k → k < j → FairAt σ ns q k → Has (Fair fair q) walk

  from-label : {i j x z : ℕ} → x < n → Right σ ns i x → Stretch i j z → From i j x z
  from-label {i} {j} {x} {z} h r s =
      subst (λ (y : ℕ). From i j y z) (label-one σ ns i s.label x s.below h s.right r)
      (record { walk = s.walk; has = s.has })

  between : (i j x z : ℕ) → i < j → x < n → Right σ ns i x → z < n → Right σ ns j z → From i j x z
  between i j x z l h r g t = from-label h r (stretch (j - suc i) i j z (omega arith) g t)

  -- ---- a label that comes again and again

  module _ (z : ℕ) (h : z < n) (again : (b : ℕ) → ¬ ¬ Later (λ i. Right σ ns i z) b) (i : ℕ) (r : Right σ ns i z) where
    closed : (q : ℕ) → q < temporals ns → ¬ ¬ Closed E (Fair fair q) z
    closed q p g = fair-again σ ns q p i (λ k. again (suc k.time) (λ l. g (close k l)))
      where
        close : (k : Later (FairAt σ ns q) i) → Later (λ j. Right σ ns j z) (suc k.time)
            → Closed E (Fair fair q) z
        close k l =
            let a : i ≤ k.time = k.after in
            let b : k.time < l.time = l.after in
            let v = between i l.time z z (omega arith) h r h l.there in
            record { walk = v.walk; has = v.has q k.time a b k.there }

    round : ¬ ¬ Round E (Fair fair) (temporals ns) z
    round g = again (suc i) (λ l. all-below (temporals ns) closed (λ f.
        g (join (between i l.time z z l.after h r h l.there).walk (temporals ns) f)))

  -- realizable is a test, so this is no more under a double negation
  pub right-realizable : (i x : ℕ) → x < n → Right σ ns i x
      → T (on (realizable Σ n (before n profile) fair (temporals ns)) x)
  right-realizable i x h r =
      stable-test (on (realizable Σ n (before n profile) fair (temporals ns)) x)
      (λ g. recurs n (right-some σ ns) (λ a. a.again (suc i) (λ l.
      round a.label a.below a.again l.time l.there (λ c. g (leads a l c)))))
    where
      leads : (a : Again (Right σ ns) n) (l : Later (λ j. Right σ ns j a.label) (suc i))
          → Round E (Fair fair) (temporals ns) a.label
          → T (on (realizable Σ n (before n profile) fair (temporals ns)) x)
      leads a l c =
          →realizable Σ n (before n profile) fair (temporals ns) (before-lt table) x a.label h a.below c
          (inr (between i l.time x a.label l.after h r a.below l.there).walk)
