-- The closure is transitive, and has what it is made from.
use mathlib.Core.Path.{◌≡◌, refl, sym, ◌∙◌, subst}
use mathlib.Core.Logic.{◌⊎◌, inl, inr}
use mathlib.Core.Bool.{Bool, true, false, ◌||◌}
use mathlib.Core.List.{List}
use Prim.Native.Nat.{ℕ, zero, suc, ◌≤◌, ◌<◌}
use native.Mathlib.Nat.{mod-lt}
use native.Mathlib.Decide.{ℕ_discrete}
use native.Mathlib.Omega.{arith}
use lib.Dec.{T, eqb}
use borrow.Author.Tests.{eq-eqb}
use Rattle.sequences.proofs.Pointwise.{is_true}
use Rattle.meaning.specs.Traces.{Alphabet, Event}
use Rattle.ltl.specs.Keys.{look}
use Rattle.ltl.proofs.Searches.{→some-event}
use Rattle.relations.specs.Relations.{entry, Matrix, label_at, edge, closed, Reaches}

abbrev joins : Bool → Bool → Bool → Bool
joins a b c = elim a [ true ↦ b || c | false ↦ c ]

joins-in : (a b c : Bool) → T c ⊎ (T a × T b) → T (joins a b c)
joins-in true true c t = tt
joins-in true false c (inl t) = t
joins-in true false c (inr t) = absurd t.1
joins-in false b c (inl t) = t
joins-in false b c (inr t) = absurd t.0

joins-out : (a b c : Bool) → T (joins a b c) → T c ⊎ (T a × T b)
joins-out true true c t = inr (tt, tt)
joins-out true false c t = inl t
joins-out false b c t = inl t

module _ (r : ℕ → ℕ → Bool) where
  abbrev Leads : ℕ → ℕ → ℕ → Type 0
  Leads k x y = T (closed k r x y)

  abbrev Way : ℕ → ℕ → ℕ → Type 0
  Way k x y = Leads k x y ⊎ (Leads k x k × Leads k k y)

  enter : (k x y : ℕ) → Way k x y → Leads (suc k) x y
  enter k x y t = joins-in (closed k r x k) (closed k r k y) (closed k r x y) t

  leave : (k x y : ℕ) → Leads (suc k) x y → Way k x y
  leave k x y t = joins-out (closed k r x k) (closed k r k y) (closed k r x y) t

  keeps : (k x y : ℕ) → T (r x y) → Leads k x y
  keeps zero x y t = t
  keeps (suc k) x y t = enter k x y (inl (keeps k x y t))

  chain : (k x v y : ℕ) → v < k → Leads k x v → Leads k v y → Leads k x y
  chain zero x v y l a b = absurd (omega arith)
  chain (suc k) x v y l a b = enter k x y (go (chain k) v l (ℕ_discrete v k) (leave k x v a) (leave k v y b))
    where
      same : Way k x k → Way k k y → Leads k x k × Leads k k y
      same (inl a) (inl b) = (a, b)
      same (inl a) (inr b) = (a, b.1)
      same (inr a) (inl b) = (a.0, b)
      same (inr a) (inr b) = (a.0, b.1)

      less : ((x v y : ℕ) → v < k → Leads k x v → Leads k v y → Leads k x y) → (v : ℕ) → v < k → Way k x v → Way k v y → Way k x y
      less t v l (inl a) (inl b) = inl (t x v y l a b)
      less t v l (inl a) (inr b) = inr (t x v k l a b.0, b.1)
      less t v l (inr a) (inl b) = inr (a.0, t k v y l a.1 b)
      less t v l (inr a) (inr b) = inr (a.0, b.1)

      go : ((x v y : ℕ) → v < k → Leads k x v → Leads k v y → Leads k x y) → (v : ℕ) → v < suc k → Dec (v ≡ k) → Way k x v → Way k v y → Way k x y
      go t v l (yes e) a b = inr (same (subst (λ (z : ℕ). Way k x z) e a) (subst (λ (z : ℕ). Way k z y) e b))
      go t v l (no e) a b = less t v (omega arith) a b

module _ (Σ : Alphabet) (n : ℕ) (profiles : List (List ℕ)) (rows₀ rows : List ℕ) (some : 1 ≤ n) (h₀ : Matrix n (edge Σ n profiles) rows₀) (h : Matrix n (closed n (entry rows₀)) rows) where
  pub reaches : Reaches Σ n profiles (entry rows)
  reaches = record { via = via; edges = edges }
    where
      truth : {b : Bool} → b ≡ true → T b
      truth e = subst T (sym e) tt

      via : (x v y : ℕ) → x < n → v < n → y < n → entry rows x v ≡ true → entry rows v y ≡ true → entry rows x y ≡ true
      via x v y a b c p q =
          h.is x y a c
          ∙ is_true (closed n (entry rows₀) x y) (chain (entry rows₀) n x v y b (truth (sym (h.is x v a b) ∙ p)) (truth (sym (h.is v y b c) ∙ q)))

      edges : (e y : ℕ) → Event Σ e → y < n → entry rows (label_at n profiles e y) y ≡ true
      edges e y a b =
          let x = label_at n profiles e y in
          let l = mod-lt (look profiles e y) some in
          h.is x y l b
          ∙ is_true (closed n (entry rows₀) x y)
          (keeps (entry rows₀) n x y (subst T (sym (h₀.is x y l b)) (→some-event Σ (λ e. eqb (label_at n profiles e y) x) e a (truth (eq-eqb x x refl)))))
