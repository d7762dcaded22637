-- Warshall's closure relates x to y exactly if a walk leads from x to y.
use mathlib.Core.Path.{◌≡◌, sym, ap, ◌∙◌, subst}
use mathlib.Core.Logic.{◌⊎◌, inl, inr}
use mathlib.Core.Bool.{Bool, true, false}
use mathlib.Core.List.{List}
use Prim.Native.Nat.{ℕ, zero, suc, ◌<◌}
use native.Mathlib.Decide.{ℕ_discrete}
use native.Mathlib.Omega.{arith}
use lib.ListN.{get_or, get_or-map}
use lib.Bits.{bit_or}
use lib.Dec.{T}
use Rattle.ltl.specs.Sets.{on}
use Rattle.ltl.specs.Closure.{row, pass_row, pass, closure}
use Rattle.ltl.proofs.Sets.{on-zero, in-or, or-in}
use Rattle.ltl.proofs.Walks.{Walk, one, step, ◌⧺◌}

-- transitive through every vertex below k
record Through (M : ℕ → ℕ → Type 0) (k : ℕ) : Type 0 where
  via : {x y : ℕ} (v : ℕ) → v < k → M x v → M v y → M x y

-- one pass: M' is M with the ways through k
record Pass (M : ℕ → ℕ → Type 0) (k : ℕ) (M' : ℕ → ℕ → Type 0) : Type 0 where
  into : {x y : ℕ} → M x y ⊎ (M x k × M k y) → M' x y
  out : {x y : ℕ} → M' x y → M x y ⊎ (M x k × M k y)

through-pass : {M M' : ℕ → ℕ → Type 0} {k : ℕ} → Through M k → Pass M k M' → Through M' (suc k)
through-pass {M} {M'} {k} t p = record { via = λ {x} {y} v l a b. p.into (go v l (ℕ_discrete v k) (p.out a) (p.out b)) }
  where
    same : {x y : ℕ} → M x k ⊎ (M x k × M k k) → M k y ⊎ (M k k × M k y) → M x k × M k y
    same (inl a) (inl b) = (a, b)
    same (inl a) (inr b) = (a, b.1)
    same (inr a) (inl b) = (a.0, b)
    same (inr a) (inr b) = (a.0, b.1)

    less : {x y : ℕ} (v : ℕ) → v < k → M x v ⊎ (M x k × M k v) → M v y ⊎ (M v k × M k y) → M x y ⊎ (M x k × M k y)
    less v l (inl a) (inl b) = inl (t.via v l a b)
    less v l (inl a) (inr b) = inr (t.via v l a b.0, b.1)
    less v l (inr a) (inl b) = inr (a.0, t.via v l a.1 b)
    less v l (inr a) (inr b) = inr (a.0, b.1)

    go : {x y : ℕ} (v : ℕ) → v < suc k → Dec (v ≡ k) → M x v ⊎ (M x k × M k v) → M v y ⊎ (M v k × M k y) → M x y ⊎ (M x k × M k y)
    go {x} {y} v l (yes e) a b = inr (same (rw e at a) (rw e at b))
    go v l (no n) a b = less v (omega arith) a b

-- ---- the rows

abbrev pub Related : List ℕ → ℕ → ℕ → Type 0
Related rows x y = T (on (row rows x) y)

pub row-pass : (k : ℕ) (rows : List ℕ) (x : ℕ) → row (pass k rows) x ≡ pass_row k (row rows k) (row rows x)
row-pass k rows x =
    let e : pass_row k (row rows k) 0 ≡ 0 = ap (λ (b : Bool). elim b [ true ↦ bit_or (row rows k) 0 | false ↦ 0 ]) (on-zero k) in
    ap (λ (d : ℕ). get_or (pass k rows) x d) (sym e) ∙ get_or-map (pass_row k (row rows k)) rows x 0

pass-pass : (k : ℕ) (rows : List ℕ) → Pass (Related rows) k (Related (pass k rows))
pass-pass k rows = record {
  into = λ {x} {y} a. subst (λ (r : ℕ). T (on r y)) (sym (row-pass k rows x)) (into y (row rows x) (on (row rows x) k) (λ b. b) a);
  out = λ {x} {y} a. out y (row rows x) (on (row rows x) k) (λ b. b) (subst (λ (r : ℕ). T (on r y)) (row-pass k rows x) a);
}
  where
    into : (y r : ℕ) (b : Bool) → (T (on r k) → T b) → T (on r y) ⊎ (T (on r k) × Related rows k y) → T (on (elim b [ true ↦ bit_or (row rows k) r | false ↦ r ]) y)
    into y r true f (inl a) = or-in (row rows k) r y (inr a)
    into y r true f (inr a) = or-in (row rows k) r y (inl a.1)
    into y r false f (inl a) = a
    into y r false f (inr a) = absurd (f a.0)

    out : (y r : ℕ) (b : Bool) → (T b → T (on r k)) → T (on (elim b [ true ↦ bit_or (row rows k) r | false ↦ r ]) y) → T (on r y) ⊎ (T (on r k) × Related rows k y)
    out y r true f a = elim (in-or (row rows k) r y a) [ inl c ↦ inr (f tt, c) | inr c ↦ inl c ]
    out y r false f a = inl a

keeps : (k : ℕ) (rows : List ℕ) (x y : ℕ) → Related rows x y → Related (closure k rows) x y
keeps zero rows x y a = a
keeps (suc k) rows x y a = (pass-pass k (closure k rows)).into (inl (keeps k rows x y a))

closure-through : (k : ℕ) (rows : List ℕ) → Through (Related (closure k rows)) k
closure-through zero rows = record { via = λ v h a b. absurd (omega arith) }
closure-through (suc k) rows = through-pass (closure-through k rows) (pass-pass k (closure k rows))

module _ (E : ℕ → ℕ → ℕ → Type 0) (rows : List ℕ) where
  pub closure-sound : (k : ℕ) → ((x y : ℕ) → Related rows x y → Walk E x y) → (x y : ℕ) → Related (closure k rows) x y → Walk E x y
  closure-sound zero f x y a = f x y a
  closure-sound (suc k) f x y a = go (closure-sound k f) ((pass-pass k (closure k rows)).out a)
    where
      go : ((x y : ℕ) → Related (closure k rows) x y → Walk E x y) → Related (closure k rows) x y ⊎ (Related (closure k rows) x k × Related (closure k rows) k y) → Walk E x y
      go g (inl b) = g x y b
      go g (inr b) = g x k b.0 ⧺ g k y b.1

  -- every edge is in the rows, and ends below n
  pub closure-complete : (n : ℕ) → ((x e y : ℕ) → E x e y → Related rows x y) → ((x e y : ℕ) → E x e y → y < n)
      → {x y : ℕ} → Walk E x y → Related (closure n rows) x y
  closure-complete n f ends (one {x = x} {e = e} {y = y} s) = keeps n rows x y (f x e y s)
  closure-complete n f ends (step {x = x} {e = e} {y = v} s w) =
      (closure-through n rows).via v (ends x e v s) (keeps n rows x v (f x e v s)) (closure-complete n f ends w)
