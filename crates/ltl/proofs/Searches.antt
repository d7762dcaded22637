-- What a search of specs/Sets.antt finds: numbers below a bound, events that can happen, and the members of unions over them.
use mathlib.Core.Path.{◌≡◌, subst}
use mathlib.Core.Logic.{◌⊎◌, inl, inr}
use mathlib.Core.Bool.{Bool, true, false}
use Prim.Native.Nat.{ℕ, zero, suc, ◌<◌}
use native.Mathlib.Nat.{le_refl}
use native.Mathlib.Decide.{ℕ_discrete}
use native.Mathlib.Omega.{arith}
use lib.Dec.{T}
use Rattle.meaning.specs.Traces.{Alphabet, Event}
use Rattle.ltl.specs.Sets.{on, some_below, every_below, union_below, some_event, union_events}
use Rattle.ltl.proofs.Sets.{on-zero, in-or, or-in}

-- ---- two tests, the second made only where the first holds

pub both-cases : (a b : Bool) → T (elim a [ true ↦ b | false ↦ false ]) → T a × T b
both-cases true b t = (tt, t)
both-cases false b t = absurd t

pub both : (a b : Bool) → T a → T b → T (elim a [ true ↦ b | false ↦ false ])
both true b s t = t
both false b s t = absurd s

-- a set taken only where a test holds
pub only-cases : (a : Bool) (A i : ℕ) → T (on (elim a [ true ↦ A | false ↦ 0 ]) i) → T a × T (on A i)
only-cases true A i t = (tt, t)
only-cases false A i t = absurd (subst T (on-zero i) t)

pub only : (a : Bool) (A i : ℕ) → T a → T (on A i) → T (on (elim a [ true ↦ A | false ↦ 0 ]) i)
only true A i s t = t
only false A i s t = absurd s

-- ---- numbers below n

pub record Some (n : ℕ) (f : ℕ → Bool) : Type 0 where
  pub index : ℕ
  pub below : index < n
  pub test : T (f index)

some-suc : {n : ℕ} {f : ℕ → Bool} → Some n f → Some (suc n) f
some-suc {n} s = record { index = s.index; below = (let h : s.index < n = s.below in omega arith); test = s.test }

some-last : {n : ℕ} {f : ℕ → Bool} → T (f n) → Some (suc n) f
some-last {n} t = record { index = n; below = le_refl (suc n); test = t }

pub some→ : (n : ℕ) (f : ℕ → Bool) → T (some_below n f) → Some n f
some→ zero f t = absurd t
some→ (suc n) f t = go (f n) (some→ n f) (λ x. x) t
  where
    go : (b : Bool) → (T (some_below n f) → Some n f) → (T b → T (f n)) → T (elim b [ true ↦ true | false ↦ some_below n f ]) → Some (suc n) f
    go true r q t = some-last (q tt)
    go false r q t = some-suc (r t)

pub →some : (n : ℕ) (f : ℕ → Bool) (i : ℕ) → i < n → T (f i) → T (some_below n f)
→some zero f i h t = absurd (omega arith)
→some (suc n) f i h t = go (f n) (→some n f i) (ℕ_discrete i n) (λ e. subst (λ (k : ℕ). T (f k)) e t)
  where
    go : (b : Bool) → (i < n → T (f i) → T (some_below n f)) → Dec (i ≡ n) → (i ≡ n → T b) → T (elim b [ true ↦ true | false ↦ some_below n f ])
    go true r d q = tt
    go false r (yes e) q = absurd (q e)
    go false r (no e) q = r (omega arith) t

pub every→ : (n : ℕ) (f : ℕ → Bool) → T (every_below n f) → (i : ℕ) → i < n → T (f i)
every→ zero f t i h = absurd (omega arith)
every→ (suc n) f t i h = let p = both-cases (f n) (every_below n f) t in go (λ g. every→ n f p.1 i g) p.0 (ℕ_discrete i n)
  where
    go : (i < n → T (f i)) → T (f n) → Dec (i ≡ n) → T (f i)
    go r a (yes e) = rw e a
    go r a (no e) = r (omega arith)

pub →every : (n : ℕ) (f : ℕ → Bool) → ((i : ℕ) → i < n → T (f i)) → T (every_below n f)
→every zero f h = tt
→every (suc n) f h = both (f n) (every_below n f) (h n (le_refl (suc n))) (→every n f (λ i g. h i (omega arith)))

pub in-union : (n : ℕ) (f : ℕ → ℕ) (j : ℕ) → T (on (union_below n f) j) → Some n (λ i. on (f i) j)
in-union zero f j t = absurd (subst T (on-zero j) t)
in-union (suc n) f j t = go (in-union n f j) (in-or (f n) (union_below n f) j t)
  where
    go : (T (on (union_below n f) j) → Some n (λ i. on (f i) j)) → T (on (f n) j) ⊎ T (on (union_below n f) j) → Some (suc n) (λ i. on (f i) j)
    go r (inl a) = some-last a
    go r (inr a) = some-suc (r a)

pub union-in : (n : ℕ) (f : ℕ → ℕ) (j i : ℕ) → i < n → T (on (f i) j) → T (on (union_below n f) j)
union-in zero f j i h t = absurd (omega arith)
union-in (suc n) f j i h t = or-in (f n) (union_below n f) j (go (union-in n f j i) (ℕ_discrete i n))
  where
    go : (i < n → T (on (f i) j) → T (on (union_below n f) j)) → Dec (i ≡ n) → T (on (f n) j) ⊎ T (on (union_below n f) j)
    go r (yes e) = inl (subst (λ (k : ℕ). T (on (f k) j)) e t)
    go r (no e) = inr (r (omega arith) t)

-- ---- events

pub record SomeEvent (Σ : Alphabet) (f : ℕ → Bool) : Type 0 where
  pub event : ℕ
  pub possible : Event Σ event
  pub test : T (f event)

module _ (Σ : Alphabet) where
  pub some-event→ : (f : ℕ → Bool) → T (some_event Σ f) → SomeEvent Σ f
  some-event→ f t =
      let s = some→ Σ.width (λ e. elim (Σ.possible e) [ true ↦ f e | false ↦ false ]) t in
      let p = both-cases (Σ.possible s.index) (f s.index) s.test in
      record { event = s.index; possible = (s.below, p.0); test = p.1 }

  pub →some-event : (f : ℕ → Bool) (e : ℕ) → Event Σ e → T (f e) → T (some_event Σ f)
  →some-event f e p t = →some Σ.width (λ e. elim (Σ.possible e) [ true ↦ f e | false ↦ false ]) e p.0 (both (Σ.possible e) (f e) p.1 t)

  pub in-events : (f : ℕ → ℕ) (j : ℕ) → T (on (union_events Σ f) j) → SomeEvent Σ (λ e. on (f e) j)
  in-events f j t =
      let s = in-union Σ.width (λ e. elim (Σ.possible e) [ true ↦ f e | false ↦ 0 ]) j t in
      let p = only-cases (Σ.possible s.index) (f s.index) j s.test in
      record { event = s.index; possible = (s.below, p.0); test = p.1 }

  pub events-in : (f : ℕ → ℕ) (j e : ℕ) → Event Σ e → T (on (f e) j) → T (on (union_events Σ f) j)
  events-in f j e p t = union-in Σ.width (λ e. elim (Σ.possible e) [ true ↦ f e | false ↦ 0 ]) j e p.0 (only (Σ.possible e) (f e) j p.1 t)
