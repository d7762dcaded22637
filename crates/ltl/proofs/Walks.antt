-- Walks of at least one step in a graph whose edges carry events; edges with a property on them; closed walks joined into one.
use mathlib.Core.Path.{◌≡◌, refl, sym, subst}
use mathlib.Core.Logic.{◌⊎◌, inl, inr}
use mathlib.Core.List.{List, [], ◌∷◌}
use Prim.Native.Nat.{ℕ, zero, suc, ◌<◌}
use native.Mathlib.Nat.{le_refl}
use native.Mathlib.Decide.{ℕ_discrete}
use native.Mathlib.Omega.{arith}
use lib.ListN.{length}

-- E x e y: an edge from x by the event e to y
pub data Walk (E : ℕ → ℕ → ℕ → Type 0) : ℕ → ℕ → Type 0 where
  one : {x e y : ℕ} → E x e y → Walk E x y
  step : {x e y z : ℕ} → E x e y → Walk E y z → Walk E x z

abbrev pub ◌⧺◌ : {E : ℕ → ℕ → ℕ → Type 0} {x y z : ℕ} → Walk E x y → Walk E y z → Walk E x z
◌⧺◌ (one s) v = step s v
◌⧺◌ (step s w) v = step s (w ⧺ v)

infixr 50 ◌⧺◌
-- a walk, or none because we are there
abbrev pub Way : (ℕ → ℕ → ℕ → Type 0) → ℕ → ℕ → Type 0
Way E x y = (x ≡ y) ⊎ Walk E x y

module _ {E : ℕ → ℕ → ℕ → Type 0} where
  abbrev pub events : {x y : ℕ} → Walk E x y → List ℕ
  events (one {e = e} s) = e ∷ []
  events (step {e = e} s w) = e ∷ events w

  pub events-pos : {x y : ℕ} (w : Walk E x y) → 0 < length (events w)
  events-pos (one s) = omega arith
  events-pos (step s w) = omega arith

  -- an edge of the walk has the property F
  abbrev pub Has : (F : ℕ → ℕ → ℕ → Type 0) → {x y : ℕ} → Walk E x y → Type 0
  Has F (one {x = x} {e = e} {y = y} s) = F x e y
  Has F (step {x = x} {e = e} {y = y} s w) = F x e y ⊎ Has F w

  has_left : (F : ℕ → ℕ → ℕ → Type 0) {x y z : ℕ} (w : Walk E x y) (v : Walk E y z) → Has F w → Has F (w ⧺ v)
  has_left F (one s) v h = inl h
  has_left F (step s w) v (inl h) = inl h
  has_left F (step s w) v (inr h) = inr (has_left F w v h)

  has_right : (F : ℕ → ℕ → ℕ → Type 0) {x y z : ℕ} (w : Walk E x y) (v : Walk E y z) → Has F v → Has F (w ⧺ v)
  has_right F (one s) v h = inr h
  has_right F (step s w) v h = inr (has_right F w v h)

-- a closed walk at c over an edge with the property F
pub record Closed (E F : ℕ → ℕ → ℕ → Type 0) (c : ℕ) : Type 0 where
  pub walk : Walk E c c
  pub has : Has F walk

-- a closed walk at c over an edge with each of the properties F 0, .., F (m - 1)
pub record Round (E : ℕ → ℕ → ℕ → Type 0) (F : ℕ → ℕ → ℕ → ℕ → Type 0) (m c : ℕ) : Type 0 where
  pub walk : Walk E c c
  pub has : (j : ℕ) → j < m → Has (F j) walk

module _ {E : ℕ → ℕ → ℕ → Type 0} {F : ℕ → ℕ → ℕ → ℕ → Type 0} {c : ℕ} (start : Walk E c c) where
  pub join : (m : ℕ) → ((j : ℕ) → j < m → Closed E (F j) c) → Round E F m c
  join zero f = record { walk = start; has = λ j h. absurd (omega arith) }
  join (suc m) f = add (join m (λ j h. f j (omega arith))) (f m (le_refl (suc m)))
    where
      add : Round E F m c → Closed E (F m) c → Round E F (suc m) c
      add r v = record { walk = r.walk ⧺ v.walk; has = λ j h. go j h (ℕ_discrete j m) }
        where
          go : (j : ℕ) → j < suc m → Dec (j ≡ m) → Has (F j) (r.walk ⧺ v.walk)
          go j h (yes e) = rw e (has_right (F m) r.walk v.walk v.has)
          go j h (no n) = has_left (F j) r.walk v.walk (r.has j (omega arith))

-- ---- a walk from x to z and an edge on it with the property F: the way to that edge, and the way on

pub record Over (E F : ℕ → ℕ → ℕ → Type 0) (x z : ℕ) : Type 0 where
  pub from : ℕ
  pub event : ℕ
  pub to : ℕ
  pub edge : E from event to
  pub has : F from event to
  pub before : Way E x from
  pub after : Way E to z

module _ {E : ℕ → ℕ → ℕ → Type 0} (F : ℕ → ℕ → ℕ → Type 0) where
  tail : {x e y c : ℕ} → E x e y → F x e y → Way E y c → (w : Walk E x c) × Has F w
  tail {x} s f (inl p) = subst (λ (z : ℕ). (w : Walk E x z) × Has F w) p (one s, f)
  tail s f (inr v) = (step s v, inl f)

  front : {c x d : ℕ} → Way E c x → (w : Walk E x d) × Has F w → (w : Walk E c d) × Has F w
  front {d} (inl p) w = subst (λ (z : ℕ). (w : Walk E z d) × Has F w) (sym p) w
  front (inr v) w = (v ⧺ w.0, has_right F v w.0 w.1)

  pub over→closed : {c : ℕ} → Over E F c c → Closed E F c
  over→closed o = let w = front o.before (tail o.edge o.has o.after) in record { walk = w.0; has = w.1 }

  later : (e : ℕ) {x y z : ℕ} → E x e y → Over E F y z → Over E F x z
  later e {x} {y} s p = record { from = p.from; event = p.event; to = p.to; edge = p.edge; has = p.has; before = inr (go p.before); after = p.after }
    where
      go : Way E y p.from → Walk E x p.from
      go (inl q) = subst (λ (n : ℕ). Walk E x n) q (one s)
      go (inr v) = step s v

  pub has→over : {x z : ℕ} (w : Walk E x z) → Has F w → Over E F x z
  has→over (one {x = x} {e = e} {y = y} s) f = record { from = x; event = e; to = y; edge = s; has = f; before = inl refl; after = inl refl }
  has→over (step {x = x} {e = e} {y = y} s w) (inl f) = record { from = x; event = e; to = y; edge = s; has = f; before = inl refl; after = inr w }
  has→over (step {e = e} s w) (inr h) = later e s (has→over w h)
