-- The laws of the descent, one for each way through it.
use mathlib.Core.Path.{◌≡◌, refl}
use mathlib.Core.Bool.{true, false}
use mathlib.Core.List.{List, [], ◌∷◌}
use Prim.Native.Nat.{ℕ, zero, suc, ◌+◌, ◌*◌, ◌≤◌, ◌<◌}
use native.Mathlib.Omega.{arith}
use lib.ListN.{length, drop, length-drop}
use borrow.Author.Tests.{eq-eqb, ne_eqb, lt-ltb, le-ltb}
use Rattle.meaning.specs.Grammar.{Tree, leaf, pre, bin, rightward}
use Rattle.grammar.specs.Descent.{level_f, more_f, got, Level, More}

leaf-at : (x : ℕ) (ts : List ℕ) → x < 6 → (k : ℕ) → 1 ≤ k → level_f k 0 (x ∷ ts) ≡ got (leaf x) ts
unfolding level_f
leaf-at x ts l zero h = absurd (omega arith)
leaf-at x ts l (suc k) h = rw (ne_eqb x 10 (omega arith), lt-ltb x 6 l)

pub level-leaf : {x : ℕ} {ts : List ℕ} → x < 6 → Level 0 (x ∷ ts) (leaf x) ts
level-leaf {x} {ts} l = record { is = λ k h. leaf-at x ts l k (omega arith); shorter = omega arith }

pre_at : (x : ℕ) (ts : List ℕ) (t : Tree) (r : List ℕ) → 6 ≤ x → (x ≡ 10 → ⊥) → Level 0 ts t r → (k : ℕ) → 16 * length ts + 18 ≤ k → level_f k 0 (x ∷ ts) ≡ got (pre x t) r
unfolding level_f
pre_at x ts t r l u q zero h = absurd (omega arith)
pre_at x ts t r l u q (suc k) h = rw (ne_eqb x 10 u, le-ltb x 6 l, q.is k (omega arith))

pub level-other : {x : ℕ} {ts : List ℕ} {t : Tree} {r : List ℕ} → 6 ≤ x → (x ≡ 10 → ⊥) → Level 0 ts t r → Level 0 (x ∷ ts) (pre x t) r
level-other {x} {ts} {t} {r} l u q = record { is = λ k h. pre_at x ts t r l u q k (omega arith); shorter = omega arith }

pub level-pre : {x : ℕ} {ts : List ℕ} {t : Tree} {r : List ℕ} → 6 ≤ x → x < 10 → Level 0 ts t r → Level 0 (x ∷ ts) (pre x t) r
level-pre l u q = level-other l (λ e. omega arith) q

round-at : (ts : List ℕ) (t : Tree) (r : List ℕ) → Level 6 ts t r → (k : ℕ) → 16 * length ts + 18 ≤ k → level_f k 0 (10 ∷ ts) ≡ got t (drop 1 r)
unfolding level_f
round-at ts t r q zero h = absurd (omega arith)
round-at ts t r q (suc k) h = rw (q.is k (omega arith))

pub level-inside : {ts : List ℕ} {t : Tree} {r : List ℕ} → Level 6 ts t r → Level 0 (10 ∷ ts) t (drop 1 r)
level-inside {ts} {t} {r} q = record { is = λ k h. round-at ts t r q k (omega arith); shorter = simp length-drop (omega (arith, q.shorter)) }

pub level-round : {ts : List ℕ} {t : Tree} {c : ℕ} {r : List ℕ} → Level 6 ts t (c ∷ r) → Level 0 (10 ∷ ts) t r
level-round q = level-inside q

over-at : (k : ℕ) → 1 ≤ k → level_f k 0 [] ≡ got (leaf 4) []
unfolding level_f
over-at zero h = absurd (omega arith)
over-at (suc k) h = refl

pub level-over : Level 0 [] (leaf 4) []
level-over = record { is = λ k h. over-at k (omega arith); shorter = omega arith }

up_at : (n : ℕ) (ts : List ℕ) (a : Tree) (r : List ℕ) (t : Tree) (r' : List ℕ) → Level n ts a r → More n a r t r' → (k : ℕ) → 16 * length ts + 2 * n + 4 ≤ k → level_f k (suc n) ts ≡ got t r'
unfolding level_f
up_at n ts a r t r' p q zero h = absurd (omega arith)
up_at n ts a r t r' p q (suc k) h = rw (p.is k (omega arith), q.is k (omega (arith, p.shorter)))

pub level-up : {n : ℕ} {ts : List ℕ} {a : Tree} {r : List ℕ} {t : Tree} {r' : List ℕ} → Level n ts a r → More n a r t r' → Level (suc n) ts t r'
level-up {n} {ts} {a} {r} {t} {r'} p q = record { is = λ k h. up_at n ts a r t r' p q k (omega arith); shorter = omega (arith, p.shorter, q.shorter) }

end-at : (n : ℕ) (a : Tree) (k : ℕ) → 1 ≤ k → more_f k n a [] ≡ got a []
unfolding more_f
end-at n a zero h = absurd (omega arith)
end-at n a (suc k) h = refl

pub more-end : {n : ℕ} {a : Tree} → More n a [] a []
more-end {n} {a} = record { is = λ k h. end-at n a k (omega arith); shorter = omega arith }

none-at : (n : ℕ) (a : Tree) (x : ℕ) (ts : List ℕ) → (x ≡ 12 + n → ⊥) → (k : ℕ) → 1 ≤ k → more_f k n a (x ∷ ts) ≡ got a (x ∷ ts)
unfolding more_f
none-at n a x ts f zero h = absurd (omega arith)
none-at n a x ts f (suc k) h = rw (ne_eqb x (12 + n) f)

pub more-none : {n : ℕ} {a : Tree} {x : ℕ} {ts : List ℕ} → (x ≡ 12 + n → ⊥) → More n a (x ∷ ts) a (x ∷ ts)
more-none {n} {a} {x} {ts} f = record { is = λ k h. none-at n a x ts f k (omega arith); shorter = omega arith }

left_at : (n : ℕ) (a : Tree) (ts : List ℕ) (b : Tree) (r : List ℕ) (t : Tree) (r' : List ℕ) → rightward n ≡ false → Level n ts b r → More n (bin (12 + n) a b) r t r' → (k : ℕ) → 16 * length ts + 2 * n + 19 ≤ k → more_f k n a ((12 + n) ∷ ts) ≡ got t r'
unfolding more_f
left_at n a ts b r t r' f p q zero h = absurd (omega arith)
left_at n a ts b r t r' f p q (suc k) h = rw (eq-eqb (12 + n) (12 + n) refl, f, p.is k (omega arith), q.is k (omega (arith, p.shorter)))

pub more_left : {n : ℕ} {a : Tree} {ts : List ℕ} {b : Tree} {r : List ℕ} {t : Tree} {r' : List ℕ} → rightward n ≡ false → Level n ts b r → More n (bin (12 + n) a b) r t r' → More n a ((12 + n) ∷ ts) t r'
more_left {n} {a} {ts} {b} {r} {t} {r'} f p q = record { is = λ k h. left_at n a ts b r t r' f p q k (omega arith); shorter = omega (arith, p.shorter, q.shorter) }

right-at : (n : ℕ) (a : Tree) (ts : List ℕ) (b : Tree) (r : List ℕ) → rightward n ≡ true → Level (suc n) ts b r → (k : ℕ) → 16 * length ts + 2 * n + 19 ≤ k → more_f k n a ((12 + n) ∷ ts) ≡ got (bin (12 + n) a b) r
unfolding more_f
right-at n a ts b r f p zero h = absurd (omega arith)
right-at n a ts b r f p (suc k) h = rw (eq-eqb (12 + n) (12 + n) refl, f, p.is k (omega arith))

pub more-right : {n : ℕ} {a : Tree} {ts : List ℕ} {b : Tree} {r : List ℕ} → rightward n ≡ true → Level (suc n) ts b r → More n a ((12 + n) ∷ ts) (bin (12 + n) a b) r
more-right {n} {a} {ts} {b} {r} f p = record { is = λ k h. right-at n a ts b r f p k (omega arith); shorter = omega (arith, p.shorter) }
