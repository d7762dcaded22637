-- What each way through `level` and `more` shows.
use mathlib.Core.Path.{◌≡◌, sym, ap, ◌∙◌, subst}
use mathlib.Core.Bool.{true, false}
use mathlib.Core.List.{List, [], ◌∷◌}
use Prim.Native.Nat.{ℕ, zero, suc, ◌+◌, ◌-◌, ◌≤◌, ◌<◌}
use native.Mathlib.Numerals.{add-one}
use native.Mathlib.Omega.{arith}
use lib.ListN.{length, get_or, drop, drop_of_length-le}
use lib.Seq.{drop-cons}
use Rattle.std.specs.Prelude.{Option, Some, None}
use Rattle.meaning.specs.Grammar.{Tree, leaf, pre, bin, rightward}
use Rattle.grammar.specs.Descent.{Level, More}
use Rattle.grammar.proofs.Descending.{level-leaf, level-other, level-inside, level-over, level-up, more-end, more-none, more_left, more-right}
use native.Mathlib.Decide.{dec_lt}
use Rattle.descent.specs.Laying.{put, lay, laid_as, Read, Moved, Skips, GoesOn}
use Rattle.descent.specs.declared.Cursor.{Cursor}

-- the token at a place and what follows it
from : (s : List ℕ) (i : ℕ) → i < length s → drop i s ≡ get_or s i 0 ∷ drop (i + 1) s
from s i h = drop-cons s i 0 h ∙ ap (λ (j : ℕ). get_or s i 0 ∷ drop j s) (sym (add-one i))

module _ (s : List ℕ) where
  level-here : {n i : ℕ} {t : Tree} {r : List ℕ} → i < length s → Level n (get_or s i 0 ∷ drop (i + 1) s) t r → Level n (drop i s) t r
  level-here {n} {i} {t} {r} h l = subst (λ (x : List ℕ). Level n x t r) (sym (from s i h)) l

  more-here : {n i : ℕ} {a t : Tree} {r : List ℕ} → i < length s → More n a (get_or s i 0 ∷ drop (i + 1) s) t r → More n a (drop i s) t r
  more-here {n} {i} {a} {t} {r} h l = subst (λ (x : List ℕ). More n a x t r) (sym (from s i h)) l

  past : (i : ℕ) → length s ≤ i → drop i s ≡ []
  past i h = drop_of_length-le s h

  pub read-over : {i : ℕ} {o : List ℕ} {c : ℕ} {o' : List ℕ} {r : Cursor} → length s ≤ i → i ≤ length s → put o c 4 0 0 ≡ laid_as o' r → r.at ≡ i → Read s 0 i o c o' r
  unfolding lay
  read-over {i} {o} {c} {o'} {r} h u e a = record {
    tree = leaf 4;
    level = rw (a, past i h) level-over;
    laid = e;
    ahead = omega arith;
    within = omega arith;
  }

  pub read-leaf : {i : ℕ} {o : List ℕ} {c : ℕ} {o' : List ℕ} {r : Cursor} → i < length s → get_or s i 0 < 6 → put o c (get_or s i 0) 0 0 ≡ laid_as o' r → r.at ≡ i + 1 → Read s 0 i o c o' r
  unfolding lay
  read-leaf {i} {o} {c} {o'} {r} h l e a = record {
    tree = leaf (get_or s i 0);
    level = rw a (level-here h (level-leaf l));
    laid = e;
    ahead = omega arith;
    within = omega arith;
  }

  pub read-pre : {i : ℕ} {o : List ℕ} {c : ℕ} {o₁ : List ℕ} {d : Cursor} {o' : List ℕ} {r : Cursor} → i < length s → 6 ≤ get_or s i 0 → (get_or s i 0 ≡ 10 → ⊥)
      → Read s 0 (i + 1) o c o₁ d → put o₁ d.count (get_or s i 0) d.root 0 ≡ laid_as o' r → r.at ≡ d.at → Read s 0 i o c o' r
  unfolding lay
  read-pre {i} {o} {c} {o₁} {d} {o'} {r} h l u p e a = record {
    tree = pre (get_or s i 0) p.tree;
    level = rw a (level-here h (level-other l u p.level));
    laid = rw p.laid e;
    ahead = omega (arith, p.ahead);
    within = omega (arith, p.within);
  }

  level-ten : {i : ℕ} {t : Tree} {r : List ℕ} → i < length s → get_or s i 0 ≡ 10 → Level 6 (drop (i + 1) s) t r → Level 0 (drop i s) t (drop 1 r)
  level-ten {i} h e l = level-here h (rw e (level-inside l))

  pub read-in : {i : ℕ} {o : List ℕ} {c : ℕ} {o' : List ℕ} {d : Cursor} → i < length s → get_or s i 0 ≡ 10 → Read s 6 (i + 1) o c o' d → d.at < length s
      → Read s 0 i o c o' (record { at = d.at + 1; count = d.count; root = d.root })
  read-in {i} {o} {c} {o'} {d} h e p l = record {
    tree = p.tree;
    level = (subst (λ (v : List ℕ). Level 0 (drop i s) p.tree v) (ap (λ (v : List ℕ). drop 1 v) (from s d.at l)) (level-ten h e p.level));
    laid = p.laid;
    ahead = omega (arith, p.ahead);
    within = omega (arith, p.within);
  }

  pub read-in-end : {i : ℕ} {o : List ℕ} {c : ℕ} {o' : List ℕ} {d : Cursor} → i < length s → get_or s i 0 ≡ 10 → Read s 6 (i + 1) o c o' d → length s ≤ d.at → Read s 0 i o c o' d
  read-in-end {i} {o} {c} {o'} {d} h e p l = record {
    tree = p.tree;
    level = (subst (λ (v : List ℕ). Level 0 (drop i s) p.tree v) (ap (λ (v : List ℕ). drop 1 v) (past d.at l) ∙ sym (past d.at l)) (level-ten h e p.level));
    laid = p.laid;
    ahead = omega (arith, p.ahead);
    within = omega (arith, p.within);
  }

  pub read_up : {n m i : ℕ} {o : List ℕ} {c : ℕ} {o₁ : List ℕ} {d : Cursor} {o' : List ℕ} {r : Cursor} → n ≡ suc m → Read s m i o c o₁ d → Moved s m d o₁ o' r → Read s n i o c o' r
  read_up {n} {m} {i} {o} {c} {o₁} {d} {o'} {r} e p q = let g = q.from p.tree o c p.laid in record {
    tree = g.tree;
    level = rw e (level-up p.level g.more);
    laid = g.laid;
    ahead = omega (arith, p.ahead, q.ahead);
    within = q.within;
  }

  pub moved-end : {n : ℕ} {c : Cursor} {o : List ℕ} → length s ≤ c.at → c.at ≤ length s → Moved s n c o o c
  moved-end {n} {c} {o} h u = record {
    from = λ a o₀ c₀ e. record { tree = a; more = rw (past c.at h) more-end; laid = e };
    ahead = omega arith;
    within = u;
  }

  pub moved_none : {n : ℕ} {c : Cursor} {o : List ℕ} → c.at < length s → (get_or s c.at 0 ≡ 12 + n → ⊥) → Moved s n c o o c
  moved_none {n} {c} {o} h f = record {
    from = λ a o₀ c₀ e. record { tree = a; more = rw (from s c.at h) (more-none f); laid = e };
    ahead = omega arith;
    within = omega arith;
  }

  sign-laid : (n : ℕ) (o : List ℕ) (c : Cursor) (o₁ : List ℕ) (d : Cursor) (o' : List ℕ) (r : Cursor) (a b : Tree) (o₀ : List ℕ) (c₀ x : ℕ) → x ≡ 12 + n → lay a o₀ c₀ ≡ laid_as o c → lay b o c.count ≡ laid_as o₁ d
      → put o₁ d.count x c.root d.root ≡ laid_as o' r → lay (bin (12 + n) a b) o₀ c₀ ≡ laid_as o' r
  unfolding lay
  sign-laid n o c o₁ d o' r a b o₀ c₀ x q e f g = rw (sym q, e, f) g

  pub moved-right : {n : ℕ} {c : Cursor} {o : List ℕ} {o₁ : List ℕ} {d : Cursor} {o' : List ℕ} {r : Cursor} → c.at < length s → get_or s c.at 0 ≡ 12 + n → rightward n ≡ true
      → Read s (n + 1) (c.at + 1) o c.count o₁ d → put o₁ d.count (get_or s c.at 0) c.root d.root ≡ laid_as o' r → r.at ≡ d.at → Moved s n c o o' r
  moved-right {n} {c} {o} {o₁} {d} {o'} {r} h q f p e u = record {
    from = λ a o₀ c₀ l. record {
      tree = bin (12 + n) a p.tree;
      more = rw u (more-here h (rw q (more-right f (subst (λ (j : ℕ). Level j (drop (c.at + 1) s) p.tree (drop d.at s)) (add-one n) p.level))));
      laid = sign-laid n o c o₁ d o' r a p.tree o₀ c₀ (get_or s c.at 0) q l p.laid e;
    };
    ahead = omega (arith, p.ahead);
    within = omega (arith, p.within);
  }

  pub moved-left : {n : ℕ} {c : Cursor} {o : List ℕ} {o₁ : List ℕ} {d : Cursor} {o₂ : List ℕ} {m : Cursor} {o' : List ℕ} {r : Cursor} → c.at < length s → get_or s c.at 0 ≡ 12 + n → rightward n ≡ false
      → Read s n (c.at + 1) o c.count o₁ d → put o₁ d.count (get_or s c.at 0) c.root d.root ≡ laid_as o₂ m → m.at ≡ d.at → Moved s n m o₂ o' r → Moved s n c o o' r
  moved-left {n} {c} {o} {o₁} {d} {o₂} {m} {o'} {r} h q f p e u w = record {
    from = λ a o₀ c₀ l.
        let g = w.from (bin (12 + n) a p.tree) o₀ c₀ (sign-laid n o c o₁ d o₂ m a p.tree o₀ c₀ (get_or s c.at 0) q l p.laid e) in record {
          tree = g.tree;
          more = more-here h (subst (λ (x : ℕ). More n a (x ∷ drop (c.at + 1) s) g.tree (drop r.at s)) (sym q) (more_left f p.level (subst (λ (j : ℕ). More n (bin (12 + n) a p.tree) (drop j s) g.tree (drop r.at s)) u g.more)));
          laid = g.laid;
        };
    ahead = omega (arith, p.ahead, w.ahead);
    within = w.within;
  }

  -- what was read and laid as c₀ says, at level 0, is read and laid as c says, at level m
  pub record Climbed (m : ℕ) (c₀ : Cursor) (o₀ o : List ℕ) (c : Cursor) : Type 0 where
    pub from : {i : ℕ} {o₁ : List ℕ} {k : ℕ} → Read s 0 i o₁ k o₀ c₀ → Read s m i o₁ k o c

  pub climbed-none : {c : Cursor} {o : List ℕ} → Climbed 0 c o o c
  climbed-none = record { from = λ p. p }

  pub climbed-more : {m : ℕ} {c₀ : Cursor} {o₀ o : List ℕ} {c : Cursor} {o' : List ℕ} {d : Cursor} → Climbed m c₀ o₀ o c → Moved s m c o o' d → Climbed (m + 1) c₀ o₀ o' d
  climbed-more {m} p q = record { from = λ r. read_up (add-one m) (p.from r) q }

  -- a sign that is not there goes on with nothing
  still : {n : ℕ} {c : Cursor} {o : List ℕ} → c.at ≤ length s → (c.at < length s → get_or s c.at 0 ≡ 12 + n → ⊥) → Moved s n c o o c
  still {n} {c} {o} u f = go (dec_lt c.at (length s))
    where
      go : Dec (c.at < length s) → Moved s n c o o c
      go (yes h) = moved_none h (f h)
      go (no h) = moved-end (omega arith) u

  pub climbed-skip : {m n r : ℕ} {c₀ : Cursor} {o₀ o : List ℕ} {c : Cursor} → c.at ≤ length s → Climbed m c₀ o₀ o c → Skips s c.at m n r → Climbed r c₀ o₀ o c
  climbed-skip {m} {n} {r} {c₀} {o₀} {o} {c} u p k = subst (λ (j : ℕ). Climbed j c₀ o₀ o c) (let l = k.low in omega arith) (go (r - m) m p (λ j l h. k.none j l (omega (arith, k.low))))
    where
      go : (d m : ℕ) → Climbed m c₀ o₀ o c → ((j : ℕ) → m ≤ j → j < m + d → c.at < length s → get_or s c.at 0 ≡ 12 + j → ⊥) → Climbed (m + d) c₀ o₀ o c
      go zero m p f = subst (λ (j : ℕ). Climbed j c₀ o₀ o c) (omega arith) p
      go (suc d) m p f =
          let e : m + 1 + d ≡ m + suc d = omega arith in
          subst (λ (j : ℕ). Climbed j c₀ o₀ o c) e (go d (m + 1) (climbed-more p (still u (f m (omega arith) (omega arith)))) (λ j l h. f j (omega arith) (omega arith)))

  -- the level that was reached: the last, or one below it with the sign that goes on
  abbrev pub Onto : ℕ → Cursor → List ℕ → List ℕ → Cursor → Option ℕ → Type 0
  Onto n c₀ o₀ o c None = Climbed n c₀ o₀ o c
  Onto n c₀ o₀ o c (Some m) = (m < n) × Climbed m c₀ o₀ o c

  pub onto : {m : ℕ} (n : ℕ) {c₀ : Cursor} {o₀ o : List ℕ} {c : Cursor} (r : Option ℕ) → c.at ≤ length s → Climbed m c₀ o₀ o c → GoesOn s c.at m n r → Onto n c₀ o₀ o c r
  onto n None u p k = climbed-skip u p k
  onto n (Some r) u p k = (k.1, climbed-skip u p k.0)

-- how many levels are left
abbrev pub levels_left : ℕ → Option ℕ → ℕ
levels_left n None = 0
levels_left n (Some m) = n - m
