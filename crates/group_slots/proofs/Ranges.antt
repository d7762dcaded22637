-- What `all` and `find` over a range of numbers give, as tests of every number below a bound and as the least that passes.
use Rattle.std.proofs.Common.{◌≡◌, refl, sym, ap, ap₂, ◌∙◌, ℕ, zero, suc, ◌+◌, ◌≤◌, ◌<◌, Bool, true, false, cond, ◌&&◌, zero-add, add-zero, arith}
use Rattle.std.specs.Prelude.{Option, Some, None, MatchOption}
use Rattle.std.specs.Option.{unwrap_or}
use Rattle.std.specs.List.{list_all, range_with_len}
use native.Mathlib.Decide.{dec_lt}
use Rattle.sequences.specs.Tabulate.{all_below, least_below}
use Rattle.sequences.proofs.Loops.{Missed, missed-found, missed-end}

range_from : (n a : ℕ) (p q : ℕ → Bool) → ((i : ℕ) → q i ≡ p (a + i)) → list_all p (range_with_len a n) ≡ all_below n q
range_from zero a p q h = refl
range_from (suc n) a p q h =
    first (p a) (list_all p (range_with_len (a + 1) n))
    ∙ ap₂ (λ (b r : Bool). cond b r false) (sym (ap p (add-zero a)) ∙ sym (h zero)) (range_from n (a + 1) p (λ i. q (suc i)) (λ i. h (suc i) ∙ ap p (omega arith)))
  where
    first : (b r : Bool) → (b && r) ≡ cond b r false
    first true r = refl
    first false r = refl

pub all_range : (n : ℕ) (p : ℕ → Bool) → list_all p (range_with_len 0 n) ≡ all_below n p
all_range n p = range_from n 0 p p (λ i. ap p (sym (zero-add i)))

-- the first from j on that passes, or i: the least below i, where none below j passes
pub least_range : (j i : ℕ) (p : ℕ → Bool) (r : Option ℕ) → j ≤ i → Missed j p
    → MatchOption r ((k : ℕ) → j ≤ k → k < i → p k ≡ false) (λ x. (j ≤ x) × (x < i) × (p x ≡ true) × ((k : ℕ) → j ≤ k → k < x → p k ≡ false))
    → unwrap_or r i ≡ least_below i p
least_range j i p r l m h = go r h
  where
    missed : (x : ℕ) → ((k : ℕ) → j ≤ k → k < x → p k ≡ false) → Missed x p
    missed x f = record { none = λ k l. at k l (dec_lt k j) }
      where
        at : (k : ℕ) → k < x → Dec (k < j) → p k ≡ false
        at k l (yes b) = m.none k b
        at k l (no b) = f k (omega arith) l

    go : (r : Option ℕ) → MatchOption r ((k : ℕ) → j ≤ k → k < i → p k ≡ false) (λ x. (j ≤ x) × (x < i) × (p x ≡ true) × ((k : ℕ) → j ≤ k → k < x → p k ≡ false)) → unwrap_or r i ≡ least_below i p
    go None f = sym (missed-end (missed i f) i refl)
    go (Some x) f = sym (missed-found (missed x f.3) i f.1 f.2)
