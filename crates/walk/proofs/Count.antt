-- A walk that closed has as many states as there are different remaining properties: more than n exactly if it has more than n.
use mathlib.Core.Path.{◌≡◌, sym, subst}
use mathlib.Core.List.{List}
use Prim.Native.Nat.{ℕ, suc, ◌≤◌, ◌<◌}
use native.Mathlib.Decide.{dec_lt}
use native.Mathlib.Omega.{arith}
use lib.ListN.{length}
use Rattle.sequences.proofs.Pigeonhole.{Injective, injective-le}
use Rattle.meaning.specs.Traces.{Alphabet}
use Rattle.meaning.specs.Verdicts.{Property, SameResidual, MoreThan}
use Rattle.meaning.specs.Monitors.{follow}
use Rattle.meaning.specs.declared.Verdict.TheVariants.{Undecided}
use Rattle.residuals.specs.System.{System}
use Rattle.walk.specs.Explore.{monitor_with}
use Rattle.walk.proofs.Residual.{same-sym, same-trans}
use Rattle.walk.proofs.Closed.{Closed, stands-in, stands_same}

module _ {Σ : Alphabet} {L : Property} (S : System Σ L) {limit : ℕ} {keys : List S.Key} {rows : List (List ℕ)} (C : Closed S limit keys rows) where
  -- where the monitor stands after a word; no verdict matters
  stand : List ℕ → ℕ
  stand w = follow (monitor_with rows (λ _. Undecided)) 0 w

  -- the lists end on different states
  apart : (n : ℕ) (M : MoreThan Σ L n) → Injective (suc n) (length keys) (λ i. stand (M.list i))
  unfolding stand
  apart n M = record { into = λ i l. stands-in S C (λ _. Undecided) (M.list i) (M.word i (omega arith)); injective = λ i j l m q. one i j l m q (dec_lt i j) (dec_lt j i) }
    where
      same : (i j : ℕ) → i < suc n → j < suc n → stand (M.list i) ≡ stand (M.list j) → SameResidual Σ L (M.list i) (M.list j)
      same i j l m q =
          let u : List ℕ = C.access (stand (M.list i)) in
          same-trans Σ L (M.list i) u (M.list j) (stands_same S C (λ _. Undecided) (M.list i) (M.word i (omega arith)))
          (same-sym Σ L (M.list j) u (subst (λ (s : ℕ). SameResidual Σ L (M.list j) (C.access s)) (sym q) (stands_same S C (λ _. Undecided) (M.list j) (M.word j (omega arith)))))

      one : (i j : ℕ) → i < suc n → j < suc n → stand (M.list i) ≡ stand (M.list j) → Dec (i < j) → Dec (j < i) → i ≡ j
      one i j l m q (yes p) d = absurd (M.differ i j p (omega arith) (same i j l m q))
      one i j l m q (no p) (yes d) = absurd (M.differ j i d (omega arith) (same j i m l (sym q)))
      one i j l m q (no p) (no d) = omega arith

  pub not_more : (n : ℕ) → length keys ≤ n → ¬ MoreThan Σ L n
  not_more n l M = omega (arith, injective-le (suc n) (length keys) (apart n M))
