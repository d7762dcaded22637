-- What the code of this crate has counted and filled.
use mathlib.Core.Path.{◌≡◌, refl, ap, ◌∙◌}
use mathlib.Core.List.{List, ◌∷◌}
use mathlib.Core.Bool.{Bool, true, false, cond, not, ◌&&◌}
use Rattle.std.specs.Prelude.{◌==◌, eqb, count_by}
use Rattle.std.proofs.lemmas.List.Recursion.{is_count_by}
use Prim.Native.Nat.{ℕ, ◌+◌}
use native.Mathlib.Omega.{arith}
use lib.ListN.{take, drop}
use lib.Seq.{take_at}
use Rattle.sequences.specs.Tabulate.{tabulate}
use Rattle.sequences.proofs.Loops.{Filled, filled-to, length-tab}
use Rattle.text_nodes.specs.Occurrences.{occurrences}

-- a sign that is no bracket
abbrev pub makes_node : ℕ → Bool
makes_node x = not (x == 10) && not (x == 11)

pub occurrences-counted : (s : List ℕ) → occurrences s ≡ count_by makes_node s
unfolding occurrences
occurrences-counted s = is_count_by occurrences makes_node refl (λ x xs. step x xs (eqb x 10) refl (eqb x 11) refl) s
  where
    step : (x : ℕ) (xs : List ℕ) (b : Bool) → eqb x 10 ≡ b → (c : Bool) → eqb x 11 ≡ c
        → occurrences (x ∷ xs) ≡ cond (makes_node x) (1 + occurrences xs) (occurrences xs)
    step x xs true e c f = rw e (omega arith)
    step x xs false e true f = rw (e, f) (omega arith)
    step x xs false e false f = rw (e, f) (omega arith)

-- an array of 64 filled up to count holds the nodes in front
pub filled-front : {A : Type 0} {n : ℕ} {f : ℕ → A} {d s : List A} (count : ℕ) → Filled n f d s → n ≡ count → take count s ≡ tabulate count f
filled-front {f = f} {d} count p e = ap (take count) (filled-to count p e) ∙ take_at (tabulate count f) (drop count d) count (length-tab count f)
