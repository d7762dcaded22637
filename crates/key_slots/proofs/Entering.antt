-- A key entered: what the table holds after it is what the model has.
use mathlib.Core.Path.{◌≡◌, sym, ap, ◌∙◌}
use mathlib.Core.List.{List, [], ◌∷◌, ◌++◌}
use Prim.Native.Nat.{ℕ, ◌≤◌, ◌<◌}
use native.Mathlib.Omega.{arith}
use lib.ListN.{length, get_or}
use lib.Dec.{eqb}
use Rattle.std.specs.Prelude.{Some, None}
use Rattle.std.proofs.lemmas.List.{get_or_default}
use Rattle.sequences.specs.Tabulate.{least_below}
use Rattle.sequences.proofs.Pointwise.{least-same}
use Rattle.walk.specs.Explore.{within, locate, enter}
use Rattle.walk.proofs.Steps.{enter-met, enter-new, enter-over}
use Rattle.key_slots.specs.Answers.{met_at, Finds, Beyond}

module _ (keys : List ℕ) (k s : ℕ) where
  located : locate eqb s keys k ≡ least_below (length keys) (met_at keys k)
  unfolding locate
  located = least-same (length keys) (λ i. eqb (get_or keys i s) k) (met_at keys k) (λ i l. ap (λ (x : ℕ). eqb x k) (get_or_default keys i s 0 l))

  pub entered-met : {i : ℕ} → Finds keys k (Some i) → enter eqb s 256 keys k ≡ within keys i
  entered-met {i} f = enter-met eqb s 256 keys k (omega (arith, f.0, f.1, located)) ∙ ap (within keys) (located ∙ sym f.1)

  pub entered-new : Finds keys k None → length keys < 256 → enter eqb s 256 keys k ≡ within (keys ++ (k ∷ [])) (length keys)
  entered-new f l = enter-new eqb s 256 keys k (omega (arith, f, located)) l

  pub entered-full : Finds keys k None → 256 ≤ length keys → Beyond (enter eqb s 256 keys k)
  entered-full f l = record { keys = keys; key = k; is = enter-over eqb s 256 keys k (omega (arith, f, located)) l }
