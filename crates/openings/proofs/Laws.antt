-- Laws of runs and steps of an opening.
use mathlib.Core.Path.{◌≡◌, ap, sym, ◌∙◌}
use mathlib.Core.List.{List, ◌∷◌, []}
use Prim.Native.Nat.{ℕ, ◌+◌, ◌≤◌, ◌<◌}
use native.Mathlib.Numerals.{add-one}
use lib.ListN.{length, get_or, drop, drop_of_length-le}
use lib.Seq.{drop-cons}
use Rattle.meaning.specs.Openings.{run_from_in}
use Rattle.meaning.specs.declared.State.{State}
use Rattle.openings.specs.Steps.{state_after, stepped_in}
use Rattle.std.proofs.Common.{Result}
use Rattle.meaning.specs.declared.Arrival.{Arrival}
use Rattle.meaning.specs.declared.Refusal.{Refusal}

module _ (n : ℕ) (t : List ℕ) (P S : ℕ) (s : State) where
  -- a step passes from the events at i on to those at i + 1, and at the end nothing is left
  module _ (es : List ℕ) (i : ℕ) where
    pub step-on : i < length es → {r : Result (Arrival State) Refusal} → r ≡ run_from_in n t P S s (get_or es i 0 ∷ []) → {k : State} → k ≡ state_after r s
        → stepped_in n t P S k (drop (i + 1) es) ≡ stepped_in n t P S s (drop i es)
    unfolding stepped_in
    step-on l h {k} p =
        let to : k ≡ state_after (run_from_in n t P S s (get_or es i 0 ∷ [])) s = p ∙ ap (λ (x : Result (Arrival State) Refusal). state_after x s) h in
        rw (add-one i, drop-cons es i 0 l, to)

    pub step_end : length es ≤ i → s ≡ stepped_in n t P S s (drop i es)
    unfolding stepped_in
    step_end l = ap (λ (x : List ℕ). stepped_in n t P S s x) (sym (drop_of_length-le es {i = i} l))
