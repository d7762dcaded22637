-- Laws of comparing two states in a round.
use mathlib.Core.Path.{◌≡◌, sym, ap, ◌∙◌}
use mathlib.Core.Bool.{Bool, true, false, cond}
use mathlib.Core.List.{List}
use Prim.Native.Nat.{ℕ, ◌<◌}
use native.Mathlib.Omega.{arith}
use lib.ListN.{get_or}
use borrow.Author.Tests.{ne_eqb}
use Rattle.sequences.proofs.Loops.{Missed}
use Rattle.meaning.specs.Traces.{Alphabet}
use Rattle.moore.specs.Grouping.{entry, together, all_events, same_step}
use Rattle.group_slots.specs.Groups.{Least}

module _ (Σ : Alphabet) (rows : List (List ℕ)) (group : List ℕ) where
  pub step-not : (j i : ℕ) → together group j i ≡ false → same_step Σ rows group j i ≡ false
  step-not j i h = ap (λ (b : Bool). cond b (all_events Σ (λ e. together group (entry rows j e) (entry rows i e))) false) h

  pub step_is : (j i : ℕ) (b : Bool) → together group j i ≡ true → b ≡ all_events Σ (λ e. together group (entry rows j e) (entry rows i e)) → b ≡ same_step Σ rows group j i
  step_is j i b h e = e ∙ sym (ap (λ (b : Bool). cond b (all_events Σ (λ e. together group (entry rows j e) (entry rows i e))) false) h)

  -- no state before the name of a group is in it
  pub missed-before : (n i j : ℕ) → Least n group → i < n → j ≡ get_or group i 0 → Missed j (λ k. same_step Σ rows group k i)
  missed-before n i j h i_in e = record {
    none = λ k l. step-not k i (ne_eqb (get_or group k 0) (get_or group i 0) (λ q.
        let a = h.least i i_in in
        let b = h.least k (omega arith) in
        omega arith));
  }
