-- What a table of profiles and of fairness, by event and next label, must hold for the theory of labels to speak of it.
use mathlib.Core.Path.{◌≡◌, ap, ap₂, ◌∙◌}
use mathlib.Core.Bool.{Bool, true, false}
use mathlib.Core.List.{List}
use Prim.Native.Nat.{ℕ, ◌-◌, ◌%◌, ◌^◌, ◌<◌}
use native.Mathlib.Nat.{zero-add, mod-eq_of_lt, add-mod_right}
use lib.ListN.{length}
use Rattle.meaning.specs.Traces.{Alphabet, Event}
use Rattle.ltl.specs.Sets.{on, put}
use Rattle.ltl.specs.Nodes.{Split, temporals}
use Rattle.ltl.specs.Valuation.{none, valued, profile_of}
use Rattle.ltl.specs.Residuals.{before}
use Rattle.ltl.proofs.Valuation.{count-all}
use Rattle.ltl.proofs.Labels.{valued-temporals, label-lt}

pub record Tabulates (Σ : Alphabet) (ns : List Split) (profile fair : ℕ → ℕ → ℕ) : Type 0 where
  pub profile-is : (e y : ℕ) → Event Σ e → y < 2 ^ temporals ns → profile e y ≡ profile_of (valued e y ns)
  pub fair-is : (e y : ℕ) → Event Σ e → y < 2 ^ temporals ns → fair e y ≡ (valued e y ns).fairs

-- a profile is the label with the rule's value on top
pub profile-valued : (e y : ℕ) (ns : List Split) → profile_of (valued e y ns) ≡ put (temporals ns) (on (valued e y ns).values (length ns - 1)) (valued e y ns).label
profile-valued e y ns =
    ap₂ (λ (m c : ℕ). put m (on (valued e y ns).values (c - 1)) (valued e y ns).label) (valued-temporals e y ns) (count-all e y none ns ∙ zero-add (length ns))

-- and the label is the profile without it
pub put-mod : (m : ℕ) (b : Bool) (x : ℕ) → x < 2 ^ m → put m b x % 2 ^ m ≡ x
put-mod m true x h = add-mod_right x (2 ^ m) ∙ mod-eq_of_lt h
put-mod m false x h = mod-eq_of_lt h

module _ {Σ : Alphabet} {ns : List Split} {profile fair : ℕ → ℕ → ℕ} (t : Tabulates Σ ns profile fair) where
  pub before-is : (e y : ℕ) → Event Σ e → y < 2 ^ temporals ns → before (2 ^ temporals ns) profile e y ≡ (valued e y ns).label
  before-is e y h l =
      ap (λ (p : ℕ). p % 2 ^ temporals ns) (t.profile-is e y h l ∙ profile-valued e y ns)
      ∙ put-mod (temporals ns) (on (valued e y ns).values (length ns - 1)) (valued e y ns).label (label-lt e y ns)

  pub before-lt : (e y : ℕ) → Event Σ e → y < 2 ^ temporals ns → before (2 ^ temporals ns) profile e y < 2 ^ temporals ns
  before-lt e y h l = rw (before-is e y h l) (label-lt e y ns)
