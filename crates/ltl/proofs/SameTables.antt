-- Two tables that hold the same entries for the events that can happen and the labels there are give the same keys, whatever else they hold.
use mathlib.Core.Path.{◌≡◌, subst}
use mathlib.Core.List.{List}
use Prim.Native.Nat.{ℕ, ◌^◌}
use lib.Dec.{T}
use Rattle.meaning.specs.Traces.{Alphabet}
use Rattle.ltl.specs.Sets.{on}
use Rattle.ltl.specs.Nodes.{Split, temporals}
use Rattle.ltl.specs.Residuals.{whole_set}
use Rattle.ltl.proofs.Sets.{same-members}
use Rattle.ltl.proofs.Truth.{t-equal}
use Rattle.ltl.proofs.Tables.{Tabulates}
use Rattle.ltl.proofs.Profiles.{whole-complete, whole-sound}

module _ {Σ : Alphabet} {ns : List Split} {profile fair profile' fair' : ℕ → ℕ → ℕ} (t : Tabulates Σ ns profile fair) (t' : Tabulates Σ ns profile' fair') where
  abbrev n : ℕ
  n = 2 ^ temporals ns

  pub same_whole : whole_set Σ n profile (temporals ns) fair ≡ whole_set Σ n profile' (temporals ns) fair'
  same_whole =
      same-members (whole_set Σ n profile (temporals ns) fair) (whole_set Σ n profile' (temporals ns) fair')
      (λ p. t-equal (on (whole_set Σ n profile (temporals ns) fair) p) (on (whole_set Σ n profile' (temporals ns) fair') p)
      (λ h. let r = whole-sound t p h in subst (λ (q : ℕ). T (on (whole_set Σ n profile' (temporals ns) fair') q)) r.is (whole-complete t' r.lasso r.continuation))
      (λ h. let r = whole-sound t' p h in subst (λ (q : ℕ). T (on (whole_set Σ n profile (temporals ns) fair) q)) r.is (whole-complete t r.lasso r.continuation)))
