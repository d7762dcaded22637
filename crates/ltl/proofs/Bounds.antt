-- How large the numbers are that specs/ computes: with m temporal nodes and n = 2 ^ m labels, profiles are below n + n and sets of them below 2 ^ (n + n).
use mathlib.Core.List.{List}
use Prim.Native.Nat.{ℕ, ◌+◌, ◌-◌, ◌^◌, ◌<◌}
use native.Mathlib.Nat.{pow-suc}
use native.Mathlib.Omega.{arith}
use lib.ListN.{length}
use Rattle.meaning.specs.Traces.{Alphabet}
use Rattle.ltl.specs.Sets.{on}
use Rattle.ltl.specs.Nodes.{Split, temporals}
use Rattle.ltl.specs.Valuation.{valued, profile_of}
use Rattle.ltl.specs.Residuals.{whole_set}
use Rattle.ltl.proofs.Sets.{put-lt, members-lt}
use Rattle.ltl.proofs.Labels.{label-lt}
use Rattle.ltl.proofs.Tables.{Tabulates, profile-valued}
use Rattle.ltl.proofs.Profiles.{whole_below}

pub profile-lt : (e y : ℕ) (ns : List Split) → profile_of (valued e y ns) < 2 ^ temporals ns + 2 ^ temporals ns
profile-lt e y ns =
    rw (profile-valued e y ns) (omega (arith, put-lt (temporals ns) (on (valued e y ns).values (length ns - 1)) (valued e y ns).label (label-lt e y ns), pow-suc 2 (temporals ns)))

module _ {Σ : Alphabet} {ns : List Split} {profile fair : ℕ → ℕ → ℕ} (table : Tabulates Σ ns profile fair) where
  pub whole-lt : whole_set Σ (2 ^ temporals ns) profile (temporals ns) fair < 2 ^ (2 ^ temporals ns + 2 ^ temporals ns)
  whole-lt = members-lt (2 ^ temporals ns + 2 ^ temporals ns) (whole_set Σ (2 ^ temporals ns) profile (temporals ns) fair) (whole_below table)
