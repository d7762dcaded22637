-- `explore` meets its contract: the walk from the first key, then the class of each key.
use mathlib.Core.Path.{sym, ap, ◌∙◌}
use mathlib.Core.List.{[], ◌∷◌}
use Prim.Native.Nat.{ℕ}
use Rattle.ltl.specs.Keys.{start_key}
use Rattle.profile_sets.specs.Arrays.{tables_by}
use Rattle.profile_sets.proofs.Tables.{start_is}
use Rattle.exploration.proofs.Explored.{tabled-at}
use Rattle.exploration.proofs.explore.Goals as goal

pub walk-requires : goal.walk-requires
walk-requires c = let tabled = tabled-at c.width.ensures.0 c.power.ensures.0 c.requires.2 in
    c.new-keys.ensures ∙ ap (λ (k : ℕ). k ∷ []) (c.pack.ensures ∙ start_is tabled c.start_profiles-first.result c.start_profiles-first.ensures
    ∙ ap (λ (W : ℕ). start_key (tables_by c.power.result c.args.profiles.now W)) (sym c.pack-full.ensures))
