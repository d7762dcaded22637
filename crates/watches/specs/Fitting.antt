-- Whether a watch fits, by the mask of the events that can happen; the slots of a watch without the first.
use Rattle.std.specs.Prelude.{List, [], ◌∷◌, ◌++◌, Bool, ◌&&◌, ℕ, ltb, leb, drop}
use Rattle.sequences.specs.Tabulate.{every}
use Rattle.meaning.specs.Desks.{queue, counted}
use Rattle.meaning.specs.declared.Watch.{Watch}
use Rattle.event_lists.specs.Masks.{all_in}

-- the tests of `Desks.watch_fits`, of a mask that has the alphabet's events
abbrev pub fits_in : ℕ → ℕ → Watch → Bool
fits_in m S w = every (ltb w.state S ∷ leb w.waiting 32 ∷ leb (counted w) 4294967295 ∷ all_in m (queue w) ∷ [])

-- all but the last of them
abbrev pub numbers_fit : ℕ → Watch → Bool
numbers_fit S w = (ltb w.state S && leb w.waiting 32) && leb (counted w) 4294967295

abbrev pub shifted : List ℕ → List ℕ
shifted q = drop 1 q ++ (0 ∷ [])
