-- Rule files without C-14: which events there were, and how the files were read. A rule of that time has the mask of all events, at which nothing
-- looked. What C-14 leaves alone is taken from meaning.
use Rattle.std.specs.Prelude.{List, [], true, ℕ, ◌^◌}
use Rattle.meaning.specs.Traces.{Alphabet, full_mask}
use Rattle.meaning.specs.RuleFiles.{Rule, header_of, nodes_from, Judgement, Refused}
use Rattle.std.specs.Prelude.{Ok, Err}

-- "An event is one byte below 2^P", and each could happen
abbrev pub old_alphabet : Rule → Alphabet
old_alphabet r = record { width = 2 ^ r.signals; possible = λ _. true }

-- the nodes stood behind the first record
unfoldable pub old_judge : List ℕ → Judgement
old_judge b =
    elim (header_of b) [
      | Ok h ↦ nodes_from h.nodes b h.signals (full_mask h.signals) 6 []
      | Err r ↦ Refused r
    ]
