-- What writing a rule says.
use Rattle.std.specs.Prelude.{List, ℕ}
use Rattle.meaning.specs.Traces.{full_mask}
use Rattle.meaning.specs.RuleFiles.{Rule}
use Rattle.meaning.specs.declared.Node.{Node}

-- the rule of the nodes, where all events can happen
abbrev pub unmasked : ℕ → List Node → Rule
unmasked P nodes = record { signals = P; mask = full_mask P; nodes = nodes }
