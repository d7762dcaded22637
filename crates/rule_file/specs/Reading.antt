-- What reading a rule file returns.
use Rattle.std.specs.Prelude.{List, ◌++◌, ℕ, ◌-◌, length, take, replicate, Result, Ok, Err}
use Rattle.meaning.specs.RuleFiles.{Rule, Judgement, Accepted, Refused}
use Rattle.meaning.specs.declared.Node.{Node}
use Rattle.meaning.specs.declared.Refusal.{Refusal}
use Rattle.rule_file.specs.declared.Rule as declared

abbrev pub blank : Node
blank = record { kind = 0; a = 0; b = 0; upper = 0 }

-- the rule of the first `count` nodes
abbrev pub rule_in : ℕ → ℕ → ℕ → List Node → Rule
rule_in P mask count nodes = record { signals = P; mask = mask; nodes = take count nodes }

-- the nodes, and blank ones after them
abbrev pub padded : List Node → List Node
padded ns = ns ++ replicate (64 - length ns) blank

-- a rule as it is handed on
abbrev pub handed : Rule → declared.Rule
handed rule = record { signals = rule.signals; mask = rule.mask; count = length rule.nodes; nodes = padded rule.nodes }

abbrev pub read_of : Judgement → Result declared.Rule Refusal
read_of (Accepted rule) = Ok (handed rule)
read_of (Refused x) = Err x
