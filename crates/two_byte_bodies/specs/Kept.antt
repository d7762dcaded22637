-- What C-12 leaves as it was: judgement, rule and table of every file but those with a body that was too long before.
use Rattle.std.specs.Prelude.{◌≡◌, ◌↔◌, List, map, cond, ℕ, ◌+◌, eqb}
use Rattle.meaning.specs.Bytes.{u16_at}
use Rattle.meaning.specs.Traces.{Lasso}
use Rattle.meaning.specs.RuleFiles.{Rule, alphabet_of, property_of, Judgement, Accepted, Refused, judge}
use Rattle.meaning.specs.declared.Node.{Node}
use Rattle.meaning.specs.declared.Refusal.TheVariants.{WrongLength}
use Rattle.residuals.specs.System.{System}
use Rattle.smallest.specs.Table.{table_of}
use Rattle.building.specs.Build.{answer_to, output_of, answer_of, output_after}
use Rattle.two_byte_bodies.specs.Earlier.{old_property, old_judge}
use Rattle.std.specs.Prelude.{Result, Err}
use Rattle.meaning.specs.declared.Refusal.{Refusal}

-- the same node with its upper count: "Two-byte bodies stay right and mean an upper count of 4."
abbrev pub widened : Node → Node
widened n = record { kind = n.kind; a = n.a; b = n.b; upper = cond (eqb n.kind 3) 4 0 }

abbrev pub widened_rule : Rule → Rule
widened_rule r = record { signals = r.signals; mask = r.mask; nodes = map widened r.nodes }

abbrev pub widened_judgement : Judgement → Judgement
widened_judgement (Accepted r) = Accepted (widened_rule r)
widened_judgement (Refused x) = Refused x

-- the only files with another judgement: they were refused by 2 at an "at least" with a third byte
pub record ThirdByte (file : List ℕ) : Type 0 where
  pub place : ℕ
  pub was : old_judge file ≡ Refused (WrongLength place)
  pub kind : u16_at file (place + 2) ≡ 3
  pub length : u16_at file place ≡ 2 + 3

-- what building answered, and left in the output: by the judgement of that time, and by any residual system of what the rule meant then
module _ (system : (r : Rule) → System (alphabet_of r) (old_property r)) where
  abbrev pub old_answer : Judgement → List ℕ → Result ℕ Refusal
  old_answer (Accepted r) out = answer_to (table_of (system r) r.signals) out
  old_answer (Refused x) out = Err x

  abbrev pub old_output : Judgement → List ℕ → List ℕ
  old_output (Accepted r) out = output_of (table_of (system r) r.signals) out
  old_output (Refused x) out = out

  -- the judgement it had, the rule it had up to the widened node, which says what it said, and the table it had, byte for byte
  pub record Kept (file : List ℕ) : Type 0 where
    pub judgement : judge file ≡ widened_judgement (old_judge file)
    pub rule : (r : Rule) → old_judge file ≡ Accepted r → (ρ : Lasso) → property_of (widened_rule r) ρ ↔ old_property r ρ
    pub answer : (out : List ℕ) → answer_of (judge file) out ≡ old_answer (old_judge file) out
    pub output : (out : List ℕ) → output_after (judge file) out ≡ old_output (old_judge file) out
