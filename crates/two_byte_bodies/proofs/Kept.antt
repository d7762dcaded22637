-- Every file but those with a third byte in an "at least" has the judgement, the rule and the table that it had.
use mathlib.Core.Path.{◌≡◌, refl, ap, ◌∙◌}
use mathlib.Core.Logic.{◌⊎◌, inl, inr}
use mathlib.Core.List.{List}
use Prim.Native.Nat.{ℕ, ◌+◌}
use Rattle.meaning.specs.Bytes.{u16_at}
use Rattle.meaning.specs.RuleFiles.{Rule, alphabet_of, property_of, Judgement, Accepted, Refused, judge}
use Rattle.meaning.specs.declared.Refusal.{Refusal}
use Rattle.residuals.specs.System.{System}
use Rattle.ltl.proofs.Instance.{ltl_system}
use Rattle.smallest.specs.Table.{Outcome, table_of}
use Rattle.smallest.proofs.Accepted.{accepted-formed}
use Rattle.smallest.proofs.Tables.{of-formed}
use Rattle.smallest.proofs.Alike.{Alike, alike, system-same, tables-same}
use Rattle.building.specs.Build.{outcome_of, answer_to, output_of, answer_of, output_after}
use Rattle.two_byte_bodies.specs.Earlier.{old_property, old_judge}
use Rattle.two_byte_bodies.specs.Kept.{widened_rule, widened_judgement, ThirdByte, old_answer, old_output, Kept}
use Rattle.two_byte_bodies.proofs.Readings.{readings}
use Rattle.two_byte_bodies.proofs.Meanings.{property-kept}

rule-same : (r : Rule) → Alike (alphabet_of r) (alphabet_of r) (property_of (widened_rule r)) (old_property r)
rule-same r = alike (alphabet_of r) (property-kept r)

module _ (system : (r : Rule) → System (alphabet_of r) (old_property r)) (file : List ℕ) (same : judge file ≡ widened_judgement (old_judge file)) where
  outcome-same : (r : Rule) → old_judge file ≡ Accepted r → outcome_of (widened_rule r) ≡ table_of (system r) r.signals
  unfolding outcome_of
  outcome-same r q = tables-same (rule-same r) (of-formed (accepted-formed file (widened_rule r) (same ∙ ap widened_judgement q))) (ltl_system (widened_rule r)) (system r)

  -- what follows from the judgement
  follows : {A : Type 0} (now was : Judgement → A) → ((r : Rule) → old_judge file ≡ Accepted r → now (Accepted (widened_rule r)) ≡ was (Accepted r))
      → ((x : Refusal) → now (Refused x) ≡ was (Refused x)) → now (judge file) ≡ was (old_judge file)
  follows now was accepted refused = ap now same ∙ go (old_judge file) refl
    where
      go : (j : Judgement) → old_judge file ≡ j → now (widened_judgement j) ≡ was j
      go (Accepted r) q = accepted r q
      go (Refused x) q = refused x

  all-kept : Kept system file
  all-kept = record {
    judgement = same;
    rule = λ r q. property-kept r;
    answer = λ out. follows (λ j. answer_of j out) (λ j. old_answer system j out) (λ r q. ap (λ (x : Outcome). answer_to x out) (outcome-same r q)) (λ x. refl);
    output = λ out. follows (λ j. output_after j out) (λ j. old_output system j out) (λ r q. ap (λ (x : Outcome). output_of x out) (outcome-same r q)) (λ x. refl);
  }

pub kept : (system : (r : Rule) → System (alphabet_of r) (old_property r)) (file : List ℕ) → Kept system file ⊎ ThirdByte file
kept system file = elim (readings file) [ inl same ↦ inl (all-kept system file same) | inr third ↦ inr third ]

-- there is such a system: that of the rule as it is now
pub old_system : (r : Rule) → System (alphabet_of r) (old_property r)
old_system r = system-same (rule-same r) (ltl_system (widened_rule r))

pub kept_here : (file : List ℕ) → Kept old_system file ⊎ ThirdByte file
kept_here file = kept old_system file

-- a file with no such record
pub two-byte-only : (file : List ℕ) → ((p : ℕ) → u16_at file (p + 2) ≡ 3 → ¬ (u16_at file p ≡ 5)) → Kept old_system file
two-byte-only file none = elim (kept_here file) [ inl all ↦ all | inr third ↦ absurd (none third.place third.kind third.length) ]
