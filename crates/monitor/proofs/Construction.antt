-- From the answer of the walk to the answer of building.
use mathlib.Core.Path.{◌≡◌, refl, sym, ap, ◌∙◌, subst}
use mathlib.Core.List.{List}
use mathlib.Core.Bool.{Bool}
use Prim.Native.Nat.{ℕ, ◌^◌, ◌≤◌}
use native.Mathlib.Omega.{arith}
use lib.ListN.{take, length-take}
use Rattle.meaning.specs.RuleFiles.{Rule, alphabet_of, Judgement}
use Rattle.meaning.specs.declared.Node.{Node}
use Rattle.meaning.specs.declared.Refusal.TheVariants.{TooManyResiduals}
use Rattle.walk.specs.Explore.{Explored, within, beyond}
use Rattle.moore.specs.Grouping.{Machine}
use Rattle.smallest.proofs.Extensional.{Agree}
use Rattle.table_bytes.specs.Written.{table_bytes}
use Rattle.smallest.specs.Table.{Outcome, Table, reduced_bytes}
use Rattle.smallest.proofs.Accepted.{Formed}
use Rattle.ltl.proofs.Nodes.{split-temporals}
use Rattle.valuation.specs.Valued.{Valuable}
use Rattle.ltl.specs.Arrays.{TablesIn}
use Rattle.profile_sets.specs.Arrays.{tables_in}
use Rattle.exploration.proofs.Explored.{explored-same}
use Rattle.exploration.specs.Answers.{explore_keys, ExploredAs, Explores}
use Rattle.building.specs.Build.{outcome_of, answer_to, output_of, answer_of, output_after}
use Rattle.rule_file.specs.Reading.{rule_in}
use Rattle.monitor.specs.Parts.{Finished, Walks}
use Rattle.monitor.proofs.Walking.{tables_for, class_list, closes, goes-beyond, machine-in, agrees}
use Rattle.monitor.proofs.Writing.{bytes-are, answer_is, output-is}
use Rattle.std.proofs.Common.{Result, Err, Option, Some, None}
use Rattle.exploration.specs.declared.States.{States}
use Rattle.meaning.specs.declared.Refusal.{Refusal}

-- the answer b and the output after it are those of the rule
pub record Answers (r : Rule) (before : List ℕ) (b : Result ℕ Refusal) (after : List ℕ) : Type 0 where
  pub answer : b ≡ answer_of (Judgement.Accepted r) before
  pub output : after ≡ output_after (Judgement.Accepted r) before

-- the walk closed with these states
record Found (r : Rule) (s : States) : Type 0 where
  few : s.count ≤ 256
  machine : Machine (alphabet_of r) s.count s.rows s.classes
  states : List (List ℕ)
  model : List ℕ
  agree : Agree (alphabet_of r) s.count s.rows states s.classes model
  outcome : outcome_of r ≡ Table (reduced_bytes (alphabet_of r) r.signals s.count states model)

module _ {r : Rule} (f : Formed r) where
  module _ {s : States} (a : Walks r (Some s)) where
    found : Found r s
    found = go (explore_keys (tables_for r) (alphabet_of r)) refl a.is
      where
        go : (m : Explored ℕ (List (List ℕ))) → explore_keys (tables_for r) (alphabet_of r) ≡ m → ExploredAs r.signals (tables_for r) m (Some s) → Found r s
        go (within keys states) q A =
            let C = closes r f keys states q in
            let n = sym A.count in
            record {
              few = omega (arith, A.count, C.few);
              machine = subst (λ (k : ℕ). Machine (alphabet_of r) k s.rows s.classes) n (machine-in r C A);
              states = states;
              model = class_list r keys;
              agree = subst (λ (k : ℕ). Agree (alphabet_of r) k s.rows states s.classes (class_list r keys)) n (agrees r C A);
              outcome = C.outcome ∙ ap (λ (k : ℕ). Table (reduced_bytes (alphabet_of r) r.signals k states (class_list r keys))) (C.count ∙ n);
            }
        go (beyond keys k) q A = absurd A

    pub closed-few : s.count ≤ 256
    closed-few = found.few

    pub closed-machine : Machine (alphabet_of r) s.count s.rows s.classes
    closed-machine = found.machine

    pub closed-answers : (before after : List ℕ) (b : Result ℕ Refusal) → Finished r.signals r.mask s.count s.rows s.classes before b after → Answers r before b after
    closed-answers before after b F =
        let is : outcome_of r ≡ Table (table_bytes (alphabet_of r) r.signals F.groups F.bytes F.to) = found.outcome ∙ ap Table (sym (bytes-are r.signals r.mask s.count found.agree F.reduction)) in
        record {
          answer = F.answer ∙ answer_is r F.groups F.bytes F.to is before;
          output = F.output ∙ output-is r F.groups F.bytes F.to is before;
        }

  pub over-answers : Walks r None → (before : List ℕ) → Answers r before (Err TooManyResiduals) before
  over-answers a before = go (explore_keys (tables_for r) (alphabet_of r)) refl a.is
    where
      go : (m : Explored ℕ (List (List ℕ))) → explore_keys (tables_for r) (alphabet_of r) ≡ m → ExploredAs r.signals (tables_for r) m None → Answers r before (Err TooManyResiduals) before
      go (within keys states) q A = absurd A
      go (beyond keys k) q A =
          let e = goes-beyond r f keys k q in
          record { answer = ap (λ (x : Outcome). answer_to x before) (sym e); output = ap (λ (x : Outcome). output_of x before) (sym e) }

-- the answer of the walk over the arrays, as one over the rule's keys
pub walks : (r : Rule) {k : ℕ} {profiles : List (List ℕ)} {whole : List Bool} (found : Option States) → TablesIn (2 ^ r.signals) k (tables_for r) profiles whole
    → Explores r.signals r.mask (tables_in k profiles whole) found → Walks r found
walks r found T E = record { is = explored-same r.signals r.mask T found E }

-- what the tables ask of the nodes
pub valuable : (P mask count : ℕ) (nodes : List Node) → Formed (rule_in P mask count nodes) → count ≤ 64 → Valuable count nodes
valuable P mask count nodes f l =
    record { some = omega (arith, f.some, length-take count nodes); few = l; temporal = omega (arith, split-temporals (take count nodes), f.temporal) }
