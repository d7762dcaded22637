-- Where the answer of a tree is a length, its rule file has this length and is accepted.
use mathlib.Core.Path.{◌≡◌}
use mathlib.Core.List.{List, [], ◌∷◌}
use mathlib.Core.Bool.{Bool, not, ◌&&◌, and-eq-true_iff}
use Prim.Native.Nat.{ℕ, ◌≤◌}
use native.Mathlib.Omega.{arith}
use lib.ListN.{length}
use lib.Dec.{ltb, leb}
use borrow.Author.Tests.{leb-true, ltb-false, not-false}
use Rattle.meaning.specs.RuleFiles.{Rule, Accepted, temporals, first_of, judge}
use Rattle.meaning.specs.Grammar.{Tree}
use Rattle.meaning.specs.RuleTexts.{size, rule_of, rule_bytes, any_out_of_range, rule_answer, tree_answer}
use Rattle.meaning.specs.declared.Refusal.{Refusal}
use Rattle.meaning.specs.declared.Refusal.TheVariants.{WrongSignals, OutOfRange, EighthTemporal, ShortOutput, TooManyNodes}
use Rattle.rule_records.proofs.Checks.{Cleared, first-cleared}
use Rattle.grammar.specs.Signs.{Signs}
use Rattle.rule_bytes.proofs.RoundTrip.{reads-back}
use Rattle.rule_bytes.proofs.Trees.{tree-rule}
use Rattle.std.proofs.Common.{Result, Ok, Err}

-- the file of a tree over P signals has n bytes, for which there is room, and is accepted
pub record AcceptedFile (P room : ℕ) (t : Tree) (n : ℕ) : Type 0 where
  pub length-is : n ≡ length (rule_bytes (rule_of P t))
  pub fits : n ≤ room
  pub judged : judge (rule_bytes (rule_of P t)) ≡ Accepted (rule_of P t)

-- a length is the answer where no check fails
cleared : (n : ℕ) (x : Result ℕ Refusal) (cs : List (Bool × Refusal)) → first_of Err cs x ≡ Ok n → Cleared cs (length cs) × (x ≡ Ok n)
cleared n x cs e = first-cleared Err x (Ok n) other cs e
  where
    other : (r : Refusal) → Err r ≡ Ok n → ⊥
    other r e = cc

pub accepted : (P room : ℕ) (t : Tree) (n : ℕ) → Signs t → tree_answer P room t ≡ Ok n → AcceptedFile P room t n
unfolding tree_answer rule_answer
accepted P room t n h e =
    let r : Rule = rule_of P t in
    let first = cleared n (rule_answer room r) ((not (leb 1 P && leb P 4), WrongSignals) ∷ (ltb 64 (size t), TooManyNodes) ∷ []) e in
    let second =
    cleared n (Ok (length (rule_bytes r)))
    ((any_out_of_range P r.nodes, OutOfRange 0) ∷ (ltb 7 (temporals r.nodes), EighthTemporal 0) ∷ (ltb room (length (rule_bytes r)), ShortOutput) ∷ [])
    first.1 in
    let q = second.1 in
    let long : n ≡ length (rule_bytes r) = cc in
    let signals = (and-eq-true_iff (leb 1 P) (leb P 4)).0 (not-false _ (first.0.none 0 (omega arith))) in
    record {
      length-is = long;
      fits = omega (arith, ltb-false room (length (rule_bytes r)) (second.0.none 2 (omega arith)));
      judged =
          reads-back r
          (tree-rule P t h (leb-true 1 P signals.0) (leb-true P 4 signals.1) (ltb-false 64 (size t) (first.0.none 1 (omega arith)))
          (second.0.none 0 (omega arith))
          (ltb-false 7 (temporals r.nodes) (second.0.none 1 (omega arith))));
    }
