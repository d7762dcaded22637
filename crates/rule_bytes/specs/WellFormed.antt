-- The rules that a rule file can say without a mask.
use Rattle.std.specs.Prelude.{◌≡◌, List, [], ◌∷◌, true, false, cond, ℕ, suc, ◌+◌, ◌*◌, ◌≤◌, ◌<◌, length, get_or, eqb}
use Rattle.meaning.specs.Traces.{full_mask}
use Rattle.meaning.specs.RuleFiles.{Rule, body_length, operands_fit, temporals}
use Rattle.meaning.specs.RuleTexts.{node, any_out_of_range}
use Rattle.meaning.specs.declared.Node.{Node}

-- the node with number i: of a kind, with earlier nodes as operands, and 0 where its body has no byte; as it is written, an "at least" says no upper count
pub record Formed (i : ℕ) (n : Node) : Type 0 where
  pub kind : n.kind ≤ 13
  pub operands : operands_fit i n ≡ true
  pub unused_a : body_length n.kind < 1 → n.a ≡ 0
  pub unused_b : body_length n.kind < 2 → n.b ≡ 0
  pub upper_unsaid : n.upper ≡ cond (eqb n.kind 3) 4 0

-- each of the nodes, the first of them with number i
abbrev pub AllFormed : ℕ → List Node → Type 0
AllFormed i [] = Unit {0}
AllFormed i (n ∷ ns) = Formed i n × AllFormed (suc i) ns

-- the bytes of the longest file that is accepted: the first record, the mask's, and 64 nodes that are each an "at least" with its upper count
abbrev pub longest_accepted : ℕ
longest_accepted = 6 + 6 + 64 * 7

-- each is of a kind that there is
pub record KindsFit (ns : List Node) : Type 0 where
  pub kind : (i : ℕ) → i < length ns → (get_or ns i (node 0 0 0)).kind ≤ 13

-- as it is written, a file says no mask
pub record WellFormed (r : Rule) : Type 0 where
  pub signals_low : 1 ≤ r.signals
  pub signals_high : r.signals ≤ 4
  pub mask_unsaid : r.mask ≡ full_mask r.signals
  pub count_low : 1 ≤ length r.nodes
  pub count_high : length r.nodes ≤ 64
  pub formed : AllFormed 0 r.nodes
  pub in_range : any_out_of_range r.signals r.nodes ≡ false
  pub temporal_few : temporals r.nodes ≤ 7
