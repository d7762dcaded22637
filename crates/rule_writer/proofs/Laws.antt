-- One node more of those at the front of a list, one record, and the whole file.
--     temporals-take, bytes_take, length_more     what is counted of the nodes, and their bytes, with one node more
--     bytes-within                                the node at an index: room for its record
--     file-put                                    the file is the first record and the nodes'
--     range-any                                   whether some node is out of range, as std says it
--     answered                                    the answer where no check refuses
use mathlib.Core.Path.{◌≡◌, refl, sym, ap, ◌∙◌}
use mathlib.Core.List.{List, [], ◌∷◌, ◌++◌}
use mathlib.Core.Bool.{Bool, false, cond, not, ◌||◌}
use Prim.Native.Nat.{ℕ, ◌+◌, ◌≤◌, ◌<◌}
use native.Mathlib.Numerals.{add-one}
use native.Mathlib.Omega.{arith}
use lib.ListN.{length, get_or, take, drop, length-append}
use lib.Seq.{take-suc}
use borrow.Author.Tests.{le-ltb}
use Rattle.std.proofs.Common.{Ok}
use Rattle.std.specs.List.{list_any}
use Rattle.std.proofs.lemmas.List.{take-append-drop}
use Rattle.meaning.specs.RuleFiles.{Rule, temporal, temporals, ranges_fit}
use Rattle.meaning.specs.RuleTexts.{node, node_bytes, nodes_bytes, rule_bytes, any_out_of_range, rule_answer}
use Rattle.meaning.specs.declared.Node.{Node}
use Rattle.rule_file.proofs.Nodes.{temporals-more}
use Rattle.text_pieces.specs.Put.{Put}
use Rattle.text_pieces.proofs.Laws.{put-more, put_is}
use Rattle.rule_bytes.proofs.Lengths.{bytes-append, bytes_one, file-length}
use Rattle.rule_writer.specs.Writing.{unmasked}

-- ---- the node at an index

module _ (nodes : List Node) (i : ℕ) (l : i < length nodes) where
  abbrev here : Node
  here = get_or nodes i (node 0 0 0)

  take_more : take (i + 1) nodes ≡ take i nodes ++ (here ∷ [])
  take_more = ap (λ (k : ℕ). take k nodes) (add-one i) ∙ take-suc nodes i (node 0 0 0) l

  pub temporals-take : temporals (take (i + 1) nodes) ≡ temporals (take i nodes) + cond (temporal here.kind) 1 0
  temporals-take = ap temporals take_more ∙ temporals-more (take i nodes) here

  pub bytes_take : nodes_bytes (take (i + 1) nodes) ≡ nodes_bytes (take i nodes) ++ node_bytes here
  bytes_take = ap nodes_bytes take_more ∙ bytes-append (take i nodes) (here ∷ []) ∙ ap (λ (b : List ℕ). nodes_bytes (take i nodes) ++ b) (bytes_one here)

  pub length_more : length (nodes_bytes (take (i + 1) nodes)) ≡ length (nodes_bytes (take i nodes)) + length (node_bytes here)
  length_more = ap length bytes_take ∙ length-append (nodes_bytes (take i nodes)) (node_bytes here)

  pub bytes-within : length (nodes_bytes (take i nodes)) + length (node_bytes here) ≤ length (nodes_bytes nodes)
  bytes-within =
      let rest : List Node = drop (i + 1) nodes in
      omega (
        arith,
        ap (λ (ns : List Node). length (nodes_bytes ns)) (sym (take-append-drop (i + 1) nodes)),
        ap length (bytes-append (take (i + 1) nodes) rest),
        length-append (nodes_bytes (take (i + 1) nodes)) (nodes_bytes rest),
        length_more,
      )

-- ---- the file

-- the first record, and the nodes' after it
pub file-put : (P n : ℕ) (nodes : List Node) {d s r : List ℕ} {i j : ℕ} → n ≡ length nodes → Put d 0 (4 ∷ 0 ∷ 0 ∷ 1 ∷ P ∷ n ∷ []) s i → Put s i (nodes_bytes nodes) r j
    → Put d 0 (rule_bytes (unmasked P nodes)) r j
unfolding rule_bytes
file-put P n nodes e h k =
    put_is (put-more h k) (rule_bytes (unmasked P nodes)) (ap (λ (n : ℕ). (4 ∷ 0 ∷ 0 ∷ 1 ∷ P ∷ n ∷ []) ++ nodes_bytes nodes) e)

-- ---- the checks

pub range-any : (P : ℕ) (ns : List Node) → list_any (λ n. not (ranges_fit P n)) ns ≡ any_out_of_range P ns
unfolding any_out_of_range
range-any P [] = refl
range-any P (n ∷ ns) = ap (λ (b : Bool). not (ranges_fit P n) || b) (range-any P ns)

pub answered : (r : Rule) (room : ℕ) → any_out_of_range r.signals r.nodes ≡ false → temporals r.nodes ≤ 7 → 6 + length (nodes_bytes r.nodes) ≤ room
    → rule_answer room r ≡ Ok (length (rule_bytes r))
unfolding rule_answer
answered r room a few fits = rw (a, le-ltb 7 (temporals r.nodes) few, le-ltb room (length (rule_bytes r)) (omega (arith, file-length r)))
