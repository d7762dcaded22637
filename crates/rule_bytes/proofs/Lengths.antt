-- How long rule files are. The file of a tree has five bytes or fewer for each node, and one more for each binary sign; of these there are fewer than
-- half of the nodes. A file that is accepted has seven bytes or fewer for each node.
use mathlib.Core.Path.{◌≡◌, refl, sym, ap, ◌∙◌}
use mathlib.Core.List.{List, [], ◌∷◌, ◌++◌, append_assoc, append-nil}
use mathlib.Core.Bool.{Bool, true, false, cond}
use Prim.Native.Nat.{ℕ, zero, suc, ◌+◌, ◌-◌, ◌*◌, ◌≤◌, ◌<◌}
use native.Mathlib.Omega.{arith}
use lib.ListN.{length, length-append}
use lib.Seq.{length-take-le}
use lib.Dec.{ltb, leb}
use borrow.Author.Tests.{leb-true, ltb-false}
use Rattle.meaning.specs.Bytes.{u16_at}
use Rattle.meaning.specs.RuleFiles.{Rule, body_length, temporals, header_of, mask_of, reading_of, Judgement, Accepted, Refused, nodes_from, judge}
use Rattle.meaning.specs.Grammar.{Tree, leaf, pre, bin}
use Rattle.meaning.specs.RuleTexts.{kind_of, node, size, nodes_of, rule_of, node_bytes, nodes_bytes, rule_bytes}
use Rattle.meaning.specs.declared.Node.{Node}
use Rattle.meaning.specs.declared.Header.{Header}
use Rattle.meaning.specs.declared.Refusal.{Refusal}
use Rattle.meaning.specs.declared.Refusal.TheVariants.{TrailingBytes}
use Rattle.rule_nodes.proofs.Ranges.{Each, within}
use Rattle.rule_records.proofs.Records.{header-few, node-told}
use Rattle.rule_records.proofs.Masks.{mask-near}
use Rattle.rule_file.proofs.Nodes.{judged, judged-refused, judged-mask-refused}
use Rattle.grammar.specs.Signs.{Signs}
use Rattle.rule_bytes.specs.WellFormed.{longest_accepted}
use Rattle.std.proofs.Common.{Result, Ok, Err}
use Rattle.meaning.specs.declared.Mask.{Mask}

pub bytes-append : (ns ms : List Node) → nodes_bytes (ns ++ ms) ≡ nodes_bytes ns ++ nodes_bytes ms
unfolding nodes_bytes
bytes-append [] ms = refl
bytes-append (n ∷ ns) ms = ap (λ (b : List ℕ). node_bytes n ++ b) (bytes-append ns ms) ∙ sym (append_assoc (node_bytes n) (nodes_bytes ns) (nodes_bytes ms))

pub bytes_one : (n : Node) → nodes_bytes (n ∷ []) ≡ node_bytes n
unfolding nodes_bytes
bytes_one n = append-nil (node_bytes n)

pub file-length : (r : Rule) → length (rule_bytes r) ≡ 6 + length (nodes_bytes r.nodes)
unfolding rule_bytes
file-length r = omega arith

-- ---- the nodes of a tree

length-snoc : (ns : List Node) (n : Node) → length (nodes_bytes (ns ++ (n ∷ []))) ≡ length (nodes_bytes ns) + length (node_bytes n)
length-snoc ns n =
    ap length (bytes-append ns (n ∷ [])) ∙ length-append (nodes_bytes ns) (nodes_bytes (n ∷ [])) ∙ ap (λ (b : List ℕ). length (nodes_bytes ns) + length b) (bytes_one n)

node-length : (n : Node) (m : ℕ) → body_length n.kind ≤ m → m ≤ 2 → length (node_bytes n) ≤ 4 + m
node-length n m h l = omega (arith, length-take-le (body_length n.kind) (n.a ∷ n.b ∷ []) (omega arith))

-- of so many signs from lo up the nodes' bodies have at most m bytes, by test
bodies : (lo count m x : ℕ) → Each (λ x. leb (body_length (kind_of x)) m ≡ true) lo count → lo ≤ x → x < lo + count → body_length (kind_of x) ≤ m
bodies lo count m x e l u = leb-true (body_length (kind_of x)) m (within (λ x. leb (body_length (kind_of x)) m ≡ true) lo count e x l u)

tree-bytes : (t : Tree) (k : ℕ) → Signs t → 2 * length (nodes_bytes (nodes_of k t)) + 1 ≤ 11 * size t
unfolding size nodes_of
tree-bytes (leaf x) k h =
    let n = node (kind_of x) (cond (ltb x 4) x 0) 0 in
    omega (arith, ap length (bytes_one n), node-length n 1 (bodies 0 6 1 x (search depth 20) (omega arith) (omega arith)) (omega arith))
tree-bytes (pre x t) k h =
    let n = node (kind_of x) (k + size t - 1) 0 in
    omega (arith, length-snoc (nodes_of k t) n, node-length n 1 (bodies 6 4 1 x (search depth 20) h.0 (omega (arith, h.1))) (omega arith), tree-bytes t k h.2)
tree-bytes (bin x s t) k h =
    let front : List Node = nodes_of k s ++ nodes_of (k + size s) t in
    let n = node (kind_of x) (k + size s - 1) (k + size s + size t - 1) in
    let both : length (nodes_bytes front) ≡ length (nodes_bytes (nodes_of k s)) + length (nodes_bytes (nodes_of (k + size s) t)) =
    ap length (bytes-append (nodes_of k s) (nodes_of (k + size s) t)) ∙ length-append (nodes_bytes (nodes_of k s)) (nodes_bytes (nodes_of (k + size s) t)) in
    omega
    (arith, length-snoc front n, both, node-length n 2 (bodies 12 6 2 x (search depth 20) h.0 (omega (arith, h.1))) (omega arith), tree-bytes s k h.2, tree-bytes t (k + size s) h.3)

-- a file of 64 nodes has at most 357 bytes
pub tree-file : (P : ℕ) (t : Tree) → Signs t → 2 * length (rule_bytes (rule_of P t)) ≤ 11 * size t + 11
tree-file P t h = omega (arith, file-length (rule_of P t), tree-bytes t 0 h)

-- ---- files that are accepted

-- with k more nodes to read from p on
accepted-from : (k : ℕ) (b : List ℕ) (P m p : ℕ) (earlier : List Node) (r : Rule) → nodes_from k b P m p earlier ≡ Accepted r → length b ≤ p + 7 * k
unfolding nodes_from
accepted-from zero b P m p earlier r e = go (ltb p (length b)) refl e
  where
    go : (t : Bool) → ltb p (length b) ≡ t → cond t (Refused (TrailingBytes p)) (Accepted (record { signals = P; mask = m; nodes = earlier })) ≡ Accepted r → length b ≤ p + 7 * 0
    go true q e = cc
    go false q e = omega (arith, ltb-false p (length b) q)
accepted-from (suc k) b P m p earlier r e =
    go (reading_of b P p (length earlier) (temporals earlier)) refl (λ n. accepted-from k b P m (p + 2 + u16_at b p) (earlier ++ (n ∷ [])) r) e
  where
    go : (x : Result Node Refusal) → reading_of b P p (length earlier) (temporals earlier) ≡ x
        → ((n : Node) → nodes_from k b P m (p + 2 + u16_at b p) (earlier ++ (n ∷ [])) ≡ Accepted r → length b ≤ p + 2 + u16_at b p + 7 * k)
        → elim x as (λ _. Judgement) [ Ok n ↦ nodes_from k b P m (p + 2 + u16_at b p) (earlier ++ (n ∷ [])) | Err r ↦ Refused r ] ≡ Accepted r
        → length b ≤ p + 7 * suc k
    go (Ok n) q ih e = omega (arith, ih n e, (node-told b P p (length earlier) (temporals earlier) n q).length)
    go (Err y) q ih e = cc

pub accepted-file : (b : List ℕ) (r : Rule) → judge b ≡ Accepted r → length b ≤ longest_accepted
accepted-file b r e = go (header_of b) refl
  where
    refused : (y : Refusal) → judge b ≡ Refused y → length b ≤ longest_accepted
    refused y f = cc

    after : (h : Header) → header_of b ≡ Ok h → (x : Result Mask Refusal) → mask_of b h.signals ≡ x → length b ≤ longest_accepted
    after h q (Ok m) o =
        omega (arith, accepted-from h.nodes b h.signals m.mask m.nodes_at [] r (sym (judged b h q m o) ∙ e), (header-few b h q).1, mask-near b h.signals m o)
    after h q (Err y) o = refused y (judged-mask-refused b h q y o)

    go : (x : Result Header Refusal) → header_of b ≡ x → length b ≤ longest_accepted
    go (Ok h) q = after h q (mask_of b h.signals) refl
    go (Err y) q = refused y (judged-refused b y q)
