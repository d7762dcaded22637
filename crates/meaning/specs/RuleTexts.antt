-- Rule text (document 02, C-11): the formula, the nodes and the rule file of a text, and the judgement.
use Rattle.std.specs.Prelude.{List, [], ◌∷◌, ◌++◌, Bool, cond, not, ◌&&◌, ◌||◌, false, ℕ, ◌+◌, ◌-◌, length, take, drop, get_or, ltb, leb}
use Rattle.meaning.specs.Formulas.{Formula, falsum, verum, signal, neg, and, or, implies, iff, xor, next, until, eventually, always}
use Rattle.meaning.specs.Traces.{full_mask}
use Rattle.meaning.specs.RuleFiles.{Rule, body_length, ranges_fit, temporals, first_of}
use Rattle.meaning.specs.Grammar.{Tree, leaf, pre, bin, Parsed, Fitting, Outside}
use Rattle.meaning.specs.declared.Node.{Node}
use Rattle.meaning.specs.declared.Refusal.TheVariants.{WrongSignals, OutOfRange, EighthTemporal, ShortOutput, WrongText, TooManyNodes}
use Rattle.std.specs.Prelude.{Result, Ok, Err}
use Rattle.meaning.specs.declared.Refusal.{Refusal}

-- ---- meaning

-- the formula of a tree: the signs in their order, s0 s1 s2 s3 true false, ! X F G, U & ^ | -> <->
unfoldable pub tree_formula : Tree → Formula
tree_formula (leaf x) = get_or (signal 0 ∷ signal 1 ∷ signal 2 ∷ signal 3 ∷ verum ∷ falsum ∷ []) x falsum
tree_formula (pre x t) =
    let f = tree_formula t in
    get_or (neg f ∷ next f ∷ eventually f ∷ always f ∷ []) (x - 6) falsum
tree_formula (bin x s t) =
    let f = tree_formula s in
    let g = tree_formula t in
    get_or (until f g ∷ and f g ∷ xor f g ∷ or f g ∷ implies f g ∷ iff f g ∷ []) (x - 12) falsum

-- ---- the rule file

-- the kind of a sign's node, by the table of kinds: s0 s1 s2 s3 true false, ! X F G, no node for brackets, U & ^ | -> <->
abbrev pub kinds : List ℕ
kinds = 2 ∷ 2 ∷ 2 ∷ 2 ∷ 1 ∷ 0 ∷ 4 ∷ 10 ∷ 12 ∷ 13 ∷ 0 ∷ 0 ∷ 11 ∷ 5 ∷ 9 ∷ 6 ∷ 7 ∷ 8 ∷ []

abbrev pub kind_of : ℕ → ℕ
kind_of x = get_or kinds x 0

-- a node that is no "at least", of which a text has none
abbrev pub node : ℕ → ℕ → ℕ → Node
node kind a b = record { kind = kind; a = a; b = b; upper = 0 }

-- "one node for each occurrence"
unfoldable pub size : Tree → ℕ
size (leaf x) = 1
size (pre x t) = size t + 1
size (bin x s t) = size s + size t + 1

-- "left operand first, the operator after its operands": the nodes of a tree, the first of them with number k
unfoldable pub nodes_of : ℕ → Tree → List Node
nodes_of k (leaf x) = node (kind_of x) (cond (ltb x 4) x 0) 0 ∷ []
nodes_of k (pre x t) = nodes_of k t ++ (node (kind_of x) (k + size t - 1) 0 ∷ [])
nodes_of k (bin x s t) = nodes_of k s ++ nodes_of (k + size s) t ++ (node (kind_of x) (k + size s - 1) (k + size s + size t - 1) ∷ [])

-- "The caller gives P." A text says nothing of events that cannot happen.
abbrev pub rule_of : ℕ → Tree → Rule
rule_of P t = record { signals = P; mask = full_mask P; nodes = nodes_of 0 t }

-- a node's record: its length and its kind, each two bytes, low byte first, and its body
abbrev pub node_bytes : Node → List ℕ
node_bytes n = (2 + body_length n.kind) ∷ 0 ∷ n.kind ∷ 0 ∷ take (body_length n.kind) (n.a ∷ n.b ∷ [])

unfoldable pub nodes_bytes : List Node → List ℕ
nodes_bytes [] = []
nodes_bytes (n ∷ ns) = node_bytes n ++ nodes_bytes ns

-- "The first record has kind 256 and body P, N"
unfoldable pub rule_bytes : Rule → List ℕ
rule_bytes r = (4 ∷ 0 ∷ 0 ∷ 1 ∷ r.signals ∷ length r.nodes ∷ []) ++ nodes_bytes r.nodes

-- ---- judgement

-- a node with a signal not below P
unfoldable pub any_out_of_range : ℕ → List Node → Bool
any_out_of_range P [] = false
any_out_of_range P (n ∷ ns) = not (ranges_fit P n) || any_out_of_range P ns

-- The checks of a rule, with an output of so many bytes, and of a text that fits. "Order 15, 4, 16, 7, 8, 10; every place but 15's is 0."
unfoldable pub rule_answer : ℕ → Rule → Result ℕ Refusal
rule_answer room r =
    first_of Err
    ((any_out_of_range r.signals r.nodes, OutOfRange 0)
    ∷ (ltb 7 (temporals r.nodes), EighthTemporal 0)
    ∷ (ltb room (length (rule_bytes r)), ShortOutput)
    ∷ [])
    (Ok (length (rule_bytes r)))

unfoldable pub tree_answer : ℕ → ℕ → Tree → Result ℕ Refusal
tree_answer P room t =
    first_of Err
    ((not (leb 1 P && leb P 4), WrongSignals)
    ∷ (ltb 64 (size t), TooManyNodes)
    ∷ [])
    (rule_answer room (rule_of P t))

abbrev pub parsed_answer : ℕ → ℕ → Parsed → Result ℕ Refusal
parsed_answer P room (Fitting t) = tree_answer P room t
parsed_answer P room (Outside p) = Err (WrongText p)

-- "over 1,024 bytes, then with place 1,024 and before all else"
abbrev pub write_answer : List ℕ → ℕ → ℕ → Parsed → Result ℕ Refusal
write_answer s P room parsed = cond (ltb 1024 (length s)) (Err (WrongText 1024)) (parsed_answer P room parsed)

-- the file of what was read
abbrev pub file_of : ℕ → Parsed → List ℕ
file_of P (Fitting t) = rule_bytes (rule_of P t)
file_of P (Outside p) = []

-- "Output bytes past the file are kept"; on a refusal "Lent buffers keep every byte"
abbrev pub output_of : Result ℕ Refusal → List ℕ → List ℕ → List ℕ
output_of (Ok n) file out = file ++ drop n out
output_of (Err r) file out = out
