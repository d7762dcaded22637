-- "Rule files": the nodes as formulas, and the judgement, record by record.
use Rattle.std.specs.Prelude.{List, [], ◌∷◌, ◌++◌, Bool, true, cond, not, ◌&&◌, ◌||◌, ℕ, zero, suc, ◌+◌, ◌-◌, ◌^◌, length, get_or, ltb, leb, eqb}
use Rattle.meaning.specs.Bytes.{u16_at}
use Rattle.meaning.specs.Traces.{Alphabet, masked, full_mask}
use Rattle.meaning.specs.Formulas.{Formula, falsum, verum, signal, at_least, neg, and, or, implies, iff, xor, next, until, eventually, always, Holds}
use Rattle.meaning.specs.Verdicts.{Property}
use Rattle.meaning.specs.declared.Node.{Node}
use Rattle.meaning.specs.declared.Header.{Header}
use Rattle.meaning.specs.declared.Refusal.{Refusal}
use Rattle.meaning.specs.declared.Refusal.TheVariants.{Truncated, WrongLength, WrongKind, WrongSignals, WrongCount, WrongOperand, OutOfRange, EighthTemporal, TrailingBytes, NoEvent}
use Rattle.std.specs.Prelude.{Result, Ok, Err}
use Rattle.meaning.specs.declared.Mask.{Mask}

-- the number of signals, the mask of the events that can happen, and the nodes
pub record Rule : Type 0 where
  pub signals : ℕ
  pub mask : ℕ
  pub nodes : List Node

-- ---- meaning

-- the table of kinds: the formula of a node, where fs are those of the earlier nodes, by number
abbrev pub formula_of : List Formula → Node → Formula
formula_of fs n =
    let a = get_or fs n.a falsum in
    let b = get_or fs n.b falsum in
    get_or
    (falsum ∷ verum
    ∷ signal n.a
    ∷ at_least n.a n.b n.upper
    ∷ neg a
    ∷ and a b ∷ or a b ∷ implies a b ∷ iff a b ∷ xor a b
    ∷ next a
    ∷ until a b
    ∷ eventually a ∷ always a ∷ [])
    n.kind falsum

-- the formula of each node, those of the nodes ns after those already there
abbrev pub formulas : List Formula → List Node → List Formula
formulas fs [] = fs
formulas fs (n ∷ ns) = formulas (fs ++ (formula_of fs n ∷ [])) ns

-- "The last node is the rule."
abbrev pub rule_formula : Rule → Formula
rule_formula r = get_or (formulas [] r.nodes) (length r.nodes - 1) falsum

abbrev pub alphabet_of : Rule → Alphabet
alphabet_of r = masked (2 ^ r.signals) r.mask

unfoldable pub property_of : Rule → Property
property_of r ρ = Holds ρ 0 (rule_formula r)

-- ---- judgement

-- the length of a body, by kind; that of an "at least" without its upper count
abbrev pub body_length : ℕ → ℕ
body_length k = get_or (0 ∷ 0 ∷ 1 ∷ 2 ∷ 1 ∷ 2 ∷ 2 ∷ 2 ∷ 2 ∷ 2 ∷ 1 ∷ 2 ∷ 1 ∷ 1 ∷ []) k 0

-- whether a record's length fits its kind: the kind's own two bytes and the body. C-12: "Kind 3 may now carry a third byte, the upper count"
abbrev pub length_fits : ℕ → ℕ → Bool
length_fits k l = eqb l (2 + body_length k) || (eqb k 3 && eqb l (2 + 3))

-- how many of the body's bytes are operands
abbrev pub operands : ℕ → ℕ
operands k = cond (leb 4 k) (body_length k) 0

-- "Kinds 10 to 13 are temporal"
abbrev pub temporal : ℕ → Bool
temporal k = leb 10 k

abbrev pub temporals : List Node → ℕ
temporals [] = 0
temporals (n ∷ ns) = cond (temporal n.kind) 1 0 + temporals ns

-- the first check that fails refuses; x if none does
abbrev pub first_of {ℓ} : {A : Type ℓ} → (Refusal → A) → List (Bool × Refusal) → A → A
first_of refuse [] x = x
first_of refuse (c ∷ cs) x = cond c.0 (refuse c.1) (first_of refuse cs x)

-- The record at place p of the bytes b, whose kind must be among those that may stand there and whose length must fit its kind.
-- "Within one: fewer than two bytes left (1), length below 2 (2), fewer bytes than the length says (1), kind (3), length for the kind (2)"
abbrev pub frame_checks : List ℕ → ℕ → Bool → Bool → List (Bool × Refusal)
frame_checks b p kind_fits size_fits =
    (ltb (length b - p) 2, Truncated p)
    ∷ (ltb (u16_at b p) 2, WrongLength p)
    ∷ (ltb (length b - p) (2 + u16_at b p), Truncated p)
    ∷ (not kind_fits, WrongKind p)
    ∷ (not size_fits, WrongLength p)
    ∷ []

-- "The first record has kind 256 and body P, N": "P not 1 to 4", "N not 1 to 64"
unfoldable pub header_of : List ℕ → Result Header Refusal
header_of b =
    first_of Err
    (frame_checks b 0 (eqb (u16_at b 2) 256) (eqb (u16_at b 0) (2 + 2))
    ++ ((not (leb 1 (get_or b 4 0) && leb (get_or b 4 0) 4), WrongSignals)
    ∷ (not (leb 1 (get_or b 5 0) && leb (get_or b 5 0) 64), WrongCount)
    ∷ []))
    (Ok (record { signals = get_or b 4 0; nodes = get_or b 5 0 }))

-- What stands between the first record and the nodes: the mask, and the place where the nodes begin. "A record of kind 257 may stand second and
-- nowhere else, with a two-byte mask, low byte first"; "17 no event possible, place the record's start, after its length check; 7 if a bit at or
-- above 2^P is set, before 17". "Without it all can."
unfoldable pub mask_of : List ℕ → ℕ → Result Mask Refusal
mask_of b P =
    cond (eqb (u16_at b 8) 257)
    (first_of Err
    (frame_checks b 6 true (eqb (u16_at b 6) (2 + 2))
    ++ ((leb (2 ^ 2 ^ P) (u16_at b 10), OutOfRange 6)
    ∷ (eqb (u16_at b 10) 0, NoEvent 6)
    ∷ []))
    (Ok (record { mask = u16_at b 10; nodes_at = 12 })))
    (Ok (record { mask = full_mask P; nodes_at = 6 }))

-- the upper count in the record at p, of this kind and length: "Two-byte bodies stay right and mean an upper count of 4."
abbrev pub upper_at : List ℕ → ℕ → ℕ → ℕ → ℕ
upper_at b p k l = cond (eqb k 3) (cond (eqb l (2 + 3)) (get_or b (p + 6) 0) 4) 0

-- the node whose record is at p: its kind, and the bytes of its body
abbrev pub node_at : List ℕ → ℕ → Node
node_at b p =
    let k = u16_at b (p + 2) in
    record {
      kind = k;
      a = cond (leb 1 (body_length k)) (get_or b (p + 4) 0) 0;
      b = cond (leb 2 (body_length k)) (get_or b (p + 5) 0) 0;
      upper = upper_at b p k (u16_at b p);
    }

-- "an operand not below the node's own number"
abbrev pub operands_fit : ℕ → Node → Bool
operands_fit number n = (leb (operands n.kind) 0 || ltb n.a number) && (leb (operands n.kind) 1 || ltb n.b number)

-- "signal: its number, below P"; "at least: mask m below 2^P, count k 0 to 4"; C-12: "the upper count, 0 to 4", "7 covers the new byte"
abbrev pub ranges_fit : ℕ → Node → Bool
ranges_fit P n = (not (eqb n.kind 2) || ltb n.a P) && (not (eqb n.kind 3) || (ltb n.a (2 ^ P) && leb n.b 4 && leb n.upper 4))

-- the record at p, of the node with this number, after so many temporal ones: "then 4, 5, 6, 7, 8"
unfoldable pub reading_of : List ℕ → ℕ → ℕ → ℕ → ℕ → Result Node Refusal
reading_of b P p number seen =
    let n = node_at b p in
    first_of Err
    (frame_checks b p (leb n.kind 13) (length_fits n.kind (u16_at b p))
    ++ ((not (operands_fit number n), WrongOperand p)
    ∷ (not (ranges_fit P n), OutOfRange p)
    ∷ (temporal n.kind && leb 7 seen, EighthTemporal p)
    ∷ []))
    (Ok n)

-- what reading a rule file finds
pub data Judgement : Type 0 where
  Accepted : Rule → Judgement
  Refused : Refusal → Judgement

-- k more nodes, from p on, after those read; a record's length counts "all that follows it in the record"; "After the last node: 9"
unfoldable pub nodes_from : ℕ → List ℕ → ℕ → ℕ → ℕ → List Node → Judgement
nodes_from zero b P m p earlier = cond (ltb p (length b)) (Refused (TrailingBytes p)) (Accepted (record { signals = P; mask = m; nodes = earlier }))
nodes_from (suc k) b P m p earlier =
    elim (reading_of b P p (length earlier) (temporals earlier)) [
      | Ok n ↦ nodes_from k b P m (p + 2 + u16_at b p) (earlier ++ (n ∷ []))
      | Err r ↦ Refused r
    ]

-- the mask and the nodes, of which there are so many
unfoldable pub body_from : ℕ → List ℕ → ℕ → Judgement
body_from k b P =
    elim (mask_of b P) [
      | Ok m ↦ nodes_from k b P m.mask m.nodes_at []
      | Err r ↦ Refused r
    ]

unfoldable pub judge : List ℕ → Judgement
judge b =
    elim (header_of b) [
      | Ok h ↦ body_from h.nodes b h.signals
      | Err r ↦ Refused r
    ]
