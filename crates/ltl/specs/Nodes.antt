-- A rule's nodes, split into plain ones, whose truth follows from the event and the earlier nodes, and temporal ones.
use Rattle.std.specs.Prelude.{List, [], ◌∷◌, ◌++◌, map, ℕ, suc, get_or}
use Rattle.meaning.specs.Formulas.{Formula}
use Rattle.meaning.specs.declared.Node.{Node}

pub data Plain : Type 0 where
  falsum verum : Plain
  signal : ℕ → Plain
  at_least : ℕ → ℕ → ℕ → Plain
  neg : ℕ → Plain
  and or implies iff xor : ℕ → ℕ → Plain

pub data Temporal : Type 0 where
  next : ℕ → Temporal
  until : ℕ → ℕ → Temporal
  eventually always : ℕ → Temporal

pub data Split : Type 0 where
  plain : Plain → Split
  temporal : Temporal → Split

-- the table of kinds: what the kind k with the body bytes a and b and the upper count u is, at index k
abbrev pub kinds : ℕ → ℕ → ℕ → List Split
kinds a b u =
    plain falsum ∷ plain verum
    ∷ plain (signal a)
    ∷ plain (at_least a b u)
    ∷ plain (neg a)
    ∷ plain (and a b) ∷ plain (or a b) ∷ plain (implies a b) ∷ plain (iff a b) ∷ plain (xor a b)
    ∷ temporal (next a)
    ∷ temporal (until a b)
    ∷ temporal (eventually a) ∷ temporal (always a) ∷ []

abbrev pub split : Node → Split
split n = get_or (kinds n.a n.b n.upper) n.kind (plain falsum)

abbrev pub splits : List Node → List Split
splits ns = map split ns

-- how many nodes are temporal
abbrev pub temporals : List Split → ℕ
temporals [] = 0
temporals (plain p ∷ ns) = temporals ns
temporals (temporal t ∷ ns) = suc (temporals ns)

-- ---- the formulas of the nodes, where fs are those of the earlier ones

abbrev pub operand : List Formula → ℕ → Formula
operand fs a = get_or fs a Formula.falsum

abbrev pub plain_formula : List Formula → Plain → Formula
plain_formula fs falsum = Formula.falsum
plain_formula fs verum = Formula.verum
plain_formula fs (signal s) = Formula.signal s
plain_formula fs (at_least m k u) = Formula.at_least m k u
plain_formula fs (neg a) = Formula.neg (operand fs a)
plain_formula fs (and a b) = Formula.and (operand fs a) (operand fs b)
plain_formula fs (or a b) = Formula.or (operand fs a) (operand fs b)
plain_formula fs (implies a b) = Formula.implies (operand fs a) (operand fs b)
plain_formula fs (iff a b) = Formula.iff (operand fs a) (operand fs b)
plain_formula fs (xor a b) = Formula.xor (operand fs a) (operand fs b)

abbrev pub temporal_formula : List Formula → Temporal → Formula
temporal_formula fs (next a) = Formula.next (operand fs a)
temporal_formula fs (until a b) = Formula.until (operand fs a) (operand fs b)
temporal_formula fs (eventually a) = Formula.eventually (operand fs a)
temporal_formula fs (always a) = Formula.always (operand fs a)

-- the formula whose truth at a position is the temporal node's bit of the label there
abbrev pub obligation : List Formula → Temporal → Formula
obligation fs (next a) = operand fs a
obligation fs (until a b) = temporal_formula fs (until a b)
obligation fs (eventually a) = temporal_formula fs (eventually a)
obligation fs (always a) = temporal_formula fs (always a)

abbrev pub split_formula : List Formula → Split → Formula
split_formula fs (plain p) = plain_formula fs p
split_formula fs (temporal t) = temporal_formula fs t

abbrev pub split_formulas : List Formula → List Split → List Formula
split_formulas fs [] = fs
split_formulas fs (n ∷ ns) = split_formulas (fs ++ (split_formula fs n ∷ [])) ns

-- the obligations of the temporal nodes, in their order
abbrev pub obligations : List Formula → List Split → List Formula
obligations fs [] = []
obligations fs (plain p ∷ ns) = obligations (fs ++ (plain_formula fs p ∷ [])) ns
obligations fs (temporal t ∷ ns) = obligation fs t ∷ obligations (fs ++ (temporal_formula fs t ∷ [])) ns
