-- The values of all nodes at a position, and from them its label, out of the event there and the label of the next position.
-- Sets of nodes are numbers: bit i for node i. Labels and sets of temporal nodes have bit j for the temporal node j, counted in the nodes' order.
use Rattle.std.specs.Prelude.{Bool, true, false, not, ◌&&◌, ◌||◌, List, [], ◌∷◌, ℕ, suc, ◌-◌, leb}
use Rattle.std.specs.Bool.{beq}
use Rattle.meaning.specs.Formulas.{count_on}
use Rattle.ltl.specs.Sets.{on, put}
use Rattle.ltl.specs.Nodes.{Plain, falsum, verum, signal, at_least, neg, and, or, implies, iff, xor, Temporal, next, until, eventually, always, Split, plain, temporal}

-- the value of a plain node at the event e, where v holds the earlier nodes that are true
abbrev pub plain_value : ℕ → ℕ → Plain → Bool
plain_value v e falsum = false
plain_value v e verum = true
plain_value v e (signal s) = on e s
plain_value v e (at_least m k u) = leb k (count_on 4 m e) && leb (count_on 4 m e) u
plain_value v e (neg a) = not (on v a)
plain_value v e (and a b) = on v a && on v b
plain_value v e (or a b) = on v a || on v b
plain_value v e (implies a b) = not (on v a) || on v b
plain_value v e (iff a b) = beq (on v a) (on v b)
plain_value v e (xor a b) = not (beq (on v a) (on v b))

-- the value of a temporal node, where x is its bit of the next label
abbrev pub temporal_value : ℕ → Bool → Temporal → Bool
temporal_value v x (next a) = x
temporal_value v x (until a b) = on v b || (on v a && x)
temporal_value v x (eventually a) = on v a || x
temporal_value v x (always a) = on v a && x

-- its bit of the label here: the value of its obligation
abbrev pub label_bit : ℕ → Bool → Temporal → Bool
label_bit v x (next a) = on v a
label_bit v x (until a b) = temporal_value v x (until a b)
label_bit v x (eventually a) = temporal_value v x (eventually a)
label_bit v x (always a) = temporal_value v x (always a)

-- the step from here to the next position leaves no promise of the node open
abbrev pub fair_bit : ℕ → Bool → Temporal → Bool
fair_bit v x (next a) = true
fair_bit v x (until a b) = not (temporal_value v x (until a b)) || on v b
fair_bit v x (eventually a) = not (temporal_value v x (eventually a)) || on v a
fair_bit v x (always a) = temporal_value v x (always a) || not (on v a)

-- the nodes valued so far: how many, which are true; of how many temporal ones the bits of the label and of fairness
pub record Valued : Type 0 where
  pub count : ℕ
  pub values : ℕ
  pub temporals : ℕ
  pub label : ℕ
  pub fairs : ℕ

abbrev pub none : Valued
none = record { count = 0; values = 0; temporals = 0; label = 0; fairs = 0 }

-- one node more, at the event e before the label y
abbrev pub value : ℕ → ℕ → Valued → Split → Valued
value e y s (plain p) = record {
  count = suc s.count;
  values = put s.count (plain_value s.values e p) s.values;
  temporals = s.temporals;
  label = s.label;
  fairs = s.fairs;
}
value e y s (temporal t) = record {
  count = suc s.count;
  values = put s.count (temporal_value s.values (on y s.temporals) t) s.values;
  temporals = suc s.temporals;
  label = put s.temporals (label_bit s.values (on y s.temporals) t) s.label;
  fairs = put s.temporals (fair_bit s.values (on y s.temporals) t) s.fairs;
}

abbrev pub value_all : ℕ → ℕ → Valued → List Split → Valued
value_all e y s [] = s
value_all e y s (n ∷ ns) = value_all e y (value e y s n) ns

abbrev pub valued : ℕ → ℕ → List Split → Valued
valued e y ns = value_all e y none ns

-- the label with one more bit on top, the value of the last node: the rule itself
abbrev pub profile_of : Valued → ℕ
profile_of s = put s.temporals (on s.values (s.count - 1)) s.label
