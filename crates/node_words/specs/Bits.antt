-- What valuing one node gives: its value, and for a temporal node its bits of the label and of fairness.
use Rattle.std.specs.Prelude.{Bool, true, false, ℕ}
use Rattle.ltl.specs.Nodes.{Split, plain, temporal}
use Rattle.ltl.specs.Valuation.{plain_value, temporal_value, label_bit, fair_bit}

pub record Bits : Type 0 where
  pub value : Bool
  pub label : Bool
  pub fair : Bool
  pub temporal : Bool

abbrev pub plain_bits : Bool → Bits
plain_bits w = record { value = w; label = false; fair = false; temporal = false }

abbrev pub temporal_bits : Bool → Bool → Bool → Bits
temporal_bits w l f = record { value = w; label = l; fair = f; temporal = true }

-- v holds the earlier nodes that are true, e is the event, x the node's bit of the next label
abbrev pub bits_of : ℕ → ℕ → Bool → Split → Bits
bits_of v e x (plain p) = plain_bits (plain_value v e p)
bits_of v e x (temporal t) = temporal_bits (temporal_value v x t) (label_bit v x t) (fair_bit v x t)
