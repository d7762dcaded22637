-- Words that hold a bit for each of 64 labels: bit l is for label l of the lower or of the upper half.
use Rattle.std.specs.Prelude.{◌≡◌, Bool, true, false, ℕ, ◌+◌, ◌<◌, Option, None, Some}
use Rattle.meaning.specs.declared.Node.{Node}
use Rattle.ltl.specs.Sets.{on}
use Rattle.ltl.specs.Nodes.{split}
use Rattle.node_words.specs.Bits.{Bits, plain_bits, temporal_bits, bits_of}
use Rattle.node_words.specs.declared.Words.{Words}
use Rattle.node_words.specs.declared.Promise.{Promise}

-- label l of the upper half (true) or of the lower one
abbrev pub label_of : Bool → ℕ → ℕ
label_of true l = 64 + l
label_of false l = l

pub record Everywhere (b : Bool) (r : ℕ) : Type 0 where
  pub all : (l : ℕ) → l < 64 → on r l ≡ b

-- bit j of each label
pub record LabelBits (high : Bool) (j r : ℕ) : Type 0 where
  pub bit : (l : ℕ) → l < 64 → on r l ≡ on (label_of high l) j

abbrev pub plain_words : ℕ → Words
plain_words w = record { value = w; promise = None }

abbrev pub promise_words : ℕ → ℕ → ℕ → Words
promise_words w y f = record { value = w; promise = Some (record { label = y; fair = f }) }

-- what the value w and the promise say of label l
abbrev pub lane : ℕ → Option Promise → ℕ → Bits
lane w None l = plain_bits (on w l)
lane w (Some p) l = temporal_bits (on w l) (on p.label l) (on p.fair l)

-- what the words say of label l
abbrev pub lane_of : Words → ℕ → Bits
lane_of w l = lane w.value w.promise l

-- at each label w holds the node's bits, where a and b hold its operands and x its bit of the next label
pub record Lanes (e a b x : ℕ) (n : Node) (w : Words) : Type 0 where
  pub lane : (v l : ℕ) → l < 64 → on a l ≡ on v n.a → on b l ≡ on v n.b → lane_of w l ≡ bits_of v e (on x l) (split n)
