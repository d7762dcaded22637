-- Rule files and tables written out, to the byte.
use mathlib.Core.List.{List, [], ◌∷◌, ◌++◌, flat_map}
use Rattle.std.specs.Prelude.{ℕ, ◌+◌, length}
use Rattle.meaning.specs.Traces.{full_mask}
use Rattle.meaning.specs.TableFiles.{verdict_number}
use Rattle.meaning.specs.declared.Verdict.{Verdict}
use Rattle.wire.specs.Wire.{u16_bytes}

-- "A record is: length (two bytes, low byte first, counting all that follows it in the record), kind (two bytes, low first), body."
abbrev pub record_of : ℕ → List ℕ → List ℕ
record_of kind body = u16_bytes (2 + length body) ++ (u16_bytes kind ++ body)

-- ---- rule files

pub record NodeRecord : Type 0 where
  pub kind : ℕ
  pub body : List ℕ

abbrev pub node : ℕ → List ℕ → NodeRecord
node kind body = record { kind = kind; body = body }

-- "The first record has kind 256 and body P, N (one byte each); N is the number of nodes. Then N node records, numbered from 0."
unfoldable pub rule_file : ℕ → List NodeRecord → List ℕ
unfolding flat_map
rule_file P nodes = record_of 256 (P ∷ length nodes ∷ []) ++ flat_map (λ n. record_of n.kind n.body) nodes

-- "A record of kind 257 may stand second and nowhere else, with a two-byte mask, low byte first"
unfoldable pub masked_file : ℕ → ℕ → List NodeRecord → List ℕ
unfolding flat_map
masked_file P mask nodes = record_of 256 (P ∷ length nodes ∷ []) ++ record_of 257 (u16_bytes mask) ++ flat_map (λ n. record_of n.kind n.body) nodes

-- ---- tables

-- a state: its verdict, and its successors for event 0 upward
pub record State : Type 0 where
  pub verdict : Verdict
  pub successors : List ℕ

abbrev pub state : Verdict → List ℕ → State
state verdict successors = record { verdict = verdict; successors = successors }

-- over so many signals, for the events in the mask
pub record Table : Type 0 where
  pub signals : ℕ
  pub mask : ℕ
  pub states : List State

abbrev pub masked_table : ℕ → ℕ → List State → Table
masked_table signals mask states = record { signals = signals; mask = mask; states = states }

-- where all events can happen
abbrev pub table : ℕ → List State → Table
table signals states = masked_table signals (full_mask signals) states

-- "First record: kind 512, body P (one byte) and S (two bytes), the number of states. Then S records of kind 513: the verdict byte, then 2^P
-- successors of two bytes, for event 0 upward."
unfoldable pub table_file : Table → List ℕ
unfolding flat_map
table_file t =
    record_of 512 (t.signals ∷ u16_bytes (length t.states))
    ++ flat_map (λ s. record_of 513 (verdict_number s.verdict ∷ flat_map u16_bytes s.successors)) t.states
