-- Columns of words, a word for each node or for each temporal one, and the valuations of 64 labels that they hold.
use Rattle.std.specs.Prelude.{◌≡◌, Bool, List, ℕ, ◌+◌, ◌^◌, ◌<◌, length, get_or}
use Rattle.meaning.specs.declared.Node.{Node}
use Rattle.ltl.specs.Sets.{on}
use Rattle.ltl.specs.Nodes.{split}
use Rattle.ltl.specs.Valuation as ltl
use Rattle.node_words.specs.Words.{label_of}
use Rattle.valuation.specs.declared.Columns.{Columns}

-- bit l of word j is bit j of f l
pub record Planes (f : ℕ → ℕ) (columns : List ℕ) : Type 0 where
  pub plane : (l j : ℕ) → l < 64 → on (get_or columns j 0) l ≡ on (f l) j

-- s values i nodes, m of them temporal
pub record State (i m : ℕ) (s : ltl.Valued) : Type 0 where
  pub count : s.count ≡ i
  pub temporals : s.temporals ≡ m
  pub values : s.values < 2 ^ i
  pub label : s.label < 2 ^ m
  pub fairs : s.fairs < 2 ^ m

-- at each label l the columns hold the valuation s l of i nodes
pub record Held (i : ℕ) (s : ℕ → ltl.Valued) (c : Columns) : Type 0 where
  pub state : (l : ℕ) → State i c.temporals (s l)
  pub of_values : Planes (λ l. (s l).values) c.values
  pub of_label : Planes (λ l. (s l).label) c.label
  pub of_fairs : Planes (λ l. (s l).fairs) c.fairs

-- where the columns hold valuations before, they hold those of one node more after
pub record Advanced (e : ℕ) (high : Bool) (i : ℕ) (n : Node) (old new : Columns) : Type 0 where
  pub long : length new.label ≡ length old.label
  pub next : (s : ℕ → ltl.Valued) → Held i s old → Held (i + 1) (λ l. ltl.value e (label_of high l) (s l) (split n)) new

-- r has the first n bits that the columns have at label l
pub record Byte (n : ℕ) (columns : List ℕ) (l r : ℕ) : Type 0 where
  pub size : r < 2 ^ n
  pub bits : (j : ℕ) → j < n → on r j ≡ on (get_or columns j 0) l
