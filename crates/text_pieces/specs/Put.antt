-- Bytes put into a buffer, and the place after them.
use Rattle.std.specs.Prelude.{◌≡◌, List, ◌++◌, ℕ, ◌+◌, length, drop}
use Rattle.std.proofs.lemmas.List.Edits.{sets}

-- the bytes vs stored into d from place i on make it s, and j is the place after them
pub record Put (d : List ℕ) (i : ℕ) (vs s : List ℕ) (j : ℕ) : Type 0 where
  pub stored : s ≡ sets d i vs
  pub next : j ≡ i + length vs

-- the bytes at the front of a buffer, and what stood past them
abbrev pub at_front : List ℕ → List ℕ → List ℕ
at_front text out = text ++ drop (length text) out
