-- What filling a buffer from the input leaves in it, and what reads take of a reader whose bytes are known (no contract
-- can say which bytes a terminal or a file gives).
use Rattle.std.specs.Prelude.{◌≡◌, List, Bool, false, ℕ, ◌<◌, ◌≤◌, length, drop, Option}
use Rattle.std.specs.Io.KnownBytes.{Consumes}
use Rattle.meaning.specs.Bytes.{u16_at}

-- after the first n bytes were filled: the length and the bytes past them are as before; false, and every byte as before, where there are not n
pub record Filled (n : ℕ) (before after : List ℕ) (all : Bool) : Type 0 where
  pub size : length after ≡ length before
  pub past : drop n after ≡ drop n before
  pub short : length before < n → (all ≡ false) × (after ≡ before)

-- after a read failed before the first n bytes were filled: there was room for them, and the length and the bytes past them are as before
pub record Begun (n : ℕ) (before after : List ℕ) : Type 0 where
  pub room : n ≤ length before
  pub size : length after ≡ length before
  pub past : drop n after ≡ drop n before

-- the known bytes lose two, which are the number, low byte first
pub record NumberRead (n : ℕ) (before after : Option (List ℕ)) : Type 0 where
  pub bytes : List ℕ
  pub two : length bytes ≡ 2
  pub value : u16_at bytes 0 ≡ n
  pub lost : Consumes before after bytes

-- the known bytes lose two, which say a part's length, and then the part
pub record PartRead (part : List ℕ) (before after : Option (List ℕ)) : Type 0 where
  pub between : Option (List ℕ)
  pub length_read : NumberRead (length part) before between
  pub lost : Consumes between after part
