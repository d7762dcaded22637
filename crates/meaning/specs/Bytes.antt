-- Numbers and words in files and texts.
use Rattle.std.specs.Prelude.{List, [], ◌∷◌, ℕ, ◌+◌, ◌*◌, ◌/◌, ◌%◌, ◌^◌, get_or}
use Prim.Native.String.{String, [] as empty, ◌∷◌ as ◌then◌}
use Prim.Native.Char.{code}

-- bit k of the number n, 1 or 0: "bit 0 lowest"
abbrev pub bit : ℕ → ℕ → ℕ
bit k n = (n / 2 ^ k) % 2

-- "two bytes, low byte first", at place i of the bytes b
abbrev pub u16_at : List ℕ → ℕ → ℕ
u16_at b i = get_or b i 0 + 256 * get_or b (i + 1) 0

-- a word in ASCII: the code of each character
abbrev pub ascii : String → List ℕ
ascii empty = []
ascii (c then w) = code c ∷ ascii w
