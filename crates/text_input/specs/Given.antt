-- What the argument and the input of the writer of rule files say, in ASCII.
use Rattle.std.specs.Prelude.{List, [], ◌∷◌, Bool, cond, ◌&&◌, ◌||◌, ℕ, ◌+◌, ◌-◌, ◌*◌, length, take, drop, leb, nat_eq, Option, Some, None}
use lib.Pointwise.{pointwise}
use Rattle.text_input.specs.declared.Asked.{Asked}
use Rattle.text_input.specs.declared.Asked.TheVariants.{Help, For}

-- ---- the argument

abbrev pub same : List ℕ → List ℕ → Bool
same a b = pointwise nat_eq a b

-- `-h` or `--help`
abbrev pub is_help : List ℕ → Bool
is_help bytes = same bytes (45 ∷ 104 ∷ []) || same bytes (45 ∷ 45 ∷ 104 ∷ 101 ∷ 108 ∷ 112 ∷ [])

abbrev pub within : ℕ → ℕ → ℕ → Bool
within low high b = leb low b && leb b high

abbrev pub is_digit : ℕ → Bool
is_digit b = within 48 57 b

-- the value of decimal digits after digits of value n, if each byte is one
abbrev pub value_after : ℕ → List ℕ → Option ℕ
value_after n [] = Some n
value_after n (b ∷ bs) = cond (is_digit b) (value_after (n * 10 + (b - 48)) bs) None

abbrev pub value_of : List ℕ → Option ℕ
value_of bytes = value_after 0 bytes

-- a value that one byte holds
abbrev pub asked_for : Option ℕ → Option (Asked ℕ)
asked_for None = None
asked_for (Some n) = cond (leb n 255) (Some (For n)) None

-- one to three digits, whose value one byte holds
abbrev pub request_of : List ℕ → Option (Asked ℕ)
request_of bytes = cond (is_help bytes) (Some Help) (cond (within 1 3 (length bytes)) (asked_for (value_of bytes)) None)

-- ---- the input

-- all but one line end (10) at the end
abbrev pub without_line_end : List ℕ → List ℕ
without_line_end bytes = cond (same (drop (length bytes - 1) bytes) (10 ∷ [])) (take (length bytes - 1) bytes) bytes
