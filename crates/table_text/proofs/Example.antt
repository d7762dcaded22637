-- Document 01's printed example: rule P3's table and its four lines. And a table in which an event cannot happen.
use mathlib.Core.Path.{◌≡◌, refl}
use mathlib.Core.Bool.{true}
use mathlib.Core.List.{List, [], ◌∷◌, ◌++◌}
use Prim.Native.Nat.{ℕ}
use Rattle.meaning.specs.Bytes.{ascii}
use Rattle.meaning.specs.TableFiles.{is_table}
use Rattle.text_pieces.specs.Decimal.{digits}
use Rattle.table_text.specs.Text.{text_of}

-- "Its table begins `05 00 00 02 01 03 00` and has 34 bytes.": then the records of states 0, 1 and 2
abbrev table_p3 : List ℕ
table_p3 =
    (5 ∷ 0 ∷ 0 ∷ 2 ∷ 1 ∷ 3 ∷ 0 ∷ [])
    ++ (7 ∷ 0 ∷ 1 ∷ 2 ∷ 0 ∷ 1 ∷ 0 ∷ 2 ∷ 0 ∷ [])
    ++ (7 ∷ 0 ∷ 1 ∷ 2 ∷ 2 ∷ 1 ∷ 0 ∷ 1 ∷ 0 ∷ [])
    ++ (7 ∷ 0 ∷ 1 ∷ 2 ∷ 1 ∷ 2 ∷ 0 ∷ 2 ∷ 0 ∷ [])

-- "signals 1 states 3", "0 undecided 1 2", "1 violated 1 1", "2 satisfied 2 2", and byte 10 after each
abbrev lines_p3 : List ℕ
lines_p3 =
    (115 ∷ 105 ∷ 103 ∷ 110 ∷ 97 ∷ 108 ∷ 115 ∷ 32 ∷ 49 ∷ 32 ∷ 115 ∷ 116 ∷ 97 ∷ 116 ∷ 101 ∷ 115 ∷ 32 ∷ 51 ∷ 10 ∷ [])
    ++ (48 ∷ 32 ∷ 117 ∷ 110 ∷ 100 ∷ 101 ∷ 99 ∷ 105 ∷ 100 ∷ 101 ∷ 100 ∷ 32 ∷ 49 ∷ 32 ∷ 50 ∷ 10 ∷ [])
    ++ (49 ∷ 32 ∷ 118 ∷ 105 ∷ 111 ∷ 108 ∷ 97 ∷ 116 ∷ 101 ∷ 100 ∷ 32 ∷ 49 ∷ 32 ∷ 49 ∷ 10 ∷ [])
    ++ (50 ∷ 32 ∷ 115 ∷ 97 ∷ 116 ∷ 105 ∷ 115 ∷ 102 ∷ 105 ∷ 101 ∷ 100 ∷ 32 ∷ 50 ∷ 32 ∷ 50 ∷ 10 ∷ [])

pub table-P3 : is_table table_p3 ≡ true
unfolding is_table
table-P3 = refl

pub text-P3 : text_of table_p3 ≡ lines_p3
unfolding text_of digits
text-P3 = refl

-- C-14: "An impossible event's successor is written 65,535, and printed as `65535`." Over two signals that are never on together, "not both" is satisfied
-- from the start.
abbrev table_apart : List ℕ
table_apart = (5 ∷ 0 ∷ 0 ∷ 2 ∷ 2 ∷ 1 ∷ 0 ∷ []) ++ (11 ∷ 0 ∷ 1 ∷ 2 ∷ 1 ∷ 0 ∷ 0 ∷ 0 ∷ 0 ∷ 0 ∷ 0 ∷ 255 ∷ 255 ∷ [])

pub table-apart : is_table table_apart ≡ true
unfolding is_table
table-apart = refl

pub text-apart : text_of table_apart ≡ ascii "signals 2 states 1" ++ (10 ∷ []) ++ ascii "0 satisfied 0 0 0 65535" ++ (10 ∷ [])
unfolding text_of digits
text-apart = refl
