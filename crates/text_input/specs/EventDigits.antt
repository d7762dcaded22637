-- What the argument of a run says, in ASCII: a list of events, a digit of base 16 each.
use Rattle.std.specs.Prelude.{List, map, Bool, cond, ℕ, ◌-◌, Option, Some, None, is_some, unwrap_or}
use Rattle.std.specs.List.{list_all}
use Rattle.text_input.specs.Given.{within, is_digit, is_help}
use Rattle.text_input.specs.declared.Asked.{Asked}
use Rattle.text_input.specs.declared.Asked.TheVariants.{Help, For}

-- the value of a digit: 0 to 9, a to f and A to F
abbrev pub hex_value : ℕ → Option ℕ
hex_value b = cond (is_digit b) (Some (b - 48)) (cond (within 97 102 b) (Some (b - 87)) (cond (within 65 70 b) (Some (b - 55)) None))

-- every byte is a digit
abbrev pub all_hex : List ℕ → Bool
all_hex bytes = list_all (λ b. is_some (hex_value b)) bytes

abbrev pub run_request_of : List ℕ → Option (Asked (Unit {0}))
run_request_of bytes = cond (all_hex bytes) (Some (For tt)) (cond (is_help bytes) (Some Help) None)

-- the value in the digit's place
abbrev pub put_value : ℕ → ℕ
put_value b = unwrap_or (hex_value b) b

-- what stands in the argument's place: the digits' values, or what is no list of digits as it is
abbrev pub events_in : List ℕ → List ℕ
events_in bytes = cond (all_hex bytes) (map put_value bytes) bytes
