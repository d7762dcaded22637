-- Every line of the table of known rules holds, and every one of the rules that count between two bounds: the table is computed, and demands 2 and 3 do the rest.
use mathlib.Core.Path.{◌≡◌, refl}
use mathlib.Core.List.{List, map, Memᴰ}
use Rattle.known_rules.specs.Files.{rule_file, table_file}
use Rattle.known_rules.specs.Rules.{KnownRule, known_rules}
use Rattle.known_rules.specs.Counted.{flap_pair, counted_rules}
use Rattle.known_rules.specs.Lines.{Line, TableOf}
use Rattle.known_rules.proofs.Lines.{rule_in, outcome_of, found, expected, line, line-table}

-- what is computed of each file is what its line says
computed : map found known_rules ≡ map expected known_rules
unfolding rule_file table_file rule_in outcome_of
computed = refl

-- two functions with the same values over a list are equal at each of its elements
pub equal-at : {A B : Type 0} (f g : A → B) {a : A} {l : List A} → map f l ≡ map g l → Memᴰ a l → f a ≡ g a
equal-at f g c (Memᴰ.head e) = cc
equal-at f g c (Memᴰ.tail m) = equal-at f g (cc) m

-- "The lines marked P are proved of the meaning itself, gathered in one table under one theorem."
pub known : (k : KnownRule) → Memᴰ k known_rules → Line k
known k m = line k (equal-at found expected computed m)

-- the flap pair's table, to the byte
pub flap-pair : (found flap_pair).outcome ≡ (expected flap_pair).outcome
unfolding rule_file table_file rule_in outcome_of
flap-pair = refl

-- the same of the rules that count between two bounds
counts : map found counted_rules ≡ map expected counted_rules
unfolding rule_file table_file rule_in outcome_of
counts = refl

pub counted : (k : KnownRule) → Memᴰ k counted_rules → Line k
counted k m = line k (equal-at found expected counts m)

-- in particular of the formula alone
pub known-table : (k : KnownRule) → Memᴰ k known_rules → TableOf k
known-table k m = line-table (known k m)

pub counted-table : (k : KnownRule) → Memᴰ k counted_rules → TableOf k
counted-table k m = line-table (counted k m)
