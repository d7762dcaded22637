-- What document 01 prints of P3 and says of runs over P12.
use mathlib.Core.Path.{◌≡◌, refl}
use mathlib.Core.List.{[], ◌∷◌}
use lib.ListN.{length, take}
use Rattle.meaning.specs.Runs.{run_of, decided_from}
use Rattle.meaning.specs.TableFiles.{is_table}
use Rattle.meaning.specs.declared.Verdict.TheVariants.{Undecided, Violated}
use Rattle.known_rules.specs.Files.{rule_file, table_file}
use Rattle.known_rules.specs.Rules.{P3, P12}
use Rattle.known_rules.specs.Lines.{bytes}
use Rattle.std.proofs.Common.{Ok, Some, None}

-- "P3 as a file is `04 00 00 01 01 01 03 00 02 00 00`."
pub p3-file : P3.file ≡ 0x04 ∷ 0x00 ∷ 0x00 ∷ 0x01 ∷ 0x01 ∷ 0x01 ∷ 0x03 ∷ 0x00 ∷ 0x02 ∷ 0x00 ∷ 0x00 ∷ []
unfolding rule_file
p3-file = refl

-- "Its table begins `05 00 00 02 01 03 00` and has 34 bytes."
pub p3-table : take 7 (bytes P3) ≡ 0x05 ∷ 0x00 ∷ 0x00 ∷ 0x02 ∷ 0x01 ∷ 0x03 ∷ 0x00 ∷ []
unfolding table_file
p3-table = refl

pub p3-length : length (bytes P3) ≡ 34
unfolding table_file
p3-length = refl

-- "P12 run on 1, 0, 1 ends violated, count 3. Run on 1, 2, 1 it ends undecided, count none."
pub p12-violated : run_of (bytes P12) 0 (1 ∷ 0 ∷ 1 ∷ []) ≡ Ok (record { state = 2; verdict = Violated; decided = Some 3 })
unfolding table_file is_table decided_from
p12-violated = refl

pub p12-undecided : run_of (bytes P12) 0 (1 ∷ 2 ∷ 1 ∷ []) ≡ Ok (record { state = 1; verdict = Undecided; decided = None })
unfolding table_file is_table decided_from
p12-undecided = refl
