-- The rules with events that cannot happen: every line holds, and the mask decides earlier. "Our valve block never reports dose and acknowledgement
-- together, so the watcher speaks late."
use mathlib.Core.Path.{◌≡◌, refl}
use mathlib.Core.List.{map, [], ◌∷◌, Memᴰ}
use native.Mathlib.Omega.{arith}
use Rattle.meaning.specs.Traces.{over, masked}
use Rattle.meaning.specs.Verdicts.{Judged}
use Rattle.meaning.specs.TableFiles.{is_table}
use Rattle.meaning.specs.Runs.{run_of, decided_from}
use Rattle.meaning.specs.declared.Verdict.TheVariants.{Undecided, Satisfied, Violated}
use Rattle.meaning.specs.declared.Refusal.TheVariants.{WrongEvent}
use Rattle.known_rules.specs.Files.{rule_file, masked_file, table_file}
use Rattle.known_rules.specs.Rules.{KnownRule}
use Rattle.known_rules.specs.Masked.{block_p12, answered_dose, block_answered, never_together, masked_rules}
use Rattle.known_rules.specs.Lines.{bytes, property, Line, TableOf}
use Rattle.known_rules.proofs.Lines.{rule_in, outcome_of, found, expected, line, line-table}
use Rattle.known_rules.proofs.Known.{equal-at}
use Rattle.std.proofs.Common.{Err}

-- what is computed of each file is what its line says
computed : map found masked_rules ≡ map expected masked_rules
unfolding rule_file masked_file table_file rule_in outcome_of
computed = refl

pub masks : (k : KnownRule) → Memᴰ k masked_rules → Line k
masks k m = line k (equal-at found expected computed m)

pub masks-table : (k : KnownRule) → Memᴰ k masked_rules → TableOf k
masks-table k m = line-table (masks k m)

-- after a dose the verdict is undecided, and where dose and acknowledgement never come together it is violated
pub late : Judged (over 2) (property answered_dose) (1 ∷ []) Undecided
unfolding rule_file table_file rule_in outcome_of
late = (line-table (line answered_dose refl) (1 ∷ []) ((omega arith, tt), tt) Undecided).0 refl

pub in_time : Judged (masked 4 7) (property answered_dose) (1 ∷ []) Violated
unfolding masked_file table_file rule_in outcome_of
in_time = (line-table (line block_answered refl) (1 ∷ []) ((omega arith, tt), tt) Violated).0 refl

-- before any event a rule may be satisfied by the mask alone
pub satisfied-by-mask : Judged (masked 4 7) (property never_together) [] Satisfied
unfolding masked_file table_file rule_in outcome_of
satisfied-by-mask = (line-table (line never_together refl) [] tt Satisfied).0 refl

-- "Running such an event is refused by 12": also past a decided state, and the first such event counts
pub impossible-refused : run_of (bytes block_p12) 0 (1 ∷ 1 ∷ 3 ∷ 4 ∷ []) ≡ Err (WrongEvent 2)
unfolding table_file is_table decided_from
impossible-refused = refl
