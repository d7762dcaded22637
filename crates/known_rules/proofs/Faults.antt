-- "Faults that have a plausible look": each is told apart from the meaning by a rule that is computed. And the table of document 003's rule.
use mathlib.Core.Path.{refl}
use mathlib.Core.List.{[], ◌∷◌}
use native.Mathlib.Omega.{arith}
use Rattle.meaning.specs.Traces.{over}
use Rattle.meaning.specs.Verdicts.{Judged, NoneSatisfies, AllSatisfy, MoreThan}
use Rattle.meaning.specs.declared.Verdict.TheVariants.{Undecided, Satisfied, Violated}
use Rattle.ltl.proofs.Instance.{nodes_system}
use Rattle.walk.proofs.Ends.{more-if, not-more-if}
use Rattle.known_rules.specs.Files.{rule_file, table_file}
use Rattle.known_rules.specs.Rules.{P8, P9}
use Rattle.known_rules.specs.Further.{never_comes, three_residuals, eventually_p, eventually_either}
use Rattle.known_rules.specs.Lines.{property, Line}
use Rattle.known_rules.proofs.Lines.{rule_in, outcome_of, line, line-table}

-- "Judging by form: P8 has to be satisfied before any event."
pub form-is-not-enough : AllSatisfy (over 1) (property P8) []
unfolding rule_file table_file rule_in outcome_of
form-is-not-enough = (line-table (line P8 refl) [] tt Satisfied).0 refl

-- "An until whose right side never comes counted as true because each single step allows it."
pub until-comes : NoneSatisfies (over 2) (property never_comes) []
unfolding rule_file table_file rule_in outcome_of
until-comes = (line-table (line never_comes refl) [] tt Violated).0 refl

-- "Equal states found by equal remaining properties alone": three remaining properties, and 1 state, moot
pub one_state : Line three_residuals
unfolding rule_file table_file rule_in outcome_of
one_state = line three_residuals refl

pub more-than-two : MoreThan (over 2) (property three_residuals) 2
unfolding rule_file rule_in outcome_of
more-than-two = more-if (nodes_system (over 2) (rule_in three_residuals.file).nodes) 2 (omega arith) refl

pub not-more-than-three : ¬ MoreThan (over 2) (property three_residuals) 3
unfolding rule_file rule_in outcome_of
not-more-than-three = not-more-if (nodes_system (over 2) (rule_in three_residuals.file).nodes) 3 (omega arith) refl

-- "Moot declared when the current event changes nothing; P9 on event 1 is still undecided."
pub still-undecided : Judged (over 2) (property P9) (1 ∷ []) Undecided
unfolding rule_file table_file rule_in outcome_of
still-undecided = (line-table (line P9 refl) (1 ∷ []) ((omega arith, tt), tt) Undecided).0 refl

-- "the bytes of eventually p with P = 2 (document 003)"
pub eventually-p : Line eventually_p
unfolding rule_file table_file rule_in outcome_of
eventually-p = line eventually_p refl

pub eventually-either : Line eventually_either
unfolding rule_file table_file rule_in outcome_of
eventually-either = line eventually_either refl
