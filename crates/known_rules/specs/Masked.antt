-- Rules with events that cannot happen (document 02, C-14), in the form of the known rules; tables by hand. "Our valve block never reports dose and
-- acknowledgement together": p is the dose, q the acknowledgement, and of events 0 to 3 the last cannot happen.
use Rattle.std.specs.Prelude.{List, [], ◌∷◌}
use Rattle.meaning.specs.Formulas.{neg, and, implies, next, always}
use Rattle.meaning.specs.declared.Verdict.TheVariants.{Undecided, Satisfied, Violated}
use Rattle.known_rules.specs.Files.{node, rule_file, masked_file, state, table, masked_table}
use Rattle.known_rules.specs.Rules.{KnownRule, P12, p, q}

-- P12 of the valve block | 2, events 0 1 2 | 3 states; rows 0 1 0, then 1 2 0, then violated
abbrev pub block_p12 : KnownRule
block_p12 = record {
  formula = P12.formula;
  file = masked_file 2 7
      (node 2 (0 ∷ []) ∷ node 2 (1 ∷ []) ∷ node 4 (0 ∷ []) ∷ node 11 (2 ∷ 1 ∷ []) ∷ node 10 (3 ∷ []) ∷ node 7 (0 ∷ 4 ∷ []) ∷ node 13 (5 ∷ []) ∷ []);
  table = masked_table 2 7
      (state Undecided (0 ∷ 1 ∷ 0 ∷ 65535 ∷ []) ∷ state Undecided (1 ∷ 2 ∷ 0 ∷ 65535 ∷ []) ∷ state Violated (2 ∷ 2 ∷ 2 ∷ 65535 ∷ []) ∷ []);
}

-- "Without it all can": P12 with a mask of all events | 2 | the bytes of P12
abbrev pub full_p12 : KnownRule
full_p12 = record {
  formula = P12.formula;
  file = masked_file 2 15
      (node 2 (0 ∷ []) ∷ node 2 (1 ∷ []) ∷ node 4 (0 ∷ []) ∷ node 11 (2 ∷ 1 ∷ []) ∷ node 10 (3 ∷ []) ∷ node 7 (0 ∷ 4 ∷ []) ∷ node 13 (5 ∷ []) ∷ []);
  table = P12.table;
}

-- always (p implies next (p and q)), a dose is followed by one with its acknowledgement | 2 | 3 states; rows 0 1 0 1, then 2 2 2 1, then violated
abbrev pub answered_dose : KnownRule
answered_dose = record {
  formula = always (implies p (next (and p q)));
  file = rule_file 2 (node 2 (0 ∷ []) ∷ node 2 (1 ∷ []) ∷ node 5 (0 ∷ 1 ∷ []) ∷ node 10 (2 ∷ []) ∷ node 7 (0 ∷ 3 ∷ []) ∷ node 13 (4 ∷ []) ∷ []);
  table = table 2 (state Undecided (0 ∷ 1 ∷ 0 ∷ 1 ∷ []) ∷ state Undecided (2 ∷ 2 ∷ 2 ∷ 1 ∷ []) ∷ state Violated (2 ∷ 2 ∷ 2 ∷ 2 ∷ []) ∷ []);
}

-- the same of the valve block | 2, events 0 1 2 | 2 states; a dose violates
abbrev pub block_answered : KnownRule
block_answered = record {
  formula = answered_dose.formula;
  file = masked_file 2 7 (node 2 (0 ∷ []) ∷ node 2 (1 ∷ []) ∷ node 5 (0 ∷ 1 ∷ []) ∷ node 10 (2 ∷ []) ∷ node 7 (0 ∷ 3 ∷ []) ∷ node 13 (4 ∷ []) ∷ []);
  table = masked_table 2 7 (state Undecided (0 ∷ 1 ∷ 0 ∷ 65535 ∷ []) ∷ state Violated (1 ∷ 1 ∷ 1 ∷ 65535 ∷ []) ∷ []);
}

-- always not (p and q), of the valve block | 2, events 0 1 2 | 1 state, satisfied
abbrev pub never_together : KnownRule
never_together = record {
  formula = always (neg (and p q));
  file = masked_file 2 7 (node 2 (0 ∷ []) ∷ node 2 (1 ∷ []) ∷ node 5 (0 ∷ 1 ∷ []) ∷ node 4 (2 ∷ []) ∷ node 13 (3 ∷ []) ∷ []);
  table = masked_table 2 7 (state Satisfied (0 ∷ 0 ∷ 0 ∷ 65535 ∷ []) ∷ []);
}

-- always p where event 1 alone can happen | 1, event 1 | 1 state, satisfied
abbrev pub one_event : KnownRule
one_event = record {
  formula = always p;
  file = masked_file 1 2 (node 2 (0 ∷ []) ∷ node 13 (0 ∷ []) ∷ []);
  table = masked_table 1 2 (state Satisfied (65535 ∷ 0 ∷ []) ∷ []);
}

abbrev pub masked_rules : List KnownRule
masked_rules = block_p12 ∷ full_p12 ∷ answered_dose ∷ block_answered ∷ never_together ∷ one_event ∷ []
