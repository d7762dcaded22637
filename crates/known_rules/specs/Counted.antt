-- Rules that count between two bounds (document 02, C-12), in the form of the known rules; tables by hand.
use Rattle.std.specs.Prelude.{List, [], ◌∷◌}
use Rattle.meaning.specs.Formulas.{at_least, xor, always}
use Rattle.meaning.specs.declared.Verdict.TheVariants.{Undecided, Satisfied, Violated}
use Rattle.known_rules.specs.Files.{node, rule_file, state, table}
use Rattle.known_rules.specs.Rules.{KnownRule, p, q}

-- "A flap pair must have exactly one limit switch on": always 1 to 1 of the two | 2 | 2 states; events 0 and 3 violate
abbrev pub flap_pair : KnownRule
flap_pair = record {
  formula = always (at_least 3 1 1);
  file = rule_file 2 (node 3 (3 ∷ 1 ∷ 1 ∷ []) ∷ node 13 (0 ∷ []) ∷ []);
  table = table 2 (state Undecided (1 ∷ 0 ∷ 0 ∷ 1 ∷ []) ∷ state Violated (1 ∷ 1 ∷ 1 ∷ 1 ∷ []) ∷ []);
}

-- the same said otherwise, always (p exclusive or q) | 2 | the bytes of the flap pair
abbrev pub either_of : KnownRule
either_of = record {
  formula = always (xor p q);
  file = rule_file 2 (node 2 (0 ∷ []) ∷ node 2 (1 ∷ []) ∷ node 9 (0 ∷ 1 ∷ []) ∷ node 13 (2 ∷ []) ∷ []);
  table = flap_pair.table;
}

-- none of these, always 0 to 0 of the two | 2 | 2 states; only event 0 does not violate
abbrev pub none_of : KnownRule
none_of = record {
  formula = always (at_least 3 0 0);
  file = rule_file 2 (node 3 (3 ∷ 0 ∷ 0 ∷ []) ∷ node 13 (0 ∷ []) ∷ []);
  table = table 2 (state Undecided (0 ∷ 1 ∷ 1 ∷ 1 ∷ []) ∷ state Violated (1 ∷ 1 ∷ 1 ∷ 1 ∷ []) ∷ []);
}

-- "also for k = 0": 0 to 1 of the two, now | 2 | 3 states; event 3 violates, the others satisfy
abbrev pub at_most_one : KnownRule
at_most_one = record {
  formula = at_least 3 0 1;
  file = rule_file 2 (node 3 (3 ∷ 0 ∷ 1 ∷ []) ∷ []);
  table = table 2 (state Undecided (1 ∷ 1 ∷ 1 ∷ 2 ∷ []) ∷ state Satisfied (1 ∷ 1 ∷ 1 ∷ 1 ∷ []) ∷ state Violated (2 ∷ 2 ∷ 2 ∷ 2 ∷ []) ∷ []);
}

-- an upper count below k, 2 to 1 of the two | 2 | 1 state, violated
abbrev pub empty_bounds : KnownRule
empty_bounds = record {
  formula = at_least 3 2 1;
  file = rule_file 2 (node 3 (3 ∷ 2 ∷ 1 ∷ []) ∷ []);
  table = table 2 (state Violated (0 ∷ 0 ∷ 0 ∷ 0 ∷ []) ∷ []);
}

-- "Two-byte bodies stay right and mean an upper count of 4": at least one of the two, now | 2 | 3 states; event 0 violates
abbrev pub two_bytes : KnownRule
two_bytes = record {
  formula = at_least 3 1 4;
  file = rule_file 2 (node 3 (3 ∷ 1 ∷ []) ∷ []);
  table = table 2 (state Undecided (1 ∷ 2 ∷ 2 ∷ 2 ∷ []) ∷ state Violated (1 ∷ 1 ∷ 1 ∷ 1 ∷ []) ∷ state Satisfied (2 ∷ 2 ∷ 2 ∷ 2 ∷ []) ∷ []);
}

abbrev pub counted_rules : List KnownRule
counted_rules = flap_pair ∷ either_of ∷ none_of ∷ at_most_one ∷ empty_bounds ∷ two_bytes ∷ []
