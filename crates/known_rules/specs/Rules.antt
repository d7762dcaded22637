-- Document 01's "Table of known rules", the lines marked P, each under its text: the rule as a formula and as a file, and its table.
use Rattle.std.specs.Prelude.{List, [], ◌∷◌, ℕ}
use Rattle.meaning.specs.Formulas.{Formula, falsum, verum, signal, neg, and, or, implies, next, until, eventually, always}
use Rattle.meaning.specs.declared.Verdict.TheVariants.{Undecided, Satisfied, Violated, Moot}
use Rattle.known_rules.specs.Files.{node, rule_file, state, Table, table}

pub record KnownRule : Type 0 where
  pub formula : Formula
  pub file : List ℕ
  pub table : Table

-- "p is signal 0, q is signal 1."
abbrev pub p : Formula
p = signal 0

abbrev pub q : Formula
q = signal 1

-- P1 true | 1 | 1 state, satisfied
abbrev pub P1 : KnownRule
P1 = record {
  formula = verum;
  file = rule_file 1 (node 1 [] ∷ []);
  table = table 1 (state Satisfied (0 ∷ 0 ∷ []) ∷ []);
}

-- P2 false | 1 | 1 state, violated
abbrev pub P2 : KnownRule
P2 = record {
  formula = falsum;
  file = rule_file 1 (node 0 [] ∷ []);
  table = table 1 (state Violated (0 ∷ 0 ∷ []) ∷ []);
}

-- P3 p | 1 | 3 states, printed below: "0 undecided 1 2", "1 violated 1 1", "2 satisfied 2 2"
abbrev pub P3 : KnownRule
P3 = record {
  formula = p;
  file = rule_file 1 (node 2 (0 ∷ []) ∷ []);
  table = table 1 (state Undecided (1 ∷ 2 ∷ []) ∷ state Violated (1 ∷ 1 ∷ []) ∷ state Satisfied (2 ∷ 2 ∷ []) ∷ []);
}

-- P4 always p | 1 | 2 states; event 0 violates
abbrev pub P4 : KnownRule
P4 = record {
  formula = always p;
  file = rule_file 1 (node 2 (0 ∷ []) ∷ node 13 (0 ∷ []) ∷ []);
  table = table 1 (state Undecided (1 ∷ 0 ∷ []) ∷ state Violated (1 ∷ 1 ∷ []) ∷ []);
}

-- P5 eventually p | 1 | 2 states; event 1 satisfies
abbrev pub P5 : KnownRule
P5 = record {
  formula = eventually p;
  file = rule_file 1 (node 2 (0 ∷ []) ∷ node 12 (0 ∷ []) ∷ []);
  table = table 1 (state Undecided (0 ∷ 1 ∷ []) ∷ state Satisfied (1 ∷ 1 ∷ []) ∷ []);
}

-- P6 always eventually p | 1 | 1 state, moot
abbrev pub P6 : KnownRule
P6 = record {
  formula = always (eventually p);
  file = rule_file 1 (node 2 (0 ∷ []) ∷ node 12 (0 ∷ []) ∷ node 13 (1 ∷ []) ∷ []);
  table = table 1 (state Moot (0 ∷ 0 ∷ []) ∷ []);
}

-- P7 eventually always p | 1 | the bytes of P6
abbrev pub P7 : KnownRule
P7 = record {
  formula = eventually (always p);
  file = rule_file 1 (node 2 (0 ∷ []) ∷ node 13 (0 ∷ []) ∷ node 12 (1 ∷ []) ∷ []);
  table = P6.table;
}

-- P8 next p or next not p | 1 | the bytes of P1
abbrev pub P8 : KnownRule
P8 = record {
  formula = or (next p) (next (neg p));
  file = rule_file 1 (node 2 (0 ∷ []) ∷ node 10 (0 ∷ []) ∷ node 4 (0 ∷ []) ∷ node 10 (2 ∷ []) ∷ node 6 (1 ∷ 3 ∷ []) ∷ []);
  table = P1.table;
}

-- P9 p until q | 2 | 3 states; from 0: 1 0 2 2, state 1 violated, 2 satisfied
abbrev pub P9 : KnownRule
P9 = record {
  formula = until p q;
  file = rule_file 2 (node 2 (0 ∷ []) ∷ node 2 (1 ∷ []) ∷ node 11 (0 ∷ 1 ∷ []) ∷ []);
  table = table 2 (state Undecided (1 ∷ 0 ∷ 2 ∷ 2 ∷ []) ∷ state Violated (1 ∷ 1 ∷ 1 ∷ 1 ∷ []) ∷ state Satisfied (2 ∷ 2 ∷ 2 ∷ 2 ∷ []) ∷ []);
}

-- P10 always (p or q) | 2 | 2 states; event 0 violates
abbrev pub P10 : KnownRule
P10 = record {
  formula = always (or p q);
  file = rule_file 2 (node 2 (0 ∷ []) ∷ node 2 (1 ∷ []) ∷ node 6 (0 ∷ 1 ∷ []) ∷ node 13 (2 ∷ []) ∷ []);
  table = table 2 (state Undecided (1 ∷ 0 ∷ 0 ∷ 0 ∷ []) ∷ state Violated (1 ∷ 1 ∷ 1 ∷ 1 ∷ []) ∷ []);
}

-- P11 always (p until q) | 2 | the bytes of P10 (document 001, example 2)
abbrev pub P11 : KnownRule
P11 = record {
  formula = always (until p q);
  file = rule_file 2 (node 2 (0 ∷ []) ∷ node 2 (1 ∷ []) ∷ node 11 (0 ∷ 1 ∷ []) ∷ node 13 (2 ∷ []) ∷ []);
  table = P10.table;
}

-- P12 always (p implies next (not p until q)) | 2 | 3 states; rows 0 1 0 1, then 1 2 0 1, then violated
abbrev pub P12 : KnownRule
P12 = record {
  formula = always (implies p (next (until (neg p) q)));
  file = rule_file 2 (node 2 (0 ∷ []) ∷ node 2 (1 ∷ []) ∷ node 4 (0 ∷ []) ∷ node 11 (2 ∷ 1 ∷ []) ∷ node 10 (3 ∷ []) ∷ node 7 (0 ∷ 4 ∷ []) ∷ node 13 (5 ∷ []) ∷ []);
  table = table 2 (state Undecided (0 ∷ 1 ∷ 0 ∷ 1 ∷ []) ∷ state Undecided (1 ∷ 2 ∷ 0 ∷ 1 ∷ []) ∷ state Violated (2 ∷ 2 ∷ 2 ∷ 2 ∷ []) ∷ []);
}

-- P13 q and always eventually p | 2 | 3 states; rows 1 1 2 2, state 1 violated, 2 moot
abbrev pub P13 : KnownRule
P13 = record {
  formula = and q (always (eventually p));
  file = rule_file 2 (node 2 (0 ∷ []) ∷ node 2 (1 ∷ []) ∷ node 12 (0 ∷ []) ∷ node 13 (2 ∷ []) ∷ node 5 (1 ∷ 3 ∷ []) ∷ []);
  table = table 2 (state Undecided (1 ∷ 1 ∷ 2 ∷ 2 ∷ []) ∷ state Violated (1 ∷ 1 ∷ 1 ∷ 1 ∷ []) ∷ state Moot (2 ∷ 2 ∷ 2 ∷ 2 ∷ []) ∷ []);
}

abbrev pub known_rules : List KnownRule
known_rules = P1 ∷ P2 ∷ P3 ∷ P4 ∷ P5 ∷ P6 ∷ P7 ∷ P8 ∷ P9 ∷ P10 ∷ P11 ∷ P12 ∷ P13 ∷ []
