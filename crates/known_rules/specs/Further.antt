-- Rules besides those marked P, in the same form: those of "Faults that have a plausible look", and lines of the table that are not marked.
use Rattle.std.specs.Prelude.{[], ◌∷◌}
use Rattle.meaning.specs.Formulas.{neg, and, or, next, until, eventually, always}
use Rattle.meaning.specs.declared.Verdict.TheVariants.{Undecided, Satisfied, Violated, Moot}
use Rattle.known_rules.specs.Files.{node, rule_file, state, table}
use Rattle.known_rules.specs.Rules.{KnownRule, p, q}

-- "An until whose right side never comes counted as true": p until q, and always not q
abbrev pub never_comes : KnownRule
never_comes = record {
  formula = and (until p q) (always (neg q));
  file = rule_file 2 (node 2 (0 ∷ []) ∷ node 2 (1 ∷ []) ∷ node 11 (0 ∷ 1 ∷ []) ∷ node 4 (1 ∷ []) ∷ node 13 (3 ∷ []) ∷ node 5 (2 ∷ 4 ∷ []) ∷ []);
  table = table 2 (state Violated (0 ∷ 0 ∷ 0 ∷ 0 ∷ []) ∷ []);
}

-- "'(p and always eventually q) or (not p and eventually always q)' has three remaining properties but 1 state, moot."
abbrev pub three_residuals : KnownRule
three_residuals = record {
  formula = or (and p (always (eventually q))) (and (neg p) (eventually (always q)));
  file = rule_file 2
      (node 2 (0 ∷ []) ∷ node 2 (1 ∷ []) ∷ node 12 (1 ∷ []) ∷ node 13 (2 ∷ []) ∷ node 5 (0 ∷ 3 ∷ [])
      ∷ node 4 (0 ∷ []) ∷ node 13 (1 ∷ []) ∷ node 12 (6 ∷ []) ∷ node 5 (5 ∷ 7 ∷ []) ∷ node 6 (4 ∷ 8 ∷ []) ∷ []);
  table = table 2 (state Moot (0 ∷ 0 ∷ 0 ∷ 0 ∷ []) ∷ []);
}

-- eventually p, with P = 2
abbrev pub eventually_p : KnownRule
eventually_p = record {
  formula = eventually p;
  file = rule_file 2 (node 2 (0 ∷ []) ∷ node 12 (0 ∷ []) ∷ []);
  table = table 2 (state Undecided (0 ∷ 1 ∷ 0 ∷ 1 ∷ []) ∷ state Satisfied (1 ∷ 1 ∷ 1 ∷ 1 ∷ []) ∷ []);
}

-- eventually (p and (next q or next not q)) | 2 | the bytes of eventually p with P = 2 (document 003)
abbrev pub eventually_either : KnownRule
eventually_either = record {
  formula = eventually (and p (or (next q) (next (neg q))));
  file = rule_file 2
      (node 2 (0 ∷ []) ∷ node 2 (1 ∷ []) ∷ node 10 (1 ∷ []) ∷ node 4 (1 ∷ []) ∷ node 10 (3 ∷ [])
      ∷ node 6 (2 ∷ 4 ∷ []) ∷ node 5 (0 ∷ 5 ∷ []) ∷ node 12 (6 ∷ []) ∷ []);
  table = eventually_p.table;
}
