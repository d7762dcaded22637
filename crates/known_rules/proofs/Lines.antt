-- A line of the table of known rules holds if what is computed of its file is what it says.
use mathlib.Core.Path.{◌≡◌, ap, subst, subst₂}
use mathlib.Core.Logic.{◌↔◌}
use mathlib.Core.List.{List, []}
use Prim.Native.Nat.{ℕ, ◌^◌}
use Rattle.meaning.specs.Traces.{masked, Word}
use Rattle.meaning.specs.Formulas.{Formula, Holds}
use Rattle.meaning.specs.Verdicts.{Judged}
use Rattle.meaning.specs.Monitors.{shows}
use Rattle.meaning.specs.RuleFiles.{Rule, property_of, rule_formula, Judgement, judge, header_of, mask_of, body_from, nodes_from, reading_of}
use Rattle.meaning.specs.TableFiles.{monitor_of}
use Rattle.meaning.specs.Demands.{Reads}
use Rattle.meaning.specs.declared.Verdict.{Verdict}
use Rattle.ltl.specs.Realizable.{realizable}
use Rattle.ltl.specs.Residuals.{whole_set}
use Rattle.ltl.specs.Keys.{tables_of}
use Rattle.ltl.proofs.Instance.{nodes_system, ltl_system}
use Rattle.walk.specs.Explore.{locate, enter, visit, expand_from, expand, explore_from, explore}
use Rattle.moore.specs.Grouping.{first_groups, next_groups, rounds, grouping}
use Rattle.moore.specs.Quotient.{leaders, size, number, closed, verdicts, quotient_rows}
use Rattle.table_bytes.specs.Written.{table_bytes}
use Rattle.smallest.specs.Table.{Outcome, reduced_bytes, class_of, classes_of, table_of}
use Rattle.smallest.specs.Builder.{Built}
use Rattle.smallest.proofs.Demands.{demands}
use Rattle.known_rules.specs.Rules.{KnownRule}
use Rattle.known_rules.specs.Lines.{bytes, alphabet, Line, TableOf}

-- the rule of a file, and one with no node where the file is refused
unfoldable pub rule_in : List ℕ → Rule
unfolding judge header_of body_from mask_of nodes_from reading_of
rule_in file = elim (judge file) [ Judgement.Accepted r ↦ r | Judgement.Refused r ↦ record { signals = 0; mask = 0; nodes = [] } ]

-- what is built of a rule; where this unfolds, all does that is needed to compute it
unfoldable pub outcome_of : Rule → Outcome
unfolding ltl_system nodes_system tables_of whole_set realizable explore explore_from expand expand_from visit enter locate table_of class_of classes_of reduced_bytes grouping rounds next_groups first_groups leaders size number closed verdicts quotient_rows table_bytes
outcome_of rule = table_of (ltl_system rule) rule.signals

-- what is computed of a file: the judgement, and of its rule the signals, the mask, the formula and the table
pub record Found : Type 0 where
  pub judgement : Judgement
  pub signals : ℕ
  pub mask : ℕ
  pub formula : Formula
  pub outcome : Outcome

abbrev pub found : KnownRule → Found
found k =
    let rule = rule_in k.file in
    record { judgement = judge k.file; signals = rule.signals; mask = rule.mask; formula = rule_formula rule; outcome = outcome_of rule }

-- what a line says of it
abbrev pub expected : KnownRule → Found
expected k = record {
  judgement = Judgement.Accepted (rule_in k.file);
  signals = k.table.signals;
  mask = k.table.mask;
  formula = k.formula;
  outcome = Outcome.Table (bytes k);
}

-- from a file no more than one table is built
one_table : {file t t' : List ℕ} → Built ltl_system file t → Built ltl_system file t' → t ≡ t'
one_table {file} {t} {t'} b b' =
    let reads : Reads file b.rule = b.reads in
    let reads' : Reads file b'.rule = b'.reads in
    let same : b.rule ≡ b'.rule = cc in
    let is : table_of (ltl_system b'.rule) b'.rule.signals ≡ Outcome.Table t = subst (λ (r : Rule). table_of (ltl_system r) r.signals ≡ Outcome.Table t) same b.is in
    let is' : table_of (ltl_system b'.rule) b'.rule.signals ≡ Outcome.Table t' = b'.is in
    cc

-- by demands 2 and 3
pub line : (k : KnownRule) → found k ≡ expected k → Line k
unfolding outcome_of
line k c = record {
  rule = rule_in k.file;
  reads = reads;
  signals = ap (λ (f : Found). f.signals) c;
  mask = ap (λ (f : Found). f.mask) c;
  formula = ap (λ (f : Found). f.formula) c;
  built = built;
  only = λ t b. one_table b built;
  verdicts = ((demands ltl_system).demand_2 k.file (rule_in k.file) reads).verdicts (bytes k) built;
  demand_3 = (demands ltl_system).demand_3 k.file (rule_in k.file) (bytes k) reads built;
}
  where
    reads : Reads k.file (rule_in k.file)
    reads = ap (λ (f : Found). f.judgement) c

    built : Built ltl_system k.file (bytes k)
    built = record { rule = rule_in k.file; reads = reads; is = ap (λ (f : Found). f.outcome) c }

pub line-table : {k : KnownRule} → Line k → TableOf k
unfolding property_of
line-table {k} l =
    subst (λ (f : Formula). (w : List ℕ) → Word (alphabet k) w → (v : Verdict) → (shows (monitor_of (bytes k)) w ≡ v) ↔ Judged (alphabet k) (λ ρ. Holds ρ 0 f) w v) l.formula
    (subst₂
    (λ (P m : ℕ). (w : List ℕ) → Word (masked (2 ^ P) m) w → (v : Verdict) → (shows (monitor_of (bytes k)) w ≡ v) ↔ Judged (masked (2 ^ P) m) (property_of l.rule) w v)
    l.signals l.mask l.verdicts)
