-- Text, file and table joined: building the file that was written for a text has demands 2 and 3 of what was typed.
use mathlib.Core.Path.{◌≡◌, refl, ap, subst}
use mathlib.Core.Logic.{◌⊎◌, ◌↔◌}
use mathlib.Core.List.{List}
use Prim.Native.Nat.{ℕ, ◌≤◌}
use native.Mathlib.Omega.{arith}
use lib.ListN.{length, take}
use Rattle.meaning.specs.Traces.{over, Word, Lasso}
use Rattle.meaning.specs.Formulas.{Formula, Holds}
use Rattle.meaning.specs.Verdicts.{Property, Judged, MoreThan}
use Rattle.meaning.specs.Monitors.{Monitor, Over, shows, ShowsVerdicts, Renumbered}
use Rattle.meaning.specs.TableFiles.{states_in, monitor_of}
use Rattle.meaning.specs.Refusals.{code_of}
use Rattle.meaning.specs.RuleFiles.{Rule, property_of, rule_formula, judge}
use Rattle.meaning.specs.Grammar.{Tree}
use Rattle.meaning.specs.RuleTexts.{tree_formula, rule_of}
use Rattle.meaning.specs.declared.Verdict.{Verdict}
use Rattle.building.specs.Build as build
use Rattle.building.proofs.Right.{our-demands, right}
use Rattle.grammar.proofs.Trees.{signs_of}
use Rattle.rule_bytes.proofs.Trees.{tree-formula}
use Rattle.rule_text.specs.Writing as text
use Rattle.rule_text.proofs.Rights as rights
use Rattle.typed_rules.specs.Typed.{typed, TableOf, TypedTable, TypedRight}
use Rattle.std.proofs.Common.{Result, Ok, Err}
use Rattle.meaning.specs.declared.Refusal.{Refusal}

-- the property of the written rule is what was typed
property-is : (P : ℕ) (t : Tree) → rule_formula (rule_of P t) ≡ tree_formula t → property_of (rule_of P t) ≡ typed t
unfolding property_of typed
property-is P t e = ap {B = Property} (λ (f : Formula) (ρ : Lasso). Holds ρ 0 f) e

table-formula : {text file : List ℕ} {P : ℕ} {t : Tree} {table : List ℕ} → TableOf text P file t table → property_of (rule_of P t) ≡ typed t
table-formula {P = P} {t} b = property-is P t (tree-formula P t (signs_of b.fits.parses (omega arith)))

typed-table : {text file : List ℕ} {P : ℕ} {t : Tree} {table : List ℕ} → TableOf text P file t table → TypedTable text P file table
typed-table {text} {file} {P} {t} {table} b =
    let e = table-formula b in
    let r : Rule = rule_of P t in
    let two = our-demands.demand_2 file r b.reads in
    let three = our-demands.demand_3 file r table b.reads b.built in
    record {
      tree = t;
      table_of = b;
      verdicts = λ w h v. subst (λ (L : Property). (shows (monitor_of table) w ≡ v) ↔ Judged (over P) L w v) e (two.verdicts table b.built w h v);
      few = subst (λ (L : Property). ¬ MoreThan (over P) L 256) e (two.not_both table b.built);
      form = three.form;
      signals = three.signals;
      events = three.events;
      order = three.order;
      smallest = subst (λ (L : Property). (m : Monitor) → Over (over P) m → ShowsVerdicts (over P) L m → states_in table ≤ m.states) e three.smallest;
      unique = subst (λ (L : Property). (m : Monitor) → Over (over P) m → ShowsVerdicts (over P) L m → m.states ≡ states_in table → Renumbered (over P) (monitor_of table) m) e three.unique;
      canonical = λ text' file' t' table' b'.
          subst (λ (L : Property). (table ≡ table') ↔ ((w : List ℕ) → Word (over P) w → (v : Verdict) → Judged (over P) L w v ↔ Judged (over P) (typed t') w v)) e
          (subst (λ (L : Property). (table ≡ table') ↔ ((w : List ℕ) → Word (over P) w → (v : Verdict) → Judged (over P) (property_of r) w v ↔ Judged (over P) L w v)) (table-formula b')
          (three.canonical file' (rule_of P t') table' b'.reads b'.built refl refl));
    }

-- The join. Whatever the text, its file and the buffers: where the text was written as a file of n bytes, building these bytes answers and leaves what
-- the demands say of what was typed.
pub joined : (s : List ℕ) (P : ℕ) (before : List ℕ) (n : ℕ) (after : List ℕ) → text.Writes s P before (Ok n) after
    → (out after' : List ℕ) (b : Result ℕ Refusal) → build.Right (take n after) out after' b → TypedRight s P (take n after) (length out) after' b
joined s P before n after w out after' (Ok m) h =
    let t = rights.right s P before (Ok n) after w in
    typed-table (record { fits = t.fits; reads = t.reads; built = h.built })
joined s P before n after w out after' (Err x) h =
    let t = rights.right s P before (Ok n) after w in
    record {
      tree = t.tree;
      fits = t.fits;
      reads = t.reads;
      why = subst (λ (L : Property). (((code_of x).0 ≡ 11) × MoreThan (over P) L 256) ⊎ (((code_of x).0 ≡ 10) × (¬ MoreThan (over P) L 256) × build.NoRoom (take n after) (length out)))
          (property-is P t.tree t.formula) (h (rule_of P t.tree) t.reads);
    }

-- and a builder's own answer and output are right
pub joined-built : (s : List ℕ) (P : ℕ) (before : List ℕ) (n : ℕ) (after : List ℕ) → text.Writes s P before (Ok n) after
    → (out : List ℕ) → TypedRight s P (take n after) (length out) (build.output_after (judge (take n after)) out) (build.answer_of (judge (take n after)) out)
joined-built s P before n after w out = joined s P before n after w out (build.output_after (judge (take n after)) out) (build.answer_of (judge (take n after)) out) (right (take n after) out)
