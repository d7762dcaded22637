-- Demands 2 and 3 hold of every builder that reads rule files and has a residual system for each rule.
use mathlib.Core.Path.{◌≡◌, refl, sym, subst, subst₂}
use mathlib.Core.Logic.{◌⊎◌, ◌↔◌, inl, inr}
use mathlib.Core.List.{List}
use Prim.Native.Nat.{ℕ, ◌^◌}
use Rattle.meaning.specs.Traces.{masked, Word}
use Rattle.meaning.specs.Verdicts.{Property, Judged, MoreThan}
use Rattle.meaning.specs.RuleFiles.{Rule, alphabet_of, property_of}
use Rattle.meaning.specs.Demands.{Reads, Demand2, Demand3, Demands}
use Rattle.meaning.specs.declared.Verdict.{Verdict}
use Rattle.residuals.specs.System.{System}
use Rattle.smallest.specs.Table.{Outcome, Table, TooMany, table_of}
use Rattle.smallest.specs.Builder.{Built}
use Rattle.smallest.proofs.Accepted.{accepted-formed}
use Rattle.smallest.proofs.Tables.{OfSignals, of-formed, written-form, written-signals, written-events}
use Rattle.smallest.proofs.Smallest.{Smallest, shows-verdicts, fewest-states, renumbered, table-smallest, too_many}
use Rattle.smallest.proofs.Canonical.{tables-equal}

-- over equally many signals and the same mask
equal_over : (r r' : Rule) {t t' : List ℕ} {L' : Property} → OfSignals (alphabet_of r) r.signals → r'.signals ≡ r.signals → r'.mask ≡ r.mask
    → Smallest (alphabet_of r) r.signals (property_of r) t → Smallest (alphabet_of r') r'.signals L' t'
    → (t ≡ t') ↔ ((w : List ℕ) → Word (alphabet_of r) w → (v : Verdict) → Judged (alphabet_of r) (property_of r) w v ↔ Judged (alphabet_of r') L' w v)
equal_over r r' {t} {t'} {L'} s q m h h' =
    subst₂ (λ (P n : ℕ). Smallest (masked (2 ^ P) n) P L' t' → (t ≡ t') ↔ ((w : List ℕ) → Word (alphabet_of r) w → (v : Verdict) → Judged (alphabet_of r) (property_of r) w v ↔ Judged (masked (2 ^ P) n) L' w v))
    (sym q) (sym m) (λ k. tables-equal s h k) h'

module _ (system : (r : Rule) → System (alphabet_of r) (property_of r)) where
  module _ {file : List ℕ} {rule : Rule} (reads : Reads file rule) where
    built-is : {table : List ℕ} → Built system file table → table_of (system rule) rule.signals ≡ Table table
    built-is {table} b =
        let first : Reads file b.rule = b.reads in
        let q : b.rule ≡ rule = cc in
        subst (λ (r : Rule). table_of (system r) r.signals ≡ Table table) q b.is

    built-smallest : {table : List ℕ} → Built system file table → Smallest (alphabet_of rule) rule.signals (property_of rule) table
    built-smallest {table} b = table-smallest (of-formed (accepted-formed file rule reads)) (system rule) table (built-is b)

    built_or_many : ((table : List ℕ) × Built system file table) ⊎ MoreThan (alphabet_of rule) (property_of rule) 256
    built_or_many = go (table_of (system rule) rule.signals) refl
      where
        go : (x : Outcome) → table_of (system rule) rule.signals ≡ x → ((table : List ℕ) × Built system file table) ⊎ MoreThan (alphabet_of rule) (property_of rule) 256
        go (Table t) q = inl (t, record { rule = rule; reads = reads; is = q })
        go TooMany q = inr (too_many (of-formed (accepted-formed file rule reads)) (system rule) q)

    second : Demand2 (Built system) file rule
    second = record {
      verdicts = λ table b w a v. (built-smallest b).judged w a v;
      built_or_many = built_or_many;
      not_both = λ table b. (built-smallest b).few;
    }

  third : (file : List ℕ) (rule : Rule) (table : List ℕ) → Reads file rule → Built system file table → Demand3 (Built system) file rule table
  third file rule table reads b = record {
    form = written-form h.written;
    signals = written-signals h.written;
    events = written-events h.written (of-formed (accepted-formed file rule reads));
    order = h.order;
    verdicts = shows-verdicts h;
    smallest = λ m o s. fewest-states h m o s;
    unique = λ m o s q. renumbered h m o s q;
    canonical = λ file' rule' table' reads' b' q m. equal_over rule rule' (of-formed (accepted-formed file rule reads)) q m h (built-smallest reads' b');
  }
    where
      h : Smallest (alphabet_of rule) rule.signals (property_of rule) table
      h = built-smallest reads b

  pub demands : Demands (Built system)
  demands = record { demand_2 = λ file rule reads. second reads; demand_3 = third }
