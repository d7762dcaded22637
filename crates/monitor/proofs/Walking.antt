-- What the arrays of the walk hold is what the model's walk over the rule's residual system gives.
use mathlib.Core.Path.{◌≡◌, sym, ◌∙◌, subst}
use mathlib.Core.List.{List}
use mathlib.Core.Bool.{Bool, true, false, cond}
use Prim.Native.Nat.{ℕ, ◌^◌, ◌≤◌, ◌<◌}
use native.Mathlib.Omega.{arith}
use lib.ListN.{length, get_or}
use Rattle.sequences.specs.Tabulate.{tabulate}
use Rattle.sequences.proofs.Loops.{get_d-tab}
use Rattle.meaning.specs.RuleFiles.{Rule, alphabet_of}
use Rattle.ltl.specs.Nodes.{splits}
use Rattle.ltl.specs.Keys.{Tables, tables_of, start_key, empty_key, full_key}
use Rattle.ltl.proofs.Instance.{nodes_system, ltl_system}
use Rattle.walk.specs.Explore.{within, beyond}
use Rattle.walk.proofs.Closed.{Closed}
use Rattle.walk.proofs.Ends.{closed-if}
use Rattle.moore.specs.Grouping.{entry, Machine}
use Rattle.smallest.proofs.Extensional.{Agree}
use Rattle.smallest.specs.Table.{Table, TooMany, reduced_bytes, class_of, classes_of}
use Rattle.smallest.proofs.Accepted.{Formed}
use Rattle.smallest.proofs.Tables.{of-formed}
use Rattle.smallest.proofs.Smallest.{table-within, table-beyond}
use Rattle.exploration.specs.Answers.{explore_keys, ClosedAs}
use Rattle.exploration.specs.Answers as Walk
use Rattle.building.specs.Build.{outcome_of}

-- the tables of a rule
abbrev pub tables_for : Rule → Tables
tables_for r = tables_of (alphabet_of r) (splits r.nodes)

-- the classes of the model's keys
abbrev pub class_list : Rule → List ℕ → List ℕ
class_list r keys = tabulate (length keys) (λ i. Walk.class_of (tables_for r) (get_or keys i (start_key (tables_for r))))

pub record Closes (r : Rule) (keys : List ℕ) (states : List (List ℕ)) : Type 0 where
  pub some : 0 < length keys
  pub few : length keys ≤ 256
  pub count : length states ≡ length keys
  pub inside : (s e : ℕ) → s < length keys → e < 2 ^ r.signals → entry states s e < length keys
  pub outcome : outcome_of r ≡ Table (reduced_bytes (alphabet_of r) r.signals (length states) states (class_list r keys))

pub closes : (r : Rule) → Formed r → (keys : List ℕ) (states : List (List ℕ)) → explore_keys (tables_for r) (alphabet_of r) ≡ within keys states → Closes r keys states
unfolding ltl_system nodes_system outcome_of classes_of class_of
closes r f keys states q = record { some = C.some; few = C.few; count = C.count; inside = λ i e h l. C.inside i e h l; outcome = table-within (of-formed f) (ltl_system r) keys states q }
  where
    C : Closed (ltl_system r) 256 keys states
    C = closed-if (ltl_system r) 256 (omega arith) q

pub goes-beyond : (r : Rule) → Formed r → (keys : List ℕ) (k : ℕ) → explore_keys (tables_for r) (alphabet_of r) ≡ beyond keys k → outcome_of r ≡ TooMany
unfolding ltl_system nodes_system outcome_of
goes-beyond r f keys k q = table-beyond (of-formed f) (ltl_system r) keys k q

class-few : (b c : Bool) → cond b 2 (cond c 1 0) ≤ 2
class-few true c = omega arith
class-few false true = omega arith
class-few false false = omega arith

module _ (r : Rule) {keys : List ℕ} {states rows : List (List ℕ)} {answer : ℕ} {classes : List ℕ}
    (C : Closes r keys states) (A : ClosedAs r.signals (tables_for r) keys states answer rows classes) where
  -- the arrays are a machine
  pub machine-in : Machine (alphabet_of r) (length keys) rows classes
  machine-in = record {
    some = C.some;
    inside = λ s e h l. subst (λ (k : ℕ). k < length keys) (sym (A.successors s e h l.0)) (C.inside s e h l.0);
    class = λ s h. subst (λ (k : ℕ). k ≤ 2) (sym (A.class s h)) (class-few (empty_key (get_or keys s (start_key (tables_for r)))) (full_key (tables_for r) (get_or keys s (start_key (tables_for r)))));
  }

  -- which agrees with the model's
  pub agrees : Agree (alphabet_of r) (length keys) rows states classes (class_list r keys)
  agrees = record {
    row = λ s e h l. A.successors s e h l;
    class = λ s h. A.class s h ∙ sym (get_d-tab (length keys) (λ i. Walk.class_of (tables_for r) (get_or keys i (start_key (tables_for r)))) s 0 h);
  }
