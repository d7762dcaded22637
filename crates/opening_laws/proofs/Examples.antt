-- What C-18 supposes can be met: a family of two openings, of "always p" with the number 1 and of "eventually p" with
-- the number 2. Both tables have the states 0 and 1 over one signal, so only the number tells a state of one from the
-- other's.
use mathlib.Core.Path.{◌≡◌, refl}
use mathlib.Core.List.{List, [], ◌∷◌, Memᴰ}
use mathlib.Core.Bool.{Bool, true, false, true≢false}
use Prim.Native.Nat.{ℕ}
use native.Mathlib.Omega.{arith}
use Rattle.meaning.specs.Traces.{Word}
use Rattle.meaning.specs.Runs.{decided_from, on_table}
use Rattle.meaning.specs.TableFiles.{is_table}
use Rattle.meaning.specs.Openings.{opening, state_of, start_of, run_from}
use Rattle.meaning.specs.declared.Refusal.{Refusal}
use Rattle.meaning.specs.declared.Refusal.TheVariants.{WrongOpening}
use Rattle.meaning.specs.declared.Arrival.{Arrival}
use Rattle.meaning.specs.declared.State.{State}
use Rattle.meaning.specs.declared.Verdict.TheVariants.{Violated}
use Rattle.building.specs.Build.{BuiltRight}
use Rattle.building.proofs.Right.{our-demands}
use Rattle.known_rules.specs.Files.{table_file}
use Rattle.known_rules.specs.Rules.{KnownRule, P4, P5, known_rules}
use Rattle.known_rules.specs.Lines.{bytes}
use Rattle.known_rules.proofs.Known.{known}
use Rattle.opening_laws.specs.Laws.{Family, alphabet_at, Held, start, run}
use Rattle.opening_laws.proofs.States.{state-right}
use Rattle.std.proofs.Common.{Ok, Err, Some}

-- the first opening is that of P4, "always p"; the other that of P5, "eventually p"
abbrev rule : Bool → KnownRule
rule true = P4
rule false = P5

abbrev number : Bool → ℕ
number true = 1
number false = 2

-- both are in the table of known rules
listed : (i : Bool) → Memᴰ (rule i) known_rules
listed true = Memᴰ.tail (Memᴰ.tail (Memᴰ.tail (Memᴰ.head refl)))
listed false = Memᴰ.tail (Memᴰ.tail (Memᴰ.tail (Memᴰ.tail (Memᴰ.head refl))))

pub built : (i : Bool) → BuiltRight (rule i).file (bytes (rule i))
built i =
    let l = known (rule i) (listed i) in
    record {
      rule = l.rule;
      reads = l.reads;
      built = l.built;
      demand_2 = our-demands.demand_2 (rule i).file l.rule l.reads;
      demand_3 = l.demand_3;
    }

pub apart : (i j : Bool) → number i ≡ number j → i ≡ j
apart true true q = refl
apart false false q = refl
apart true false q = absurd (omega (arith, q))
apart false true q = absurd (omega (arith, q))

unfoldable pub two : Family Bool
two = record {
  opening = λ i. opening (bytes (rule i)) (number i);
  file = λ i. (rule i).file;
  built = built;
  distinct = apart;
}

-- a start is refused by the other opening
pub start-foreign : (i j : Bool) (es : List ℕ) → ¬ (i ≡ j)
    → run_from (two.opening j) (start_of (two.opening i)) es ≡ Err (WrongOpening 0)
start-foreign i j es = ((state-right two i (start_of (two.opening i)) [] (start i)).foreign j es).1

-- and taken by its own
pub start-own : (i : Bool) (es : List ℕ) → Word (alphabet_at two i) es → (x : Refusal)
    → ¬ (run_from (two.opening i) (start_of (two.opening i)) es ≡ Err x)
start-own i es = (state-right two i (start_of (two.opening i)) [] (start i)).taken es

-- "always p" arrives at its state 1 by the event 0, violated
abbrev arrival : Arrival State
arrival = record { state = state_of 1 1; verdict = Violated; decided = Some 1 }

arrived : run_from (two.opening true) (start_of (two.opening true)) (0 ∷ []) ≡ Ok arrival
unfolding two is_table decided_from on_table table_file
arrived = refl

pub held : Held two true (state_of 1 1) (0 ∷ [])
held = run true (0 ∷ []) arrival (start true) arrived

-- where "eventually p" has a state 1 too, and refuses this one
pub held-foreign : (es : List ℕ) → run_from (two.opening false) (state_of 1 1) es ≡ Err (WrongOpening 0)
held-foreign es = ((state-right two true (state_of 1 1) (0 ∷ []) held).foreign false es).1 (λ q. true≢false q)
