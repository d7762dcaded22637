-- What C-17 says of an answer, over every table t and all recordings a and b.
use Rattle.std.specs.Prelude.{◌≡◌, List, true, ℕ, ◌/◌, ◌<◌, length}
use Rattle.sequences.specs.Tabulate.{tabulate}
use Rattle.meaning.specs.Bytes.{bit}
use Rattle.meaning.specs.Verdicts.{Judged}
use Rattle.meaning.specs.RuleFiles.{Rule, alphabet_of, property_of}
use Rattle.meaning.specs.TableFiles.{alphabet_in, signals_in}
use Rattle.meaning.specs.Runs.{decides, run_of}
use Rattle.meaning.specs.Recordings.{seen_at, knows, joined_at, joined_list, Completion}
use Rattle.meaning.specs.declared.Verdict.{Verdict}
use Rattle.meaning.specs.declared.Seen.{Seen}
use Rattle.std.specs.Prelude.{Result, Ok, Err}
use Rattle.meaning.specs.declared.Arrival.{Arrival}
use Rattle.meaning.specs.declared.Refusal.{Refusal}

-- the run is not refused, and ends with the verdict v
abbrev pub EndsWith : Result (Arrival ℕ) Refusal → Verdict → Type 0
EndsWith (Ok a) v = a.verdict ≡ v
EndsWith (Err x) v = ⊥

-- "Satisfied, violated or moot is answered exactly if every completion's run ends with it; else undecided": v is answered
pub record AnswerRight (t a b : List ℕ) (v : Verdict) : Type 0 where
  -- there is a completion
  pub some : (w : List ℕ) × Completion (alphabet_in t (signals_in t)) (signals_in t) (joined_list a b) w
  pub ends : decides v ≡ true → (w : List ℕ) → Completion (alphabet_in t (signals_in t)) (signals_in t) (joined_list a b) w → EndsWith (run_of t 0 w) v
  pub only : (u : Verdict) → decides u ≡ true → ((w : List ℕ) → Completion (alphabet_in t (signals_in t)) (signals_in t) (joined_list a b) w → EndsWith (run_of t 0 w) u) → v ≡ u

-- with a built table violated is answered exactly if every completion's list is judged violated by demand 2, and so for the others
pub record BuiltAnswer (r : Rule) (a b : List ℕ) (v : Verdict) : Type 0 where
  pub some : (w : List ℕ) × Completion (alphabet_of r) r.signals (joined_list a b) w
  pub judged : decides v ≡ true → (w : List ℕ) → Completion (alphabet_of r) r.signals (joined_list a b) w → Judged (alphabet_of r) (property_of r) w v
  pub only : (u : Verdict) → decides u ≡ true → ((w : List ℕ) → Completion (alphabet_of r) r.signals (joined_list a b) w → Judged (alphabet_of r) (property_of r) w u) → v ≡ u

-- nothing is unknown: one of the two knows each of the P signals, at each event
abbrev pub NothingUnknown : ℕ → List ℕ → List ℕ → Type 0
NothingUnknown P a b = (i : ℕ) → i < length a / 2 → (s : ℕ) → s < P → knows (joined_at a b i) s ≡ true

-- the events that were recorded then
abbrev pub recorded_events : List ℕ → List ℕ → List ℕ
recorded_events a b = tabulate (length a / 2) (λ i. (joined_at a b i).values)

-- what one recorded event knows of the P signals, another knows too, with the same values
abbrev pub KnowsMore : ℕ → Seen → Seen → Type 0
KnowsMore P r q = (s : ℕ) → s < P → knows r s ≡ true → (knows q s ≡ true) × (bit s r.values ≡ bit s q.values)

-- and so at each event of a recording
pub record Richer (P : ℕ) (a b : List ℕ) : Type 0 where
  pub long : length a ≡ length b
  pub more : (i : ℕ) → i < length a / 2 → KnowsMore P (seen_at a i) (seen_at b i)
