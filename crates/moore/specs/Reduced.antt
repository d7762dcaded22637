-- When a monitor is reduced: each of its states is reached from the start, and any two are told apart by a word.
use Rattle.std.specs.Prelude.{◌≡◌, ◌≢◌, List, ℕ, ◌<◌}
use Rattle.meaning.specs.Traces.{Alphabet, Event, Word}
use Rattle.meaning.specs.Monitors.{Monitor, follow, shows}

-- each state with a word that leads to it from the start
pub record Reached (Σ : Alphabet) (m : Monitor) : Type 0 where
  pub access : ℕ → List ℕ
  pub word : (s : ℕ) → s < m.states → Word Σ (access s)
  pub arrives : (s : ℕ) → s < m.states → follow m m.start (access s) ≡ s

-- a word after which the verdicts of two states differ
pub record Apart (Σ : Alphabet) (m : Monitor) (s t : ℕ) : Type 0 where
  pub by : List ℕ
  pub word : Word Σ by
  pub differ : m.verdict (follow m s by) ≢ m.verdict (follow m t by)

pub record Reduced (Σ : Alphabet) (m : Monitor) : Type 0 where
  pub reached : Reached Σ m
  pub apart : (s t : ℕ) → s < m.states → t < m.states → s ≢ t → Apart Σ m s t

-- two monitors show the same verdict after every word
pub record SameVerdicts (Σ : Alphabet) (m m' : Monitor) : Type 0 where
  pub same : (w : List ℕ) → Word Σ w → shows m w ≡ shows m' w

-- two monitors are equal, but for states that they do not have and events that cannot happen
pub record SameRows (Σ : Alphabet) (m m' : Monitor) : Type 0 where
  pub states : m.states ≡ m'.states
  pub start : m.start ≡ m'.start
  pub verdict : (s : ℕ) → s < m.states → m.verdict s ≡ m'.verdict s
  pub next : (s e : ℕ) → s < m.states → Event Σ e → m.next s e ≡ m'.next s e
