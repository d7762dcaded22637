-- "A table of any make." Field term: monitor, a Moore machine.
use Rattle.std.specs.Prelude.{◌≡◌, List, [], ◌∷◌, ◌++◌, map, Bool, false, cond, ◌||◌, ℕ, zero, suc, ◌<◌, eqb}
use Rattle.sequences.specs.Tabulate.{up_to}
use Rattle.meaning.specs.Traces.{Alphabet, Event, Word}
use Rattle.meaning.specs.Verdicts.{Property, Judged}
use Rattle.meaning.specs.declared.Verdict.{Verdict}

-- "any number T of states, from 1 up and with no upper limit. One of them is its start. Each state has one of the four verdicts and, for each
-- event, one of the T states as successor." The states are the numbers below T.
pub record Monitor : Type 0 where
  pub states : ℕ
  pub start : ℕ
  pub verdict : ℕ → Verdict
  pub next : ℕ → ℕ → ℕ

pub record Over (Σ : Alphabet) (m : Monitor) : Type 0 where
  pub start_in : m.start < m.states
  pub next_in : (s e : ℕ) → s < m.states → Event Σ e → m.next s e < m.states

-- "Each event moves it to the successor, for that event, of the state on which it stands; nothing else moves it."
abbrev pub follow : Monitor → ℕ → List ℕ → ℕ
follow m s [] = s
follow m s (e ∷ w) = follow m (m.next s e) w

-- "Before the first it stands on its start. After a list it shows the verdict of the state on which it then stands."
abbrev pub shows : Monitor → List ℕ → Verdict
shows m w = m.verdict (follow m m.start w)

-- it shows the verdict that demand 2 gives after every list, the empty one too
unfoldable pub ShowsVerdicts : Alphabet → Property → Monitor → Type 0
ShowsVerdicts Σ L m = (w : List ℕ) → Word Σ w → Judged Σ L w (shows m w)

-- "Another table is ours renumbered if its states can be paired with ours, none left over or used twice, so that the two starts are paired,
-- paired states have the same verdict, and for each event the successors of paired states are paired."
pub record Renumbered (Σ : Alphabet) (ours other : Monitor) : Type 0 where
  pub to : ℕ → ℕ
  pub from : ℕ → ℕ
  pub to_in : (s : ℕ) → s < ours.states → to s < other.states
  pub from_in : (t : ℕ) → t < other.states → from t < ours.states
  pub from_to : (s : ℕ) → s < ours.states → from (to s) ≡ s
  pub to_from : (t : ℕ) → t < other.states → to (from t) ≡ t
  pub starts : to ours.start ≡ other.start
  pub verdicts : (s : ℕ) → s < ours.states → other.verdict (to s) ≡ ours.verdict s
  pub successors : (s e : ℕ) → s < ours.states → Event Σ e → other.next (to s) e ≡ to (ours.next s e)

-- ---- "in the order in which a breadth-first walk from the start, events ascending, first meets them"

abbrev pub member : ℕ → List ℕ → Bool
member s [] = false
member s (t ∷ ts) = eqb s t || member s ts

-- of a list of states, those that were not met before, each once, in the order of their first meeting
abbrev pub newly_met : List ℕ → List ℕ → List ℕ
newly_met met [] = []
newly_met met (t ∷ ts) = cond (member t met) (newly_met met ts) (t ∷ newly_met (met ++ (t ∷ [])) ts)

abbrev pub keep : (ℕ → Bool) → List ℕ → List ℕ
keep p [] = []
keep p (e ∷ es) = cond (p e) (e ∷ keep p es) (keep p es)

-- the events that can happen, ascending
abbrev pub events : Alphabet → List ℕ
events Σ = keep Σ.possible (up_to Σ.width)

-- at most k turns of the walk: the first of the queue is taken off, and the states that it meets first join the queue at its end
abbrev pub walk : Alphabet → Monitor → ℕ → List ℕ → List ℕ → List ℕ
walk Σ m zero queue met = met
walk Σ m (suc k) [] met = met
walk Σ m (suc k) (s ∷ queue) met = let new = newly_met met (map (m.next s) (events Σ)) in walk Σ m k (queue ++ new) (met ++ new)

-- each state joins the queue once, so as many turns as there are states are enough; every state is met, and in the order of its number
unfoldable pub BreadthFirst : Alphabet → Monitor → Type 0
BreadthFirst Σ m = walk Σ m m.states (m.start ∷ []) (m.start ∷ []) ≡ up_to m.states
