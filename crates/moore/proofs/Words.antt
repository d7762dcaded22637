-- Words put end to end, and the state that a word leads to.
use mathlib.Core.Path.{◌≡◌, refl}
use mathlib.Core.List.{List, [], ◌∷◌, ◌++◌}
use Prim.Native.Nat.{ℕ, ◌<◌}
use Rattle.meaning.specs.Traces.{Alphabet, Word}
use Rattle.meaning.specs.Monitors.{Monitor, Over, follow}

pub word-append : (Σ : Alphabet) (w z : List ℕ) → Word Σ w → Word Σ z → Word Σ (w ++ z)
word-append Σ [] z h l = l
word-append Σ (e ∷ w) z h l = (h.0, word-append Σ w z h.1 l)

pub follow-append : (m : Monitor) (s : ℕ) (w z : List ℕ) → follow m s (w ++ z) ≡ follow m (follow m s w) z
follow-append m s [] z = refl
follow-append m s (e ∷ w) z = follow-append m (m.next s e) w z

pub follow-in : {Σ : Alphabet} {m : Monitor} → Over Σ m → (s : ℕ) (w : List ℕ) → s < m.states → Word Σ w → follow m s w < m.states
follow-in o s [] l h = l
follow-in {m = m} o s (e ∷ w) l h = follow-in o (m.next s e) w (o.next_in s e l h.0) h.1
