-- Sets of the states of a table, marked in a list, and how they move by one of several events. The table is t, over P signals and with S states.
use Rattle.std.specs.Prelude.{◌≡◌, ◌⊎◌, List, Bool, true, false, cond, ℕ, ◌<◌, length, get_or, eqb}
use Rattle.sequences.specs.Tabulate.{all_below}
use Rattle.meaning.specs.TableFiles.{successor, verdict_byte}
use Rattle.meaning.specs.Runs.{in_table}

-- the state is in the set
abbrev pub Has : List Bool → ℕ → Type 0
Has set s = get_or set s false ≡ true

-- the event is among the first n of the list
abbrev pub Among : ℕ → List ℕ → ℕ → Type 0
Among n es e = (k : ℕ) × (k < n) × (get_or es k 0 ≡ e)

module _ (t : List ℕ) (P S : ℕ) (n : ℕ) (es : List ℕ) where
  -- The successors of the state s for the first n events, added to a set; ok says that each of them is in the table.
  pub record Spread (s : ℕ) (old new : List Bool) (ok : Bool) : Type 0 where
    pub long : length new ≡ 256
    pub kept : (q : ℕ) → Has old q → Has new q
    pub hit : ok ≡ true → (e : ℕ) → Among n es e → (in_table t P S (successor t P s e) ≡ true) × Has new (successor t P s e)
    pub only : (q : ℕ) → Has new q → Has old q ⊎ ((e : ℕ) × Among n es e × (successor t P s e ≡ q))
    pub out : ok ≡ false → (e : ℕ) × Among n es e × (in_table t P S (successor t P s e) ≡ false)

  -- The successors of the members of a set that are below m, and no others; ok says that each of them is in the table.
  pub record Moved (m : ℕ) (from to : List Bool) (ok : Bool) : Type 0 where
    pub long : length to ≡ 256
    pub hit : ok ≡ true → (s e : ℕ) → s < m → Has from s → Among n es e → (in_table t P S (successor t P s e) ≡ true) × Has to (successor t P s e)
    pub only : (q : ℕ) → Has to q → (s : ℕ) × (e : ℕ) × Has from s × Among n es e × (successor t P s e ≡ q)
    pub out : ok ≡ false → (s : ℕ) × (e : ℕ) × (s < m) × Has from s × Among n es e × (in_table t P S (successor t P s e) ≡ false)

-- each member of the set has the verdict byte v
abbrev pub shows_byte : List ℕ → ℕ → List Bool → ℕ → ℕ → Bool
shows_byte t P set v s = cond (get_or set s false) (eqb (verdict_byte t P s) v) true

abbrev pub all_show : List ℕ → ℕ → ℕ → List Bool → ℕ → Bool
all_show t P S set v = all_below S (shows_byte t P set v)
