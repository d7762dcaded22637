-- How the keys met and their slots stand in arrays.
use Rattle.std.specs.Prelude.{◌≡◌, List, ℕ, ◌+◌, ◌/◌, ◌%◌, ◌≤◌, ◌<◌, length, get_or}
use Rattle.profile_sets.specs.Arrays.{word_at}

-- there are so many keys, one at least, and no two are the same
pub record KeysFit (count : ℕ) (keys : List ℕ) : Type 0 where
  pub some : 1 ≤ count
  pub few : count ≤ 256
  pub room : length keys ≡ 256
  pub apart : (i j : ℕ) → i < j → j < count → ¬ (get_or keys i 0 ≡ get_or keys j 0)

-- the slot of a key, by its words
unfoldable pub slot_of : ℕ → ℕ
slot_of key = (word_at key 0 / 2 + word_at key 1 / 16 + (word_at key 2 / 256 + word_at key 3 / 4096)) % 761

-- x is the number of the last of the first n keys that is in the slot s, or 0 if there is none; the first key, number 0, does not count
pub record LastIn (keys : List ℕ) (s n x : ℕ) : Type 0 where
  pub there : 0 < x → (x < n) × (slot_of (get_or keys x 0) ≡ s)
  pub last : (i : ℕ) → 0 < i → i < n → slot_of (get_or keys i 0) ≡ s → i ≤ x

-- a slot has the last key that is in it, and link i the last one before key i that is in the slot of key i
pub record Slotted (count : ℕ) (keys slots links : List ℕ) : Type 0 where
  pub slots_long : length slots ≡ 768
  pub links_long : length links ≡ 256
  pub heads : (s : ℕ) → s < 768 → LastIn keys s count (get_or slots s 0)
  pub before : (i : ℕ) → 0 < i → i < count → LastIn keys (slot_of (get_or keys i 0)) i (get_or links i 0)
