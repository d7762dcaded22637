-- Loops that fill an array, or an array of rows, from the front.
use mathlib.Core.Path.{◌≡◌, ◌∙◌, subst}
use mathlib.Core.List.{List, []}
use Prim.Native.Nat.{ℕ, ◌+◌, ◌<◌}
use native.Mathlib.Decide.{ℕ_discrete}
use native.Mathlib.Omega.{arith}
use lib.ListN.{length, get_or, set}
use lib.Seq.{get_or-set_same, get_or-set_other}
use Rattle.valuation.specs.Entries.{Entries, Table}

pub entries-more : {A : Type 0} {n : ℕ} {f : ℕ → A} {d : A} {row : List A} {v : A} → Entries n f d row → v ≡ f n → n < length row → Entries (n + 1) f d (set row n v)
entries-more {n = n} {f} {d} {row} {v} h q l = record { entry = λ i k. go i k (ℕ_discrete i n) }
  where
    go : (i : ℕ) → i < n + 1 → Dec (i ≡ n) → get_or (set row n v) i d ≡ f i
    go i k (yes e) = rw e (get_or-set_same row n v d l ∙ q)
    go i k (no e) = get_or-set_other row n i v d e ∙ h.entry i (omega arith)

pub entries-to : {A : Type 0} {n : ℕ} {f : ℕ → A} {d : A} {row : List A} → Entries n f d row → (m : ℕ) → n ≡ m → Entries m f d row
entries-to {f = f} {d} {row} h m e = subst (λ (k : ℕ). Entries k f d row) e h

pub table_more : {w n : ℕ} {f : ℕ → ℕ → ℕ} {rows : List (List ℕ)} {row : List ℕ} → Table w n f rows → Entries n (f w) 0 row → w < length rows → Table (w + 1) n f (set rows w row)
table_more {w} {n} {f} {rows} {row} h q l = record { entry = λ e y k j. go e y k j (ℕ_discrete e w) }
  where
    go : (e y : ℕ) → e < w + 1 → y < n → Dec (e ≡ w) → get_or (get_or (set rows w row) e []) y 0 ≡ f e y
    go e y k j (yes p) = rw (p, get_or-set_same rows w row [] l) (q.entry y j)
    go e y k j (no p) = rw (get_or-set_other rows w e row [] p) (h.entry e y (omega arith) j)
