-- Laws of rows copied from the bytes.
use mathlib.Core.Path.{◌≡◌, ap, ap₂, ◌∙◌}
use mathlib.Core.List.{List, []}
use Prim.Native.Nat.{ℕ, ◌+◌, ◌*◌, ◌/◌, ◌%◌, ◌≤◌, ◌<◌}
use native.Mathlib.Nat.{not-suc-le-zero}
use native.Mathlib.Omega.{arith}
use lib.ListN.{length, get_or}
use Rattle.sequences.specs.Tabulate.{tabulate}
use Rattle.sequences.proofs.Loops.{Filled, filled-all, length-tab, get_d-tab}
use Rattle.meaning.specs.TableFiles.{successor}
use Rattle.run_parts.specs.Parts.{Copied}

abbrev pub flat : List ℕ → ℕ → ℕ → ℕ
flat t P k = successor t P (k / 16) (k % 16)

module _ {t : List ℕ} {P : ℕ} where
  pub copied_none : Copied t P []
  copied_none = record { there = λ s e b l. absurd (not-suc-le-zero l) }

  pub copied : {n : ℕ} {d rows : List ℕ} (m : ℕ) → Filled n (flat t P) d rows → n ≡ m → length d ≤ m → Copied t P rows
  copied {rows = rows} m h q l = record { there = there }
    where
      all : rows ≡ tabulate m (flat t P)
      all = filled-all m h q l

      there : (s e : ℕ) → e ≤ 15 → 16 * s + e < length rows → get_or rows (16 * s + e) 0 ≡ successor t P s e
      there s e b i =
          let k : 16 * s + e < m = omega (arith, i, ap length all ∙ length-tab m (flat t P)) in
          ap (λ (r : List ℕ). get_or r (16 * s + e) 0) all ∙ get_d-tab m (flat t P) (16 * s + e) 0 k
          ∙ ap₂ (successor t P) (omega arith) (omega arith)
