-- Laws of the mask's record, where it stands and where it does not.
use mathlib.Core.Path.{◌≡◌, ap}
use mathlib.Core.List.{List, [], ◌∷◌, ◌++◌}
use mathlib.Core.Bool.{Bool, true, false, cond}
use Prim.Native.Nat.{ℕ, ◌^◌, ◌≤◌}
use native.Mathlib.Omega.{arith}
use borrow.Author.Tests.{ne_eqb}
use lib.Dec.{leb, eqb}
use Rattle.meaning.specs.Bytes.{u16_at}
use Rattle.meaning.specs.Traces.{full_mask}
use Rattle.meaning.specs.RuleFiles.{first_of, frame_checks, mask_of}
use Rattle.meaning.specs.declared.Refusal.{Refusal}
use Rattle.meaning.specs.declared.Refusal.TheVariants.{OutOfRange, NoEvent}
use Rattle.rule_records.proofs.Checks.{first-cleared}
use Rattle.std.proofs.Common.{Result, Ok, Err}
use Rattle.meaning.specs.declared.Mask.{Mask}

-- the checks of the mask's record
abbrev pub mask_checks : List ℕ → ℕ → List (Bool × Refusal)
mask_checks b P = frame_checks b 6 true (eqb (u16_at b 6) 4) ++ ((leb (2 ^ 2 ^ P) (u16_at b 10), OutOfRange 6) ∷ (eqb (u16_at b 10) 0, NoEvent 6) ∷ [])

module _ (b : List ℕ) (P : ℕ) where
  abbrev checks : List (Bool × Refusal)
  checks = mask_checks b P

  abbrev found : Result Mask Refusal
  found = Ok (record { mask = u16_at b 10; nodes_at = 12 })

  -- there is none
  pub mask-absent : (m : ℕ) → ¬ (u16_at b 8 ≡ 257) → m ≡ full_mask P → Ok (record { mask = m; nodes_at = 6 }) ≡ mask_of b P
  unfolding mask_of
  mask-absent m n e = rw (ne_eqb (u16_at b 8) 257 n) (ap (λ (m : ℕ). Ok (record { mask = m; nodes_at = 6 })) e)

  -- the nodes begin where the first record ends, or the mask's
  pub mask-near : (m : Mask) → mask_of b P ≡ Ok m → m.nodes_at ≤ 12
  unfolding mask_of
  mask-near m e = go (eqb (u16_at b 8) 257) e
    where
      other : (r : Refusal) → Err r ≡ Ok m → ⊥
      other r e = cc

      go : (t : Bool) → cond t (first_of Err checks found) (Ok (record { mask = full_mask P; nodes_at = 6 })) ≡ Ok m → m.nodes_at ≤ 12
      go true e = let q = (first-cleared Err found (Ok m) other checks e).1 in let z : 12 ≡ m.nodes_at = cc in omega arith
      go false e = let z : 6 ≡ m.nodes_at = cc in omega arith
