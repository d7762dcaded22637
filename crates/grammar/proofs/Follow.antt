-- What may follow what: the rest after an expression, and signs that stand where they may, at a depth of brackets.
use mathlib.Core.Path.{◌≡◌}
use mathlib.Core.List.{List, [], ◌∷◌}
use Prim.Native.Nat.{ℕ, suc, ◌+◌, ◌≤◌, ◌<◌}

-- the rest does not go on at level n or tighter
pub data Loose : ℕ → List ℕ → Type 0 where
  nothing : {n : ℕ} → Loose n []
  shut : {n x : ℕ} {ts : List ℕ} → x ≡ 11 → Loose n (x ∷ ts)
  looser : {n m x : ℕ} {ts : List ℕ} → x ≡ 12 + m → n ≤ m → Loose n (x ∷ ts)

-- where an operand may stand at depth d, and where a sign may
mutual
  pub data Open : ℕ → List ℕ → Type 0 where
    leaf-on : {d x : ℕ} {ts : List ℕ} → x < 6 → Shut d ts → Open d (x ∷ ts)
    prefix-on : {d x : ℕ} {ts : List ℕ} → 6 ≤ x → x < 10 → Open d ts → Open d (x ∷ ts)
    open-on : {d x : ℕ} {ts : List ℕ} → x ≡ 10 → Open (suc d) ts → Open d (x ∷ ts)

  pub data Shut : ℕ → List ℕ → Type 0 where
    done : Shut 0 []
    close-on : {d x : ℕ} {ts : List ℕ} → x ≡ 11 → Shut d ts → Shut (suc d) (x ∷ ts)
    sign-on : {d n x : ℕ} {ts : List ℕ} → x ≡ 12 + n → n < 6 → Open d ts → Shut d (x ∷ ts)
