-- What a table's check tells.
use mathlib.Core.Path.{◌≡◌, refl, ap}
use mathlib.Core.Bool.{Bool, true, false}
use mathlib.Core.List.{List}
use Prim.Native.Nat.{ℕ, ◌≤◌}
use native.Mathlib.Omega.{arith}
use Rattle.meaning.specs.TableFiles.{signals_in, states_in, is_table, checked_of}
use Rattle.table_layout.proofs.Form.{table-header, signals-few, states-few}
use Rattle.std.proofs.Common.{Ok}
use Rattle.meaning.specs.declared.Counts.{Counts}

-- t is a table over P signals, with S states
pub record Counted (t : List ℕ) (P S : ℕ) : Type 0 where
  pub table : is_table t ≡ true
  pub signals : P ≡ signals_in t
  pub states : S ≡ states_in t
  pub few : P ≤ 4
  pub small : S ≤ 256

pub counted : (t : List ℕ) (c : Counts) → Ok c ≡ checked_of t → Counted t c.signals c.states
counted t c h = go (is_table t) refl
  where
    go : (b : Bool) → is_table t ≡ b → Counted t c.signals c.states
    go true e =
        let f = rw e at h in
        let q : c ≡ record { signals = signals_in t; states = states_in t } = cc in
        let p : c.signals ≡ signals_in t = ap (λ (x : Counts). x.signals) q in
        let r : c.states ≡ states_in t = ap (λ (x : Counts). x.states) q in
        let a = signals-few t (table-header t e) in
        let b = states-few t (table-header t e) in
        record { table = e; signals = p; states = r; few = omega arith; small = omega arith }
    go false e = let f = rw e at h in let z : ◌≡◌ {A = ℕ} 0 1 = cc in absurd (omega arith)
