-- `Key::spread` meets its contract.
use native.Mathlib.Omega.{arith}
use mathlib.Core.Bool.{false}
use mathlib.Core.Path.{sym, ap, ◌∙◌}
use Prim.Native.Nat.{ℕ, ◌+◌, ◌*◌}
use lib.ListN.{get_or, length-replicate}
use Rattle.ltl.specs.Sets.{on}
use Rattle.profile_sets.specs.Words.{key-bit}
use Rattle.profile_sets.proofs.Tables.{marked-none}
use Rattle.profile_sets.proofs.Spreads.{marked-word}
use Rattle.profile_sets.proofs.Key.spread.Goals as goal

pub returns-then-m-lt64 : goal.returns-then-m-lt64
returns-then-m-lt64 c = marked-word c.args.m 0 (get_or c.self.inside.words 0 0) c.args.m (marked-none (length-replicate 256 false)) c.spread_word.ensures
    (λ i l. ap (λ (k : ℕ). on k (0 + i)) (sym c.self.view_is) ∙ key-bit c.self.inside.words 0 i (omega arith) (omega (arith, c.if-m-lt64.true))) (omega arith)

pub loop-j-preserved : goal.loop-j-preserved
loop-j-preserved c = marked-word 64 (64 * c.loop-j.j) (get_or c.self.inside.words c.loop-j.j 0) (64 * (c.loop-j.j + 1)) c.loop-j.invariant c.spread_word-in-loop-j.ensures
    (λ i l. ap (λ (k : ℕ). on k (64 * c.loop-j.j + i)) (sym c.self.view_is) ∙ key-bit c.self.inside.words c.loop-j.j i (omega arith) l) (omega arith)
