-- `refusal_words::words_from_13` meets its contract.
use mathlib.Core.Path.{sym}
use mathlib.Core.List.{[]}
use Prim.Native.Nat.{◌≤◌}
use native.Mathlib.Omega.{arith}
use lib.ListN.{get_or-eq_default}
use Rattle.refusal_words.specs.Words.{sentences}
use Rattle.refusal_words.proofs.words_from_13.Goals as goal

pub returns-in_default-clause-words : goal.returns-in_default-clause-words
unfolding sentences
returns-in_default-clause-words c =
    let past : 25 ≤ c.args.number = omega arith in
    sym (get_or-eq_default sentences [] past)
