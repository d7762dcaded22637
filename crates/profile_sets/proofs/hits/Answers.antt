-- `hits` meets its contract. The loop has the bits of the pairs from `pair` on.
use native.Mathlib.Omega.{arith}
use mathlib.Core.Path.{◌≡◌, ◌∙◌, ap}
use mathlib.Core.Bool.{cond, false}
use Prim.Native.Nat.{ℕ, ◌+◌, ◌-◌, ◌*◌, ◌%◌}
use lib.ListN.{get_or}
use Rattle.ltl.specs.Keys.{look}
use Rattle.profile_sets.proofs.Words.{begun_more, begun-two, begun-small}
use Rattle.profile_sets.proofs.Halves.{hits-all}
use Rattle.profile_sets.proofs.hits.Goals as goal

pub overflow_mul-word : goal.overflow_mul-word
overflow_mul-word c = let m = begun-small 2 c.loop-pair.invariant (omega arith) c.requires.1 in omega arith

pub overflow_add-word-in-loop-pair : goal.overflow_add-word-in-loop-pair
overflow_add-word-in-loop-pair c = let m = begun-small 2 c.loop-pair.invariant (omega arith) c.requires.1 in
    omega (arith, c.hit-high.ensures.1, c.hit-low.ensures.1)

pub loop-pair-preserved : goal.loop-pair-preserved
loop-pair-preserved c = let digit : ℕ → ℕ = λ label. cond (get_or c.args.held.now (look c.args.profiles.now c.args.e label) false) 1 0 in
    let j : ℕ = c.args.count % 2 + 2 * (c.loop-pair.pair - 1) in
    let high = c.hit-high.ensures.0 ∙ ap digit (let r : c.args.from + c.args.count % 2 + 2 * (c.loop-pair.pair - 1) + 1 ≡ c.args.from + (j + 1) = omega arith in r) in
    let low = c.hit-low.ensures.0 ∙ ap digit (let r : c.args.from + c.args.count % 2 + 2 * (c.loop-pair.pair - 1) ≡ c.args.from + j = omega arith in r) in
    begun-two c.hit-high.result c.hit-low.result j c.loop-pair.invariant (omega arith) (omega arith) high low

pub overflow_mul-result : goal.overflow_mul-result
overflow_mul-result c = let m = begun-small 1 c.loop-pair.invariant (omega arith) c.requires.1 in omega arith

pub overflow_add-result : goal.overflow_add-result
overflow_add-result c = let m = begun-small 1 c.loop-pair.invariant (omega arith) c.requires.1 in omega (arith, c.hit.ensures.1)

pub returns-then-count-eq1 : goal.returns-then-count-eq1
returns-then-count-eq1 c = let digit : ℕ → ℕ = λ label. cond (get_or c.args.held.now (look c.args.profiles.now c.args.e label) false) 1 0 in
    let last = c.hit.ensures.0 ∙ ap digit (let r : c.args.from ≡ c.args.from + (c.args.count % 2 + 2 * c.loop-pair.pair - 1) = omega arith in r) in
    hits-all c.args.profiles.now c.args.held.now c.args.e c.args.from c.args.count (begun_more c.hit.result c.loop-pair.invariant (omega arith) (omega arith) last) (omega arith)

pub returns-else-count-eq1 : goal.returns-else-count-eq1
returns-else-count-eq1 c = hits-all c.args.profiles.now c.args.held.now c.args.e c.args.from c.args.count c.loop-pair.invariant (omega arith)
