-- `Steps::step` meets its contract.
use native.Mathlib.Omega.{arith}
use Rattle.profile_sets.proofs.Tables.{labels-two}
use Rattle.profile_sets.proofs.Halves.{step_cut, both-fits, halved-low, halved-one, halved-two}
use Rattle.profile_sets.proofs.Steps.step.Goals as goal

pub overflow_add-both : goal.overflow_add-both
overflow_add-both c = let s = c.args.self.now in
    omega (arith, both-fits s.profiles.now c.args.held.now c.args.e s.labels c.hits-low.result c.if-self-le32.true c.hits-low.ensures)

pub returns-then-self-le32 : goal.returns-then-self-le32
returns-then-self-le32 c = let s = c.args.self.now in
    let halved = halved-low s.profiles.now c.args.held.now c.args.e s.labels c.hits-low.result c.if-self-le32.true c.hits-low.ensures in
    step_cut s.steppable c.args.held.now c.args.e c.requires halved c.cut.ensures

pub returns-then-self-eq64 : goal.returns-then-self-eq64
returns-then-self-eq64 c = let s = c.args.self.now in
    let halved = halved-one s.profiles.now c.args.held.now c.args.e s.labels c.hits-low-then-self-eq64.result c.if-self-eq64.true c.hits-low-then-self-eq64.ensures in
    step_cut s.steppable c.args.held.now c.args.e c.requires halved c.cut-then-self-eq64.ensures

pub returns-else-self-eq64 : goal.returns-else-self-eq64
returns-else-self-eq64 c = let s = c.args.self.now in
    let two = labels-two s.steppable c.if-self-le32.false c.if-self-eq64.false in
    let halved = halved-two s.profiles.now c.args.held.now c.args.e s.labels c.hits-low-else-self-eq64.result c.hits-high.result two c.hits-low-else-self-eq64.ensures c.hits-high.ensures in
    step_cut s.steppable c.args.held.now c.args.e c.requires halved c.cut-else-self-eq64.ensures
