-- `watches::moved_up` meets its contract.
use mathlib.Core.Path.{ap, ◌∙◌}
use mathlib.Core.List.{List, [], ◌∷◌, ◌++◌}
use Prim.Native.Nat.{ℕ}
use borrow.Author.Rules.{rules}
use lib.ListN.{drop}
use Rattle.std.proofs.lemmas.List.{take_all}
use Rattle.watches.proofs.moved_up.Goals as goal

pub returns : goal.returns
returns c = ap (λ (l : List ℕ). l ++ (0 ∷ [])) (c.copy_from_slice.ensures.after ∙ take_all 31 (drop 1 c.args.events) (search rules))
