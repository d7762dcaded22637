-- The split nodes stand for the formulas that the rule file's nodes stand for, and no more of them are temporal than a rule file's judgement counts.
use mathlib.Core.Path.{◌≡◌, refl, sym, ap, ◌∙◌}
use mathlib.Core.Bool.{Bool, true, false, cond}
use mathlib.Core.List.{List, [], ◌∷◌, ◌++◌}
use Prim.Native.Nat.{ℕ, ◌+◌, ◌≤◌, ◌<◌}
use native.Mathlib.Decide.{dec_lt}
use native.Mathlib.Omega.{arith}
use lib.ListN.{replicate, get_or-replicate, get_or-map, get_or-append}
use lib.Dec.{T, leb, le→leb}
use Rattle.meaning.specs.Formulas.{Formula}
use Rattle.meaning.specs.RuleFiles
use Rattle.meaning.specs.RuleFiles.{formula_of, formulas}
use Rattle.meaning.specs.declared.Node.{Node}
use Rattle.ltl.specs.Nodes.{Split, plain, temporal, falsum, kinds, split, splits, temporals, split_formula, split_formulas}

split-formula : (fs : List Formula) (n : Node) → split_formula fs (split n) ≡ formula_of fs n
split-formula fs n = sym (get_or-map (split_formula fs) (kinds n.a n.b n.upper) n.kind (plain falsum))

pub split-formulas : (fs : List Formula) (ns : List Node) → split_formulas fs (splits ns) ≡ formulas fs ns
split-formulas fs [] = refl
split-formulas fs (n ∷ ns) = ap (λ (f : Formula). split_formulas (fs ++ (f ∷ [])) (splits ns)) (split-formula fs n) ∙ split-formulas (fs ++ (formula_of fs n ∷ [])) ns

-- ---- temporal nodes

abbrev weight : Split → ℕ
weight (plain p) = 0
weight (temporal t) = 1

temporals-cons : (n : Split) (ns : List Split) → temporals (n ∷ ns) ≡ weight n + temporals ns
temporals-cons (plain p) ns = omega arith
temporals-cons (temporal t) ns = omega arith

weight-le : (n : Split) → weight n ≤ 1
weight-le (plain p) = omega arith
weight-le (temporal t) = omega arith

-- the first ten kinds are plain
split-weight : (n : Node) → weight (split n) ≤ cond (RuleFiles.temporal n.kind) 1 0
split-weight n = go (dec_lt n.kind 10)
  where
    late : (b : Bool) → T b → weight (split n) ≤ cond b 1 0
    late true t = weight-le (split n)
    late false t = elim t [ ]

    go : Dec (n.kind < 10) → weight (split n) ≤ cond (RuleFiles.temporal n.kind) 1 0
    go (yes h) =
        let e : weight (split n) ≡ 0 =
        sym (get_or-map weight (kinds n.a n.b n.upper) n.kind (plain falsum))
        ∙ get_or-append (replicate 10 0) (1 ∷ 1 ∷ 1 ∷ 1 ∷ []) 0 n.kind h
        ∙ get_or-replicate 10 n.kind 0 0 h in
        omega arith
    go (no h) = late (leb 10 n.kind) (le→leb 10 n.kind (omega arith))

pub split-temporals : (ns : List Node) → temporals (splits ns) ≤ RuleFiles.temporals ns
split-temporals [] = omega arith
split-temporals (n ∷ ns) = omega (arith, temporals-cons (split n) (splits ns), split-weight n, split-temporals ns)
