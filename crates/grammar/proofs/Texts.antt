-- Each text is read in exactly one way: as one tree, or as outside the grammar with one place.
use mathlib.Core.Path.{◌≡◌, refl, sym, ap, ◌∙◌, subst, subst₂}
use mathlib.Core.Bool.{Bool, true, false, cond, true≢false}
use mathlib.Core.List.{List, []}
use Prim.Native.Nat.{ℕ, zero, suc, ◌+◌, ◌*◌}
use native.Mathlib.Omega.{arith}
use lib.ListN.{length}
use Rattle.meaning.specs.Grammar.{Tree, Parses, Fits, Parsed, Fitting, Outside, ParsedAs}
use Rattle.grammar.specs.Machine.{State, operand, operator, digit, within, dead, run, seen, passed}
use Rattle.grammar.specs.Descent.{Got, Level}
use Rattle.grammar.specs.Reading.{is_end, tree_of, parsed_of}
use Rattle.grammar.proofs.Parsing.{complete}
use Rattle.grammar.proofs.Fitting.{passes, fitting, one-tree}
use Rattle.grammar.proofs.Faults.{fault-at, fault-unique}

end_is : (q : State) → is_end q ≡ true → q ≡ operator 0
end_is (operand d) e = absurd (true≢false (sym e))
end_is (operator zero) e = refl
end_is (operator (suc d)) e = absurd (true≢false (sym e))
end_is (digit d) e = absurd (true≢false (sym e))
end_is (within b w q) e = absurd (true≢false (sym e))
end_is dead e = absurd (true≢false (sym e))

is-end : {q : State} → q ≡ operator 0 → is_end q ≡ true
is-end e = ap is_end e

-- the tree of a text that fits
tree_is : {s : List ℕ} {t : Tree} → Fits s t → tree_of (seen (operand 0) s) ≡ t
unfolding tree_of
tree_is {s} {t} f =
    let l : Level 6 (seen (operand 0) s) t [] = subst (λ (ts : List ℕ). Level 6 ts t []) (sym (passes f).sees) (complete f.parses) in
    ap (λ (g : Got). g.tree) (l.is (16 * length (seen (operand 0) s) + 14) (omega arith))

-- ---- by the test at the end

pub parsed-fitting : (s : List ℕ) → is_end (run (operand 0) s) ≡ true → parsed_of s ≡ Fitting (tree_of (seen (operand 0) s))
unfolding parsed_of
parsed-fitting s e = rw e

pub parsed-outside : (s : List ℕ) → is_end (run (operand 0) s) ≡ false → parsed_of s ≡ Outside (passed (operand 0) s)
unfolding parsed_of
parsed-outside s e = rw e

-- the signs of a text that fits are an expression
pub parses-seen : (s : List ℕ) → is_end (run (operand 0) s) ≡ true → Parses 6 (seen (operand 0) s) (tree_of (seen (operand 0) s))
parses-seen s e =
    let f = fitting s (end_is (run (operand 0) s) e) in
    subst₂ (λ (ts : List ℕ) (t : Tree). Parses 6 ts t) (sym (passes f.1).sees) (sym (tree_is f.1)) f.1.parses

-- ---- every text is read

pub parsed : (s : List ℕ) → ParsedAs s (parsed_of s)
unfolding parsed_of
parsed s = go (is_end (run (operand 0) s)) refl
  where
    go : (b : Bool) → is_end (run (operand 0) s) ≡ b → ParsedAs s (cond b (Fitting (tree_of (seen (operand 0) s))) (Outside (passed (operand 0) s)))
    go true e = let f = fitting s (end_is (run (operand 0) s) e) in subst (λ (t : Tree). Fits s t) (sym (tree_is f.1)) f.1
    go false e = (λ t f. true≢false (sym (is-end (passes f).ends) ∙ e), fault-at s)

-- and in one way only
pub parsed-unique : (s : List ℕ) (x y : Parsed) → ParsedAs s x → ParsedAs s y → x ≡ y
parsed-unique s (Fitting t) (Fitting u) f g = ap Fitting (one-tree f g)
parsed-unique s (Fitting t) (Outside q) f g = absurd (g.0 t f)
parsed-unique s (Outside p) (Fitting u) f g = absurd (f.0 u g)
parsed-unique s (Outside p) (Outside q) f g = ap Outside (fault-unique f.1 g.1)
