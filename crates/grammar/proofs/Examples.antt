-- Worked examples, by computation: how texts read by the grammar, and where others do not fit.
use mathlib.Core.Path.{◌≡◌, refl, subst}
use mathlib.Core.List.{List, [], ◌∷◌, map}
use Prim.Native.Nat.{ℕ}
use Prim.Native.String.{String}
use Rattle.meaning.specs.Bytes.{ascii}
use Rattle.meaning.specs.Grammar.{Tree, leaf, pre, bin, rightward, Parsed, Fitting, Outside, ParsedAs}
use Rattle.grammar.specs.Machine.{run, seen, passed}
use Rattle.grammar.specs.Descent.{level_f, more_f}
use Rattle.grammar.specs.Reading.{tree_of, parsed_of}
use Rattle.grammar.proofs.Texts.{parsed}

pub record Example : Type 0 where
  pub text : String
  pub reads : Parsed

abbrev s0 : Tree
s0 = leaf 0

abbrev s1 : Tree
s1 = leaf 1

abbrev s2 : Tree
s2 = leaf 2

abbrev fits : String → Tree → Example
fits text t = record { text = text; reads = Fitting t }

abbrev fails : String → ℕ → Example
fails text p = record { text = text; reads = Outside p }

-- prefixes 6 ! 7 X 8 F 9 G, binary signs 12 U 13 & 14 ^ 15 | 16 -> 17 <->
abbrev pub examples : List Example
examples =
    fits "G (s0 -> X (!s0 U s1))" (pre 9 (bin 16 s0 (pre 7 (bin 12 (pre 6 s0) s1))))
    ∷ fits "X s0 U s1" (bin 12 (pre 7 s0) s1)
    ∷ fits "s0 U s1 U s2" (bin 12 s0 (bin 12 s1 s2))
    ∷ fits "s0 -> s1 -> s2" (bin 16 s0 (bin 16 s1 s2))
    ∷ fits "s0 & s1 & s2" (bin 13 (bin 13 s0 s1) s2)
    ∷ fits "s0 <-> s1 <-> s2" (bin 17 (bin 17 s0 s1) s2)
    ∷ fits "s0 | s1 ^ s2 & s0 U s1" (bin 15 s0 (bin 14 s1 (bin 13 s2 (bin 12 s0 s1))))
    ∷ fits "s0 U s1 & s2 ^ s0 | s1" (bin 15 (bin 14 (bin 13 (bin 12 s0 s1) s2) s0) s1)
    ∷ fits "s0 -> s1 <-> s2 -> s0" (bin 17 (bin 16 s0 s1) (bin 16 s2 s0))
    ∷ fits "trueUs0" (bin 12 (leaf 4) s0)
    ∷ fits "  ( ( false ) )  " (leaf 5)
    ∷ fails "" 0
    ∷ fails "   " 3
    ∷ fails "tru" 3
    ∷ fails "s0 <-" 5
    ∷ fails "s0 - > s1" 4
    ∷ fails "s4" 1
    ∷ fails "(s0" 3
    ∷ fails "s0)" 2
    ∷ fails "s0 s1" 3
    ∷ fails "! & s0" 2
    ∷ []

computed : map (λ e. parsed_of (ascii e.text)) examples ≡ map (λ e. e.reads) examples
unfolding parsed_of tree_of level_f more_f run seen passed rightward
computed = refl

-- each text reads as its example says
abbrev pub AllRead : List Example → Type 0
AllRead [] = Unit {0}
AllRead (e ∷ es) = ParsedAs (ascii e.text) e.reads × AllRead es

all_read : (es : List Example) → map (λ e. parsed_of (ascii e.text)) es ≡ map (λ e. e.reads) es → AllRead es
all_read [] h = tt
all_read (e ∷ es) h =
    let q : parsed_of (ascii e.text) ≡ e.reads = cc in
    let r : map (λ e. parsed_of (ascii e.text)) es ≡ map (λ e. e.reads) es = cc in
    (subst (λ (x : Parsed). ParsedAs (ascii e.text) x) q (parsed (ascii e.text)), all_read es r)

pub known : AllRead examples
known = all_read examples computed
