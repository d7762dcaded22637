-- From the pass over a text and the writing of its nodes to the answer.
use mathlib.Core.Path.{◌≡◌, refl, sym, ap, ap₂, ◌∙◌, subst}
use mathlib.Core.List.{List}
use Prim.Native.Nat.{ℕ, ◌≤◌, ◌<◌}
use lib.ListN.{length, take}
use borrow.Author.Tests.{lt-ltb, le-ltb, le-leb}
use Rattle.meaning.specs.Grammar.{Tree, Parses, Fitting}
use Rattle.meaning.specs.RuleTexts.{size, nodes_of, rule_of, rule_bytes, rule_answer, tree_answer, output_of}
use Rattle.meaning.specs.declared.Node.{Node}
use Rattle.meaning.specs.declared.Refusal.TheVariants.{WrongText, TooManyNodes}
use Rattle.grammar.specs.Reading.{tree_of, parsed_of}
use Rattle.grammar.proofs.Texts.{parsed, parsed-fitting, parsed-outside, parses-seen}
use Rattle.text_scan.specs.Modes.{Whole, Fault}
use Rattle.meaning.specs.RuleFiles.{Rule}
use Rattle.grammar.specs.Signs as Trees
use Rattle.rule_bytes.specs.WellFormed.{KindsFit}
use Rattle.rule_bytes.proofs.Trees.{tree-kinds}
use Rattle.rule_writer.specs.Writing.{unmasked}
use Rattle.rule_text.specs.Writing.{Writes}
use Rattle.std.proofs.Common.{Result, Err}
use Rattle.meaning.specs.declared.Refusal.{Refusal}

-- ---- the text

pub too_long : (s : List ℕ) (P : ℕ) (before : List ℕ) → 1024 < length s → Writes s P before (Err (WrongText 1024)) before
too_long s P before h = record { parsed = parsed_of s; reads = parsed s; answer_is = rw (lt-ltb 1024 (length s) h); output = refl }

pub outside : {s : List ℕ} {p : ℕ} (P : ℕ) (before : List ℕ) → length s ≤ 1024 → Fault s p → Writes s P before (Err (WrongText p)) before
outside {s} {p} P before h f = record {
  parsed = parsed_of s;
  reads = parsed s;
  answer_is = rw (le-ltb 1024 (length s) h, parsed-outside s f.fails, f.place);
  output = refl;
}

pub signs-parse : {s ts : List ℕ} {n : ℕ} → Whole s ts n → Parses 6 (take n ts) (tree_of (take n ts))
signs-parse {s} w = subst (λ (l : List ℕ). Parses 6 l (tree_of l)) (sym w.signs) (parses-seen s w.ends)

pub inside : {s ts : List ℕ} {n : ℕ} (P : ℕ) (before : List ℕ) (r : Result ℕ Refusal) (after : List ℕ) → length s ≤ 1024 → Whole s ts n
    → r ≡ tree_answer P (length before) (tree_of (take n ts)) → after ≡ output_of r (rule_bytes (rule_of P (tree_of (take n ts)))) before → Writes s P before r after
inside {s} {ts} {n} P before r after h w a o =
    let e : parsed_of s ≡ Fitting (tree_of (take n ts)) = parsed-fitting s w.ends ∙ ap (λ (l : List ℕ). Fitting (tree_of l)) (sym w.signs) in
    record {
      parsed = parsed_of s;
      reads = parsed s;
      answer_is = rw (le-ltb 1024 (length s) h, e) a;
      output = rw e o;
    }

-- ---- the checks of the signs

pub many : (P room : ℕ) (t : Tree) → 1 ≤ P → P ≤ 4 → 64 < size t → Err TooManyNodes ≡ tree_answer P room t
unfolding tree_answer
many P room t low high h = rw (le-leb 1 P low, le-leb P 4 high, lt-ltb 64 (size t) h)

-- ---- the nodes of a tree, and what was written for them

module _ (t : Tree) {ns : List Node} (e : ns ≡ nodes_of 0 t) where
  pub kinds-fit : Trees.Signs t → KindsFit ns
  kinds-fit g = subst KindsFit (sym e) (tree-kinds t 0 g)

  pub written : (P : ℕ) (before : List ℕ) (r : Result ℕ Refusal) (after : List ℕ) → 1 ≤ P → P ≤ 4 → size t ≤ 64
      → r ≡ rule_answer (length before) (unmasked P ns) → after ≡ output_of (rule_answer (length before) (unmasked P ns)) (rule_bytes (unmasked P ns)) before
      → (r ≡ tree_answer P (length before) t) × (after ≡ output_of r (rule_bytes (rule_of P t)) before)
  unfolding tree_answer
  written P before r after low high few a o =
      let i : unmasked P ns ≡ rule_of P t = ap (unmasked P) e in (
        rw (le-leb 1 P low, le-leb P 4 high, le-ltb 64 (size t) few) (a ∙ ap (rule_answer (length before)) i),
        o ∙ ap₂ (λ (x : Result ℕ Refusal) (y : Rule). output_of x (rule_bytes y) before) (sym a) i,
      )
