-- What building with room for the longest table says of the text of a rule file.
--     Tabled, tabled          a table was built, and its text is the rule file's
--     refused-text            building refused, and never by 10: the refusal's line is the rule file's text
--     table-, line-answer     the answers and outputs of the two texts are those of printing
--     table-, line-after
use mathlib.Core.Path.{◌≡◌, refl, sym, ap, subst, ◌∙◌}
use mathlib.Core.List.{List, ◌++◌}
use mathlib.Core.Bool.{Bool, true, false, cond}
use Prim.Native.Nat.{ℕ, ◌≤◌}
use native.Mathlib.Omega.{arith}
use lib.ListN.{length, take, drop, length-append}
use lib.Seq.{take-append_seam}
use lib.Dec.{leb}
use borrow.Author.Tests.{le-leb}
use Rattle.meaning.specs.RuleFiles.{Rule, Judgement, judge}
use Rattle.meaning.specs.TableFiles.{is_table}
use Rattle.meaning.specs.Demands.{Reads}
use Rattle.meaning.specs.declared.Refusal.{Refusal}
use Rattle.meaning.specs.declared.Refusal.TheVariants.{ShortOutput}
use Rattle.smallest.specs.Table.{Outcome, Table, TooMany}
use Rattle.building.specs.Build.{outcome_of, answer_to, output_of, answer_of, output_after, Right}
use Rattle.building.proofs.Right.{our-demands, built-by}
use Rattle.text_pieces.specs.RefusalLine.{refusal_text, line_answer, line_after}
use Rattle.table_text.specs.Text.{text_of, text_answer, text_after}
use Rattle.table_printer.specs.Printing.{outcome_text, judgement_text, printed, print_answer, print_after}
use Rattle.table_printer.proofs.Longest.{table-longest}
use Rattle.std.proofs.Common.{Result, Ok, Err}

-- ---- after building

-- the first n bytes are a table, whose text is the rule file's
pub record Tabled (file after : List ℕ) (n : ℕ) : Type 0 where
  pub inside : n ≤ length after
  pub form : is_table (take n after) ≡ true
  pub text : text_of (take n after) ≡ printed file

-- the first n bytes have this text
pub record Front (after : List ℕ) (n : ℕ) (text : List ℕ) : Type 0 where
  pub inside : n ≤ length after
  pub text-is : text_of (take n after) ≡ text

module _ (file before : List ℕ) where
  front : (n : ℕ) → answer_of (judge file) before ≡ Ok n → Front (output_after (judge file) before) n (printed file)
  front n e = go (judge file) e
    where
      built : (t : List ℕ) (b : Bool) → cond b (Ok (length t)) (Err ShortOutput) ≡ Ok n
          → Front (cond b (t ++ drop (length t) before) before) n (text_of t)
      built t true q =
          let l : n ≡ length t = cc in
          let past = drop (length t) before in
          record { inside = omega (arith, length-append t past); text-is = rw l (ap text_of (take-append_seam t past)) }
      built t false q = let z : ◌≡◌ {A = ℕ} 0 1 = cc in absurd (omega arith)

      outcome : (x : Outcome) → answer_to x before ≡ Ok n → Front (output_of x before) n (outcome_text x)
      outcome (Table t) q = built t (leb (length t) (length before)) q
      outcome TooMany q = let z : ◌≡◌ {A = ℕ} 0 1 = cc in absurd (omega arith)

      go : (j : Judgement) → answer_of j before ≡ Ok n → Front (output_after j before) n (judgement_text j)
      go (Judgement.Accepted r) q = outcome (outcome_of r) q
      go (Judgement.Refused x) q = let z : ◌≡◌ {A = ℕ} 0 1 = cc in absurd (omega arith)

  pub tabled : (after : List ℕ) (b : Result ℕ Refusal) (n : ℕ) → b ≡ answer_of (judge file) before → after ≡ output_after (judge file) before → Right file before after b
      → b ≡ Ok n → Tabled file after n
  tabled after b n p o right e =
      let f = subst (λ (a : List ℕ). Front a n (printed file)) (sym o) (front n (sym p ∙ e)) in
      let r = subst (λ (x : Result ℕ Refusal). Right file before after x) e right in
      record { inside = f.inside; form = r.demand_3.form; text = f.text-is }

  -- there is room for the longest table
  module _ (room : 9479 ≤ length before) where
    -- "output shorter than the table" cannot be
    never-short : (r : Rule) (t : List ℕ) → Reads file r → outcome_of r ≡ Table t → leb (length t) (length before) ≡ true
    never-short r t reads q =
        let h = table-longest t (our-demands.demand_3 file r t reads (built-by file r reads t q)).form in
        le-leb (length t) (length before) (omega arith)

    pub refused-text : (x : Refusal) → answer_of (judge file) before ≡ Err x → refusal_text x ≡ printed file
    refused-text x e = go (judge file) refl e
      where
        outcome : (r : Rule) → Reads file r → (o : Outcome) → outcome_of r ≡ o → answer_to o before ≡ Err x → refusal_text x ≡ outcome_text o
        outcome r reads (Table t) p q =
            let f = rw (never-short r t reads p) at q in
            let z : ◌≡◌ {A = ℕ} 0 1 = cc in
            absurd (omega arith)
        outcome r reads TooMany p q = ap refusal_text (cc)

        go : (j : Judgement) → judge file ≡ j → answer_of j before ≡ Err x → refusal_text x ≡ judgement_text j
        go (Judgement.Accepted r) p q = outcome r p (outcome_of r) refl q
        go (Judgement.Refused y) p q = ap refusal_text (cc)

-- ---- the two texts

module _ (file out : List ℕ) where
  pub table-answer : (t : List ℕ) → is_table t ≡ true → text_of t ≡ printed file → text_answer t out ≡ print_answer file out
  table-answer t form e = rw (form, e)

  pub table-after : (t : List ℕ) → is_table t ≡ true → text_of t ≡ printed file → text_after t out ≡ print_after file out
  table-after t form e = rw (form, e)

  module _ (x : Refusal) (long : 32768 ≤ length out) (e : refusal_text x ≡ printed file) where
    pub line-answer : line_answer x out ≡ print_answer file out
    line-answer = rw (le-leb 64 (length out) (omega arith), le-leb 32768 (length out) long, e)

    pub line-after : line_after x out ≡ print_after file out
    line-after = rw (le-leb 64 (length out) (omega arith), le-leb 32768 (length out) long, e)
