-- The bytes written from the reduced arrays are those of the rule's smallest table, and the answer is the one defined.
use mathlib.Core.Path.{◌≡◌, sym, ap, ◌∙◌}
use mathlib.Core.List.{List, ◌++◌}
use mathlib.Core.Bool.{cond}
use Prim.Native.Nat.{ℕ, ◌^◌}
use lib.ListN.{length, get_or, drop}
use lib.Dec.{leb}
use Rattle.meaning.specs.Traces.{masked}
use Rattle.meaning.specs.RuleFiles.{Rule, alphabet_of, Judgement}
use Rattle.meaning.specs.TableFiles.{table_length}
use Rattle.meaning.specs.declared.Refusal.TheVariants.{ShortOutput}
use Rattle.moore.specs.Grouping.{entry, grouping}
use Rattle.moore.specs.Quotient.{size, verdicts, quotient_rows}
use Rattle.smallest.proofs.Extensional.{Agree, grouping-same, verdicts-same, rows_same}
use Rattle.table_bytes.specs.Written.{table_bytes, written_of, table_after}
use Rattle.table_bytes.proofs.RoundTrip.{length_back, same_bytes}
use Rattle.smallest.specs.Table.{Outcome, Table, reduced_bytes}
use Rattle.grouping.specs.Reduction.{Reduction}
use Rattle.grouping.proofs.Arrays.{verdict-at, successor-at}
use Rattle.std.proofs.Common.{Ok, Err}
use Rattle.building.specs.Build.{outcome_of, answer_to, output_of, answer_of, output_after}

module _ (P mask n : ℕ) {rows states : List (List ℕ)} {classes model bytes : List ℕ} {to : List (List ℕ)} {q : ℕ} {bytes' : List ℕ} {to' : List (List ℕ)}
    (a : Agree (masked (2 ^ P) mask) n rows states classes model) (R : Reduction (masked (2 ^ P) mask) n rows classes bytes to q bytes' to') where
  abbrev groups : List ℕ
  groups = grouping (masked (2 ^ P) mask) n states model

  same-groups : grouping (masked (2 ^ P) mask) n rows classes ≡ groups
  same-groups = grouping-same a

  same_count : q ≡ size n groups
  same_count = R.count ∙ ap (size n) same-groups

  pub bytes-are : table_bytes (masked (2 ^ P) mask) P q bytes' to' ≡ reduced_bytes (masked (2 ^ P) mask) P n states model
  unfolding reduced_bytes
  bytes-are =
      same_bytes (masked (2 ^ P) mask) P q bytes' (verdicts (masked (2 ^ P) mask) n states model groups) to' (quotient_rows (masked (2 ^ P) mask) n states groups)
      (λ s h. verdict-at R s h ∙ ap (λ (g : List ℕ). get_or (verdicts (masked (2 ^ P) mask) n rows classes g) s 0) same-groups ∙ ap (λ (v : List ℕ). get_or v s 0) (verdicts-same a groups))
      (λ s e h l o. successor-at R s e h l ∙ ap (λ (g : List ℕ). entry (quotient_rows (masked (2 ^ P) mask) n rows g) s e) same-groups ∙ ap (λ (v : List (List ℕ)). entry v s e) (rows_same a groups))
      ∙ ap (λ (k : ℕ). table_bytes (masked (2 ^ P) mask) P k (verdicts (masked (2 ^ P) mask) n states model groups) (quotient_rows (masked (2 ^ P) mask) n states groups)) same_count

module _ (r : Rule) (n : ℕ) (bytes : List ℕ) (to : List (List ℕ)) (is : outcome_of r ≡ Table (table_bytes (alphabet_of r) r.signals n bytes to)) (out : List ℕ) where
  abbrev table : List ℕ
  table = table_bytes (alphabet_of r) r.signals n bytes to

  size_is : length table ≡ table_length r.signals n
  size_is = length_back (alphabet_of r) r.signals n bytes to

  pub answer_is : written_of r.signals n out ≡ answer_of (Judgement.Accepted r) out
  answer_is =
      ap (λ (k : ℕ). cond (leb k (length out)) (Ok k) (Err ShortOutput)) (sym size_is) ∙ ap (λ (x : Outcome). answer_to x out) (sym is)

  pub output-is : table_after (alphabet_of r) r.signals n bytes to out ≡ output_after (Judgement.Accepted r) out
  output-is = ap (λ (k : ℕ). cond (leb k (length out)) (table ++ drop k out) out) (sym size_is) ∙ ap (λ (x : Outcome). output_of x out) (sym is)
