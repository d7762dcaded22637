-- The answer of a table's text, and the output then, from what was put.
use mathlib.Core.Path.{◌≡◌, ap, ap₂, ◌∙◌}
use mathlib.Core.List.{List, ◌++◌}
use Prim.Native.Nat.{ℕ, ◌≤◌}
use native.Mathlib.Nat.{zero-add}
use borrow.Author.Tests.{le-leb}
use lib.ListN.{length}
use Rattle.text_pieces.specs.Put.{Put}
use Rattle.table_text.specs.Text.{counts_text, lines_text, text_of, text_answer, text_after}
use Rattle.std.specs.Prelude.{Ok}
use Rattle.table_text.proofs.Tables.{Counted}
use Rattle.text_pieces.proofs.Laws.{put-more, put_is, put_front}

module _ {t d s r : List ℕ} {P S j k : ℕ} (h : Counted t P S) (p : Put d 0 (counts_text P S) s j) (q : Put s j (lines_text t P S) r k) where
  text-put : Put d 0 (text_of t) r k
  unfolding text_of
  text-put = put_is (put-more p q) (text_of t) (ap₂ (λ (n m : ℕ). counts_text n m ++ lines_text t n m) h.signals h.states)

  pub text-answer : 32768 ≤ length d → Ok k ≡ text_answer t d
  text-answer l = rw (h.table, le-leb 32768 (length d) l) (ap Ok (text-put.next ∙ zero-add (length (text_of t))))

  pub text-after : 32768 ≤ length d → k ≤ length d → r ≡ text_after t d
  text-after l b = rw (h.table, le-leb 32768 (length d) l) (put_front text-put b)
