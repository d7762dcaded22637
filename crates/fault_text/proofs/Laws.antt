-- Laws of the pieces of a fault's text.
--     shown-more                             one byte more of the text
--     take-capped, shown-size, shown-length  the text as far as it shows
--     code-few, line-length                  a refusal's number, and how long its line is at most
--     line-put, line-never                   the refusal's line: at the front of the output, and never refused
use mathlib.Core.Path.{◌≡◌, sym, ap, ◌∙◌}
use mathlib.Core.List.{List, [], ◌∷◌, ◌++◌, map}
use Prim.Native.Nat.{ℕ, ◌+◌, ◌≤◌, ◌<◌, ◌^◌, min}
use native.Mathlib.Nat.{zero-add}
use native.Mathlib.Omega.{arith}
use native.Mathlib.Decide.{dec_lt}
use borrow.Author.Tests.{le-leb}
use lib.ListN.{length, get_or, set, take, drop, length-map, length-append}
use lib.Seq.{length-take-le, take_all, sets-eq}
use Rattle.std.specs.Prelude.{Ok, Err}
use Rattle.std.proofs.lemmas.List.{map_more}
use Rattle.meaning.specs.Refusals.{code_of}
use Rattle.meaning.specs.declared.Refusal.{Refusal}
use Rattle.meaning.specs.declared.Refusal.TheVariants.{Truncated, WrongLength, WrongKind, WrongSignals, WrongCount, WrongOperand, OutOfRange, EighthTemporal, TrailingBytes, ShortOutput, TooManyResiduals, WrongEvent, WrongState, WrongWatch, WrongTable, WrongText, TooManyNodes, NoEvent, WrongDesk, WrongNumber, QueueFull, CountFull, WrongRecordings, Contradiction, WrongOpening}
use Rattle.text_pieces.specs.Put.{Put, at_front}
use Rattle.text_pieces.proofs.Laws.{put-more, put_byte, put_is}
use Rattle.text_pieces.proofs.Decimal.{decimal-u16, decimal-u64}
use Rattle.text_pieces.specs.RefusalLine.{refusal_text, line_answer, line_after}
use Rattle.fault_text.specs.Fault.{shown}

-- one byte more of the text bs
pub shown-more : (d bs s : List ℕ) (i k v : ℕ) → k < length bs → v ≡ shown (get_or bs k 0) → Put d i (map shown (take k bs)) s (i + k)
    → Put d i (map shown (take (k + 1) bs)) (set s (i + k) v) (i + (k + 1))
shown-more d bs s i k v l e h =
    let g = put-more h (put_byte s (i + k) v (i + (k + 1)) (omega arith)) in
    put_is g (map shown (take (k + 1) bs)) (ap (λ (x : ℕ). map shown (take k bs) ++ (x ∷ [])) e ∙ sym (map_more shown bs k 0 l))

-- as many bytes as there are, at most m
pub take-capped : (m n : ℕ) (l : List ℕ) → n ≡ min (length l) m → take n l ≡ take m l
take-capped m n l e = go (dec_lt (length l) m)
  where
    go : Dec (length l < m) → take n l ≡ take m l
    go (yes p) = take_all n l (omega arith) ∙ sym (take_all m l (omega arith))
    go (no q) =
        let h : n ≡ m = omega arith in
        ap (λ (k : ℕ). take k l) h

-- how many bytes of the text show
module _ (l : List ℕ) (n : ℕ) (e : n ≡ min (length l) 1024) where
  pub shown-size : length (take n l) ≤ 1024
  shown-size = omega (arith, length-take-le n l (omega arith))

  pub shown-length : length (map shown (take n l)) ≤ 1024
  shown-length = omega (arith, length-map (take n l) shown, shown-size)

-- bytes at the front of a buffer were put there
front-put : (d vs s : List ℕ) (j : ℕ) → s ≡ at_front vs d → length vs ≤ length d → j ≡ length vs → Put d 0 vs s j
front-put d vs s j e l q =
    record { stored = e ∙ ap (λ (k : ℕ). vs ++ drop k d) (sym (zero-add (length vs))) ∙ sym (sets-eq vs d 0 (omega arith)); next = omega arith }

-- ---- the refusal's line

-- a refusal's number has at most two digits
code-few : (r : Refusal) → (code_of r).0 ≤ 99
code-few (Truncated p) = omega arith
code-few (WrongLength p) = omega arith
code-few (WrongKind p) = omega arith
code-few WrongSignals = omega arith
code-few WrongCount = omega arith
code-few (WrongOperand p) = omega arith
code-few (OutOfRange p) = omega arith
code-few (EighthTemporal p) = omega arith
code-few (TrailingBytes p) = omega arith
code-few ShortOutput = omega arith
code-few TooManyResiduals = omega arith
code-few (WrongEvent p) = omega arith
code-few WrongState = omega arith
code-few (WrongWatch p) = omega arith
code-few WrongTable = omega arith
code-few (WrongText p) = omega arith
code-few TooManyNodes = omega arith
code-few (NoEvent p) = omega arith
code-few WrongDesk = omega arith
code-few (WrongNumber p) = omega arith
code-few (QueueFull p) = omega arith
code-few (CountFull p) = omega arith
code-few WrongRecordings = omega arith
code-few (Contradiction p) = omega arith
code-few (WrongOpening p) = omega arith

pub line-length : (r : Refusal) → (code_of r).1 < 2 ^ 64 → length (refusal_text r) ≤ 64
unfolding refusal_text
line-length r l =
    let number = decimal-u16 (code_of r).0 (omega (arith, code-few r)) in
    let place = decimal-u64 (code_of r).1 l in
    simp length-append (omega arith)

-- written into an output with room for it, it is never refused
module _ (r : Refusal) (out : List ℕ) (room : 4096 ≤ length out) where
  written : line_answer r out ≡ Ok (length (refusal_text r))
  written = rw (le-leb 64 (length out) (omega arith))

  pub line-put : (after : List ℕ) (n : ℕ) → (code_of r).1 < 2 ^ 64 → Ok n ≡ line_answer r out → after ≡ line_after r out
      → Put out 0 (refusal_text r) after n
  line-put after n l p q =
      let w = written in
      let size : n ≡ length (refusal_text r) = cc in
      let front : line_after r out ≡ at_front (refusal_text r) out = rw (le-leb 64 (length out) (omega arith)) in
      front-put out (refusal_text r) after n (q ∙ front) (omega (arith, line-length r l)) size

  pub line-never : (why : Refusal) → Err why ≡ line_answer r out → ⊥
  line-never why p = let w = written in cc
