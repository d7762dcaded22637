-- Pieces put into a buffer one after the other.
--     put-none, put-more, put_byte           before the first piece, after one piece more, one byte
--     put-length, put_front                  the buffer at the end
--     copied                                 bytes copied into their place
--     decimal-, joined-more                  one digit more of a number, one list more of those joined
use mathlib.Core.Path.{◌≡◌, refl, sym, ap, ◌∙◌, subst}
use mathlib.Core.List.{List, [], ◌∷◌, ◌++◌, append_assoc}
use Prim.Native.Nat.{ℕ, ◌+◌, ◌/◌, ◌%◌, ◌≤◌, ◌<◌}
use native.Mathlib.Numerals.{add-one}
use native.Mathlib.Omega.{arith}
use lib.ListN.{length, set, take, drop, length-append}
use lib.Seq.{sets-eq}
use borrow.Rule.Slice.PartMut.{put_mid}
use Rattle.std.proofs.lemmas.List.{drop-drop}
use Rattle.sequences.specs.Tabulate.{joined}
use Rattle.sequences.proofs.Stores.{Stored, stored_more, stored-whole, stored-length}
use Rattle.text_pieces.specs.Put.{Put, at_front}
use Rattle.text_pieces.specs.Decimal.{decimal}
use Rattle.text_pieces.proofs.Decimal.{decimal-one, decimal-more}

pub put-none : {d : List ℕ} {i j : ℕ} → j ≡ i → Put d i [] d j
put-none e = record { stored = refl; next = omega arith }

pub put_byte : (d : List ℕ) (i v j : ℕ) → j ≡ i + 1 → Put d i (v ∷ []) (set d i v) j
put_byte d i v j e = record { stored = refl; next = e }

module _ {d : List ℕ} {i : ℕ} {vs s : List ℕ} {j : ℕ} (h : Put d i vs s j) where
  stored_of : Stored d i vs s
  stored_of = record { is = h.stored }

  pub put-length : length s ≡ length d
  put-length = stored-length stored_of

  pub put-more : {ws r : List ℕ} {k : ℕ} → Put s j ws r k → Put d i (vs ++ ws) r k
  put-more {ws} {r} {k} g =
      record { stored = (stored_more j ws r stored_of h.next g.stored).is; next = omega (arith, g.next, h.next, length-append vs ws) }

  pub put_is : (ws : List ℕ) → vs ≡ ws → Put d i ws s j
  put_is ws e = subst (λ (l : List ℕ). Put d i l s j) e h

-- put from the front on: the bytes, and what stood past them
pub put_front : {d vs s : List ℕ} {j : ℕ} → Put d 0 vs s j → j ≤ length d → s ≡ at_front vs d
put_front {d} {vs} h l = stored-whole (length vs) (stored_of h) refl (omega (arith, h.next))

-- bytes copied into their place
pub copied : (d bs ys : List ℕ) (i k j : ℕ) → i + length bs ≤ length d → k ≡ length bs → ys ≡ bs → j ≡ i + length bs
    → Put d i bs (put_mid i k d ys) j
copied d bs ys i k j h e q n =
    let rest : drop (length bs) (drop i d) ≡ drop (i + length bs) d = grind (arith, drop-drop) in
    record { stored = rw (e, q, rest) (sym (append_assoc (take i d) bs (drop (i + length bs) d)) ∙ sym (sets-eq bs d i h)); next = n }

pub decimal-one-put : (d : List ℕ) (i n v : ℕ) → n < 10 → v ≡ 48 + n → Put d i (decimal n) (set d i v) (i + 1)
decimal-one-put d i n v h e = put_is (put_byte d i v (i + 1) refl) (decimal n) (ap (λ (x : ℕ). x ∷ []) e ∙ sym (decimal-one n h))

pub decimal-more-put : {d s : List ℕ} {i j : ℕ} (n v : ℕ) → 10 ≤ n → v ≡ 48 + n % 10 → Put d i (decimal (n / 10)) s j
    → Put d i (decimal n) (set s j v) (j + 1)
decimal-more-put {d} {s} {i} {j} n v l e h =
    put_is (put-more h (put_byte s j v (j + 1) refl)) (decimal n) (ap (λ (x : ℕ). decimal (n / 10) ++ (x ∷ [])) e ∙ sym (decimal-more n l))

-- one list more of those joined
pub joined-more : {d s : List ℕ} {i j : ℕ} (f : ℕ → List ℕ) (n : ℕ) (ws r : List ℕ) (k : ℕ) → Put d i (joined n f) s j → ws ≡ f n → Put s j ws r k
    → Put d i (joined (n + 1) f) r k
joined-more f n ws r k h e g =
    put_is (put-more h g) (joined (n + 1) f) (ap (λ (l : List ℕ). joined n f ++ l) e ∙ ap (λ (m : ℕ). joined m f) (sym (add-one n)))
