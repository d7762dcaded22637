-- What a reader whose bytes are known has left, after reads into a buffer in turn.
use mathlib.Core.Path.{◌≡◌, refl, sym, ap, ◌∙◌, subst}
use mathlib.Core.List.{List, ◌++◌}
use Prim.Native.Nat.{ℕ, ◌+◌, ◌-◌, ◌≤◌}
use native.Mathlib.Omega.{arith}
use lib.ListN.{length, take}
use lib.Seq.{take-take, length-take-le}
use borrow.Rule.Slice.PartMut.{put_mid}
use Rattle.std.specs.declared.option.Option.{Option}
use Rattle.std.specs.Io.KnownBytes.{Consumes}
use Rattle.std.proofs.KnownBytes.{Consumes-trans}
use Rattle.std.proofs.Math.Seq.{take-append-add}
use Rattle.std.proofs.lemmas.Slice.{take-put_mid}

-- what stands at the front after a read of n bytes past the first i
front-more : (xs part : List ℕ) (i n : ℕ) → i ≤ length xs → n ≤ length part → take (i + n) (put_mid i (length xs - i) xs part) ≡ take i xs ++ take n part
front-more xs part i n p q =
    let k = length xs - i in
    let size : length (take i xs) ≡ i = length-take-le i xs p in
    sym (take-take (i + n) (i + length part) (put_mid i k xs part) (omega arith))
    ∙ ap (take (i + n)) (take-put_mid i k xs part (i + length part) refl p)
    ∙ ap (λ (j : ℕ). take (j + n) (take i xs ++ part)) (sym size)
    ∙ take-append-add (take i xs) part n

pub read-more : (a b c : Option (List ℕ)) (xs part : List ℕ) (i n : ℕ) → i ≤ length xs → n ≤ length part → Consumes a b (take i xs)
    → Consumes b c (take n part) → Consumes a c (take (i + n) (put_mid i (length xs - i) xs part))
read-more a b c xs part i n p q before read =
    subst (Consumes a c) (sym (front-more xs part i n p q)) (Consumes-trans a b c (take i xs) (take n part) before read)
