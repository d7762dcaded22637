-- Laws of one record: what a reading that is no refusal tells.
use mathlib.Core.Path.{◌≡◌, refl, sym}
use mathlib.Core.List.{List, [], ◌∷◌, ◌++◌}
use mathlib.Core.Bool.{Bool, true, false, not, ◌&&◌, and-eq-true_iff}
use Prim.Native.Nat.{ℕ, ◌+◌, ◌≤◌}
use native.Mathlib.Omega.{arith}
use borrow.Author.Tests.{leb-true, eqb-true, not-false}
use lib.Dec.{leb, eqb}
use lib.ListN.{get_or}
use Rattle.meaning.specs.Bytes.{u16_at}
use Rattle.meaning.specs.RuleFiles.{body_length, length_fits, temporal, operands_fit, ranges_fit, frame_checks, node_at, header_of, reading_of}
use Rattle.meaning.specs.declared.Node.{Node}
use Rattle.meaning.specs.declared.Header.{Header}
use Rattle.meaning.specs.declared.Refusal.{Refusal}
use Rattle.meaning.specs.declared.Refusal.TheVariants.{WrongSignals, WrongCount, WrongOperand, OutOfRange, EighthTemporal}
use Rattle.rule_nodes.proofs.Ranges.{within}
use Rattle.rule_records.proofs.Checks.{first-cleared}
use Rattle.std.proofs.Common.{Ok, Err}

-- the checks of the first record, and of a node's
abbrev pub header_checks : List ℕ → List (Bool × Refusal)
header_checks b =
    frame_checks b 0 (eqb (u16_at b 2) 256) (eqb (u16_at b 0) 4)
    ++ ((not (leb 1 (get_or b 4 0) && leb (get_or b 4 0) 4), WrongSignals)
    ∷ (not (leb 1 (get_or b 5 0) && leb (get_or b 5 0) 64), WrongCount)
    ∷ [])

abbrev pub node_checks : List ℕ → ℕ → ℕ → ℕ → ℕ → List (Bool × Refusal)
node_checks b P p number seen =
    let n = node_at b p in
    frame_checks b p (leb n.kind 13) (length_fits n.kind (u16_at b p))
    ++ ((not (operands_fit number n), WrongOperand p)
    ∷ (not (ranges_fit P n), OutOfRange p)
    ∷ (temporal n.kind && leb 7 seen, EighthTemporal p)
    ∷ [])

-- ---- the first record

and_right : (s t : Bool) → not (s && t) ≡ false → t ≡ true
and_right true t e = not-false t e
and_right false true e = refl
and_right false false e = sym e

module _ (b : List ℕ) where
  abbrev header_at : Header
  header_at = record { signals = get_or b 4 0; nodes = get_or b 5 0 }

  pub header-few : (h : Header) → header_of b ≡ Ok h → (h.signals ≤ 4) × (h.nodes ≤ 64)
  unfolding header_of
  header-few h e =
      let f = first-cleared Err (Ok header_at) (Ok h) other (header_checks b) e in
      let q = f.1 in
      let s : h.signals ≡ get_or b 4 0 = cc in
      let n : h.nodes ≡ get_or b 5 0 = cc in (
        omega (arith, leb-true (get_or b 4 0) 4 (and_right (leb 1 (get_or b 4 0)) _ (f.0.none 5 (omega arith)))),
        omega (arith, leb-true (get_or b 5 0) 64 (and_right (leb 1 (get_or b 5 0)) _ (f.0.none 6 (omega arith)))),
      )
    where
      other : (r : Refusal) → Err r ≡ Ok h → ⊥
      other r e = cc

-- ---- a node's record

-- no record of a node is longer than an "at least" with its upper count
short : (k l : ℕ) → k ≤ 13 → length_fits k l ≡ true → l ≤ 5
short k l h e = go (eqb l (2 + body_length k)) refl
  where
    body : body_length k ≤ 3
    body = leb-true (body_length k) 3 (within (λ k. leb (body_length k) 3 ≡ true) 0 14 (search depth 20) k (omega arith) (omega arith))

    go : (t : Bool) → eqb l (2 + body_length k) ≡ t → l ≤ 5
    go true q = omega (arith, eqb-true l (2 + body_length k) q, body)
    go false q = omega (arith, eqb-true l 5 ((and-eq-true_iff (eqb k 3) (eqb l 5)).0 (rw q at e)).1)

module _ (b : List ℕ) (P p number seen : ℕ) where
  abbrev checks : List (Bool × Refusal)
  checks = node_checks b P p number seen

  -- what a record that is read as n tells
  pub record Told (n : Node) : Type 0 where
    pub kind : n.kind ≤ 13
    pub length : u16_at b p ≤ 5

  pub node-told : (n : Node) → reading_of b P p number seen ≡ Ok n → Told n
  unfolding reading_of
  node-told n e =
      let f = first-cleared Err (Ok (node_at b p)) (Ok n) other checks e in
      let q = f.1 in
      let k : n.kind ≡ u16_at b (p + 2) = cc in
      let few : u16_at b (p + 2) ≤ 13 = leb-true (u16_at b (p + 2)) 13 (not-false _ (f.0.none 3 (omega arith))) in
      record { kind = omega arith; length = short (u16_at b (p + 2)) (u16_at b p) few (not-false _ (f.0.none 4 (omega arith))) }
    where
      other : (r : Refusal) → Err r ≡ Ok n → ⊥
      other r e = cc
