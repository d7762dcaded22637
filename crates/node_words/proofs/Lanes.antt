-- A node's words by its kind.
use mathlib.Core.Path.{◌≡◌, refl, sym, ap, ap₂, ◌∙◌}
use mathlib.Core.Bool.{Bool, true, false, not, ◌&&◌, ◌||◌, beq}
use Prim.Native.Nat.{ℕ, suc, ◌≤◌, ◌<◌}
use native.Mathlib.Omega.{arith}
use lib.ListN.{get_or, get_or-eq_default}
use lib.Bits.{bit_and, bit_or}
use Rattle.std.proofs.Common.{bit_xor}
use Rattle.node_words.proofs.Lanewise.{Flipped, on_xor, every-on}
use Rattle.meaning.specs.declared.Node.{Node}
use Rattle.ltl.specs.Sets.{on}
use Rattle.ltl.proofs.Sets.{on-zero, on_and, on_or}
use Rattle.ltl.specs.Nodes.{Split, plain, falsum, at_least, kinds}
use Rattle.ltl.specs.Valuation.{plain_value}
use Rattle.node_words.specs.declared.Words.{Words}
use Rattle.node_words.specs.Bits.{plain_bits, temporal_bits, bits_of}
use Rattle.node_words.specs.Words.{Lanes, lane_of, plain_words, promise_words, Everywhere}

-- a number that is none of those before j, nor j
pub past : (j k : ℕ) → j ≤ k → (k ≡ j → ⊥) → suc j ≤ k
past j k h n = omega arith

twice-not : (a : Bool) → not (not a) ≡ a
twice-not true = refl
twice-not false = refl

plain_lane : (W l : ℕ) (v : Bool) → on W l ≡ v → lane_of (plain_words W) l ≡ plain_bits v
plain_lane W l v q = ap plain_bits q

promise-lane : (W Y F l : ℕ) (v y f : Bool) → on W l ≡ v → on Y l ≡ y → on F l ≡ f → lane_of (promise_words W Y F) l ≡ temporal_bits v y f
promise-lane W Y F l v y f p q r = rw (p, q, r)

-- what a node is if its kind is j
abbrev kind_at : Node → ℕ → Split
kind_at n j = get_or (kinds n.a n.b n.upper) j (plain falsum)

module _ {e a b x : ℕ} {n : Node} {r : Words} where
  -- the words of a node of kind j with the same operands
  by_kind : (j : ℕ) → n.kind ≡ j → {w : Words} → r ≡ w
      → ((v l : ℕ) → l < 64 → on a l ≡ on v n.a → on b l ≡ on v n.b → lane_of w l ≡ bits_of v e (on x l) (kind_at n j)) → Lanes e a b x n r
  by_kind j k q f = record { lane = λ v l m p s. ap (λ (w : Words). lane_of w l) q ∙ f v l m p s ∙ sym (ap (λ (i : ℕ). bits_of v e (on x l) (kind_at n i)) k) }

  pub no_kind : 14 ≤ n.kind → r ≡ plain_words 0 → Lanes e a b x n r
  no_kind h q = record {
    lane = λ v l m p s.
        ap (λ (w : Words). lane_of w l) q ∙ plain_lane 0 l false (on-zero l)
        ∙ sym (ap (bits_of v e (on x l)) (get_or-eq_default (kinds n.a n.b n.upper) (plain falsum) h));
  }

  pub falsum-words : n.kind ≡ 0 → r ≡ plain_words 0 → Lanes e a b x n r
  falsum-words k q = by_kind 0 k q (λ v l m p s. plain_lane 0 l false (on-zero l))

  pub verum-words : n.kind ≡ 1 → r ≡ plain_words 18446744073709551615 → Lanes e a b x n r
  verum-words k q = by_kind 1 k q (λ v l m p s. plain_lane 18446744073709551615 l true (every-on.all l m))

  pub signal-words : n.kind ≡ 2 → (W : ℕ) → Everywhere (on e n.a) W → r ≡ plain_words W → Lanes e a b x n r
  signal-words k W h q = by_kind 2 k q (λ v l m p s. plain_lane W l (on e n.a) (h.all l m))

  pub at-least-words : n.kind ≡ 3 → (W : ℕ) → Everywhere (plain_value 0 e (at_least n.a n.b n.upper)) W → r ≡ plain_words W → Lanes e a b x n r
  at-least-words k W h q = by_kind 3 k q (λ v l m p s. plain_lane W l _ (h.all l m))

  pub neg-words : n.kind ≡ 4 → (W : ℕ) → Flipped a W → r ≡ plain_words W → Lanes e a b x n r
  neg-words k W h q = by_kind 4 k q (λ v l m p s. plain_lane W l (not (on v n.a)) (h.flip l m ∙ ap not p))

  pub and-words : n.kind ≡ 5 → r ≡ plain_words (bit_and a b) → Lanes e a b x n r
  and-words k q = by_kind 5 k q (λ v l m p s. plain_lane (bit_and a b) l (on v n.a && on v n.b) (on_and a b l ∙ ap₂ (λ (c d : Bool). c && d) p s))

  pub or-words : n.kind ≡ 6 → r ≡ plain_words (bit_or a b) → Lanes e a b x n r
  or-words k q = by_kind 6 k q (λ v l m p s. plain_lane (bit_or a b) l (on v n.a || on v n.b) (on_or a b l ∙ ap₂ (λ (c d : Bool). c || d) p s))

  pub implies-words : n.kind ≡ 7 → (W : ℕ) → Flipped a W → r ≡ plain_words (bit_or W b) → Lanes e a b x n r
  implies-words k W h q = by_kind 7 k q
      (λ v l m p s. plain_lane (bit_or W b) l (not (on v n.a) || on v n.b) (on_or W b l ∙ ap₂ (λ (c d : Bool). c || d) (h.flip l m ∙ ap not p) s))

  pub iff-words : n.kind ≡ 8 → (W : ℕ) → Flipped (bit_xor a b) W → r ≡ plain_words W → Lanes e a b x n r
  iff-words k W h q = by_kind 8 k q
      (λ v l m p s. plain_lane W l (beq (on v n.a) (on v n.b)) (h.flip l m ∙ ap not (on_xor a b l) ∙ twice-not (beq (on a l) (on b l)) ∙ ap₂ beq p s))

  pub xor-words : n.kind ≡ 9 → r ≡ plain_words (bit_xor a b) → Lanes e a b x n r
  xor-words k q = by_kind 9 k q
      (λ v l m p s. plain_lane (bit_xor a b) l (not (beq (on v n.a) (on v n.b))) (on_xor a b l ∙ ap not (ap₂ beq p s)))

  pub next-words : n.kind ≡ 10 → r ≡ promise_words x a 18446744073709551615 → Lanes e a b x n r
  next-words k q = by_kind 10 k q (λ v l m p s. promise-lane x a 18446744073709551615 l (on x l) (on v n.a) true refl p (every-on.all l m))

  pub until-words : n.kind ≡ 11 → (W : ℕ) → Flipped (bit_or b (bit_and a x)) W → r ≡ promise_words (bit_or b (bit_and a x)) (bit_or b (bit_and a x)) (bit_or W b) → Lanes e a b x n r
  until-words k W h q = by_kind 11 k q (λ v l m p s. promise-lane (bit_or b (bit_and a x)) (bit_or b (bit_and a x)) (bit_or W b) l _ _ _
      (value v l p s) (value v l p s) (on_or W b l ∙ ap₂ (λ (c d : Bool). c || d) (h.flip l m ∙ ap not (value v l p s)) s))
    where
      value : (v l : ℕ) → on a l ≡ on v n.a → on b l ≡ on v n.b → on (bit_or b (bit_and a x)) l ≡ (on v n.b || (on v n.a && on x l))
      value v l p s = on_or b (bit_and a x) l ∙ ap₂ (λ (c d : Bool). c || d) s (on_and a x l ∙ ap (λ (c : Bool). c && on x l) p)

  pub eventually-words : n.kind ≡ 12 → (W : ℕ) → Flipped (bit_or a x) W → r ≡ promise_words (bit_or a x) (bit_or a x) (bit_or W a) → Lanes e a b x n r
  eventually-words k W h q = by_kind 12 k q (λ v l m p s. promise-lane (bit_or a x) (bit_or a x) (bit_or W a) l _ _ _
      (value v l p) (value v l p) (on_or W a l ∙ ap₂ (λ (c d : Bool). c || d) (h.flip l m ∙ ap not (value v l p)) p))
    where
      value : (v l : ℕ) → on a l ≡ on v n.a → on (bit_or a x) l ≡ (on v n.a || on x l)
      value v l p = on_or a x l ∙ ap (λ (c : Bool). c || on x l) p

  pub always-words : n.kind ≡ 13 → (W : ℕ) → Flipped a W → r ≡ promise_words (bit_and a x) (bit_and a x) (bit_or (bit_and a x) W) → Lanes e a b x n r
  always-words k W h q = by_kind 13 k q (λ v l m p s. promise-lane (bit_and a x) (bit_and a x) (bit_or (bit_and a x) W) l _ _ _
      (value v l p) (value v l p) (on_or (bit_and a x) W l ∙ ap₂ (λ (c d : Bool). c || d) (value v l p) (h.flip l m ∙ ap not p)))
    where
      value : (v l : ℕ) → on a l ≡ on v n.a → on (bit_and a x) l ≡ (on v n.a && on x l)
      value v l p = on_and a x l ∙ ap (λ (c : Bool). c && on x l) p
