-- Columns that hold the valuations of 64 labels: one node more.
use mathlib.Core.Path.{◌≡◌, refl, sym, ap, ap₂, ◌∙◌, subst}
use mathlib.Core.Bool.{Bool, true, false, false≢true, ◌||◌}
use mathlib.Core.List.{List, [], ◌∷◌}
use Prim.Native.Nat.{ℕ, zero, suc, ◌+◌, ◌*◌, ◌%◌, ◌^◌, ◌<◌}
use native.Mathlib.Numerals.{add-one}
use native.Mathlib.Decide.{ℕ_discrete}
use native.Mathlib.Omega.{arith}
use lib.ListN.{length, get_or, set, length-set}
use lib.Pow.{pow_pos}
use lib.Bits.{bit_or}
use native.Mathlib.Nat.{le_refl, pow-suc}
use Rattle.std.proofs.lemmas.Nat.{one_shl, or_lt}
use lib.Seq.{get_or-set_same, get_or-set_other}
use Rattle.meaning.specs.declared.Node.{Node}
use Rattle.ltl.specs.Sets.{on, put}
use Rattle.ltl.specs.Nodes.{Split, plain, temporal, split}
use Rattle.ltl.specs.Valuation as ltl
use Rattle.ltl.specs.Valuation.{plain_value, temporal_value, label_bit, fair_bit, value, none}
use Rattle.ltl.proofs.Sets.{on-zero, on_or, on_out, put-lt, put-here, put_other}
use Rattle.std.specs.Prelude.{Option, None, Some}
use Rattle.node_words.specs.declared.Words.{Words}
use Rattle.node_words.specs.declared.Promise.{Promise}
use Rattle.valuation.specs.declared.Columns.{Columns}
use Rattle.node_words.specs.Bits.{Bits, bits_of}
use Rattle.node_words.specs.Words.{label_of, lane, Lanes, LabelBits}
use Rattle.valuation.specs.Columns.{Planes, State, Held, Advanced, Byte}

-- ---- planes

pub planes-same : {f g : ℕ → ℕ} {columns : List ℕ} → ((l : ℕ) → f l ≡ g l) → Planes f columns → Planes g columns
planes-same q p = record { plane = λ l j h. p.plane l j h ∙ ap (λ (A : ℕ). on A j) (q l) }

-- word k is stored: one bit more on top of each number
pub planes-put : (k W : ℕ) (c : ℕ → ℕ) → ((l : ℕ) → c l ≡ k) → (bits : ℕ → Bool) {f : ℕ → ℕ} (columns : List ℕ) → k < length columns → ((l : ℕ) → f l < 2 ^ k)
    → ((l : ℕ) → l < 64 → on W l ≡ bits l) → Planes f columns → Planes (λ l. put (c l) (bits l) (f l)) (set columns k W)
planes-put k W c cs bits {f} columns r size w p = record { plane = λ l j h. rw (cs l) (go l j h (ℕ_discrete j k)) }
  where
    go : (l j : ℕ) → l < 64 → Dec (j ≡ k) → on (get_or (set columns k W) j 0) l ≡ on (put k (bits l) (f l)) j
    go l j h (yes e) = rw e (ap (λ (A : ℕ). on A l) (get_or-set_same columns k W 0 r) ∙ w l h ∙ sym (put-here k (bits l) (f l) (size l)))
    go l j h (no e) = ap (λ (A : ℕ). on A l) (get_or-set_other columns k j W 0 e) ∙ p.plane l j h ∙ sym (put_other k (bits l) (f l) j (size l) e)

abbrev zeros : List ℕ → Bool
zeros [] = true
zeros (zero ∷ xs) = zeros xs
zeros (suc x ∷ xs) = false

zero-at : (z : List ℕ) → zeros z ≡ true → (j : ℕ) → get_or z j 0 ≡ 0
zero-at [] h j = refl
zero-at (zero ∷ z) h zero = refl
zero-at (zero ∷ z) h (suc j) = zero-at z h j
zero-at (suc x ∷ z) h j = absurd (false≢true h)

planes-none : (z : List ℕ) → zeros z ≡ true → Planes (λ l. 0) z
planes-none z h = record { plane = λ l j m. ap (λ (A : ℕ). on A l) (zero-at z h j) ∙ on-zero l ∙ sym (on-zero j) }

-- ---- valuations

pub held_none : (c : Columns) → c.temporals ≡ 0 → zeros c.values ≡ true → zeros c.label ≡ true → zeros c.fairs ≡ true → Held 0 (λ l. none) c
held_none c t p q r = record {
  state = λ l. record { count = refl; temporals = sym t; values = omega arith; label = pow_pos c.temporals; fairs = pow_pos c.temporals };
  of_values = planes-none c.values p;
  of_label = planes-none c.label q;
  of_fairs = planes-none c.fairs r;
}

pub held_same : {i : ℕ} {s t : ℕ → ltl.Valued} {c : Columns} → ((l : ℕ) → s l ≡ t l) → Held i s c → Held i t c
held_same {i} {c = c} q h = record {
  state = λ l. subst (State i c.temporals) (q l) (h.state l);
  of_values = planes-same (λ l. ap (λ (v : ltl.Valued). v.values) (q l)) h.of_values;
  of_label = planes-same (λ l. ap (λ (v : ltl.Valued). v.label) (q l)) h.of_label;
  of_fairs = planes-same (λ l. ap (λ (v : ltl.Valued). v.fairs) (q l)) h.of_fairs;
}

put-size : (c k : ℕ) (b : Bool) (A : ℕ) → c ≡ k → A < 2 ^ k → put c b A < 2 ^ (k + 1)
put-size c k b A q h = rw (q, add-one) (put-lt k b A h)

module _ (e : ℕ) (high : Bool) (i x v : ℕ) (c : Columns) (bits : LabelBits high c.temporals x) (s : ℕ → ltl.Valued) (h : Held i s c) where
  -- the bit of the next label, as the valuation reads it
  next_bit : (l : ℕ) → l < 64 → on x l ≡ on (label_of high l) (s l).temporals
  next_bit l k = bits.bit l k ∙ ap (on (label_of high l)) (sym (h.state l).temporals)

  -- the value v and the promise are the bits of the node n at each label
  abbrev Said : Option Promise → Split → Type 0
  Said o n = (l : ℕ) → l < 64 → lane v o l ≡ bits_of (s l).values e (on x l) n

  held-temporal : (n : Split) (p : Promise) → Said (Some p) n → i < length c.values → c.temporals < length c.label → c.temporals < length c.fairs
      → Held (i + 1) (λ l. value e (label_of high l) (s l) n)
      (record { values = set c.values i v; label = set c.label c.temporals p.label; fairs = set c.fairs c.temporals p.fair; temporals = c.temporals + 1 })
  held-temporal (plain q) p said a b d = absurd (false≢true (sym (ap (λ (z : Bits). z.temporal) (said 0 (omega arith)))))
  held-temporal (temporal n) p said a b d = record {
    state = λ l. record {
      count = omega (arith, (h.state l).count);
      temporals = omega (arith, (h.state l).temporals);
      values = put-size (s l).count i (temporal_value (s l).values (on (label_of high l) (s l).temporals) n) (s l).values (h.state l).count (h.state l).values;
      label = put-size (s l).temporals c.temporals (label_bit (s l).values (on (label_of high l) (s l).temporals) n) (s l).label (h.state l).temporals (h.state l).label;
      fairs = put-size (s l).temporals c.temporals (fair_bit (s l).values (on (label_of high l) (s l).temporals) n) (s l).fairs (h.state l).temporals (h.state l).fairs;
    };
    of_values = planes-put i v (λ l. (s l).count) (λ l. (h.state l).count) (λ l. temporal_value (s l).values (on (label_of high l) (s l).temporals) n) c.values a (λ l. (h.state l).values)
        (λ l k. ap (λ (z : Bits). z.value) (said l k) ∙ ap (λ (y : Bool). temporal_value (s l).values y n) (next_bit l k)) h.of_values;
    of_label = planes-put c.temporals p.label (λ l. (s l).temporals) (λ l. (h.state l).temporals) (λ l. label_bit (s l).values (on (label_of high l) (s l).temporals) n) c.label b (λ l. (h.state l).label)
        (λ l k. ap (λ (z : Bits). z.label) (said l k) ∙ ap (λ (y : Bool). label_bit (s l).values y n) (next_bit l k)) h.of_label;
    of_fairs = planes-put c.temporals p.fair (λ l. (s l).temporals) (λ l. (h.state l).temporals) (λ l. fair_bit (s l).values (on (label_of high l) (s l).temporals) n) c.fairs d (λ l. (h.state l).fairs)
        (λ l k. ap (λ (z : Bits). z.fair) (said l k) ∙ ap (λ (y : Bool). fair_bit (s l).values y n) (next_bit l k)) h.of_fairs;
  }

  held_plain : (n : Split) → Said None n → i < length c.values → Held (i + 1) (λ l. value e (label_of high l) (s l) n) (record c { values = set c.values i v })
  held_plain (temporal n) said a = absurd (false≢true (ap (λ (z : Bits). z.temporal) (said 0 (omega arith))))
  held_plain (plain p) said a = record {
    state = λ l. record {
      count = omega (arith, (h.state l).count);
      temporals = (h.state l).temporals;
      values = put-size (s l).count i (plain_value (s l).values e p) (s l).values (h.state l).count (h.state l).values;
      label = (h.state l).label;
      fairs = (h.state l).fairs;
    };
    of_values = planes-put i v (λ l. (s l).count) (λ l. (h.state l).count) (λ l. plain_value (s l).values e p) c.values a (λ l. (h.state l).values)
        (λ l k. ap (λ (z : Bits). z.value) (said l k)) h.of_values;
    of_label = h.of_label;
    of_fairs = h.of_fairs;
  }

module _ {e : ℕ} {high : Bool} {i : ℕ} {n : Node} {c : Columns} {a b x : ℕ} {w : Words} (p : a ≡ get_or c.values n.a 0) (q : b ≡ get_or c.values n.b 0)
    (bits : LabelBits high c.temporals x) (lanes : Lanes e a b x n w) where
  said : (o : Option Promise) → w.promise ≡ o → (s : ℕ → ltl.Valued) → Held i s c → (l : ℕ) → l < 64 → lane w.value o l ≡ bits_of (s l).values e (on x l) (split n)
  said o t s h l k =
      ap (λ (o : Option Promise). lane w.value o l) (sym t)
      ∙ lanes.lane (s l).values l k (ap (λ (A : ℕ). on A l) p ∙ h.of_values.plane l n.a k) (ap (λ (A : ℕ). on A l) q ∙ h.of_values.plane l n.b k)

  -- a promise is stored at k and j, which are the place of the next temporal node
  pub advanced-temporal : {r : Promise} → w.promise ≡ Some r → {k j : ℕ} → k ≡ c.temporals → j ≡ c.temporals → i < length c.values → c.temporals < length c.label → c.temporals < length c.fairs
      → Advanced e high i n c (record { values = set c.values i w.value; label = set c.label k r.label; fairs = set c.fairs j r.fair; temporals = c.temporals + 1 })
  advanced-temporal {r} t f g k l o =
      rw (f, g) (record { long = length-set c.label c.temporals r.label; next = λ s h. held-temporal e high i x w.value c bits s h (split n) r (said (Some r) t s h) k l o })

  pub advanced-plain : w.promise ≡ None → i < length c.values → Advanced e high i n c (record c { values = set c.values i w.value })
  advanced-plain t k = record { long = refl; next = λ s h. held_plain e high i x w.value c bits s h (split n) (said None t s h) k }

-- ---- bytes

-- a digit at place n of a byte
pub digit-at : (n : ℕ) → n < 8 → (1 * 2 ^ n) % 256 ≡ put n true 0
digit-at n h = one_shl n 8 h ∙ omega arith

pub byte_more : {n : ℕ} {columns : List ℕ} {l r : ℕ} → Byte n columns l r → (b : Bool) → b ≡ on (get_or columns n 0) l → (t : ℕ) → t ≡ put n b 0 → Byte (n + 1) columns l (bit_or r t)
byte_more {n} {columns} {l} {r} h b q t e =
    rw e (record { size = or_lt (n + 1) r (put n b 0) (rw add-one (omega (arith, h.size, pow-suc 2 n))) (put-size n n b 0 refl (pow_pos n)); bits = λ j k. on_or r (put n b 0) j ∙ go j k (ℕ_discrete j n) })
  where
    or-false : (a : Bool) → (a || false) ≡ a
    or-false true = refl
    or-false false = refl

    go : (j : ℕ) → j < n + 1 → Dec (j ≡ n) → (on r j || on (put n b 0) j) ≡ on (get_or columns j 0) l
    go j k (yes d) = rw d (ap₂ (λ (s t : Bool). s || t) (on_out r n n h.size (le_refl n)) (put-here n b 0 (pow_pos n)) ∙ q)
    go j k (no d) = ap (λ (t : Bool). on r j || t) (put_other n b 0 j (pow_pos n) d ∙ on-zero j) ∙ or-false (on r j) ∙ h.bits j (omega arith)
