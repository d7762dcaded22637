-- Laws of the loop over the nodes' records.
--     Progress                    its invariant: what is left to judge from here is what was to be judged
--     progress-none, -more        where it begins, after a turn
--     progress-refused            a record is refused
--     progress-over, -accepted    the end, with bytes left and without
--     judged, judged-refused, judged-mask-refused     the whole, by the readings of the first record and of the mask
use mathlib.Core.Path.{◌≡◌, refl, sym, ap, ap₂, ◌∙◌}
use mathlib.Core.List.{List, [], ◌∷◌, ◌++◌}
use mathlib.Core.Bool.{Bool, true, false, cond}
use mir.Val.{bool_byte}
use Prim.Native.Nat.{ℕ, suc, ◌+◌, ◌-◌, ◌*◌, ◌≤◌, ◌<◌}
use native.Mathlib.Omega.{arith}
use borrow.Author.Tests.{lt-ltb, le-ltb}
use lib.ListN.{length, set, replicate, length-append}
use lib.Seq.{set_at, append_snoc}
use Rattle.meaning.specs.Bytes.{u16_at}
use Rattle.meaning.specs.RuleFiles.{Accepted, Refused, temporal, temporals, header_of, mask_of, reading_of, nodes_from, body_from, Judgement, judge}
use Rattle.meaning.specs.declared.Node.{Node}
use Rattle.meaning.specs.declared.Header.{Header}
use Rattle.meaning.specs.declared.Mask.{Mask}
use Rattle.meaning.specs.declared.Refusal.{Refusal}
use Rattle.meaning.specs.declared.Refusal.TheVariants.{TrailingBytes}
use Rattle.rule_records.proofs.Records.{node-told}
use Rattle.rule_file.specs.Reading.{blank, padded, read_of}
use Rattle.std.proofs.Common.{Result, Ok, Err}

pub temporals-more : (ns : List Node) (n : Node) → temporals (ns ++ (n ∷ [])) ≡ temporals ns + cond (temporal n.kind) 1 0
temporals-more [] n = omega arith
temporals-more (m ∷ ns) n = omega (arith, temporals-more ns n)

-- a flag as a number, as the code converts it
pub byte-of : (t : Bool) → bool_byte t ≡ cond t 1 0
byte-of true = refl
byte-of false = refl

pub one-at_most : (t : Bool) → cond t 1 0 ≤ 1
one-at_most true = omega arith
one-at_most false = omega arith

-- ---- one step of the judgement

module _ (b : List ℕ) (P m p : ℕ) (earlier : List Node) where
  pub nodes-more : (k : ℕ) (n : Node) → reading_of b P p (length earlier) (temporals earlier) ≡ Ok n
      → nodes_from (suc k) b P m p earlier ≡ nodes_from k b P m (p + 2 + u16_at b p) (earlier ++ (n ∷ []))
  unfolding nodes_from
  nodes-more k n e = rw (e, nodes_from)

  nodes-refused : (k : ℕ) (x : Refusal) → reading_of b P p (length earlier) (temporals earlier) ≡ Err x → nodes_from (suc k) b P m p earlier ≡ Refused x
  unfolding nodes_from
  nodes-refused k x e = rw (e, nodes_from)

  nodes-over : p < length b → nodes_from 0 b P m p earlier ≡ Refused (TrailingBytes p)
  unfolding nodes_from
  nodes-over l = rw (lt-ltb p (length b) l)

  pub nodes-end : length b ≤ p → nodes_from 0 b P m p earlier ≡ Accepted (record { signals = P; mask = m; nodes = earlier })
  unfolding nodes_from
  nodes-end l = rw (le-ltb p (length b) l)

module _ (b : List ℕ) where
  pub judged-refused : (x : Refusal) → header_of b ≡ Err x → judge b ≡ Refused x
  unfolding judge
  judged-refused x e = rw (e, judge)

  module _ (h : Header) (e : header_of b ≡ Ok h) where
    pub judged-mask-refused : (x : Refusal) → mask_of b h.signals ≡ Err x → judge b ≡ Refused x
    unfolding judge body_from
    judged-mask-refused x q = rw (e, judge, q, body_from)

    pub judged : (m : Mask) → mask_of b h.signals ≡ Ok m → judge b ≡ nodes_from h.nodes b h.signals m.mask m.nodes_at []
    unfolding judge body_from
    judged m q = rw (e, judge, q, body_from)

-- ---- the loop

-- what is to be judged: all nodes, behind the first record and the mask's
abbrev pub whole : List ℕ → Header → Mask → Judgement
whole b h m = nodes_from h.nodes b h.signals m.mask m.nodes_at []

-- after i of the nodes, so many of them temporal, with the next record at p and the nodes so far at the front of the array
pub record Progress (b : List ℕ) (h : Header) (m : Mask) (nodes : List Node) (p seen i : ℕ) : Type 0 where
  pub earlier : List Node
  pub number : length earlier ≡ i
  pub near : p ≤ 12 + 7 * i
  pub few : seen ≤ i
  pub temporal-are : seen ≡ temporals earlier
  pub array : nodes ≡ earlier ++ replicate (64 - i) blank
  pub rest : nodes_from (h.nodes - i) b h.signals m.mask p earlier ≡ whole b h m

module _ {b : List ℕ} {h : Header} {m : Mask} where
  pub progress-none : m.nodes_at ≤ 12 → Progress b h m (replicate 64 blank) m.nodes_at 0 0
  progress-none l = record {
    earlier = [];
    number = refl;
    near = omega arith;
    few = omega arith;
    temporal-are = refl;
    array = refl;
    rest = ap (λ (k : ℕ). nodes_from k b h.signals m.mask m.nodes_at []) (omega arith);
  }

  module _ {nodes : List Node} {p seen i : ℕ} (g : Progress b h m nodes p seen i) where
    read_here : {r : Result Node Refusal} → reading_of b h.signals p i seen ≡ r → reading_of b h.signals p (length g.earlier) (temporals g.earlier) ≡ r
    read_here e = ap₂ (λ (k s : ℕ). reading_of b h.signals p k s) g.number (sym g.temporal-are) ∙ e

    left : i < h.nodes → nodes_from (suc (h.nodes - (i + 1))) b h.signals m.mask p g.earlier ≡ whole b h m
    left l = ap (λ (k : ℕ). nodes_from k b h.signals m.mask p g.earlier) (omega arith) ∙ g.rest

    -- a turn: the node n is stored, its record's length and whether it is temporal are counted
    pub progress-more : (n : Node) (j size t : ℕ) → h.nodes ≤ 64 → i < h.nodes → reading_of b h.signals p i seen ≡ Ok n → j ≡ i → size ≡ u16_at b p
        → t ≡ bool_byte (temporal n.kind) → Progress b h m (set nodes j n) (p + (2 + size)) (seen + t) (i + 1)
    progress-more n j size t room l e o u w =
        let ns = g.earlier in
        let short : u16_at b p ≤ 5 = (node-told b h.signals p i seen n e).length in
        record {
          earlier = ns ++ (n ∷ []);
          number = length-append ns (n ∷ []) ∙ omega (arith, g.number);
          near = omega (arith, g.near);
          few = omega (arith, g.few, byte-of (temporal n.kind), one-at_most (temporal n.kind));
          temporal-are = omega (arith, g.temporal-are, temporals-more ns n, byte-of (temporal n.kind));
          array =
              ap (λ (xs : List Node). set xs j n) (g.array ∙ ap (λ (k : ℕ). ns ++ replicate k blank) more)
              ∙ set_at ns blank (replicate (64 - (i + 1)) blank) n j (omega (arith, g.number)) ∙ sym (append_snoc ns n (replicate (64 - (i + 1)) blank));
          rest =
              ap (λ (k : ℕ). nodes_from (h.nodes - (i + 1)) b h.signals m.mask k (ns ++ (n ∷ []))) (omega arith)
              ∙ sym (nodes-more b h.signals m.mask p ns (h.nodes - (i + 1)) n (read_here e)) ∙ left l;
        }
      where
        more : 64 - i ≡ suc (64 - (i + 1))
        more = omega arith

    pub progress-refused : (x : Refusal) → i < h.nodes → reading_of b h.signals p i seen ≡ Err x → whole b h m ≡ Refused x
    progress-refused x l e = sym (left l) ∙ nodes-refused b h.signals m.mask p g.earlier (h.nodes - (i + 1)) x (read_here e)

    done : h.nodes ≤ i → nodes_from 0 b h.signals m.mask p g.earlier ≡ whole b h m
    done l = ap (λ (k : ℕ). nodes_from k b h.signals m.mask p g.earlier) (omega arith) ∙ g.rest

    pub progress-over : h.nodes ≤ i → p < length b → whole b h m ≡ Refused (TrailingBytes p)
    progress-over l u = sym (done l) ∙ nodes-over b h.signals m.mask p g.earlier u

    pub progress-accepted : i ≡ h.nodes → length b ≤ p → Ok (record { signals = h.signals; mask = m.mask; count = h.nodes; nodes = nodes }) ≡ read_of (whole b h m)
    progress-accepted l u =
        let ns = g.earlier in
        let size : h.nodes ≡ length ns = omega (arith, g.number) in
        let array : nodes ≡ padded ns = g.array ∙ ap (λ (k : ℕ). ns ++ replicate (64 - k) blank) (sym g.number) in
        ap₂ (λ (k : ℕ) (xs : List Node). Ok (record { signals = h.signals; mask = m.mask; count = k; nodes = xs })) size array
        ∙ ap read_of (sym (nodes-end b h.signals m.mask p ns u) ∙ done (omega arith))
