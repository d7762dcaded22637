-- A written rule file reads back: it is accepted, and says the rule that was written.
use mathlib.Core.Path.{◌≡◌, refl, sym, ap, ap₂, ◌∙◌, subst}
use mathlib.Core.List.{List, [], ◌∷◌, ◌++◌, append_assoc, append-nil}
use mathlib.Core.Bool.{Bool, true, false, cond, not, ◌&&◌, true≢false}
use Prim.Native.Nat.{ℕ, zero, suc, ◌+◌, ◌-◌, ◌≤◌, ◌<◌}
use native.Mathlib.Omega.{arith}
use lib.ListN.{length, get_or, take, length-append}
use lib.Seq.{get_or-append-add, length-take-le, append_snoc}
use lib.Dec.{leb, eqb}
use borrow.Author.Tests.{leb-true, eqb-true, eq-eqb, le-ltb, le-leb, lt-leb}
use Rattle.meaning.specs.Bytes.{u16_at}
use Rattle.meaning.specs.Traces.{full_mask}
use Rattle.meaning.specs.RuleFiles.{Rule, Accepted, body_length, length_fits, upper_at, operands_fit, ranges_fit, temporal, temporals, first_of, frame_checks, header_of, mask_of, node_at, reading_of, nodes_from, judge}
use Rattle.meaning.specs.RuleTexts.{node_bytes, nodes_bytes, rule_bytes, any_out_of_range}
use Rattle.meaning.specs.declared.Node.{Node}
use Rattle.meaning.specs.declared.Refusal.{Refusal}
use Rattle.meaning.specs.declared.Refusal.TheVariants.{WrongOperand, OutOfRange, EighthTemporal}
use Rattle.rule_nodes.specs.Shapes.{node_of}
use Rattle.rule_nodes.proofs.Ranges.{Each, within}
use Rattle.rule_records.proofs.Checks.{Cleared, fails_at, first-none}
use Rattle.rule_records.proofs.Records.{header_checks}
use Rattle.rule_records.proofs.Masks.{mask-absent}
use Rattle.rule_file.proofs.Nodes.{temporals-more, nodes-more, nodes-end, judged}
use Rattle.rule_bytes.specs.WellFormed.{Formed, AllFormed, WellFormed}
use Rattle.std.proofs.Common.{Ok, Err}

-- a list of checks, none of which fails
cleared : (cs : List (Bool × Refusal)) → Each (λ j. fails_at cs j ≡ false) 0 (length cs) → Cleared cs (length cs)
cleared cs e = record { none = λ j l. within (λ j. fails_at cs j ≡ false) 0 (length cs) e j (omega arith) (omega arith) }

-- ---- the first record

header-back : (P N : ℕ) (rest : List ℕ) → 1 ≤ P → P ≤ 4 → 1 ≤ N → N ≤ 64
    → header_of (4 ∷ 0 ∷ 0 ∷ 1 ∷ P ∷ N ∷ rest) ≡ Ok (record { signals = P; nodes = N })
unfolding header_of
header-back P N rest a b c d =
    let file : List ℕ = 4 ∷ 0 ∷ 0 ∷ 1 ∷ P ∷ N ∷ rest in
    first-none Err (Ok (record { signals = P; nodes = N })) (header_checks file)
    (cleared (header_checks file) (
      le-ltb (length file - 0) 2 (omega arith),
      (
        refl,
        (
          le-ltb (length file - 0) 6 (omega arith),
          (refl, (refl, (rw (le-leb 1 P a, le-leb P 4 b), (rw (le-leb 1 N c, le-leb N 64 d), tt)))),
        ),
      ),
    ))

-- ---- a node's record

-- a body has at most two bytes
pub body-few : (k : ℕ) → k ≤ 13 → body_length k ≤ 2
body-few k h = leb-true (body_length k) 2 (within (λ k. leb (body_length k) 2 ≡ true) 0 14 (search depth 20) k (omega arith) (omega arith))

-- the bytes of a body of m bytes, 0 where it has none
first_byte : (m a b : ℕ) (rest : List ℕ) → (m < 1 → a ≡ 0) → cond (leb 1 m) (get_or (take m (a ∷ b ∷ []) ++ rest) 0 0) 0 ≡ a
first_byte zero a b rest h = sym (h (omega arith))
first_byte (suc m) a b rest h = rw (le-leb 1 (suc m) (omega arith))

second-byte : (m a b : ℕ) (rest : List ℕ) → (m < 2 → b ≡ 0) → cond (leb 2 m) (get_or (take m (a ∷ b ∷ []) ++ rest) 1 0) 0 ≡ b
second-byte zero a b rest h = sym (h (omega arith))
second-byte (suc zero) a b rest h = sym (h (omega arith))
second-byte (suc (suc m)) a b rest h = rw (le-leb 2 (suc (suc m)) (omega arith))

-- the upper count in a record that has as many bytes as its kind asks for
upper-none : (k x : ℕ) → cond (eqb k 3) (cond (eqb (2 + body_length k) 5) x 4) 0 ≡ cond (eqb k 3) 4 0
upper-none k x = go (eqb k 3) refl
  where
    go : (t : Bool) → eqb k 3 ≡ t → cond t (cond (eqb (2 + body_length k) 5) x 4) 0 ≡ cond t 4 0
    go true q = ap (λ (i : ℕ). cond (eqb (2 + body_length i) 5) x 4) (eqb-true k 3 q)
    go false q = refl

not-eighth : (t : Bool) (seen : ℕ) → seen + cond t 1 0 ≤ 7 → (t && leb 7 seen) ≡ false
not-eighth true seen h = lt-leb 7 seen (omega arith)
not-eighth false seen h = refl

pub node-length : (n : Node) → n.kind ≤ 13 → length (node_bytes n) ≡ 4 + body_length n.kind
node-length n h = omega (arith, length-take-le (body_length n.kind) (n.a ∷ n.b ∷ []) (body-few n.kind h))

-- the record of n after the bytes in front of it
module _ (front rest : List ℕ) (n : Node) where
  abbrev file : List ℕ
  file = front ++ (node_bytes n ++ rest)

  byte-back : (j i : ℕ) → i ≡ length front + j → get_or file i 0 ≡ get_or (node_bytes n ++ rest) j 0
  byte-back j i e = ap (λ (k : ℕ). get_or file k 0) e ∙ get_or-append-add front (node_bytes n ++ rest) j 0

  length_back : u16_at file (length front) ≡ 2 + body_length n.kind
  length_back = omega (arith, byte-back 0 (length front) (omega arith), byte-back 1 (length front + 1) refl)

  kind-back : u16_at file (length front + 2) ≡ n.kind
  kind-back = omega (arith, byte-back 2 (length front + 2) refl, byte-back 3 (length front + 2 + 1) (omega arith))

  module _ {i : ℕ} (h : Formed i n) where
    room : length file ≡ length front + (4 + body_length n.kind + length rest)
    room = omega (arith, length-append front (node_bytes n ++ rest), length-append (node_bytes n) rest, node-length n h.kind)

    node-back : node_at file (length front) ≡ n
    node-back = ap₂ (node_of file (length front)) kind-back length_back ∙ (λ i. record { kind = n.kind; a = a i; b = b i; upper = upper i })
      where
        a : cond (leb 1 (body_length n.kind)) (get_or file (length front + 4) 0) 0 ≡ n.a
        a = rw (byte-back 4 (length front + 4) refl) (first_byte (body_length n.kind) n.a n.b rest (λ l. h.unused_a (omega arith)))

        b : cond (leb 2 (body_length n.kind)) (get_or file (length front + 5) 0) 0 ≡ n.b
        b = rw (byte-back 5 (length front + 5) refl) (second-byte (body_length n.kind) n.a n.b rest (λ l. h.unused_b (omega arith)))

        upper : upper_at file (length front) n.kind (2 + body_length n.kind) ≡ n.upper
        upper = upper-none n.kind (get_or file (length front + 6) 0) ∙ sym h.upper_unsaid

    -- it is read as n where n has the number i, over P signals, after so many temporal nodes
    reading-back : (P seen : ℕ) → ranges_fit P n ≡ true → seen + cond (temporal n.kind) 1 0 ≤ 7 → reading_of file P (length front) i seen ≡ Ok n
    unfolding reading_of
    reading-back P seen e l =
        ap (λ (m : Node). first_of Err (checks m) (Ok m)) node-back
        ∙ first-none Err (Ok n) (checks n) (cleared (checks n) (
          le-ltb (length file - p) 2 (omega (arith, room)),
          (
            le-ltb (u16_at file p) 2 (omega (arith, length_back)),
            (
              le-ltb (length file - p) (2 + u16_at file p) (omega (arith, room, length_back)),
              (
                ap not (le-leb n.kind 13 h.kind),
                (
                  rw (eq-eqb (u16_at file p) (2 + body_length n.kind) length_back),
                  (ap not h.operands, (ap not e, (not-eighth (temporal n.kind) seen l, tt))),
                ),
              ),
            ),
          ),
        ))
      where
        p : ℕ
        p = length front

        checks : Node → List (Bool × Refusal)
        checks m =
            frame_checks file p (leb m.kind 13) (length_fits m.kind (u16_at file p))
            ++ ((not (operands_fit i m), WrongOperand p) ∷ (not (ranges_fit P m), OutOfRange p) ∷ (temporal m.kind && leb 7 seen, EighthTemporal p) ∷ [])

-- ---- all nodes

in-range-first : (P : ℕ) (n : Node) (ns : List Node) → any_out_of_range P (n ∷ ns) ≡ false → (ranges_fit P n ≡ true) × (any_out_of_range P ns ≡ false)
unfolding any_out_of_range
in-range-first P n ns e = go (ranges_fit P n) refl
  where
    go : (t : Bool) → ranges_fit P n ≡ t → (ranges_fit P n ≡ true) × (any_out_of_range P ns ≡ false)
    go true q = (q, rw q at e)
    go false q = absurd (true≢false (rw q at e))

-- the nodes ns after the earlier ones, their records after the bytes in front of them
nodes-back : (P m : ℕ) (ns : List Node) (front : List ℕ) (earlier : List Node) → AllFormed (length earlier) ns → any_out_of_range P ns ≡ false
    → temporals earlier + temporals ns ≤ 7
    → nodes_from (length ns) (front ++ nodes_bytes ns) P m (length front) earlier ≡ Accepted (record { signals = P; mask = m; nodes = earlier ++ ns })
unfolding nodes_bytes
nodes-back P m [] front earlier h e l =
    nodes-end (front ++ []) P m (length front) earlier (omega (arith, length-append front []))
    ∙ ap (λ (ns : List Node). Accepted (record { signals = P; mask = m; nodes = ns })) (sym (append-nil earlier))
nodes-back P m (n ∷ ns) front earlier h e l =
    let here = in-range-first P n ns e in
    let more : List ℕ = front ++ node_bytes n in
    let later : List Node = earlier ++ (n ∷ []) in
    let number : suc (length earlier) ≡ length later = omega (arith, length-append earlier (n ∷ [])) in
    let place : length front + 2 + u16_at (front ++ (node_bytes n ++ nodes_bytes ns)) (length front) ≡ length more =
    omega (arith, length_back front (nodes_bytes ns) n, length-append front (node_bytes n), node-length n h.0.kind) in
    nodes-more (front ++ (node_bytes n ++ nodes_bytes ns)) P m (length front) earlier (length ns) n
    (reading-back front (nodes_bytes ns) n h.0 P (temporals earlier) here.0 (omega arith))
    ∙ ap₂ (λ (b : List ℕ) (p : ℕ). nodes_from (length ns) b P m p later) (sym (append_assoc front (node_bytes n) (nodes_bytes ns))) place
    ∙ nodes-back P m ns more later (subst (λ (i : ℕ). AllFormed i ns) number h.1) here.1 (omega (arith, temporals-more earlier n))
    ∙ ap (λ (ns : List Node). Accepted (record { signals = P; mask = m; nodes = ns })) (append_snoc earlier n ns)

-- the kind of the first node, whose record is at 6, is not the mask's
mask-back : (P m : ℕ) (front : List ℕ) (n : Node) (rest : List ℕ) → length front ≡ 6 → n.kind ≤ 13 → m ≡ full_mask P
    → mask_of (front ++ (node_bytes n ++ rest)) P ≡ Ok (record { mask = m; nodes_at = 6 })
mask-back P m front n rest e h q =
    let file : List ℕ = front ++ (node_bytes n ++ rest) in
    let kind : u16_at file 8 ≡ n.kind = ap (λ (i : ℕ). u16_at file (i + 2)) (sym e) ∙ kind-back front rest n in
    sym (mask-absent file P m (λ k. omega arith) q)

-- a well-formed rule's file is accepted, and says this rule
all_back : (P m : ℕ) (ns : List Node) → WellFormed (record { signals = P; mask = m; nodes = ns })
    → judge (rule_bytes (record { signals = P; mask = m; nodes = ns })) ≡ Accepted (record { signals = P; mask = m; nodes = ns })
unfolding rule_bytes nodes_bytes
all_back P m [] h = absurd (omega (arith, h.count_low))
all_back P m (n ∷ ns) h =
    let N : ℕ = suc (length ns) in
    let front : List ℕ = 4 ∷ 0 ∷ 0 ∷ 1 ∷ P ∷ N ∷ [] in
    judged (front ++ nodes_bytes (n ∷ ns)) (record { signals = P; nodes = N })
    (header-back P N (nodes_bytes (n ∷ ns)) (omega (arith, h.signals_low)) (omega (arith, h.signals_high)) (omega (arith, h.count_low)) (omega (arith, h.count_high)))
    (record { mask = m; nodes_at = 6 }) (mask-back P m front n (nodes_bytes ns) refl h.formed.0.kind (omega (arith, h.mask_unsaid)))
    ∙ nodes-back P m (n ∷ ns) front [] h.formed h.in_range (omega (arith, h.temporal_few))

pub reads-back : (r : Rule) → WellFormed r → judge (rule_bytes r) ≡ Accepted r
reads-back r h = all_back r.signals r.mask r.nodes h
