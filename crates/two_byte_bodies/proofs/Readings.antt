-- The judgement of a file is what it was, of the nodes as they are now; or it was refused at an "at least" with a third byte.
use mathlib.Core.Path.{◌≡◌, refl, sym, ap, ap₂, ◌∙◌, subst, subst₂}
use mathlib.Core.Logic.{◌⊎◌, inl, inr}
use mathlib.Core.List.{List, [], ◌∷◌, ◌++◌, map, map-append}
use mathlib.Core.Bool.{Bool, true, false, cond, not, ◌&&◌, ◌||◌}
use Prim.Native.Nat.{ℕ, zero, suc, ◌+◌}
use native.Mathlib.Omega.{arith}
use lib.ListN.{length, take, length-map}
use lib.Dec.{ltb, leb, eqb}
use borrow.Author.Tests.{eqb-true, ne_eqb}
use Rattle.meaning.specs.Bytes.{u16_at}
use Rattle.meaning.specs.RuleFiles.{body_length, length_fits, temporal, temporals, first_of, frame_checks, header_of, node_at, operands_fit, ranges_fit, reading_of, Judgement, Accepted, Refused, mask_of, nodes_from, body_from, judge}
use Rattle.meaning.specs.declared.Node.{Node}
use Rattle.meaning.specs.declared.Refusal.{Refusal}
use Rattle.meaning.specs.declared.Refusal.TheVariants.{WrongLength, WrongOperand, OutOfRange, EighthTemporal, TrailingBytes}
use Rattle.two_byte_bodies.specs.Earlier.{old_node_at, old_reading, old_nodes, old_body, old_judge}
use Rattle.two_byte_bodies.specs.Kept.{widened, widened_judgement, ThirdByte}
use Rattle.std.proofs.Common.{Result, Ok, Err}
use Rattle.meaning.specs.declared.Header.{Header}
use Rattle.meaning.specs.declared.Mask.{Mask}

abbrev kind_at : List ℕ → ℕ → ℕ
kind_at b p = u16_at b (p + 2)

-- the length of the record at p was right
abbrev WasRight : List ℕ → ℕ → Type 0
WasRight b p = u16_at b p ≡ 2 + body_length (kind_at b p)

-- ---- a node of such a length

-- a two-byte body means an upper count of 4
upper_is : (b : List ℕ) (p : ℕ) → WasRight b p → (node_at b p).upper ≡ (widened (old_node_at b p)).upper
upper_is b p h = go (eqb (kind_at b p) 3) refl
  where
    go : (t : Bool) → eqb (kind_at b p) 3 ≡ t → (node_at b p).upper ≡ (widened (old_node_at b p)).upper
    go true q =
        let four : u16_at b p ≡ 4 = subst (λ (k : ℕ). u16_at b p ≡ 2 + body_length k) (eqb-true (kind_at b p) 3 q) h in
        rw (q, ne_eqb (u16_at b p) 5 (λ five. omega arith)) (omega arith)
    go false q = rw q (omega arith)

node-is : (b : List ℕ) (p : ℕ) → WasRight b p → node_at b p ≡ widened (old_node_at b p)
node-is b p h = ap {B = Node} (λ (u : ℕ). let n = node_at b p in record { kind = n.kind; a = n.a; b = n.b; upper = u }) (upper_is b p h)

-- the upper counts, 0 as it was and 4 or 0 as it is, are in range
upper_fits : (n : Node) → leb (widened n).upper 4 ≡ true
upper_fits n = go (eqb n.kind 3) refl
  where
    go : (t : Bool) → eqb n.kind 3 ≡ t → leb (widened n).upper 4 ≡ true
    go true q = rw q
    go false q = rw q

ranges-same : (P : ℕ) (n : Node) → leb n.upper 4 ≡ true → ranges_fit P (widened n) ≡ ranges_fit P n
ranges-same P n h = rw (upper_fits n, h)

temporals-same : (ns : List Node) → temporals (map widened ns) ≡ temporals ns
temporals-same [] = refl
temporals-same (n ∷ ns) = ap (λ (k : ℕ). cond (temporal n.kind) 1 0 + k) (temporals-same ns)

-- the checks after that of the length, by whether the operands and the ranges fit
abbrev rest : ℕ → ℕ → Node → Bool → Bool → List (Bool × Refusal)
rest p seen n operands ranges = (not operands, WrongOperand p) ∷ (not ranges, OutOfRange p) ∷ (temporal n.kind && leb 7 seen, EighthTemporal p) ∷ []

abbrev later : ℕ → ℕ → List Node → Node → List (Bool × Refusal)
later P p earlier n = rest p (temporals earlier) n (operands_fit (length earlier) n) (ranges_fit P n)

later_same : (b : List ℕ) (P p : ℕ) (earlier : List Node) → WasRight b p → later P p (map widened earlier) (node_at b p) ≡ later P p earlier (old_node_at b p)
later_same b P p earlier h =
    let n = old_node_at b p in
    ap (λ (m : Node). later P p (map widened earlier) m) (node-is b p h)
    ∙ ap₂ (λ (number seen : ℕ). rest p seen n (operands_fit number n) (ranges_fit P (widened n))) (length-map earlier widened) (temporals-same earlier)
    ∙ ap (λ (t : Bool). rest p (temporals earlier) n (operands_fit (length earlier) n) t) (ranges-same P n refl)

-- ---- the nodes by their checks

-- a refusal, or what follows the node that was read
abbrev after : (Node → Judgement) → Result Node Refusal → Judgement
after f x = elim x as (λ _. Judgement) [ Ok n ↦ f n | Err r ↦ Refused r ]

after_first : (f : Node → Judgement) (cs : List (Bool × Refusal)) (n : Node) → after f (first_of Err cs (Ok n)) ≡ first_of Refused cs (f n)
after_first f [] n = refl
after_first f (c ∷ cs) n = go c.0 (after_first f cs n)
  where
    go : (t : Bool) → after f (first_of Err cs (Ok n)) ≡ first_of Refused cs (f n)
        → after f (cond t (Err c.1) (first_of Err cs (Ok n))) ≡ cond t (Refused c.1) (first_of Refused cs (f n))
    go true ih = refl
    go false ih = ih

-- all the checks of the record at p, as the length fits
abbrev checks : List ℕ → ℕ → ℕ → Bool → List Node → Node → List (Bool × Refusal)
checks b P p fits earlier n = frame_checks b p (leb n.kind 13) fits ++ later P p earlier n

nodes-are : (k : ℕ) (b : List ℕ) (P m p : ℕ) (earlier : List Node)
    → nodes_from (suc k) b P m p earlier
    ≡ first_of Refused (checks b P p (length_fits (kind_at b p) (u16_at b p)) earlier (node_at b p)) (nodes_from k b P m (p + 2 + u16_at b p) (earlier ++ (node_at b p ∷ [])))
unfolding nodes_from reading_of
nodes-are k b P m p earlier =
    after_first (λ n. nodes_from k b P m (p + 2 + u16_at b p) (earlier ++ (n ∷ []))) (checks b P p (length_fits (kind_at b p) (u16_at b p)) earlier (node_at b p)) (node_at b p)

old-nodes-are : (k : ℕ) (b : List ℕ) (P m p : ℕ) (earlier : List Node)
    → old_nodes (suc k) b P m p earlier
    ≡ first_of Refused (checks b P p (eqb (u16_at b p) (2 + body_length (kind_at b p))) earlier (old_node_at b p))
    (old_nodes k b P m (p + 4 + body_length (kind_at b p)) (earlier ++ (old_node_at b p ∷ [])))
unfolding old_nodes old_reading
old-nodes-are k b P m p earlier =
    after_first (λ n. old_nodes k b P m (p + 4 + body_length n.kind) (earlier ++ (n ∷ [])))
    (checks b P p (eqb (u16_at b p) (2 + body_length (kind_at b p))) earlier (old_node_at b p)) (old_node_at b p)

-- ---- the judgement

module _ (b : List ℕ) where
  -- a judgement as it was; or, if what it was is that of the file, the file has a third byte
  abbrev Alike : Judgement → Judgement → Type 0
  Alike new old = (new ≡ widened_judgement old) ⊎ (old_judge b ≡ old → ThirdByte b)

  -- after the same checks
  first_alike : (cs : List (Bool × Refusal)) (new old : Judgement) → Alike new old → Alike (first_of Refused cs new) (first_of Refused cs old)
  first_alike [] new old h = h
  first_alike (c ∷ cs) new old h = go c.0 (first_alike cs new old h)
    where
      go : (t : Bool) → Alike (first_of Refused cs new) (first_of Refused cs old)
          → Alike (cond t (Refused c.1) (first_of Refused cs new)) (cond t (Refused c.1) (first_of Refused cs old))
      go true ih = inl refl
      go false ih = ih

  -- after the two checks of the length at p, where those that follow are the same if the length was right
  length-alike : (p : ℕ) (cs cs' : List (Bool × Refusal)) (new old : Judgement) → (WasRight b p → (cs ≡ cs') × Alike new old)
      → Alike (first_of Refused ((not (length_fits (kind_at b p) (u16_at b p)), WrongLength p) ∷ cs) new)
      (first_of Refused ((not (eqb (u16_at b p) (2 + body_length (kind_at b p))), WrongLength p) ∷ cs') old)
  length-alike p cs cs' new old h = go (eqb l (2 + body_length k)) (eqb k 3) (eqb l (2 + 3)) refl refl refl
    where
      k : ℕ
      k = kind_at b p

      l : ℕ
      l = u16_at b p

      go : (fits three five : Bool) → eqb l (2 + body_length k) ≡ fits → eqb k 3 ≡ three → eqb l (2 + 3) ≡ five
          → Alike (cond (not (fits || (three && five))) (Refused (WrongLength p)) (first_of Refused cs new))
          (cond (not fits) (Refused (WrongLength p)) (first_of Refused cs' old))
      go true three five e q r =
          let same = h (eqb-true l (2 + body_length k) e) in
          subst (λ (ds : List (Bool × Refusal)). Alike (first_of Refused cs new) (first_of Refused ds old)) same.0 (first_alike cs new old same.1)
      go false false five e q r = inl refl
      go false true false e q r = inl refl
      go false true true e q r =
          inr (λ was. record { place = p; was = was; kind = omega (arith, eqb-true k 3 q); length = omega (arith, eqb-true l (2 + 3) r) })

  nodes-alike : (k P m p : ℕ) (earlier : List Node) → Alike (nodes_from k b P m p (map widened earlier)) (old_nodes k b P m p earlier)
  unfolding nodes_from old_nodes
  nodes-alike zero P m p earlier =
      first_alike ((ltb p (length b), TrailingBytes p) ∷ [])
      (Accepted (record { signals = P; mask = m; nodes = map widened earlier })) (Accepted (record { signals = P; mask = m; nodes = earlier })) (inl refl)
  nodes-alike (suc k) P m p earlier =
      let n = old_node_at b p in
      let old = old_nodes k b P m (p + 4 + body_length n.kind) (earlier ++ (n ∷ [])) in
      let new = nodes_from k b P m (p + 2 + u16_at b p) (map widened earlier ++ (node_at b p ∷ [])) in
      subst₂ Alike (sym (nodes-are k b P m p (map widened earlier))) (sym (old-nodes-are k b P m p earlier))
      (first_alike (take 4 (frame_checks b p (leb n.kind 13) true)) _ _
      (length-alike p _ _ new old (λ h. (
        later_same b P p earlier h,
        subst₂ (λ (q : ℕ) (ns : List Node). Alike (nodes_from k b P m q ns) old) (omega arith)
            (map-append widened earlier (n ∷ []) ∙ ap (λ (m : Node). map widened earlier ++ (m ∷ [])) (sym (node-is b p h)))
            (nodes-alike k P m (p + 4 + body_length n.kind) (earlier ++ (n ∷ []))),
      ))))

  body_alike : (k P : ℕ) → Alike (body_from k b P) (old_body k b P)
  unfolding body_from old_body
  body_alike k P = go (mask_of b P)
    where
      go : (x : Result Mask Refusal)
          → Alike (elim x as (λ _. Judgement) [ Ok m ↦ nodes_from k b P m.mask m.nodes_at [] | Err r ↦ Refused r ])
          (elim x as (λ _. Judgement) [ Ok m ↦ old_nodes k b P m.mask m.nodes_at [] | Err r ↦ Refused r ])
      go (Ok m) = nodes-alike k P m.mask m.nodes_at []
      go (Err r) = inl refl

pub readings : (file : List ℕ) → (judge file ≡ widened_judgement (old_judge file)) ⊎ ThirdByte file
unfolding judge old_judge
readings file = elim (go (header_of file)) [ inl q ↦ inl q | inr third ↦ inr (third refl) ]
  where
    go : (x : Result Header Refusal)
        → Alike file (elim x as (λ _. Judgement) [ Ok h ↦ body_from h.nodes file h.signals | Err r ↦ Refused r ])
        (elim x as (λ _. Judgement) [ Ok h ↦ old_body h.nodes file h.signals | Err r ↦ Refused r ])
    go (Ok h) = body_alike file h.nodes h.signals
    go (Err r) = inl refl
