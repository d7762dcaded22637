-- A rule that is read from a file has 1 to 4 signals, an event that can happen, and 1 to 64 nodes, at most 7 of them temporal.
use mathlib.Core.Path.{◌≡◌, refl, sym, subst, subst₂}
use mathlib.Core.Logic.{◌≢◌}
use mathlib.Core.List.{List, [], ◌∷◌, ◌++◌}
use mathlib.Core.Bool.{Bool, true, false, cond, not, ◌&&◌}
use Prim.Native.Nat.{ℕ, zero, suc, ◌+◌, ◌^◌, ◌≤◌, ◌<◌}
use native.Mathlib.Omega.{arith}
use lib.ListN.{length, get_or, length-append}
use lib.Dec.{ltb, leb, eqb}
use lib.Pow.{pow_pos, pow_mono}
use borrow.Author.Tests.{leb-true, leb-false, eqb-false, not-false}
use Rattle.meaning.specs.Bytes.{u16_at}
use Rattle.meaning.specs.Traces.{masked, full_mask}
use Rattle.meaning.specs.RuleFiles.{Rule, alphabet_of, first_of, frame_checks, header_of, reading_of, Judgement, Accepted, Refused, length_fits, temporal, temporals, node_at, operands_fit, ranges_fit, mask_of, nodes_from, body_from, judge}
use Rattle.meaning.specs.declared.Node.{Node}
use Rattle.meaning.specs.declared.Header.{Header}
use Rattle.meaning.specs.declared.Refusal.{Refusal}
use Rattle.meaning.specs.declared.Refusal.TheVariants.{WrongSignals, WrongCount, WrongOperand, OutOfRange, EighthTemporal, TrailingBytes, NoEvent}
use Rattle.events.proofs.Masks.{in-mask}
use Rattle.smallest.proofs.Judgements.{Live}
use Rattle.std.proofs.Common.{Result, Ok, Err}
use Rattle.meaning.specs.declared.Mask.{Mask}

pub record Signals (P : ℕ) : Type 0 where
  pub low : 1 ≤ P
  pub high : P ≤ 4

-- none of the checks refused
abbrev Clear : List (Bool × Refusal) → Type 0
Clear [] = Unit {0}
Clear (c ∷ cs) = (c.0 ≡ false) × Clear cs

module _ {A : Type 0} (refuse : Refusal → A) (y : A) (never : (r : Refusal) → refuse r ≡ y → ⊥) where
  passes : (cs : List (Bool × Refusal)) (x : A) → first_of refuse cs x ≡ y → (x ≡ y) × Clear cs
  passes [] x e = (e, tt)
  passes (c ∷ cs) x e = go c.0 refl (passes cs x) e
    where
      go : (t : Bool) → c.0 ≡ t → (first_of refuse cs x ≡ y → (x ≡ y) × Clear cs) → cond t (refuse c.1) (first_of refuse cs x) ≡ y → (x ≡ y) × Clear (c ∷ cs)
      go true q r e = absurd (never c.1 e)
      go false q r e = let z = r e in (z.0, (q, z.1))

and-true : (a b : Bool) → a && b ≡ true → (a ≡ true) × (b ≡ true)
and-true true true e = (refl, refl)
and-true true false e = (refl, e)
and-true false b e = let z : ◌≡◌ {A = ℕ} 0 1 = cc in absurd (omega arith)

-- those of the first record
abbrev header_checks : List ℕ → List (Bool × Refusal)
header_checks b =
    frame_checks b 0 (eqb (u16_at b 2) 256) (eqb (u16_at b 0) 4)
    ++ ((not (leb 1 (get_or b 4 0) && leb (get_or b 4 0) 4), WrongSignals)
    ∷ (not (leb 1 (get_or b 5 0) && leb (get_or b 5 0) 64), WrongCount)
    ∷ [])

-- what an accepted first record says
pub record HeaderFits (h : Header) : Type 0 where
  pub signals : Signals h.signals
  pub some : 1 ≤ h.nodes
  pub few : h.nodes ≤ 64

pub header-counts : (b : List ℕ) (h : Header) → header_of b ≡ Ok h → HeaderFits h
unfolding header_of
header-counts b h e =
    subst HeaderFits same
    (record {
      signals = record { low = leb-true 1 (get_or b 4 0) t.0; high = leb-true (get_or b 4 0) 4 t.1 };
      some = leb-true 1 (get_or b 5 0) u.0;
      few = leb-true (get_or b 5 0) 64 u.1;
    })
  where
    checked : (◌≡◌ {A = Result Header Refusal} (Ok (record { signals = get_or b 4 0; nodes = get_or b 5 0 })) (Ok h)) × Clear (header_checks b)
    checked = passes Err (Ok h) (λ r q. let z : ◌≡◌ {A = ℕ} 0 1 = cc in omega arith) (header_checks b) (Ok (record { signals = get_or b 4 0; nodes = get_or b 5 0 })) e

    same : record { signals = get_or b 4 0; nodes = get_or b 5 0 } ≡ h
    same = cc checked.0

    t : (leb 1 (get_or b 4 0) ≡ true) × (leb (get_or b 4 0) 4 ≡ true)
    t = and-true (leb 1 (get_or b 4 0)) (leb (get_or b 4 0) 4) (not-false (leb 1 (get_or b 4 0) && leb (get_or b 4 0) 4) checked.1.1.1.1.1.1.0)

    u : (leb 1 (get_or b 5 0) ≡ true) × (leb (get_or b 5 0) 64 ≡ true)
    u = and-true (leb 1 (get_or b 5 0)) (leb (get_or b 5 0) 64) (not-false (leb 1 (get_or b 5 0) && leb (get_or b 5 0) 64) checked.1.1.1.1.1.1.1.0)

-- a mask that is not 0, with no bit too high, has an event
masked-live : (P m : ℕ) → m < 2 ^ 2 ^ P → m ≢ 0 → Live (masked (2 ^ P) m)
masked-live P m l q = let e = in-mask (2 ^ P) m l q in record { event = e.event; possible = (e.low, rw e.on tt) }

pub full-live : (P : ℕ) → Live (masked (2 ^ P) (full_mask P))
full-live P = masked-live P (full_mask P) (omega (arith, pow_pos (2 ^ P))) (λ z. omega (arith, z, two-le P))
  where
    two-le : (P : ℕ) → 2 ≤ 2 ^ 2 ^ P
    two-le P = pow_mono {i = 1} {j = 2 ^ P} (pow_pos P)

-- those of the mask's record
abbrev mask_checks : List ℕ → ℕ → List (Bool × Refusal)
mask_checks b P =
    frame_checks b 6 true (eqb (u16_at b 6) 4)
    ++ ((leb (2 ^ 2 ^ P) (u16_at b 10), OutOfRange 6)
    ∷ (eqb (u16_at b 10) 0, NoEvent 6)
    ∷ [])

-- an accepted mask has an event
mask-live : (b : List ℕ) (P : ℕ) (m : Mask) → mask_of b P ≡ Ok m → Live (masked (2 ^ P) m.mask)
unfolding mask_of
mask-live b P m e = go (eqb (u16_at b 8) 257) e
  where
    second : Mask
    second = record { mask = u16_at b 10; nodes_at = 12 }

    there : first_of Err (mask_checks b P) (Ok second) ≡ Ok m → Live (masked (2 ^ P) m.mask)
    there e =
        let z = passes {A = Result Mask Refusal} Err (Ok m) (λ r q. let z : ◌≡◌ {A = ℕ} 0 1 = cc in omega arith) (mask_checks b P) (Ok second) e in
        let c = z.1.1.1.1.1.1 in
        let same : second ≡ m = cc z.0 in
        subst (λ (n : Mask). Live (masked (2 ^ P) n.mask)) same (masked-live P (u16_at b 10) (leb-false (2 ^ 2 ^ P) (u16_at b 10) c.0) (eqb-false (u16_at b 10) 0 c.1.0))

    go : (t : Bool) → cond t (first_of Err (mask_checks b P) (Ok second)) (Ok (record { mask = full_mask P; nodes_at = 6 })) ≡ Ok m → Live (masked (2 ^ P) m.mask)
    go true e = there e
    go false e =
        let same : record { mask = full_mask P; nodes_at = 6 } ≡ m = cc e in
        subst (λ (n : Mask). Live (masked (2 ^ P) n.mask)) same (full-live P)

-- a node that is read is no eighth temporal one
node-checks : (b : List ℕ) (P p number seen : ℕ) → List (Bool × Refusal)
node-checks b P p number seen =
    let n = node_at b p in
    frame_checks b p (leb n.kind 13) (length_fits n.kind (u16_at b p))
    ++ ((not (operands_fit number n), WrongOperand p)
    ∷ (not (ranges_fit P n), OutOfRange p)
    ∷ (temporal n.kind && leb 7 seen, EighthTemporal p)
    ∷ [])

node-temporal : (b : List ℕ) (P p number seen : ℕ) (n : Node) → reading_of b P p number seen ≡ Ok n → seen ≤ 7 → cond (temporal n.kind) 1 0 + seen ≤ 7
unfolding reading_of node-checks
node-temporal b P p number seen n e l = go (temporal n.kind) refl
  where
    checked : (◌≡◌ {A = Result Node Refusal} (Ok (node_at b p)) (Ok n)) × Clear (node-checks b P p number seen)
    checked = passes Err (Ok n) (λ r q. let z : ◌≡◌ {A = ℕ} 0 1 = cc in omega arith) (node-checks b P p number seen) (Ok (node_at b p)) e

    same : node_at b p ≡ n
    same = cc checked.0

    last : temporal n.kind && leb 7 seen ≡ false
    last = subst (λ (m : Node). temporal m.kind && leb 7 seen ≡ false) same checked.1.1.1.1.1.1.1.1.0

    go : (t : Bool) → temporal n.kind ≡ t → cond t 1 0 + seen ≤ 7
    go true q = let f : leb 7 seen ≡ false = rw q at last in let h : seen < 7 = leb-false 7 seen f in omega arith
    go false q = omega arith

temporals-snoc : (ns : List Node) (n : Node) → temporals (ns ++ (n ∷ [])) ≡ cond (temporal n.kind) 1 0 + temporals ns
temporals-snoc [] n = refl
temporals-snoc (m ∷ ns) n = let h = temporals-snoc ns n in omega arith

-- what an accepted rule has, where k nodes were still to be read after the earlier ones
pub record Has (P m k : ℕ) (r : Rule) : Type 0 where
  pub signals : r.signals ≡ P
  pub mask : r.mask ≡ m
  pub nodes : length r.nodes ≡ k
  pub temporal : temporals r.nodes ≤ 7

pub has-from : (k : ℕ) (b : List ℕ) (P m p : ℕ) (earlier : List Node) (r : Rule) → nodes_from k b P m p earlier ≡ Accepted r → temporals earlier ≤ 7 → Has P m (k + length earlier) r
unfolding nodes_from
has-from zero b P m p earlier r e l = go (ltb p (length b)) e
  where
    go : (t : Bool) → cond t (Refused (TrailingBytes p)) (Accepted (record { signals = P; mask = m; nodes = earlier })) ≡ Accepted r → Has P m (0 + length earlier) r
    go true e = let z : ◌≡◌ {A = ℕ} 0 1 = cc in absurd (omega arith)
    go false e =
        let q : record { signals = P; mask = m; nodes = earlier } ≡ r = cc in
        subst (Has P m (0 + length earlier)) q (record { signals = refl; mask = refl; nodes = omega arith; temporal = l })
has-from (suc k) b P m p earlier r e l = go (reading_of b P p (length earlier) (temporals earlier)) refl (λ n. has-from k b P m (p + 2 + u16_at b p) (earlier ++ (n ∷ [])) r) e
  where
    go : (x : Result Node Refusal) → reading_of b P p (length earlier) (temporals earlier) ≡ x
        → ((n : Node) → nodes_from k b P m (p + 2 + u16_at b p) (earlier ++ (n ∷ [])) ≡ Accepted r → temporals (earlier ++ (n ∷ [])) ≤ 7 → Has P m (k + length (earlier ++ (n ∷ []))) r)
        → elim x as (λ _. Judgement) [ Ok n ↦ nodes_from k b P m (p + 2 + u16_at b p) (earlier ++ (n ∷ [])) | Err r ↦ Refused r ] ≡ Accepted r → Has P m (suc k + length earlier) r
    go (Ok n) q ih e =
        let h = ih n e (rw (temporals-snoc earlier n) (node-temporal b P p (length earlier) (temporals earlier) n q l)) in
        let c : k + length (earlier ++ (n ∷ [])) ≡ suc k + length earlier = (let d = length-append earlier (n ∷ []) in omega arith) in
        subst (λ (i : ℕ). Has P m i r) c h
    go (Err y) q ih e = let z : ◌≡◌ {A = ℕ} 0 1 = cc in absurd (omega arith)

pub record Formed (r : Rule) : Type 0 where
  pub signals : Signals r.signals
  pub live : Live (alphabet_of r)
  pub some : 1 ≤ length r.nodes
  pub few : length r.nodes ≤ 64
  pub temporal : temporals r.nodes ≤ 7

body-formed : (b : List ℕ) (h : Header) (r : Rule) → HeaderFits h → body_from h.nodes b h.signals ≡ Accepted r → Formed r
unfolding body_from
body-formed b h r c e = go (mask_of b h.signals) refl e
  where
    go : (x : Result Mask Refusal) → mask_of b h.signals ≡ x
        → elim x as (λ _. Judgement) [ Ok m ↦ nodes_from h.nodes b h.signals m.mask m.nodes_at [] | Err r ↦ Refused r ] ≡ Accepted r → Formed r
    go (Ok m) q e =
        let f = has-from h.nodes b h.signals m.mask m.nodes_at [] r e (omega arith) in
        record {
          signals = subst Signals (sym f.signals) c.signals;
          live = subst₂ (λ (P n : ℕ). Live (masked (2 ^ P) n)) (sym f.signals) (sym f.mask) (mask-live b h.signals m q);
          some = omega (arith, f.nodes, c.some);
          few = omega (arith, f.nodes, c.few);
          temporal = f.temporal;
        }
    go (Err y) q e = let z : ◌≡◌ {A = ℕ} 0 1 = cc in absurd (omega arith)

pub accepted-formed : (b : List ℕ) (r : Rule) → judge b ≡ Accepted r → Formed r
unfolding judge
accepted-formed b r e = go (header_of b) refl e
  where
    go : (x : Result Header Refusal) → header_of b ≡ x → elim x as (λ _. Judgement) [ Ok h ↦ body_from h.nodes b h.signals | Err r ↦ Refused r ] ≡ Accepted r → Formed r
    go (Ok h) q e = body-formed b h r (header-counts b h q) e
    go (Err y) q e = let z : ◌≡◌ {A = ℕ} 0 1 = cc in absurd (omega arith)

pub accepted-signals : (b : List ℕ) (r : Rule) → judge b ≡ Accepted r → Signals r.signals
accepted-signals b r e = (accepted-formed b r e).signals
