-- The keys before and after an event, read off the arrays; and that tables which the arrays hold give the same keys, whatever else they hold.
use mathlib.Core.Path.{◌≡◌, refl, sym, ap, ap₂, ◌∙◌, subst}
use mathlib.Core.Bool.{Bool, true, false}
use mathlib.Core.List.{List}
use Prim.Native.Nat.{ℕ, ◌+◌, ◌%◌, ◌^◌, ◌≤◌, ◌<◌}
use native.Mathlib.Nat.{mod-lt}
use native.Mathlib.Decide.{ℕ_discrete, dec_lt}
use native.Mathlib.Omega.{arith}
use lib.ListN.{length, get_or, set, length-set, replicate, length-replicate, get_or-replicate, get_or-eq_default}
use lib.Seq.{get_or-set_same, get_or-set_other}
use lib.Dec.{leb}
use lib.Pow.{pow_pos, pow_mono}
use borrow.Author.Tests.{lt-leb, le-leb}
use Rattle.ltl.specs.Sets.{on, set_below}
use Rattle.ltl.specs.Residuals.{preimage, rule_true, start_from, step_from}
use Rattle.ltl.specs.Keys.{Tables, look, start_key, step_key}
use Rattle.ltl.proofs.Sets.{on_out, on-set, same-members, set-lt, set_same}
use Rattle.ltl.specs.Arrays.{TablesIn}
use Rattle.profile_sets.specs.Arrays.{set_in, Marked, tables_by, tables_in, Tabled, Steppable}
use Rattle.profile_sets.proofs.Words.{set_past}

-- ---- a set that an array holds, profile by profile

pub marked-none : {f : ℕ → Bool} {bits : List Bool} → length bits ≡ 256 → Marked 0 f bits
marked-none e = record { long = e; at = λ q l. absurd (omega arith) }

pub marked_more : {p : ℕ} {f : ℕ → Bool} {bits : List Bool} {b : Bool} → Marked p f bits → p < 256 → b ≡ f p → Marked (p + 1) f (set bits p b)
marked_more {p} {f} {bits} {b} h l e = record { long = length-set bits p b ∙ h.long; at = λ q m. go q m (ℕ_discrete q p) }
  where
    go : (q : ℕ) → q < p + 1 → Dec (q ≡ p) → get_or (set bits p b) q false ≡ f q
    go q m (yes r) = ap (λ (n : ℕ). get_or (set bits p b) n false) r ∙ get_or-set_same bits p b false (omega (arith, h.long)) ∙ e ∙ ap f (sym r)
    go q m (no r) = get_or-set_other bits p q b false r ∙ h.at q (omega arith)

pub marked-to : {p : ℕ} {f : ℕ → Bool} {bits : List Bool} (m : ℕ) → Marked p f bits → m ≤ p → Marked m f bits
marked-to m h l = record { long = h.long; at = λ q k. h.at q (omega arith) }

set-marked : (n : ℕ) (f : ℕ → Bool) (bits : List Bool) → Marked 256 f bits → n ≤ 256 → ((p : ℕ) → n ≤ p → p < 256 → f p ≡ false) → set_in bits ≡ set_below n f
unfolding set_in
set-marked n f bits m l h = set_same 256 (λ p. get_or bits p false) f m.at ∙ set_past n 256 f l h

pub on-set-in : (whole : List Bool) (p : ℕ) → p < 256 → on (set_in whole) p ≡ get_or whole p false
unfolding set_in
on-set-in whole p l = on-set 256 (λ p. get_or whole p false) p l

-- ---- before any event

pub marked-starts : (n : ℕ) (whole : List Bool) → Marked n (rule_true n (set_in whole)) (replicate 256 false)
marked-starts n whole = record {
  long = length-replicate 256 false;
  at = λ p l. get_or-none p ∙ sym (ap (λ (b : Bool). elim b [ true ↦ on (set_in whole) p | false ↦ false ]) (lt-leb n p l));
}
  where
    get_or-none : (p : ℕ) → get_or (replicate 256 false) p false ≡ false
    get_or-none p = go (dec_lt p 256)
      where
        go : Dec (p < 256) → get_or (replicate 256 false) p false ≡ false
        go (yes l) = get_or-replicate 256 p false false l
        go (no l) = get_or-eq_default (replicate 256 false) false {n = p} (omega (arith, length-replicate 256 false))

pub starts_from : (n : ℕ) (whole : List Bool) (p : ℕ) → p < 256 → n ≤ p → get_or whole p false ≡ rule_true n (set_in whole) p
starts_from n whole p m l = sym (ap (λ (b : Bool). elim b [ true ↦ on (set_in whole) p | false ↦ false ]) (le-leb n p l) ∙ on-set-in whole p m)

module _ {w n : ℕ} {profiles : List (List ℕ)} {whole : List Bool} (h : Tabled w n profiles whole) where
  pub start_is : (bits : List Bool) → Marked 256 (rule_true n (set_in whole)) bits → set_in bits ≡ start_key (tables_in n profiles whole)
  start_is bits k = set-marked (n + n) (rule_true n (set_in whole)) bits k (omega (arith, h.few)) (λ p l m. out p (leb n p) (h.past p l))
    where
      out : (p : ℕ) (b : Bool) → on (set_in whole) p ≡ false → elim b [ true ↦ on (set_in whole) p | false ↦ false ] ≡ false
      out p true e = e
      out p false e = refl

-- ---- after one event more

module _ {w m n : ℕ} {profiles : List (List ℕ)} {W : ℕ} (h : Steppable w m n profiles W) where
  pub labels-few : n ≤ 128
  labels-few = subst (λ (x : ℕ). x ≤ 128) (sym h.labels) (pow_mono {i = m} {j = 7} h.few)

  -- the labels that fill two words
  pub labels-two : 32 < n → ¬ (n ≡ 64) → n ≡ 128
  labels-two l k = go (dec_lt m 6) (ℕ_discrete m 6)
    where
      go : Dec (m < 6) → Dec (m ≡ 6) → n ≡ 128
      go (yes a) b = let s : 2 ^ m ≤ 2 ^ 5 = pow_mono {i = m} {j = 5} (omega arith) in absurd (omega (arith, h.labels))
      go (no a) (yes b) = absurd (k (h.labels ∙ ap (λ (x : ℕ). 2 ^ x) b))
      go (no a) (no b) = let e : m ≡ 7 = omega (arith, h.few) in h.labels ∙ ap (λ (x : ℕ). 2 ^ x) e

  -- the profile before a profile at an event
  pub profile-small : (e p : ℕ) → e < w → look profiles e (p % n) < n + n
  profile-small e p l = h.small e (p % n) l (mod-lt p (subst (λ (x : ℕ). 1 ≤ x) (sym h.labels) (pow_pos m)))

  -- the step looks at no more of a set than its array of bools has
  pub step-held : (A e : ℕ) {held : List Bool} → Marked (n + n) (on A) held → e < w → step_key (tables_by n profiles W) (set_in held) e ≡ step_key (tables_by n profiles W) A e
  step-held A e {held} marked l = set_same (n + n) (preimage n (look profiles) W (set_in held) e) (preimage n (look profiles) W A e) each
    where
      each : (p : ℕ) → p < n + n → preimage n (look profiles) W (set_in held) e p ≡ preimage n (look profiles) W A e p
      each p m =
          let q : ℕ = look profiles e (p % n) in
          let s : q < n + n = profile-small e p l in
          ap (λ (b : Bool). elim (on W p) [ true ↦ b | false ↦ false ]) (on-set-in held q (omega (arith, labels-few)) ∙ marked.at q s)

-- ---- tables that the arrays hold

module _ {w n : ℕ} {t : Tables} {profiles : List (List ℕ)} {whole : List Bool} (h : TablesIn w n t profiles whole) where
  pub whole_is : set_in whole ≡ t.whole
  unfolding set_in
  whole_is = same-members (set_in whole) t.whole (λ p. go p (dec_lt p 256))
    where
      go : (p : ℕ) → Dec (p < 256) → on (set_in whole) p ≡ on t.whole p
      go p (yes l) = on-set-in whole p l ∙ h.member p l
      go p (no l) = on_out (set_in whole) 256 p (set-lt 256 (λ p. get_or whole p false)) (omega arith) ∙ sym (h.past p (omega (arith, h.few)))

  pub tabled : Tabled w n profiles whole
  unfolding set_in
  tabled = record {
    labels = refl;
    some = h.some;
    few = h.few;
    profile = λ e y l m. refl;
    small = h.small;
    member = λ p l. sym (on-set-in whole p l);
    past = λ p l. ap (λ (A : ℕ). on A p) whole_is ∙ h.past p l;
  }

  pub start-same : start_key (tables_in n profiles whole) ≡ start_key t
  start-same = ap₂ start_from (sym h.labels) whole_is

  pub step_same : (A e : ℕ) → e < w → step_key (tables_in n profiles whole) A e ≡ step_key t A e
  step_same A e l =
      ap (λ (W : ℕ). step_from n (look profiles) W A e) whole_is
      ∙ set_same (n + n) (preimage n (look profiles) t.whole A e) (preimage n (look t.profiles) t.whole A e)
      (λ p m. ap (λ (q : ℕ). elim (on t.whole p) [ true ↦ on A q | false ↦ false ]) (h.profile e (p % n) l (mod-lt p h.some)))
      ∙ ap (λ (k : ℕ). step_from k (look t.profiles) t.whole A e) (sym h.labels)

  pub steppable : w ≤ 16 → (m : ℕ) → m ≤ 7 → n ≡ 2 ^ m → {W : ℕ} → W ≡ set_in whole → Steppable w m n profiles W
  steppable k m l q {W} e = record { narrow = k; few = l; labels = q; small = h.small; past = λ p l. ap (λ (A : ℕ). on A p) (e ∙ whole_is) ∙ h.past p l }
