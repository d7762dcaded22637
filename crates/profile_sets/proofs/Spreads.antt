-- The bits of a word put into an array, one after the other.
use mathlib.Core.Path.{◌≡◌, sym, ap, ◌∙◌}
use mathlib.Core.Bool.{Bool, false}
use mathlib.Core.List.{List}
use Prim.Native.Nat.{ℕ, ◌+◌, ◌-◌, ◌/◌, ◌^◌, ◌<◌}
use native.Mathlib.Nat.{pow-suc, div-div-eq-div-mul}
use native.Mathlib.Numerals.{add-one}
use native.Mathlib.Omega.{arith}
use native.Mathlib.Decide.{ℕ_discrete, dec_lt}
use lib.ListN.{get_or, set, length-set}
use lib.Seq.{get_or-set_same, get_or-set_other}
use Rattle.ltl.specs.Sets.{on}
use Rattle.profile_sets.specs.Arrays.{Marked, SpreadFrom}

-- one bit less of a word is left
pub left-more : (word i rest : ℕ) → rest ≡ word / 2 ^ i → rest / 2 ≡ word / 2 ^ (i + 1)
left-more word i rest e = ap (λ (r : ℕ). r / 2) e ∙ div-div-eq-div-mul word (2 ^ i) 2 ∙ ap (λ (d : ℕ). word / d) (sym (pow-suc 2 i)) ∙ ap (λ (k : ℕ). word / 2 ^ k) (sym (add-one i))

module _ {word from : ℕ} {old : List Bool} where
  pub spread-more : {n : ℕ} {new : List Bool} (b : Bool) → SpreadFrom n word from old new → from + n < 256 → b ≡ on word n → SpreadFrom (n + 1) word from old (set new (from + n) b)
  spread-more {n} {new} b h l e = record {
    long = length-set new (from + n) b ∙ h.long;
    before = λ q m. get_or-set_other new (from + n) q b false (omega (arith, m)) ∙ h.before q m;
    bits = λ i m. go i m (ℕ_discrete i n);
  }
    where
      go : (i : ℕ) → i < n + 1 → Dec (i ≡ n) → get_or (set new (from + n) b) (from + i) false ≡ on word i
      go i m (yes r) = ap (λ (k : ℕ). get_or (set new (from + n) b) (from + k) false) r ∙ get_or-set_same new (from + n) b false (omega (arith, h.long, l)) ∙ e ∙ ap (λ (k : ℕ). on word k) (sym r)
      go i m (no r) = get_or-set_other new (from + n) (from + i) b false (omega (arith, r)) ∙ h.bits i (omega (arith, m, r))

-- n bits more of a set
pub marked-word : {f : ℕ → Bool} {old new : List Bool} (n p word m : ℕ) → Marked p f old → SpreadFrom n word p old new → ((i : ℕ) → i < n → f (p + i) ≡ on word i) → p + n ≡ m → Marked m f new
marked-word {f} {old} {new} n p word m h s each e = record { long = s.long; at = λ q l. go q l (dec_lt q p) }
  where
    go : (q : ℕ) → q < m → Dec (q < p) → get_or new q false ≡ f q
    go q l (yes a) = s.before q a ∙ h.at q a
    go q l (no a) =
        let i = q - p in
        let r : p + i ≡ q = omega (arith, a) in
        ap (λ (k : ℕ). get_or new k false) (sym r) ∙ s.bits i (omega (arith, a, l, e)) ∙ sym (each i (omega (arith, a, l, e))) ∙ ap f r
