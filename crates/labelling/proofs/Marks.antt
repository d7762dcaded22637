-- The marks are the set of profiles that crate ltl computes.
use mathlib.Core.Path.{◌≡◌, refl, sym, subst}
use mathlib.Core.Bool.{Bool, true, false}
use mathlib.Core.List.{List}
use Prim.Native.Nat.{ℕ, ◌^◌}
use lib.ListN.{replicate, get_or-replicate}
use lib.Dec.{T, eqb, eqb→eq, eqb_refl}
use Rattle.meaning.specs.Traces.{Alphabet, masked}
use Rattle.ltl.specs.Sets.{on, some_below, union_below, some_event}
use Rattle.ltl.specs.Residuals.{profile_from, whole_of}
use Rattle.ltl.proofs.Truth.{t-equal}
use Rattle.ltl.proofs.Sets.{single-in, in-single}
use Rattle.ltl.proofs.Searches.{both, both-cases, only, only-cases, some→, →some, in-union, union-in, some-event→, →some-event, in-events, events-in}
use Rattle.labelling.specs.Marks.{AllMarked}

-- before any event nothing is marked
pub all_none : (mask : ℕ) {n : ℕ} {profiles : List (List ℕ)} {real : List Bool} → AllMarked (masked 0 mask) n profiles real (replicate 256 false)
all_none mask = record { long = refl; is = λ p h. get_or-replicate 256 p false false h }

-- ---- the set of profiles

module _ (Σ : Alphabet) (n : ℕ) (profile : ℕ → ℕ → ℕ) (R p : ℕ) where
  -- the label y, one of R, gives the profile p
  abbrev pub gives : ℕ → ℕ → Bool
  gives e y = elim (on R y) [ true ↦ eqb (profile e y) p | false ↦ false ]

  pub marks-on : some_event Σ (λ e. some_below n (gives e)) ≡ on (whole_of Σ n profile R) p
  marks-on = t-equal (some_event Σ (λ e. some_below n (gives e))) (on (whole_of Σ n profile R) p) into out
    where
      into : T (some_event Σ (λ e. some_below n (gives e))) → T (on (whole_of Σ n profile R) p)
      into t =
          let s = some-event→ Σ (λ e. some_below n (gives e)) t in
          let e = s.event in
          let v = some→ n (gives e) s.test in
          let y = v.index in
          let q = both-cases (on R y) (eqb (profile e y) p) v.test in
          events-in Σ (λ e. union_below n (profile_from profile R e)) p e s.possible
          (union-in n (profile_from profile R e) p y v.below
          (only (on R y) (2 ^ profile e y) p q.0 (subst (λ (i : ℕ). T (on (2 ^ profile e y) i)) (eqb→eq (profile e y) p q.1) (single-in (profile e y)))))

      out : T (on (whole_of Σ n profile R) p) → T (some_event Σ (λ e. some_below n (gives e)))
      out t =
          let s = in-events Σ (λ e. union_below n (profile_from profile R e)) p t in
          let e = s.event in
          let v = in-union n (profile_from profile R e) p s.test in
          let y = v.index in
          let q = only-cases (on R y) (2 ^ profile e y) p v.test in
          →some-event Σ (λ e. some_below n (gives e)) e s.possible
          (→some n (gives e) y v.below (both (on R y) (eqb (profile e y) p) q.0 (subst (λ (i : ℕ). T (eqb (profile e y) i)) (sym (in-single (profile e y) p q.1)) (eqb_refl (profile e y)))))
