-- The profile of a lasso: its label at 0 with the rule's truth there on top. `whole_set` holds the profiles of all continuations and no others.
use mathlib.Core.Path.{◌≡◌, sym, ap, ap₂, ◌∙◌, subst}
use mathlib.Core.Bool.{Bool}
use mathlib.Core.List.{List, [], ◌∷◌}
use Prim.Native.Nat.{ℕ, zero, suc, ◌+◌, ◌-◌, ◌%◌, ◌^◌, ◌<◌}
use native.Mathlib.Nat.{zero-add, pow-suc}
use native.Mathlib.Omega.{arith}
use lib.ListN.{length}
use lib.Dec.{T}
use Rattle.meaning.specs.Traces.{Alphabet, Event, Lasso, at, prepend, Continuation}
use Rattle.meaning.specs.Formulas.{Formula}
use Rattle.ltl.specs.Sets.{on, put, union_below}
use Rattle.ltl.specs.Nodes.{Split, temporals, operand, split_formulas}
use Rattle.ltl.specs.Valuation.{valued}
use Rattle.ltl.specs.Realizable.{realizable}
use Rattle.ltl.specs.Residuals.{before, profile_from, whole_set}
use Rattle.ltl.proofs.Sets.{put-lt, single-in, in-single}
use Rattle.ltl.proofs.Searches.{only, only-cases, in-union, union-in, in-events, events-in}
use Rattle.ltl.proofs.Truth.{iff-trans, t-eq}
use Rattle.ltl.proofs.Shift.{Agree, shift-iff}
use Rattle.ltl.proofs.Decidable.{dec_holds}
use Rattle.ltl.proofs.Labels.{truth, truth-right, value-right}
use Rattle.ltl.proofs.Lassos.{label_of, label-of-lt, label_same, label-of-step, label-realizable}
use Rattle.ltl.proofs.Realized.{realized}
use Rattle.ltl.proofs.Tables.{Tabulates, profile-valued, put-mod}

-- the rule: the last node's formula
abbrev pub root : List Split → Formula
root ns = operand (split_formulas [] ns) (length ns - 1)

abbrev pub root_of : Lasso → List Split → ℕ → Bool
root_of ρ ns i = truth (at ρ) (dec_holds ρ) (root ns) i

abbrev pub lasso_profile : Lasso → List Split → ℕ
lasso_profile ρ ns = put (temporals ns) (root_of ρ ns 0) (label_of ρ ns 0)

pub lasso-profile-lt : (ρ : Lasso) (ns : List Split) → lasso_profile ρ ns < 2 ^ temporals ns + 2 ^ temporals ns
lasso-profile-lt ρ ns = omega (arith, put-lt (temporals ns) (root_of ρ ns 0) (label_of ρ ns 0) (label-of-lt ρ ns 0), pow-suc 2 (temporals ns))

pub lasso-profile-label : (ρ : Lasso) (ns : List Split) → lasso_profile ρ ns % 2 ^ temporals ns ≡ label_of ρ ns 0
lasso-profile-label ρ ns = put-mod (temporals ns) (root_of ρ ns 0) (label_of ρ ns 0) (label-of-lt ρ ns 0)

root-step : (ρ : Lasso) (ns : List Split) → root_of ρ ns 0 ≡ on (valued (at ρ 0) (label_of ρ ns 1) ns).values (length ns - 1)
root-step ρ ns = t-eq _ _ (truth-right (at ρ) (dec_holds ρ) (root ns) 0) (value-right (at ρ) (dec_holds ρ) ns 0 (length ns - 1))

-- ---- one event before a lasso

abbrev pub after : ℕ → Lasso → Lasso
after e ρ = prepend (e ∷ []) ρ

agree_after : (e : ℕ) (ρ : Lasso) → Agree (at (after e ρ)) 1 (at ρ) 0
agree_after e ρ = record { same = λ k. let p : 1 + k ≡ suc k = omega arith in rw (p, zero-add) }

label_after : (e : ℕ) (ρ : Lasso) (ns : List Split) → label_of (after e ρ) ns 1 ≡ label_of ρ ns 0
label_after e ρ ns =
    label_same (after e ρ) ρ ns 1 0
    (λ f. t-eq _ _ (truth-right (at (after e ρ)) (dec_holds (after e ρ)) f 1) (iff-trans (shift-iff f (agree_after e ρ)) (truth-right (at ρ) (dec_holds ρ) f 0)))

pub continuation-after : (Σ : Alphabet) (e : ℕ) (ρ : Lasso) → Event Σ e → Continuation Σ ρ → Continuation Σ (after e ρ)
continuation-after Σ e ρ h c zero = h
continuation-after Σ e ρ h c (suc i) = c i

module _ {Σ : Alphabet} {ns : List Split} {profile fair : ℕ → ℕ → ℕ} (table : Tabulates Σ ns profile fair) where
  -- the profile of a lasso, by its first event and the label of its rest
  profile-of-first : (ρ : Lasso) → Event Σ (at ρ 0) → lasso_profile ρ ns ≡ profile (at ρ 0) (label_of ρ ns 1)
  profile-of-first ρ h =
      let e = at ρ 0 in let y = label_of ρ ns 1 in
      ap₂ (λ (b : Bool) (x : ℕ). put (temporals ns) b x)
      (root-step ρ ns) (sym (label-of-step ρ ns 0))
      ∙ sym (table.profile-is e y h (label-of-lt ρ ns 1) ∙ profile-valued e y ns)

  pub profile-after : (e : ℕ) (ρ : Lasso) → Event Σ e → lasso_profile (after e ρ) ns ≡ profile e (label_of ρ ns 0)
  profile-after e ρ h = profile-of-first (after e ρ) h ∙ ap (profile e) (label_after e ρ ns)

  abbrev whole : ℕ
  whole = whole_set Σ (2 ^ temporals ns) profile (temporals ns) fair

  abbrev labels : ℕ
  labels = realizable Σ (2 ^ temporals ns) (before (2 ^ temporals ns) profile) fair (temporals ns)

  pub whole-complete : (ρ : Lasso) → Continuation Σ ρ → T (on whole (lasso_profile ρ ns))
  unfolding whole_set
  whole-complete ρ c =
      let e = at ρ 0 in let y = label_of ρ ns 1 in let p = lasso_profile ρ ns in
      events-in Σ (λ e. union_below (2 ^ temporals ns) (profile_from profile labels e)) p e (c 0)
      (union-in (2 ^ temporals ns) (profile_from profile labels e) p y (label-of-lt ρ ns 1)
      (only (on labels y) (2 ^ profile e y) p (label-realizable table ρ c 1)
      (subst (λ (q : ℕ). T (on (2 ^ profile e y) q)) (sym (profile-of-first ρ (c 0))) (single-in (profile e y)))))

  -- a continuation with the profile p
  pub record Placed (p : ℕ) : Type 0 where
    pub lasso : Lasso
    pub continuation : Continuation Σ lasso
    pub is : lasso_profile lasso ns ≡ p

  pub whole-sound : (p : ℕ) → T (on whole p) → Placed p
  unfolding whole_set
  whole-sound p t =
      let s = in-events Σ (λ e. union_below (2 ^ temporals ns) (profile_from profile labels e)) p t in
      let e = s.event in
      let v = in-union (2 ^ temporals ns) (profile_from profile labels e) p s.test in
      let y = v.index in
      let q = only-cases (on labels y) (2 ^ profile e y) p v.test in
      let r = realized table y q.0 in
      record {
        lasso = after e r.lasso;
        continuation = continuation-after Σ e r.lasso s.possible r.continuation;
        is = profile-after e r.lasso s.possible ∙ ap (profile e) r.is ∙ sym (in-single (profile e y) p q.1);
      }

  pub whole_below : (p : ℕ) → T (on whole p) → p < 2 ^ temporals ns + 2 ^ temporals ns
  whole_below p t = let r = whole-sound p t in subst (λ (q : ℕ). q < 2 ^ temporals ns + 2 ^ temporals ns) r.is (lasso-profile-lt r.lasso ns)
