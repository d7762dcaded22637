-- The set of profiles after a list of events says of each continuation whether, put after the list, it satisfies the rule.
-- So it is empty, whole, or equal to another list's exactly if no continuation satisfies the rule, all do, or the two lists leave the same residual.
use mathlib.Core.Path.{◌≡◌, sym, ap, ◌∙◌, subst}
use mathlib.Core.Logic.{◌↔◌}
use mathlib.Core.Bool.{Bool, true, false}
use mathlib.Core.List.{List, [], ◌∷◌, ◌++◌, append_assoc, append-nil}
use Prim.Native.Nat.{ℕ, ◌+◌, ◌%◌, ◌^◌, ◌≤◌, ◌<◌}
use native.Mathlib.Omega.{arith}
use lib.Dec.{T, leb, leb→le, le→leb}
use Rattle.meaning.specs.Traces.{Alphabet, Event, Word, Lasso, at, prepend, Continuation}
use Rattle.meaning.specs.Formulas.{Holds}
use Rattle.meaning.specs.Verdicts.{Property, NoneSatisfies, AllSatisfy, SameResidual}
use Rattle.residuals.specs.System.{key_after}
use Rattle.ltl.specs.Sets.{on, put}
use Rattle.ltl.specs.Nodes.{Split, temporals}
use Rattle.ltl.specs.Residuals.{preimage, step_from, rule_true, start_from, whole_set}
use Rattle.ltl.proofs.Sets.{on-zero, same-members, in-set, set-in}
use Rattle.ltl.proofs.Searches.{both, both-cases}
use Rattle.ltl.proofs.Truth.{t-equal}
use Rattle.ltl.proofs.Decidable.{dec_holds}
use Rattle.ltl.proofs.Labels.{truth-right}
use Rattle.ltl.proofs.Lassos.{label_of, label-of-lt}
use Rattle.ltl.proofs.Tables.{Tabulates}
use Rattle.ltl.proofs.Profiles.{root, root_of, lasso_profile, lasso-profile-lt, lasso-profile-label, after, continuation-after, profile-after, whole-complete, whole-sound}

prepend-snoc : (u : List ℕ) (e : ℕ) (ρ : Lasso) → prepend (u ++ (e ∷ [])) ρ ≡ prepend u (after e ρ)
prepend-snoc u e ρ = λ i. record { stem = append_assoc u (e ∷ []) ρ.stem i; loop = ρ.loop; non_empty = ρ.non_empty }

-- the top bit of a profile is the rule's truth
top_bit : (m : ℕ) (b : Bool) (x : ℕ) → x < 2 ^ m → T (leb (2 ^ m) (put m b x)) ↔ T b
top_bit m true x h = (λ t. tt, λ t. le→leb (2 ^ m) (x + 2 ^ m) (omega arith))
top_bit m false x h = (λ t. let l : 2 ^ m ≤ x = leb→le (2 ^ m) x t in absurd (omega arith), λ t. absurd t)

module _ {Σ : Alphabet} {ns : List Split} {profile fair : ℕ → ℕ → ℕ} (table : Tabulates Σ ns profile fair) where
  abbrev n : ℕ
  n = 2 ^ temporals ns

  abbrev whole : ℕ
  whole = whole_set Σ n profile (temporals ns) fair

  abbrev start : ℕ
  start = start_from n whole

  abbrev step : ℕ → ℕ → ℕ
  step A e = step_from n profile whole A e

  abbrev Rule : Property
  Rule ρ = Holds ρ 0 (root ns)

  -- the set A stands for what is left after u
  pub record Means (A : ℕ) (u : List ℕ) : Type 0 where
    pub in_whole : (p : ℕ) → T (on A p) → T (on whole p)
    pub says : (ρ : Lasso) → Continuation Σ ρ → T (on A (lasso_profile ρ ns)) ↔ Rule (prepend u ρ)

  means-start : Means start []
  means-start = record {
    in_whole = λ p t. (both-cases (leb n p) (on whole p) (in-set (n + n) (rule_true n whole) p t).1).1;
    says = λ ρ c.
        let p = lasso_profile ρ ns in
        let f = truth-right (at ρ) (dec_holds ρ) (root ns) 0 in
        let g = top_bit (temporals ns) (root_of ρ ns 0) (label_of ρ ns 0) (label-of-lt ρ ns 0) in (
          λ t. f.1 (g.0 (both-cases (leb n p) (on whole p) (in-set (n + n) (rule_true n whole) p t).1).0),
          λ h. set-in (n + n) (rule_true n whole) p (lasso-profile-lt ρ ns) (both (leb n p) (on whole p) (g.1 (f.0 h)) (whole-complete table ρ c)),
        );
  }

  means-step : (A : ℕ) (u : List ℕ) (e : ℕ) → Event Σ e → Means A u → Means (step A e) (u ++ (e ∷ []))
  means-step A u e h m = record {
    in_whole = λ p t. (both-cases (on whole p) (on A (profile e (p % n))) (in-set (n + n) (preimage n profile whole A e) p t).1).0;
    says = λ ρ c.
        let p = lasso_profile ρ ns in
        let f = m.says (after e ρ) (continuation-after Σ e ρ h c) in
        let g : on A (lasso_profile (after e ρ) ns) ≡ on A (profile e (p % n)) = ap (on A) (profile-after table e ρ h ∙ ap (profile e) (sym (lasso-profile-label ρ ns))) in (
          λ t. subst Rule (sym (prepend-snoc u e ρ)) (f.0 (subst T (sym g) (both-cases (on whole p) (on A (profile e (p % n))) (in-set (n + n) (preimage n profile whole A e) p t).1).1)),
          λ t. set-in (n + n) (preimage n profile whole A e) p (lasso-profile-lt ρ ns)
              (both (on whole p) (on A (profile e (p % n))) (whole-complete table ρ c) (subst T g (f.1 (subst Rule (prepend-snoc u e ρ) t)))),
        );
  }

  means-after : (A : ℕ) (u v : List ℕ) → Word Σ v → Means A u → Means (key_after step A v) (u ++ v)
  means-after A u [] s m = rw append-nil m
  means-after A u (e ∷ v) s m = rw append_assoc at (means-after (step A e) (u ++ (e ∷ [])) v s.1 (means-step A u e s.0 m))

  pub key-means : (u : List ℕ) → Word Σ u → Means (key_after step start u) u
  key-means u s = means-after start [] u s means-start

  -- ---- verdicts
  module _ (A : ℕ) (u : List ℕ) (m : Means A u) where
    pub whole-iff : (A ≡ whole) ↔ AllSatisfy Σ Rule u
    unfolding AllSatisfy
    whole-iff = (
      λ e ρ c. (m.says ρ c).0 (subst (λ (B : ℕ). T (on B (lasso_profile ρ ns))) (sym e) (whole-complete table ρ c)),
      λ f. same-members A whole (λ p. t-equal (on A p) (on whole p) (m.in_whole p) (λ t. let r = whole-sound table p t in
          subst (λ (q : ℕ). T (on A q)) r.is ((m.says r.lasso r.continuation).1 (f r.lasso r.continuation)))),
    )

    pub empty-iff : (A ≡ 0) ↔ NoneSatisfies Σ Rule u
    unfolding NoneSatisfies
    empty-iff = (
      λ e ρ c h. subst T (on-zero (lasso_profile ρ ns)) (subst (λ (B : ℕ). T (on B (lasso_profile ρ ns))) e ((m.says ρ c).1 h)),
      λ f. same-members A 0 (λ p. t-equal (on A p) (on 0 p) (λ t. let r = whole-sound table p (m.in_whole p t) in
          absurd (f r.lasso r.continuation ((m.says r.lasso r.continuation).0 (subst (λ (q : ℕ). T (on A q)) (sym r.is) t)))) (λ t. absurd (subst T (on-zero p) t))),
    )

  -- a profile in one and not in the other would be that of a continuation that tells the two apart
  within : (A B : ℕ) (u v : List ℕ) → Means A u → Means B v → ((ρ : Lasso) → Continuation Σ ρ → Rule (prepend u ρ) → Rule (prepend v ρ)) → (p : ℕ) → T (on A p) → T (on B p)
  within A B u v m k f p t =
      let r = whole-sound table p (m.in_whole p t) in
      let ρ = r.lasso in let c = r.continuation in
      subst (λ (q : ℕ). T (on B q)) r.is ((k.says ρ c).1 (f ρ c ((m.says ρ c).0 (subst (λ (q : ℕ). T (on A q)) (sym r.is) t))))

  pub same-iff : (A B : ℕ) (u v : List ℕ) → Means A u → Means B v → (A ≡ B) ↔ SameResidual Σ Rule u v
  unfolding SameResidual
  same-iff A B u v m k = (
    λ e ρ c. (
      λ h. (k.says ρ c).0 (subst (λ (C : ℕ). T (on C (lasso_profile ρ ns))) e ((m.says ρ c).1 h)),
      λ h. (m.says ρ c).0 (subst (λ (C : ℕ). T (on C (lasso_profile ρ ns))) (sym e) ((k.says ρ c).1 h)),
    ),
    λ f. same-members A B (λ p. t-equal (on A p) (on B p) (within A B u v m k (λ ρ c. (f ρ c).0) p) (within B A v u k m (λ ρ c. (f ρ c).1) p)),
  )
