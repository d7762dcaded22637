-- "For LTL the verdicts are the same as over all infinite traces": a lasso is an infinite trace, on which truth is
-- decided, and every infinite trace has a twin among the lassos.
use mathlib.Core.Path.{◌≡◌, refl, subst}
use mathlib.Core.Logic.{◌↔◌, inl, inr}
use mathlib.Core.List.{List, [], ◌∷◌, ◌++◌}
use Prim.Native.Nat.{ℕ, zero, suc, ◌+◌, ◌-◌}
use lib.ListN.{length}
use Rattle.meaning.specs.Traces.{Alphabet, Word, Lasso, at, prepend, Continuation}
use Rattle.meaning.specs.Formulas.{Formula, Sat, Holds}
use Rattle.meaning.specs.Verdicts.{Property, NoneSatisfies, AllSatisfy, NeverDecided, Judged, SameResidual, MoreThan}
use Rattle.meaning.specs.Monitors.{Monitor, shows, ShowsVerdicts}
use Rattle.meaning.specs.RuleFiles.{Rule, rule_formula, alphabet_of, property_of}
use Rattle.meaning.specs.Demands.{Demand2, Demand3, Demands}
use Rattle.meaning.specs.declared.Verdict.{Verdict}
use Rattle.meaning.specs.declared.Verdict.TheVariants.{Undecided, Satisfied, Violated, Moot}
use Rattle.ltl.specs.Nodes.{splits}
use Rattle.ltl.proofs.Truth.{iff-trans, iff-sym}
use Rattle.ltl.proofs.Deciding.{stable}
use Rattle.ltl.proofs.Shift.{shift-iff}
use Rattle.ltl.proofs.Decidable.{dec_holds}
use Rattle.ltl.proofs.Instance.{made-tabulates, root_is, ltl_system}
use Rattle.smallest.specs.Builder.{Built as BuiltBy}
use Rattle.building.proofs.Right.{our-demands}
use Rattle.infinite.specs.Infinite.{Continuation∞, prepend∞, Property∞, property_of∞}
use Rattle.infinite.specs.Infinite.{NoneSatisfies∞, AllSatisfy∞, NeverDecided∞, Judged∞, SameResidual∞, MoreThan∞}
use Rattle.infinite.specs.Infinite.{ShowsVerdicts∞, SameOverAll, Demand2∞, Demand3∞, Demands∞}
use Rattle.infinite.proofs.Twins.{twin}

-- ---- a lasso is an infinite trace

prepend-at : (w : List ℕ) (ρ : Lasso) (i : ℕ) → prepend∞ w (at ρ) i ≡ at (prepend w ρ) i
prepend-at [] ρ i = refl
prepend-at (e ∷ w) ρ zero = refl
prepend-at (e ∷ w) ρ (suc i) = prepend-at w ρ i

holds_at : (f : Formula) (w : List ℕ) (ρ : Lasso) → Sat (prepend∞ w (at ρ)) f 0 ↔ Holds (prepend w ρ) 0 f
holds_at f w ρ = shift-iff f (record { same = λ k. prepend-at w ρ (0 + k) })

-- ---- what the theorem needs of a property

-- a lasso that is in the property after the same lists as σ
record PropertyTwin (Σ : Alphabet) (L : Property) (L∞ : Property∞) (σ : ℕ → ℕ) : Type 0 where
  lasso : Lasso
  continuation : Continuation Σ lasso
  same : (w : List ℕ) → L∞ (prepend∞ w σ) ↔ L (prepend w lasso)

record Twinned (Σ : Alphabet) (L : Property) (L∞ : Property∞) : Type 0 where
  of-lasso : (w : List ℕ) (ρ : Lasso) → L∞ (prepend∞ w (at ρ)) ↔ L (prepend w ρ)
  decide : (ρ : Lasso) → Dec (L ρ)
  twin : (σ : ℕ → ℕ) → Continuation∞ Σ σ → ¬ ¬ PropertyTwin Σ L L∞ σ

twinned : (r : Rule) → Twinned (alphabet_of r) (property_of r) (property_of∞ r)
unfolding property_of
twinned r = record {
  of-lasso = holds_at (rule_formula r);
  decide = λ ρ. dec_holds ρ (rule_formula r) 0;
  twin = λ σ c g. twin (made-tabulates (alphabet_of r) (splits r.nodes)) σ c (λ t. g (record {
    lasso = t.lasso;
    continuation = t.continuation;
    same = λ w. subst (λ (f : Formula). Sat (prepend∞ w σ) f 0 ↔ Holds (prepend w t.lasso) 0 f) (root_is r.nodes)
        (t.same w (length (splits r.nodes) - 1));
  }));
}

not_iff : {A B : Type 0} → A ↔ B → (¬ A) ↔ (¬ B)
not_iff e = (λ n b. n (e.1 b), λ n a. n (e.0 a))

module _ {Σ : Alphabet} {L : Property} {L∞ : Property∞} (t : Twinned Σ L L∞) where
  -- ---- verdicts

  none-iff : (w : List ℕ) → NoneSatisfies Σ L w ↔ NoneSatisfies∞ Σ L∞ w
  unfolding NoneSatisfies NoneSatisfies∞
  none-iff w = (
    λ f σ c s. t.twin σ c (λ x. f x.lasso x.continuation ((x.same w).0 s)),
    λ f ρ c h. f (at ρ) c ((t.of-lasso w ρ).1 h),
  )

  none-fails : (w : List ℕ) → AllSatisfy Σ L w → (σ : ℕ → ℕ) → Continuation∞ Σ σ → ¬ ¬ L∞ (prepend∞ w σ)
  unfolding AllSatisfy
  none-fails w f σ c n = t.twin σ c (λ x. n ((x.same w).1 (f x.lasso x.continuation)))

  all-iff : (w : List ℕ) → AllSatisfy Σ L w ↔ AllSatisfy∞ Σ L∞ w
  unfolding AllSatisfy AllSatisfy∞
  all-iff w = (
    λ f σ c. none-fails w f σ c,
    λ f ρ c. stable (t.decide (prepend w ρ)) (λ n. f (at ρ) c (λ s. n ((t.of-lasso w ρ).0 s))),
  )

  every-iff : (w : List ℕ) → ((σ : ℕ → ℕ) → Continuation∞ Σ σ → Dec (L∞ (prepend∞ w σ)))
      → AllSatisfy Σ L w ↔ ((σ : ℕ → ℕ) → Continuation∞ Σ σ → L∞ (prepend∞ w σ))
  unfolding AllSatisfy∞
  every-iff w d = iff-trans (all-iff w) (λ f σ c. stable (d σ c) (f σ c), λ f σ c n. n (f σ c))

  never-iff : (w : List ℕ) → NeverDecided Σ L w ↔ NeverDecided∞ Σ L∞ w
  unfolding NeverDecided NeverDecided∞
  never-iff w = (
    λ f v h. ((not_iff (none-iff (w ++ v))).0 (f v h).0, (not_iff (all-iff (w ++ v))).0 (f v h).1),
    λ f v h. ((not_iff (none-iff (w ++ v))).1 (f v h).0, (not_iff (all-iff (w ++ v))).1 (f v h).1),
  )

  judged-iff : (w : List ℕ) (v : Verdict) → Judged Σ L w v ↔ Judged∞ Σ L∞ w v
  judged-iff w Violated = none-iff w
  judged-iff w Satisfied = all-iff w
  judged-iff w Moot = never-iff w
  judged-iff w Undecided = (
    λ x. ((not_iff (none-iff w)).0 x.0, (not_iff (all-iff w)).0 x.1, (not_iff (never-iff w)).0 x.2),
    λ x. ((not_iff (none-iff w)).1 x.0, (not_iff (all-iff w)).1 x.1, (not_iff (never-iff w)).1 x.2),
  )

  shows-iff : (m : Monitor) → ShowsVerdicts Σ L m ↔ ShowsVerdicts∞ Σ L∞ m
  unfolding ShowsVerdicts ShowsVerdicts∞
  shows-iff m =
      (λ f w p. (judged-iff w (shows m w)).0 (f w p), λ f w p. (judged-iff w (shows m w)).1 (f w p))

  -- ---- remaining properties

  -- of a lasso, from u to v
  same-lasso : (u v : List ℕ) (ρ : Lasso) → ¬ ¬ (L∞ (prepend∞ u (at ρ)) → L∞ (prepend∞ v (at ρ)))
      → L (prepend u ρ) → L (prepend v ρ)
  same-lasso u v ρ f h =
      stable (t.decide (prepend v ρ)) (λ n. f (λ e. n ((t.of-lasso v ρ).0 (e ((t.of-lasso u ρ).1 h)))))

  same-iff : (u v : List ℕ) → SameResidual Σ L u v ↔ SameResidual∞ Σ L∞ u v
  unfolding SameResidual SameResidual∞
  same-iff u v = (
    λ f σ c n. t.twin σ c (λ x.
        n (iff-trans (x.same u) (iff-trans (f x.lasso x.continuation) (iff-sym (x.same v))))),
    λ f ρ c. (
      same-lasso u v ρ (λ n. f (at ρ) c (λ e. n e.0)),
      same-lasso v u ρ (λ n. f (at ρ) c (λ e. n e.1)),
    ),
  )

  more-iff : (n : ℕ) → MoreThan Σ L n ↔ MoreThan∞ Σ L∞ n
  more-iff n = (
    λ m. record {
      list = m.list;
      word = m.word;
      differ = λ i j p q s. m.differ i j p q ((same-iff (m.list i) (m.list j)).1 s);
    },
    λ m. record {
      list = m.list;
      word = m.word;
      differ = λ i j p q s. m.differ i j p q ((same-iff (m.list i) (m.list j)).0 s);
    },
  )

pub same-over-all : (r : Rule) → SameOverAll r
same-over-all r =
    let t = twinned r in
    record {
      none = none-iff t;
      all = all-iff t;
      judged = judged-iff t;
      same = same-iff t;
      more = more-iff t;
      every = every-iff t;
    }

-- ---- the demands

-- two rules have the same verdicts over lassos exactly if over all infinite traces
same-verdicts : (r r' : Rule)
    → ((w : List ℕ) → Word (alphabet_of r) w → (v : Verdict)
    → Judged (alphabet_of r) (property_of r) w v ↔ Judged (alphabet_of r') (property_of r') w v)
    ↔ ((w : List ℕ) → Word (alphabet_of r) w → (v : Verdict)
    → Judged∞ (alphabet_of r) (property_of∞ r) w v ↔ Judged∞ (alphabet_of r') (property_of∞ r') w v)
same-verdicts r r' =
    let t = judged-iff (twinned r) in
    let t' = judged-iff (twinned r') in (
      λ f w p v. iff-trans (iff-sym (t w v)) (iff-trans (f w p v) (t' w v)),
      λ f w p v. iff-trans (t w v) (iff-trans (f w p v) (iff-sym (t' w v))),
    )

module _ {Built : List ℕ → List ℕ → Type 0} {file : List ℕ} {rule : Rule} where
  pub demand_2∞ : Demand2 Built file rule → Demand2∞ Built file rule
  demand_2∞ d =
      let t = twinned rule in
      record {
        verdicts = λ table b w p v. iff-trans (d.verdicts table b w p v) (judged-iff t w v);
        built_or_many = elim d.built_or_many [ inl b ↦ inl b | inr m ↦ inr ((more-iff t 256).0 m) ];
        not_both = λ table b m. d.not_both table b ((more-iff t 256).1 m);
      }

  pub demand_3∞ : {table : List ℕ} → Demand3 Built file rule table → Demand3∞ Built file rule table
  demand_3∞ d =
      let t = twinned rule in
      record {
        form = d.form;
        signals = d.signals;
        events = d.events;
        order = d.order;
        verdicts = (shows-iff t _).0 d.verdicts;
        smallest = λ m o s. d.smallest m o ((shows-iff t m).1 s);
        unique = λ m o s e. d.unique m o ((shows-iff t m).1 s) e;
        canonical = λ f' r' t' p b s m. iff-trans (d.canonical f' r' t' p b s m) (same-verdicts rule r');
      }

pub demands∞ : {Built : List ℕ → List ℕ → Type 0} → Demands Built → Demands∞ Built
demands∞ d = record {
  demand_2 = λ file rule reads. demand_2∞ (d.demand_2 file rule reads);
  demand_3 = λ file rule table reads b. demand_3∞ (d.demand_3 file rule table reads b);
}

-- of our builder
pub our-demands∞ : Demands∞ (BuiltBy ltl_system)
our-demands∞ = demands∞ our-demands
