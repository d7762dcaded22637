-- A walk that closed: the monitor made of its rows stands, after every word, on the state whose access word leaves the same remaining
-- property, and two states' access words never do.
use mathlib.Core.Path.{◌≡◌, sym, subst}
use mathlib.Core.Logic.{◌↔◌}
use mathlib.Core.List.{List, [], ◌∷◌, ◌++◌, append-nil, append_assoc}
use Prim.Native.Nat.{ℕ, ◌≤◌, ◌<◌}
use lib.ListN.{length, get_or}
use lib.Dec.{T}
use Rattle.meaning.specs.Traces.{Alphabet, Event, Word}
use Rattle.meaning.specs.Verdicts.{Property, NoneSatisfies, AllSatisfy, SameResidual}
use Rattle.meaning.specs.Monitors.{follow, BreadthFirst}
use Rattle.meaning.specs.declared.Verdict.{Verdict}
use Rattle.residuals.specs.System.{key_after, System}
use Rattle.walk.specs.Explore.{monitor_with}
use Rattle.walk.proofs.Residual.{same_refl, same-sym, same-trans, same-append, none-carries, all-carries}

module _ {Σ : Alphabet} {L : Property} (S : System Σ L) where
  pub record Closed (limit : ℕ) (keys : List S.Key) (rows : List (List ℕ)) : Type 0 where
    pub some : 0 < length keys
    pub few : length keys ≤ limit
    pub count : length rows ≡ length keys
    pub width : (s : ℕ) → s < length keys → length (get_or rows s []) ≡ Σ.width
    pub inside : (s e : ℕ) → s < length keys → e < Σ.width → get_or (get_or rows s []) e 0 < length keys
    pub access : ℕ → List ℕ
    pub access-start : access 0 ≡ []
    pub word : (i : ℕ) → i < length keys → Word Σ (access i)
    pub key : (i : ℕ) → i < length keys → get_or keys i S.start ≡ key_after S.step S.start (access i)
    pub leads : (s e : ℕ) → s < length keys → Event Σ e → SameResidual Σ L (access s ++ (e ∷ [])) (access (get_or (get_or rows s []) e 0))
    pub differ : (i j : ℕ) → i < j → j < length keys → ¬ SameResidual Σ L (access i) (access j)
    pub order : (verdict : ℕ → Verdict) → BreadthFirst Σ (monitor_with rows verdict)

  module _ {limit : ℕ} {keys : List S.Key} {rows : List (List ℕ)} (C : Closed limit keys rows) (verdict : ℕ → Verdict) where
    -- from a state whose access word leaves what u leaves
    from-state : (u w : List ℕ) (s : ℕ) → s < length keys → Word Σ w → SameResidual Σ L u (C.access s)
        → (follow (monitor_with rows verdict) s w < length keys) × SameResidual Σ L (u ++ w) (C.access (follow (monitor_with rows verdict) s w))
    from-state u [] s l a h = (l, rw append-nil h)
    from-state u (e ∷ w) s l a h =
        let t : ℕ = get_or (get_or rows s []) e 0 in
        let k : SameResidual Σ L (u ++ (e ∷ [])) (C.access t) =
        same-trans Σ L (u ++ (e ∷ [])) (C.access s ++ (e ∷ [])) (C.access t) (same-append Σ L u (C.access s) (e ∷ []) (a.0, tt) h) (C.leads s e l a.0) in
        let r = from-state (u ++ (e ∷ [])) w t (C.inside s e l a.0.0) a.1 k in
        (r.0, subst (λ (v : List ℕ). SameResidual Σ L v (C.access (follow (monitor_with rows verdict) t w))) (append_assoc u (e ∷ []) w) r.1)

    after-start : (w : List ℕ) → Word Σ w
        → (follow (monitor_with rows verdict) 0 w < length keys) × SameResidual Σ L w (C.access (follow (monitor_with rows verdict) 0 w))
    after-start w a = from-state [] w 0 C.some a (subst (λ (v : List ℕ). SameResidual Σ L [] v) (sym C.access-start) (same_refl Σ L []))

    -- after a word the monitor stands on one of its states,
    pub stands-in : (w : List ℕ) → Word Σ w → follow (monitor_with rows verdict) 0 w < length keys
    stands-in w a = (after-start w a).0

    -- whose access word leaves the same remaining property
    pub stands_same : (w : List ℕ) → Word Σ w → SameResidual Σ L w (C.access (follow (monitor_with rows verdict) 0 w))
    stands_same w a = (after-start w a).1

    -- the key of the state on which it stands decides both verdicts
    pub empty-after : (w : List ℕ) → Word Σ w → T (S.empty (get_or keys (follow (monitor_with rows verdict) 0 w) S.start)) ↔ NoneSatisfies Σ L w
    empty-after w a =
        let t : ℕ = follow (monitor_with rows verdict) 0 w in
        let l : t < length keys = stands-in w a in
        let h : SameResidual Σ L w (C.access t) = stands_same w a in
        let e : T (S.empty (get_or keys t S.start)) ↔ NoneSatisfies Σ L (C.access t) = rw (C.key t l) (S.empty_is (C.access t) (C.word t l)) in
        (λ x. none-carries Σ L (C.access t) w (same-sym Σ L w (C.access t) h) (e.0 x), λ x. e.1 (none-carries Σ L w (C.access t) h x))

    pub full-after : (w : List ℕ) → Word Σ w → T (S.full (get_or keys (follow (monitor_with rows verdict) 0 w) S.start)) ↔ AllSatisfy Σ L w
    full-after w a =
        let t : ℕ = follow (monitor_with rows verdict) 0 w in
        let l : t < length keys = stands-in w a in
        let h : SameResidual Σ L w (C.access t) = stands_same w a in
        let e : T (S.full (get_or keys t S.start)) ↔ AllSatisfy Σ L (C.access t) = rw (C.key t l) (S.full_is (C.access t) (C.word t l)) in
        (λ x. all-carries Σ L (C.access t) w (same-sym Σ L w (C.access t) h) (e.0 x), λ x. e.1 (all-carries Σ L w (C.access t) h x))
