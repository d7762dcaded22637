-- Two monitors that agree at their states and at the events that can happen: form, order, verdicts and reduction carry over.
use mathlib.Core.Path.{◌≡◌, refl, sym, ap, ap₂, ◌∙◌, subst, subst₂}
use mathlib.Core.List.{List, [], ◌∷◌, ◌++◌, map}
use Prim.Native.Nat.{ℕ, zero, suc, ◌<◌}
use Rattle.sequences.specs.Tabulate.{up_to}
use Rattle.meaning.specs.Traces.{Alphabet, Event, Word}
use Rattle.meaning.specs.Monitors.{Monitor, Over, follow, newly_met, events, walk, BreadthFirst}
use Rattle.moore.specs.Reduced.{Reduced, SameVerdicts, SameRows}
use Rattle.moore.proofs.Words.{follow-in}
use Rattle.moore.proofs.Walks.{All, all_append, map_same, events-all, turn-all}

module _ {Σ : Alphabet} {m m' : Monitor} (o : Over Σ m) (r : SameRows Σ m m') where
  back : {s : ℕ} → s < m'.states → s < m.states
  back {s} l = subst (λ (n : ℕ). s < n) (sym r.states) l

  pub over-same : Over Σ m'
  over-same = record {
    start_in = subst₂ (λ (s n : ℕ). s < n) r.start r.states o.start_in;
    next_in = λ s e l h. subst₂ (λ (t n : ℕ). t < n) (r.next s e (back l) h) r.states (o.next_in s e (back l) h);
  }

  follow-same : (s : ℕ) (w : List ℕ) → s < m.states → Word Σ w → follow m s w ≡ follow m' s w
  follow-same s [] l h = refl
  follow-same s (e ∷ w) l h = follow-same (m.next s e) w (o.next_in s e l h.0) h.1 ∙ ap (λ (t : ℕ). follow m' t w) (r.next s e l h.0)

  verdict-same : (s : ℕ) (w : List ℕ) → s < m.states → Word Σ w → m.verdict (follow m s w) ≡ m'.verdict (follow m' s w)
  verdict-same s w l h = r.verdict (follow m s w) (follow-in o s w l h) ∙ ap m'.verdict (follow-same s w l h)

  pub shows_same : SameVerdicts Σ m m'
  shows_same = record { same = λ w h. verdict-same m.start w o.start_in h ∙ ap (λ (s : ℕ). m'.verdict (follow m' s w)) r.start }

  pub reduced-same : Reduced Σ m → Reduced Σ m'
  reduced-same d = record {
    reached = record {
      access = d.reached.access;
      word = λ s l. d.reached.word s (back l);
      arrives = λ s l.
          let w = d.reached.access s in
          ap (λ (t : ℕ). follow m' t w) (sym r.start) ∙ sym (follow-same m.start w o.start_in (d.reached.word s (back l))) ∙ d.reached.arrives s (back l);
    };
    apart = λ s t l l' q.
        let a = d.apart s t (back l) (back l') q in
        record { by = a.by; word = a.word; differ = λ x. a.differ (verdict-same s a.by (back l) a.word ∙ x ∙ sym (verdict-same t a.by (back l') a.word)) };
  }

  walk_same : (k : ℕ) (queue met : List ℕ) → All (λ s. s < m.states) queue → walk Σ m k queue met ≡ walk Σ m' k queue met
  walk_same zero queue met h = refl
  walk_same (suc k) [] met h = refl
  walk_same (suc k) (s ∷ queue) met h =
      let new = newly_met met (map (m.next s) (events Σ)) in
      let q : new ≡ newly_met met (map (m'.next s) (events Σ)) = ap (newly_met met) (map_same (Event Σ) (m.next s) (m'.next s) (events Σ) (λ e l. r.next s e h.0 l) (events-all Σ)) in
      walk_same k (queue ++ new) (met ++ new) (all_append (λ s. s < m.states) queue new h.1 (turn-all Σ m (λ s. s < m.states) (λ s e l t. o.next_in s e l t) met s h.0))
      ∙ ap (λ (x : List ℕ). walk Σ m' k (queue ++ x) (met ++ x)) q

  pub breadth-first-same : BreadthFirst Σ m → BreadthFirst Σ m'
  unfolding BreadthFirst
  breadth-first-same b =
      ap₂ (λ (n s : ℕ). walk Σ m' n (s ∷ []) (s ∷ [])) (sym r.states) (sym r.start)
      ∙ sym (walk_same m.states (m.start ∷ []) (m.start ∷ []) (o.start_in, tt))
      ∙ b
      ∙ ap up_to r.states
