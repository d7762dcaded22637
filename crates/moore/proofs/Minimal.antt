-- A reduced monitor has the fewest states of all monitors that show the same verdicts, and one with as many is the same renumbered.
use mathlib.Core.Path.{◌≡◌, sym, ap, ◌∙◌, subst}
use mathlib.Core.List.{List, [], ◌∷◌, ◌++◌}
use Prim.Native.Nat.{ℕ, ◌≤◌, ◌<◌}
use native.Mathlib.Decide.{ℕ_discrete}
use Rattle.sequences.proofs.Pigeonhole.{Injective, injective-le, injective-onto, Onto, inverse}
use Rattle.meaning.specs.Traces.{Alphabet, Event, Word}
use Rattle.meaning.specs.Monitors.{Monitor, Over, follow, Renumbered}
use Rattle.moore.specs.Reduced.{Reduced, SameVerdicts}
use Rattle.moore.proofs.Words.{word-append, follow-append, follow-in}

-- state s of one and state t of the other show the same verdict after every word
record Alike (Σ : Alphabet) (ours other : Monitor) (s t : ℕ) : Type 0 where
  same : (z : List ℕ) → Word Σ z → ours.verdict (follow ours s z) ≡ other.verdict (follow other t z)

module _ {Σ : Alphabet} {ours other : Monitor} (o : Over Σ ours) (o' : Over Σ other) (r : Reduced Σ ours) (v : SameVerdicts Σ ours other) where
  -- where the other stands after the access word of our state
  partner : ℕ → ℕ
  partner s = follow other other.start (r.reached.access s)

  partner-in : (s : ℕ) → s < ours.states → partner s < other.states
  unfolding partner
  partner-in s l = follow-in o' other.start (r.reached.access s) o'.start_in (r.reached.word s l)

  alike : (s : ℕ) → s < ours.states → Alike Σ ours other s (partner s)
  unfolding partner
  alike s l = record {
    same = λ z h.
        let a = r.reached.access s in
        ap (λ (t : ℕ). ours.verdict (follow ours t z)) (sym (r.reached.arrives s l))
        ∙ ap ours.verdict (sym (follow-append ours ours.start a z))
        ∙ v.same (a ++ z) (word-append Σ a z (r.reached.word s l) h)
        ∙ ap other.verdict (follow-append other other.start a z);
  }

  alike-start : Alike Σ ours other ours.start other.start
  alike-start = record { same = λ z h. v.same z h }

  alike_next : {s t : ℕ} (e : ℕ) → Alike Σ ours other s t → Event Σ e → Alike Σ ours other (ours.next s e) (other.next t e)
  alike_next e a h = record { same = λ z l. a.same (e ∷ z) (h, l) }

  -- no two of our states are alike to the same state
  alike-one : {s s' t : ℕ} → s < ours.states → s' < ours.states → Alike Σ ours other s t → Alike Σ ours other s' t → s ≡ s'
  alike-one {s} {s'} l l' a a' = go (ℕ_discrete s s')
    where
      go : Dec (s ≡ s') → s ≡ s'
      go (yes e) = e
      go (no e) = let d = r.apart s s' l l' e in absurd (d.differ (a.same d.by d.word ∙ sym (a'.same d.by d.word)))

  partner-injective : Injective ours.states other.states partner
  partner-injective = record {
    into = partner-in;
    injective = λ s s' l l' e. alike-one l l' (alike s l) (subst (Alike Σ ours other s') (sym e) (alike s' l'));
  }

  pub smallest : ours.states ≤ other.states
  smallest = injective-le ours.states other.states partner-injective

  module _ (q : other.states ≡ ours.states) where
    onto : Onto ours.states other.states partner (inverse ours.states partner)
    onto = injective-onto ours.states other.states partner-injective (sym q)

    partner-one : {s t : ℕ} → s < ours.states → t < other.states → Alike Σ ours other s t → t ≡ partner s
    partner-one {s} {t} l l' a =
        let u = inverse ours.states partner t in
        let h : u < ours.states = onto.back_in t l' in
        let e : partner u ≡ t = onto.there t l' in
        sym e ∙ ap partner (alike-one h l (subst (Alike Σ ours other u) e (alike u h)) a)

    pub unique : Renumbered Σ ours other
    unique = record {
      to = partner;
      from = inverse ours.states partner;
      to_in = partner-in;
      from_in = onto.back_in;
      from_to = onto.again;
      to_from = onto.there;
      starts = sym (partner-one o.start_in o'.start_in alike-start);
      verdicts = λ s l. sym ((alike s l).same [] tt);
      successors = λ s e l h. partner-one (o.next_in s e l h) (o'.next_in (partner s) e (partner-in s l) h) (alike_next e (alike s l) h);
    }
