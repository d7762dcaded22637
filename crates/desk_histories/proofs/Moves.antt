-- What actions do to one tunnel of a good desk.
--     Moved                  what was accepted and what was heard, between two standings of its watch
--     moved_none, -then      nothing done, and one after the other
--     good-by, moved_by      one action
--     good-all, moved_all    a list of them
--     still-waits            an event that waits is heard, or one still waits
use mathlib.Core.Path.{◌≡◌, sym, ap, ◌∙◌, subst}
use mathlib.Core.Logic.{◌⊎◌, inl, inr}
use mathlib.Core.List.{List, [], ◌∷◌, ◌++◌, append-nil, append_assoc}
use mathlib.Core.Bool.{true, cond}
use Prim.Native.Nat.{ℕ, ◌≤◌, ◌<◌}
use native.Mathlib.Decide.{ℕ_discrete}
use native.Mathlib.Omega.{arith}
use borrow.Author.Tests.{eq-eqb, ne_eqb}
use lib.Dec.{eqb}
use lib.ListN.{length, set, length-append}
use lib.Seq.{length-take-le, get_or-set_same, get_or-set_other}
use Rattle.meaning.specs.Traces.{Word}
use Rattle.meaning.specs.Monitors.{Monitor}
use Rattle.meaning.specs.TableFiles.{is_table, monitor_of}
use Rattle.meaning.specs.Openings.{Opening}
use Rattle.meaning.specs.Desks.{Outcome, queue, no_watch, watch_at, with_event, oldest}
use Rattle.meaning.specs.Histories.{Action, Post, Turn, Standing, asked, onward, reached, takes, hears, accepted, heard}
use Rattle.meaning.specs.declared.Watch.{Watch}
use Rattle.table_layout.proofs.Form.{table-inside}
use Rattle.moore.proofs.Words.{word-append}
use Rattle.desk_histories.proofs.Rows.{Fits, fits_more, fits-less, queue-more, queue-less, oldest-event, good-set}
use Rattle.desk_histories.proofs.Counts.{Heard, heard-one}
use Rattle.rounds.proofs.Rounds.{after-in}
use Rattle.desk_histories.proofs.Answers.{Σ, S, Fine, Added, Denied, Hearing, Silent, next, shown, later, posted, turned}

module _ (o : Opening) where
  abbrev m : Monitor
  m = monitor_of o.table

  -- from w to w' the events ins were accepted, and outs heard, after any that w had heard
  pub record Moved (w w' : Watch) (ins outs : List ℕ) : Type 0 where
    pub kept : queue w ++ ins ≡ outs ++ queue w'
    pub heard : (es : List ℕ) → Heard m w es → Heard m w' (es ++ outs)
    pub word : Word (Σ o) outs

  -- nothing is heard
  heard-none : {w w' : Watch} → ((es : List ℕ) → Heard m w es → Heard m w' es) → (es : List ℕ) → Heard m w es → Heard m w' (es ++ [])
  heard-none {w} {w'} f es h = subst (Heard m w') (sym (append-nil es)) (f es h)

  pub moved_none : (w : Watch) → Moved w w [] []
  moved_none w = record { kept = append-nil (queue w); heard = heard-none (λ es h. h); word = tt }

  pub moved_then : {w w' w'' : Watch} {ins outs ins' outs' : List ℕ} → Moved w w' ins outs → Moved w' w'' ins' outs' → Moved w w'' (ins ++ ins') (outs ++ outs')
  moved_then {w} {w'} {w''} {ins} {outs} {ins'} {outs'} a b = record {
    kept =
        sym (append_assoc (queue w) ins ins')
        ∙ ap (λ (l : List ℕ). l ++ ins') a.kept
        ∙ append_assoc outs (queue w') ins'
        ∙ ap (λ (l : List ℕ). outs ++ l) b.kept
        ∙ sym (append_assoc outs outs' (queue w''));
    heard = λ es h. subst (Heard m w'') (append_assoc es outs outs') (b.heard (es ++ outs) (a.heard es h));
    word = word-append (Σ o) outs outs' a.word b.word;
  }

  -- ---- what waits

  queue-length : (w : Watch) → Fits o.number (Σ o) (S o) w → length (queue w) ≡ w.waiting
  queue-length w f = length-take-le w.waiting w.events (omega (arith, f.few, f.slots))

  pub still-waits : (w w' : Watch) (ins outs : List ℕ) → Fits o.number (Σ o) (S o) w → Fits o.number (Σ o) (S o) w' → Moved w w' ins outs → 1 ≤ w.waiting
      → (1 ≤ length outs) ⊎ (1 ≤ w'.waiting)
  still-waits w w' ins [] f f' a h = inr (omega (arith, queue-length w f, queue-length w' f', length-append (queue w) ins, ap length a.kept))
  still-waits w w' ins (x ∷ outs) f f' a h = inl (omega arith)

  module _ (form : is_table o.table ≡ true) (n : ℕ) (some : 1 ≤ n) (few : n ≤ 64) where
    -- ---- one action

    module _ (d : List Watch) (g : Fine o n d) where
      good_more : (j e : ℕ) → Added o n d j e → Fine o n (set d j (with_event (watch_at d j) e))
      good_more j e h = good-set o.number (Σ o) (S o) n d g j (with_event (watch_at d j) e) h.inside (fits_more o.number (Σ o) (S o) (watch_at d j) (g.fits j h.inside) e h.room h.event h.counts)

      pub heard-in : (l : ℕ) (h : Hearing o n d l) → h.number < n
      heard-in l h = subst (λ (k : ℕ). k < n) (sym h.there) (after-in n some l h.passes)

      good-less : (l : ℕ) (h : Hearing o n d l) → Fine o n (set d h.number (later o (watch_at d h.number)))
      good-less l h =
          let f = g.fits h.number (heard-in l h) in
          good-set o.number (Σ o) (S o) n d g h.number _ (heard-in l h)
          (fits-less o.number (Σ o) (S o) (watch_at d h.number) f h.waits (next o (watch_at d h.number)) (shown o (watch_at d h.number))
          (table-inside o.table form _ _ f.inside (oldest-event o.number (Σ o) (S o) (watch_at d h.number) f h.waits)))

    pub good-by : (c : Standing) → Fine o n c.desk → (a : Action) → Fine o n (asked o c a).desk
    good-by c g (Post j e) = go (posted o form n some few c.desk g j e)
      where
        go : Added o n c.desk j e ⊎ Denied o n c.desk j e → Fine o n (asked o c (Post j e)).desk
        go (inl h) = rw h.is (good_more c.desk g j e h)
        go (inr h) = rw h.is g
    good-by c g Turn = go (turned o form n some few c.desk g c.last)
      where
        go : Hearing o n c.desk c.last ⊎ Silent o n c.desk c.last → Fine o n (asked o c Turn).desk
        go (inl h) = rw h.is (good-less c.desk g c.last h)
        go (inr h) = rw h.is g

    -- ---- one action, for tunnel i

    module _ (i : ℕ) (inside : i < n) where
      module _ (d : List Watch) (g : Fine o n d) where
        abbrev more : ℕ → ℕ → Watch
        more j e = with_event (watch_at d j) e

        abbrev less : ℕ → Watch
        less j = later o (watch_at d j)

        moved_more : (j e : ℕ) → Added o n d j e → Moved (watch_at d i) (watch_at (set d j (more j e)) i) (cond (eqb i j) (e ∷ []) []) []
        moved_more j e h = go (ℕ_discrete i j)
          where
            here : Moved (watch_at d j) (more j e) (e ∷ []) []
            here = record {
              kept = sym (queue-more o.number (Σ o) (S o) (watch_at d j) (g.fits j h.inside) e h.room);
              heard = heard-none (λ es p. record { state = p.state; count = p.count; first = p.first });
              word = tt;
            }

            go : Dec (i ≡ j) → Moved (watch_at d i) (watch_at (set d j (more j e)) i) (cond (eqb i j) (e ∷ []) []) []
            go (yes q) = rw (eq-eqb i j q, q, get_or-set_same d j (more j e) no_watch (omega (arith, h.inside, g.size))) here
            go (no q) = rw (ne_eqb i j q, get_or-set_other d j i (more j e) no_watch q) (moved_none (watch_at d i))

        moved-less : (j : ℕ) → j < n → 1 ≤ (watch_at d j).waiting → Moved (watch_at d i) (watch_at (set d j (less j)) i) [] (cond (eqb i j) (oldest (watch_at d j) ∷ []) [])
        moved-less j l h = go (ℕ_discrete i j)
          where
            here : Moved (watch_at d j) (less j) [] (oldest (watch_at d j) ∷ [])
            here = record {
              kept = append-nil (queue (watch_at d j)) ∙ queue-less o.number (Σ o) (S o) (watch_at d j) (g.fits j l) h (next o (watch_at d j)) (shown o (watch_at d j));
              heard = λ es p. heard-one m (watch_at d j) es (oldest (watch_at d j)) p;
              word = (oldest-event o.number (Σ o) (S o) (watch_at d j) (g.fits j l) h, tt);
            }

            go : Dec (i ≡ j) → Moved (watch_at d i) (watch_at (set d j (less j)) i) [] (cond (eqb i j) (oldest (watch_at d j) ∷ []) [])
            go (yes q) = rw (eq-eqb i j q, q, get_or-set_same d j (less j) no_watch (omega (arith, g.size))) here
            go (no q) = rw (ne_eqb i j q, get_or-set_other d j i (less j) no_watch q) (moved_none (watch_at d i))

      abbrev By : Standing → Action → Outcome → Type 0
      By c a y = Moved (watch_at c.desk i) (watch_at y.desk i) (takes i a y.answer) (hears i y.answer)

      pub moved_by : (c : Standing) → Fine o n c.desk → (a : Action) → By c a (asked o c a)
      moved_by c g (Post j e) = go (posted o form n some few c.desk g j e)
        where
          go : Added o n c.desk j e ⊎ Denied o n c.desk j e → By c (Post j e) (asked o c (Post j e))
          go (inl h) = subst (By c (Post j e)) (sym h.is) (moved_more c.desk g j e h)
          go (inr h) = subst (By c (Post j e)) (sym h.is) (moved_none (watch_at c.desk i))
      moved_by c g Turn = go (turned o form n some few c.desk g c.last)
        where
          go : Hearing o n c.desk c.last ⊎ Silent o n c.desk c.last → By c Turn (asked o c Turn)
          go (inl h) = subst (By c Turn) (sym h.is) (moved-less c.desk g h.number (heard-in c.desk g c.last h) h.waits)
          go (inr h) = subst (By c Turn) (sym h.is) (moved_none (watch_at c.desk i))

      -- ---- lists of actions

      pub moved_all : (c : Standing) → Fine o n c.desk → (h : List Action) → Moved (watch_at c.desk i) (watch_at (reached o c h).desk i) (accepted o c i h) (heard o c i h)
      moved_all c g [] = moved_none (watch_at c.desk i)
      moved_all c g (a ∷ rest) = moved_then (moved_by c g a) (moved_all (onward o c a) (good-by c g a) rest)

    pub good-all : (c : Standing) → Fine o n c.desk → (h : List Action) → Fine o n (reached o c h).desk
    good-all c g [] = g
    good-all c g (a ∷ rest) = good-all (onward o c a) (good-by c g a) rest
