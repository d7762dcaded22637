-- Watches that fit a table, and rows of them.
--     Fits                       a watch of the opening in a state of the table, with 32 slots, events waiting that can happen, and room for them in its count
--     fits_fresh, -more, -less   a fresh watch, one with an event more, one without its oldest
--     queue-more, queue-less     what waits then
--     Good                       a row of n such watches
--     good-fresh, good-set       a fresh row, and one with a watch replaced
--     row-fits, none-foreign, none-wrong       the tests of a desk pass
use mathlib.Core.Path.{◌≡◌, refl, sym, ap, ◌∙◌, subst}
use mathlib.Core.List.{List, [], ◌∷◌, ◌++◌, map}
use mathlib.Core.Bool.{true, not}
use Prim.Native.Nat.{ℕ, zero, suc, ◌-◌, ◌≤◌, ◌<◌}
use native.Mathlib.Numerals.{add-one}
use native.Mathlib.Decide.{ℕ_discrete}
use native.Mathlib.Omega.{arith}
use borrow.Author.Tests.{lt-ltb, le-leb, eq-eqb}
use lib.Dec.{eqb}
use lib.ListN.{length, get_or, set, take, drop, replicate, length-append, length-drop, length-set, length-replicate, get_or-replicate}
use lib.Seq.{take-append-le, take-suc-set, get_or-set_same, get_or-set_other}
use Rattle.sequences.specs.Tabulate.{every}
use Rattle.sequences.proofs.Loops.{least-is}
use Rattle.meaning.specs.Traces.{Alphabet, Event, is_event, Word}
use Rattle.meaning.specs.Desks.{queue, counted, fresh_watch, no_watch, watch_at, row_fits, watch_fits, first_wrong, first_foreign, with_event, oldest, without_oldest}
use Rattle.meaning.specs.declared.Watch.{Watch}
use Rattle.meaning.specs.declared.Verdict.{Verdict}
use Rattle.meaning.specs.declared.Verdict.TheVariants.{Undecided}
use Rattle.moore.proofs.Words.{word-append}
use Rattle.table_layout.proofs.Form.{event-test}

-- ---- slots

-- the first n slots, and what is left when the others move up
front : (n : ℕ) (l : List ℕ) → 1 ≤ n → n ≤ length l → take n l ≡ get_or l 0 0 ∷ take (n - 1) (drop 1 l ++ (0 ∷ []))
front zero l h k = absurd (omega arith)
front (suc n) [] h k = absurd (omega arith)
front (suc n) (x ∷ xs) h k =
    let q : n ≡ suc n - 1 = omega arith in
    ap (λ (r : List ℕ). x ∷ r) (sym (take-append-le n xs (0 ∷ []) (omega arith)) ∙ ap (λ (m : ℕ). take m (xs ++ (0 ∷ []))) q)

word_test : (Σ : Alphabet) (es : List ℕ) → Word Σ es → every (map (is_event Σ) es) ≡ true
word_test Σ [] a = refl
word_test Σ (e ∷ es) a = rw (event-test Σ e a.0) (word_test Σ es a.1)

-- ---- watches

-- of the opening with the number k
module _ (k : ℕ) (Σ : Alphabet) (S : ℕ) where
  pub record Fits (w : Watch) : Type 0 where
    pub own : w.opening ≡ k
    pub inside : w.state < S
    pub few : w.waiting ≤ 32
    pub sum : counted w ≤ 4294967295
    pub slots : length w.events ≡ 32
    pub word : Word Σ (queue w)

  pub fits_fresh : (v : Verdict) → 1 ≤ S → Fits (fresh_watch k v)
  fits_fresh v h = record { own = refl; inside = h; few = omega arith; sum = omega arith; slots = refl; word = tt }

  fits-test : (w : Watch) → Fits w → watch_fits Σ S w ≡ true
  fits-test w f = rw (lt-ltb w.state S f.inside, le-leb w.waiting 32 f.few, le-leb (counted w) 4294967295 f.sum, word_test Σ (queue w) f.word)

  module _ (w : Watch) (f : Fits w) where
    module _ (e : ℕ) (room : w.waiting < 32) where
      pub queue-more : queue (with_event w e) ≡ queue w ++ (e ∷ [])
      queue-more = ap (λ (n : ℕ). take n (set w.events w.waiting e)) (add-one w.waiting) ∙ take-suc-set w.events w.waiting e (omega (arith, f.slots))

      pub fits_more : Event Σ e → counted w < 4294967295 → Fits (with_event w e)
      fits_more a c = record {
        own = f.own;
        inside = f.inside;
        few = omega arith;
        sum = omega arith;
        slots = length-set w.events w.waiting e ∙ f.slots;
        word = subst (Word Σ) (sym queue-more) (word-append Σ (queue w) (e ∷ []) f.word (a, tt));
      }

    module _ (some : 1 ≤ w.waiting) where
      pub queue-less : (s : ℕ) (v : Verdict) → queue w ≡ oldest w ∷ queue (without_oldest w s v)
      queue-less s v = front w.waiting w.events some (omega (arith, f.slots, f.few))

      less-word : (s : ℕ) (v : Verdict) → Word Σ (oldest w ∷ queue (without_oldest w s v))
      less-word s v = subst (Word Σ) (queue-less s v) f.word

      pub oldest-event : Event Σ (oldest w)
      oldest-event = (less-word 0 Undecided).0

      pub fits-less : (s : ℕ) (v : Verdict) → s < S → Fits (without_oldest w s v)
      fits-less s v l = record {
        own = f.own;
        inside = l;
        few = omega (arith, f.few);
        sum = omega (arith, f.sum);
        slots = length-append (drop 1 w.events) (0 ∷ []) ∙ omega (arith, length-drop 1 w.events, f.slots);
        word = (less-word s v).1;
      }

  -- ---- rows

  pub record Good (n : ℕ) (d : List Watch) : Type 0 where
    pub size : length d ≡ n
    pub fits : (i : ℕ) → i < n → Fits (watch_at d i)

  pub good-fresh : (v : Verdict) (n : ℕ) → 1 ≤ S → Good n (replicate n (fresh_watch k v))
  good-fresh v n h = record {
    size = length-replicate n (fresh_watch k v);
    fits = λ i l. subst Fits (sym (get_or-replicate n i (fresh_watch k v) no_watch l)) (fits_fresh v h);
  }

  module _ (n : ℕ) (d : List Watch) (g : Good n d) where
    pub good-set : (i : ℕ) (w : Watch) → i < n → Fits w → Good n (set d i w)
    good-set i w l f = record { size = length-set d i w ∙ g.size; fits = λ j m. go j m (ℕ_discrete j i) }
      where
        go : (j : ℕ) → j < n → Dec (j ≡ i) → Fits (watch_at (set d i w) j)
        go j m (yes q) = subst (λ (m : ℕ). Fits (watch_at (set d i w) m)) (sym q) (subst Fits (sym (get_or-set_same d i w no_watch (omega (arith, g.size)))) f)
        go j m (no q) = subst Fits (sym (get_or-set_other d i j w no_watch q)) (g.fits j m)

    pub row-fits : 1 ≤ n → n ≤ 64 → row_fits d ≡ true
    row-fits h l = rw (g.size, le-leb 1 n h, le-leb n 64 l)

    pub none-foreign : first_foreign k d ≡ length d
    none-foreign =
        least-is (length d) (λ i. not (eqb (watch_at d i).opening k)) (length d) (omega arith)
        (λ i l. ap not (eq-eqb (watch_at d i).opening k (g.fits i (omega (arith, g.size))).own))
        (λ l. absurd (omega arith))

    pub none-wrong : first_wrong Σ S d ≡ length d
    none-wrong =
        least-is (length d) (λ i. not (watch_fits Σ S (watch_at d i))) (length d) (omega arith)
        (λ i l. ap not (fits-test (watch_at d i) (g.fits i (omega (arith, g.size)))))
        (λ l. absurd (omega arith))
