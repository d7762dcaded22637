-- The walk, with a limit of at least 1, ends in one of two ways: it closed, or there are more different remaining properties than the limit.
use mathlib.Core.Path.{◌≡◌, sym, ◌∙◌, subst}
use mathlib.Core.List.{List, []}
use Prim.Native.Nat.{ℕ, suc, ◌<◌}
use native.Mathlib.Omega.{arith}
use lib.ListN.{length, get_or}
use Rattle.meaning.specs.Traces.{Alphabet}
use Rattle.meaning.specs.Verdicts.{Property, MoreThan}
use Rattle.residuals.specs.System.{System}
use Rattle.walk.specs.Explore.{Explored, within, beyond, explore}
use Rattle.walk.proofs.Snoc.{snoc-length}
use Rattle.walk.proofs.Invariant.{New, Done, Full, Ended, explored}
use Rattle.walk.proofs.Rows.{Words, Led, led-count, led-key, next_word, led-new, led-kept}
use Rattle.walk.proofs.Order.{Walked, Walking, order-kept, breadth-first}
use Rattle.walk.proofs.Closed.{Closed}
use Rattle.walk.proofs.Count.{not_more}

words-many : {Σ : Alphabet} {L : Property} {words : List (List ℕ)} (n : ℕ) → Words Σ L words → length words ≡ suc n → MoreThan Σ L n
words-many {words = words} n h q = record { list = λ i. get_or words i []; word = λ i l. h.word i (omega arith); differ = λ i j l m. h.differ j (omega arith) i l }

module _ {Σ : Alphabet} {L : Property} (S : System Σ L) (limit : ℕ) where
  abbrev LedDone : List S.Key → List (List ℕ) → Type 0
  LedDone = Done S.same S.step S.start Σ limit (λ keys rows. Led S keys rows []) (Led S)

  abbrev LedFull : List S.Key → S.Key → Type 0
  LedFull = Full S.same S.step S.start Σ limit (λ keys rows. Led S keys rows []) (Led S)

  closes : {keys : List S.Key} {rows : List (List ℕ)} → LedDone keys rows → Walked Σ (length keys) rows → Closed S limit keys rows
  closes {keys} {rows} d o = record {
    some = rw (led-count S led) led.words_are.some;
    few = d.few;
    count = d.all;
    width = λ s l. (led.rows_are s (row s l)).width;
    inside = λ s e l m. rw (led-count S led) ((led.rows_are s (row s l)).entries.entry e (rw (led.rows_are s (row s l)).width m)).inside;
    access = λ i. get_or led.words i [];
    access-start = led.words_are.first;
    word = λ i l. led.words_are.word i (state i l);
    key = λ i l. led-key S led i;
    leads = λ s e l v. ((led.rows_are s (row s l)).entries.entry e (rw (led.rows_are s (row s l)).width v.0)).leads v.1;
    differ = λ i j l m. led.words_are.differ j (state j m) i l;
    order = breadth-first Σ o d.all;
  }
    where
      led : Led S keys rows []
      led = d.inv

      state : (i : ℕ) → i < length keys → i < length led.words
      state i l = subst (λ (n : ℕ). i < n) (led-count S led) l

      row : (s : ℕ) → s < length keys → s < length rows
      row s l = subst (λ (n : ℕ). s < n) (sym d.all) l

  overflows : {keys : List S.Key} {k : S.Key} → LedFull keys k → MoreThan Σ L limit
  overflows {keys} f =
      let w : List ℕ = next_word S f.inv in
      words-many limit (led-new S f.inv f.going (subst (New S.same S.start keys) f.is f.new)) (snoc-length f.inv.words w ∙ omega (arith, led-count S f.inv, f.count))

  abbrev pub EndsIn : Explored S.Key (List (List ℕ)) → Type 0
  EndsIn (within keys rows) = Closed S limit keys rows
  EndsIn (beyond keys k) = MoreThan Σ L limit

  pub walk_ends : 0 < limit → EndsIn (explore S.same S.step S.start Σ limit)
  walk_ends l =
      go (explore S.same S.step S.start Σ limit)
      (explored S.same S.step S.start Σ limit (λ keys rows. Led S keys rows []) (Led S) (led-kept S limit) l)
      (explored S.same S.step S.start Σ limit (λ keys rows. Walked Σ (length keys) rows) (λ keys rows row. Walking Σ (length keys) rows row) (order-kept Σ S.same S.step S.start limit) l)
    where
      go : (v : Explored S.Key (List (List ℕ))) → Ended S.same S.step S.start Σ limit (λ keys rows. Led S keys rows []) (Led S) v
          → Ended S.same S.step S.start Σ limit (λ keys rows. Walked Σ (length keys) rows) (λ keys rows row. Walking Σ (length keys) rows row) v → EndsIn v
      go (within keys rows) d o = closes d o.inv
      go (beyond keys k) f o = overflows f

  module _ (l : 0 < limit) where
    pub closed-if : {keys : List S.Key} {rows : List (List ℕ)} → explore S.same S.step S.start Σ limit ≡ within keys rows → Closed S limit keys rows
    closed-if q = subst EndsIn q (walk_ends l)

    pub more-if : {keys : List S.Key} {k : S.Key} → explore S.same S.step S.start Σ limit ≡ beyond keys k → MoreThan Σ L limit
    more-if q = subst EndsIn q (walk_ends l)

    pub not-more-if : {keys : List S.Key} {rows : List (List ℕ)} → explore S.same S.step S.start Σ limit ≡ within keys rows → ¬ MoreThan Σ L limit
    not-more-if q = let C = closed-if q in not_more S C limit C.few
