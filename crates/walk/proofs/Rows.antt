-- The invariant of the walk over a residual system: each key is the key after a word, the words of two keys leave different remaining
-- properties, and an entry of a row names the state whose word leaves what the row's word and the event leave.
use mathlib.Core.Path.{◌≡◌, refl, sym, ap, ap₂, ◌∙◌, subst}
use mathlib.Core.Logic.{◌↔◌}
use mathlib.Core.List.{List, [], ◌∷◌, ◌++◌, map, map-append}
use Prim.Native.Nat.{ℕ, zero, suc, ◌<◌}
use native.Mathlib.Nat.{not-suc-le-zero}
use native.Mathlib.Omega.{arith}
use lib.ListN.{length, get_or, length-map, get_or-map}
use lib.Seq.{get_or-append_seam}
use lib.Dec.{T}
use Rattle.meaning.specs.Traces.{Alphabet, Word}
use Rattle.meaning.specs.Verdicts.{Property, SameResidual}
use Rattle.residuals.specs.System.{key_after, System}
use Rattle.walk.proofs.Residual.{word-append, key-append, same_refl, same-sym}
use Rattle.walk.proofs.Snoc.{snoc-length, snoc_old, snoc-each}
use Rattle.walk.proofs.Invariant.{Going, reached, New, Kept}

module _ (Σ : Alphabet) (L : Property) where
  -- words that leave pairwise different remaining properties, the empty one first
  pub record Words (words : List (List ℕ)) : Type 0 where
    pub some : 0 < length words
    pub first : get_or words 0 [] ≡ []
    pub word : (i : ℕ) → i < length words → Word Σ (get_or words i [])
    pub differ : (j : ℕ) → j < length words → (i : ℕ) → i < j → ¬ SameResidual Σ L (get_or words i []) (get_or words j [])

  words_more : {words : List (List ℕ)} (w : List ℕ) → Words words → Word Σ w → ((i : ℕ) → i < length words → ¬ SameResidual Σ L (get_or words i []) w) → Words (words ++ (w ∷ []))
  words_more {words} w h a n = record {
    some = rw snoc-length (omega arith);
    first = snoc_old words w [] 0 h.some ∙ h.first;
    word = snoc-each words w [] (λ _ v. Word Σ v) h.word a;
    differ = snoc-each words w [] (λ j v. (i : ℕ) → i < j → ¬ SameResidual Σ L (get_or (words ++ (w ∷ [])) i []) v)
        (λ j l i m. subst (λ (u : List ℕ). ¬ SameResidual Σ L u (get_or words j [])) (sym (snoc_old words w [] i (omega arith))) (h.differ j l i m))
        (λ i l. subst (λ (u : List ℕ). ¬ SameResidual Σ L u w) (sym (snoc_old words w [] i l)) (n i l));
  }

  -- the entry t for event e in the row of state s
  pub record Entry (words : List (List ℕ)) (s e t : ℕ) : Type 0 where
    pub inside : t < length words
    pub leads : T (Σ.possible e) → SameResidual Σ L (get_or words s [] ++ (e ∷ [])) (get_or words t [])

  entry_more : {words : List (List ℕ)} {s e t : ℕ} (w : List ℕ) → s < length words → Entry words s e t → Entry (words ++ (w ∷ [])) s e t
  entry_more {words} {s} {e} {t} w l h = record { inside = rw snoc-length (omega (arith, h.inside)); leads = λ p. rw (snoc_old words w [] s l, snoc_old words w [] t h.inside) (h.leads p) }

  -- the entries so far
  pub record Entries (words : List (List ℕ)) (s : ℕ) (row : List ℕ) : Type 0 where
    pub entry : (e : ℕ) → e < length row → Entry words s e (get_or row e 0)

  entries-more : {words : List (List ℕ)} {s : ℕ} {row : List ℕ} (w : List ℕ) → s < length words → Entries words s row → Entries (words ++ (w ∷ [])) s row
  entries-more w l h = record { entry = λ e m. entry_more w l (h.entry e m) }

  entries_next : {words : List (List ℕ)} {s t : ℕ} {row : List ℕ} → Entries words s row → Entry words s (length row) t → Entries words s (row ++ (t ∷ []))
  entries_next {words} {s} {t} {row} h n = record { entry = snoc-each row t 0 (λ e u. Entry words s e u) h.entry n }

  -- a whole row
  pub record Row (words : List (List ℕ)) (s : ℕ) (row : List ℕ) : Type 0 where
    pub width : length row ≡ Σ.width
    pub entries : Entries words s row

module _ {Σ : Alphabet} {L : Property} (S : System Σ L) where
  pub record Led (keys : List S.Key) (rows : List (List ℕ)) (row : List ℕ) : Type 0 where
    pub words : List (List ℕ)
    pub keys-are : keys ≡ map (key_after S.step S.start) words
    pub words_are : Words Σ L words
    pub rows_are : (s : ℕ) → s < length rows → Row Σ L words s (get_or rows s [])
    pub row_is : Entries Σ L words (length rows) row

  module _ {keys : List S.Key} {rows : List (List ℕ)} {row : List ℕ} (h : Led keys rows row) where
    pub led-count : length keys ≡ length h.words
    led-count = ap length h.keys-are ∙ length-map h.words (key_after S.step S.start)

    pub led-key : (i : ℕ) → get_or keys i S.start ≡ key_after S.step S.start (get_or h.words i [])
    led-key i = rw h.keys-are (get_or-map (key_after S.step S.start) h.words i [])

    -- the word of the state whose row is begun, with the row's next event
    abbrev pub next_word : List ℕ
    next_word = get_or h.words (length rows) [] ++ (length row ∷ [])

    next-key : reached S.step S.start keys rows row ≡ key_after S.step S.start next_word
    next-key = ap (λ (k : S.Key). S.step k (length row)) (led-key (length rows)) ∙ sym (key-append S.step S.start (get_or h.words (length rows) []) (length row ∷ []))

    module _ (g : Going Σ keys rows row) where
      state-in : length rows < length h.words
      state-in = subst (λ (n : ℕ). length rows < n) led-count g.state

      next-is-word : Word Σ next_word
      next-is-word = word-append Σ (get_or h.words (length rows) []) (length row ∷ []) (h.words_are.word (length rows) state-in) ((g.event, g.possible), tt)

      -- the key to which the event leads is the same as that of state i exactly if the remaining properties are
      next-same : (i : ℕ) → i < length keys → T (S.same (get_or keys i S.start) (reached S.step S.start keys rows row)) ↔ SameResidual Σ L (get_or h.words i []) next_word
      next-same i l = rw (led-key i, next-key) (S.same_is (get_or h.words i []) next_word (h.words_are.word i (subst (λ (n : ℕ). i < n) led-count l)) next-is-word)

      -- a new key makes one word more
      pub led-new : New S.same S.start keys (reached S.step S.start keys rows row) → Words Σ L (h.words ++ (next_word ∷ []))
      led-new n = words_more Σ L next_word h.words_are next-is-word (λ i l s. let m : i < length keys = subst (λ (c : ℕ). i < c) (sym led-count) l in n.differ i m ((next-same i m).1 s))

  begins : Led (S.start ∷ []) [] []
  begins = record {
    words = [] ∷ [];
    keys-are = refl;
    words_are = record { some = omega arith; first = refl; word = one; differ = λ j l i m. absurd (omega arith) };
    rows_are = λ s l. absurd (not-suc-le-zero l);
    row_is = record { entry = λ e l. absurd (not-suc-le-zero l) };
  }
    where
      one : (i : ℕ) → i < 1 → Word Σ (get_or {A = List ℕ} ([] ∷ []) i [])
      one zero l = tt
      one (suc i) l = tt

  -- an entry that needs no new key
  enters : {keys : List S.Key} {rows : List (List ℕ)} {row : List ℕ} {t : ℕ} (h : Led keys rows row) → Entry Σ L h.words (length rows) (length row) t → Led keys rows (row ++ (t ∷ []))
  enters h n = record { words = h.words; keys-are = h.keys-are; words_are = h.words_are; rows_are = h.rows_are; row_is = entries_next Σ L h.row_is n }

  adds : {keys : List S.Key} {rows : List (List ℕ)} {row : List ℕ} → Led keys rows row → Going Σ keys rows row → New S.same S.start keys (reached S.step S.start keys rows row)
      → Led (keys ++ (reached S.step S.start keys rows row ∷ [])) rows (row ++ (length keys ∷ []))
  adds {keys} {rows} {row} h g n = record {
    words = words ++ (w ∷ []);
    keys-are = ap₂ (λ (l : List S.Key) (k : S.Key). l ++ (k ∷ [])) h.keys-are (next-key h) ∙ sym (map-append (key_after S.step S.start) words (w ∷ []));
    words_are = led-new h g n;
    rows_are = λ s l. let r = h.rows_are s l in record { width = r.width; entries = entries-more Σ L w (omega (arith, state-in h g)) r.entries };
    row_is = entries_next Σ L (entries-more Σ L w (state-in h g) h.row_is) (record { inside = rw (snoc-length words w) (omega (arith, led-count h)); leads = λ _. last });
  }
    where
      words : List (List ℕ)
      words = h.words

      w : List ℕ
      w = next_word h

      last : SameResidual Σ L (get_or (words ++ (w ∷ [])) (length rows) [] ++ (length row ∷ [])) (get_or (words ++ (w ∷ [])) (length keys) [])
      last = rw (snoc_old words w [] (length rows) (state-in h g), led-count h, get_or-append_seam words w [] []) (same_refl Σ L w)

  closes : {keys : List S.Key} {rows : List (List ℕ)} {row : List ℕ} → Led keys rows row → length row ≡ Σ.width → Led keys (rows ++ (row ∷ [])) []
  closes {keys} {rows} {row} h q = record {
    words = h.words;
    keys-are = h.keys-are;
    words_are = h.words_are;
    rows_are = snoc-each rows row [] (λ s r. Row Σ L h.words s r) h.rows_are (record { width = q; entries = h.row_is });
    row_is = record { entry = λ e l. absurd (not-suc-le-zero l) };
  }

  pub led-kept : (limit : ℕ) → Kept S.same S.step S.start Σ limit (λ keys rows. Led keys rows []) Led
  led-kept limit = record {
    begin = begins;
    open_row = λ h l. h;
    skip = λ h n. enters h (record { inside = h.words_are.some; leads = λ p. absurd (n p) });
    meet = λ h g i l t. enters h (record { inside = subst (λ (c : ℕ). i < c) (led-count h) l; leads = λ _. same-sym Σ L (get_or h.words i []) (next_word h) ((next-same h g i l).0 t) });
    add = adds;
    close_row = closes;
  }
