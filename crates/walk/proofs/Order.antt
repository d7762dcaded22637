-- The walk numbers the states in the order in which a breadth-first walk over the finished monitor, events ascending, first meets them.
use mathlib.Core.Path.{◌≡◌, refl, sym, ap, ap₂, ◌∙◌}
use mathlib.Core.List.{List, [], ◌∷◌, ◌++◌, map, append-nil}
use mathlib.Core.Bool.{Bool}
use Prim.Native.Nat.{ℕ, suc, ◌+◌, ◌<◌}
use native.Mathlib.Nat.{zero-add, add-zero}
use native.Mathlib.Omega.{arith}
use lib.ListN.{length, get_or, drop}
use lib.Seq.{drop-cons, drop-append-le, get_or-append_seam}
use lib.Dec.{T}
use Rattle.sequences.specs.Tabulate.{up_to}
use Rattle.sequences.proofs.Loops.{length-tab, get_d-tab}
use Rattle.sequences.proofs.Pointwise.{is_true, is_false}
use Rattle.meaning.specs.Traces.{Alphabet}
use Rattle.meaning.specs.Monitors.{Monitor, newly_met, events, walk, BreadthFirst}
use Rattle.meaning.specs.declared.Verdict.{Verdict}
use Rattle.walk.specs.Explore.{monitor_with}
use Rattle.walk.proofs.Snoc.{snoc-length, snoc_old}
use Rattle.walk.proofs.Invariant.{Kept}
use Rattle.walk.proofs.Meeting.{Meets, meets-none, meets-old, meets-new, admitted, admitted-snoc, admitted-are}

module _ (Σ : Alphabet) where
  -- one turn of the walk over a monitor, at state i, where the states met are those below n and those below i are done
  walk_turn : (m : Monitor) (row : List ℕ) (i n n' k : ℕ) → i < n → length row ≡ Σ.width → ((e : ℕ) → e < length row → m.next i e ≡ get_or row e 0)
      → Meets n (admitted Σ.possible row) n' → walk Σ m (suc k) (drop i (up_to n)) (up_to n) ≡ walk Σ m k (drop (suc i) (up_to n')) (up_to n')
  walk_turn m row i n n' k l q a h =
      ap (λ (queue : List ℕ). walk Σ m (suc k) queue (up_to n)) (drop-cons (up_to n) i 0 in_range ∙ ap (λ (s : ℕ). s ∷ drop (suc i) (up_to n)) (get_d-tab n (λ j. j) i 0 l))
      ∙ ap (λ (ts : List ℕ). walk Σ m k (drop (suc i) (up_to n) ++ newly_met (up_to n) ts) (up_to n ++ newly_met (up_to n) ts)) successors
      ∙ ap₂ (λ (queue met : List ℕ). walk Σ m k queue met) (sym (drop-append-le (suc i) (up_to n) new in_range) ∙ ap (λ (met : List ℕ). drop (suc i) met) h.is) h.is
    where
      new : List ℕ
      new = newly_met (up_to n) (admitted Σ.possible row)

      in_range : i < length (up_to n)
      in_range = rw (length-tab n (λ j. j)) l

      successors : map (m.next i) (events Σ) ≡ admitted Σ.possible row
      successors = rw (← q) (admitted-are Σ.possible (m.next i) row (λ j. j) a)

  -- the monitor's rows begin with these
  pub record Begins (m : Monitor) (rows : List (List ℕ)) : Type 0 where
    pub next : (s e : ℕ) → s < length rows → m.next s e ≡ get_or (get_or rows s []) e 0

  -- after as many turns as there are rows, those below n are met, in order
  pub record Walked (n : ℕ) (rows : List (List ℕ)) : Type 0 where
    pub after : (m : Monitor) → Begins m rows → (k : ℕ) → walk Σ m (length rows + k) (0 ∷ []) (0 ∷ []) ≡ walk Σ m k (drop (length rows) (up_to n)) (up_to n)

  -- and a row is begun, that of a state below n, which meets those below n'
  pub record Walking (n' : ℕ) (rows : List (List ℕ)) (row : List ℕ) : Type 0 where
    pub n : ℕ
    pub state : length rows < n
    pub walked : Walked n rows
    pub meets : Meets n (admitted Σ.possible row) n'

  walked_none : Walked 1 []
  walked_none = record { after = λ m b k. rw zero-add }

  walking_skip : {n' : ℕ} {rows : List (List ℕ)} {row : List ℕ} (t : ℕ) → ¬ T (Σ.possible (length row)) → Walking n' rows row → Walking n' rows (row ++ (t ∷ []))
  walking_skip {row = row} t p h = record { n = h.n; state = h.state; walked = h.walked; meets = rw (admitted-snoc Σ.possible row t, is_false (Σ.possible (length row)) p, append-nil) h.meets }

  walking-meet : {n' : ℕ} {rows : List (List ℕ)} {row : List ℕ} (t : ℕ) → T (Σ.possible (length row)) → t < n' → Walking n' rows row → Walking n' rows (row ++ (t ∷ []))
  walking-meet {row = row} t p l h = record { n = h.n; state = h.state; walked = h.walked; meets = rw (admitted-snoc Σ.possible row t, is_true (Σ.possible (length row)) p) (meets-old t l h.meets) }

  walking-add : {n' : ℕ} {rows : List (List ℕ)} {row : List ℕ} → T (Σ.possible (length row)) → Walking n' rows row → Walking (suc n') rows (row ++ (n' ∷ []))
  walking-add {n'} {row = row} p h = record { n = h.n; state = h.state; walked = h.walked; meets = rw (admitted-snoc Σ.possible row n', is_true (Σ.possible (length row)) p) (meets-new h.meets) }

  walked_more : {n' : ℕ} {rows : List (List ℕ)} {row : List ℕ} → Walking n' rows row → length row ≡ Σ.width → Walked n' (rows ++ (row ∷ []))
  walked_more {n'} {rows} {row} h q = record { after = after }
    where
      after : (m : Monitor) → Begins m (rows ++ (row ∷ [])) → (k : ℕ) → walk Σ m (length (rows ++ (row ∷ [])) + k) (0 ∷ []) (0 ∷ []) ≡ walk Σ m k (drop (length (rows ++ (row ∷ []))) (up_to n')) (up_to n')
      after m b k =
          let more : length (rows ++ (row ∷ [])) + k ≡ length rows + suc k = omega (arith, snoc-length rows row) in
          ap (λ (j : ℕ). walk Σ m j (0 ∷ []) (0 ∷ [])) more
          ∙ h.walked.after m (record { next = λ s e l. b.next s e (rw snoc-length (omega arith)) ∙ ap (λ (r : List ℕ). get_or r e 0) (snoc_old rows row [] s l) }) (suc k)
          ∙ walk_turn m row (length rows) h.n n' k h.state q (λ e l. b.next (length rows) e (rw snoc-length (omega arith)) ∙ ap (λ (r : List ℕ). get_or r e 0) (get_or-append_seam rows row [] [])) h.meets
          ∙ ap (λ (j : ℕ). walk Σ m k (drop j (up_to n')) (up_to n')) (sym (snoc-length rows row))

  -- the invariant, for keys of any type
  pub order-kept : {Key : Type 0} (same : Key → Key → Bool) (step : Key → ℕ → Key) (start : Key) (limit : ℕ)
      → Kept same step start Σ limit (λ keys rows. Walked (length keys) rows) (λ keys rows row. Walking (length keys) rows row)
  order-kept same step start limit = record {
    begin = walked_none;
    open_row = λ {keys} h l. record { n = length keys; state = l; walked = h; meets = meets-none };
    skip = λ h p. walking_skip 0 p h;
    meet = λ h g i l t. walking-meet i g.possible l h;
    add = λ {keys} {rows} {row} h g n. rw snoc-length (walking-add g.possible h);
    close_row = λ h q. walked_more h q;
  }

  pub breadth-first : {c : ℕ} {rows : List (List ℕ)} → Walked c rows → length rows ≡ c → (verdict : ℕ → Verdict) → BreadthFirst Σ (monitor_with rows verdict)
  unfolding BreadthFirst
  breadth-first {c} {rows} h q verdict =
      let m : Monitor = monitor_with rows verdict in
      ap (λ (j : ℕ). walk Σ m j (0 ∷ []) (0 ∷ [])) (sym (add-zero (length rows))) ∙ h.after m (record { next = λ s e l. refl }) 0 ∙ ap (λ (n : ℕ). up_to n) (sym q)
