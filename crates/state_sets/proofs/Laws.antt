-- Loops over the events and the members of a set.
--     spread_none, -more, -out, -to     the successors of one state, event by event
--     moved_none, -more, -out, -to      those of the members of a set, state by state
--     member-shows, other-shows         whether a state shows a byte, where it is a member and where it is none
use mathlib.Core.Path.{◌≡◌, refl, sym, ap, subst, ◌∙◌}
use mathlib.Core.Logic.{◌⊎◌, inl, inr}
use mathlib.Core.List.{List}
use mathlib.Core.Bool.{Bool, true, false, cond, ◌&&◌}
use Prim.Native.Nat.{ℕ, ◌+◌, ◌≤◌, ◌<◌}
use native.Mathlib.Omega.{arith}
use native.Mathlib.Decide.{ℕ_discrete, dec_lt}
use lib.ListN.{length, get_or, set, replicate, length-set, get_or-replicate, get_or-eq_default}
use lib.Seq.{get_or-set_same, get_or-set_other}
use lib.Dec.{ltb, leb, eqb}
use borrow.Author.Tests.{ltb-true}
use Rattle.sequences.proofs.Tests.{never}
use Rattle.meaning.specs.TableFiles.{row_at, successor, verdict_byte}
use Rattle.meaning.specs.Runs.{in_table}
use Rattle.state_sets.specs.Sets.{Has, Among, Spread, Moved, shows_byte}

-- one event more is the one at n
among-more : (n : ℕ) (es : List ℕ) (e : ℕ) → Among (n + 1) es e → Among n es e ⊎ (get_or es n 0 ≡ e)
among-more n es e (k, l, q) = go (dec_lt k n)
  where
    go : Dec (k < n) → Among n es e ⊎ (get_or es n 0 ≡ e)
    go (yes h) = inl (k, h, q)
    go (no h) = let p : k ≡ n = omega (arith, h, l) in inr (ap (λ (i : ℕ). get_or es i 0) (sym p) ∙ q)

among-less : (n m : ℕ) (es : List ℕ) (e : ℕ) → n ≤ m → Among n es e → Among m es e
among-less n m es e h (k, l, q) = (k, omega (arith, h, l), q)

-- a set with q added
has-added : (l : List Bool) (q : ℕ) → q < length l → Has (set l q true) q
has-added l q h = get_or-set_same l q true false h

has_kept : (l : List Bool) (q p : ℕ) → q < length l → Has l p → Has (set l q true) p
has_kept l q p h a = go (ℕ_discrete p q)
  where
    go : Dec (p ≡ q) → Has (set l q true) p
    go (yes e) = rw e (has-added l q h)
    go (no e) = get_or-set_other l q p true false e ∙ a

has-only : (l : List Bool) (q p : ℕ) → Has (set l q true) p → Has l p ⊎ (q ≡ p)
has-only l q p a = go (ℕ_discrete p q)
  where
    go : Dec (p ≡ q) → Has l p ⊎ (q ≡ p)
    go (yes e) = inr (sym e)
    go (no e) = inl (sym (get_or-set_other l q p true false e) ∙ a)

-- what is in the table is one of its states
pub in-below : (t : List ℕ) (P S q : ℕ) → in_table t P S q ≡ true → q < S
in-below t P S q h = go (ltb q S) refl h
  where
    go : (b : Bool) → ltb q S ≡ b → (b && leb (verdict_byte t P q) 3) ≡ true → q < S
    go true e i = ltb-true q S e
    go false e i = never (sym i)

module _ (t : List ℕ) (P S : ℕ) (es : List ℕ) where
  -- ---- one state
  module _ (s : ℕ) (old : List Bool) where
    pub spread_none : length old ≡ 256 → Spread t P S 0 es s old old true
    spread_none l = record {
      long = l;
      kept = λ q h. h;
      hit = λ _ e a. absurd (omega (arith, a.1));
      only = λ q h. inl h;
      out = λ f. never f;
    }

    pub spread-more : (n : ℕ) (new : List Bool) (q : ℕ) → Spread t P S n es s old new true → q ≡ successor t P s (get_or es n 0) → in_table t P S q ≡ true → q < 256
        → Spread t P S (n + 1) es s old (set new q true) true
    spread-more n new q h e i l = record {
      long = length-set new q true ∙ h.long;
      kept = λ p a. has_kept new q p room (h.kept p a);
      hit = λ _ x a. hits x (among-more n es x a);
      only = λ p a. only p (has-only new q p a);
      out = λ f. never f;
    }
      where
        room : q < length new
        room = omega (arith, h.long, l)

        hits : (x : ℕ) → Among n es x ⊎ (get_or es n 0 ≡ x) → (in_table t P S (successor t P s x) ≡ true) × Has (set new q true) (successor t P s x)
        hits x (inl a) = let b = h.hit refl x a in (b.0, has_kept new q (successor t P s x) room b.1)
        hits x (inr a) =
            let p : q ≡ successor t P s x = e ∙ ap (λ (y : ℕ). successor t P s y) a in
            subst (λ (y : ℕ). (in_table t P S y ≡ true) × Has (set new q true) y) p (i, has-added new q room)

        only : (p : ℕ) → Has new p ⊎ (q ≡ p) → Has old p ⊎ ((x : ℕ) × Among (n + 1) es x × (successor t P s x ≡ p))
        only p (inl a) = wider (h.only p a)
          where
            wider : Has old p ⊎ ((x : ℕ) × Among n es x × (successor t P s x ≡ p)) → Has old p ⊎ ((x : ℕ) × Among (n + 1) es x × (successor t P s x ≡ p))
            wider (inl b) = inl b
            wider (inr (x, b, c)) = inr (x, among-less n (n + 1) es x (omega arith) b, c)
        only p (inr a) = inr (get_or es n 0, (n, omega arith, refl), sym e ∙ a)

    pub spread-out : (k n : ℕ) (new : List Bool) → Spread t P S k es s old new true → k < n → in_table t P S (successor t P s (get_or es k 0)) ≡ false → Spread t P S n es s old new false
    spread-out k n new h l i = record {
      long = h.long;
      kept = h.kept;
      hit = λ f. never (sym f);
      only = λ p a. wider p (h.only p a);
      out = λ _. (get_or es k 0, (k, l, refl), i);
    }
      where
        wider : (p : ℕ) → Has old p ⊎ ((x : ℕ) × Among k es x × (successor t P s x ≡ p)) → Has old p ⊎ ((x : ℕ) × Among n es x × (successor t P s x ≡ p))
        wider p (inl b) = inl b
        wider p (inr (x, b, c)) = inr (x, among-less k n es x (omega (arith, l)) b, c)

    pub spread-to : (k n : ℕ) (new : List Bool) → Spread t P S k es s old new true → k ≡ n → Spread t P S n es s old new true
    spread-to k n new h e = subst (λ (m : ℕ). Spread t P S m es s old new true) e h

  -- ---- the members of a set
  module _ (n : ℕ) (from : List Bool) where
    pub moved_none : Moved t P S n es 0 from (replicate 256 false) true
    moved_none = record {
      long = refl;
      hit = λ _ s e l. absurd (omega (arith, l));
      only = λ q h. none q h;
      out = λ f. never f;
    }
      where
        none : {A : Type 0} (q : ℕ) → Has (replicate 256 false) q → A
        none q h = go (dec_lt q 256)
          where
            go : {A : Type 0} → Dec (q < 256) → A
            go (yes l) = never (sym h ∙ get_or-replicate 256 q false false l)
            go (no l) = never (sym h ∙ get_or-eq_default (replicate 256 false) false {n = q} (omega (arith, l)))

    module _ (m : ℕ) (to to' : List Bool) (member : Bool) (is : member ≡ get_or from m false) (h : Moved t P S n es m from to true) where
      -- the events by which the state m spreads
      spreads : (e : ℕ) → (b : Bool) → member ≡ b → Among (cond b n 0) es e → Has from m × Among n es e
      spreads e true q a = (sym is ∙ q, a)
      spreads e false q a = absurd (omega (arith, a.1))

      moved-only : (ok : Bool) → Spread t P S (cond member n 0) es m to to' ok → (q : ℕ) → Has to' q → (s : ℕ) × (e : ℕ) × Has from s × Among n es e × (successor t P s e ≡ q)
      moved-only ok g q a = go (g.only q a)
        where
          go : Has to q ⊎ ((e : ℕ) × Among (cond member n 0) es e × (successor t P m e ≡ q)) → (s : ℕ) × (e : ℕ) × Has from s × Among n es e × (successor t P s e ≡ q)
          go (inl b) = h.only q b
          go (inr (e, b, c)) = let x = spreads e member refl b in (m, e, x.0, x.1, c)

      pub moved_more : Spread t P S (cond member n 0) es m to to' true → Moved t P S n es (m + 1) from to' true
      moved_more g = record {
        long = g.long;
        hit = λ _ s e l a b. hits s e l a b (dec_lt s m);
        only = moved-only true g;
        out = λ f. never f;
      }
        where
          hits : (s e : ℕ) → s < m + 1 → Has from s → Among n es e → Dec (s < m) → (in_table t P S (successor t P s e) ≡ true) × Has to' (successor t P s e)
          hits s e l a b (yes k) = let x = h.hit refl s e k a b in (x.0, g.kept (successor t P s e) x.1)
          hits s e l a b (no k) =
              let p : s ≡ m = omega (arith, l, k) in
              let c : member ≡ true = is ∙ ap (λ (i : ℕ). get_or from i false) (sym p) ∙ a in
              let d : Among (cond member n 0) es e = rw c b in
              subst (λ (i : ℕ). (in_table t P S (successor t P i e) ≡ true) × Has to' (successor t P i e)) (sym p) (g.hit refl e d)

      pub moved_out : (M : ℕ) → m < M → Spread t P S (cond member n 0) es m to to' false → Moved t P S n es M from to' false
      moved_out M l g = record {
        long = g.long;
        hit = λ f. never (sym f);
        only = moved-only false g;
        out = λ _. (let x = g.out refl in let y = spreads x.0 member refl x.1 in (m, x.0, l, y.0, y.1, x.2));
      }

    pub moved_to : (m M : ℕ) (to : List Bool) → Moved t P S n es m from to true → m ≡ M → Moved t P S n es M from to true
    moved_to m M to h e = subst (λ (k : ℕ). Moved t P S n es k from to true) e h

-- ---- what the members show

module _ (t : List ℕ) (P : ℕ) (set : List Bool) (v s : ℕ) {i : ℕ} (is : i ≡ s) where
  pub member-shows : (b : Bool) {r x n : ℕ} → get_or set i false ≡ true → r ≡ row_at P s → x ≡ get_or t (r + 4) 0 → n ≡ v → eqb x n ≡ b → shows_byte t P set v s ≡ b
  member-shows b {x = y} a r x n e =
      rw (sym (ap (λ (k : ℕ). get_or set k false) is) ∙ a)
      (ap (λ (z : ℕ). eqb z v) (sym (x ∙ ap (λ (k : ℕ). get_or t (k + 4) 0) r)) ∙ ap (λ (m : ℕ). eqb y m) (sym n) ∙ e)

  pub other-shows : get_or set i false ≡ false → shows_byte t P set v s ≡ true
  other-shows a = rw (sym (ap (λ (k : ℕ). get_or set k false) is) ∙ a)
