-- What is in the list of all completions: exactly the lists that complete the joined recording.
--     in-choices, choices-in           the possible events that agree with a recorded one
--     listed, completes                a list is among the completions exactly if it is one
--     all-complete, complete-all       a test of all of them
--     not-all                          and that it fails where one fails
--     completion-snoc, -unsnoc         one recorded event more
--     completion-word                  its events can happen
use mathlib.Core.Path.{◌≡◌, refl, sym, ap, subst, ◌∙◌}
use mathlib.Core.Logic.{◌⊎◌, inl, inr}
use mathlib.Core.List.{List, [], ◌∷◌, ◌++◌, map}
use mathlib.Core.Bool.{Bool, true, false, cond}
use Prim.Native.Nat.{ℕ, zero, suc, ◌<◌}
use native.Mathlib.Omega.{arith}
use lib.Dec.{T}
use Rattle.sequences.specs.Tabulate.{every, tabulate, up_to}
use Rattle.sequences.proofs.Pointwise.{is_true}
use Rattle.sequences.proofs.Tests.{never}
use Rattle.meaning.specs.Traces.{Alphabet, Event, Word}
use Rattle.meaning.specs.Monitors.{keep, events}
use Rattle.meaning.specs.Recordings.{agrees, choices, before, completions, Completion}
use Rattle.meaning.specs.declared.Seen.{Seen}

holds : (b : Bool) → b ≡ true → T b
holds true e = tt
holds false e = never (sym e)

-- ---- lists

module _ {A : Type 0} where
  abbrev pub In : A → List A → Type 0
  In x [] = ⊥
  In x (y ∷ ys) = (x ≡ y) ⊎ In x ys

  in_left : (x : A) (ys zs : List A) → In x ys → In x (ys ++ zs)
  in_left x [] zs i = elim i [ ]
  in_left x (y ∷ ys) zs (inl e) = inl e
  in_left x (y ∷ ys) zs (inr h) = inr (in_left x ys zs h)

  in_right : (x : A) (ys zs : List A) → In x zs → In x (ys ++ zs)
  in_right x [] zs h = h
  in_right x (y ∷ ys) zs h = inr (in_right x ys zs h)

  in_either : (x : A) (ys zs : List A) → In x (ys ++ zs) → In x ys ⊎ In x zs
  in_either x [] zs h = inr h
  in_either x (y ∷ ys) zs (inl e) = inl (inl e)
  in_either x (y ∷ ys) zs (inr h) = go (in_either x ys zs h)
    where
      go : In x ys ⊎ In x zs → In x (y ∷ ys) ⊎ In x zs
      go (inl k) = inl (inr k)
      go (inr k) = inr k

  -- every test of a list, and one of them
  every_in : (p : A → Bool) (ys : List A) → every (map p ys) ≡ true → (x : A) → In x ys → p x ≡ true
  every_in p [] h x i = elim i [ ]
  every_in p (y ∷ ys) h x i = go (p y) refl h i (λ k j. every_in p ys k x j)
    where
      go : (b : Bool) → p y ≡ b → cond b (every (map p ys)) false ≡ true → In x (y ∷ ys) → (every (map p ys) ≡ true → In x ys → p x ≡ true) → p x ≡ true
      go true e k (inl q) more = ap p q ∙ e
      go true e k (inr j) more = more k j
      go false e k j more = never (sym k)

  in-every : (p : A → Bool) (ys : List A) → ((x : A) → In x ys → p x ≡ true) → every (map p ys) ≡ true
  in-every p [] h = refl
  in-every p (y ∷ ys) h = rw (h y (inl refl)) (in-every p ys (λ x i. h x (inr i)))

in-keep : (p : ℕ → Bool) (x : ℕ) (ys : List ℕ) → In x ys → p x ≡ true → In x (keep p ys)
in-keep p x [] i h = elim i [ ]
in-keep p x (y ∷ ys) i h = go (p y) refl i (λ j. in-keep p x ys j h)
  where
    go : (b : Bool) → p y ≡ b → In x (y ∷ ys) → (In x ys → In x (keep p ys)) → In x (cond b (y ∷ keep p ys) (keep p ys))
    go true e (inl q) more = inl q
    go true e (inr j) more = inr (more j)
    go false e (inl q) more = never (sym h ∙ ap p q ∙ e)
    go false e (inr j) more = more j

keep-in : (p : ℕ → Bool) (x : ℕ) (ys : List ℕ) → In x (keep p ys) → In x ys × (p x ≡ true)
keep-in p x [] i = elim i [ ]
keep-in p x (y ∷ ys) i = go (p y) refl i (λ j. keep-in p x ys j)
  where
    go : (b : Bool) → p y ≡ b → In x (cond b (y ∷ keep p ys) (keep p ys)) → (In x (keep p ys) → In x ys × (p x ≡ true)) → In x (y ∷ ys) × (p x ≡ true)
    go true e (inl q) more = (inl q, ap p q ∙ e)
    go true e (inr j) more = let k = more j in (inr k.0, k.1)
    go false e j more = let k = more j in (inr k.0, k.1)

in-tab : (n : ℕ) (f : ℕ → ℕ) (i : ℕ) → i < n → In (f i) (tabulate n f)
in-tab zero f i l = absurd (omega arith)
in-tab (suc n) f zero l = inl refl
in-tab (suc n) f (suc i) l = inr (in-tab n (λ k. f (suc k)) i (omega arith))

tab-in : (n : ℕ) (f : ℕ → ℕ) (x : ℕ) → In x (tabulate n f) → (i : ℕ) × (i < n) × (x ≡ f i)
tab-in zero f x i = elim i [ ]
tab-in (suc n) f x (inl e) = (0, omega arith, e)
tab-in (suc n) f x (inr h) = let k = tab-in n (λ i. f (suc i)) x h in (suc k.0, omega (arith, k.1), k.2)

-- ---- completions

module _ (Σ : Alphabet) (P : ℕ) where
  in-events : (e : ℕ) → Event Σ e → In e (events Σ)
  in-events e h = in-keep Σ.possible e (up_to Σ.width) (in-tab Σ.width (λ i. i) e h.0) (is_true (Σ.possible e) h.1)

  events-in : (e : ℕ) → In e (events Σ) → Event Σ e
  events-in e h =
      let k = keep-in Σ.possible e (up_to Σ.width) h in
      let i = tab-in Σ.width (λ i. i) e k.0 in
      (omega (arith, i.1, i.2), holds (Σ.possible e) k.1)

  pub in-choices : (r : Seen) (e : ℕ) → Event Σ e → T (agrees P r e) → In e (choices Σ P r)
  in-choices r e h a = in-keep (agrees P r) e (events Σ) (in-events e h) (is_true (agrees P r e) a)

  pub choices-in : (r : Seen) (e : ℕ) → In e (choices Σ P r) → Event Σ e × T (agrees P r e)
  choices-in r e h = let k = keep-in (agrees P r) e (events Σ) h in (events-in e k.0, holds (agrees P r e) k.1)

  -- a list behind one event, and one in front of which it stands
  in-behind : (e : ℕ) (w : List ℕ) (ws : List (List ℕ)) → In w ws → In (e ∷ w) (map (λ v. e ∷ v) ws)
  in-behind e w [] i = elim i [ ]
  in-behind e w (v ∷ ws) (inl q) = inl (ap (λ (x : List ℕ). e ∷ x) q)
  in-behind e w (v ∷ ws) (inr h) = inr (in-behind e w ws h)

  behind-in : (e : ℕ) (w : List ℕ) (ws : List (List ℕ)) → In w (map (λ v. e ∷ v) ws) → (v : List ℕ) × In v ws × (w ≡ e ∷ v)
  behind-in e w [] i = elim i [ ]
  behind-in e w (v ∷ ws) (inl q) = (v, inl refl, q)
  behind-in e w (v ∷ ws) (inr h) = let k = behind-in e w ws h in (k.0, inr k.1, k.2)

  in-before : (e : ℕ) (w : List ℕ) (es : List ℕ) (ws : List (List ℕ)) → In e es → In w ws → In (e ∷ w) (before es ws)
  in-before e w [] ws i h = elim i [ ]
  in-before e w (d ∷ es) ws (inl q) h = subst (λ (x : ℕ). In (x ∷ w) (before (d ∷ es) ws)) (sym q) (in_left (d ∷ w) (map (λ v. d ∷ v) ws) (before es ws) (in-behind d w ws h))
  in-before e w (d ∷ es) ws (inr i) h = in_right (e ∷ w) (map (λ v. d ∷ v) ws) (before es ws) (in-before e w es ws i h)

  before-in : (w : List ℕ) (es : List ℕ) (ws : List (List ℕ)) → In w (before es ws) → (e : ℕ) × (v : List ℕ) × In e es × In v ws × (w ≡ e ∷ v)
  before-in w [] ws h = elim h [ ]
  before-in w (d ∷ es) ws h = go (in_either w (map (λ v. d ∷ v) ws) (before es ws) h) (λ i. before-in w es ws i)
    where
      go : In w (map (λ v. d ∷ v) ws) ⊎ In w (before es ws) → (In w (before es ws) → (e : ℕ) × (v : List ℕ) × In e es × In v ws × (w ≡ e ∷ v))
          → (e : ℕ) × (v : List ℕ) × In e (d ∷ es) × In v ws × (w ≡ e ∷ v)
      go (inl i) more = let k = behind-in d w ws i in (d, k.0, inl refl, k.1, k.2)
      go (inr i) more = let k = more i in (k.0, k.1, inr k.2, k.3, k.4)

  pub listed : (rs : List Seen) (w : List ℕ) → Completion Σ P rs w → In w (completions Σ P rs)
  unfolding completions
  listed [] [] c = inl refl
  listed [] (e ∷ w) c = absurd c
  listed (r ∷ rs) [] c = absurd c
  listed (r ∷ rs) (e ∷ w) c = in-before e w (choices Σ P r) (completions Σ P rs) (in-choices r e c.0 c.1) (listed rs w c.2)

  pub completes : (rs : List Seen) (w : List ℕ) → In w (completions Σ P rs) → Completion Σ P rs w
  unfolding completions
  completes [] w (inl e) = subst (λ (v : List ℕ). Completion Σ P [] v) (sym e) tt
  completes [] w (inr h) = absurd h
  completes (r ∷ rs) w h =
      let k = before-in w (choices Σ P r) (completions Σ P rs) h in
      let c = choices-in r k.0 k.2 in
      subst (λ (v : List ℕ). Completion Σ P (r ∷ rs) v) (sym k.4) (c.0, c.1, completes rs k.1 k.3)

  module _ (p : List ℕ → Bool) (rs : List Seen) where
    pub all-complete : every (map p (completions Σ P rs)) ≡ true → (w : List ℕ) → Completion Σ P rs w → p w ≡ true
    all-complete h w c = every_in p (completions Σ P rs) h w (listed rs w c)

    pub complete-all : ((w : List ℕ) → Completion Σ P rs w → p w ≡ true) → every (map p (completions Σ P rs)) ≡ true
    complete-all h = in-every p (completions Σ P rs) (λ w i. h w (completes rs w i))

    pub not-all : (w : List ℕ) → Completion Σ P rs w → p w ≡ false → every (map p (completions Σ P rs)) ≡ false
    not-all w c f = go (every (map p (completions Σ P rs))) refl
      where
        go : (b : Bool) → every (map p (completions Σ P rs)) ≡ b → every (map p (completions Σ P rs)) ≡ false
        go true e = never (sym (all-complete e w c) ∙ f)
        go false e = e

  -- one recorded event more
  pub completion-snoc : (rs : List Seen) (r : Seen) (w : List ℕ) (e : ℕ) → Completion Σ P rs w → Event Σ e → T (agrees P r e) → Completion Σ P (rs ++ (r ∷ [])) (w ++ (e ∷ []))
  completion-snoc [] r [] e c h a = (h, a, tt)
  completion-snoc [] r (d ∷ w) e c h a = absurd c
  completion-snoc (q ∷ rs) r [] e c h a = absurd c
  completion-snoc (q ∷ rs) r (d ∷ w) e c h a = (c.0, c.1, completion-snoc rs r w e c.2 h a)

  pub record Last (rs : List Seen) (r : Seen) (w : List ℕ) : Type 0 where
    pub front : List ℕ
    pub event : ℕ
    pub completes : Completion Σ P rs front
    pub can : Event Σ event
    pub agree : T (agrees P r event)
    pub is : w ≡ front ++ (event ∷ [])

  pub completion-unsnoc : (rs : List Seen) (r : Seen) (w : List ℕ) → Completion Σ P (rs ++ (r ∷ [])) w → Last rs r w
  completion-unsnoc [] r [] c = absurd c
  completion-unsnoc [] r (e ∷ []) c = record { front = []; event = e; completes = tt; can = c.0; agree = c.1; is = refl }
  completion-unsnoc [] r (e ∷ d ∷ w) c = absurd c.2
  completion-unsnoc (q ∷ rs) r [] c = absurd c
  completion-unsnoc (q ∷ rs) r (e ∷ w) c =
      let k = completion-unsnoc rs r w c.2 in
      record { front = e ∷ k.front; event = k.event; completes = (c.0, c.1, k.completes); can = k.can; agree = k.agree; is = ap (λ (v : List ℕ). e ∷ v) k.is }

  -- a completion is a list of events that can happen
  pub completion-word : (rs : List Seen) (w : List ℕ) → Completion Σ P rs w → Word Σ w
  completion-word [] [] c = tt
  completion-word [] (e ∷ w) c = absurd c
  completion-word (r ∷ rs) [] c = absurd c
  completion-word (r ∷ rs) (e ∷ w) c = (c.0, completion-word rs w c.2)
