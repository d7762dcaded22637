-- A desk under distinct numbers: what comes with another opening is refused and changes nothing, so the desk is the
-- one that the actions of its own opening alone lead to, and the laws of one opening hold of it.
--     desk-right      refused by 24 exactly with another opening, and otherwise demand 2's verdict for all events heard
use Rattle.std.proofs.Common.{Result, Ok, Err}
use mathlib.Core.Path.{◌≡◌, refl, sym, ap, ◌∙◌, subst}
use mathlib.Core.Logic.{◌⊎◌, inl, inr}
use mathlib.Core.List.{List, [], ◌∷◌, ◌++◌, append-nil, append_assoc}
use mathlib.Core.Bool.{Bool, true, false, cond, not}
use Prim.Native.Nat.{ℕ, ◌≤◌}
use native.Mathlib.Omega.{arith}
use borrow.Author.Tests.{lt-ltb, eq-eqb, ne_eqb, eqb-true, eqb-false}
use lib.Dec.{eqb}
use lib.ListN.{length}
use Rattle.sequences.proofs.Loops.{least-is}
use Rattle.meaning.specs.Verdicts.{Judged}
use Rattle.meaning.specs.TableFiles.{monitor_of}
use Rattle.meaning.specs.Openings.{Opening}
use Rattle.meaning.specs.Desks.{Outcome, refused, watch_at, first_foreign, post_by, post_of, turn_by, turn_of}
use Rattle.meaning.specs.Histories.{Action, Post, Turn, Standing, begun, last_after, asked, onward, reached, hears, heard}
use Rattle.meaning.specs.declared.Refusal.TheVariants.{WrongOpening}
use Rattle.meaning.specs.declared.Verdict.{Verdict}
use Rattle.meaning.specs.declared.State.{State}
use Rattle.meaning.specs.declared.Served.{Served}
use Rattle.table_layout.proofs.Form.{states-some, table-header}
use Rattle.desk_histories.proofs.Rows.{good-fresh, row-fits}
use Rattle.desk_histories.proofs.Answers.{Σ, S, Fine}
use Rattle.desk_histories.proofs.Moves.{good-by, good-all}
use Rattle.desk_histories.proofs.Histories.{next-right, verdict-right}
use Rattle.opening_laws.specs.Laws.{Family, alphabet_at, property_at, served, heard_by, desk_after, DeskRight}
use Rattle.opening_laws.proofs.States.{form-at}
use Rattle.meaning.specs.declared.Refusal.{Refusal}

-- ---- one action more at the end of a history

reached-last : (o : Opening) (c : Standing) (h : List Action) (a : Action) → reached o c (h ++ (a ∷ [])) ≡ onward o (reached o c h) a
reached-last o c [] a = refl
reached-last o c (x ∷ h) a = reached-last o (onward o c x) h a

heard-last : (o : Opening) (c : Standing) (k : ℕ) (h : List Action) (a : Action) → heard o c k (h ++ (a ∷ [])) ≡ heard o c k h ++ hears k (asked o (reached o c h) a).answer
heard-last o c k [] a = append-nil (hears k (asked o c a).answer)
heard-last o c k (x ∷ h) a =
    ap (λ (r : List ℕ). hears k (asked o c x).answer ++ r) (heard-last o (onward o c x) k h a)
    ∙ sym (append_assoc (hears k (asked o c x).answer) (heard o (onward o c x) k h) (hears k (asked o (reached o c (x ∷ h)) a).answer))

module _ {I : Type 0} (F : Family I) (i : I) (n l : ℕ) (some : 1 ≤ n) (few : n ≤ 64) where
  abbrev o : Opening
  o = F.opening i

  -- ---- another opening

  module _ (j : I) (apart : ¬ (o.number ≡ (F.opening j).number)) (c : Standing) (g : Fine o n c.desk) where
    first-foreign : first_foreign (F.opening j).number c.desk ≡ 0
    first-foreign =
        least-is (length c.desk) (λ k. not (eqb (watch_at c.desk k).opening (F.opening j).number)) 0 (omega arith) (λ k b. absurd (omega arith))
        (λ b. ap not (ne_eqb (watch_at c.desk 0).opening (F.opening j).number (λ e. apart (sym (g.fits 0 (omega arith)).own ∙ e))))

    refused-by : (a : Action) → asked (F.opening j) c a ≡ refused c.desk (WrongOpening 0)
    unfolding post_by post_of turn_by turn_of
    refused-by (Post k e) = rw (form-at F j, row-fits o.number (Σ o) (S o) n c.desk g some few, first-foreign, lt-ltb 0 (length c.desk) (omega (arith, g.size)))
    refused-by Turn = rw (form-at F j, row-fits o.number (Σ o) (S o) n c.desk g some few, first-foreign, lt-ltb 0 (length c.desk) (omega (arith, g.size)))

    still : (a : Action) → onward (F.opening j) c a ≡ c
    still a = ap (λ (y : Outcome). record { desk = y.desk; last = last_after y.answer c.last }) (refused-by a)

  -- ---- the actions that come with the desk's own opening

  abbrev own : List (I × Action) → List Action
  own [] = []
  own (x ∷ rest) = cond (eqb o.number (F.opening x.0).number) (x.1 ∷ own rest) (own rest)

  -- what both lists of actions come to, from a desk of this opening
  pub record Alike (c : Standing) (h : List (I × Action)) : Type 0 where
    pub standing : served F c h ≡ reached o c (own h)
    pub events : (k : ℕ) → heard_by F c k h ≡ heard o c k (own h)

  alike-more : (c : Standing) → Fine o n c.desk → (x : I × Action) (rest : List (I × Action)) → Alike (onward o c x.1) rest → Alike c rest → Alike c (x ∷ rest)
  alike-more c g x rest mine none = go (eqb o.number (F.opening x.0).number) refl
    where
      -- with the desk's own
      here : Alike (onward (F.opening i) c x.1) rest → (q : eqb o.number (F.opening x.0).number ≡ true) → (j : I) → i ≡ j
          → (served F (onward (F.opening j) c x.1) rest ≡ reached o (onward o c x.1) (own rest))
          × ((k : ℕ) → hears k (asked (F.opening j) c x.1).answer ++ heard_by F (onward (F.opening j) c x.1) k rest ≡ hears k (asked o c x.1).answer ++ heard o (onward o c x.1) k (own rest))
      here a q j same =
          subst
          (λ (j : I). (served F (onward (F.opening j) c x.1) rest ≡ reached o (onward o c x.1) (own rest))
          × ((k : ℕ) → hears k (asked (F.opening j) c x.1).answer ++ heard_by F (onward (F.opening j) c x.1) k rest ≡ hears k (asked o c x.1).answer ++ heard o (onward o c x.1) k (own rest)))
          same (a.standing, λ k. ap (λ (r : List ℕ). hears k (asked o c x.1).answer ++ r) (a.events k))

      go : (b : Bool) → eqb o.number (F.opening x.0).number ≡ b → Alike c (x ∷ rest)
      go true q =
          let h = here mine q x.0 (F.distinct i x.0 (eqb-true o.number (F.opening x.0).number q)) in
          record { standing = rw q h.0; events = λ k. rw q (h.1 k) }
      go false q =
          let apart = eqb-false o.number (F.opening x.0).number q in
          record {
            standing = rw q (ap (λ (y : Standing). served F y rest) (still x.0 apart c g x.1) ∙ none.standing);
            events = λ k. rw q (
                ap (λ (y : Outcome). hears k y.answer ++ heard_by F (onward (F.opening x.0) c x.1) k rest) (refused-by x.0 apart c g x.1)
                ∙ ap (λ (y : Standing). heard_by F y k rest) (still x.0 apart c g x.1)
                ∙ none.events k
                );
          }

  alike : (c : Standing) → Fine o n c.desk → (h : List (I × Action)) → Alike c h
  alike c g [] = record { standing = refl; events = λ k. refl }
  alike c g (x ∷ rest) = alike-more c g x rest (alike (onward o c x.1) (good-by o (form-at F i) n some few c g x.1) rest) (alike c g rest)

  -- ---- the theorem

  module _ (h : List (I × Action)) where
    abbrev fresh : Standing
    fresh = begun o n l

    fresh-good : Fine o n fresh.desk
    fresh-good = good-fresh o.number (Σ o) (S o) ((monitor_of o.table).verdict 0) n (states-some o.table (table-header o.table (form-at F i)))

    abbrev at : Standing
    at = reached o fresh (own h)

    at-is : desk_after F i n l h ≡ at
    at-is = (alike fresh fresh-good h).standing

    good-at : Fine o n (desk_after F i n l h).desk
    good-at = subst (λ (c : Standing). Fine o n c.desk) (sym at-is) (good-all o (form-at F i) n some few fresh fresh-good (own h))

    -- with its own opening nothing is refused by 24
    own-taken : (a : Action) → ¬ ((asked o at a).answer ≡ Err (WrongOpening 0))
    own-taken (Post k e) q = go ((next-right o (form-at F i) n l some few (own h)).post k e (WrongOpening 0) q)
      where
        go : (◌≡◌ {A = ℕ} 24 19) ⊎ (◌≡◌ {A = ℕ} 24 12) ⊎ (◌≡◌ {A = ℕ} 24 20) ⊎ (◌≡◌ {A = ℕ} 24 21) → ⊥
        go (inl z) = omega arith
        go (inr (inl z)) = omega arith
        go (inr (inr (inl z))) = omega arith
        go (inr (inr (inr z))) = omega arith
    own-taken Turn q = (next-right o (form-at F i) n l some few (own h)).turn (WrongOpening 0) q

    apart-numbers : (j : I) → ¬ (i ≡ j) → ¬ (o.number ≡ (F.opening j).number)
    apart-numbers j d e = d (F.distinct i j e)

    foreign-not : (j : I) (a : Action) → i ≡ j → ¬ ((asked (F.opening j) (desk_after F i n l h) a).answer ≡ Err (WrongOpening 0))
    foreign-not j a same =
        subst (λ (k : I). ¬ ((asked (F.opening k) (desk_after F i n l h) a).answer ≡ Err (WrongOpening 0))) same
        (subst (λ (c : Standing). ¬ ((asked o c a).answer ≡ Err (WrongOpening 0))) (sym at-is) (own-taken a))

    -- what a turn with the desk's own opening hears
    heard-right : (k e : ℕ) (s : State) (v : Verdict) → (asked o at Turn).answer ≡ Ok (Served.Heard k e s v) → Judged (alphabet_at F i) (property_at F i) (heard_by F fresh k h ++ (e ∷ [])) v
    heard-right k e s v q =
        let facts = (next-right o (form-at F i) n l some few (own h)).heard k e s v q in
        let after : reached o fresh (own h ++ (Turn ∷ [])) ≡ onward o at Turn = reached-last o fresh (own h) Turn in
        let events : heard o fresh k (own h ++ (Turn ∷ [])) ≡ heard_by F fresh k h ++ (e ∷ []) =
        heard-last o fresh k (own h) Turn
        ∙ ap (λ (y : Result Served Refusal). heard o fresh k (own h) ++ hears k y) q
        ∙ ap (λ (b : Bool). heard o fresh k (own h) ++ cond b (e ∷ []) []) (eq-eqb k k refl)
        ∙ ap (λ (r : List ℕ). r ++ (e ∷ [])) (sym ((alike fresh fresh-good h).events k)) in
        let shown : (monitor_of o.table).verdict (watch_at (reached o fresh (own h ++ (Turn ∷ []))).desk k).state ≡ v =
        ap (λ (c : Standing). (monitor_of o.table).verdict (watch_at c.desk k).state) after
        ∙ ap (λ (y : State). (monitor_of o.table).verdict y.number) (sym facts.2)
        ∙ sym facts.3 in
        subst (λ (w : List ℕ). Judged (alphabet_at F i) (property_at F i) w v) events
        (subst (Judged (alphabet_at F i) (property_at F i) (heard o fresh k (own h ++ (Turn ∷ [])))) shown
        (verdict-right (F.file i) o (F.built i) n l some few (own h ++ (Turn ∷ [])) k facts.0))

    verdict-at : (j : I) (k e : ℕ) (s : State) (v : Verdict) → (asked (F.opening j) (desk_after F i n l h) Turn).answer ≡ Ok (Served.Heard k e s v)
        → Judged (alphabet_at F j) (property_at F j) (heard_by F fresh k h ++ (e ∷ [])) v
    verdict-at j k e s v q = go (eqb o.number (F.opening j).number) refl
      where
        mine : (j : I) → i ≡ j → (asked (F.opening j) (desk_after F i n l h) Turn).answer ≡ Ok (Served.Heard k e s v) → Judged (alphabet_at F j) (property_at F j) (heard_by F fresh k h ++ (e ∷ [])) v
        mine j same =
            subst (λ (j : I). (asked (F.opening j) (desk_after F i n l h) Turn).answer ≡ Ok (Served.Heard k e s v) → Judged (alphabet_at F j) (property_at F j) (heard_by F fresh k h ++ (e ∷ [])) v) same
            (λ p. heard-right k e s v (subst (λ (c : Standing). (asked o c Turn).answer ≡ Ok (Served.Heard k e s v)) at-is p))

        go : (b : Bool) → eqb o.number (F.opening j).number ≡ b → Judged (alphabet_at F j) (property_at F j) (heard_by F fresh k h ++ (e ∷ [])) v
        go true p = mine j (F.distinct i j (eqb-true o.number (F.opening j).number p)) q
        go false p =
            let r = sym (ap (λ (y : Outcome). y.answer) (refused-by j (eqb-false o.number (F.opening j).number p) (desk_after F i n l h) good-at Turn)) ∙ q in
            let z : ◌≡◌ {A = ℕ} 0 1 = cc in absurd (omega arith)

    pub desk-right : DeskRight F i n l h
    desk-right = record {
      foreign = λ j a. (
        (λ q same. foreign-not j a same q),
        (λ apart. ap (λ (y : Outcome). y.answer) (refused-by j (apart-numbers j apart) (desk_after F i n l h) good-at a)),
      );
      kept = λ j a apart. still j (apart-numbers j apart) (desk_after F i n l h) good-at a;
      verdict = verdict-at;
    }
