-- States under distinct numbers: what is known of each that is held, and the theorem.
--     state-right     refused by 24 exactly with another opening, and otherwise demand 2's verdict for all events since the start
use mathlib.Core.Path.{◌≡◌, refl, sym, ap, ◌∙◌, subst}
use mathlib.Core.List.{List, ◌++◌}
use mathlib.Core.Bool.{true}
use Prim.Native.Nat.{ℕ, ◌<◌}
use Rattle.meaning.specs.Traces.{Word}
use Rattle.meaning.specs.Verdicts.{Judged}
use Rattle.meaning.specs.Monitors.{follow}
use Rattle.meaning.specs.TableFiles.{is_table, states_in}
use Rattle.meaning.specs.declared.Verdict.{Verdict}
use Rattle.meaning.specs.declared.State.{State}
use Rattle.table_layout.proofs.Form.{states-some, table-header}
use Rattle.moore.proofs.Words.{word-append, follow-append}
use Rattle.building.proofs.Running.{word_same}
use Rattle.opening_laws.specs.Laws.{Family, Held, start, run, alphabet_at, property_at, StateRight}
use Rattle.opening_laws.proofs.Answers.{Σ, m, inside, Ends, ends, foreign-if, foreign-not, own-taken, own-refused}

module _ {I : Type 0} (F : Family I) where
  pub form-at : (i : I) → is_table (F.opening i).table ≡ true
  form-at i = (F.built i).demand_3.form

  -- s is the state to which the events w lead from the start of opening i
  pub record Stands (i : I) (s : State) (w : List ℕ) : Type 0 where
    pub own : s.opening ≡ (F.opening i).number
    pub state : s.number ≡ follow (m (F.opening i) (form-at i)) 0 w
    pub word : Word (Σ (F.opening i) (form-at i)) w

  -- a run that is not refused is one with the opening of the state
  same-opening : (i j : I) (s : State) (w es : List ℕ) → Stands i s w → (r : State) (v : Verdict) → Ends (F.opening j) (form-at j) s es r v → Stands j s w
  same-opening i j s w es p r v e = subst (λ (k : I). Stands k s w) (F.distinct i j (sym p.own ∙ e.own)) p

  went : (j : I) (s : State) (w es : List ℕ) → Stands j s w → (r : State) (v : Verdict) → Ends (F.opening j) (form-at j) s es r v → Stands j r (w ++ es)
  went j s w es p r v e = record {
    own = ap (λ (q : State). q.opening) e.state;
    state =
        ap (λ (q : State). q.number) e.state
        ∙ ap (λ (k : ℕ). follow (m (F.opening j) (form-at j)) k es) p.state
        ∙ sym (follow-append (m (F.opening j) (form-at j)) 0 w es);
    word = word-append (Σ (F.opening j) (form-at j)) w es p.word e.word;
  }

  stands : {i : I} {s : State} {w : List ℕ} → Held F i s w → Stands i s w
  stands (start i) = record { own = refl; state = refl; word = tt }
  stands (run {i} {s} {w} j es r h q) =
      let e = ends (F.opening j) (form-at j) s es r q in
      went j s w es (same-opening i j s w es (stands h) r.state r.verdict e) r.state r.verdict e

  -- ---- the verdict

  to-rule : (i : I) (w : List ℕ) → Word (Σ (F.opening i) (form-at i)) w → Word (alphabet_at F i) w
  to-rule i w a = word_same (Σ (F.opening i) (form-at i)) (alphabet_at F i) (λ e. sym ((F.built i).demand_3.events e)) w a

  judged : (i : I) (s : State) (w : List ℕ) → Stands i s w → Judged (alphabet_at F i) (property_at F i) w ((m (F.opening i) (form-at i)).verdict s.number)
  judged i s w p =
      ((F.built i).demand_2.verdicts (F.opening i).table (F.built i).built w (to-rule i w p.word) ((m (F.opening i) (form-at i)).verdict s.number)).0
      (ap (m (F.opening i) (form-at i)).verdict (sym p.state))

  -- ---- the theorem

  module _ (i : I) (s : State) (w : List ℕ) (h : Held F i s w) where
    in-table : s.number < states_in (F.opening i).table
    in-table =
        subst (λ (k : ℕ). k < states_in (F.opening i).table) (sym (stands h).state)
        (inside (F.opening i) (form-at i) 0 w (states-some (F.opening i).table (table-header (F.opening i).table (form-at i))) (stands h).word)

    verdict-at : (j : I) (es : List ℕ) (r : State) (v : Verdict) → Ends (F.opening j) (form-at j) s es r v → Judged (alphabet_at F j) (property_at F j) (w ++ es) v
    verdict-at j es r v e =
        subst (Judged (alphabet_at F j) (property_at F j) (w ++ es)) (sym (e.shown ∙ ap (λ (q : State). (m (F.opening j) (form-at j)).verdict q.number) (sym e.state)))
        (judged j r (w ++ es) (went j s w es (same-opening i j s w es (stands h) r v e) r v e))

    pub state-right : StateRight F i s w
    state-right = record {
      foreign = λ j es. (
        (λ q same. foreign-not (F.opening j) (form-at j) s es ((stands h).own ∙ ap (λ (k : I). (F.opening k).number) same) q),
        (λ apart. foreign-if (F.opening j) (form-at j) s es (λ e. apart (F.distinct i j (sym (stands h).own ∙ e)))),
      );
      verdict = λ j es r q. verdict-at j es r.state r.verdict (ends (F.opening j) (form-at j) s es r q);
      taken = λ es a x. own-taken (F.opening i) (form-at i) s es (stands h).own in-table
          (word_same (alphabet_at F i) (Σ (F.opening i) (form-at i)) (F.built i).demand_3.events es a) x;
      refused = λ es x. own-refused (F.opening i) (form-at i) s es (stands h).own in-table x;
    }
