-- What a watch remembers of the events that it heard.
--     Heard             its state, its count and when a verdict first stood in it are those of a run over them
--     heard-fresh       none are heard by a fresh watch
--     heard-one         one event more
--     filled-stood      it is filled exactly if a verdict stood
--     stood-while       over a built table, a verdict stood exactly if the last is decided: decided verdicts stay
use mathlib.Core.Path.{◌≡◌, refl, sym, ap, ◌∙◌, subst}
use mathlib.Core.Logic.{◌↔◌}
use mathlib.Core.List.{List, [], ◌∷◌, ◌++◌}
use mathlib.Core.Bool.{Bool, true, false, cond, not, ◌&&◌}
use Prim.Native.Nat.{ℕ, zero, suc, ◌+◌}
use native.Mathlib.Omega.{arith}
use lib.Dec.{eqb}
use lib.ListN.{length, take, drop, length-append, take-append-drop}
use lib.Seq.{take-length}
use Rattle.meaning.specs.Traces.{Alphabet, Word}
use Rattle.meaning.specs.Verdicts.{Property, Judged}
use Rattle.meaning.specs.Monitors.{Monitor, follow, shows}
use Rattle.meaning.specs.RuleFiles.{alphabet_of, property_of}
use Rattle.meaning.specs.TableFiles.{alphabet_in, signals_in, monitor_of}
use Rattle.meaning.specs.Runs.{decides, decided_from}
use Rattle.meaning.specs.Desks.{first_stood, fresh_watch, without_oldest}
use Rattle.meaning.specs.declared.Verdict.{Verdict}
use Rattle.meaning.specs.declared.Verdict.TheVariants.{Undecided, Satisfied, Violated, Moot}
use Rattle.meaning.specs.declared.Watch.{Watch}
use Rattle.table_layout.proofs.Form.{table-header, states-some}
use Rattle.moore.proofs.Words.{follow-append}
use Rattle.walk.proofs.Residual.{judged-stays}
use Rattle.building.specs.Build.{BuiltRight}
use Rattle.building.specs.Running.{CountRight, RunRight}
use Rattle.building.proofs.Running.{word_same, word-run, built-run}
use Rattle.std.proofs.Common.{Option, Some, None}

-- ---- the count of a run, with an event more

-- what stood so far, and where nothing did, whether it now does, after n events
abbrev noted : Option ℕ → Bool → ℕ → Option ℕ
noted (Some k) b n = Some k
noted None b n = cond b (Some n) None

-- b says whether a verdict stood already after k events, before all of these
noted-past : (b : Bool) (k : ℕ) (r r' : Option ℕ) (c : Bool) (n : ℕ) → r' ≡ noted r c n → cond b (Some k) r' ≡ noted (cond b (Some k) r) c n
noted-past true k r r' c n q = refl
noted-past false k r r' c n q = q

decided-one : (m : Monitor) (n s : ℕ) (es : List ℕ) (e k : ℕ) → k ≡ n + length es + 1
    → decided_from m n s (es ++ (e ∷ [])) ≡ noted (decided_from m n s es) (decides (m.verdict (m.next (follow m s es) e))) k
unfolding decided_from
decided-one m n s [] e k q =
    let p : suc n ≡ k = omega arith in
    noted-past (decides (m.verdict s)) n None _ _ k (ap (λ (j : ℕ). cond (decides (m.verdict (m.next s e))) (Some j) None) p)
decided-one m n s (x ∷ es) e k q =
    noted-past (decides (m.verdict s)) n (decided_from m (suc n) (m.next s x) es) _ _ k (decided-one m (suc n) (m.next s x) es e k (omega arith))

-- ---- a watch

module _ (m : Monitor) where
  pub record Heard (w : Watch) (es : List ℕ) : Type 0 where
    pub state : w.state ≡ follow m 0 es
    pub count : w.heard ≡ length es
    pub first : first_stood w ≡ decided_from m 0 0 es

  pub heard-fresh : (n : ℕ) → Heard (fresh_watch n (m.verdict 0)) []
  unfolding decided_from
  heard-fresh n = record { state = refl; count = refl; first = go (decides (m.verdict 0)) }
    where
      go : (b : Bool) → cond {A = Option ℕ} (eqb (cond b 1 0) 0) None (Some 0) ≡ cond b (Some 0) None
      go true = refl
      go false = refl

  -- an event fills the number exactly if none stood, and the verdict is decided
  first_one : (w : Watch) (s : ℕ) (v : Verdict) → first_stood (without_oldest w s v) ≡ noted (first_stood w) (decides v) (w.heard + 1)
  first_one w s v = go (eqb w.filled 0) (decides v) refl
    where
      go : (a b : Bool) → eqb w.filled 0 ≡ a
          → cond {A = Option ℕ} (eqb (cond (a && b) 1 w.filled) 0) None (Some (cond (a && b) (w.heard + 1) w.first)) ≡ noted (cond a None (Some w.first)) b (w.heard + 1)
      go true true q = refl
      go true false q = rw q
      go false b q = rw q

  -- the event e is heard
  pub heard-one : (w : Watch) (es : List ℕ) (e : ℕ) → Heard w es → Heard (without_oldest w (m.next w.state e) (m.verdict (m.next w.state e))) (es ++ (e ∷ []))
  heard-one w es e h = record {
    state = ap (λ (s : ℕ). m.next s e) h.state ∙ sym (follow-append m 0 es (e ∷ []));
    count = omega (arith, h.count, length-append es (e ∷ []));
    first =
        first_one w (m.next w.state e) (m.verdict (m.next w.state e))
        ∙ rw (h.first, h.state) (sym (decided-one m 0 0 es e (w.heard + 1) (omega (arith, h.count))));
  }

-- ---- whether a verdict stood

abbrev pub stood : Option ℕ → Bool
stood (Some k) = true
stood None = false

pub filled-stood : (w : Watch) → not (eqb w.filled 0) ≡ stood (first_stood w)
filled-stood w = go (eqb w.filled 0)
  where
    go : (b : Bool) → not b ≡ stood (cond b None (Some w.first))
    go true = refl
    go false = refl

word_cut : (Σ : Alphabet) (k : ℕ) (es : List ℕ) → Word Σ es → Word Σ (take k es) × Word Σ (drop k es)
word_cut Σ zero es a = (tt, a)
word_cut Σ (suc k) [] a = (tt, tt)
word_cut Σ (suc k) (e ∷ es) a = let h = word_cut Σ k es a.1 in ((a.0, h.0), h.1)

module _ (file t : List ℕ) (b : BuiltRight file t) (es : List ℕ) (a : Word (alphabet_of b.rule) es) where
  abbrev Σ : Alphabet
  Σ = alphabet_of b.rule

  abbrev L : Property
  L = property_of b.rule

  abbrev m : Monitor
  m = monitor_of t

  says : (w : List ℕ) → Word Σ w → (v : Verdict) → (shows m w ≡ v) ↔ Judged Σ L w v
  says = b.demand_2.verdicts t b.built

  -- a decided verdict after the first k events is the one after all
  stays : (k : ℕ) (v : Verdict) → decides v ≡ true → shows m (take k es) ≡ v → true ≡ decides (shows m es)
  stays k v d q =
      let c = word_cut Σ k es a in
      let j : Judged Σ L (take k es ++ drop k es) v = judged-stays Σ L (take k es) (drop k es) c.1 v d ((says (take k es) c.0 v).0 q) in
      sym (ap decides ((says es a v).1 (subst (λ (w : List ℕ). Judged Σ L w v) (take-append-drop k es) j)) ∙ d)

  -- where the verdict after the first k is not undecided
  stands : (k : ℕ) → ¬ Judged Σ L (take k es) Undecided → (v : Verdict) → shows m (take k es) ≡ v → true ≡ decides (shows m es)
  stands k u Satisfied q = stays k Satisfied refl q
  stands k u Violated q = stays k Violated refl q
  stands k u Moot q = stays k Moot refl q
  stands k u Undecided q = absurd (u ((says (take k es) (word_cut Σ k es a).0 Undecided).0 q))

  -- the run's count is right
  count-right : CountRight Σ L es (decided_from m 0 0 es)
  count-right =
      let form = b.demand_3.form in
      let own = word_same Σ (alphabet_in t (signals_in t)) b.demand_3.events es a in
      (subst (RunRight Σ L es) (word-run t form 0 es (states-some t (table-header t form)) own) (built-run file t b es a)).1

  pub stood-while : stood (decided_from m 0 0 es) ≡ decides (shows m es)
  stood-while = go (decided_from m 0 0 es) count-right
    where
      go : (d : Option ℕ) → CountRight Σ L es d → stood d ≡ decides (shows m es)
      go (Some k) r = stands k r.1 (shows m (take k es)) refl
      go None r = sym (ap decides ((says es a Undecided).1 (subst (λ (w : List ℕ). Judged Σ L w Undecided) (take-length es) (r (length es) (omega arith)))))
