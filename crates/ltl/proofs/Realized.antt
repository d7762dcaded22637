-- Each realizable label is the label of a continuation: the walk to the closed walk is its stem, and the closed walk its loop.
use mathlib.Core.Path.{◌≡◌, sym, ◌∙◌, subst, fun_ext}
use mathlib.Core.Logic.{inl, inr}
use mathlib.Core.List.{List, []}
use Prim.Native.Nat.{ℕ, suc, ◌^◌, ◌<◌}
use lib.Dec.{T}
use Rattle.meaning.specs.Traces.{Alphabet, Event, Lasso, at, Continuation}
use Rattle.ltl.specs.Sets.{on}
use Rattle.ltl.specs.Nodes.{Split, temporals}
use Rattle.ltl.specs.Valuation.{valued}
use Rattle.ltl.specs.Realizable.{realizable}
use Rattle.ltl.specs.Residuals.{before}
use Rattle.ltl.proofs.Unfolding.{Later}
use Rattle.ltl.proofs.Decidable.{dec_holds}
use Rattle.ltl.proofs.Labels.{LabelRight, label-unique}
use Rattle.ltl.proofs.Fairness.{run-right}
use Rattle.ltl.proofs.Walks.{Walk, Way, events, events-pos, Round}
use Rattle.ltl.proofs.Rounds.{State, event, after, after-edge, again, word}
use Rattle.ltl.proofs.Realizable.{Edge, Fair, realizable→}
use Rattle.ltl.proofs.Lassos.{label_of}
use Rattle.ltl.proofs.Tables.{Tabulates, before-is, before-lt}

-- a continuation whose label at 0 is x
pub record Realized (Σ : Alphabet) (ns : List Split) (x : ℕ) : Type 0 where
  pub lasso : Lasso
  pub continuation : Continuation Σ lasso
  pub is : label_of lasso ns 0 ≡ x

module _ {Σ : Alphabet} {ns : List Split} {profile fair : ℕ → ℕ → ℕ} (table : Tabulates Σ ns profile fair) where
  abbrev E : ℕ → ℕ → ℕ → Type 0
  E x e y = Edge Σ (2 ^ temporals ns) (before (2 ^ temporals ns) profile) x e y

  module _ {c x : ℕ} (r : Round E (Fair fair) (temporals ns) c) (w : Walk E x c) where
    abbrev lasso_of : Lasso
    lasso_of = record { stem = events w; loop = events r.walk; non_empty = events-pos r.walk }

    abbrev state : ℕ → State E c
    state i = after r.walk (record { label = x; rest = w }) i

    abbrev label_at : ℕ → ℕ
    label_at i = (state i).label

    abbrev event-at : ℕ → ℕ
    event-at i = event r.walk (state i).rest

    edge_at : (i : ℕ) → E (label_at i) (event-at i) (label_at (suc i))
    edge_at i = after-edge r.walk (record { label = x; rest = w }) i

    consistent : (i : ℕ) → (valued (event-at i) (label_at (suc i)) ns).label ≡ label_at i
    consistent i = sym (before-is table (event-at i) (label_at (suc i)) (edge_at i).event (edge_at i).to) ∙ (edge_at i).is

    fair-later : (q : ℕ) → q < temporals ns → (i : ℕ) → Later (λ n. T (on (valued (event-at n) (label_at (suc n)) ns).fairs q)) i
    fair-later q h i =
        let l = again r.walk (Fair fair q) (r.has q h) (record { label = x; rest = w }) i in
        record { time = l.time; after = l.after; there = rw (table.fair-is (event-at l.time) (label_at (suc l.time)) (edge_at l.time).event (edge_at l.time).to) at l.there }

    label-right : LabelRight (at lasso_of) 0 [] 0 x ns
    label-right = subst (λ (v : ℕ → ℕ). LabelRight v 0 [] 0 x ns) (fun_ext (word r.walk w)) (run-right event-at label_at ns consistent fair-later 0)

    realized-walk : x < 2 ^ temporals ns → Realized Σ ns x
    realized-walk h = record {
      lasso = lasso_of;
      continuation = λ i. subst (λ (e : ℕ). Event Σ e) (word r.walk w i) (edge_at i).event;
      is = sym (label-unique (at lasso_of) (dec_holds lasso_of) ns 0 x h label-right);
    }

  realized-way : {c x : ℕ} → Round E (Fair fair) (temporals ns) c → Way E x c → x < 2 ^ temporals ns → Realized Σ ns x
  realized-way {c} r (inl e) h = realized-walk r (subst (λ (n : ℕ). Walk E n c) (sym e) r.walk) h
  realized-way r (inr w) h = realized-walk r w h

  pub realized : (x : ℕ) → T (on (realizable Σ (2 ^ temporals ns) (before (2 ^ temporals ns) profile) fair (temporals ns)) x) → Realized Σ ns x
  realized x t =
      let p = realizable→ Σ (2 ^ temporals ns) (before (2 ^ temporals ns) profile) fair (temporals ns) (before-lt table) x t in
      realized-way p.1.round p.1.way p.0
