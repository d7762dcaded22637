-- Where the machine is lost is the place of the fault: up to there some further text makes the text fit, and with the byte there none does.
use mathlib.Core.Path.{◌≡◌, refl, ap, ◌∙◌, subst}
use mathlib.Core.Logic.{◌⊎◌, inl, inr, ⊎_elim}
use mathlib.Core.Bool.{false}
use mathlib.Core.List.{List, [], ◌∷◌, ◌++◌, append_assoc}
use Prim.Native.Nat.{ℕ, zero, suc, ◌≤◌, ◌<◌}
use native.Mathlib.Omega.{arith}
use lib.ListN.{length, take}
use borrow.Author.Tests.{eq-eqb}
use Rattle.meaning.specs.Grammar.{Fits, Viable, FaultAt}
use Rattle.grammar.specs.Machine.{State, operand, operator, digit, within, dead, Move, closed, resume, rows, step, run, is_dead, passed}
use Rattle.grammar.proofs.Fitting.{Each, look-each, passes, fitting}

-- a state from which some text ends well, and one such text
abbrev Live : State → Type 0
Live (operand d) = Unit {0}
Live (operator d) = Unit {0}
Live (digit d) = Unit {0}
Live (within b w q) = Live q
Live dead = ⊥

abbrev closes : ℕ → List ℕ
closes zero = []
closes (suc d) = 41 ∷ closes d

abbrev finish : State → List ℕ
finish (operand d) = 115 ∷ (48 ∷ closes d)
finish (operator d) = closes d
finish (digit d) = 48 ∷ closes d
finish (within b w q) = b ∷ (w ++ finish q)
finish dead = []

closes-end : (d : ℕ) → run (operator d) (closes d) ≡ operator 0
unfolding run
closes-end zero = refl
closes-end (suc d) = closes-end d

step-within : (b : ℕ) (w : List ℕ) (q : State) → step (within b w q) b ≡ record { state = resume w q; sign = [] }
step-within b w q = rw (eq-eqb b b refl)

within-run : (b : ℕ) (w : List ℕ) (q : State) (s : List ℕ) → run (within b w q) (b ∷ (w ++ s)) ≡ run q s
unfolding run
within-run b [] q s = ap (λ (m : Move). run m.state s) (step-within b [] q)
within-run b (c ∷ w) q s = ap (λ (m : Move). run m.state (c ∷ (w ++ s))) (step-within b (c ∷ w) q) ∙ within-run c w q s

finishes : (q : State) → Live q → run q (finish q) ≡ operator 0
unfolding run
finishes (operand d) l = closes-end d
finishes (operator d) l = closes-end d
finishes (digit d) l = closes-end d
finishes (within b w q) l = within-run b w q (finish q) ∙ finishes q l
finishes dead l = absurd l

-- a live state moves to a live one, or is lost
abbrev Stays : State → Type 0
Stays q = (q ≡ dead) ⊎ (Live q × (is_dead q ≡ false))

stays_closed : (d : ℕ) → Stays (closed d)
stays_closed zero = inl refl
stays_closed (suc d) = inr (tt, refl)

stays-resume : (w : List ℕ) (q : State) → Live q → Stays (resume w q)
stays-resume [] (operand d) l = inr (tt, refl)
stays-resume [] (operator d) l = inr (tt, refl)
stays-resume [] (digit d) l = inr (tt, refl)
stays-resume [] (within b w q) l = inr (l, refl)
stays-resume [] dead l = absurd l
stays-resume (c ∷ w) q l = inr (l, refl)

abbrev Keeps : ℕ → Move → Type 0
Keeps b m = Stays m.state

fine : {q : State} → Live q → is_dead q ≡ false → Stays q
fine l e = inr (l, e)

all_stay : (q : State) → Live q → Each Keeps (rows q)
all_stay (operand d) l = (fine tt refl, (fine tt refl, (fine tt refl, (fine tt refl, (fine tt refl, (fine tt refl, (fine tt refl, (fine tt refl, (fine tt refl, tt)))))))))
all_stay (operator d) l = (fine tt refl, (stays_closed d, (fine tt refl, (fine tt refl, (fine tt refl, (fine tt refl, (fine tt refl, (fine tt refl, tt))))))))
all_stay (digit d) l = (fine tt refl, (fine tt refl, (fine tt refl, (fine tt refl, tt))))
all_stay (within b w q) l = (stays-resume w q l, tt)
all_stay dead l = tt

stays : (q : State) (b : ℕ) → Live q → Stays (step q b).state
stays q b l = look-each Keeps (rows q) b (all_stay q l) (inl refl)

-- where the machine is lost: it lives up to there, and not with the byte there
record Halts (q : State) (s : List ℕ) : Type 0 where
  inside : passed q s ≤ length s
  live : Live (run q (take (passed q s) s))
  gone : passed q s < length s → run q (take (suc (passed q s)) s) ≡ dead

halts-lost : (q : State) (b : ℕ) (s : List ℕ) → Live q → (step q b).state ≡ dead → Halts q (b ∷ s)
unfolding run passed
halts-lost q b s l e = record { inside = rw e (omega arith); live = rw e l; gone = λ h. rw e e }

halts-on : (q : State) (b : ℕ) (s : List ℕ) → is_dead (step q b).state ≡ false → Halts (step q b).state s → Halts q (b ∷ s)
unfolding run passed
halts-on q b s e h = record { inside = rw e (omega (arith, h.inside)); live = rw e h.live; gone = rw e (λ u. h.gone (omega arith)) }

halts : (s : List ℕ) (q : State) → Live q → Halts q s
unfolding run passed
halts [] q l = record { inside = omega arith; live = l; gone = λ h. absurd (omega arith) }
halts (b ∷ s) q l = ⊎_elim (λ e. halts-lost q b s l e) (λ p. halts-on q b s p.1 (halts s (step q b).state p.0)) (stays q b l)

run-append : (u v : List ℕ) (q : State) → run q (u ++ v) ≡ run (run q u) v
unfolding run
run-append [] v q = refl
run-append (b ∷ u) v q = run-append u v (step q b).state

pub run-dead : (s : List ℕ) → run dead s ≡ dead
unfolding run
run-dead [] = refl
run-dead (b ∷ s) = run-dead s

-- a part of a text with further text that makes it fit: so has each shorter part
viable-less : (u v : List ℕ) → Viable (u ++ v) → Viable u
viable-less u v w = record { further = v ++ w.further; tree = w.tree; fits = subst (λ (l : List ℕ). Fits l w.tree) (append_assoc u v w.further) w.fits }

viable-front : (k : ℕ) (s : List ℕ) (p : ℕ) → k ≤ p → Viable (take p s) → Viable (take k s)
viable-front k s p h w = let e = cut k s p h in viable-less (take k s) e.0 (subst (λ (l : List ℕ). Viable l) e.1 w)
  where
    cut : (k : ℕ) (s : List ℕ) (p : ℕ) → k ≤ p → (v : List ℕ) × (take p s ≡ take k s ++ v)
    cut zero s p h = (take p s, refl)
    cut (suc k) [] zero h = absurd (omega arith)
    cut (suc k) [] (suc p) h = ([], refl)
    cut (suc k) (b ∷ s) zero h = absurd (omega arith)
    cut (suc k) (b ∷ s) (suc p) h = let r = cut k s p (omega arith) in (r.0, ap (λ (l : List ℕ). b ∷ l) r.1)

-- up to where the machine is lost
viable : (s : List ℕ) → Viable (take (passed (operand 0) s) s)
viable s =
    let u : List ℕ = take (passed (operand 0) s) s in
    let v : List ℕ = finish (run (operand 0) u) in
    let f = fitting (u ++ v) (run-append u v (operand 0) ∙ finishes (run (operand 0) u) (halts s (operand 0) tt).live) in
    record { further = v; tree = f.0; fits = f.1 }

-- a text over which the machine is lost is no beginning of one that fits
not-viable : (s : List ℕ) → run (operand 0) s ≡ dead → ¬ Viable s
not-viable s e w =
    let d : run (operand 0) (s ++ w.further) ≡ dead = run-append s w.further (operand 0) ∙ ap (λ (q : State). run q w.further) e ∙ run-dead w.further in
    let a : run (operand 0) (s ++ w.further) ≡ operator 0 = (passes w.fits).ends in
    let z : ◌≡◌ {A = ℕ} 0 1 = cc in absurd (omega arith)

-- the machine halts at the place of the fault
pub fault-at : (s : List ℕ) → FaultAt s (passed (operand 0) s)
fault-at s =
    let h = halts s (operand 0) tt in
    record {
      within = h.inside;
      before = λ k l. viable-front (suc k) s (passed (operand 0) s) l (viable s);
      here = λ l. not-viable (take (suc (passed (operand 0) s)) s) (h.gone l);
    }

not_earlier : {s : List ℕ} {p q : ℕ} → FaultAt s p → FaultAt s q → p < q → ⊥
not_earlier {s} {p} {q} f g l = f.here (omega (arith, g.within)) (g.before p l)

-- a text has one place of a fault
pub fault-unique : {s : List ℕ} {p q : ℕ} → FaultAt s p → FaultAt s q → p ≡ q
fault-unique {s} {p} {q} f g = omega (arith, not_earlier f g, not_earlier g f)
