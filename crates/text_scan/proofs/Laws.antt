-- What a step of the pass shows, and what its end.
use mathlib.Core.Path.{◌≡◌, refl, sym, ap, ◌∙◌, subst}
use mathlib.Core.Bool.{false}
use mathlib.Core.List.{List, [], ◌∷◌, ◌++◌, append_assoc, append-nil}
use Prim.Native.Nat.{ℕ, zero, suc, ◌+◌, ◌-◌, ◌≤◌, ◌<◌}
use native.Mathlib.Nat.{zero-add}
use native.Mathlib.Numerals.{add-one}
use native.Mathlib.Omega.{arith}
use lib.ListN.{length, take, drop, get_or, set, drop_of_length-le}
use lib.Seq.{drop-cons}
use Rattle.std.specs.Prelude.{Option, Some, None}
use Rattle.grammar.specs.Machine.{State, operand, operator, dead, Move, closed, step, run, seen, is_dead, passed}
use Rattle.grammar.specs.Reading.{is_end}
use Rattle.grammar.proofs.Faults.{run-dead}
use Rattle.text_scan.specs.Modes.{state_of, sign_of, move_of, Scanning, Whole, Fault}
use Rattle.text_scan.specs.declared.Mode.{Mode}
use Rattle.text_scan.specs.declared.Mode.TheVariants.{Operand, Operator, Digit, Rue, Ue, E, Alse, Lse, Se, Greater, DashGreater}
use Rattle.text_scan.specs.declared.Step.{Step}

pub closed-pos : (d : ℕ) → (d ≡ 0 → ⊥) → closed d ≡ operator (d - 1)
closed-pos zero f = absurd (f refl)
closed-pos (suc d) f = ap operator (omega arith)

alive : (m : Mode) (d : ℕ) → is_dead (state_of m d) ≡ false
alive Operand d = refl
alive Operator d = refl
alive Digit d = refl
alive Rue d = refl
alive Ue d = refl
alive E d = refl
alive Alse d = refl
alive Lse d = refl
alive Se d = refl
alive Greater d = refl
alive DashGreater d = refl

-- only an operator at depth 0 ends a text
not_end : (m : Mode) (d : ℕ) → (m ≡ Operator → d ≡ 0 → ⊥) → is_end (state_of m d) ≡ false
not_end Operator zero f = absurd (f refl refl)
not_end Operator (suc d) f = refl
not_end Operand d f = refl
not_end Digit d f = refl
not_end Rue d f = refl
not_end Ue d f = refl
not_end E d f = refl
not_end Alse d f = refl
not_end Lse d f = refl
not_end Se d f = refl
not_end Greater d f = refl
not_end DashGreater d f = refl

from : (s : List ℕ) (i : ℕ) → i < length s → drop i s ≡ get_or s i 0 ∷ drop (i + 1) s
from s i h = drop-cons s i 0 h ∙ ap (λ (j : ℕ). get_or s i 0 ∷ drop j s) (sym (add-one i))

run-from : (s : List ℕ) (i : ℕ) (q : State) → i < length s → run q (drop i s) ≡ run (step q (get_or s i 0)).state (drop (i + 1) s)
unfolding run
run-from s i q h = ap (run q) (from s i h)

seen-from : (s : List ℕ) (i : ℕ) (q : State) (m : Move) → i < length s → step q (get_or s i 0) ≡ m
    → seen q (drop i s) ≡ m.sign ++ seen m.state (drop (i + 1) s)
unfolding seen
seen-from s i q m h e = ap (seen q) (from s i h) ∙ ap (λ (n : Move). n.sign ++ seen n.state (drop (i + 1) s)) e

passed_on : (s : List ℕ) (i : ℕ) (q : State) (m : Move) → i < length s → step q (get_or s i 0) ≡ m → is_dead m.state ≡ false
    → passed q (drop i s) ≡ suc (passed m.state (drop (i + 1) s))
unfolding passed
passed_on s i q m h e f = rw (from s i h, e, f)

passed-lost : (s : List ℕ) (i : ℕ) (q : State) → i < length s → (step q (get_or s i 0)).state ≡ dead → passed q (drop i s) ≡ 0
unfolding passed
passed-lost s i q h e = rw (from s i h, e)

take-stored : (ts : List ℕ) (n x : ℕ) → n < length ts → take (suc n) (set ts n x) ≡ take n ts ++ (x ∷ [])
take-stored [] n x h = absurd (omega arith)
take-stored (y ∷ ts) zero x h = refl
take-stored (y ∷ ts) (suc n) x h = ap (λ (l : List ℕ). y ∷ l) (take-stored ts n x (omega arith))

pub scanning-start : (s : List ℕ) → Scanning s 0 Operand 0 []
scanning-start s = record { runs = refl; sees = refl; far = sym (zero-add _) }

module _ {s : List ℕ} {i : ℕ} {m : Mode} {d : ℕ} {found : List ℕ} (p : Scanning s i m d found) (h : i < length s) where
  scanning-step : (r : Step) → step (state_of m d) (get_or s i 0) ≡ move_of r → Scanning s (i + 1) r.0 r.1 (found ++ sign_of r.2)
  scanning-step r q = record {
    runs = p.runs ∙ run-from s i (state_of m d) h ∙ ap (λ (n : Move). run n.state (drop (i + 1) s)) q;
    sees = p.sees ∙ ap (λ (l : List ℕ). found ++ l) (seen-from s i (state_of m d) (move_of r) h q) ∙ sym (append_assoc found (sign_of r.2) _);
    far = let e = passed_on s i (state_of m d) (move_of r) h q (alive r.0 r.1) in omega (arith, p.far);
  }

  -- a step with no sign
  pub scanning_kept : (r : Step) → step (state_of m d) (get_or s i 0) ≡ move_of r → r.2 ≡ None → Scanning s (i + 1) r.0 r.1 found
  scanning_kept r q e =
      subst (λ (l : List ℕ). Scanning s (i + 1) r.0 r.1 l) (ap (λ (o : Option ℕ). found ++ sign_of o) e ∙ append-nil found) (scanning-step r q)

  pub found-lost : (step (state_of m d) (get_or s i 0)).state ≡ dead → Fault s i
  found-lost q = record {
    fails = ap is_end (p.runs ∙ run-from s i (state_of m d) h ∙ ap (λ (z : State). run z (drop (i + 1) s)) q ∙ run-dead (drop (i + 1) s));
    place = let e = passed-lost s i (state_of m d) h q in omega (arith, p.far);
  }

-- the sign of a step, stored after the n in front
pub scanning-stored : {s : List ℕ} (ts : List ℕ) {i : ℕ} (n : ℕ) {d : ℕ} {m : Mode} (r : Step) (x : ℕ) → Scanning s i m d (take n ts) → i < length s → step (state_of m d) (get_or s i 0) ≡ move_of r → r.2 ≡ Some x
    → n < length ts → Scanning s (i + 1) r.0 r.1 (take (n + 1) (set ts n x))
scanning-stored {s} ts {i} n r x p h q e l =
    let f : take n ts ++ sign_of r.2 ≡ take (n + 1) (set ts n x) = ap (λ (o : Option ℕ). take n ts ++ sign_of o) e ∙ rw add-one (sym (take-stored ts n x l)) in
    subst (λ (l : List ℕ). Scanning s (i + 1) r.0 r.1 l) f (scanning-step p h r q)

-- the pass has come to the end
record Over (s : List ℕ) (m : Mode) (d : ℕ) (found : List ℕ) : Type 0 where
  runs : run (operand 0) s ≡ state_of m d
  sees : seen (operand 0) s ≡ found
  far : passed (operand 0) s ≡ length s

over : {s : List ℕ} {i : ℕ} {m : Mode} {d : ℕ} {found : List ℕ} → Scanning s i m d found → i ≡ length s → Over s m d found
unfolding run seen passed
over {s} {i} {m} {d} {found} p h =
    let e : drop i s ≡ [] = drop_of_length-le s (omega arith) in
    record { runs = rw e at p.runs; sees = (rw e at p.sees) ∙ append-nil found; far = let z : passed (operand 0) s ≡ i + 0 = rw e at p.far in omega arith }

pub found-fits : {s ts : List ℕ} {i n d : ℕ} {m : Mode} → Scanning s i m d (take n ts) → i ≡ length s → m ≡ Operator → d ≡ 0 → n ≤ i → Whole s ts n
found-fits p e a b l = let o = over p e in record { ends = ap is_end o.runs ∙ rw (a, b); signs = sym o.sees; inside = omega arith }

pub found-short : {s : List ℕ} {i : ℕ} {m : Mode} {d : ℕ} {found : List ℕ} → Scanning s i m d found → i ≡ length s → (m ≡ Operator → d ≡ 0 → ⊥) → Fault s (length s)
found-short {m = m} {d} p e f = let o = over p e in record { fails = ap is_end o.runs ∙ not_end m d f; place = sym o.far }

-- what a step and the end of a pass show
pub ruleset pass = (scanning-stored, scanning_kept, found-lost, found-fits, found-short)
