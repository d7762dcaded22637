-- Truth at a position depends only on the events from there on: it moves with them to another word, past a finite beginning, and round a lasso's loop.
use mathlib.Core.Path.{◌≡◌, sym, ap, ◌∙◌, subst}
use mathlib.Core.Logic.{◌↔◌, inl, inr}
use mathlib.Core.List.{List, [], ◌∷◌}
use Prim.Native.Nat.{ℕ, zero, suc, ◌+◌, ◌-◌, ◌≤◌}
use native.Mathlib.Nat.{suc-add, add-mod_right}
use native.Mathlib.Omega.{arith}
use lib.ListN.{length}
use Rattle.meaning.specs.Traces.{Lasso, turn}
use Rattle.meaning.specs.Bytes.{bit}
use Rattle.meaning.specs.Formulas.{Formula, falsum, verum, signal, at_least, neg, and, or, implies, iff, xor, next, until, eventually, always, Until, Sat, Holds, count_on}

-- w from i on is v from j on
pub record Agree (w : ℕ → ℕ) (i : ℕ) (v : ℕ → ℕ) (j : ℕ) : Type 0 where
  pub same : (k : ℕ) → w (i + k) ≡ v (j + k)

agree-sym : {w v : ℕ → ℕ} {i j : ℕ} → Agree w i v j → Agree v j w i
agree-sym h = record { same = λ k. sym (h.same k) }

agree_at : {w v : ℕ → ℕ} {i j : ℕ} → Agree w i v j → {m n : ℕ} → i ≤ m → m + j ≡ n + i → Agree w m v n
agree_at {w} {v} {i} {j} h {m} {n} l e = record {
  same = λ k.
      let x : m + k ≡ i + (m - i + k) = omega arith in
      let y : j + (m - i + k) ≡ n + k = omega arith in
      ap w x ∙ h.same (m - i + k) ∙ ap v y;
}

agree-here : {w v : ℕ → ℕ} {i j : ℕ} → Agree w i v j → w i ≡ v j
agree-here {w} {v} {i} {j} h =
    let x : i ≡ i + 0 = omega arith in
    let y : j + 0 ≡ j = omega arith in
    ap w x ∙ h.same 0 ∙ ap v y

-- an until moves with its parts
until-shift : {A B A' B' : ℕ → Type 0} {i j : ℕ} → ((m n : ℕ) → i ≤ m → m + j ≡ n + i → A m → A' n)
    → ((m n : ℕ) → i ≤ m → m + j ≡ n + i → B m → B' n) → Until A B i → Until A' B' j
until-shift {i} {j} f g u =
    let l : i ≤ u.time = u.after in record {
      time = j + (u.time - i);
      after = omega arith;
      there = g u.time (j + (u.time - i)) (omega arith) (omega arith) u.there;
      before = λ k p q. f (i + (k - j)) k (omega arith) (omega arith) (u.before (i + (k - j)) (omega arith) (omega arith));
    }

pub shift : {w v : ℕ → ℕ} (f : Formula) {i j : ℕ} → Agree w i v j → Sat w f i → Sat v f j
shift falsum h s = s
shift verum h s = s
shift (signal x) h s = subst (λ (e : ℕ). bit x e ≡ 1) (agree-here h) s
shift (at_least x n u) h s = subst (λ (e : ℕ). (n ≤ count_on 4 x e) × (count_on 4 x e ≤ u)) (agree-here h) s
shift (neg a) h s = λ t. s (shift a (agree-sym h) t)
shift (and a b) h s = (shift a h s.0, shift b h s.1)
shift (or a b) h (inl s) = inl (shift a h s)
shift (or a b) h (inr s) = inr (shift b h s)
shift (implies a b) h s = λ t. shift b h (s (shift a (agree-sym h) t))
shift (iff a b) h s = (λ t. shift b h (s.0 (shift a (agree-sym h) t)), λ t. shift a h (s.1 (shift b (agree-sym h) t)))
shift (xor a b) h (inl s) = inl (shift a h s.0, λ t. s.1 (shift b (agree-sym h) t))
shift (xor a b) h (inr s) = inr (λ t. s.0 (shift a (agree-sym h) t), shift b h s.1)
shift (next a) h s = shift a (agree_at h (omega arith) (omega arith)) s
shift (until a b) h s = until-shift (λ m n l e. shift a (agree_at h l e)) (λ m n l e. shift b (agree_at h l e)) s
shift (eventually a) h s = until-shift (λ m n l e t. t) (λ m n l e. shift a (agree_at h l e)) s
shift (always a) h s = λ u. s (until-shift (λ m n l e t. t) (λ m n l e k t. k (shift a (agree-sym (agree_at (agree-sym h) l e)) t)) u)

pub shift-iff : {w v : ℕ → ℕ} (f : Formula) {i j : ℕ} → Agree w i v j → Sat w f i ↔ Sat v f j
shift-iff f h = (shift f h, shift f (agree-sym h))

-- round the loop once more
pub turn-period : (s l : List ℕ) (i : ℕ) → length s ≤ i → turn s l (i + length l) ≡ turn s l i
turn-period [] l i h = rw add-mod_right
turn-period (x ∷ s) l zero h = absurd (omega arith)
turn-period (x ∷ s) l (suc i) h = rw suc-add (turn-period s l i (omega arith))

pub holds-period : (ρ : Lasso) (i : ℕ) (f : Formula) → length ρ.stem ≤ i → Holds ρ (i + length ρ.loop) f ↔ Holds ρ i f
holds-period ρ i f h = shift-iff f (record {
  same = λ k.
      let e : i + length ρ.loop + k ≡ i + k + length ρ.loop = omega arith in rw e (turn-period ρ.stem ρ.loop (i + k) (omega arith));
})
