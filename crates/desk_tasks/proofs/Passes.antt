-- What a pass over a row finds.
--     at                 a number of a row, and none where it is none of the row
--     Kept, pass_kept    what it keeps
--     pass-foreign, pass-wrong, pass-waits, pass-later   the lowest number at which each test holds
use mathlib.Core.Path.{◌≡◌, refl, ap, ◌∙◌}
use mathlib.Core.Logic.{◌⊎◌, inl, inr}
use mathlib.Core.List.{List}
use mathlib.Core.Bool.{Bool, true, false, cond, not, ◌&&◌}
use Prim.Native.Nat.{ℕ, zero, suc, ◌<◌}
use native.Mathlib.Omega.{arith}
use native.Mathlib.Decide.{dec_lt}
use borrow.Author.Tests.{lt-ltb, le-ltb}
use lib.Dec.{ltb, eqb}
use Rattle.std.proofs.Common.{Option, Some, None}
use Rattle.sequences.specs.Tabulate.{least_below}
use Rattle.sequences.proofs.Loops.{least-is}
use Rattle.meaning.specs.Desks.{watch_at}
use Rattle.meaning.specs.declared.Watch.{Watch}
use Rattle.watches.specs.Fitting.{fits_in}
use Rattle.desk_tasks.specs.declared.Task.{Task}
use Rattle.desk_tasks.specs.Tasks.{found, look_of, pass_over}

-- ---- the lowest index below k at which p holds, and x where there is none, found from above

abbrev pub at : ℕ → ℕ → Option ℕ
at n j = cond (ltb j n) (Some j) None

abbrev pub lowest : ℕ → (ℕ → Bool) → Option ℕ → Option ℕ
lowest zero p x = x
lowest (suc k) p x = lowest k p (found (p k) k x)

-- o is the lowest such index
record Hit (k : ℕ) (p : ℕ → Bool) (o : Option ℕ) : Type 0 where
  j : ℕ
  is : o ≡ Some j
  inside : j < k
  here : p j ≡ true
  before : (i : ℕ) → i < j → p i ≡ false

abbrev Lowest : ℕ → (ℕ → Bool) → Option ℕ → Option ℕ → Type 0
Lowest k p x o = Hit k p o ⊎ ((o ≡ x) × ((i : ℕ) → i < k → p i ≡ false))

one_more : (k : ℕ) (p : ℕ → Bool) (x o : Option ℕ) (b : Bool) → p k ≡ b → Lowest k p (found b k x) o → Lowest (suc k) p x o
one_more k p x o b e (inl h) = inl (record { j = h.j; is = h.is; inside = omega (arith, h.inside); here = h.here; before = h.before })
one_more k p x o true e (inr h) = inl (record { j = k; is = h.0; inside = omega arith; here = e; before = h.1 })
one_more k p x o false e (inr h) = inr (h.0, λ i l. go i l (dec_lt i k))
  where
    go : (i : ℕ) → i < suc k → Dec (i < k) → p i ≡ false
    go i l (yes b) = h.1 i b
    go i l (no q) = let end : i ≡ k = omega arith in ap p end ∙ e

lowest-is : (k : ℕ) (p : ℕ → Bool) (x : Option ℕ) → Lowest k p x (lowest k p x)
lowest-is zero p x = inr (refl, λ i l. absurd (omega arith))
lowest-is (suc k) p x = one_more k p x (lowest k p (found (p k) k x)) (p k) refl (lowest-is k p (found (p k) k x))

pub lowest-least : (n : ℕ) (p : ℕ → Bool) → lowest n p None ≡ at n (least_below n p)
lowest-least n p = go (lowest n p None) (lowest-is n p None)
  where
    go : (o : Option ℕ) → Lowest n p None o → o ≡ at n (least_below n p)
    go o (inl h) = let is : least_below n p ≡ h.j = least-is n p h.j (omega (arith, h.inside)) h.before (λ _. h.here) in rw (is, lt-ltb h.j n h.inside) h.is
    go o (inr h) = let is : least_below n p ≡ n = least-is n p n (omega arith) h.1 (λ l. absurd (omega arith)) in rw (is, le-ltb n n (omega arith)) h.0

-- ---- the pass

pub record Kept (s r : Task) : Type 0 where
  pub request : r.request ≡ s.request
  pub signals : r.signals ≡ s.signals
  pub states : r.states ≡ s.states
  pub table : r.table ≡ s.table
  pub mask : r.mask ≡ s.mask
  pub length : r.length ≡ s.length
  pub last : r.last ≡ s.last
  pub opening : r.opening ≡ s.opening

module _ (d : List Watch) where
  pub pass_kept : (k : ℕ) (s : Task) → Kept s (pass_over d k s)
  unfolding pass_over
  pass_kept zero s = record { request = refl; signals = refl; states = refl; table = refl; mask = refl; length = refl; last = refl; opening = refl }
  pass_kept (suc k) s =
      let h = pass_kept k (look_of s (watch_at d k) k) in
      record { request = h.request; signals = h.signals; states = h.states; table = h.table; mask = h.mask; length = h.length; last = h.last; opening = h.opening }

  pub pass-foreign : (k : ℕ) (s : Task) → (pass_over d k s).foreign ≡ lowest k (λ i. not (eqb (watch_at d i).opening s.opening)) s.foreign
  unfolding pass_over
  pass-foreign zero s = refl
  pass-foreign (suc k) s = pass-foreign k (look_of s (watch_at d k) k)

  pub pass-wrong : (k : ℕ) (s : Task) → (pass_over d k s).wrong ≡ lowest k (λ i. not (fits_in s.mask s.states (watch_at d i))) s.wrong
  unfolding pass_over
  pass-wrong zero s = refl
  pass-wrong (suc k) s = pass-wrong k (look_of s (watch_at d k) k)

  pub pass-waits : (k : ℕ) (s : Task) → (pass_over d k s).waits ≡ lowest k (λ i. ltb 0 (watch_at d i).waiting) s.waits
  unfolding pass_over
  pass-waits zero s = refl
  pass-waits (suc k) s = pass-waits k (look_of s (watch_at d k) k)

  pub pass-later : (k : ℕ) (s : Task) → (pass_over d k s).later ≡ lowest k (λ i. ltb 0 (watch_at d i).waiting && ltb s.last i) s.later
  unfolding pass_over
  pass-later zero s = refl
  pass-later (suc k) s = pass-later k (look_of s (watch_at d k) k)
