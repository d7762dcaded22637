-- Ascending lists c, c + 1, .., and what it says of a row of successors that the states it meets first are the next numbers in order.
use mathlib.Core.Path.{◌≡◌, refl, sym, ap, ap₂, ◌∙◌, subst}
use mathlib.Core.List.{List, [], ◌∷◌, ◌++◌, nil≢cons, cons≢nil, head-eq_of_cons-eq, tail-eq_of_cons-eq}
use mathlib.Core.Bool.{true, false, ◌||◌}
use Prim.Native.Nat.{ℕ, zero, suc, ◌+◌, ◌≤◌, ◌<◌, suc-le-suc}
use native.Mathlib.Nat.{not-suc-le-zero, le_of_suc-le-suc, suc-add, add-suc, add-zero, zero-add}
use native.Mathlib.Decide.{ℕ_discrete, dec_lt}
use native.Mathlib.Omega.{arith}
use lib.Dec.{eqb}
use lib.ListN.{length, get_or}
use borrow.Author.Tests.{eq-eqb, ne_eqb}
use Rattle.sequences.specs.Tabulate.{tabulate, up_to}
use Rattle.meaning.specs.Monitors.{member, newly_met}

-- c, c + 1, .., c + k - 1
abbrev pub from : ℕ → ℕ → List ℕ
from c zero = []
from c (suc k) = c ∷ from (suc c) k

tabulate-from : (n c : ℕ) (f : ℕ → ℕ) → ((i : ℕ) → f i ≡ c + i) → tabulate n f ≡ from c n
tabulate-from zero c f h = refl
tabulate-from (suc n) c f h = ap₂ ◌∷◌ (h zero ∙ add-zero c) (tabulate-from n (suc c) (λ i. f (suc i)) (λ i. h (suc i) ∙ add-suc c i ∙ sym (suc-add c i)))

pub up_to-from : (n : ℕ) → up_to n ≡ from 0 n
up_to-from n = tabulate-from n 0 (λ i. i) (λ i. sym (zero-add i))

pub from-length : (c k : ℕ) → length (from c k) ≡ k
from-length c zero = refl
from-length c (suc k) = ap suc (from-length (suc c) k)

pub from-append : (c j k : ℕ) → from c j ++ from (c + j) k ≡ from c (j + k)
from-append c zero k = ap₂ from (add-zero c) (sym (zero-add k))
from-append c (suc j) k =
    ap (λ (l : List ℕ). c ∷ l) (ap (λ (x : ℕ). from (suc c) j ++ from x k) (add-suc c j ∙ sym (suc-add c j)) ∙ from-append (suc c) j k) ∙ ap (from c) (sym (suc-add j k))

-- both parts of an ascending list are
pub record Split (c : ℕ) (l l' : List ℕ) : Type 0 where
  pub front : l ≡ from c (length l)
  pub back : l' ≡ from (c + length l) (length l')

pub from-split : (c n : ℕ) (l l' : List ℕ) → l ++ l' ≡ from c n → Split c l l'
from-split c n [] l' e = record { front = refl; back = e ∙ ap₂ from (sym (add-zero c)) (sym (from-length c n) ∙ ap length (sym e)) }
from-split c zero (a ∷ l) l' e = absurd (cons≢nil e)
from-split c (suc n) (a ∷ l) l' e =
    let r = from-split (suc c) n l l' (tail-eq_of_cons-eq e) in
    record { front = ap₂ ◌∷◌ (head-eq_of_cons-eq e) r.front; back = r.back ∙ ap (λ (x : ℕ). from x (length l')) (suc-add c (length l) ∙ sym (add-suc c (length l))) }

member-yes : (c k t : ℕ) → c ≤ t → t < c + k → member t (from c k) ≡ true
member-yes c zero t h l = absurd (omega arith)
member-yes c (suc k) t h l = go (ℕ_discrete t c) (member-yes (suc c) k t)
  where
    go : Dec (t ≡ c) → (suc c ≤ t → t < suc c + k → member t (from (suc c) k) ≡ true) → (eqb t c || member t (from (suc c) k)) ≡ true
    go (yes e) r = rw (eq-eqb t c e)
    go (no e) r = rw (ne_eqb t c e) (r (omega arith) (omega arith))

member-no : (c k t : ℕ) → c + k ≤ t → member t (from c k) ≡ false
member-no c zero t h = refl
member-no c (suc k) t h = rw (ne_eqb t c (omega arith)) (member-no (suc c) k t (omega arith))

-- ---- a row of successors, met where the states below c are known
-- t stands in the row before place i
pub record Earlier (ts : List ℕ) (i t : ℕ) : Type 0 where
  pub index : ℕ
  pub before : index < i
  pub is : get_or ts index 0 ≡ t

further : {ts : List ℕ} {i t : ℕ} (a : ℕ) → Earlier ts i t → Earlier (a ∷ ts) (suc i) t
further a e = record { index = suc e.index; before = suc-le-suc e.before; is = e.is }

-- all are below b then; a number from c on stands in it only after all from c on that are less; and all from c on to b stand in it
pub record Row (c b : ℕ) (ts : List ℕ) : Type 0 where
  pub below : (i : ℕ) → i < length ts → get_or ts i 0 < b
  pub order : (i t : ℕ) → i < length ts → c ≤ t → t < get_or ts i 0 → Earlier ts i t
  pub found : (t : ℕ) → c ≤ t → t < b → Earlier ts (length ts) t

-- a state below c is not met anew
row_old : {c b : ℕ} {ts : List ℕ} (a : ℕ) → a < c → c ≤ b → Row c b ts → Row c b (a ∷ ts)
row_old {c} {b} {ts} a h m r = record { below = below; order = order; found = λ t l n. further a (r.found t l n) }
  where
    below : (i : ℕ) → i < suc (length ts) → get_or (a ∷ ts) i 0 < b
    below zero l = omega arith
    below (suc i) l = r.below i (le_of_suc-le-suc l)

    order : (i t : ℕ) → i < suc (length ts) → c ≤ t → t < get_or (a ∷ ts) i 0 → Earlier (a ∷ ts) i t
    order zero t l n o = absurd (omega arith)
    order (suc i) t l n o = further a (r.order i t (le_of_suc-le-suc l) n o)

-- state c is met anew
row_new : {c b : ℕ} {ts : List ℕ} (a : ℕ) → a ≡ c → c < b → Row (suc c) b ts → Row c b (a ∷ ts)
row_new {c} {b} {ts} a e m r = record { below = below; order = order; found = λ t l n. at (length ts) t l (λ k. r.found t k n) }
  where
    below : (i : ℕ) → i < suc (length ts) → get_or (a ∷ ts) i 0 < b
    below zero l = omega arith
    below (suc i) l = r.below i (le_of_suc-le-suc l)

    at : (i t : ℕ) → c ≤ t → (suc c ≤ t → Earlier ts i t) → Earlier (a ∷ ts) (suc i) t
    at i t l f = go (ℕ_discrete t c)
      where
        go : Dec (t ≡ c) → Earlier (a ∷ ts) (suc i) t
        go (yes q) = record { index = 0; before = omega arith; is = e ∙ sym q }
        go (no q) = further a (f (omega arith))

    order : (i t : ℕ) → i < suc (length ts) → c ≤ t → t < get_or (a ∷ ts) i 0 → Earlier (a ∷ ts) i t
    order zero t l n o = absurd (omega arith)
    order (suc i) t l n o = at i t n (λ k. r.order i t (le_of_suc-le-suc l) k o)

-- the list of known states with one more
known-suc : (c a : ℕ) → a ≡ c → from 0 c ++ (a ∷ []) ≡ from 0 (suc c)
known-suc c a e =
    ap (λ (x : ℕ). from 0 c ++ (x ∷ [])) (e ∙ sym (zero-add c)) ∙ from-append 0 c 1 ∙ ap (from 0) (let q : c + 1 ≡ suc c = omega arith in q)

-- what meeting a state of the row comes to
new-old : (c a : ℕ) (ts : List ℕ) → a < c → newly_met (from 0 c) (a ∷ ts) ≡ newly_met (from 0 c) ts
new-old c a ts h = rw (member-yes 0 c a (omega arith) (omega arith))

new-more : (c a : ℕ) (ts : List ℕ) → c ≤ a → newly_met (from 0 c) (a ∷ ts) ≡ a ∷ newly_met (from 0 c ++ (a ∷ [])) ts
new-more c a ts h = rw (member-no 0 c a (omega arith))

new-next : (c a : ℕ) (ts : List ℕ) → a ≡ c → newly_met (from 0 c) (a ∷ ts) ≡ a ∷ newly_met (from 0 (suc c)) ts
new-next c a ts e = new-more c a ts (omega arith) ∙ ap (λ (l : List ℕ). a ∷ newly_met l ts) (known-suc c a e)

pub row→ : (ts : List ℕ) (c k : ℕ) → newly_met (from 0 c) ts ≡ from c k → Row c (c + k) ts
row→ [] c zero h = record { below = λ i l. absurd (not-suc-le-zero l); order = λ i t l. absurd (not-suc-le-zero l); found = λ t l m. absurd (omega arith) }
row→ [] c (suc k) h = absurd (nil≢cons h)
row→ (a ∷ ts) c k h = go (dec_lt a c) (row→ ts c k) (row→ ts (suc c))
  where
    go : Dec (a < c) → (newly_met (from 0 c) ts ≡ from c k → Row c (c + k) ts)
        → ((k : ℕ) → newly_met (from 0 (suc c)) ts ≡ from (suc c) k → Row (suc c) (suc c + k) ts) → Row c (c + k) (a ∷ ts)
    go (yes l) r r' = row_old a l (omega arith) (r (sym (new-old c a ts l) ∙ h))
    go (no l) r r' = new k (sym (new-more c a ts (omega arith)) ∙ h) h
      where
        new : (k : ℕ) → a ∷ newly_met (from 0 c ++ (a ∷ [])) ts ≡ from c k → newly_met (from 0 c) (a ∷ ts) ≡ from c k → Row c (c + k) (a ∷ ts)
        new zero e h = absurd (cons≢nil e)
        new (suc k) e h =
            let q : a ≡ c = head-eq_of_cons-eq e in
            let b : suc c + k ≡ c + suc k = omega arith in
            row_new a q (omega arith) (subst (λ (b : ℕ). Row (suc c) b ts) b (r' k (tail-eq_of_cons-eq (sym (new-next c a ts q) ∙ h))))

order-tail : {c c' : ℕ} {ts : List ℕ} (a : ℕ) → a < c' → c ≤ c' → ((i t : ℕ) → i < suc (length ts) → c ≤ t → t < get_or (a ∷ ts) i 0 → Earlier (a ∷ ts) i t)
    → (i t : ℕ) → i < length ts → c' ≤ t → t < get_or ts i 0 → Earlier ts i t
order-tail {c} {c'} {ts} a l m h i t n o p = go (h (suc i) t (suc-le-suc n) (omega arith) p)
  where
    go : Earlier (a ∷ ts) (suc i) t → Earlier ts i t
    go e = at e.index e.before e.is
      where
        at : (j : ℕ) → j < suc i → get_or (a ∷ ts) j 0 ≡ t → Earlier ts i t
        at zero b q = absurd (omega arith)
        at (suc j) b q = record { index = j; before = le_of_suc-le-suc b; is = q }

pub →row : (ts : List ℕ) (c : ℕ) → ((i t : ℕ) → i < length ts → c ≤ t → t < get_or ts i 0 → Earlier ts i t) → (k : ℕ) × (newly_met (from 0 c) ts ≡ from c k)
→row [] c h = (0, refl)
→row (a ∷ ts) c h = go (dec_lt a c) (dec_lt c a) (→row ts c) (→row ts (suc c))
  where
    go : Dec (a < c) → Dec (c < a)
        → (((i t : ℕ) → i < length ts → c ≤ t → t < get_or ts i 0 → Earlier ts i t) → (k : ℕ) × (newly_met (from 0 c) ts ≡ from c k))
        → (((i t : ℕ) → i < length ts → suc c ≤ t → t < get_or ts i 0 → Earlier ts i t) → (k : ℕ) × (newly_met (from 0 (suc c)) ts ≡ from (suc c) k))
        → (k : ℕ) × (newly_met (from 0 c) (a ∷ ts) ≡ from c k)
    go (yes l) m r r' = let x = r (order-tail a l (omega arith) h) in (x.0, new-old c a ts l ∙ x.1)
    go (no l) (yes m) r r' = absurd (not-suc-le-zero (h 0 c (omega arith) (omega arith) m).before)
    go (no l) (no m) r r' =
        let q : a ≡ c = omega arith in
        let x = r' (order-tail a (omega arith) (omega arith) h) in
        (suc x.0, new-next c a ts q ∙ ap₂ ◌∷◌ q x.1)
