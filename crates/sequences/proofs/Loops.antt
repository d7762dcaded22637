-- Laws of loops over specs/Tabulate.antt.
--     Filled                  the invariant of a loop that fills a list of any element type from the front, with f i at turn i
--     filled_none, -more, -to, -all, -length      where it begins, after a turn, at the end, and that the length is kept
--     all_more, all-not       a loop that tests every index below n
--     all-and                 one that does so without stopping
--     all-at                  what such a test tells of an index
--     least-is, least-none    a loop that looks for the first index
use mathlib.Core.Path.{◌≡◌, refl, sym, ap, ◌∙◌, subst}
use mathlib.Core.List.{List, [], ◌∷◌, ◌++◌, append-nil}
use mathlib.Core.Bool.{Bool, true, false, cond, ◌&&◌}
use Prim.Native.Nat.{ℕ, zero, suc, ◌+◌, ◌≤◌, ◌<◌}
use native.Mathlib.Nat.{not-suc-le-zero, le_of_suc-le-suc}
use native.Mathlib.Numerals.{add-one}
use native.Mathlib.Omega.{arith}
use borrow.Author.Count.{below_none, below_more}
use lib.ListN.{length, set, get_or, drop, drop_of_length-le, length-append, length-drop}
use Rattle.sequences.specs.Tabulate.{tabulate, all_below, least_below}

module _ {A : Type 0} where
  tab-suc : (n : ℕ) (f : ℕ → A) (d : List A) → n < length d → set (tabulate n f ++ drop n d) n (f n) ≡ tabulate (suc n) f ++ drop (suc n) d
  tab-suc n f [] l = absurd (not-suc-le-zero l)
  tab-suc zero f (x ∷ d) l = refl
  tab-suc (suc n) f (x ∷ d) l = ap (λ (t : List A). f zero ∷ t) (tab-suc n (λ i. f (suc i)) d (le_of_suc-le-suc l))

  -- s is d with its first n elements replaced by f 0, f 1, .., f (n - 1): the invariant of a loop that fills d from the front
  pub record Filled (n : ℕ) (f : ℕ → A) (d s : List A) : Type 0 where
    pub room : n ≤ length d
    pub is : s ≡ tabulate n f ++ drop n d

  pub filled_none : {f : ℕ → A} {d : List A} → Filled 0 f d d
  filled_none = record { room = omega arith; is = refl }

  -- a turn: v is stored at n
  pub filled_more : {n : ℕ} {f : ℕ → A} {d s : List A} {v : A} → Filled n f d s → v ≡ f n → n < length d → Filled (n + 1) f d (set s n v)
  filled_more {n} {f} {d} h q l = record { room = omega arith; is = rw (h.is, q, add-one) (tab-suc n f d l) }

  -- the end, where the loop filled the first m and left the others
  pub filled-to : (m : ℕ) {n : ℕ} {f : ℕ → A} {d s : List A} → Filled n f d s → n ≡ m → s ≡ tabulate m f ++ drop m d
  filled-to m {f = f} {d} {s} h q = subst (λ (k : ℕ). s ≡ tabulate k f ++ drop k d) q h.is

  -- the end, where the loop filled it whole
  pub filled-all : (m : ℕ) {n : ℕ} {f : ℕ → A} {d s : List A} → Filled n f d s → n ≡ m → length d ≤ m → s ≡ tabulate m f
  filled-all m {f = f} {d} h q l = filled-to m h q ∙ ap (λ (t : List A). tabulate m f ++ t) (drop_of_length-le d l) ∙ append-nil (tabulate m f)

  pub length-tab : (n : ℕ) (f : ℕ → A) → length (tabulate n f) ≡ n
  length-tab zero f = refl
  length-tab (suc n) f = ap suc (length-tab n (λ i. f (suc i)))

  pub tabulate-snoc : (n : ℕ) (f : ℕ → A) → tabulate (suc n) f ≡ tabulate n f ++ (f n ∷ [])
  tabulate-snoc zero f = refl
  tabulate-snoc (suc n) f = ap (λ (l : List A). f zero ∷ l) (tabulate-snoc n (λ i. f (suc i)))

  pub get_d-tab : (n : ℕ) (f : ℕ → A) (i : ℕ) (z : A) → i < n → get_or (tabulate n f) i z ≡ f i
  get_d-tab zero f i z l = absurd (not-suc-le-zero l)
  get_d-tab (suc n) f zero z l = refl
  get_d-tab (suc n) f (suc i) z l = get_d-tab n (λ k. f (suc k)) i z (le_of_suc-le-suc l)

  pub filled-length : {n : ℕ} {f : ℕ → A} {d s : List A} → Filled n f d s → length s ≡ length d
  filled-length {n} {f} {d} h = rw (h.is, length-append, length-tab, length-drop) (omega (arith, h.room))

all-suc : (n : ℕ) (p : ℕ → Bool) → all_below n p ≡ true → p n ≡ true → all_below (suc n) p ≡ true
all-suc zero p h q = rw q
all-suc (suc n) p h q = go (p zero) refl (λ g. all-suc n (λ i. p (suc i)) g q)
  where
    go : (b : Bool) → p zero ≡ b → (all_below n (λ i. p (suc i)) ≡ true → all_below (suc n) (λ i. p (suc i)) ≡ true) → all_below (suc (suc n)) p ≡ true
    go true e ih = rw e (ih (rw e at h))
    go false e ih = rw e (rw e at h)

pub all_more : (n : ℕ) (p : ℕ → Bool) → all_below n p ≡ true → p n ≡ true → all_below (n + 1) p ≡ true
all_more n p h q = rw add-one (all-suc n p h q)

pub all-not : (n : ℕ) (p : ℕ → Bool) (k : ℕ) → k < n → p k ≡ false → all_below n p ≡ false
all-not zero p k l q = absurd (not-suc-le-zero l)
all-not (suc n) p zero l q = rw q
all-not (suc n) p (suc k) l q = go (p zero) (all-not n (λ i. p (suc i)) k (le_of_suc-le-suc l) q)
  where
    go : (b : Bool) → all_below n (λ i. p (suc i)) ≡ false → cond b (all_below n (λ i. p (suc i))) false ≡ false
    go true ih = ih
    go false ih = refl

pub all-and : (n : ℕ) (p : ℕ → Bool) → all_below (n + 1) p ≡ (all_below n p && p n)
all-and n p = rw add-one (go n p)
  where
    go : (k : ℕ) (q : ℕ → Bool) → all_below (suc k) q ≡ (all_below k q && q k)
    go zero q = at (q zero)
      where
        at : (b : Bool) → cond b true false ≡ b
        at true = refl
        at false = refl
    go (suc k) q = ap (λ (b : Bool). cond (q zero) b false) (go k (λ i. q (suc i))) ∙ at (q zero)
      where
        at : (b : Bool) → cond b (all_below k (λ i. q (suc i)) && q (suc k)) false ≡ (cond b (all_below k (λ i. q (suc i))) false && q (suc k))
        at true = refl
        at false = refl

pub all-at : (n : ℕ) (p : ℕ → Bool) → all_below n p ≡ true → (i : ℕ) → i < n → p i ≡ true
all-at n p h i l = go (p i) refl
  where
    go : (b : Bool) → p i ≡ b → p i ≡ true
    go true e = e
    go false e = e ∙ sym (all-not n p i l e) ∙ h

-- j is the least: none below passes, and j passes unless it is the bound
pub least-is : (n : ℕ) (p : ℕ → Bool) (j : ℕ) → j ≤ n → ((k : ℕ) → k < j → p k ≡ false) → (j < n → p j ≡ true) → least_below n p ≡ j
least-is zero p zero l h q = refl
least-is zero p (suc j) l h q = absurd (not-suc-le-zero l)
least-is (suc n) p zero l h q = rw (q (omega arith))
least-is (suc n) p (suc j) l h q =
    rw (h zero (omega arith)) (ap suc (least-is n (λ i. p (suc i)) j (le_of_suc-le-suc l) (λ k m. h (suc k) (omega arith)) (λ m. q (omega arith))))

-- p holds at each index below n: the invariant of a loop that tests every index and leaves at the first that fails
pub record Passed (n : ℕ) (p : ℕ → Bool) : Type 0 where
  pub is : all_below n p ≡ true

pub passed_none : {p : ℕ → Bool} → Passed 0 p
passed_none = record { is = refl }

pub passed-more : {n : ℕ} {p : ℕ → Bool} → Passed n p → p n ≡ true → Passed (n + 1) p
passed-more {n} {p} h q = record { is = all_more n p h.is q }

pub passed-all : {n : ℕ} {p : ℕ → Bool} → Passed n p → (m : ℕ) → n ≡ m → all_below m p ≡ true
passed-all {n} {p} h m q = subst (λ (k : ℕ). all_below k p ≡ true) q h.is

-- p holds at no index below n: the invariant of a loop that looks for the first index
pub record Missed (n : ℕ) (p : ℕ → Bool) : Type 0 where
  pub none : (k : ℕ) → k < n → p k ≡ false

pub missed-none : {p : ℕ → Bool} → Missed 0 p
missed-none {p} = record { none = below_none (λ (k : ℕ). p k ≡ false) }

pub missed_more : {n : ℕ} {p : ℕ → Bool} → Missed n p → p n ≡ false → Missed (n + 1) p
missed_more {n} {p} h q = record { none = below_more (λ (k : ℕ). p k ≡ false) n h.none q }

pub missed-found : {j : ℕ} {p : ℕ → Bool} → Missed j p → (n : ℕ) → j < n → p j ≡ true → least_below n p ≡ j
missed-found {j} {p} h n l q = least-is n p j (omega arith) h.none (λ _. q)

pub missed-end : {j : ℕ} {p : ℕ → Bool} → Missed j p → (n : ℕ) → j ≡ n → least_below n p ≡ n
missed-end {j} {p} h n e = least-is n p j (omega arith) h.none (λ l. absurd (omega arith)) ∙ e
