-- Which states a list of successors meets first, where the states met before are those below a number.
use mathlib.Core.Path.{◌≡◌, refl, sym, ap, ap₂, ◌∙◌}
use mathlib.Core.List.{List, [], ◌∷◌, ◌++◌, map, append-nil, append_assoc}
use mathlib.Core.Bool.{Bool, true, false, cond, ◌||◌}
use Prim.Native.Nat.{ℕ, zero, suc, ◌<◌}
use native.Mathlib.Nat.{not-suc-le-zero, le_of_suc-le-suc}
use native.Mathlib.Omega.{arith}
use borrow.Author.Tests.{eq-eqb, ne_eqb}
use lib.ListN.{length, get_or}
use lib.Dec.{eqb}
use Rattle.sequences.specs.Tabulate.{tabulate, up_to}
use Rattle.sequences.proofs.Loops.{tabulate-snoc}
use Rattle.meaning.specs.Monitors.{member, newly_met, keep}

member-in : (t n : ℕ) (f : ℕ → ℕ) (i : ℕ) → i < n → t ≡ f i → member t (tabulate n f) ≡ true
member-in t zero f i l q = absurd (not-suc-le-zero l)
member-in t (suc n) f zero l q = rw (eq-eqb t (f zero) q)
member-in t (suc n) f (suc i) l q = go (eqb t (f zero)) (member-in t n (λ j. f (suc j)) i (le_of_suc-le-suc l) q)
  where
    go : (b : Bool) → member t (tabulate n (λ j. f (suc j))) ≡ true → (b || member t (tabulate n (λ j. f (suc j)))) ≡ true
    go true h = refl
    go false h = h

member-out : (t n : ℕ) (f : ℕ → ℕ) → ((i : ℕ) → i < n → ¬ (t ≡ f i)) → member t (tabulate n f) ≡ false
member-out t zero f h = refl
member-out t (suc n) f h = rw (ne_eqb t (f zero) (h zero (omega arith))) (member-out t n (λ j. f (suc j)) (λ i l. h (suc i) (omega arith)))

-- the states met, with t added if it is none of them
abbrev meet : List ℕ → ℕ → List ℕ
meet met t = cond (member t met) met (met ++ (t ∷ []))

met-snoc : (met ts : List ℕ) (t : ℕ) → met ++ newly_met met (ts ++ (t ∷ [])) ≡ meet (met ++ newly_met met ts) t
met-snoc met [] t = rw append-nil (go (member t met))
  where
    go : (b : Bool) → met ++ cond b [] (t ∷ []) ≡ cond b met (met ++ (t ∷ []))
    go true = append-nil met
    go false = refl
met-snoc met (x ∷ ts) t = go (member x met) (met-snoc met ts t) (met-snoc (met ++ (x ∷ [])) ts t)
  where
    go : (b : Bool) → met ++ newly_met met (ts ++ (t ∷ [])) ≡ meet (met ++ newly_met met ts) t
        → (met ++ (x ∷ [])) ++ newly_met (met ++ (x ∷ [])) (ts ++ (t ∷ [])) ≡ meet ((met ++ (x ∷ [])) ++ newly_met (met ++ (x ∷ [])) ts) t
        → met ++ cond b (newly_met met (ts ++ (t ∷ []))) (x ∷ newly_met (met ++ (x ∷ [])) (ts ++ (t ∷ []))) ≡ meet (met ++ cond b (newly_met met ts) (x ∷ newly_met (met ++ (x ∷ [])) ts)) t
    go true h k = h
    go false h k = sym (append_assoc met (x ∷ []) (newly_met (met ++ (x ∷ [])) (ts ++ (t ∷ [])))) ∙ k ∙ ap (λ (l : List ℕ). meet l t) (append_assoc met (x ∷ []) (newly_met (met ++ (x ∷ [])) ts))

-- from the states below n on, the successors ts meet those below n' in order
pub record Meets (n : ℕ) (ts : List ℕ) (n' : ℕ) : Type 0 where
  pub is : up_to n ++ newly_met (up_to n) ts ≡ up_to n'

pub meets-none : {n : ℕ} → Meets n [] n
meets-none {n} = record { is = append-nil (up_to n) }

pub meets-old : {n n' : ℕ} {ts : List ℕ} (t : ℕ) → t < n' → Meets n ts n' → Meets n (ts ++ (t ∷ [])) n'
meets-old {n} {n'} {ts} t l h = record { is = met-snoc (up_to n) ts t ∙ rw (h.is, member-in t n' (λ i. i) t l refl) }

pub meets-new : {n n' : ℕ} {ts : List ℕ} → Meets n ts n' → Meets n (ts ++ (n' ∷ [])) (suc n')
meets-new {n} {n'} {ts} h = record { is = met-snoc (up_to n) ts n' ∙ rw (h.is, member-out n' n' (λ i. i) (λ i l q. omega arith)) (sym (tabulate-snoc n' (λ i. i))) }

-- the entries of a row for the events that can happen
abbrev pub admitted : (ℕ → Bool) → List ℕ → List ℕ
admitted p [] = []
admitted p (t ∷ row) = cond (p zero) (t ∷ admitted (λ i. p (suc i)) row) (admitted (λ i. p (suc i)) row)

pub admitted-snoc : (p : ℕ → Bool) (row : List ℕ) (t : ℕ) → admitted p (row ++ (t ∷ [])) ≡ admitted p row ++ cond (p (length row)) (t ∷ []) []
admitted-snoc p [] t = refl
admitted-snoc p (x ∷ row) t = go (p zero) (admitted-snoc (λ i. p (suc i)) row t)
  where
    rest : List ℕ
    rest = cond (p (suc (length row))) (t ∷ []) []

    go : (b : Bool) → admitted (λ i. p (suc i)) (row ++ (t ∷ [])) ≡ admitted (λ i. p (suc i)) row ++ rest
        → cond b (x ∷ admitted (λ i. p (suc i)) (row ++ (t ∷ []))) (admitted (λ i. p (suc i)) (row ++ (t ∷ [])))
        ≡ cond b (x ∷ admitted (λ i. p (suc i)) row) (admitted (λ i. p (suc i)) row) ++ rest
    go true h = ap (λ (l : List ℕ). x ∷ l) h
    go false h = h

pub admitted-are : (p : ℕ → Bool) (g : ℕ → ℕ) (row : List ℕ) (f : ℕ → ℕ) → ((i : ℕ) → i < length row → g (f i) ≡ get_or row i 0)
    → map g (keep p (tabulate (length row) f)) ≡ admitted (λ i. p (f i)) row
admitted-are p g [] f h = refl
admitted-are p g (t ∷ row) f h = go (p (f zero)) (admitted-are p g row (λ i. f (suc i)) (λ i l. h (suc i) (omega arith)))
  where
    go : (b : Bool) → map g (keep p (tabulate (length row) (λ i. f (suc i)))) ≡ admitted (λ i. p (f (suc i))) row
        → map g (cond b (f zero ∷ keep p (tabulate (length row) (λ i. f (suc i)))) (keep p (tabulate (length row) (λ i. f (suc i)))))
        ≡ cond b (t ∷ admitted (λ i. p (f (suc i))) row) (admitted (λ i. p (f (suc i))) row)
    go true q = ap₂ (λ (x : ℕ) (l : List ℕ). x ∷ l) (h zero (omega arith)) q
    go false q = q
