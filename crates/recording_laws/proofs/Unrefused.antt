-- What is so of two recordings that are not refused.
--     Unrefused, unrefused      the bytes are a table, the lengths fit, each event fits, agrees with the other and has a choice
--     some-completion           so there is a completion
use mathlib.Core.Path.{◌≡◌, refl, sym, subst}
use mathlib.Core.Logic.{inl}
use mathlib.Core.List.{List, [], ◌∷◌, ◌++◌}
use mathlib.Core.Bool.{Bool, true, false, cond, ◌&&◌}
use Prim.Native.Nat.{ℕ, zero, suc, ◌/◌, ◌≤◌, ◌<◌}
use native.Mathlib.Omega.{arith}
use native.Mathlib.Decide.{dec_lt}
use borrow.Author.Tests.{not-false, eqb-false}
use lib.ListN.{length}
use Rattle.sequences.specs.Tabulate.{tabulate, joined}
use Rattle.meaning.specs.Traces.{Alphabet}
use Rattle.meaning.specs.RuleFiles.{first_of}
use Rattle.meaning.specs.TableFiles.{is_table, alphabet_in, signals_in, monitor_of}
use Rattle.meaning.specs.Recordings.{seen_at, joined_at, joined_list, choices, Completion, completions, verdict_over, lengths_fit, seen_fits, contradict, event_checks, recording_checks, judged_of}
use Rattle.meaning.specs.declared.Verdict.{Verdict}
use Rattle.meaning.specs.declared.Refusal.{Refusal}
use Rattle.meaning.specs.declared.Refusal.TheVariants.{WrongTable}
use Rattle.meaning.specs.declared.Seen.{Seen}
use Rattle.completions.proofs.Members.{In, choices-in}
use Rattle.std.proofs.Common.{Result, Ok, Err}

-- ---- checks that all pass

abbrev Clear : List (Bool × Refusal) → Type 0
Clear [] = Unit {0}
Clear (c ∷ cs) = (c.0 ≡ false) × Clear cs

refusal-shown : {A : Type 0} (x : Refusal) (v : Verdict) → Err x ≡ Ok v → A
refusal-shown x v q = let z : ◌≡◌ {A = ℕ} 0 1 = cc in absurd (omega arith)

clear_first : (cs : List (Bool × Refusal)) (z : Result Verdict Refusal) (v : Verdict) → first_of Err cs z ≡ Ok v → Clear cs × (z ≡ Ok v)
clear_first [] z v h = (tt, h)
clear_first (c ∷ cs) z v h = go c.0 refl h (λ k. clear_first cs z v k)
  where
    go : (b : Bool) → c.0 ≡ b → cond b (Err c.1) (first_of Err cs z) ≡ Ok v → (first_of Err cs z ≡ Ok v → Clear cs × (z ≡ Ok v))
        → Clear (c ∷ cs) × (z ≡ Ok v)
    go true e k more = refusal-shown c.1 v k
    go false e k more = let r = more k in ((e, r.0), r.1)

clear-append : (cs ds : List (Bool × Refusal)) → Clear (cs ++ ds) → Clear cs × Clear ds
clear-append [] ds h = (tt, h)
clear-append (c ∷ cs) ds h = let k = clear-append cs ds h.1 in ((h.0, k.0), k.1)

clear_at : (n : ℕ) (f : ℕ → List (Bool × Refusal)) → Clear (joined n f) → (i : ℕ) → i < n → Clear (f i)
clear_at zero f h i l = absurd (omega arith)
clear_at (suc n) f h i l = let k = clear-append (joined n f) (f n) h in go (dec_lt i n) (λ m. clear_at n f k.0 i m) k.1
  where
    go : Dec (i < n) → (i < n → Clear (f i)) → Clear (f n) → Clear (f i)
    go (yes m) more last = more m
    go (no m) more last = let e : i ≡ n = omega arith in subst (λ (j : ℕ). Clear (f j)) (sym e) last

-- ---- what that says

pub record Unrefused (t a b : List ℕ) (v : Verdict) : Type 0 where
  pub table : is_table t ≡ true
  pub lengths : lengths_fit a b ≡ true
  pub fits : (i : ℕ) → i < length a / 2 → (seen_fits (signals_in t) (seen_at a i) && seen_fits (signals_in t) (seen_at b i)) ≡ true
  pub agree : (i : ℕ) → i < length a / 2 → contradict (signals_in t) (seen_at a i) (seen_at b i) ≡ false
  pub some : (i : ℕ) → i < length a / 2 → 1 ≤ length (choices (alphabet_in t (signals_in t)) (signals_in t) (joined_at a b i))
  pub answer : verdict_over (monitor_of t) (completions (alphabet_in t (signals_in t)) (signals_in t) (joined_list a b)) ≡ v

pub unrefused : (t a b : List ℕ) (v : Verdict) → judged_of t a b ≡ Ok v → Unrefused t a b v
unfolding judged_of
unrefused t a b v h = go (is_table t) refl h
  where
    Σ : Alphabet
    Σ = alphabet_in t (signals_in t)

    go : (c : Bool) → is_table t ≡ c
        → cond c (first_of Err (recording_checks Σ (signals_in t) a b) (Ok (verdict_over (monitor_of t) (completions Σ (signals_in t) (joined_list a b))))) (Err WrongTable) ≡ Ok v
        → Unrefused t a b v
    go false e k = refusal-shown WrongTable v k
    go true e k =
        let all = clear_first (recording_checks Σ (signals_in t) a b) _ v k in
        let each = clear_at (length a / 2) (event_checks Σ (signals_in t) a b) all.0.1 in
        record {
          table = e;
          lengths = not-false (lengths_fit a b) all.0.0;
          fits = λ i l. not-false _ (each i l).0;
          agree = λ i l. (each i l).1.0;
          some = λ i l. (let z = eqb-false (length (choices Σ (signals_in t) (joined_at a b i))) 0 (each i l).1.1.0 in omega (arith, z));
          answer = cc;
        }

-- ---- a completion

module _ (Σ : Alphabet) (P : ℕ) where
  pub some-completion : (n : ℕ) (f : ℕ → Seen) → ((i : ℕ) → i < n → 1 ≤ length (choices Σ P (f i))) → (w : List ℕ) × Completion Σ P (tabulate n f) w
  some-completion zero f h = ([], tt)
  some-completion (suc n) f h =
      let rest = some-completion n (λ i. f (suc i)) (λ i l. h (suc i) (omega arith)) in
      let e = head (choices Σ P (f 0)) (h 0 (omega arith)) in
      let c = choices-in Σ P (f 0) e.0 e.1 in
      (e.0 ∷ rest.0, (c.0, c.1, rest.1))
    where
      head : (l : List ℕ) → 1 ≤ length l → (e : ℕ) × In e l
      head [] k = absurd (omega arith)
      head (e ∷ l) k = (e, inl refl)
