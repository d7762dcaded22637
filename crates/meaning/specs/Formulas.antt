-- Linear temporal logic: source document 001, section 2.1, by position in the whole trace.
use Rattle.std.specs.Prelude.{◌≡◌, ◌⊎◌, ◌↔◌, ℕ, zero, suc, ◌+◌, ◌*◌, ◌≤◌, ◌<◌}
use Rattle.meaning.specs.Bytes.{bit}
use Rattle.meaning.specs.Traces.{Lasso, at}

pub data Formula : Type 0 where
  falsum verum : Formula
  signal : ℕ → Formula
  at_least : ℕ → ℕ → ℕ → Formula
  neg : Formula → Formula
  and or implies iff xor : Formula → Formula → Formula
  next : Formula → Formula
  until : Formula → Formula → Formula
  eventually always : Formula → Formula

-- how many of the signals below n are in the mask m and on in the event e, counted one by one: "bit s (bit 0 lowest) says that signal s is on"
abbrev pub count_on : ℕ → ℕ → ℕ → ℕ
count_on zero m e = 0
count_on (suc s) m e = bit s m * bit s e + count_on s m e

-- "'a until b' holds where b holds now or later and a holds at each position before that one, from now on."
pub record Until (A B : ℕ → Type 0) (i : ℕ) : Type 0 where
  pub time : ℕ
  pub after : i ≤ time
  pub there : B time
  pub before : (k : ℕ) → i ≤ k → k < time → A k

-- "'Eventually a' is 'true until a'."
abbrev pub Eventually : (ℕ → Type 0) → ℕ → Type 0
Eventually A i = Until (λ _. Unit {0}) A i

-- The formula holds at position i of the trace whose events are w 0, w 1, ...
-- "A signal holds at a position if it is on there. Propositional operators have their usual truth tables. 'Next a' holds where a holds one
-- position later. 'Always a' is 'not eventually not a'." "'At least' is true when at least k of the signals in the mask are on", of the four; with
-- an upper count (document 02, C-12) "true when the count is at least k and at most the upper".
abbrev pub Sat : (ℕ → ℕ) → Formula → ℕ → Type 0
Sat w falsum i = ⊥
Sat w verum i = Unit {0}
Sat w (signal s) i = bit s (w i) ≡ 1
Sat w (at_least m k upper) i = (k ≤ count_on 4 m (w i)) × (count_on 4 m (w i) ≤ upper)
Sat w (neg a) i = ¬ Sat w a i
Sat w (and a b) i = Sat w a i × Sat w b i
Sat w (or a b) i = Sat w a i ⊎ Sat w b i
Sat w (implies a b) i = Sat w a i → Sat w b i
Sat w (iff a b) i = Sat w a i ↔ Sat w b i
Sat w (xor a b) i = (Sat w a i × ¬ Sat w b i) ⊎ (¬ Sat w a i × Sat w b i)
Sat w (next a) i = Sat w a (suc i)
Sat w (until a b) i = Until (λ k. Sat w a k) (λ k. Sat w b k) i
Sat w (eventually a) i = Eventually (λ k. Sat w a k) i
Sat w (always a) i = ¬ Eventually (λ k. ¬ Sat w a k) i

abbrev pub Holds : Lasso → ℕ → Formula → Type 0
Holds ρ i f = Sat (at ρ) f i
