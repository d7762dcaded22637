-- Residuals as sets of profiles. The profile of a continuation is its label at position 0 with one more bit on top, the truth of the rule there.
-- `profile e y` is the profile of a continuation that begins with the event e, where y is the label of its rest; there are n labels and n + n profiles.
use Rattle.std.specs.Prelude.{Bool, true, false, ℕ, ◌+◌, ◌%◌, ◌^◌, leb}
use Rattle.meaning.specs.Traces.{Alphabet}
use Rattle.ltl.specs.Sets.{on, set_below, union_below, union_events}
use Rattle.ltl.specs.Realizable.{realizable}

-- the label of a continuation that begins with the event e
abbrev pub before : ℕ → (ℕ → ℕ → ℕ) → ℕ → ℕ → ℕ
before n profile e y = profile e y % n

-- the profile that the label y, if it is one of the labels R, gives by the event e
abbrev pub profile_from : (ℕ → ℕ → ℕ) → ℕ → ℕ → ℕ → ℕ
profile_from profile R e y = elim (on R y) [ true ↦ 2 ^ profile e y | false ↦ 0 ]

module _ (n : ℕ) (profile : ℕ → ℕ → ℕ) where
  -- after one event more: the profiles from which the event leads into A
  abbrev pub preimage : ℕ → ℕ → ℕ → ℕ → Bool
  preimage whole A e p = elim (on whole p) [ true ↦ on A (profile e (p % n)) | false ↦ false ]

  abbrev pub step_from : ℕ → ℕ → ℕ → ℕ
  step_from whole A e = set_below (n + n) (preimage whole A e)

-- the profiles where the rule is true: those with the top bit
abbrev pub rule_true : ℕ → ℕ → ℕ → Bool
rule_true n whole p = elim (leb n p) [ true ↦ on whole p | false ↦ false ]

abbrev pub start_from : ℕ → ℕ → ℕ
start_from n whole = set_below (n + n) (rule_true n whole)

module _ (Σ : Alphabet) (n : ℕ) (profile : ℕ → ℕ → ℕ) where
  abbrev pub whole_of : ℕ → ℕ
  whole_of R = union_events Σ (λ e. union_below n (profile_from profile R e))

  -- the profiles of all continuations
  unfoldable pub whole_set : ℕ → (ℕ → ℕ → ℕ) → ℕ
  whole_set m fair = whole_of (realizable Σ n (before n profile) fair m)
