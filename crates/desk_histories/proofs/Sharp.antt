-- Two worked examples of what the laws need.
--     no-sooner       no bound below the number of watches would do: of n watches, each with an event waiting, the one heard last is not heard in n - 1 turns
--     built-needed    with a table that was not built a verdict can pass, and the number at which it first stood stays filled
use mathlib.Core.Path.{◌≡◌, refl, ap}
use mathlib.Core.List.{List, [], ◌∷◌, map}
use mathlib.Core.Bool.{true, true≢false}
use Prim.Native.Nat.{ℕ, ◌≤◌}
use native.Mathlib.Omega.{arith}
use lib.ListN.{length, replicate}
use Rattle.sequences.specs.Tabulate.{up_to}
use Rattle.meaning.specs.TableFiles.{is_table, monitor_of}
use Rattle.meaning.specs.Runs.{decided_from}
use Rattle.meaning.specs.Openings.{Opening}
use Rattle.meaning.specs.Desks.{watch_at, post_by, post_of, turn_by, turn_of}
use Rattle.meaning.specs.Histories.{Action, Post, Turn, Standing, begun, reached, heard, turns}
use Rattle.meaning.specs.declared.Verdict.TheVariants.{Undecided}
use Rattle.meaning.specs.declared.Watch.{Watch}
use Rattle.desk_histories.specs.Laws.{FilledWhile}

-- one state over one signal, to which both events lead
abbrev pub table : List ℕ
table = 5 ∷ 0 ∷ 0 ∷ 2 ∷ 1 ∷ 1 ∷ 0 ∷ 7 ∷ 0 ∷ 1 ∷ 2 ∷ 0 ∷ 0 ∷ 0 ∷ 0 ∷ 0 ∷ []

-- opened with a number
abbrev pub opening : List ℕ → Opening
opening t = record { table = t; number = 4660 }

-- a desk of n watches, where event 1 was posted to each and the first counts as heard last
abbrev pub posted : ℕ → Standing
posted n = reached (opening table) (begun (opening table) n 0) (map (λ i. Post i 1) (up_to n))

-- and within k turns the first is not heard
pub record Unheard (n k : ℕ) : Type 0 where
  pub form : is_table table ≡ true
  pub waits : (watch_at (posted n).desk 0).waiting ≡ 1
  pub many : turns (replicate k Turn) ≡ k
  pub none : heard (opening table) (posted n) 0 (replicate k Turn) ≡ []

pub three : Unheard 3 2
unfolding is_table decided_from post_by post_of turn_by turn_of
three = record { form = refl; waits = refl; many = refl; none = refl }

pub sixty-four : Unheard 64 63
unfolding is_table decided_from post_by post_of turn_by turn_of
sixty-four = record { form = refl; waits = refl; many = refl; none = refl }

-- so what `in_time` says of n turns is false of k
pub no-sooner : (n k : ℕ) → Unheard n k
    → ¬ ((g : List Action) → 1 ≤ (watch_at (posted n).desk 0).waiting → k ≤ turns g → 1 ≤ length (heard (opening table) (posted n) 0 g))
no-sooner n k u f = omega (arith, ap length u.none, f (replicate k Turn) (omega (arith, u.waits)) (omega (arith, u.many)))

-- ---- a verdict that passes

-- two states over one signal: both events lead from violated to undecided, and stay there
abbrev pub passing : List ℕ
passing = 5 ∷ 0 ∷ 0 ∷ 2 ∷ 1 ∷ 2 ∷ 0 ∷ 7 ∷ 0 ∷ 1 ∷ 2 ∷ 2 ∷ 1 ∷ 0 ∷ 1 ∷ 0 ∷ 7 ∷ 0 ∷ 1 ∷ 2 ∷ 0 ∷ 1 ∷ 0 ∷ 1 ∷ 0 ∷ []

-- the watch of a tunnel that has heard one event
abbrev pub heard-once : Watch
heard-once = watch_at (reached (opening passing) (begun (opening passing) 1 0) (Post 0 1 ∷ Turn ∷ [])).desk 0

pub record Passed : Type 0 where
  pub form : is_table passing ≡ true
  pub filled : heard-once.filled ≡ 1
  pub shown : (monitor_of passing).verdict heard-once.state ≡ Undecided

pub verdict-passed : Passed
unfolding is_table decided_from post_by post_of turn_by turn_of
verdict-passed = record { form = refl; filled = refl; shown = refl }

pub built-needed : ¬ FilledWhile (opening passing) heard-once
unfolding is_table decided_from post_by post_of turn_by turn_of
built-needed q = true≢false q
