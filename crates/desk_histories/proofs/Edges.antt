-- A worked example of C-16's edge, 4,294,967,295 events heard and waiting: one tunnel has heard them all, another waits to hear its last.
use Rattle.std.proofs.Common.{Ok, Err}
use mathlib.Core.Path.{◌≡◌, refl}
use mathlib.Core.List.{List, [], ◌∷◌}
use Prim.Native.Nat.{ℕ}
use lib.ListN.{replicate}
use Rattle.meaning.specs.TableFiles.{is_table}
use Rattle.meaning.specs.Runs.{decided_from}
use Rattle.meaning.specs.Openings.{state_of}
use Rattle.meaning.specs.Desks.{Outcome, watch_at, post_by, post_of, turn_by, turn_of}
use Rattle.meaning.specs.declared.Refusal.TheVariants.{WrongWatch, CountFull}
use Rattle.meaning.specs.declared.Verdict.TheVariants.{Undecided}
use Rattle.meaning.specs.declared.Served.TheVariants as Served
use Rattle.meaning.specs.declared.Watch.{Watch}
use Rattle.desk_histories.proofs.Sharp.{table, opening}
use Rattle.std.proofs.Common.{Err}

-- so many heard, and so many waiting
abbrev pub counting : ℕ → ℕ → Watch
counting n k = record { state = 0; opening = 4660; waiting = k; filled = 0; heard = n; first = 0; events = replicate 32 0 }

abbrev pub edge : List Watch
edge = counting 4294967295 0 ∷ counting 4294967294 1 ∷ []

pub record Edge : Type 0 where
  -- a post is refused by 21, to both
  pub post-full : (post_of (opening table) edge 0 1).answer ≡ Err (CountFull 0)
  pub post-last : (post_of (opening table) edge 1 1).answer ≡ Err (CountFull 1)
  -- a turn takes both watches, and hears the last event of the one that waits
  pub turn : (turn_of (opening table) edge 0).answer ≡ Ok (Served.Heard 1 0 (state_of 4660 0) Undecided)
  pub count : watch_at (turn_of (opening table) edge 0).desk 1 ≡ counting 4294967295 0
  -- one event more is 13, also where 32 bits would hold the sum wrapped
  pub past : (turn_of (opening table) (counting 4294967295 1 ∷ []) 0).answer ≡ Err (WrongWatch 0)
  pub far-past : (turn_of (opening table) (counting 4294967295 32 ∷ []) 0).answer ≡ Err (WrongWatch 0)

pub at-the-edge : Edge
unfolding is_table decided_from post_by post_of turn_by turn_of
at-the-edge = record { post-full = refl; post-last = refl; turn = refl; count = refl; past = refl; far-past = refl }
