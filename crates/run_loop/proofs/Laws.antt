-- The laws of a run by one loop.
use mathlib.Core.Path.{◌≡◌, refl, ap, ◌∙◌}
use mathlib.Core.List.{List, [], ◌∷◌}
use mathlib.Core.Bool.{Bool, true, false, cond, ◌&&◌}
use Prim.Native.Nat.{ℕ, suc, ◌+◌, ◌≤◌, ◌<◌}
use native.Mathlib.Numerals.{add-one}
use native.Mathlib.Omega.{arith}
use lib.ListN.{length, get_or, drop, drop_of_length-le}
use lib.Seq.{drop-cons}
use Rattle.meaning.specs.Monitors.{Monitor, follow}
use Rattle.meaning.specs.TableFiles.{verdict_of, verdict_byte, successor, monitor_in}
use Rattle.meaning.specs.Runs.{decided_from, in_table, on_table}
use Rattle.meaning.specs.declared.Verdict.{Verdict}
use Rattle.meaning.specs.declared.Refusal.TheVariants.{WrongTable}
use Rattle.run_parts.specs.Parts.{decides_at}
use Rattle.run_loop.specs.Ends.{noted_of, end_in}
use Rattle.std.proofs.Common.{Result, Ok, Err, Option, Some, None}
use Rattle.meaning.specs.declared.Arrival.{Arrival}
use Rattle.meaning.specs.declared.Refusal.{Refusal}

module _ (t : List ℕ) (P S : ℕ) where
  -- the answer at s, with the count
  abbrev arrived : ℕ → Verdict → Option ℕ → Result (Arrival ℕ) Refusal
  arrived s v d = Ok (record { state = s; verdict = v; decided = d })

  -- a run by one loop: at s after n events, with the count so far
  unfoldable pub going : Option ℕ → ℕ → ℕ → List ℕ → Result (Arrival ℕ) Refusal
  going d n s [] = cond (in_table t P S s) (arrived s (verdict_of (verdict_byte t P s)) (noted_of d (decides_at t P s) n)) (Err WrongTable)
  going d n s (e ∷ es) =
      let later = going (noted_of d (decides_at t P s) n) (suc n) (successor t P s e) es in
      cond (in_table t P S s) later (Err WrongTable)

  -- the count, where it was there before
  abbrev earlier : Option ℕ → Option ℕ → Option ℕ
  earlier (Some k) d = Some k
  earlier None d = d

  noted-earlier : (d : Option ℕ) (b : Bool) (n : ℕ) → noted_of d b n ≡ earlier d (cond b (Some n) None)
  noted-earlier (Some k) b n = refl
  noted-earlier None b n = refl

  earlier-noted : (d : Option ℕ) (b : Bool) (n : ℕ) (r : Option ℕ) → earlier (noted_of d b n) r ≡ earlier d (cond b (Some n) r)
  earlier-noted (Some k) b n r = refl
  earlier-noted None true n r = refl
  earlier-noted None false n r = refl

  abbrev m : Monitor
  m = monitor_in t P S

  abbrev reached : Option ℕ → ℕ → ℕ → List ℕ → Result (Arrival ℕ) Refusal
  reached d n s es = arrived (follow m s es) (m.verdict (follow m s es)) (earlier d (decided_from m n s es))

  going-is : (d : Option ℕ) (n s : ℕ) (es : List ℕ) → going d n s es ≡ cond (on_table t P S s es) (reached d n s es) (Err WrongTable)
  unfolding going on_table decided_from
  going-is d n s [] = ap (λ (k : Option ℕ). cond (in_table t P S s) (arrived s (m.verdict s) k) (Err WrongTable)) (noted-earlier d (decides_at t P s) n)
  going-is d n s (e ∷ es) = go (in_table t P S s) (going-is (noted_of d (decides_at t P s) n) (suc n) (successor t P s e) es)
    where
      r : ℕ
      r = successor t P s e

      k : Option ℕ
      k = noted_of d (decides_at t P s) n

      go : (b : Bool) → going k (suc n) r es ≡ cond (on_table t P S r es) (reached k (suc n) r es) (Err WrongTable)
          → cond b (going k (suc n) r es) (Err WrongTable) ≡ cond (b && on_table t P S r es) (reached d n s (e ∷ es)) (Err WrongTable)
      go true h =
          h ∙ ap (λ (x : Option ℕ). cond (on_table t P S r es) (arrived (follow m r es) (m.verdict (follow m r es)) x) (Err WrongTable))
          (earlier-noted d (decides_at t P s) n (decided_from m (suc n) r es))
      go false h = refl

  pub going-ends : (s : ℕ) (es : List ℕ) → going None 0 s es ≡ end_in t P S s es
  going-ends s es = going-is None 0 s es

  module _ (es : List ℕ) where
    -- one event more
    pub going_more : (d k : Option ℕ) (s i r : ℕ) → i < length es → in_table t P S s ≡ true → k ≡ noted_of d (decides_at t P s) i → r ≡ successor t P s (get_or es i 0)
        → going k (i + 1) r (drop (i + 1) es) ≡ going d i s (drop i es)
    unfolding going
    going_more d k s i r l h p q = rw (add-one i, drop-cons es i 0 l, p, q, h)

    pub going-off : (d : Option ℕ) (s i : ℕ) → in_table t P S s ≡ false → going d i s (drop i es) ≡ Err WrongTable
    unfolding going
    going-off d s i h = at (drop i es)
      where
        at : (l : List ℕ) → going d i s l ≡ Err WrongTable
        at [] = rw h
        at (e ∷ l) = rw h

    pub going_end : (d k : Option ℕ) (v : Verdict) (s i : ℕ) → i ≡ length es → in_table t P S s ≡ true → v ≡ verdict_of (verdict_byte t P s)
        → k ≡ noted_of d (decides_at t P s) (length es) → going d i s (drop i es) ≡ arrived s v k
    unfolding going
    going_end d k v s i l h p q = let past : length es ≤ i = omega arith in rw (drop_of_length-le es past, h, p, q, l)
