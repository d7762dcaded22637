-- A tunnel with an event waiting is heard soon: each turn hears it or another, and from that other the way round to it is shorter.
--     Within      a number is reached, going round, before so many turns are over
--     round_by    one action
--     soon        a list of them
use mathlib.Core.Path.{◌≡◌, sym, subst}
use mathlib.Core.Logic.{◌⊎◌, inl, inr}
use mathlib.Core.List.{List, [], ◌∷◌}
use mathlib.Core.Bool.{true, cond}
use Prim.Native.Nat.{ℕ, suc, ◌+◌, ◌≤◌, ◌<◌}
use native.Mathlib.Decide.{ℕ_discrete, dec_lt}
use native.Mathlib.Omega.{arith}
use borrow.Author.Tests.{eq-eqb}
use lib.Dec.{eqb}
use lib.ListN.{length, length-append}
use Rattle.meaning.specs.TableFiles.{is_table}
use Rattle.meaning.specs.Openings.{Opening}
use Rattle.meaning.specs.Desks.{Outcome, watch_at, oldest, last_of}
use Rattle.meaning.specs.Histories.{Action, Post, Turn, Standing, last_after, asked, onward, takes, hears, heard, turns}
use Rattle.rounds.proofs.Rounds.{Apart, nearer, after_is, after-apart, last-own}
use Rattle.desk_histories.proofs.Answers.{Fine, Added, Denied, Silence, Hearing, Silent, posted, turned}
use Rattle.desk_histories.proofs.Moves.{heard-in, good-by, moved_by, still-waits}

-- going round a row of n from l, i comes after some others, fewer than k
pub record Within (n l i k : ℕ) : Type 0 where
  pub others : ℕ
  pub apart : Apart n (last_of n l) i others
  pub fewer : others < k

module _ (o : Opening) (form : is_table o.table ≡ true) (n : ℕ) (some : 1 ≤ n) (few : n ≤ 64) (i : ℕ) (inside : i < n) where
  module _ (c : Standing) (g : Fine o n c.desk) (waits : 1 ≤ (watch_at c.desk i).waiting) where
    -- where nothing waits at the first k numbers, i is none of them
    silence-ends : (k r : ℕ) → Silence o n c.desk c.last k → Apart n (last_of n c.last) i r → k ≤ r
    silence-ends k r s p = go (dec_lt r k)
      where
        go : Dec (r < k) → k ≤ r
        go (yes q) =
            let z : (watch_at c.desk i).waiting ≡ 0 = subst (λ (j : ℕ). (watch_at c.desk j).waiting ≡ 0) (after-apart n some c.last i r inside p) (s.none r q) in
            absurd (omega arith)
        go (no q) = omega arith

    -- i is heard, or reached before k turns more are over
    abbrev Next : ℕ → Outcome → Type 0
    Next k y = (1 ≤ length (hears i y.answer)) ⊎ Within n (last_after y.answer c.last) i k

    -- a turn that hears
    round-heard : (k : ℕ) → Within n c.last i (suc k) → (h : Hearing o n c.desk c.last) (e : ℕ)
        → (1 ≤ length (cond (eqb i h.number) (e ∷ []) [])) ⊎ Within n h.number i k
    round-heard k x h e = go (ℕ_discrete i h.number)
      where
        way : Apart n (last_of n c.last) h.number h.passes
        way = subst (λ (j : ℕ). Apart n (last_of n c.last) j h.passes) (sym h.there) (after_is n some c.last h.passes h.fewer)

        in_row : h.number < n
        in_row = heard-in o form n some few c.desk g c.last h

        shorter : (i ≡ h.number → ⊥) → (r : ℕ) × (r < x.others) × Apart n h.number i r
        shorter q = nearer n (last_of n c.last) h.number i h.passes x.others way x.apart in_row inside (silence-ends h.passes x.others h.before x.apart) (λ p. q (sym p))

        go : Dec (i ≡ h.number) → (1 ≤ length (cond (eqb i h.number) (e ∷ []) [])) ⊎ Within n h.number i k
        go (yes q) = inl (rw (eq-eqb i h.number q) (omega arith))
        go (no q) =
            let y = shorter q in
            inr (record { others = y.0; apart = rw (last-own n h.number in_row) y.2; fewer = omega (arith, x.fewer) })

    round_by : (a : Action) (rest : List Action) → Within n c.last i (turns (a ∷ rest)) → Next (turns rest) (asked o c a)
    round_by (Post j e) rest x = go (posted o form n some few c.desk g j e)
      where
        go : Added o n c.desk j e ⊎ Denied o n c.desk j e → Next (turns rest) (asked o c (Post j e))
        go (inl h) = subst (Next (turns rest)) (sym h.is) (inr x)
        go (inr h) = subst (Next (turns rest)) (sym h.is) (inr x)
    round_by Turn rest x = go (turned o form n some few c.desk g c.last)
      where
        go : Hearing o n c.desk c.last ⊎ Silent o n c.desk c.last → Next (turns rest) (asked o c Turn)
        go (inl h) = subst (Next (turns rest)) (sym h.is) (round-heard (turns rest) x h (oldest (watch_at c.desk h.number)))
        go (inr h) = let z : n ≤ x.others = silence-ends n x.others h.before x.apart in absurd (omega (arith, x.apart.short))

  pub soon : (c : Standing) → Fine o n c.desk → 1 ≤ (watch_at c.desk i).waiting → (h : List Action) → Within n c.last i (turns h) → 1 ≤ length (heard o c i h)
  soon c g w [] x = absurd (omega (arith, x.fewer))
  soon c g w (a ∷ rest) x =
      go (round_by c g w a rest x)
      (still-waits o (watch_at c.desk i) (watch_at (asked o c a).desk i) (takes i a (asked o c a).answer) (hears i (asked o c a).answer)
      (g.fits i inside) ((good-by o form n some few c g a).fits i inside) (moved_by o form n some few i inside c g a) w)
      (λ w' x'. soon (onward o c a) (good-by o form n some few c g a) w' rest x')
    where
      sum : length (heard o c i (a ∷ rest)) ≡ length (hears i (asked o c a).answer) + length (heard o (onward o c a) i rest)
      sum = length-append (hears i (asked o c a).answer) (heard o (onward o c a) i rest)

      go : Next c g w (turns rest) (asked o c a)
          → (1 ≤ length (hears i (asked o c a).answer)) ⊎ (1 ≤ (watch_at (onward o c a).desk i).waiting)
          → (1 ≤ (watch_at (onward o c a).desk i).waiting → Within n (onward o c a).last i (turns rest) → 1 ≤ length (heard o (onward o c a) i rest))
          → 1 ≤ length (heard o c i (a ∷ rest))
      go (inl p) u f = omega (arith, sum)
      go (inr q) (inl p) f = omega (arith, sum)
      go (inr q) (inr p) f = omega (arith, sum, f p q)
