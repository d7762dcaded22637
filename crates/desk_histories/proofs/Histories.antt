-- From a fresh desk, which only posts and turns with one table change: five theorems, and where they begin.
--     tunnel-right      nothing is lost, heard twice or out of order, each state is that of a run, and what waits is heard within a round
--     when-right        each count is of what was heard, and the number at which a verdict first stood is that of a run
--     next-right        no turn is refused, a post only by 19, 12, 20 or 21, and what a turn says it heard is so
--     verdict-right     over a built table, the verdict of each state is demand 2's
--     filled-right      over a built table, the number is filled exactly while that verdict is not undecided
--     begun_fresh       what making a desk fresh leaves is where they begin
use Rattle.std.proofs.Common.{Ok, Err}
use mathlib.Core.Path.{◌≡◌, sym, ap, ◌∙◌, subst}
use mathlib.Core.Logic.{◌⊎◌, inl, inr}
use mathlib.Core.List.{List, []}
use mathlib.Core.Bool.{true}
use Prim.Native.Nat.{ℕ, ◌≤◌, ◌<◌}
use native.Mathlib.Omega.{arith}
use lib.ListN.{length, take, get_or-replicate}
use lib.Seq.{take-append_seam, get_or-set_same}
use Rattle.meaning.specs.Traces.{Word}
use Rattle.meaning.specs.Monitors.{follow, ShowsVerdicts}
use Rattle.meaning.specs.Refusals.{code_of}
use Rattle.meaning.specs.RuleFiles.{alphabet_of}
use Rattle.meaning.specs.TableFiles.{is_table, monitor_of}
use Rattle.meaning.specs.Runs.{decides, end_of}
use Rattle.meaning.specs.Openings.{Opening, state_of, start_of, carried, run_from}
use Rattle.meaning.specs.Desks.{Outcome, first_stood, fresh_watch, no_watch, stands, watch_at, oldest, row_fits, last_of, fresh_of}
use Rattle.meaning.specs.Histories.{Action, Post, Turn, Standing, begun, reached, asked, accepted, heard, turns}
use Rattle.meaning.specs.declared.Refusal.{Refusal}
use Rattle.meaning.specs.declared.Verdict.{Verdict}
use Rattle.meaning.specs.declared.State.{State}
use Rattle.meaning.specs.declared.Served.TheVariants as Served
use Rattle.meaning.specs.declared.Watch.{Watch}
use Rattle.table_layout.proofs.Form.{states-some, table-header}
use Rattle.building.specs.Build.{BuiltRight}
use Rattle.building.proofs.Running.{word_same, word-run, own-run}
use Rattle.desk_histories.specs.Laws.{EndsIn, TunnelRight, NextRight, VerdictRight, CountIs, WhenRight, FilledRight}
use Rattle.desk_histories.proofs.Rows.{good-fresh}
use Rattle.desk_histories.proofs.Counts.{Heard, heard-fresh, stood, filled-stood, stood-while}
use Rattle.rounds.proofs.Rounds.{apart_some, last-in}
use Rattle.desk_histories.proofs.Answers.{Σ, S, Fine, next, later, Added, Denied, Hearing, Silent, posted, turned}
use Rattle.desk_histories.proofs.Moves.{Moved, good-all, moved_all}
use Rattle.desk_histories.proofs.Turns.{Within, soon}
use Rattle.std.proofs.Common.{Result, Err}
use Rattle.meaning.specs.declared.Arrival.{Arrival}

module _ (o : Opening) (form : is_table o.table ≡ true) (n l : ℕ) (some : 1 ≤ n) (few : n ≤ 64) where
  first : 1 ≤ S o
  first = states-some o.table (table-header o.table form)

  -- a watch of a fresh desk
  abbrev fresh : Watch
  fresh = fresh_watch o.number ((monitor_of o.table).verdict 0)

  fresh-good : Fine o n (begun o n l).desk
  fresh-good = good-fresh o.number (Σ o) (S o) ((monitor_of o.table).verdict 0) n first

  good : (h : List Action) → Fine o n (reached o (begun o n l) h).desk
  good h = good-all o form n some few (begun o n l) fresh-good h

  -- ---- one tunnel

  module _ (h : List Action) (i : ℕ) (inside : i < n) where
    abbrev now : Watch
    now = watch_at (reached o (begun o n l) h).desk i

    moved : Moved o fresh now (accepted o (begun o n l) i h) (heard o (begun o n l) i h)
    moved =
        subst (λ (w : Watch). Moved o w now (accepted o (begun o n l) i h) (heard o (begun o n l) i h)) (get_or-replicate n i fresh no_watch inside)
        (moved_all o form n some few i inside (begun o n l) fresh-good h)

    remembered : Heard (monitor_of o.table) now (heard o (begun o n l) i h)
    remembered = moved.heard [] (heard-fresh (monitor_of o.table) o.number)

    -- what was heard are the first of the events that were accepted
    heard-first : take (length (heard o (begun o n l) i h)) (accepted o (begun o n l) i h) ≡ heard o (begun o n l) i h
    heard-first = ap (take (length (heard o (begun o n l) i h))) moved.kept ∙ take-append_seam (heard o (begun o n l) i h) _

    run_ends : run_from o (start_of o) (heard o (begun o n l) i h) ≡ carried o.number (end_of (monitor_of o.table) 0 (heard o (begun o n l) i h))
    run_ends = own-run o form 0 (heard o (begun o n l) i h) ∙ ap (carried o.number) (word-run o.table form 0 (heard o (begun o n l) i h) first moved.word)

    -- the watch carries the opening's number, and stands where the run ends
    here-stands : state_of o.number (follow (monitor_of o.table) 0 (heard o (begun o n l) i h)) ≡ stands now
    here-stands =
        ap (state_of o.number) (sym remembered.state) ∙ ap (λ (k : ℕ). state_of k now.state) (sym ((good h).fits i inside).own)

    -- the way round to a number is shorter than the row
    round : (c : Standing) (k : ℕ) → n ≤ k → Within n c.last i k
    round c k m =
        let x = apart_some n (last_of n c.last) i (last-in n some c.last) inside in
        record { others = x.0; apart = x.1; fewer = omega (arith, x.1.short) }

  pub tunnel-right : (h : List Action) (i : ℕ) → i < n → TunnelRight o n l h i
  tunnel-right h i inside = record {
    kept = (moved h i inside).kept;
    state =
        subst (λ (r : Result (Arrival State) Refusal). EndsIn r (stands (now h i inside))) (sym (ap (run_from o (start_of o)) (heard-first h i inside) ∙ run_ends h i inside)) (here-stands h i inside);
    in_time = λ g w m. soon o form n some few i inside (reached o (begun o n l) h) (good h) w g (round h i inside (reached o (begun o n l) h) (turns g) m);
  }

  pub when-right : (h : List Action) (i : ℕ) → i < n → WhenRight o n l h i
  when-right h i inside = record {
    count = omega (arith, (remembered h i inside).count);
    first = subst (λ (r : Result (Arrival State) Refusal). CountIs r (first_stood (now h i inside))) (sym (run_ends h i inside)) (sym (remembered h i inside).first);
  }

  -- ---- the next action

  module _ (h : List Action) where
    abbrev at : Standing
    at = reached o (begun o n l) h

    turn-taken : (x : Refusal) → (asked o at Turn).answer ≡ Err x → ⊥
    turn-taken x q = go (turned o form n some few at.desk (good h) at.last)
      where
        go : Hearing o n at.desk at.last ⊎ Silent o n at.desk at.last → ⊥
        go (inl p) = let r = sym (ap (λ (y : Outcome). y.answer) p.is) ∙ q in let z : ◌≡◌ {A = ℕ} 0 1 = cc in omega arith
        go (inr p) = let r = sym (ap (λ (y : Outcome). y.answer) p.is) ∙ q in let z : ◌≡◌ {A = ℕ} 0 1 = cc in omega arith

    post-refused : (j e : ℕ) (x : Refusal) → (asked o at (Post j e)).answer ≡ Err x → ((code_of x).0 ≡ 19) ⊎ ((code_of x).0 ≡ 12) ⊎ ((code_of x).0 ≡ 20) ⊎ ((code_of x).0 ≡ 21)
    post-refused j e x q = go (posted o form n some few at.desk (good h) j e)
      where
        go : Added o n at.desk j e ⊎ Denied o n at.desk j e → ((code_of x).0 ≡ 19) ⊎ ((code_of x).0 ≡ 12) ⊎ ((code_of x).0 ≡ 20) ⊎ ((code_of x).0 ≡ 21)
        go (inl p) = let r = sym (ap (λ (y : Outcome). y.answer) p.is) ∙ q in let z : ◌≡◌ {A = ℕ} 0 1 = cc in absurd (omega arith)
        go (inr p) =
            let r = sym (ap (λ (y : Outcome). y.answer) p.is) ∙ q in
            let y : p.why ≡ x = cc in
            subst (λ (u : Refusal). ((code_of u).0 ≡ 19) ⊎ ((code_of u).0 ≡ 12) ⊎ ((code_of u).0 ≡ 20) ⊎ ((code_of u).0 ≡ 21)) y p.number

    turn-heard : (i e : ℕ) (s : State) (v : Verdict) → (asked o at Turn).answer ≡ Ok (Served.Heard i e s v)
        → (i < n) × (e ≡ oldest (watch_at at.desk i)) × (s ≡ stands (watch_at (asked o at Turn).desk i)) × (v ≡ (monitor_of o.table).verdict s.number)
    turn-heard i e s v q = go (turned o form n some few at.desk (good h) at.last)
      where
        go : Hearing o n at.desk at.last ⊎ Silent o n at.desk at.last
            → (i < n) × (e ≡ oldest (watch_at at.desk i)) × (s ≡ stands (watch_at (asked o at Turn).desk i)) × (v ≡ (monitor_of o.table).verdict s.number)
        go (inr p) = let r = sym (ap (λ (y : Outcome). y.answer) p.is) ∙ q in let z : ◌≡◌ {A = ℕ} 0 1 = cc in absurd (omega arith)
        go (inl p) =
            let j : ℕ = p.number in
            let w : Watch = watch_at at.desk j in
            let r = sym (ap (λ (y : Outcome). y.answer) p.is) ∙ q in
            let number : j ≡ i = cc in
            let event : oldest w ≡ e = cc in
            let to : state_of o.number (next o w) ≡ s = cc in
            let says : (monitor_of o.table).verdict (next o w) ≡ v = cc in
            let here : j < length at.desk = omega (arith, p.inside, (good h).size) in
            let now : watch_at (asked o at Turn).desk j ≡ later o w =
            ap (λ (y : Outcome). watch_at y.desk j) p.is ∙ get_or-set_same at.desk j (later o w) no_watch here in
            let there : stands (watch_at (asked o at Turn).desk j) ≡ state_of o.number (next o w) =
            ap stands now ∙ ap (λ (k : ℕ). state_of k (next o w)) ((good h).fits j p.inside).own in (
              omega (arith, p.inside, number),
              sym event ∙ ap (λ (k : ℕ). oldest (watch_at at.desk k)) number,
              sym to ∙ sym there ∙ ap (λ (k : ℕ). stands (watch_at (asked o at Turn).desk k)) number,
              sym says ∙ ap (λ (q : State). (monitor_of o.table).verdict q.number) to,
            )

  pub next-right : (h : List Action) → NextRight o n l h
  next-right h = record { turn = turn-taken h; post = post-refused h; heard = turn-heard h }

-- ---- over a built table

module _ (file : List ℕ) (o : Opening) (b : BuiltRight file o.table) (n l : ℕ) (some : 1 ≤ n) (few : n ≤ 64) (h : List Action) (i : ℕ) (inside : i < n) where
  -- what the tunnel heard
  abbrev all : List ℕ
  all = heard o (begun o n l) i h

  all-word : Word (alphabet_of b.rule) all
  all-word = word_same (Σ o) (alphabet_of b.rule) (λ e. sym (b.demand_3.events e)) all (moved o b.demand_3.form n l some few h i inside).word

  all-heard : Heard (monitor_of o.table) (watch_at (reached o (begun o n l) h).desk i) all
  all-heard = remembered o b.demand_3.form n l some few h i inside

  pub verdict-right : VerdictRight b.rule o n l h i
  unfolding ShowsVerdicts
  verdict-right = rw all-heard.state (b.demand_3.verdicts all all-word)

  pub filled-right : FilledRight o n l h i
  filled-right =
      filled-stood (watch_at (reached o (begun o n l) h).desk i)
      ∙ ap stood all-heard.first
      ∙ stood-while file o.table b all all-word
      ∙ ap (λ (s : ℕ). decides ((monitor_of o.table).verdict s)) (sym all-heard.state)

-- ---- the beginning

pub begun_fresh : (o : Opening) → is_table o.table ≡ true → (d : List Watch) → row_fits d ≡ true → (l : ℕ)
    → fresh_of o d ≡ record { answer = Ok Served.Done; desk = (begun o (length d) l).desk }
unfolding fresh_of
begun_fresh o form d fits l = rw (form, fits)
