-- What posts and turns of a good desk come to. Nothing else looks into their definitions.
--     Added, Denied     a post that is done, and one that is refused, by 19, 12, 20 or 21
--     posted            a post is one of the two
--     Hearing, Silent   a turn that hears the first number with an event waiting, and one that finds none
--     turned            a turn is one of the two
use Rattle.std.proofs.Common.{Ok, Err}
use mathlib.Core.Path.{◌≡◌, refl, sym, ap, ◌∙◌, subst}
use mathlib.Core.Logic.{◌⊎◌, inl, inr}
use mathlib.Core.List.{List, [], ◌∷◌}
use mathlib.Core.Bool.{Bool, true, false, cond, not}
use Prim.Native.Nat.{ℕ, ◌≤◌, ◌<◌}
use native.Mathlib.Omega.{arith}
use borrow.Author.Tests.{le-ltb, leb-true, leb-false, ltb-true, ltb-false, eqb-false}
use lib.Dec.{leb, ltb, eqb}
use lib.ListN.{length, set}
use Rattle.sequences.proofs.Pigeonhole.{Least, least-below}
use Rattle.meaning.specs.Traces.{Alphabet, Event, is_event}
use Rattle.meaning.specs.TableFiles.{is_table, alphabet_in, signals_in, states_in, successor, monitor_of}
use Rattle.meaning.specs.Runs.{run_of}
use Rattle.meaning.specs.RuleFiles.{first_of}
use Rattle.meaning.specs.Refusals.{code_of}
use Rattle.meaning.specs.Openings.{Opening, state_of}
use Rattle.meaning.specs.Desks.{Outcome, counted, watch_at, refused, with_event, oldest, without_oldest, after, passed, heard_by, post_by, post_of, turn_by, turn_of}
use Rattle.meaning.specs.declared.Refusal.{Refusal}
use Rattle.meaning.specs.declared.Refusal.TheVariants.{WrongEvent, WrongNumber, QueueFull, CountFull}
use Rattle.meaning.specs.declared.Verdict.{Verdict}
use Rattle.meaning.specs.declared.Watch.{Watch}
use Rattle.meaning.specs.declared.Served.TheVariants as Served
use Rattle.table_layout.proofs.Form.{test-event}
use Rattle.building.proofs.Running.{word-run}
use Rattle.rounds.proofs.Rounds.{after-in}
use Rattle.desk_histories.proofs.Rows.{Good, oldest-event, row-fits, none-foreign, none-wrong}

module _ (o : Opening) where
  abbrev pub Σ : Alphabet
  Σ = alphabet_in o.table (signals_in o.table)

  abbrev pub S : ℕ
  S = states_in o.table

  -- a row of n watches that fit the table
  abbrev pub Fine : ℕ → List Watch → Type 0
  Fine n d = Good o.number Σ S n d

  -- where the oldest event of a watch leads it
  abbrev pub next : Watch → ℕ
  next w = successor o.table (signals_in o.table) w.state (oldest w)

  -- the verdict there, and the watch that has heard it
  abbrev pub shown : Watch → Verdict
  shown w = (monitor_of o.table).verdict (next w)

  abbrev pub later : Watch → Watch
  later w = without_oldest w (next w) (shown w)

  module _ (n : ℕ) (d : List Watch) where
    -- ---- a post of e to j
    pub record Added (j e : ℕ) : Type 0 where
      pub inside : j < n
      pub event : Event Σ e
      pub room : (watch_at d j).waiting < 32
      pub counts : counted (watch_at d j) < 4294967295
      pub is : post_of o d j e ≡ record { answer = Ok Served.Done; desk = set d j (with_event (watch_at d j) e) }

    pub record Denied (j e : ℕ) : Type 0 where
      pub why : Refusal
      pub number : ((code_of why).0 ≡ 19) ⊎ ((code_of why).0 ≡ 12) ⊎ ((code_of why).0 ≡ 20) ⊎ ((code_of why).0 ≡ 21)
      pub is : post_of o d j e ≡ refused d why

    -- ---- a turn that takes l
    module _ (l : ℕ) where
      -- at so many numbers after l, from the first on, nothing waits
      pub record Silence (k : ℕ) : Type 0 where
        pub none : (p : ℕ) → p < k → (watch_at d (after n l p)).waiting ≡ 0

      pub record Hearing : Type 0 where
        pub passes : ℕ
        pub number : ℕ
        pub fewer : passes < n
        pub before : Silence passes
        pub there : number ≡ after n l passes
        pub inside : number < n
        pub waits : 1 ≤ (watch_at d number).waiting
        pub is : turn_of o d l
            ≡ record { answer = Ok (Served.Heard number (oldest (watch_at d number)) (state_of o.number (next (watch_at d number))) (shown (watch_at d number))); desk = set d number (later (watch_at d number)) }

      pub record Silent : Type 0 where
        pub before : Silence n
        pub is : turn_of o d l ≡ record { answer = Ok (Served.NoneWaits l); desk = d }

  module _ (form : is_table o.table ≡ true) (n : ℕ) (some : 1 ≤ n) (few : n ≤ 64) (d : List Watch) (g : Fine n d) where
    abbrev done : ℕ → ℕ → Outcome
    done j e = record { answer = Ok Served.Done; desk = set d j (with_event (watch_at d j) e) }

    -- the tests of the table and of the desk pass, and the other four are left
    post-checked : (j e : ℕ) → post_of o d j e
        ≡ first_of (refused d)
        ((leb (length d) j, WrongNumber j)
        ∷ (not (is_event Σ e), WrongEvent j)
        ∷ (leb 32 (watch_at d j).waiting, QueueFull j)
        ∷ (eqb (counted (watch_at d j)) 4294967295, CountFull j)
        ∷ [])
        (done j e)
    unfolding post_by post_of
    post-checked j e = rw (form, row-fits o.number Σ S n d g some few, none-foreign o.number Σ S n d g, none-wrong o.number Σ S n d g, le-ltb (length d) (length d) (omega arith))

    pub posted : (j e : ℕ) → Added n d j e ⊎ Denied n d j e
    posted j e = go (leb (length d) j) (is_event Σ e) (leb 32 (watch_at d j).waiting) (eqb (counted (watch_at d j)) 4294967295) refl refl refl refl
      where
        go : (a b c f : Bool) → leb (length d) j ≡ a → is_event Σ e ≡ b → leb 32 (watch_at d j).waiting ≡ c → eqb (counted (watch_at d j)) 4294967295 ≡ f
            → Added n d j e ⊎ Denied n d j e
        go true b c f p q r s = inr (record { why = WrongNumber j; number = inl refl; is = post-checked j e ∙ rw p })
        go false false c f p q r s = inr (record { why = WrongEvent j; number = inr (inl refl); is = post-checked j e ∙ rw (p, q) })
        go false true true f p q r s = inr (record { why = QueueFull j; number = inr (inr (inl refl)); is = post-checked j e ∙ rw (p, q, r) })
        go false true false true p q r s = inr (record { why = CountFull j; number = inr (inr (inr refl)); is = post-checked j e ∙ rw (p, q, r, s) })
        go false true false false p q r s =
            let l : j < n = omega (arith, leb-false (length d) j p, g.size) in
            inl (record {
              inside = l;
              event = test-event Σ e q;
              room = leb-false 32 (watch_at d j).waiting r;
              counts = omega (arith, (g.fits j l).sum, eqb-false (counted (watch_at d j)) 4294967295 s);
              is = post-checked j e ∙ rw (p, q, r, s);
            })

    module _ (l : ℕ) where
      abbrev at : ℕ
      at = after (length d) l (passed d l)

      turn-checked : turn_of o d l
          ≡ cond (ltb (passed d l) (length d)) (heard_by o.number d at (run_of o.table (watch_at d at).state (oldest (watch_at d at) ∷ []))) (record { answer = Ok (Served.NoneWaits l); desk = d })
      unfolding turn_by turn_of
      turn-checked = rw (form, row-fits o.number Σ S n d g some few, none-foreign o.number Σ S n d g, none-wrong o.number Σ S n d g, le-ltb (length d) (length d) (omega arith))

      least : Least (length d) (λ k. leb 1 (watch_at d (after (length d) l k)).waiting) (passed d l)
      least = least-below (length d) (λ k. leb 1 (watch_at d (after (length d) l k)).waiting)

      same_after : (k : ℕ) → after (length d) l k ≡ after n l k
      same_after k = ap (λ (m : ℕ). after m l k) g.size

      silence : (k : ℕ) → k ≤ passed d l → Silence n d l k
      silence k h = record {
        none = λ p b.
            subst (λ (j : ℕ). (watch_at d j).waiting ≡ 0) (same_after p)
            (omega (arith, leb-false 1 (watch_at d (after (length d) l p)).waiting (least.before p (omega arith))));
      }

      pub turned : Hearing n d l ⊎ Silent n d l
      turned = go (ltb (passed d l) (length d)) refl
        where
          go : (b : Bool) → ltb (passed d l) (length d) ≡ b → Hearing n d l ⊎ Silent n d l
          go true q =
              let h : passed d l < length d = ltb-true (passed d l) (length d) q in
              let w : 1 ≤ (watch_at d at).waiting = leb-true 1 (watch_at d at).waiting (least.here h) in
              let i : at < n = subst (λ (j : ℕ). j < n) (sym (same_after (passed d l))) (after-in n some l (passed d l)) in
              let f = g.fits at i in
              let e : Event Σ (oldest (watch_at d at)) = oldest-event o.number Σ S (watch_at d at) f w in
              inl (record {
                passes = passed d l;
                number = at;
                fewer = omega (arith, g.size);
                before = silence (passed d l) (omega arith);
                there = same_after (passed d l);
                inside = i;
                waits = w;
                is = turn-checked ∙ rw q (ap (heard_by o.number d at) (word-run o.table form (watch_at d at).state (oldest (watch_at d at) ∷ []) f.inside (e, tt)));
              })
          go false q = inr (record { before = silence n (omega (arith, ltb-false (passed d l) (length d) q, g.size)); is = turn-checked ∙ rw q })
