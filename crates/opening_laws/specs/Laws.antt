-- What C-18 says: "Under distinct numbers, for built tables, a run from a start, or from a state that such a run
-- returned, is refused by 24 exactly if the state is another opening's; without a refusal it returns demand 2's
-- verdict for all events since that start." And the same of a desk.
use Rattle.std.specs.Prelude.{◌≡◌, ◌↔◌, List, [], ◌∷◌, ◌++◌, ℕ}
use Rattle.meaning.specs.Traces.{Alphabet, Word}
use Rattle.meaning.specs.Verdicts.{Property, Judged}
use Rattle.meaning.specs.Refusals.{code_of}
use Rattle.meaning.specs.RuleFiles.{alphabet_of, property_of}
use Rattle.meaning.specs.Openings.{Opening, start_of, run_from}
use Rattle.meaning.specs.Histories.{Action, Turn, Standing, begun, asked, onward, hears}
use Rattle.meaning.specs.declared.Refusal.{Refusal}
use Rattle.meaning.specs.declared.Refusal.TheVariants.{WrongOpening}
use Rattle.meaning.specs.declared.Verdict.{Verdict}
use Rattle.meaning.specs.declared.State.{State}
use Rattle.meaning.specs.declared.Served.TheVariants as Served
use Rattle.building.specs.Build.{BuiltRight}
use Rattle.std.specs.Prelude.{Ok, Err}
use Rattle.meaning.specs.declared.Arrival.{Arrival}

-- A family of openings, of any kind and number: each of a table that was built of some rule file, and no two with the
-- same number.
pub record Family (I : Type 0) : Type 0 where
  pub opening : I → Opening
  pub file : I → List ℕ
  pub built : (i : I) → BuiltRight (file i) (opening i).table
  pub distinct : (i j : I) → (opening i).number ≡ (opening j).number → i ≡ j

-- the events that can happen, and the property, of an opening's rule
abbrev pub alphabet_at : {I : Type 0} → Family I → I → Alphabet
alphabet_at F i = alphabet_of (F.built i).rule

abbrev pub property_at : {I : Type 0} → Family I → I → Property
property_at F i = property_of (F.built i).rule

-- ---- states

-- "a run from a start, or from a state that such a run returned": opening i returned the state s, and since that
-- start the events w were read. Each run may be tried with any opening of the family.
pub data Held {I : Type 0} (F : Family I) : I → State → List ℕ → Type 0 where
  start : (i : I) → Held F i (start_of (F.opening i)) []
  run : {i : I} {s : State} {w : List ℕ} (j : I) (es : List ℕ) (a : Arrival State)
      → Held F i s w → run_from (F.opening j) s es ≡ Ok a → Held F j a.state (w ++ es)

-- of the state s, which opening i returned, after the events w
pub record StateRight {I : Type 0} (F : Family I) (i : I) (s : State) (w : List ℕ) : Type 0 where
  -- "is refused by 24 exactly if the state is another opening's"
  pub foreign : (j : I) (es : List ℕ) → (run_from (F.opening j) s es ≡ Err (WrongOpening 0)) ↔ (¬ (i ≡ j))
  -- "without a refusal it returns demand 2's verdict for all events since that start"
  pub verdict : (j : I) (es : List ℕ) (a : Arrival State) → run_from (F.opening j) s es ≡ Ok a
      → Judged (alphabet_at F j) (property_at F j) (w ++ es) a.verdict
  -- with the state's own opening a run over events that can happen is not refused, and any other by 12
  pub taken : (es : List ℕ) → Word (alphabet_at F i) es → (x : Refusal) → ¬ (run_from (F.opening i) s es ≡ Err x)
  pub refused : (es : List ℕ) (x : Refusal) → run_from (F.opening i) s es ≡ Err x → (code_of x).0 ≡ 12

-- ---- a desk: what is asked of it, and with which opening

module _ {I : Type 0} (F : Family I) where
  -- after a list of actions
  abbrev pub served : Standing → List (I × Action) → Standing
  served c [] = c
  served c (x ∷ rest) = served (onward (F.opening x.0) c x.1) rest

  -- the events of tunnel k that were heard
  abbrev pub heard_by : Standing → ℕ → List (I × Action) → List ℕ
  heard_by c k [] = []
  heard_by c k (x ∷ rest) = hears k (asked (F.opening x.0) c x.1).answer ++ heard_by (onward (F.opening x.0) c x.1) k rest

  -- a desk of n watches made fresh with opening i, whose first turn takes l, after the actions h
  abbrev pub desk_after : I → ℕ → ℕ → List (I × Action) → Standing
  desk_after i n l h = served (begun (F.opening i) n l) h

  pub record DeskRight (i : I) (n l : ℕ) (h : List (I × Action)) : Type 0 where
    -- a post or turn is refused by 24, at the first watch, exactly if it comes with another opening than the one that
    -- made the desk fresh
    pub foreign : (j : I) (a : Action) → ((asked (F.opening j) (desk_after i n l h) a).answer ≡ Err (WrongOpening 0)) ↔ (¬ (i ≡ j))
    -- and then changes nothing
    pub kept : (j : I) (a : Action) → ¬ (i ≡ j) → onward (F.opening j) (desk_after i n l h) a ≡ desk_after i n l h
    -- a turn that hears an event of tunnel k returns demand 2's verdict for all events of that tunnel heard since the
    -- desk was fresh
    pub verdict : (j : I) (k e : ℕ) (s : State) (v : Verdict) → (asked (F.opening j) (desk_after i n l h) Turn).answer ≡ Ok (Served.Heard k e s v)
        → Judged (alphabet_at F j) (property_at F j) (heard_by (begun (F.opening i) n l) k h ++ (e ∷ [])) v
