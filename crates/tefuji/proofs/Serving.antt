-- What a request comes to over the opening that is taken out of a number, and the number that answers it.
use mathlib.Core.Path.{◌≡◌, refl, ap, ◌∙◌}
use mathlib.Core.List.{List}
use mathlib.Core.Bool.{Bool, true, false}
use Prim.Native.Nat.{ℕ}
use lib.Dec.{ltb}
use Rattle.meaning.specs.Desks.{Outcome}
use Rattle.meaning.specs.declared.Served.{Served}
use Rattle.meaning.specs.declared.Watch.{Watch}
use Rattle.desk_tasks.specs.Surveys.{served_in}
use Rattle.desk_tasks.specs.declared.Request.{Request}
use Rattle.codes.specs.Codes.{served_code, signals_of, number_of, states_of, opening_in}
use Rattle.codes.specs.declared.Opening.{Opening}
use Rattle.tefuji.proofs.Steps.{served-opening}
use Rattle.std.proofs.Common.{Result}
use Rattle.meaning.specs.declared.Refusal.{Refusal}

-- the opening in a number has that number's
number_in : (c : ℕ) → (opening_in c).number ≡ number_of c
number_in c = go (ltb 4 (signals_of c)) refl
  where
    go : (b : Bool) → ltb 4 (signals_of c) ≡ b → (opening_in c).number ≡ number_of c
    go true h = rw h
    go false h = rw h

-- over the bytes t, the number n and the desk d: what is asked with an opening's number, as q, and the opening in n, as c
module _ (t : List ℕ) (n : ℕ) (d : List Watch) (ask : ℕ → Request) (q : Request) (c : Opening) (ce : c ≡ opening_in n) (qe : q ≡ ask c.number) where
  abbrev asked : Outcome
  asked = served_in t (signals_of n) (states_of n) (ask (number_of n)) d

  abbrev done : Outcome
  done = served_in t c.signals c.states q d

  done-is : done ≡ asked
  done-is =
      ap (λ (b : Request). served_in t c.signals c.states b d) qe
      ∙ ap (λ (k : Opening). served_in t k.signals k.states (ask k.number) d) ce
      ∙ ap (λ (k : ℕ). served_in t (opening_in n).signals (opening_in n).states (ask k) d) (number_in n)
      ∙ served-opening t d (ask (number_of n)) n

  pub answer_is : {s : Result Served Refusal} {r : ℕ} → s ≡ done.answer → r ≡ served_code s → r ≡ served_code asked.answer
  answer_is e re = re ∙ ap served_code (e ∙ ap (λ (o : Outcome). o.answer) done-is)

  pub desk-is : {l : List Watch} → l ≡ done.desk → l ≡ asked.desk
  desk-is e = e ∙ ap (λ (o : Outcome). o.desk) done-is
