-- Demands 2 and 3 hold of our builder, and the answer and the output of building meet them.
use mathlib.Core.Path.{◌≡◌, refl, sym, subst, subst₂, ap, ◌∙◌}
use mathlib.Core.Logic.{inl, inr}
use mathlib.Core.List.{List, ◌++◌}
use mathlib.Core.Bool.{Bool, true, false}
use Prim.Native.Nat.{ℕ, ◌<◌}
use native.Mathlib.Omega.{arith}
use lib.ListN.{length, take, drop}
use lib.Seq.{take-append_seam}
use lib.Dec.{leb}
use borrow.Author.Tests.{leb-false}
use Rattle.meaning.specs.Verdicts.{MoreThan}
use Rattle.meaning.specs.RuleFiles.{Rule, alphabet_of, property_of, Judgement, judge}
use Rattle.meaning.specs.Demands.{Reads, Demands}
use Rattle.ltl.proofs.Instance.{ltl_system}
use Rattle.smallest.specs.Table.{Outcome, Table, TooMany}
use Rattle.smallest.specs.Builder.{Built as BuiltBy}
use Rattle.smallest.proofs.Accepted.{accepted-formed}
use Rattle.smallest.proofs.Tables.{of-formed}
use Rattle.smallest.proofs.Smallest.{too_many}
use Rattle.smallest.proofs.Demands.{demands}
use Rattle.building.specs.Build.{outcome_of, answer_to, output_of, answer_of, output_after, BuiltRight, RefusedRight, Right}
use Rattle.std.proofs.Common.{Result}
use Rattle.meaning.specs.declared.Refusal.{Refusal}

-- the first theorem: demands 2 and 3, over all rule files and all tables
pub our-demands : Demands (BuiltBy ltl_system)
our-demands = demands ltl_system

same-rule : (file : List ℕ) (r r' : Rule) → Reads file r → Reads file r' → r ≡ r'
same-rule file r r' p q = cc

module _ (file : List ℕ) (r : Rule) (reads : Reads file r) where
  pub built-by : (t : List ℕ) → outcome_of r ≡ Table t → BuiltBy ltl_system file t
  unfolding outcome_of
  built-by t q = record { rule = r; reads = reads; is = q }

  built-right : (t : List ℕ) → outcome_of r ≡ Table t → BuiltRight file t
  built-right t q = record {
    rule = r;
    reads = reads;
    built = built-by t q;
    demand_2 = our-demands.demand_2 file r reads;
    demand_3 = our-demands.demand_3 file r t reads (built-by t q);
  }

  -- the table stands at the front of the output
  front-right : (t out : List ℕ) → outcome_of r ≡ Table t → BuiltRight file (take (length t) (t ++ drop (length t) out))
  front-right t out q = rw (take-append_seam t (drop (length t) out)) (built-right t q)

  short-right : (t : List ℕ) (room : ℕ) → outcome_of r ≡ Table t → room < length t → RefusedRight file room 10
  short-right t room q l r' reads' =
      inr (refl, (our-demands.demand_2 file r' reads').not_both t (built-by t q), record { table = t; built = built-by t q; longer = l })

  many-right : (room : ℕ) → outcome_of r ≡ TooMany → RefusedRight file room 11
  unfolding outcome_of
  many-right room q r' reads' =
      inl (refl, subst (λ (x : Rule). MoreThan (alphabet_of x) (property_of x) 256) (same-rule file r r' reads reads') (too_many (of-formed (accepted-formed file r reads)) (ltl_system r) q))

  accepted-right : (out : List ℕ) (x : Outcome) → outcome_of r ≡ x → Right file out (output_of x out) (answer_to x out)
  accepted-right out (Table t) q = go (leb (length t) (length out)) refl
    where
      go : (b : Bool) → leb (length t) (length out) ≡ b → Right file out (output_of (Table t) out) (answer_to (Table t) out)
      go true e = rw e (front-right t out q)
      go false e = rw e (short-right t (length out) q (leb-false (length t) (length out) e))
  accepted-right out TooMany q = many-right (length out) q

-- whatever the file says
pub right : (file out : List ℕ) → Right file out (output_after (judge file) out) (answer_of (judge file) out)
right file out = go (judge file) refl
  where
    go : (j : Judgement) → judge file ≡ j → Right file out (output_after j out) (answer_of j out)
    go (Judgement.Accepted r) q = accepted-right file r q out (outcome_of r) refl
    go (Judgement.Refused x) q = λ r reads. let z : ◌≡◌ {A = ℕ} 0 1 = cc in absurd (omega arith)

-- the contract of building, from the answer and the output at the judgement j of the file
pub all_right : (file before after : List ℕ) (b : Result ℕ Refusal) (j : Judgement) → judge file ≡ j → b ≡ answer_of j before → after ≡ output_after j before
    → (b ≡ answer_of (judge file) before) × ((after ≡ output_after (judge file) before) × Right file before after b)
all_right file before after b j q p o =
    let p' : b ≡ answer_of (judge file) before = p ∙ ap (λ (x : Judgement). answer_of x before) (sym q) in
    let o' : after ≡ output_after (judge file) before = o ∙ ap (λ (x : Judgement). output_after x before) (sym q) in
    (p', (o', subst₂ (λ (a : List ℕ) (x : Result ℕ Refusal). Right file before a x) (sym o') (sym p') (right file before)))
