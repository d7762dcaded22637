-- Every file but those whose second record has kind 257 has the judgement and the table that it had.
use mathlib.Core.Path.{◌≡◌, refl, sym, ap, ◌∙◌}
use mathlib.Core.Logic.{◌⊎◌, inl, inr}
use mathlib.Core.List.{List, []}
use Prim.Native.Nat.{ℕ, ◌^◌}
use native.Mathlib.Omega.{arith}
use lib.Dec.{eqb}
use Rattle.meaning.specs.Bytes.{bit, u16_at}
use Rattle.meaning.specs.Traces.{full_mask}
use Rattle.meaning.specs.RuleFiles.{Rule, alphabet_of, property_of, header_of, nodes_from, Judgement, Accepted, Refused, judge}
use Rattle.meaning.specs.declared.Refusal.{Refusal}
use Rattle.residuals.specs.System.{System}
use Rattle.events.proofs.Masks.{full-bit}
use Rattle.ltl.proofs.Instance.{nodes_system, ltl_system}
use Rattle.smallest.specs.Table.{Outcome, table_of}
use Rattle.smallest.proofs.Accepted.{accepted-formed, has-from}
use Rattle.smallest.proofs.Tables.{of-formed}
use Rattle.smallest.proofs.Alike.{Alike, turned, event-to, tables-same}
use Rattle.building.specs.Build.{outcome_of, answer_to, output_of, answer_of, output_after}
use Rattle.unmasked_files.specs.Earlier.{old_alphabet, old_judge}
use Rattle.unmasked_files.specs.Kept.{MaskSecond, old_answer, old_output, Kept}
use Rattle.unmasked_files.proofs.Readings.{readings}
use Rattle.std.proofs.Common.{Result, Ok, Err}
use Rattle.meaning.specs.declared.Header.{Header}

-- a rule that was accepted has the mask of all events
old-mask : (file : List ℕ) (r : Rule) → old_judge file ≡ Accepted r → r.mask ≡ full_mask r.signals
unfolding old_judge
old-mask file r e = go (header_of file) e
  where
    go : (x : Result Header Refusal)
        → elim x as (λ _. Judgement) [ Ok h ↦ nodes_from h.nodes file h.signals (full_mask h.signals) 6 [] | Err r ↦ Refused r ] ≡ Accepted r
        → r.mask ≡ full_mask r.signals
    go (Ok h) e =
        let f = has-from h.nodes file h.signals (full_mask h.signals) 6 [] r e (omega arith) in
        f.mask ∙ ap full_mask (sym f.signals)
    go (Err y) e = cc

-- and by it each event can happen
all-possible : (r : Rule) → r.mask ≡ full_mask r.signals → Alike (alphabet_of r) (old_alphabet r) (property_of r) (property_of r)
all-possible r q = record {
  width = refl;
  possible = λ e l. ap (λ (m : ℕ). eqb (bit e m) 1) q ∙ ap (λ (b : ℕ). eqb b 1) (full-bit (2 ^ r.signals) e l);
  on = λ ρ. (λ x. x, λ x. x);
}

module _ (system : (r : Rule) → System (old_alphabet r) (property_of r)) (file : List ℕ) (same : judge file ≡ old_judge file) where
  outcome-same : (r : Rule) → old_judge file ≡ Accepted r → outcome_of r ≡ table_of (system r) r.signals
  unfolding outcome_of
  outcome-same r q = tables-same (all-possible r (old-mask file r q)) (of-formed (accepted-formed file r (same ∙ q))) (ltl_system r) (system r)

  -- what follows from the judgement
  follows : {A : Type 0} (now was : Judgement → A) → ((r : Rule) → old_judge file ≡ Accepted r → now (Accepted r) ≡ was (Accepted r))
      → ((x : Refusal) → now (Refused x) ≡ was (Refused x)) → now (judge file) ≡ was (old_judge file)
  follows now was accepted refused = ap now same ∙ go (old_judge file) refl
    where
      go : (j : Judgement) → old_judge file ≡ j → now j ≡ was j
      go (Accepted r) q = accepted r q
      go (Refused x) q = refused x

  all-kept : Kept system file
  all-kept = record {
    judgement = same;
    events = λ r q e. let a = all-possible r (old-mask file r q) in (event-to a e, event-to (turned a) e);
    answer = λ out. follows (λ j. answer_of j out) (λ j. old_answer system j out) (λ r q. ap (λ (x : Outcome). answer_to x out) (outcome-same r q)) (λ x. refl);
    output = λ out. follows (λ j. output_after j out) (λ j. old_output system j out) (λ r q. ap (λ (x : Outcome). output_of x out) (outcome-same r q)) (λ x. refl);
  }

pub kept : (system : (r : Rule) → System (old_alphabet r) (property_of r)) (file : List ℕ) → Kept system file ⊎ MaskSecond file
kept system file = elim (readings file) [ inl same ↦ inl (all-kept system file same) | inr second ↦ inr second ]

-- a file whose second record has another kind: its table is what it was, whatever residual system made it
pub no-mask : (system : (r : Rule) → System (old_alphabet r) (property_of r)) (file : List ℕ) → ¬ (u16_at file 8 ≡ 257) → Kept system file
no-mask system file none = elim (kept system file) [ inl all ↦ all | inr second ↦ absurd (none second.kind) ]

-- the one that made it: the same computation, over all events
pub old_system : (r : Rule) → System (old_alphabet r) (property_of r)
unfolding property_of
old_system r = nodes_system (old_alphabet r) r.nodes

pub kept_here : (file : List ℕ) → Kept old_system file ⊎ MaskSecond file
kept_here file = kept old_system file
