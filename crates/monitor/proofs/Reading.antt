-- What the reader answers, as the rule or the refusal of the judgement; and what the tables ask of a rule that was read.
use mathlib.Core.Path.{◌≡◌, refl, sym, ap, ◌∙◌, subst}
use mathlib.Core.List.{List}
use Prim.Native.Nat.{ℕ, ◌-◌, ◌≤◌}
use native.Mathlib.Omega.{arith}
use lib.ListN.{length, replicate}
use lib.Seq.{take-append_seam}
use Rattle.meaning.specs.RuleFiles.{Rule, Judgement, judge}
use Rattle.meaning.specs.declared.Node.{Node}
use Rattle.meaning.specs.declared.Refusal.{Refusal}
use Rattle.std.proofs.Common.{Result, Ok, Err}
use Rattle.rule_file.specs.Reading.{read_of, handed, padded, blank}
use Rattle.rule_file.specs.declared.Rule as declared
use Rattle.smallest.proofs.Accepted.{Formed, accepted-formed}
use Rattle.rule_file.specs.Reading.{rule_in}

front : (r : Rule) → rule_in r.signals r.mask (length r.nodes) (padded r.nodes) ≡ r
front r = ap (λ (ns : List Node). record { signals = r.signals; mask = r.mask; nodes = ns }) (take-append_seam r.nodes (replicate (64 - length r.nodes) blank))

module _ (file : List ℕ) (p : Result declared.Rule Refusal) (is : p ≡ read_of (judge file)) where
  pub refused-read : (x : Refusal) → p ≡ Err x → judge file ≡ Judgement.Refused x
  refused-read x e = go (judge file) refl
    where
      go : (j : Judgement) → judge file ≡ j → judge file ≡ Judgement.Refused x
      go (Judgement.Accepted r) q = let h : p ≡ Ok (handed r) = is ∙ ap read_of q in let z : ◌≡◌ {A = ℕ} 0 1 = cc in absurd (omega arith)
      go (Judgement.Refused y) q = let h : p ≡ Err y = is ∙ ap read_of q in cc

  module _ (r : declared.Rule) (e : p ≡ Ok r) where
    pub accepted-read : judge file ≡ Judgement.Accepted (rule_in r.signals r.mask r.count r.nodes)
    accepted-read = go (judge file) refl
      where
        go : (j : Judgement) → judge file ≡ j → judge file ≡ Judgement.Accepted (rule_in r.signals r.mask r.count r.nodes)
        go (Judgement.Accepted s) q =
            let h : p ≡ Ok (handed s) = is ∙ ap read_of q in
            let same : r ≡ handed s = cc in
            q ∙ ap Judgement.Accepted (sym (ap (λ (y : declared.Rule). rule_in y.signals y.mask y.count y.nodes) same ∙ front s))
        go (Judgement.Refused y) q = let h : p ≡ Err y = is ∙ ap read_of q in let z : ◌≡◌ {A = ℕ} 0 1 = cc in absurd (omega arith)

    pub read-formed : Formed (rule_in r.signals r.mask r.count r.nodes)
    read-formed = accepted-formed file (rule_in r.signals r.mask r.count r.nodes) accepted-read

    pub read_count : r.count ≤ 64
    read_count = go (judge file) refl
      where
        go : (j : Judgement) → judge file ≡ j → r.count ≤ 64
        go (Judgement.Accepted s) q =
            let h : p ≡ Ok (handed s) = is ∙ ap read_of q in
            let same : r ≡ handed s = cc in
            subst (λ (y : declared.Rule). y.count ≤ 64) (sym same) (accepted-formed file s q).few
        go (Judgement.Refused y) q = let h : p ≡ Err y = is ∙ ap read_of q in let z : ◌≡◌ {A = ℕ} 0 1 = cc in absurd (omega arith)
