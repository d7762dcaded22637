-- Rule files without C-12, by document 01: what they meant, and how they were read. A node of that time is one whose upper count is 0, which the
-- check of ranges always lets pass and nothing else looks at. What C-12 leaves alone, the mask of a later request too, is taken from meaning.
use Rattle.std.specs.Prelude.{List, [], ◌∷◌, ◌++◌, cond, not, ◌&&◌, ◌⊎◌, ◌↔◌, ◌≡◌, ℕ, zero, suc, ◌+◌, ◌≤◌, length, get_or, ltb, leb, eqb}
use Rattle.meaning.specs.Bytes.{bit, u16_at}
use Rattle.meaning.specs.Traces.{at}
use Rattle.meaning.specs.Formulas.{Formula, falsum, verum, signal, at_least, neg, and, or, implies, iff, xor, next, until, eventually, always, count_on, Until, Eventually}
use Rattle.meaning.specs.Verdicts.{Property}
use Rattle.meaning.specs.RuleFiles.{Rule, rule_formula, body_length, temporal, temporals, operands_fit, ranges_fit, first_of, frame_checks, header_of, mask_of, Judgement, Accepted, Refused}
use Rattle.meaning.specs.RuleTexts.{node}
use Rattle.meaning.specs.declared.Node.{Node}
use Rattle.meaning.specs.declared.Refusal.TheVariants.{WrongOperand, OutOfRange, EighthTemporal, TrailingBytes}
use Rattle.std.specs.Prelude.{Result, Ok, Err}
use Rattle.meaning.specs.declared.Refusal.{Refusal}

-- ---- meaning

-- "'At least' is true when at least k of the signals in the mask are on."
abbrev pub OldSat : (ℕ → ℕ) → Formula → ℕ → Type 0
OldSat w falsum i = ⊥
OldSat w verum i = Unit {0}
OldSat w (signal s) i = bit s (w i) ≡ 1
OldSat w (at_least m k unused) i = k ≤ count_on 4 m (w i)
OldSat w (neg a) i = ¬ OldSat w a i
OldSat w (and a b) i = OldSat w a i × OldSat w b i
OldSat w (or a b) i = OldSat w a i ⊎ OldSat w b i
OldSat w (implies a b) i = OldSat w a i → OldSat w b i
OldSat w (iff a b) i = OldSat w a i ↔ OldSat w b i
OldSat w (xor a b) i = (OldSat w a i × ¬ OldSat w b i) ⊎ (¬ OldSat w a i × OldSat w b i)
OldSat w (next a) i = OldSat w a (suc i)
OldSat w (until a b) i = Until (λ k. OldSat w a k) (λ k. OldSat w b k) i
OldSat w (eventually a) i = Eventually (λ k. OldSat w a k) i
OldSat w (always a) i = ¬ Eventually (λ k. ¬ OldSat w a k) i

unfoldable pub old_property : Rule → Property
old_property r ρ = OldSat (at ρ) (rule_formula r) 0

-- ---- judgement

-- the node whose record is at p: its kind, and the bytes of its body
abbrev pub old_node_at : List ℕ → ℕ → Node
old_node_at b p =
    let k = u16_at b (p + 2) in
    node k (cond (leb 1 (body_length k)) (get_or b (p + 4) 0) 0) (cond (leb 2 (body_length k)) (get_or b (p + 5) 0) 0)

-- the record at p: each kind had one length
unfoldable pub old_reading : List ℕ → ℕ → ℕ → ℕ → ℕ → Result Node Refusal
old_reading b P p number seen =
    let n = old_node_at b p in
    first_of Err
    (frame_checks b p (leb n.kind 13) (eqb (u16_at b p) (2 + body_length n.kind))
    ++ ((not (operands_fit number n), WrongOperand p)
    ∷ (not (ranges_fit P n), OutOfRange p)
    ∷ (temporal n.kind && leb 7 seen, EighthTemporal p)
    ∷ []))
    (Ok n)

unfoldable pub old_nodes : ℕ → List ℕ → ℕ → ℕ → ℕ → List Node → Judgement
old_nodes zero b P m p earlier = cond (ltb p (length b)) (Refused (TrailingBytes p)) (Accepted (record { signals = P; mask = m; nodes = earlier }))
old_nodes (suc k) b P m p earlier =
    elim (old_reading b P p (length earlier) (temporals earlier)) [
      | Ok n ↦ old_nodes k b P m (p + 4 + body_length n.kind) (earlier ++ (n ∷ []))
      | Err r ↦ Refused r
    ]

unfoldable pub old_body : ℕ → List ℕ → ℕ → Judgement
old_body k b P =
    elim (mask_of b P) [
      | Ok m ↦ old_nodes k b P m.mask m.nodes_at []
      | Err r ↦ Refused r
    ]

unfoldable pub old_judge : List ℕ → Judgement
old_judge b =
    elim (header_of b) [
      | Ok h ↦ old_body h.nodes b h.signals
      | Err r ↦ Refused r
    ]
