-- A table that was written is the monitor of its verdict bytes and rows, and two that are the same monitor have the same bytes.
use mathlib.Core.Path.{◌≡◌, refl, sym, ap, ap₂, ◌∙◌, subst}
use mathlib.Core.Bool.{Bool, true, false, ◌&&◌}
use mathlib.Core.List.{List, []}
use Prim.Native.Nat.{ℕ, zero, suc, ◌^◌, ◌≤◌, ◌<◌}
use native.Mathlib.Omega.{arith}
use lib.ListN.{get_or}
use lib.Dec.{ltb}
use borrow.Author.Tests.{ltb-true}
use Rattle.sequences.proofs.Pointwise.{is_true}
use Rattle.meaning.specs.Traces.{Alphabet, is_event}
use Rattle.meaning.specs.RuleFiles.{Rule, alphabet_of}
use Rattle.meaning.specs.TableFiles.{alphabet_in, signals_in, states_in, verdict_byte, successor, is_table, verdict_of, monitor_of}
use Rattle.meaning.specs.declared.Verdict.{Verdict}
use Rattle.meaning.specs.declared.Verdict.TheVariants.{Undecided, Satisfied, Violated, Moot}
use Rattle.moore.specs.Reduced.{SameRows}
use Rattle.moore.specs.Grouping.{machine}
use Rattle.table_bytes.specs.Written.{table_bytes}
use Rattle.table_bytes.proofs.RoundTrip.{Fitting, signals-back, states-back, verdict-back, back-possible, possible-back, is-table, same_bytes}
use Rattle.smallest.proofs.Accepted.{Signals, Formed}
use Rattle.smallest.proofs.Judgements.{Live}

-- the events are some of those over P signals
pub record OfSignals (Σ : Alphabet) (P : ℕ) : Type 0 where
  pub signals : Signals P
  pub width : Σ.width ≡ 2 ^ P
  pub live : Live Σ

pub of-formed : {r : Rule} → Formed r → OfSignals (alphabet_of r) r.signals
of-formed f = record { signals = f.signals; width = refl; live = f.live }

-- the table over P signals, for the events of Σ, with these verdict bytes and rows
pub record Written (Σ : Alphabet) (P : ℕ) (t : List ℕ) : Type 0 where
  pub states : ℕ
  pub verdicts : List ℕ
  pub rows : List (List ℕ)
  pub fits : Fitting Σ P states verdicts rows
  pub is : t ≡ table_bytes Σ P states verdicts rows

module _ {Σ : Alphabet} {P : ℕ} {t : List ℕ} (W : Written Σ P t) where
  pub written-form : is_table t ≡ true
  written-form = ap is_table W.is ∙ is-table Σ P W.states W.verdicts W.rows W.fits

  pub written-signals : signals_in t ≡ P
  written-signals = ap signals_in W.is ∙ signals-back Σ P W.states W.verdicts W.rows

  pub written-states : states_in t ≡ W.states
  written-states = ap states_in W.is ∙ states-back Σ P W.states W.verdicts W.rows

  written-verdict : (s : ℕ) → s < W.states → verdict_byte t (signals_in t) s ≡ get_or W.verdicts s 0
  written-verdict s l = ap₂ (λ (b : List ℕ) (p : ℕ). verdict_byte b p s) W.is written-signals ∙ verdict-back Σ P W.states W.verdicts W.rows s l

  written_next : (s e : ℕ) → s < W.states → e < 2 ^ P → Σ.possible e ≡ true → successor t (signals_in t) s e ≡ get_or (get_or W.rows s []) e 0
  written_next s e l m q = ap₂ (λ (b : List ℕ) (p : ℕ). successor b p s e) W.is written-signals ∙ back-possible Σ P W.states W.verdicts W.rows s e l m q

  -- the table's own events are those of Σ
  pub written-events : OfSignals Σ P → (e : ℕ) → is_event (alphabet_in t (signals_in t)) e ≡ is_event Σ e
  written-events p e =
      ap₂ (λ (b : List ℕ) (p : ℕ). is_event (alphabet_in b p) e) W.is written-signals
      ∙ go (ltb e (2 ^ P)) refl
      ∙ ap (λ (n : ℕ). ltb e n && Σ.possible e) (sym p.width)
    where
      own : Alphabet
      own = alphabet_in (table_bytes Σ P W.states W.verdicts W.rows) P

      go : (b : Bool) → ltb e (2 ^ P) ≡ b → ltb e (2 ^ P) && own.possible e ≡ ltb e (2 ^ P) && Σ.possible e
      go true q = ap (λ (b : Bool). ltb e (2 ^ P) && b) (possible-back Σ P W.states W.verdicts W.rows W.fits e (ltb-true e (2 ^ P) q))
      go false q = ap (λ (b : Bool). b && own.possible e) q ∙ sym (ap (λ (b : Bool). b && Σ.possible e) q)

  pub written-rows : OfSignals Σ P → SameRows Σ (machine W.states W.rows W.verdicts) (monitor_of t)
  written-rows p = record {
    states = sym written-states;
    start = refl;
    verdict = λ s l. ap verdict_of (sym (written-verdict s l));
    next = λ s e l h. sym (written_next s e l (subst (λ (n : ℕ). e < n) p.width h.0) (is_true (Σ.possible e) h.1));
  }

-- ---- the byte of a verdict
byte_of : Verdict → ℕ
byte_of Undecided = 0
byte_of Satisfied = 1
byte_of Violated = 2
byte_of Moot = 3

byte-back : (n : ℕ) → n ≤ 3 → byte_of (verdict_of n) ≡ n
unfolding byte_of
byte-back zero l = refl
byte-back (suc zero) l = refl
byte-back (suc (suc zero)) l = refl
byte-back (suc (suc (suc zero))) l = refl
byte-back (suc (suc (suc (suc n)))) l = absurd (omega arith)

byte_one : (a b : ℕ) → a ≤ 3 → b ≤ 3 → verdict_of a ≡ verdict_of b → a ≡ b
byte_one a b l m e = sym (byte-back a l) ∙ ap byte_of e ∙ byte-back b m

module _ {Σ : Alphabet} {P : ℕ} (p : OfSignals Σ P) {t t' : List ℕ} (W : Written Σ P t) (W' : Written Σ P t') (r : SameRows Σ (monitor_of t) (monitor_of t')) where
  states-one : W.states ≡ W'.states
  states-one = sym (written-states W) ∙ r.states ∙ written-states W'

  state : {s : ℕ} → s < W.states → s < W'.states
  state {s} l = subst (λ (n : ℕ). s < n) states-one l

  here : {s : ℕ} → s < W.states → s < states_in t
  here {s} l = subst (λ (n : ℕ). s < n) (sym (written-states W)) l

  verdict-one : (s : ℕ) → s < W.states → get_or W.verdicts s 0 ≡ get_or W'.verdicts s 0
  verdict-one s l =
      byte_one (get_or W.verdicts s 0) (get_or W'.verdicts s 0) (W.fits.verdict s l) (W'.fits.verdict s (state l))
      (ap verdict_of (sym (written-verdict W s l)) ∙ r.verdict s (here l) ∙ ap verdict_of (written-verdict W' s (state l)))

  next_one : (s e : ℕ) → s < W.states → e < 2 ^ P → Σ.possible e ≡ true → get_or (get_or W.rows s []) e 0 ≡ get_or (get_or W'.rows s []) e 0
  next_one s e l m q = sym (written_next W s e l m q) ∙ r.next s e (here l) (rw p.width m, rw q tt) ∙ written_next W' s e (state l) m q

  pub written_same : t ≡ t'
  written_same =
      W.is
      ∙ same_bytes Σ P W.states W.verdicts W'.verdicts W.rows W'.rows verdict-one next_one
      ∙ ap (λ (n : ℕ). table_bytes Σ P n W'.verdicts W'.rows) states-one
      ∙ sym W'.is
