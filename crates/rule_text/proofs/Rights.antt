-- What the answer says of the text: a written file is that of the one tree with which the text fits, and 15 falls on exactly the texts outside the grammar.
-- Also: the contract leaves one answer, and how much room is enough.
use mathlib.Core.Path.{◌≡◌, refl, sym, ap, ap₂, ◌∙◌, subst}
use mathlib.Core.Logic.{◌⊎◌, inl, inr, ◌↔◌}
use mathlib.Core.Bool.{Bool, true, false, cond, not, ◌&&◌}
use mathlib.Core.List.{List, [], ◌∷◌, ◌++◌}
use Prim.Native.Nat.{ℕ, ◌≤◌, ◌<◌}
use native.Mathlib.Omega.{arith}
use lib.ListN.{length, take, drop}
use lib.Seq.{take_at}
use lib.Dec.{ltb, leb}
use borrow.Author.Tests.{ltb-true, ltb-false}
use Rattle.meaning.specs.Refusals.{code_of}
use Rattle.meaning.specs.Grammar.{Tree, Fits, Parsed, Fitting, Outside, ParsedAs}
use Rattle.meaning.specs.RuleFiles.{first_of, temporals}
use Rattle.meaning.specs.RuleTexts.{size, nodes_of, rule_of, rule_bytes, any_out_of_range, rule_answer, tree_answer, parsed_answer, write_answer, file_of, output_of}
use Rattle.meaning.specs.declared.Refusal.{Refusal}
use Rattle.meaning.specs.declared.Refusal.TheVariants.{WrongSignals, OutOfRange, EighthTemporal, ShortOutput, WrongText, TooManyNodes}
use Rattle.grammar.proofs.Fitting.{one-tree}
use Rattle.grammar.specs.Reading.{parsed_of}
use Rattle.grammar.proofs.Texts.{parsed, parsed-unique}
use Rattle.grammar.proofs.Trees.{signs_of}
use Rattle.rule_bytes.proofs.Trees.{tree-formula}
use Rattle.rule_bytes.proofs.Answers.{accepted}
use Rattle.rule_bytes.proofs.Lengths.{tree-file}
use Rattle.rule_text.specs.Writing.{Writes, written_answer, written_after, Typed, Right, longest_file}
use Rattle.std.proofs.Common.{Result, Ok, Err}

-- ---- a number that is not the answer

-- an answer other than the refusal number n
abbrev Other : ℕ → Result ℕ Refusal → Type 0
Other n (Ok m) = Unit {0}
Other n (Err x) = ¬ ((code_of x).0 ≡ n)

-- no check that fails refuses by n
abbrev Others : ℕ → List (Bool × Refusal) → Type 0
Others n [] = Unit {0}
Others n (c ∷ cs) = (c.0 ≡ true → ¬ ((code_of c.1).0 ≡ n)) × Others n cs

abbrev Passed : List (Bool × Refusal) → Type 0
Passed [] = Unit {0}
Passed (c ∷ cs) = (c.0 ≡ false) × Passed cs

first-other : (n : ℕ) (cs : List (Bool × Refusal)) (x : Result ℕ Refusal) → Others n cs → (Passed cs → Other n x) → Other n (first_of Err cs x)
first-other n [] x h o = o tt
first-other n (c ∷ cs) x h o = go c.0 refl (λ e. first-other n cs x h.1 (λ p. o (e, p)))
  where
    go : (b : Bool) → c.0 ≡ b → (c.0 ≡ false → Other n (first_of Err cs x)) → Other n (cond b (Err c.1) (first_of Err cs x))
    go true e r = h.0 e
    go false e r = r e

-- a tree is answered by no number from 10 to 15, but for 10 where its file is longer than the room
tree-other : (n P room : ℕ) (t : Tree) → 10 ≤ n → n ≤ 15 → (size t ≤ 64 → room < length (rule_bytes (rule_of P t)) → ¬ (10 ≡ n)) → Other n (tree_answer P room t)
unfolding tree_answer rule_answer
tree-other n P room t low high short =
    let file = rule_bytes (rule_of P t) in
    first-other n ((not (leb 1 P && leb P 4), WrongSignals) ∷ (ltb 64 (size t), TooManyNodes) ∷ []) (rule_answer room (rule_of P t))
    ((λ _ e. omega arith), ((λ _ e. omega arith), tt))
    (λ p. first-other n
    ((any_out_of_range P (nodes_of 0 t), OutOfRange 0) ∷ (ltb 7 (temporals (nodes_of 0 t)), EighthTemporal 0) ∷ (ltb room (length file), ShortOutput) ∷ [])
    (Ok (length file))
    ((λ _ e. omega arith), ((λ _ e. omega arith), ((λ l. short (ltb-false 64 (size t) p.1.0) (ltb-true room (length file) l)), tt))) (λ _. tt))

-- ---- 15

module _ (s : List ℕ) where
  abbrev Out : Type 0
  Out = (1024 < length s) ⊎ ((t : Tree) → ¬ Fits s t)

  fault : (p : ℕ) (x : Refusal) → ◌≡◌ {A = Result ℕ Refusal} (Err x) (Err (WrongText p)) → Out → ((code_of x).0 ≡ 15) ↔ Out
  fault p x e o = let q : x ≡ WrongText p = cc in (λ _. o, λ _. ap (λ (y : Refusal). (code_of y).0) q)

  fits_out : (t : Tree) → Fits s t → length s ≤ 1024 → ¬ Out
  fits_out t f l (inl h) = omega arith
  fits_out t f l (inr h) = h t f

  refused-right : (P room : ℕ) (x : Refusal) (q : Parsed) → ParsedAs s q → Err x ≡ write_answer s P room q → ((code_of x).0 ≡ 15) ↔ Out
  refused-right P room x q h e = go (ltb 1024 (length s)) refl q h e
    where
      go : (b : Bool) → ltb 1024 (length s) ≡ b → (q : Parsed) → ParsedAs s q → Err x ≡ cond b (Err (WrongText 1024)) (parsed_answer P room q) → ((code_of x).0 ≡ 15) ↔ Out
      go true l q h e = fault 1024 x e (inl (ltb-true 1024 (length s) l))
      go false l (Outside p) h e = fault p x e (inr h.0)
      go false l (Fitting t) h e =
          let o : Other 15 (Err x) = subst (Other 15) (sym e) (tree-other 15 P room t (omega arith) (omega arith) (λ _ _ z. omega arith)) in
          (λ c. absurd (o c), λ out. absurd (fits_out t h (ltb-false 1024 (length s) l) out))

  -- ---- a file

  typed : (P room : ℕ) (before : List ℕ) (n : ℕ) (t : Tree) → Fits s t → Ok n ≡ tree_answer P room t → Typed s P (take n (rule_bytes (rule_of P t) ++ drop n before))
  typed P room before n t f e =
      let g = signs_of f.parses (omega arith) in
      let a = accepted P room t n g (sym e) in
      rw (take_at (rule_bytes (rule_of P t)) (drop n before) n (sym a.length-is))
      (record { tree = t; fits = f; only = λ u h. one-tree h f; reads = a.judged; formula = tree-formula P t g })

  written-right : (P : ℕ) (before : List ℕ) (n : ℕ) (q : Parsed) → ParsedAs s q → Ok n ≡ write_answer s P (length before) q → Typed s P (take n (file_of P q ++ drop n before))
  written-right P before n q h e = go (ltb 1024 (length s)) q h e
    where
      go : (b : Bool) → (q : Parsed) → ParsedAs s q → Ok n ≡ cond b (Err (WrongText 1024)) (parsed_answer P (length before) q) → Typed s P (take n (file_of P q ++ drop n before))
      go true q h e = cc
      go false (Outside p) h e = cc
      go false (Fitting t) h e = typed P (length before) before n t h e

-- whatever the text
pub right : (s : List ℕ) (P : ℕ) (before : List ℕ) (r : Result ℕ Refusal) (after : List ℕ) → Writes s P before r after → Right s P after r
right s P before (Ok n) after w = rw w.output (written-right s P before n w.parsed w.reads w.answer_is)
right s P before (Err x) after w = refused-right s P (length before) x w.parsed w.reads w.answer_is

-- the contract leaves nothing open: there is one answer, and one output
pub fixed : (s : List ℕ) (P : ℕ) (before : List ℕ) (r : Result ℕ Refusal) (after : List ℕ) (r' : Result ℕ Refusal) (after' : List ℕ) → Writes s P before r after → Writes s P before r' after' → (r ≡ r') × (after ≡ after')
fixed s P before r after r' after' w w' =
    let e = parsed-unique s w.parsed w'.parsed w.reads w'.reads in
    let a : r ≡ r' = w.answer_is ∙ ap (write_answer s P (length before)) e ∙ sym w'.answer_is in
    (a, w.output ∙ ap₂ (λ (x : Result ℕ Refusal) (q : Parsed). output_of x (file_of P q) before) a e ∙ sym w'.output)

-- they are the functions' values
pub by-functions : (s : List ℕ) (P : ℕ) (before : List ℕ) (r : Result ℕ Refusal) (after : List ℕ) → Writes s P before r after
    → (r ≡ written_answer s P before) × (after ≡ written_after s P before)
by-functions s P before r after w =
    fixed s P before r after (written_answer s P before) (written_after s P before) w
    (record { parsed = parsed_of s; reads = parsed s; answer_is = refl; output = refl })

-- the whole contract
pub written : (s : List ℕ) (P : ℕ) (before : List ℕ) (r : Result ℕ Refusal) (after : List ℕ) → Writes s P before r after
    → (r ≡ written_answer s P before) × ((after ≡ written_after s P before) × (Writes s P before r after × Right s P after r))
written s P before r after w =
    let e = by-functions s P before r after w in
    (e.0, (e.1, (w, right s P before r after w)))

-- ---- 10

answer-other : (s : List ℕ) (P room : ℕ) (q : Parsed) → ParsedAs s q → longest_file ≤ room → Other 10 (write_answer s P room q)
answer-other s P room q h l = go (ltb 1024 (length s)) q h
  where
    go : (b : Bool) (q : Parsed) → ParsedAs s q → Other 10 (cond b (Err (WrongText 1024)) (parsed_answer P room q))
    go true q h = λ e. omega arith
    go false (Outside p) h = λ e. omega arith
    go false (Fitting t) h = tree-other 10 P room t (omega arith) (omega arith) (λ few long _. omega (arith, tree-file P t (signs_of h.parses (omega arith))))

-- with room for the longest file no text is refused by 10
pub room-enough : (s : List ℕ) (P : ℕ) (before : List ℕ) (x : Refusal) (after : List ℕ) → Writes s P before (Err x) after → longest_file ≤ length before → ¬ ((code_of x).0 ≡ 10)
room-enough s P before x after w l = subst (Other 10) (sym w.answer_is) (answer-other s P (length before) w.parsed w.reads l)
