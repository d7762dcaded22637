-- What the code computes of an array of groups is the model's quotient of the machine.
use mathlib.Core.Path.{◌≡◌, refl, sym, ap, ◌∙◌, subst}
use mathlib.Core.Bool.{Bool, true, false, cond}
use mathlib.Core.List.{List, ◌++◌, map}
use Prim.Native.Nat.{ℕ, ◌^◌, ◌≤◌, ◌<◌}
use native.Mathlib.Omega.{arith}
use lib.ListN.{get_or, take, drop}
use lib.Seq.{get_or-take}
use Rattle.sequences.proofs.Pointwise.{tabulate-same}
use Rattle.sequences.specs.Tabulate.{tabulate}
use Rattle.sequences.proofs.Loops.{get_d-tab}
use Rattle.meaning.specs.Traces.{Alphabet, masked}
use Rattle.moore.specs.Grouping.{entry, Machine, leads, grouping, Grouped, Stable}
use Rattle.moore.specs.Quotient.{leader, size, number, closed, verdict_byte, verdicts, quotient_rows}
use Rattle.moore.proofs.Counting.{count-le}
use Rattle.moore.proofs.Grouping.{grouping-grouped, grouping-stable}
use Rattle.moore.proofs.Quotient.{leader-in, number_in, number-start}
use Rattle.group_slots.specs.Groups.{unmasked, RowsBelow, Least}
use Rattle.refinement.specs.Rows.{Cleared}
use Rattle.refinement.proofs.Laws.{taken_at}
use Rattle.refinement.proofs.Clearing.{grouping-cleared}
use Rattle.refinement.proofs.Front.{front_at}
use Rattle.grouping.specs.Machines.{Leaders, verdict_at, row_at}
use Rattle.grouping.specs.Reduction.{padded, Reduction}
use Rattle.grouping.proofs.Front.{map-tabulate, size-front, leader-front, number-front, closed-front}
use Rattle.grouping.proofs.Clearing.{verdict-cleared, row-cleared}

-- the counts as the code has them
machine-at : (P mask : ℕ) {n : ℕ} {rows : List (List ℕ)} {classes : List ℕ} (w m : ℕ) → w ≡ 2 ^ P → m ≡ n → Machine (masked (2 ^ P) mask) n rows classes → Machine (masked w mask) m rows classes
machine-at P mask {n} {rows} {classes} w m p q M = subst (λ (k : ℕ). Machine (masked w mask) k rows classes) (sym q) (subst (λ (k : ℕ). Machine (masked k mask) n rows classes) (sym p) M)

pub rows_in : {Σ : Alphabet} {n : ℕ} {rows : List (List ℕ)} {classes : List ℕ} → Machine Σ n rows classes → RowsBelow n Σ n rows
rows_in M = record { row = λ s l. record { to = λ e. M.inside s e l } }

module _ {Σ : Alphabet} {n : ℕ} {rows : List (List ℕ)} {classes : List ℕ} (M : Machine Σ n rows classes) (group : List ℕ)
    (is : take n group ≡ grouping Σ n rows classes) where
  front : List ℕ
  front = take n group

  G : Grouped Σ n rows classes front
  unfolding front
  G = subst (λ (g : List ℕ). Grouped Σ n rows classes g) (sym is) (grouping-grouped M)

  S : Stable Σ n rows front
  unfolding front
  S = subst (λ (g : List ℕ). Stable Σ n rows g) (sym is) (grouping-stable M)

  group-least : Least n group
  unfolding front
  group-least = record { least = λ i l. subst (λ (x : ℕ). x ≤ i) (front_at n group i l) (G.least i l) }

  module _ {r : ℕ} {least : List ℕ} (L : Leaders n group r least) where
    count-is : r ≡ size n front
    unfolding front
    count-is = L.count ∙ sym (size-front n group)

    least-is : (q : ℕ) → q < r → get_or least q 0 ≡ leader n front q
    unfolding front
    least-is q l = L.at q l ∙ sym (leader-front n group q)

    least-in : (q : ℕ) → q < r → get_or least q 0 < n
    least-in q l = subst (λ (s : ℕ). s < n) (sym (least-is q l)) (leader-in M G S q (subst (λ (k : ℕ). q < k) count-is l))

    leaders-some : 0 < r
    leaders-some = subst (λ (k : ℕ). 0 < k) (sym count-is) (subst (λ (q : ℕ). q < size n front) (number-start M G S) (number_in M G S 0 M.some))

    leaders-fewer : r ≤ n
    unfolding size
    leaders-fewer = subst (λ (k : ℕ). k ≤ n) (sym L.count) (count-le n (leads group))

    verdicts_are : {rows' : List (List ℕ)} → Cleared Σ Σ.width n rows rows' → tabulate r (λ q. verdict_at Σ rows' classes group (get_or least q 0)) ≡ verdicts Σ n rows classes front
    unfolding verdicts verdict_at leader front
    verdicts_are {rows'} C =
        tabulate-same r (λ q. verdict_at Σ rows' classes group (get_or least q 0)) byte (λ q l.
        verdict-cleared C (get_or least q 0) (least-in q l) classes group
        ∙ ap (λ (b : Bool). verdict_byte (get_or classes (get_or least q 0) 0) b) (sym (closed-front n group Σ rows (get_or least q 0) (least-in q l) ((rows_in M).row (get_or least q 0) (least-in q l))))
        ∙ ap (λ (s : ℕ). verdict_byte (get_or classes s 0) (closed Σ rows front s)) (least-is q l))
        ∙ ap (λ (k : ℕ). tabulate k byte) count-is
      where
        byte : ℕ → ℕ
        byte q = verdict_byte (get_or classes (leader n front q) 0) (closed Σ rows front (leader n front q))

    module _ {rows' : List (List ℕ)} (C : Cleared Σ Σ.width n rows rows') (numbers : List ℕ) (N : take n numbers ≡ tabulate n (number group)) where
      number_at : (i : ℕ) → i < n → get_or numbers i 0 ≡ get_or (tabulate n (number front)) i 0
      unfolding front
      number_at i l =
          let h = group-least.least i l in
          taken_at n numbers (number group) N i 0 l ∙ sym (number-front n group i l (omega arith)) ∙ sym (get_d-tab n (number (take n group)) i 0 l)

      number-zero : get_or numbers 0 0 ≡ 0
      number-zero = number_at 0 M.some ∙ get_d-tab n (number front) 0 0 M.some ∙ number-start M G S

      rows_are : tabulate r (λ q. row_at (unmasked Σ.width) rows' numbers (get_or least q 0)) ≡ map padded (quotient_rows Σ n rows front)
      unfolding quotient_rows row_at leader front
      rows_are =
          tabulate-same r (λ q. row_at (unmasked Σ.width) rows' numbers (get_or least q 0)) (λ q. padded (row q)) (λ q l.
          row-cleared C (get_or least q 0) (least-in q l) numbers number-zero
          ∙ ap padded (tabulate-same Σ.width (λ e. cond (Σ.possible e) (get_or numbers (entry rows (get_or least q 0) e) 0) 0) (to q) (λ e m. go q e l m (Σ.possible e) refl)))
          ∙ ap (λ (k : ℕ). tabulate k (λ q. padded (row q))) count-is
          ∙ sym (map-tabulate padded (size n front) row)
        where
          to : ℕ → ℕ → ℕ
          to q e = cond (Σ.possible e) (get_or (tabulate n (number front)) (entry rows (leader n front q) e) 0) 0

          row : ℕ → List ℕ
          row q = tabulate Σ.width (to q)

          go : (q e : ℕ) → q < r → e < Σ.width → (b : Bool) → Σ.possible e ≡ b → cond b (get_or numbers (entry rows (get_or least q 0) e) 0) 0 ≡ cond b (get_or (tabulate n (number front)) (entry rows (leader n front q) e) 0) 0
          go q e l m true p = number_at (entry rows (get_or least q 0) e) (M.inside (get_or least q 0) e (least-in q l) (m, rw p tt)) ∙ ap (λ (s : ℕ). get_or (tabulate n (number front)) (entry rows s e) 0) (least-is q l)
          go q e l m false p = refl

      reduction : (Σ' : Alphabet) (m : ℕ) (bytes bytes' : List ℕ) (to to' : List (List ℕ)) → Σ ≡ Σ' → n ≡ m
          → bytes' ≡ tabulate r (λ q. verdict_at Σ rows' classes group (get_or least q 0)) ++ drop r bytes
          → to' ≡ tabulate r (λ q. row_at (unmasked Σ.width) rows' numbers (get_or least q 0)) ++ drop r to → Reduction Σ' m rows classes bytes to r bytes' to'
      unfolding front
      reduction Σ' m bytes bytes' to to' p q b t =
          subst (λ (k : ℕ). Reduction Σ' k rows classes bytes to r bytes' to') q
          (subst (λ (A : Alphabet). Reduction A n rows classes bytes to r bytes' to') p (record {
            count = count-is ∙ ap (size n) is;
            some = leaders-some;
            fewer = leaders-fewer;
            verdicts_are = b ∙ ap (λ (l : List ℕ). l ++ drop r bytes) (verdicts_are C ∙ ap (verdicts Σ n rows classes) is);
            rows_are = t ∙ ap (λ (l : List (List ℕ)). l ++ drop r to) (rows_are ∙ ap (λ (g : List ℕ). map padded (quotient_rows Σ n rows g)) is);
          }))

-- ---- as the code has it: so many events and states as numbers, the rows in which the events that cannot happen lead to state 0, and their groups
-- the least states of the groups are those from the front of an array
leaders-taken : {n : ℕ} {group : List ℕ} (r : ℕ) (least : List ℕ) → Leaders n group r least → Leaders n group r (take r least)
leaders-taken r least L = record { count = L.count; at = λ q l. get_or-take r least q 0 l ∙ L.at q l }

module _ (P mask : ℕ) {n : ℕ} {rows rows' : List (List ℕ)} {classes : List ℕ} {w m : ℕ} (p : w ≡ 2 ^ P) (q : m ≡ n)
    (M : Machine (masked (2 ^ P) mask) n rows classes) (C : Cleared (masked w mask) w m rows rows') (group : List ℕ)
    (is : take m group ≡ grouping (unmasked w) m rows' classes) where
  machine_of : Machine (masked w mask) m rows classes
  machine_of = machine-at P mask w m p q M

  groups_of : take m group ≡ grouping (masked w mask) m rows classes
  groups_of = is ∙ grouping-cleared C classes

  pub least-of : Least m group
  least-of = group-least machine_of group groups_of

  module _ {r : ℕ} {least : List ℕ} (L : Leaders m group r least) where
    pub reduced : (numbers bytes bytes' : List ℕ) (to to' : List (List ℕ)) → take m numbers ≡ tabulate m (number group) → (k : ℕ) → k ≡ r
        → bytes' ≡ tabulate k (λ i. verdict_at (masked w mask) rows' classes group (get_or (take r least) i 0)) ++ drop k bytes
        → to' ≡ tabulate k (λ i. row_at (unmasked w) rows' numbers (get_or (take r least) i 0)) ++ drop k to
        → Reduction (masked (2 ^ P) mask) n rows classes bytes to r bytes' to'
    reduced numbers bytes bytes' to to' N k e b t =
        reduction machine_of group groups_of (leaders-taken r least L) C numbers N (masked (2 ^ P) mask) n bytes bytes' to to' (ap (λ (k : ℕ). masked k mask) p) q
        (subst (λ (k : ℕ). bytes' ≡ tabulate k (λ i. verdict_at (masked w mask) rows' classes group (get_or (take r least) i 0)) ++ drop k bytes) e b)
        (subst (λ (k : ℕ). to' ≡ tabulate k (λ i. row_at (unmasked w) rows' numbers (get_or (take r least) i 0)) ++ drop k to) e t)
