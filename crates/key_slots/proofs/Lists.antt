-- The keys met and their slots in arrays: a key added, and the search for one.
use mathlib.Core.Path.{◌≡◌, refl, sym, ap, ◌∙◌, subst}
use mathlib.Core.Bool.{Bool, true, false, cond}
use mathlib.Core.List.{List, [], ◌∷◌, ◌++◌}
use Prim.Native.Nat.{ℕ, ◌+◌, ◌/◌, ◌%◌, ◌≤◌, ◌<◌}
use native.Mathlib.Numerals.{add-one}
use native.Mathlib.Decide.{ℕ_discrete}
use native.Mathlib.Omega.{arith}
use lib.ListN.{length, get_or, set, take, length-set, replicate, length-replicate, get_or-replicate}
use lib.Seq.{get_or-set_same, get_or-set_other, get_or-take, length-take-le, take-suc-set}
use Rattle.std.specs.Prelude.{Some, None}
use lib.Dec.{T, eqb, eqb→eq}
use Rattle.std.proofs.lemmas.List.{get_or_default}
use borrow.Author.Tests.{eq-eqb, ne_eqb}
use Rattle.sequences.specs.Tabulate.{least_below}
use Rattle.sequences.proofs.Pointwise.{least-same}
use Rattle.sequences.proofs.Loops.{least-is}
use Rattle.sequences.proofs.Pigeonhole.{least-below}
use Rattle.profile_sets.specs.Arrays.{word_at}
use Rattle.key_slots.specs.Arrays.{KeysFit, slot_of, LastIn, Slotted}
use Rattle.key_slots.specs.Answers.{met_at, Finds}

pub slot_is : (key : ℕ) → ((word_at key 0 / 2 + word_at key 1 / 16 + (word_at key 2 / 256 + word_at key 3 / 4096)) % 761) ≡ slot_of key
unfolding slot_of
slot_is key = refl

-- ---- the first key

module _ {keys : List ℕ} where
  pub first-fits : length keys ≡ 256 → KeysFit 1 keys
  first-fits l = record { some = omega arith; few = omega arith; room = l; apart = λ i j m n e. absurd (omega arith) }

  pub first-slotted : Slotted 1 keys (replicate 768 0) (replicate 256 0)
  first-slotted = record {
    slots_long = length-replicate {A = ℕ} 768 0;
    links_long = length-replicate {A = ℕ} 256 0;
    heads = λ s l. none (get_or (replicate 768 0) s 0) (get_or-replicate {A = ℕ} 768 s 0 0 l);
    before = λ i m n. absurd (omega arith);
  }
    where
      none : {s : ℕ} (x : ℕ) → x ≡ 0 → LastIn keys s 1 x
      none x z = record { there = λ l. absurd (omega arith); last = λ i m n _. absurd (omega arith) }

-- ---- a key more

module _ {count : ℕ} {keys : List ℕ} (fit : KeysFit count keys) (key : ℕ) (room : count < 256) where
  others : (i : ℕ) → i < count → get_or (set keys count key) i 0 ≡ get_or keys i 0
  others i m = get_or-set_other keys count i key 0 (λ e. absurd (omega arith))

  there : get_or (set keys count key) count 0 ≡ key
  there = get_or-set_same keys count key 0 (omega (arith, fit.room))

  pub keys-added : ((i : ℕ) → i < count → ¬ (get_or keys i 0 ≡ key)) → KeysFit (count + 1) (set keys count key)
  keys-added new = record {
    some = omega arith;
    few = omega arith;
    room = length-set keys count key ∙ fit.room;
    apart = λ i j m n e. apart i j m n e (ℕ_discrete j count);
  }
    where
      apart : (i j : ℕ) → i < j → j < count + 1 → get_or (set keys count key) i 0 ≡ get_or (set keys count key) j 0 → Dec (j ≡ count) → ⊥
      apart i j m n e (yes q) = new i (omega arith) (sym (others i (omega arith)) ∙ e ∙ ap (λ (k : ℕ). get_or (set keys count key) k 0) q ∙ there)
      apart i j m n e (no q) = fit.apart i j m (omega arith) (sym (others i (omega arith)) ∙ e ∙ others j (omega arith))

  pub front-added : take (count + 1) (set keys count key) ≡ take count keys ++ (key ∷ [])
  front-added = ap (λ (n : ℕ). take n (set keys count key)) (add-one count) ∙ take-suc-set keys count key (omega (arith, fit.room))

  -- the same keys below n
  last-kept : {s n x : ℕ} → n ≤ count → LastIn keys s n x → LastIn (set keys count key) s n x
  last-kept l h = record {
    there = λ k. ((h.there k).0, ap slot_of (others _ (omega (arith, (h.there k).0))) ∙ (h.there k).1);
    last = λ i k m e. h.last i k m (ap slot_of (sym (others i (omega arith))) ∙ e);
  }

  -- its link has what its slot had, and its slot has its number
  module _ {slots links : List ℕ} (h : Slotted count keys slots links) (slot : ℕ) (at : slot ≡ slot_of key) (low : slot < 768) where
    new : slot_of (get_or (set keys count key) count 0) ≡ slot
    new = ap slot_of there ∙ sym at

    pub slotted-added : Slotted (count + 1) (set keys count key) (set slots slot count) (set links count (get_or slots slot 0))
    slotted-added = record {
      slots_long = length-set slots slot count ∙ h.slots_long;
      links_long = length-set links count (get_or slots slot 0) ∙ h.links_long;
      heads = λ s m. head s m (ℕ_discrete s slot);
      before = λ i m n. link i m n (ℕ_discrete i count);
    }
      where
        head : (s : ℕ) → s < 768 → Dec (s ≡ slot) → LastIn (set keys count key) s (count + 1) (get_or (set slots slot count) s 0)
        head s m (yes e) = subst (LastIn (set keys count key) s (count + 1)) (sym (ap (λ (p : ℕ). get_or (set slots slot count) p 0) e ∙ get_or-set_same slots slot count 0 (omega (arith, h.slots_long))))
            (record { there = λ _. (omega arith, new ∙ sym e); last = λ i _ n _. omega arith })
        head s m (no e) =
            let old : LastIn (set keys count key) s count (get_or slots s 0) = last-kept (omega arith) (h.heads s m) in
            subst (LastIn (set keys count key) s (count + 1)) (sym (get_or-set_other slots slot s count 0 e))
            (record { there = λ o. (let t = (old.there o).0 in omega arith, (old.there o).1); last = λ i o n q. below i o n q (ℕ_discrete i count) })
          where
            below : (i : ℕ) → 0 < i → i < count + 1 → slot_of (get_or (set keys count key) i 0) ≡ s → Dec (i ≡ count) → i ≤ get_or slots s 0
            below i o n q (yes z) = absurd (e (sym q ∙ ap (λ (k : ℕ). slot_of (get_or (set keys count key) k 0)) z ∙ new))
            below i o n q (no z) = (h.heads s m).last i o (omega arith) (ap slot_of (sym (others i (omega arith))) ∙ q)

        linked : List ℕ
        linked = set links count (get_or slots slot 0)

        link : (i : ℕ) → 0 < i → i < count + 1 → Dec (i ≡ count) → LastIn (set keys count key) (slot_of (get_or (set keys count key) i 0)) i (get_or linked i 0)
        link i o n (yes e) =
            subst (λ (k : ℕ). LastIn (set keys count key) (slot_of (get_or (set keys count key) k 0)) k (get_or linked k 0)) (sym e)
            (subst (LastIn (set keys count key) (slot_of (get_or (set keys count key) count 0)) count) (sym (get_or-set_same links count (get_or slots slot 0) 0 (omega (arith, h.links_long))))
            (subst (λ (s : ℕ). LastIn (set keys count key) s count (get_or slots slot 0)) (sym new) (last-kept (omega arith) (h.heads slot low))))
        link i o n (no e) =
            subst (LastIn (set keys count key) (slot_of (get_or (set keys count key) i 0)) i) (sym (get_or-set_other links count i (get_or slots slot 0) 0 e))
            (subst (λ (s : ℕ). LastIn (set keys count key) s i (get_or links i 0)) (ap slot_of (sym (others i (omega arith)))) (last-kept (omega arith) (h.before i o (omega arith))))

-- ---- the search

-- i is the number of a key in the slot, or 0, and none past it is the same
pub record Sought (count : ℕ) (keys : List ℕ) (slot k i : ℕ) : Type 0 where
  pub there : 0 < i → (i < count) × (slot_of (get_or keys i 0) ≡ slot)
  pub past : (j : ℕ) → i < j → j < count → met_at keys k j ≡ false

-- a key that was read
pub read-met : (keys : List ℕ) (k i x : ℕ) → i < length keys → {b : Bool} → b ≡ eqb (get_or keys i x) k → met_at keys k i ≡ b
read-met keys k i x l q = ap (λ (y : ℕ). eqb y k) (get_or_default keys i 0 x l) ∙ sym q

-- ---- what was found, as the list of the keys tells

module _ {count : ℕ} {keys : List ℕ} (fit : KeysFit count keys) (k : ℕ) where
  pub front-length : length (take count keys) ≡ count
  front-length = length-take-le count keys (omega (arith, fit.few, fit.room))

  least : least_below (length (take count keys)) (met_at (take count keys) k) ≡ least_below count (met_at keys k)
  least =
      ap (λ (n : ℕ). least_below n (met_at (take count keys) k)) front-length
      ∙ least-same count (met_at (take count keys) k) (met_at keys k) (λ i l. ap (λ (x : ℕ). eqb x k) (get_or-take count keys i 0 l))

  -- the number of a key that is the same is the least
  pub found-met : (i : ℕ) → i < count → met_at keys k i ≡ true → Finds (take count keys) k (Some i)
  found-met i l t = (omega (arith, front-length), sym (least ∙ least-is count (met_at keys k) i (omega arith) before (λ _. t)))
    where
      before : (j : ℕ) → j < i → met_at keys k j ≡ false
      before j m = ne_eqb (get_or keys j 0) k (λ q. fit.apart j i m l (q ∙ sym (eqb→eq (get_or keys i 0) k (subst T (sym t) tt))))

  -- no key is the same
  pub found-none : {slot i : ℕ} → Sought count keys slot k i → i ≡ 0 → met_at keys k 0 ≡ false → Finds (take count keys) k None
  found-none {slot} {i} r z f = omega (arith, front-length, least ∙ least-is count (met_at keys k) count (omega arith) (λ j l. go j l (ℕ_discrete j 0)) (λ l. absurd (omega arith)))
    where
      go : (j : ℕ) → j < count → Dec (j ≡ 0) → met_at keys k j ≡ false
      go j l (yes q) = subst (λ (x : ℕ). met_at keys k x ≡ false) (sym q) f
      go j l (no q) = r.past j (omega arith) l

  -- none of the keys is the same
  pub new-key : Finds (take count keys) k None → (j : ℕ) → j < count → ¬ (get_or keys j 0 ≡ k)
  new-key e j m q =
      let r = least-below count (met_at keys k) in
      let z : ◌≡◌ {A = ℕ} 1 0 = ap (λ (b : Bool). cond b 1 0) (sym (eq-eqb (get_or keys j 0) k q) ∙ r.before j (omega (arith, r.bound, e, least, front-length))) in
      omega arith
