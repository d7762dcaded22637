-- The judgement of a file is what it was; or it was refused by 3 at its second record, which has kind 257.
use mathlib.Core.Path.{◌≡◌, refl, sym, ap, ◌∙◌}
use mathlib.Core.Logic.{◌⊎◌, inl, inr}
use mathlib.Core.List.{List, [], ◌∷◌}
use mathlib.Core.Bool.{Bool, true, false, cond, not, ◌&&◌}
use Prim.Native.Nat.{ℕ, zero, suc, ◌+◌, ◌-◌, ◌^◌, ◌≤◌}
use native.Mathlib.Omega.{arith}
use lib.ListN.{length}
use lib.Dec.{ltb, leb, eqb}
use borrow.Author.Tests.{eqb-true}
use Rattle.meaning.specs.Bytes.{u16_at}
use Rattle.meaning.specs.Traces.{full_mask}
use Rattle.meaning.specs.RuleFiles.{length_fits, operands_fit, ranges_fit, temporal, node_at, first_of, header_of, mask_of, reading_of, nodes_from, body_from, Judgement, Refused, judge}
use Rattle.meaning.specs.declared.Node.{Node}
use Rattle.meaning.specs.declared.Refusal.{Refusal}
use Rattle.meaning.specs.declared.Refusal.TheVariants.{Truncated, WrongLength, WrongKind, WrongOperand, OutOfRange, EighthTemporal, NoEvent}
use Rattle.smallest.proofs.Accepted.{header-counts}
use Rattle.unmasked_files.specs.Earlier.{old_judge}
use Rattle.unmasked_files.specs.Kept.{MaskSecond}
use Rattle.std.proofs.Common.{Result, Ok, Err}
use Rattle.meaning.specs.declared.Header.{Header}
use Rattle.meaning.specs.declared.Mask.{Mask}

-- a refusal, or what follows what was read
abbrev after_node : (Node → Judgement) → Result Node Refusal → Judgement
after_node f x = elim x as (λ _. Judgement) [ Ok n ↦ f n | Err r ↦ Refused r ]

abbrev after_mask : (Mask → Judgement) → Result Mask Refusal → Judgement
after_mask f x = elim x as (λ _. Judgement) [ Ok m ↦ f m | Err r ↦ Refused r ]

-- the first three checks of a record
abbrev three : Bool → Bool → Bool → List (Bool × Refusal)
three c₁ c₂ c₃ = (c₁, Truncated 6) ∷ (c₂, WrongLength 6) ∷ (c₃, Truncated 6) ∷ []

-- they are the same for a mask and for a node, whose kind is wrong where it is a mask's
frames : (c₁ c₂ c₃ : Bool) (f : Node → Judgement) (g : Mask → Judgement) (y : Result Mask Refusal)
    → (after_mask g (first_of Err (three c₁ c₂ c₃) y) ≡ after_node f (first_of Err (three c₁ c₂ c₃) (Err (WrongKind 6))))
    ⊎ (after_node f (first_of Err (three c₁ c₂ c₃) (Err (WrongKind 6))) ≡ Refused (WrongKind 6))
frames true c₂ c₃ f g y = inl refl
frames false true c₃ f g y = inl refl
frames false false true f g y = inl refl
frames false false false f g y = inr refl

module _ (b : List ℕ) (k P : ℕ) where
  -- the judgement as it was, of at least one node
  abbrev old : Judgement
  old = nodes_from (suc k) b P (full_mask P) 6 []

  -- what follows the three checks of a mask
  abbrev rest : Result Mask Refusal
  rest =
      first_of Err
      ((not (eqb (u16_at b 6) (2 + 2)), WrongLength 6)
      ∷ (leb (2 ^ 2 ^ P) (u16_at b 10), OutOfRange 6)
      ∷ (eqb (u16_at b 10) 0, NoEvent 6)
      ∷ [])
      (Ok (record { mask = u16_at b 10; nodes_at = 12 }))

  abbrev c₁ : Bool
  c₁ = ltb (length b - 6) 2

  abbrev c₂ : Bool
  c₂ = ltb (u16_at b 6) 2

  abbrev c₃ : Bool
  c₃ = ltb (length b - 6) (2 + u16_at b 6)

  abbrev f : Node → Judgement
  f n = nodes_from k b P (full_mask P) (6 + 2 + u16_at b 6) (n ∷ [])

  abbrev g : Mask → Judgement
  g m = nodes_from (suc k) b P m.mask m.nodes_at []

  new_is : (t : Bool) → eqb (u16_at b 8) 257 ≡ t → body_from (suc k) b P ≡ after_mask g (cond t (first_of Err (three c₁ c₂ c₃) rest) (Ok (record { mask = full_mask P; nodes_at = 6 })))
  unfolding body_from mask_of
  new_is t q = ap (λ (t : Bool). after_mask g (cond t (first_of Err (three c₁ c₂ c₃) rest) (Ok (record { mask = full_mask P; nodes_at = 6 })))) q

  old-is : u16_at b 8 ≡ 257 → old ≡ after_node f (first_of Err (three c₁ c₂ c₃) (Err (WrongKind 6)))
  unfolding nodes_from reading_of
  old-is q = ap (λ (k : ℕ). after_node f (first_of Err (three c₁ c₂ c₃) (cond (not (leb k 13)) (Err (WrongKind 6)) later))) q
    where
      later : Result Node Refusal
      later =
          first_of Err
          ((not (length_fits (u16_at b 8) (u16_at b 6)), WrongLength 6)
          ∷ (not (operands_fit 0 (node_at b 6)), WrongOperand 6)
          ∷ (not (ranges_fit P (node_at b 6)), OutOfRange 6)
          ∷ (temporal (u16_at b 8) && leb 7 0, EighthTemporal 6)
          ∷ [])
          (Ok (node_at b 6))

  second : (body_from (suc k) b P ≡ old) ⊎ ((old ≡ Refused (WrongKind 6)) × (u16_at b 8 ≡ 257))
  second = go (eqb (u16_at b 8) 257) refl
    where
      go : (t : Bool) → eqb (u16_at b 8) 257 ≡ t → (body_from (suc k) b P ≡ old) ⊎ ((old ≡ Refused (WrongKind 6)) × (u16_at b 8 ≡ 257))
      go false q = inl (new_is false q)
      go true q =
          let kind : u16_at b 8 ≡ 257 = eqb-true (u16_at b 8) 257 q in
          elim (frames c₁ c₂ c₃ f g rest) [ inl e ↦ inl (new_is true q ∙ e ∙ sym (old-is kind)) | inr e ↦ inr (old-is kind ∙ e, kind) ]

-- the judgement by the first record, as it is and as it was
abbrev new : List ℕ → Result Header Refusal → Judgement
new file x = elim x as (λ _. Judgement) [ Ok h ↦ body_from h.nodes file h.signals | Err r ↦ Refused r ]

abbrev was : List ℕ → Result Header Refusal → Judgement
was file x = elim x as (λ _. Judgement) [ Ok h ↦ nodes_from h.nodes file h.signals (full_mask h.signals) 6 [] | Err r ↦ Refused r ]

pub readings : (file : List ℕ) → (judge file ≡ old_judge file) ⊎ MaskSecond file
unfolding judge old_judge
readings file = go (header_of file) refl
  where
    body : (P n : ℕ) → 1 ≤ n → header_of file ≡ Ok (record { signals = P; nodes = n }) → (new file (header_of file) ≡ was file (header_of file)) ⊎ MaskSecond file
    body P zero l q = absurd (omega arith)
    body P (suc k) l q =
        elim (second file k P) [
          | inl e ↦ inl (ap (new file) q ∙ e ∙ sym (ap (was file) q))
          | inr e ↦ inr (record { was = ap (was file) q ∙ e.0; kind = e.1 })
        ]

    go : (x : Result Header Refusal) → header_of file ≡ x → (new file (header_of file) ≡ was file (header_of file)) ⊎ MaskSecond file
    go (Ok h) q = body h.signals h.nodes (header-counts file h q).some q
    go (Err r) q = inl (ap (new file) q ∙ sym (ap (was file) q))
