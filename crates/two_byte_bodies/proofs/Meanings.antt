-- A rule says what it said: of four signals at most four are on, so an upper count of 4 asks nothing.
use mathlib.Core.Path.{◌≡◌, refl, sym, ap, ap₂, ◌∙◌, subst}
use mathlib.Core.Logic.Iff
use mathlib.Core.Logic.{◌⊎◌, ◌↔◌, ⊎_map}
use mathlib.Core.List.{List, [], ◌∷◌, ◌++◌, map, map-append}
use Prim.Native.Nat.{ℕ, zero, suc, ◌-◌, ◌*◌, ◌/◌, ◌^◌, ◌≤◌, ◌<◌}
use native.Mathlib.Nat.{mod-lt}
use native.Mathlib.Omega.{arith}
use lib.ListN.{length, get_or, length-map, get_or-map}
use lib.Dec.{lit<}
use Rattle.meaning.specs.Traces.{Lasso, at}
use Rattle.meaning.specs.Bytes.{bit}
use Rattle.meaning.specs.Formulas.{Formula, falsum, verum, signal, at_least, neg, and, or, implies, iff, xor, next, until, eventually, always, count_on, Until, Sat}
use Rattle.meaning.specs.RuleFiles.{Rule, formula_of, formulas, rule_formula, property_of}
use Rattle.meaning.specs.declared.Node.{Node}
use Rattle.two_byte_bodies.specs.Earlier.{OldSat, old_property}
use Rattle.two_byte_bodies.specs.Kept.{widened, widened_rule}

-- ---- counts

digits-most : (a b : ℕ) → a < 2 → b < 2 → a * b ≤ 1
digits-most zero b p q = omega arith
digits-most (suc zero) b p q = omega arith
digits-most (suc (suc a)) b p q = absurd (omega arith)

count_most : (n m e : ℕ) → count_on n m e ≤ n
count_most zero m e = omega arith
count_most (suc s) m e = omega (arith, count_most s m e, digits-most (bit s m) (bit s e) (mod-lt (m / 2 ^ s) (lit< tt)) (mod-lt (e / 2 ^ s) (lit< tt)))

-- ---- equivalences, part by part

iff-or : {A B A' B' : Type 0} → A ↔ A' → B ↔ B' → (A ⊎ B) ↔ (A' ⊎ B')
iff-or f g = (⊎_map f.0 g.0, ⊎_map f.1 g.1)

iff-fun : {A B A' B' : Type 0} → A ↔ A' → B ↔ B' → (A → B) ↔ (A' → B')
iff-fun f g = (λ h x. g.0 (h (f.1 x)), λ h x. g.1 (h (f.0 x)))

until-map : {A B A' B' : ℕ → Type 0} {i : ℕ} → ((k : ℕ) → A k → A' k) → ((k : ℕ) → B k → B' k) → Until A B i → Until A' B' i
until-map f g u = record { time = u.time; after = u.after; there = g u.time u.there; before = λ k p q. f k (u.before k p q) }

iff-until : {A B A' B' : ℕ → Type 0} {i : ℕ} → ((k : ℕ) → A k ↔ A' k) → ((k : ℕ) → B k ↔ B' k) → Until A B i ↔ Until A' B' i
iff-until f g = (until-map (λ k. (f k).0) (λ k. (g k).0), until-map (λ k. (f k).1) (λ k. (g k).1))

-- ---- formulas

-- with an upper count of 4 in each "at least"
abbrev wider : Formula → Formula
wider falsum = falsum
wider verum = verum
wider (signal s) = signal s
wider (at_least m k u) = at_least m k 4
wider (neg a) = neg (wider a)
wider (and a b) = and (wider a) (wider b)
wider (or a b) = or (wider a) (wider b)
wider (implies a b) = implies (wider a) (wider b)
wider (iff a b) = iff (wider a) (wider b)
wider (xor a b) = xor (wider a) (wider b)
wider (next a) = next (wider a)
wider (until a b) = until (wider a) (wider b)
wider (eventually a) = eventually (wider a)
wider (always a) = always (wider a)

sat-wider : (w : ℕ → ℕ) (f : Formula) (i : ℕ) → Sat w (wider f) i ↔ OldSat w f i
sat-wider w falsum i = Iff.rfl
sat-wider w verum i = Iff.rfl
sat-wider w (signal s) i = Iff.rfl
sat-wider w (at_least m k u) i = let most = count_most 4 m (w i) in (λ h. omega arith, λ h. omega arith)
sat-wider w (neg a) i = Iff.not (sat-wider w a i)
sat-wider w (and a b) i = Iff.and (sat-wider w a i) (sat-wider w b i)
sat-wider w (or a b) i = iff-or (sat-wider w a i) (sat-wider w b i)
sat-wider w (implies a b) i = iff-fun (sat-wider w a i) (sat-wider w b i)
sat-wider w (iff a b) i = let f = sat-wider w a i in let g = sat-wider w b i in Iff.and (iff-fun f g) (iff-fun g f)
sat-wider w (xor a b) i = let f = sat-wider w a i in let g = sat-wider w b i in iff-or (Iff.and f (Iff.not g)) (Iff.and (Iff.not f) g)
sat-wider w (next a) i = sat-wider w a (suc i)
sat-wider w (until a b) i = iff-until (sat-wider w a) (sat-wider w b)
sat-wider w (eventually a) i = iff-until (λ k. Iff.rfl) (sat-wider w a)
sat-wider w (always a) i = Iff.not (iff-until (λ k. Iff.rfl) (λ k. Iff.not (sat-wider w a k)))

-- ---- rules

-- the table of kinds, of a node with the operands x and y, the body bytes a and b and the upper count u
abbrev kinds : Formula → Formula → ℕ → ℕ → ℕ → List Formula
kinds x y a b u =
    falsum ∷ verum
    ∷ signal a
    ∷ at_least a b u
    ∷ neg x
    ∷ and x y ∷ or x y ∷ implies x y ∷ iff x y ∷ xor x y
    ∷ next x
    ∷ until x y
    ∷ eventually x ∷ always x ∷ []

-- only an "at least" has an upper count
upper-only : (x y : Formula) (n : Node) (k : ℕ) → n.kind ≡ k → get_or (kinds x y n.a n.b (widened n).upper) k falsum ≡ get_or (kinds x y n.a n.b 4) k falsum
upper-only x y n zero q = refl
upper-only x y n (suc zero) q = refl
upper-only x y n (suc (suc zero)) q = refl
upper-only x y n (suc (suc (suc zero))) q = rw q
upper-only x y n (suc (suc (suc (suc k)))) q = refl

formula-wider : (fs : List Formula) (n : Node) → formula_of (map wider fs) (widened n) ≡ wider (formula_of fs n)
formula-wider fs n =
    upper-only (get_or (map wider fs) n.a falsum) (get_or (map wider fs) n.b falsum) n n.kind refl
    ∙ ap₂ (λ (x y : Formula). get_or (kinds x y n.a n.b 4) n.kind falsum) (get_or-map wider fs n.a falsum) (get_or-map wider fs n.b falsum)
    ∙ get_or-map wider (kinds (get_or fs n.a falsum) (get_or fs n.b falsum) n.a n.b n.upper) n.kind falsum

formulas-wider : (fs : List Formula) (ns : List Node) → formulas (map wider fs) (map widened ns) ≡ map wider (formulas fs ns)
formulas-wider fs [] = refl
formulas-wider fs (n ∷ ns) =
    ap (λ (f : Formula). formulas (map wider fs ++ (f ∷ [])) (map widened ns)) (formula-wider fs n)
    ∙ ap (λ (gs : List Formula). formulas gs (map widened ns)) (sym (map-append wider fs (formula_of fs n ∷ [])))
    ∙ formulas-wider (fs ++ (formula_of fs n ∷ [])) ns

rule-wider : (r : Rule) → rule_formula (widened_rule r) ≡ wider (rule_formula r)
rule-wider r =
    ap₂ (λ (fs : List Formula) (k : ℕ). get_or fs (k - 1) falsum) (formulas-wider [] r.nodes) (length-map r.nodes widened)
    ∙ get_or-map wider (formulas [] r.nodes) (length r.nodes - 1) falsum

pub property-kept : (r : Rule) (ρ : Lasso) → property_of (widened_rule r) ρ ↔ old_property r ρ
unfolding property_of old_property
property-kept r ρ = subst (λ (f : Formula). Sat (at ρ) f 0 ↔ OldSat (at ρ) (rule_formula r) 0) (sym (rule-wider r)) (sat-wider (at ρ) (rule_formula r) 0)
