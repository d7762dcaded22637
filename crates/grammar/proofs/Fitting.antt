-- The machine ends where an operator may stand outside all brackets exactly on the texts that fit, and sees their signs; so a text has one tree at most.
use mathlib.Core.Path.{◌≡◌, refl, sym, ap, ◌∙◌, subst}
use mathlib.Core.List.{List, [], ◌∷◌, ◌++◌}
use Prim.Native.Nat.{ℕ, zero, suc, ◌+◌, ◌-◌, ◌≤◌, ◌<◌}
use native.Mathlib.Decide.{ℕ_discrete}
use native.Mathlib.Omega.{arith}
use borrow.Author.Tests.{eq-eqb, ne_eqb}
use Rattle.meaning.specs.Grammar.{Tree, Parses, spelling, Spells, ended, space, sign, Fits}
use Rattle.grammar.specs.Descent.{Level}
use Rattle.grammar.specs.Machine.{State, operand, operator, digit, within, dead, Move, Row, lost, look, closed, rows, step, run, seen}
use Rattle.grammar.proofs.Follow.{Open, leaf-on, prefix-on, open-on, Shut, done, close-on, sign-on}
use Rattle.grammar.proofs.Parsing.{reading, follows, unique, complete, level-same}

-- the bytes w take q to q' and are the sign x
record Takes (q : State) (w : List ℕ) (x : ℕ) (q' : State) : Type 0 where
  to : (s : List ℕ) → run q (w ++ s) ≡ run q' s
  is : (s : List ℕ) → seen q (w ++ s) ≡ x ∷ seen q' s

takes-leaf : (d x : ℕ) → x < 6 → Takes (operand d) (spelling x) x (operator d)
unfolding run seen
takes-leaf d zero h = record { to = λ s. refl; is = λ s. refl }
takes-leaf d (suc zero) h = record { to = λ s. refl; is = λ s. refl }
takes-leaf d (suc (suc zero)) h = record { to = λ s. refl; is = λ s. refl }
takes-leaf d (suc (suc (suc zero))) h = record { to = λ s. refl; is = λ s. refl }
takes-leaf d (suc (suc (suc (suc zero)))) h = record { to = λ s. refl; is = λ s. refl }
takes-leaf d (suc (suc (suc (suc (suc zero))))) h = record { to = λ s. refl; is = λ s. refl }
takes-leaf d (suc (suc (suc (suc (suc (suc x)))))) h = absurd (omega arith)

takes-sign : (d n : ℕ) → n < 6 → Takes (operator d) (spelling (12 + n)) (12 + n) (operand d)
unfolding run seen
takes-sign d zero h = record { to = λ s. refl; is = λ s. refl }
takes-sign d (suc zero) h = record { to = λ s. refl; is = λ s. refl }
takes-sign d (suc (suc zero)) h = record { to = λ s. refl; is = λ s. refl }
takes-sign d (suc (suc (suc zero))) h = record { to = λ s. refl; is = λ s. refl }
takes-sign d (suc (suc (suc (suc zero)))) h = record { to = λ s. refl; is = λ s. refl }
takes-sign d (suc (suc (suc (suc (suc zero))))) h = record { to = λ s. refl; is = λ s. refl }
takes-sign d (suc (suc (suc (suc (suc (suc n)))))) h = absurd (omega arith)

takes-pre : (d y : ℕ) → y < 4 → Takes (operand d) (spelling (6 + y)) (6 + y) (operand d)
unfolding run seen
takes-pre d zero h = record { to = λ s. refl; is = λ s. refl }
takes-pre d (suc zero) h = record { to = λ s. refl; is = λ s. refl }
takes-pre d (suc (suc zero)) h = record { to = λ s. refl; is = λ s. refl }
takes-pre d (suc (suc (suc zero))) h = record { to = λ s. refl; is = λ s. refl }
takes-pre d (suc (suc (suc (suc y)))) h = absurd (omega arith)

takes-open : (d : ℕ) → Takes (operand d) (spelling 10) 10 (operand (suc d))
unfolding run seen
takes-open d = record { to = λ s. refl; is = λ s. refl }

takes-close : (d : ℕ) → Takes (operator (suc d)) (spelling 11) 11 (operator d)
unfolding run seen
takes-close d = record { to = λ s. refl; is = λ s. refl }

takes-prefix : (d x : ℕ) → 6 ≤ x → x < 10 → Takes (operand d) (spelling x) x (operand d)
takes-prefix d x l u = let e : 6 + (x - 6) ≡ x = omega arith in subst (λ (j : ℕ). Takes (operand d) (spelling j) j (operand d)) e (takes-pre d (x - 6) (omega arith))

-- from q the machine passes ended s, ends where it may, and sees the signs ts
pub record Passes (q : State) (s ts : List ℕ) : Type 0 where
  pub ends : run q s ≡ operator 0
  pub sees : seen q s ≡ ts

through : {q q' : State} {x : ℕ} {s ts : List ℕ} → Takes q (spelling x) x q' → Passes q' s ts → Passes q (spelling x ++ s) (x ∷ ts)
through {x = x} {s} t p = record { ends = t.to s ∙ p.ends; sees = t.is s ∙ ap (λ (l : List ℕ). x ∷ l) p.sees }

record Runs (ts s : List ℕ) : Type 0 where
  opened : (d : ℕ) → Open d ts → Passes (operand d) s ts
  signed : (d : ℕ) → Shut d ts → Passes (operator d) s ts

ended-open : (d : ℕ) → Open d [] → ⊥
ended-open d = elim [ ]

token-open : {x : ℕ} {ts s : List ℕ} → Runs ts s → (d : ℕ) → Open d (x ∷ ts) → Passes (operand d) (spelling x ++ s) (x ∷ ts)
token-open {x} r d (leaf-on h k) = through (takes-leaf d x h) (r.signed d k)
token-open {x} r d (prefix-on l u o) = through (takes-prefix d x l u) (r.opened d o)
token-open {x} {ts} {s} r d (open-on e o) = subst (λ (j : ℕ). Passes (operand d) (spelling j ++ s) (j ∷ ts)) (sym e) (through (takes-open d) (r.opened (suc d) o))

token-shut : {x : ℕ} {ts s : List ℕ} → Runs ts s → (d : ℕ) → Shut d (x ∷ ts) → Passes (operator d) (spelling x ++ s) (x ∷ ts)
token-shut {x} {ts} {s} r (suc d) (close-on e k) = subst (λ (j : ℕ). Passes (operator (suc d)) (spelling j ++ s) (j ∷ ts)) (sym e) (through (takes-close d) (r.signed d k))
token-shut {x} {ts} {s} r d (sign-on {n = n} e h o) = subst (λ (j : ℕ). Passes (operator d) (spelling j ++ s) (j ∷ ts)) (sym e) (through (takes-sign d n h) (r.opened d o))

ended-shut : {d : ℕ} → Shut d [] → Passes (operator d) [] []
unfolding run seen
ended-shut done = record { ends = refl; sees = refl }

space-on : {d : ℕ} {s ts : List ℕ} → Passes (operand d) s ts → Passes (operand d) (32 ∷ s) ts
unfolding run seen
space-on p = record { ends = p.ends; sees = p.sees }

space-on' : {d : ℕ} {s ts : List ℕ} → Passes (operator d) s ts → Passes (operator d) (32 ∷ s) ts
unfolding run seen
space-on' p = record { ends = p.ends; sees = p.sees }

runs : {ts s : List ℕ} → Spells ts s → Runs ts s
runs ended = record { opened = λ d o. absurd (ended-open d o); signed = λ d k. ended-shut k }
runs (space t) = let r = runs t in record { opened = λ d o. space-on (r.opened d o); signed = λ d k. space-on' (r.signed d k) }
runs (sign h t) = let r = runs t in record { opened = λ d o. token-open r d o; signed = λ d k. token-shut r d k }

-- what fits is passed
pub passes : {s : List ℕ} {t : Tree} → (f : Fits s t) → Passes (operand 0) s f.signs
passes f = (runs f.spells).opened 0 (follows f.parses)

-- what holds at each row, and where no row has the byte, holds of the move at a byte
abbrev pub Each : (ℕ → Move → Type 0) → List Row → Type 0
Each P [] = Unit {0}
Each P (r ∷ rs) = P r.byte r.move × Each P rs

pub look-each : (P : ℕ → Move → Type 0) (rs : List Row) (b : ℕ) → Each P rs → P b lost → P b (look rs b)
look-each P [] b a l = l
look-each P (r ∷ rs) b a l = go (ℕ_discrete b r.byte) (look-each P rs b a.1 l)
  where
    go : Dec (b ≡ r.byte) → P b (look rs b) → P b (look (r ∷ rs) b)
    go (yes e) h = rw (eq-eqb b r.byte e) (subst (λ (j : ℕ). P j r.move) (sym e) a.0)
    go (no f) h = rw (ne_eqb b r.byte f) h

-- a digit's text and signs at depth d
record Digit (d : ℕ) (s ts : List ℕ) : Type 0 where
  number : ℕ
  bytes : List ℕ
  rest : List ℕ
  few : number < 4
  s-is : s ≡ (48 + number) ∷ bytes
  ts-is : ts ≡ number ∷ rest
  spells : Spells rest bytes
  on : Shut d rest

record Within (b : ℕ) (w : List ℕ) (P : List ℕ → List ℕ → Type 0) (s ts : List ℕ) : Type 0 where
  bytes : List ℕ
  s-is : s ≡ b ∷ (w ++ bytes)
  rest : P bytes ts

-- what stands for the bytes that the machine passes from a state on
abbrev Rest : State → List ℕ → List ℕ → Type 0
Rest (operand d) s ts = Spells ts s × Open d ts
Rest (operator d) s ts = Spells ts s × Shut d ts
Rest (digit d) s ts = Digit d s ts
Rest (within b w q) s ts = Within b w (Rest q) s ts
Rest dead s ts = ⊥

abbrev Back : State → ℕ → Move → Type 0
Back q b m = (s ts : List ℕ) → Rest m.state s ts → Rest q (b ∷ s) (m.sign ++ ts)

digit-leaf : (d n : ℕ) (s ts : List ℕ) → n < 4 → Spells ts s → Shut d ts → Spells (n ∷ ts) (115 ∷ ((48 + n) ∷ s)) × Open d (n ∷ ts)
digit-leaf d zero s ts h t k = (sign {x = 0} (omega arith) t, leaf-on {x = 0} (omega arith) k)
digit-leaf d (suc zero) s ts h t k = (sign {x = 1} (omega arith) t, leaf-on {x = 1} (omega arith) k)
digit-leaf d (suc (suc zero)) s ts h t k = (sign {x = 2} (omega arith) t, leaf-on {x = 2} (omega arith) k)
digit-leaf d (suc (suc (suc zero))) s ts h t k = (sign {x = 3} (omega arith) t, leaf-on {x = 3} (omega arith) k)
digit-leaf d (suc (suc (suc (suc n)))) s ts h t k = absurd (omega arith)

digit-back : (d : ℕ) (s ts : List ℕ) → Digit d s ts → Spells ts (115 ∷ s) × Open d ts
digit-back d s ts r = rw (r.s-is, r.ts-is) (digit-leaf d r.number r.bytes r.rest r.few r.spells r.on)

digit-of : (d n : ℕ) (s ts : List ℕ) → n < 4 → Spells ts s → Shut d ts → Digit d ((48 + n) ∷ s) (n ∷ ts)
digit-of d n s ts h t k = record { number = n; bytes = s; rest = ts; few = h; s-is = refl; ts-is = refl; spells = t; on = k }

backs-digit : (d : ℕ) → Each (Back (digit d)) (rows (digit d))
backs-digit d = (
  λ s ts r. digit-of d 0 s ts (omega arith) r.0 r.1,
  (
    λ s ts r. digit-of d 1 s ts (omega arith) r.0 r.1,
    (λ s ts r. digit-of d 2 s ts (omega arith) r.0 r.1, (λ s ts r. digit-of d 3 s ts (omega arith) r.0 r.1, tt)),
  ),
)

backs-operand : (d : ℕ) → Each (Back (operand d)) (rows (operand d))
backs-operand d = (
  λ s ts r. (space r.0, r.1),
  (
    λ s ts r. (sign {x = 6} (omega arith) r.0, prefix-on {x = 6} (omega arith) (omega arith) r.1),
    (
      λ s ts r. (sign {x = 7} (omega arith) r.0, prefix-on {x = 7} (omega arith) (omega arith) r.1),
      (
        λ s ts r. (sign {x = 8} (omega arith) r.0, prefix-on {x = 8} (omega arith) (omega arith) r.1),
        (
          λ s ts r. (sign {x = 9} (omega arith) r.0, prefix-on {x = 9} (omega arith) (omega arith) r.1),
          (
            λ s ts r. (sign {x = 10} (omega arith) r.0, open-on refl r.1),
            (
              λ s ts r. digit-back d s ts r,
              (
                λ s ts r. (rw r.s-is (sign {x = 4} (omega arith) r.rest.0), leaf-on {x = 4} (omega arith) r.rest.1),
                (λ s ts r. (rw r.s-is (sign {x = 5} (omega arith) r.rest.0), leaf-on {x = 5} (omega arith) r.rest.1), tt),
              ),
            ),
          ),
        ),
      ),
    ),
  ),
)

closed-back : (d : ℕ) (s ts : List ℕ) → Rest (closed d) s ts → Spells (11 ∷ ts) (41 ∷ s) × Shut d (11 ∷ ts)
closed-back zero s ts r = absurd r
closed-back (suc d) s ts r = (sign {x = 11} (omega arith) r.0, close-on refl r.1)

backs-operator : (d : ℕ) → Each (Back (operator d)) (rows (operator d))
backs-operator d = (
  λ s ts r. (space r.0, r.1),
  (
    λ s ts r. closed-back d s ts r,
    (
      λ s ts r. (sign {x = 12} (omega arith) r.0, sign-on {n = 0} refl (omega arith) r.1),
      (
        λ s ts r. (sign {x = 13} (omega arith) r.0, sign-on {n = 1} refl (omega arith) r.1),
        (
          λ s ts r. (sign {x = 14} (omega arith) r.0, sign-on {n = 2} refl (omega arith) r.1),
          (
            λ s ts r. (sign {x = 15} (omega arith) r.0, sign-on {n = 3} refl (omega arith) r.1),
            (
              λ s ts r. (rw r.s-is (sign {x = 16} (omega arith) r.rest.0), sign-on {n = 4} refl (omega arith) r.rest.1),
              (λ s ts r. (rw r.s-is (sign {x = 17} (omega arith) r.rest.0), sign-on {n = 5} refl (omega arith) r.rest.1), tt),
            ),
          ),
        ),
      ),
    ),
  ),
)

backs-within : (b : ℕ) (w : List ℕ) (q : State) → Each (Back (within b w q)) (rows (within b w q))
backs-within b [] q = (λ s ts r. record { bytes = s; s-is = refl; rest = r }, tt)
backs-within b (c ∷ w) q = (λ s ts r. record { bytes = r.bytes; s-is = ap (λ (l : List ℕ). b ∷ l) r.s-is; rest = r.rest }, tt)

backs : (q : State) → Each (Back q) (rows q)
backs (operand d) = backs-operand d
backs (operator d) = backs-operator d
backs (digit d) = backs-digit d
backs (within b w q) = backs-within b w q
backs dead = tt

rest_ended : (q : State) → q ≡ operator 0 → Rest q [] []
rest_ended (operand d) e = let z : ◌≡◌ {A = ℕ} 0 1 = cc in absurd (omega arith)
rest_ended (operator d) e = let z : d ≡ 0 = cc in (ended, rw z done)
rest_ended (digit d) e = let z : ◌≡◌ {A = ℕ} 0 1 = cc in absurd (omega arith)
rest_ended (within b w q) e = let z : ◌≡◌ {A = ℕ} 0 1 = cc in absurd (omega arith)
rest_ended dead e = let z : ◌≡◌ {A = ℕ} 0 1 = cc in absurd (omega arith)

rests : (s : List ℕ) (q : State) → run q s ≡ operator 0 → Rest q s (seen q s)
unfolding run seen
rests [] q e = rest_ended q e
rests (b ∷ s) q e = look-each (Back q) (rows q) b (backs q) (λ s ts r. absurd r) s (seen (step q b).state s) (rests s (step q b).state e)

-- what is passed fits
pub fitting : (s : List ℕ) → run (operand 0) s ≡ operator 0 → (t : Tree) × Fits s t
fitting s e =
    let r = rests s (operand 0) e in
    let f = reading (seen (operand 0) s) r.1 in
    (f.0, record { signs = seen (operand 0) s; spells = r.0; parses = f.1 })

-- a text has at most one tree
pub one-tree : {s : List ℕ} {t u : Tree} → Fits s t → Fits s u → t ≡ u
one-tree {s} {t} {u} f g = unique (subst (λ (l : List ℕ). Parses 6 l t) (sym (passes f).sees ∙ (passes g).sees) f.parses) g.parses

-- what the descent reads off the signs that the machine saw is the tree of the text
pub read_is : {s : List ℕ} {t u : Tree} {r : List ℕ} → Fits s t → Level 6 (seen (operand 0) s) u r → u ≡ t
read_is {s} {t} {u} {r} f l = level-same (subst (λ (ts : List ℕ). Level 6 ts u r) (passes f).sees l) (complete f.parses)
