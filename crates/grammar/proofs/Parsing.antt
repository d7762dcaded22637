-- The descent reads what the grammar reads: it finds every reading (complete), so that signs have at most one (unique); and where signs and
-- brackets follow one another as they may, it finds one (sound).
use mathlib.Core.Path.{◌≡◌, refl, sym, ap, ◌∙◌, subst}
use mathlib.Core.Bool.{Bool, true, false, true≢false}
use mathlib.Core.List.{List, [], ◌∷◌, ◌++◌, append_assoc, append-nil}
use Prim.Native.Nat.{ℕ, zero, suc, ◌+◌, ◌*◌, ◌≤◌, ◌<◌}
use native.Mathlib.Nat.{le_refl}
use native.Mathlib.Decide.{ℕ_discrete}
use native.Mathlib.Omega.{arith}
use lib.ListN.{length}
use Rattle.meaning.specs.Grammar.{Tree, leaf, pre, bin, rightward, Parses, atom, prefix, brackets, tighter, left, right}
use Rattle.grammar.specs.Descent.{Got, Level, More}
use Rattle.grammar.proofs.Follow.{Loose, nothing, shut, looser, Open, leaf-on, prefix-on, open-on, Shut, done, close-on, sign-on}
use Rattle.grammar.proofs.Descending.{level-leaf, level-pre, level-round, level-up, more-end, more-none, more_left, more-right}

tighten : {n : ℕ} {r : List ℕ} → Loose (suc n) r → Loose n r
tighten nothing = nothing
tighten (shut e) = shut e
tighten {n} (looser {m = m} e h) = looser {n = n} {m = m} e (omega arith)

-- what is loose does not go on
still : {n : ℕ} {a : Tree} {r : List ℕ} → Loose (suc n) r → More n a r a r
still nothing = more-end
still (shut e) = more-none (λ f. omega arith)
still (looser e h) = more-none (λ f. omega arith)

level-at : {n : ℕ} {ts ts' : List ℕ} {t : Tree} {r : List ℕ} → ts ≡ ts' → Level n ts t r → Level n ts' t r
level-at {n} {t = t} {r} e h = subst (λ (l : List ℕ). Level n l t r) e h

-- what a reading tells of the descent: before a loose rest it reads the tree and stops. At a level that groups to the left, before a rest that is loose for the
-- level below, it goes on with the tree
record Found (n : ℕ) (us : List ℕ) (a : Tree) : Type 0 where
  stops : (r : List ℕ) → Loose n r → Level n (us ++ r) a r
  goes : (m : ℕ) → n ≡ suc m → rightward m ≡ false → (r : List ℕ) (t : Tree) (r' : List ℕ) → Loose m r → More m a r t r' → Level n (us ++ r) t r'

found_up : {n : ℕ} {us : List ℕ} {a : Tree} → Found n us a → Found (suc n) us a
found_up {n} {us} {a} p = record {
  stops = λ r l. level-up (p.stops r (tighten l)) (still l);
  goes = λ m e g r t r' l q. let f : n ≡ m = omega arith in level-up (p.stops r (rw f l)) (rw f q);
}

found_left : {n : ℕ} {us vs : List ℕ} {a b : Tree} → rightward n ≡ false → Found (suc n) us a → Found n vs b → Found (suc n) (us ++ ((12 + n) ∷ vs)) (bin (12 + n) a b)
found_left {n} {us} {vs} {a} {b} f p q =
    let on : (r : List ℕ) (t : Tree) (r' : List ℕ) → Loose n r → More n (bin (12 + n) a b) r t r' → Level (suc n) ((us ++ ((12 + n) ∷ vs)) ++ r) t r' =
    λ r t r' l m. level-at (sym (append_assoc us ((12 + n) ∷ vs) r)) (p.goes n refl f ((12 + n) ∷ (vs ++ r)) t r' (looser {m = n} refl (le_refl n)) (more_left f (q.stops r l) m)) in
    record {
      stops = λ r l. on r _ r (tighten l) (still l);
      goes = λ m e g r t r' l h. let i : n ≡ m = omega arith in on r t r' (rw i l) (subst (λ (j : ℕ). More j (bin (12 + n) a b) r t r') (sym i) h);
    }

found_right : {n : ℕ} {us vs : List ℕ} {a b : Tree} → rightward n ≡ true → Found n us a → Found (suc n) vs b → Found (suc n) (us ++ ((12 + n) ∷ vs)) (bin (12 + n) a b)
found_right {n} {us} {vs} f p q =
    record {
      stops = λ r l. level-at (sym (append_assoc us ((12 + n) ∷ vs) r)) (level-up (p.stops ((12 + n) ∷ (vs ++ r)) (looser {m = n} refl (le_refl n))) (more-right f (q.stops r l)));
      goes = λ m e g r t r' l h. (let i : n ≡ m = omega arith in absurd (true≢false (sym f ∙ (rw i g))));
    }

found_plain : {us : List ℕ} {a : Tree} → ((r : List ℕ) → Loose 0 r → Level 0 (us ++ r) a r) → Found 0 us a
found_plain s = record { stops = s; goes = λ m e g r t r' l h. absurd (omega arith) }

found : {n : ℕ} {us : List ℕ} {a : Tree} → Parses n us a → Found n us a
found (atom h) = found_plain (λ r l. level-leaf h)
found (prefix h u p) = let f = found p in found_plain (λ r l. level-pre h u (f.stops r l))
found (brackets {ts} p) = let f = found p in found_plain (λ r l. level-round (level-at (sym (append_assoc ts (11 ∷ []) r)) (f.stops (11 ∷ r) (shut refl))))
found (tighter p) = found_up (found p)
found (left f p q) = found_left f (found p) (found q)
found (right f p q) = found_right f (found p) (found q)

-- every reading is found
pub complete : {us : List ℕ} {a : Tree} → Parses 6 us a → Level 6 us a []
complete {us} p = level-at (append-nil us) ((found p).stops [] nothing)

pub level-same : {n : ℕ} {ts : List ℕ} {t t' : Tree} {r r' : List ℕ} → Level n ts t r → Level n ts t' r' → t ≡ t'
level-same {n} {ts} p q = let k : ℕ = 16 * length ts + 2 * n + 2 in ap (λ (g : Got). g.tree) (sym (p.is k (le_refl k)) ∙ q.is k (le_refl k))

-- each text has at most one reading
pub unique : {us : List ℕ} {a b : Tree} → Parses 6 us a → Parses 6 us b → a ≡ b
unique p q = level-same (complete p) (complete q)

-- signs and brackets that follow one another as they may: the descent at level n finds a reading, and leaves a rest that does not go on at the level
record Sound (n d : ℕ) (ts : List ℕ) : Type 0 where
  tree : Tree
  used : List ℕ
  rest : List ℕ
  level : Level n ts tree rest
  split : ts ≡ used ++ rest
  reads : Parses n used tree
  on : Shut d rest
  loose : Loose n rest

-- the same after us was read as a
record SoundMore (n d : ℕ) (us : List ℕ) (a : Tree) (r : List ℕ) : Type 0 where
  tree : Tree
  used : List ℕ
  rest : List ℕ
  more : More n a r tree rest
  split : r ≡ used ++ rest
  reads : Parses (suc n) (us ++ used) tree
  on : Shut d rest
  loose : Loose (suc n) rest

loose-0 : {d : ℕ} {r : List ℕ} → Shut d r → Loose 0 r
loose-0 done = nothing
loose-0 (close-on e s) = shut e
loose-0 (sign-on {n = n} e l o) = looser {n = 0} {m = n} e (omega arith)

loose-sign : {n : ℕ} {x : ℕ} {ts : List ℕ} (m : ℕ) → Loose n (x ∷ ts) → x ≡ 12 + m → n ≤ m
loose-sign m (shut e) f = absurd (omega arith)
loose-sign m (looser e l) f = omega arith

-- a rest either goes on with the sign of level n + 1, or does not
stops-or : {n d : ℕ} {r : List ℕ} (C : Type 0) → Shut d r → Loose n r → (Loose (suc n) r → C) → ((ts : List ℕ) → r ≡ (12 + n) ∷ ts → Open d ts → C) → C
stops-or C done l f g = f nothing
stops-or C (close-on e s) l f g = f (shut e)
stops-or {n} C (sign-on {n = m} {ts = ts} e h o) l f g = go (ℕ_discrete n m)
  where
    go : Dec (n ≡ m) → C
    go (yes q) = g ts (ap (λ (j : ℕ). j ∷ ts) (e ∙ ap (λ (j : ℕ). 12 + j) (sym q))) o
    go (no q) = f (looser {n = suc n} {m = m} e (let i : n ≤ m = loose-sign m l e in omega (arith, q)))

-- at the loosest level only the end and the closing bracket do not go on
closes : {d : ℕ} {r : List ℕ} (C : Type 0) → Shut (suc d) r → Loose 6 r → ((ts : List ℕ) → r ≡ 11 ∷ ts → Shut d ts → C) → C
closes C (close-on {ts = ts} e s) l g = g ts (ap (λ (j : ℕ). j ∷ ts) e) s
closes C (sign-on {n = m} e h o) l g = absurd (let i = loose-sign m l e in omega arith)

sound-leaf : {d x : ℕ} {ts : List ℕ} → x < 6 → Shut d ts → Sound 0 d (x ∷ ts)
sound-leaf {d} {x} {ts} l s = record { tree = leaf x; used = x ∷ []; rest = ts; level = level-leaf l; split = refl; reads = atom l; on = s; loose = loose-0 s }

sound-prefix : {d x : ℕ} {ts : List ℕ} → 6 ≤ x → x < 10 → Sound 0 d ts → Sound 0 d (x ∷ ts)
sound-prefix {d} {x} {ts} l u s = record { tree = pre x s.tree; used = x ∷ s.used; rest = s.rest; level = level-pre l u s.level; split = ap (λ (t : List ℕ). x ∷ t) s.split; reads = prefix l u s.reads; on = s.on; loose = s.loose }

sound-round : {d x : ℕ} {ts : List ℕ} → x ≡ 10 → Sound 6 (suc d) ts → Sound 0 d (x ∷ ts)
sound-round {d} {x} {ts} e s = closes (Sound 0 d (x ∷ ts)) s.on s.loose (λ r q c. subst (λ (j : ℕ). Sound 0 d (j ∷ ts)) (sym e) (record {
  tree = s.tree;
  used = 10 ∷ (s.used ++ (11 ∷ []));
  rest = r;
  level = level-round (subst (λ (l : List ℕ). Level 6 ts s.tree l) q s.level);
  split = ap (λ (l : List ℕ). 10 ∷ l) (s.split ∙ ap (λ (l : List ℕ). s.used ++ l) q ∙ sym (append_assoc s.used (11 ∷ []) r));
  reads = brackets s.reads;
  on = c;
  loose = loose-0 c;
}))

-- no sign of the level follows
sound-stop : {n d : ℕ} {us : List ℕ} {a : Tree} {r : List ℕ} → Parses (suc n) us a → Shut d r → Loose (suc n) r → SoundMore n d us a r
sound-stop {n} {d} {us} {a} {r} p s l = record { tree = a; used = []; rest = r; more = still l; split = refl; reads = subst (λ (v : List ℕ). Parses (suc n) v a) (sym (append-nil us)) p; on = s; loose = l }

-- one does, of a level that groups to the left: an operand, and then more
sound-left : {n d : ℕ} {us : List ℕ} {a : Tree} {r : List ℕ} {ts : List ℕ} → rightward n ≡ false → r ≡ (12 + n) ∷ ts → (s : Sound n d ts)
    → SoundMore n d (us ++ ((12 + n) ∷ s.used)) (bin (12 + n) a s.tree) s.rest → SoundMore n d us a r
sound-left {n} {d} {us} {a} {r} {ts} f e s m = subst (λ (l : List ℕ). SoundMore n d us a l) (sym e) (record {
  tree = m.tree;
  used = (12 + n) ∷ (s.used ++ m.used);
  rest = m.rest;
  more = more_left f s.level m.more;
  split = ap (λ (l : List ℕ). (12 + n) ∷ l) (s.split ∙ ap (λ (l : List ℕ). s.used ++ l) m.split ∙ sym (append_assoc s.used m.used m.rest));
  reads = subst (λ (v : List ℕ). Parses (suc n) v m.tree) (append_assoc us ((12 + n) ∷ s.used) m.used) m.reads;
  on = m.on;
  loose = m.loose;
})

-- one does, of a level that groups to the right
sound-right : {n d : ℕ} {us : List ℕ} {a : Tree} {r : List ℕ} {ts : List ℕ} → rightward n ≡ true → Parses n us a → r ≡ (12 + n) ∷ ts → Sound (suc n) d ts → SoundMore n d us a r
sound-right {n} {d} {us} {a} {r} {ts} f p e s = subst (λ (l : List ℕ). SoundMore n d us a l) (sym e) (record {
  tree = bin (12 + n) a s.tree;
  used = (12 + n) ∷ s.used;
  rest = s.rest;
  more = more-right f s.level;
  split = ap (λ (l : List ℕ). (12 + n) ∷ l) s.split;
  reads = right f p s.reads;
  on = s.on;
  loose = s.loose;
})

sound-up : {n d : ℕ} {ts : List ℕ} (s : Sound n d ts) → SoundMore n d s.used s.tree s.rest → Sound (suc n) d ts
sound-up {n} {d} {ts} s m = record {
  tree = m.tree;
  used = s.used ++ m.used;
  rest = m.rest;
  level = level-up s.level m.more;
  split = s.split ∙ ap (λ (l : List ℕ). s.used ++ l) m.split ∙ sym (append_assoc s.used m.used m.rest);
  reads = m.reads;
  on = m.on;
  loose = m.loose;
}

length-of : {r : List ℕ} {x : ℕ} {ts : List ℕ} → r ≡ x ∷ ts → length r ≡ suc (length ts)
length-of e = ap (λ (l : List ℕ). length l) e

mutual
  sound : (k n d : ℕ) (ts : List ℕ) → n ≤ 6 → 16 * length ts + 2 * n + 2 ≤ k → Open d ts → Sound n d ts
  sound zero n d ts b h o = absurd (omega arith)
  sound (suc k) zero d [] b h o = elim o [ ]
  sound (suc k) zero d (x ∷ ts) b h (leaf-on l s) = sound-leaf l s
  sound (suc k) zero d (x ∷ ts) b h (prefix-on l u o) = sound-prefix l u (sound k 0 d ts (omega arith) (omega arith) o)
  sound (suc k) zero d (x ∷ ts) b h (open-on e o) = sound-round e (sound k 6 (suc d) ts (omega arith) (omega arith) o)
  sound (suc k) (suc n) d ts b h o = let s = sound k n d ts (omega arith) (omega arith) o in sound-up s (after k n d (rightward n) refl s.used s.tree s.rest (omega arith) s.reads s.on s.loose (omega (arith, s.level.shorter)))

  after : (k n d : ℕ) (g : Bool) → rightward n ≡ g → (us : List ℕ) (a : Tree) (r : List ℕ) → n < 6 → Parses n us a → Shut d r → Loose n r → 16 * length r + 2 * n + 3 ≤ k → SoundMore n d us a r
  after zero n d g f us a r b p s l h = absurd (omega arith)
  after (suc k) n d true f us a r b p s l h = stops-or (SoundMore n d us a r) s l (λ m. sound-stop (tighter p) s m)
      (λ ts e o. sound-right f p e (sound k (suc n) d ts (omega arith) (omega (arith, length-of e)) o))
  after (suc k) n d false f us a r b p s l h = onward k n d f us a r b (tighter p) s l (omega arith)

  onward : (k n d : ℕ) → rightward n ≡ false → (us : List ℕ) (a : Tree) (r : List ℕ) → n < 6 → Parses (suc n) us a → Shut d r → Loose n r → 16 * length r + 2 * n + 2 ≤ k → SoundMore n d us a r
  onward zero n d f us a r b p s l h = absurd (omega arith)
  onward (suc k) n d f us a r b p s l h = stops-or (SoundMore n d us a r) s l (λ m. sound-stop p s m)
      (λ ts e o. let t = sound k n d ts (omega arith) (omega (arith, length-of e)) o in
      sound-left f e t (onward k n d f (us ++ ((12 + n) ∷ t.used)) (bin (12 + n) a t.tree) t.rest b (left f p t.reads) t.on t.loose (omega (arith, length-of e, t.level.shorter))))

at-end : {r : List ℕ} → Shut 0 r → Loose 6 r → r ≡ []
at-end done l = refl
at-end (sign-on {n = m} e h o) l = absurd (let i = loose-sign m l e in omega arith)

-- tokens that follow one another as they may have a reading
pub reading : (ts : List ℕ) → Open 0 ts → (t : Tree) × Parses 6 ts t
reading ts o =
    let k : ℕ = 16 * length ts + 2 * 6 + 2 in
    let s = sound k 6 0 ts (le_refl 6) (le_refl k) o in
    (s.tree, subst (λ (l : List ℕ). Parses 6 l s.tree) (sym (s.split ∙ ap (λ (l : List ℕ). s.used ++ l) (at-end s.on s.loose) ∙ append-nil s.used)) s.reads)

-- and tokens with a reading follow one another so
opens : {n : ℕ} {us : List ℕ} {a : Tree} → Parses n us a → n ≤ 6 → (d : ℕ) (r : List ℕ) → Shut d r → Open d (us ++ r)
opens (atom h) b d r s = leaf-on h s
opens (prefix h u p) b d r s = prefix-on h u (opens p b d r s)
opens (brackets {ts} p) b d r s = open-on refl (subst (λ (l : List ℕ). Open (suc d) l) (sym (append_assoc ts (11 ∷ []) r)) (opens p (le_refl 6) (suc d) (11 ∷ r) (close-on refl s)))
opens (tighter p) b d r s = opens p (omega arith) d r s
opens (left {n} {us} {vs} f p q) b d r s = subst (λ (l : List ℕ). Open d l) (sym (append_assoc us ((12 + n) ∷ vs) r)) (opens p b d ((12 + n) ∷ (vs ++ r)) (sign-on {n = n} refl (omega arith) (opens q (omega arith) d r s)))
opens (right {n} {us} {vs} f p q) b d r s = subst (λ (l : List ℕ). Open d l) (sym (append_assoc us ((12 + n) ∷ vs) r)) (opens p (omega arith) d ((12 + n) ∷ (vs ++ r)) (sign-on {n = n} refl (omega arith) (opens q b d r s)))

pub follows : {us : List ℕ} {a : Tree} → Parses 6 us a → Open 0 us
follows {us} p = subst (λ (l : List ℕ). Open 0 l) (append-nil us) (opens p (le_refl 6) 0 [] done)
