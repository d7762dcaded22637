-- The first i of a list of nodes, valued at each label of a half: one node more, and all of them.
use mathlib.Core.Path.{◌≡◌, refl, sym, ap, ◌∙◌, subst}
use mathlib.Core.Bool.{Bool, true, false}
use mathlib.Core.List.{List, [], ◌∷◌, ◌++◌, map-append}
use Prim.Native.Nat.{ℕ, suc, ◌+◌, ◌-◌, ◌^◌, ◌≤◌, ◌<◌}
use native.Mathlib.Nat.{zero-add, suc-add}
use native.Mathlib.Numerals.{add-one}
use native.Mathlib.Omega.{arith}
use lib.ListN.{length, length-set, get_or, set, take, drop}
use lib.Seq.{take-suc, take-add, take-length}
use lib.Pow.{pow_mono}
use Rattle.meaning.specs.declared.Node.{Node}
use Rattle.ltl.specs.Sets.{on, put}
use Rattle.ltl.specs.Nodes.{Split, plain, temporal, split, splits, temporals}
use Rattle.ltl.specs.Valuation as ltl
use Rattle.ltl.specs.Valuation.{value, value_all, valued, none}
use Rattle.ltl.proofs.Sets.{put-lt, same_set}
use Rattle.ltl.proofs.Valuation.{sized-none, sized-all}
use Rattle.ltl.proofs.Labels.{valued-temporals}
use Rattle.valuation.specs.Valued.{RuleNodes, profile_at, fairs_at}
use Rattle.node_words.specs.Words.{label_of}
use Rattle.valuation.specs.Columns.{Planes, Held, Advanced, Byte}
use Rattle.valuation.specs.declared.Columns.{Columns}
use Rattle.valuation.specs.Entries.{Entries}
use Rattle.valuation.proofs.Entries.{entries-more, entries-to}
use Rattle.valuation.proofs.Held.{planes-put, held_same}

value-snoc : (e y : ℕ) (s : ltl.Valued) (ns : List Split) (n : Split) → value_all e y s (ns ++ (n ∷ [])) ≡ value e y (value_all e y s ns) n
value-snoc e y s [] n = refl
value-snoc e y s (m ∷ ns) n = value-snoc e y (value e y s m) ns n

temporals-append : (ns ms : List Split) → temporals (ns ++ ms) ≡ temporals ns + temporals ms
temporals-append [] ms = sym (zero-add (temporals ms))
temporals-append (plain p ∷ ns) ms = temporals-append ns ms
temporals-append (temporal t ∷ ns) ms = ap suc (temporals-append ns ms) ∙ sym (suc-add (temporals ns) (temporals ms))

module _ (nodes : List Node) where
  splits-suc : (i : ℕ) (d : Node) → i < length nodes → splits (take (suc i) nodes) ≡ splits (take i nodes) ++ (split (get_or nodes i d) ∷ [])
  splits-suc i d h = ap splits (take-suc nodes i d h) ∙ map-append split (take i nodes) (get_or nodes i d ∷ [])

  temporals-mono : (i j : ℕ) → i ≤ j → temporals (splits (take i nodes)) ≤ temporals (splits (take j nodes))
  temporals-mono i j h =
      let e : temporals (splits (take (i + (j - i)) nodes)) ≡ temporals (splits (take i nodes)) + temporals (splits (take (j - i) (drop i nodes))) =
      ap (λ (l : List Node). temporals (splits l)) (take-add i (j - i) nodes)
      ∙ ap temporals (map-append split (take i nodes) (take (j - i) (drop i nodes)))
      ∙ temporals-append (splits (take i nodes)) (splits (take (j - i) (drop i nodes))) in
      let k : i + (j - i) ≡ j = omega arith in
      omega (arith, e, ap (λ (n : ℕ). temporals (splits (take n nodes))) k)

-- the columns hold the first i nodes, valued
pub record Prefix (e : ℕ) (high : Bool) (nodes : List Node) (i : ℕ) (c : Columns) : Type 0 where
  pub long : length c.label ≡ 8
  pub held : Held i (λ l. valued e (label_of high l) (splits (take i nodes))) c

pub prefix-none : {e : ℕ} {high : Bool} {nodes : List Node} (c : Columns) → length c.label ≡ 8 → Held 0 (λ l. none) c → Prefix e high nodes 0 c
prefix-none c l h = record { long = l; held = h }

module _ {e : ℕ} {high : Bool} {nodes : List Node} {i : ℕ} {c : Columns} (h : Prefix e high nodes i c) where
  pub prefix-temporals : c.temporals ≡ temporals (splits (take i nodes))
  prefix-temporals = sym (h.held.state 0).temporals ∙ valued-temporals e (label_of high 0) (splits (take i nodes))

  pub prefix-room : (d : Node) → i < length nodes → temporals (splits nodes) ≤ 7 → c.temporals + temporals (split (get_or nodes i d) ∷ []) ≤ 7
  prefix-room d l t =
      let a : temporals (splits (take (suc i) nodes)) ≡ temporals (splits (take i nodes)) + temporals (split (get_or nodes i d) ∷ []) =
      ap temporals (splits-suc nodes i d l) ∙ temporals-append (splits (take i nodes)) (split (get_or nodes i d) ∷ []) in
      let b : take (length nodes) nodes ≡ nodes = take-length nodes in
      omega (arith, prefix-temporals, a, temporals-mono nodes (suc i) (length nodes) l, ap (λ (ns : List Node). temporals (splits ns)) b)

  pub prefix-more : (d : Node) {new : Columns} → i < length nodes → Advanced e high i (get_or nodes i d) c new → Prefix e high nodes (i + 1) new
  prefix-more d l more =
      record {
        long = more.long ∙ h.long;
        held = held_same
            (λ y. sym (value-snoc e (label_of high y) none (splits (take i nodes)) (split (get_or nodes i d)))
            ∙ ap (valued e (label_of high y)) (sym (splits-suc nodes i d l) ∙ ap (λ (n : ℕ). splits (take n nodes)) (sym (add-one i)))) (more.next _ h.held);
      }

-- all nodes, valued
pub record Whole (e : ℕ) (high : Bool) (nodes : List Node) (c : Columns) : Type 0 where
  pub long : length c.label ≡ 8
  pub held : Held (length nodes) (λ l. valued e (label_of high l) (splits nodes)) c

pub prefix-to : {e : ℕ} {high : Bool} {nodes : List Node} {i : ℕ} {c : Columns} → Prefix e high nodes i c → i ≡ length nodes → Whole e high nodes c
prefix-to {e} {high} {nodes} {i} {c} h q =
    record {
      long = h.long;
      held = subst (λ (ns : List Node). Held (length nodes) (λ l. valued e (label_of high l) (splits ns)) c) (take-length nodes)
          (subst (λ (k : ℕ). Held k (λ l. valued e (label_of high l) (splits (take k nodes))) c) q h.held);
    }

module _ {e : ℕ} {high : Bool} {nodes : List Node} {c : Columns} (h : Whole e high nodes c) where
  pub whole-temporals : c.temporals ≡ temporals (splits nodes)
  whole-temporals = sym (h.held.state 0).temporals ∙ valued-temporals e (label_of high 0) (splits nodes)

  -- the place on top of the label is within the columns
  pub whole-room : RuleNodes nodes → {k : ℕ} → k ≡ c.temporals → k < 8
  whole-room v p = omega (arith, p, whole-temporals, v.temporal)

  abbrev s : ℕ → ltl.Valued
  s l = valued e (label_of high l) (splits nodes)

  -- the value of the last node on top of the label
  pub whole-profiles : RuleNodes nodes → {k j : ℕ} → k ≡ c.temporals → j ≡ length nodes - 1 → Planes (λ l. profile_at nodes e (label_of high l)) (set c.label k (get_or c.values j 0))
  whole-profiles v p q =
      rw (p, q) (planes-put c.temporals (get_or c.values (length nodes - 1) 0) (λ l. (s l).temporals) (λ l. (h.held.state l).temporals) (λ l. on (s l).values ((s l).count - 1)) c.label (omega (arith, h.long, whole-room v refl)) (λ l. (h.held.state l).label)
      (λ l q. h.held.of_values.plane l (length nodes - 1) q ∙ ap (λ (k : ℕ). on (s l).values (k - 1)) (sym (h.held.state l).count)) h.held.of_label)

-- ---- bytes

profile-fits : (k : ℕ) (b : Bool) (A : ℕ) → k ≤ 7 → A < 2 ^ k → put k b A < 256
profile-fits k b A h l = omega (arith, put-lt k b A l, pow_mono {i = suc k} {j = 8} (omega arith))

module _ {nodes : List Node} (v : RuleNodes nodes) (e y : ℕ) where
  few : (valued e y (splits nodes)).temporals ≤ 7
  few = omega (arith, valued-temporals e y (splits nodes), v.temporal)

  pub profile-size : profile_at nodes e y < 256
  profile-size = profile-fits (valued e y (splits nodes)).temporals (on (valued e y (splits nodes)).values ((valued e y (splits nodes)).count - 1)) (valued e y (splits nodes)).label few (sized-all e y sized-none (splits nodes)).label-lt

  pub fairs-size : fairs_at nodes e y < 256
  fairs-size = omega (arith, (sized-all e y sized-none (splits nodes)).fairs-lt, few, pow_mono {i = (valued e y (splits nodes)).temporals} {j = 7} few)

label_at : (high : Bool) (from y : ℕ) → from ≡ label_of high 0 → from ≤ y → label_of high (y - from) ≡ y
label_at true from y q h = omega arith
label_at false from y q h = omega arith

-- the byte at a label of the half
byte-is : (high : Bool) (from y : ℕ) (f : ℕ → ℕ) (columns : List ℕ) (r : ℕ) → from ≡ label_of high 0 → from ≤ y → y - from < 64
    → Planes (λ l. f (label_of high l)) columns → Byte 8 columns (y - from) r → f y < 256 → r ≡ f y
byte-is high from y f columns r q h k p b z =
    let a : f (label_of high (y - from)) ≡ f y = ap f (label_at high from y q h) in
    same_set 8 r (f y) b.size z (λ j l. b.bits j l ∙ p.plane (y - from) j k ∙ ap (λ (t : ℕ). on t j) a)

-- the entries from the half's first label to y are the bytes of the columns, and those before stay
pub record Fills (high : Bool) (from y : ℕ) (columns old new : List ℕ) : Type 0 where
  pub long : length new ≡ 128
  pub fill : (f : ℕ → ℕ) → ((z : ℕ) → f z < 256) → Planes (λ l. f (label_of high l)) columns → Entries from f 0 old → Entries y f 0 new

pub fills-none : {high : Bool} {from : ℕ} {columns old : List ℕ} → length old ≡ 128 → Fills high from from columns old old
fills-none l = record { long = l; fill = λ f z p h. h }

pub fills-more : {high : Bool} {from y : ℕ} {columns old new : List ℕ} → Fills high from y columns old new → {r : ℕ} → Byte 8 columns (y - from) r → from ≡ label_of high 0
    → from ≤ y → y - from < 64 → y < 128 → Fills high from (y + 1) columns old (set new y r)
fills-more {high} {from} {y} {columns} {new = new} h {r} b q k m l = record {
  long = length-set new y r ∙ h.long;
  fill = λ f z p e. entries-more (h.fill f z p e) (byte-is high from y f columns r q k m p b (z y)) (omega (arith, h.long));
}

pub fills-to : {high : Bool} {from y : ℕ} {columns old new : List ℕ} → Fills high from y columns old new → (f : ℕ → ℕ) → ((z : ℕ) → f z < 256)
    → Planes (λ l. f (label_of high l)) columns → from ≡ label_of high 0 → Entries (label_of high 0) f 0 old → {to : ℕ} → y ≡ to → Entries to f 0 new
fills-to {old = old} h f z p q e t = entries-to (h.fill f z p (subst (λ (n : ℕ). Entries n f 0 old) (sym q) e)) _ t
