-- The first phase: what is required of what is In.
use Rattle.std.proofs.Common.{◌≡◌, ℕ, Bool, true, false, List, length, refl, arith, suc, zero, ◌<◌, ◌≤◌, ◌^◌, inl, inr, ap, subst, ◌∙◌, ◌≢◌}
use Rattle.std.specs.Prelude.{pos, negsuc, ◌+ℤ◌, ◌≤ℤ◌, slice_index, ◌⊎◌, None}
use Rattle.std.proofs.lemmas.Int.{ints}
use Rattle.std.proofs.lemmas.Bool.{cases_eq, cases_Bool}
use lib.IntN.{ℤ}
use Rattle.offer_model.specs.declared.node.Mark.{Mark}
use Rattle.offer_model.specs.declared.node.Mark.TheVariants.{In, Out, Open}
use Rattle.offer_model.specs.Nodes.{mark_at, Agrees}
use Rattle.cut_step.specs.declared.rows.Row.{Row}
use Rattle.cut_step.specs.declared.phase.Phase.{Phase}
use Rattle.cut_step.specs.declared.phase.Phase.TheVariants.{Forced}
use Rattle.cut_step.specs.declared.reach.Entry.{Entry}
use Rattle.cut_step.specs.declared.reach.Spot.{Spot}
use Rattle.cut_step.specs.declared.reach.Spot.TheVariants.{Free, Kept, At}
use Rattle.cut_step.specs.Closures.{first_of, second_of, IsClosure, price_at}
use Rattle.cut_step.specs.Flows.{source_of, target_of}
use Rattle.cut_step.specs.Trees.{entry_at, product_of, before, over, cap, IsTree, Unused, Pushed}
use Rattle.cut_step.specs.Searches.{spot_at, is_seen, seen, supply_of, takes, deficit_of, IsSearched, Ended}
use Rattle.cut_step.specs.Phases.{IsKeeping, Falls, NoneBack, Covered}
use Rattle.cut_step.specs.Phases.Falls.{from_in}
use Rattle.cut_step.proofs.FallLemmas.{at_cases, in_open, falls, flows_on}
use Rattle.cut_step.proofs.StartLemmas.{supply_in, supply_from_in, spot_cases, used_ends}

-- Without amounts no place of the tree leads back.
pub none_back : (rows : List Row) (node : List Mark) (phase : Phase) (f : List ℕ) (r : List ℤ) (spots : List Spot) (tree : List Entry)
    → IsSearched rows node phase f r spots tree → ((k : ℕ) → slice_index f k ≡ 0) → NoneBack tree
none_back rows node phase f r spots tree s z = λ j l b. forward (entry_at tree j).back (slice_index f (over tree j)) (cap tree j) ((s.well.step j l b).room) (s.some j l) (z (over tree j))
  where
    forward : (b : Bool) (f c : ℕ) → (b ≡ true → c ≤ f) → 0 < c → f ≡ 0 → b ≡ false
    forward false f c h s e = refl
    forward true f c h s e = let x = h refl in absurd (omega arith)

-- A tree without a row that leads back is a tree whatever the amounts.
pub tree_forward : (rows : List Row) (n : ℕ) (f f' : List ℕ) (tree : List Entry) → IsTree rows n f tree → NoneBack tree → IsTree rows n f' tree
tree_forward rows n f f' tree t none = record {
  below = t.below;
  named = t.named;
  apart = t.apart;
  step = λ j l b. let s = t.step j l b in let ahead = none j l b in
      record { row = s.row; source = s.source; target = s.target; narrows = s.narrows; holds = s.holds; room = λ q. cc };
}

-- What holds at the roots and is handed on holds everywhere.
pub down : (P : Entry → Type 0) (rows : List Row) (n : ℕ) (f : List ℕ) (tree : List Entry) → IsTree rows n f tree
    → ((j : ℕ) → j < length tree → before tree j ≡ j → P (entry_at tree j))
    → ((j : ℕ) → j < length tree → before tree j < j → P (entry_at tree (before tree j)) → P (entry_at tree j))
    → (j : ℕ) → j < length tree → P (entry_at tree j)
down P rows n f tree t root step j l = go (suc j) j (omega arith) l
  where
    go : (m j : ℕ) → j < m → j < length tree → P (entry_at tree j)
    go zero j h l = absurd (omega arith)
    go (suc m) j h l = elim (cases_eq (before tree j) j) as (λ v. P (entry_at tree j)) [
      | inl e ↦ root j l e
      | inr ne ↦ let b = t.below j l in let less : before tree j < j = omega (arith, b, ne) in step j l less (go m (before tree j) (omega arith) (omega arith))
    ]

-- To each entry of the first tree as much can be carried as an In product gives.
pub full_caps : (rows : List Row) (node : List Mark) (f : List ℕ) (r : List ℤ) (spots : List Spot) (tree : List Entry)
    → IsSearched rows node Forced f r spots tree → NoneBack tree → (j : ℕ) → j < length tree → 2 ^ 109 ≤ cap tree j
full_caps rows node f r spots tree s none = down (λ x. 2 ^ 109 ≤ x.cap) rows (length spots) f tree s.well
    (λ j l b. let c = s.root j l b in let some = s.some j l in
    let i = supply_in (mark_at node (product_of tree j)) (price_at r (product_of tree j)) (subst (λ (x : ℕ). 0 < x) c some) in
    let full : supply_of Forced (mark_at node (product_of tree j)) (price_at r (product_of tree j)) ≡ 2 ^ 109 = ap (λ (m : Mark). supply_of Forced m (price_at r (product_of tree j))) i in
    omega (arith, c, full))
    (λ j l b h. let s = s.well.step j l b in let k = s.holds (none j l b) in omega (arith, k, h))

-- The roots of the first phase are In.
pub roots_in : (rows : List Row) (node : List Mark) (f : List ℕ) (r : List ℤ) (spots : List Spot) (tree : List Entry)
    → IsSearched rows node Forced f r spots tree → (j : ℕ) → j < length tree → before tree j ≡ j → mark_at node (product_of tree j) ≡ In
roots_in rows node f r spots tree s j l b = supply_in (mark_at node (product_of tree j)) (price_at r (product_of tree j)) (subst (λ (x : ℕ). 0 < x) (s.root j l b) (s.some j l))

-- A feasible completion offers all that In leads to.
pub reached : (rows : List Row) (node : List Mark) (f : List ℕ) (r : List ℤ) (spots : List Spot) (tree : List Entry) (y : ℕ → Bool)
    → IsSearched rows node Forced f r spots tree → NoneBack tree → length spots ≡ length node → IsClosure rows node y → (j : ℕ) → j < length tree → y (product_of tree j) ≡ true
reached rows node f r spots tree y s none e h = down (λ x. y x.product ≡ true) rows (length spots) f tree s.well
    (λ j l b. let n = s.well.named j l in agrees_in (mark_at node (product_of tree j)) (y (product_of tree j)) (roots_in rows node f r spots tree s j l b) (h.agrees (product_of tree j) (omega (arith, e, n))))
    (λ j l b was. let s = s.well.step j l b in
    let ahead = none j l b in
    let from : first_of rows (over tree j) ≡ product_of tree (before tree j) = subst (λ (b : Bool). source_of rows (over tree j) b ≡ product_of tree (before tree j)) ahead s.source in
    let to : second_of rows (over tree j) ≡ product_of tree j = subst (λ (b : Bool). target_of rows (over tree j) b ≡ product_of tree j) ahead s.target in
    subst (λ (x : ℕ). y x ≡ true) to (h.keeps (over tree j) s.row (ap y from ∙ was)))
  where
    agrees_in : (m : Mark) (b : Bool) → m ≡ In → Agrees m b → b ≡ true
    agrees_in m b e a = subst (λ (m : Mark). Agrees m b) e a

-- No truth value is both.
pub true_false : (b : Bool) → b ≡ true → b ≡ false → ⊥
true_false b p q = cc

-- What is free stands at no place.
pub free_at : (s : Spot) (p : ℕ) → s ≡ Free → s ≡ At p → ⊥
free_at s p a b = cc

-- What is free isn't kept.
pub free_kept : (s : Spot) → s ≡ Free → s ≡ Kept → ⊥
free_kept s a b = cc

-- What is Out takes in either phase.
pub takes_out : (phase : Phase) (m : Mark) (z : ℤ) → m ≡ Out → takes phase m z ≡ true
takes_out phase m z e = rw e refl

-- What the first phase reached is kept.
pub at_end : (rows : List Row) (node : List Mark) (f f' : List ℕ) (r r' : List ℤ) (spots0 spots spots' : List Spot) (tree0 tree : List Entry)
    → Ended rows node Forced f r spots0 tree0 spots tree None → length spots ≡ length spots0 → ((i : ℕ) → spot_at spots0 i ≡ Free)
    → ((j : ℕ) → j < length tree → mark_at node (product_of tree j) ≡ Open → pos 0 ≤ℤ price_at r' (product_of tree j))
    → ((k : ℕ) → Unused tree k → slice_index f' k ≡ 0)
    → length spots' ≡ length spots
    → ((i : ℕ) → seen spots i ≡ true → spot_at spots' i ≡ Kept) → ((i : ℕ) → spot_at spots' i ≡ Kept → seen spots i ≡ true) → ((i p : ℕ) → spot_at spots' i ≡ At p → ⊥)
    → IsKeeping rows node r' f' spots'
at_end rows node f f' r r' spots0 spots spots' tree0 tree e len0 free has unused len keep kept none = record {
  in_kept = λ i l m. keep i (e.roots i (omega arith) (supply_from_in (mark_at node i) (price_at r i) m));
  out_not = λ i k m. let p = place i (kept i k) in
      true_false (takes Forced (mark_at node i) (price_at r i)) (takes_out Forced (mark_at node i) (price_at r i) m)
      (subst (λ (x : ℕ). takes Forced (mark_at node x) (price_at r x) ≡ false) p.2 (e.told p.0 p.1));
  open_has = λ i k m. let p = place i (kept i k) in
      subst (λ (x : ℕ). pos 0 ≤ℤ price_at r' x) p.2 (has p.0 p.1 (ap (mark_at node) p.2 ∙ m));
  on = λ k l h. keep (second_of rows k) ((e.shut refl k l).on (kept (first_of rows k) h));
  back = λ k l some h. elim (cases_Bool (seen spots (first_of rows k))) as (λ v. spot_at spots' (first_of rows k) ≡ Kept) [
    | inl s ↦ keep (first_of rows k) s
    | inr s ↦ let z = unused k (λ j lj b q. let ends = used_ends rows node Forced f r spots tree j e.searched lj b in
        true_false (seen spots (first_of rows k)) (subst (λ (x : ℕ). seen spots (first_of rows x) ≡ true) q (ap is_seen ends.0.1)) s) in absurd (omega arith)
  ];
  none = none;
}
  where
    place : (i : ℕ) → seen spots i ≡ true → (p : ℕ) × (p < length tree) × (product_of tree p ≡ i)
    place i h = elim (spot_cases (spot_at spots i)) as (λ v. (p : ℕ) × (p < length tree) × (product_of tree p ≡ i)) [
      | inl x ↦ absurd (true_false (seen spots i) h (ap is_seen x))
      | inr (inl x) ↦ absurd (free_kept (spot_at spots0 i) (free i) (e.grown.was_kept i x))
      | inr (inr x) ↦ let t = e.searched.there i x.0 x.1 in (x.0, t.0, t.1)
    ]

-- ---- One supply.

-- A product with a deficit is Open, and the deficit makes its excess 0.
pub deficit_some : (m : Mark) (z : ℤ) (d : ℕ) → d ≡ deficit_of m z → 0 < d → (m ≡ Open) × ((z +ℤ pos d) ≡ pos 0)
deficit_some In z d e h = absurd (omega arith)
deficit_some Out z d e h = absurd (omega arith)
deficit_some Open (pos n) d e h = absurd (omega arith)
deficit_some Open (negsuc n) d e h = (refl, omega (arith, ints, e))

deficit_none : (m : Mark) (z : ℤ) → deficit_of m z ≡ 0 → m ≡ Open → pos 0 ≤ℤ z
deficit_none In z e h = cc
deficit_none Out z e h = cc
deficit_none Open (pos n) e h = omega (arith, ints)
deficit_none Open (negsuc n) e h = absurd (omega arith)

-- Where nothing is lacking, nothing has to be carried.
pub supplied_none : (rows : List Row) (node : List Mark) (r : List ℤ) (f : List ℕ) (tree : List Entry) (place : ℕ) → deficit_of (mark_at node (product_of tree place)) (price_at r (product_of tree place)) ≡ 0
    → Covered rows node r f tree place r f
supplied_none rows node r f tree place e = record {
  flowing = λ w g. g;
  here = deficit_none (mark_at node (product_of tree place)) (price_at r (product_of tree place)) e;
  has = λ i m h. h;
  unused = λ k u. refl;
}

-- An In product gives what was lacking.
pub covered_some : (rows : List Row) (node : List Mark) (r r' : List ℤ) (f f' : List ℕ) (tree : List Entry) (place top d : ℕ)
    → IsTree rows (length r) f tree → place < length tree → d ≡ deficit_of (mark_at node (product_of tree place)) (price_at r (product_of tree place)) → 0 < d → mark_at node (product_of tree top) ≡ In
    → Pushed rows tree place d f r top f' r' → Covered rows node r f tree place r' f'
covered_some rows node r r' f f' tree place top d t l e some ms p =
    let lt : top < length tree = omega (arith, p.above) in
    let lack = deficit_some (mark_at node (product_of tree place)) (price_at r (product_of tree place)) d e some in
    let fall : Falls node r (product_of tree top) (product_of tree place) d = from_in ms lack.0 (omega (arith, ints, lack.1)) in
    record {
      flowing = λ w g.
          let a = t.named top lt in let b = t.named place l in let same = g.excess_each in
          flows_on rows node w r r' f f' tree place top d g p
          (falls node (length w) r r' (product_of tree top) (product_of tree place) d (omega arith) (omega arith) some p.carried fall);
      here = λ m. elim (rises (product_of tree place) m) as (λ v. pos 0 ≤ℤ price_at r' (product_of tree place))
          [ inl x ↦ absurd (x.0 refl) | inr x ↦ omega (arith, ints, x, lack.1) ];
      has = λ i m h. elim (rises i m) as (λ v. pos 0 ≤ℤ price_at r' i) [ inl x ↦ omega (arith, ints, x.1, h) | inr x ↦ omega (arith, ints, x, h) ];
      unused = p.unused;
    }
  where
    rises : (i : ℕ) → mark_at node i ≡ Open → ((i ≢ product_of tree place) × (price_at r' i ≡ price_at r i)) ⊎ (price_at r' i ≡ price_at r i +ℤ pos d)
    rises i m = elim (at_cases i (product_of tree top) (product_of tree place) d (price_at r i) (price_at r' i) (p.carried.is i))
        as (λ v. ((i ≢ product_of tree place) × (price_at r' i ≡ price_at r i)) ⊎ (price_at r' i ≡ price_at r i +ℤ pos d)) [
          | inl x ↦ absurd (in_open (mark_at node i) (ap (mark_at node) x.0 ∙ ms) m)
          | inr (inl x) ↦ absurd (in_open (mark_at node i) (ap (mark_at node) x.0 ∙ ms) m)
          | inr (inr (inl x)) ↦ inr x.2
          | inr (inr (inr x)) ↦ inl (x.1, x.2)
        ]
