-- A search tree with one more entry.
use Rattle.std.proofs.Common.{◌≡◌, ℕ, Bool, true, false, cond, List, [], ◌∷◌, ◌++◌, length, refl, arith, ◌<◌, ◌≤◌, ◌+◌, ◌-◌, set, eqb, inl, inr, ap, sym, subst, ◌∙◌, ◌≢◌, get_or-set_other, get_or-set_same, length-set, length-append, below_more}
use Rattle.std.specs.Prelude.{pos, negsuc, slice_index, ◌⊎◌, None}
use Rattle.std.proofs.lemmas.Bool.{cases_eq}
use Rattle.std.proofs.lemmas.Bool.Decides.{eqb_tells}
use lib.IntN.{ℤ}
use Rattle.std.proofs.lemmas.List.{get_or_append_left, get_or_push}
use Rattle.offer_model.specs.declared.node.Mark.{Mark}
use Rattle.offer_model.specs.declared.node.Mark.TheVariants.{In, Out, Open}
use Rattle.offer_model.specs.Nodes.{mark_at}
use Rattle.offer_model.proofs.SumLemmas.{sum_below-zeros}
use Rattle.cut_step.specs.declared.rows.Row.{Row}
use Rattle.cut_step.specs.declared.phase.Phase.{Phase}
use Rattle.cut_step.specs.declared.phase.Phase.TheVariants.{Forced, Funded}
use Rattle.cut_step.specs.declared.reach.Entry.{Entry}
use Rattle.cut_step.specs.declared.reach.Spot.{Spot}
use Rattle.cut_step.specs.declared.reach.Spot.TheVariants.{Free, Kept, At}
use Rattle.cut_step.specs.Closures.{first_of, second_of, AreNamed, price_at}
use Rattle.cut_step.specs.Flows.{at, source_of, target_of}
use Rattle.cut_step.specs.Trees.{entry_at, product_of, before, over, cap, Leads, IsTree}
use Rattle.cut_step.specs.Searches.{spot_at, is_seen, seen, unseen, supply_of, takes, ShutAt, IsSpent, IsSearched, Grown, NoneTakes, Tried, Looked, Rooted}
use Rattle.cut_step.proofs.TotalLemmas.{sum_less}

-- What holds below n and at n holds below n + 1.
pub by_last : (P : ℕ → Type 0) (n m : ℕ) → m ≡ n + 1 → ((j : ℕ) → j < n → P j) → P n → (j : ℕ) → j < m → P j
by_last P n m e old new j l = below_more P n old new j (omega arith)

ends : (rows : List Row) (k : ℕ) (b c : Bool) → (target_of rows k b ≡ target_of rows k c) ⊎ (target_of rows k b ≡ source_of rows k c)
ends rows k true true = inl refl
ends rows k true false = inr refl
ends rows k false true = inr refl
ends rows k false false = inl refl

fewer_here : (i c : ℕ) (a b : Bool) → (i ≡ c → (a ≡ true) × (b ≡ false)) → (i ≢ c → a ≡ b) → cond a 0 1 + cond (eqb i c) 1 0 ≤ cond b 0 1
fewer_here i c a b h g = elim (eqb_tells i c) as (λ v. cond a 0 1 + cond (eqb i c) 1 0 ≤ cond b 0 1) [
  | inl t ↦ let both = h t.1 in rw (t.0, both.0, both.1) (omega arith)
  | inr f ↦ let same = g f.1 in rw (f.0, same) (omega arith)
]

-- An entry that may be put at the end of a tree.
pub record Joins (rows : List Row) (node : List Mark) (phase : Phase) (f : List ℕ) (r : List ℤ) (tree : List Entry) (e : Entry) : Type 0 where
  pub below : e.from ≤ length tree
  pub some : 0 < e.cap
  pub root : e.from ≡ length tree → e.cap ≡ supply_of phase (mark_at node e.product) (price_at r e.product)
  pub step : e.from < length tree → Leads rows f e (entry_at tree e.from)

module _ (rows : List Row) (node : List Mark) (phase : Phase) (f : List ℕ) (r : List ℤ) (spots spots' : List Spot) (tree tree' : List Entry) (e : Entry)
    (s : IsSearched rows node phase f r spots tree) (inside : e.product < length spots) (free : spot_at spots e.product ≡ Free)
    (j : Joins rows node phase f r tree e) (tree_is : tree' ≡ tree ++ e ∷ []) (spots_is : spots' ≡ set spots e.product (At (length tree))) where
  len : length tree' ≡ length tree + 1
  len = rw tree_is (simp length-append (omega arith))

  old : (i : ℕ) → i < length tree → entry_at tree' i ≡ entry_at tree i
  old i l = rw tree_is (get_or_append_left tree (e ∷ []) _ i l)

  new : entry_at tree' (length tree) ≡ e
  new = rw tree_is (get_or_push tree e _ (length tree) refl)

  off : (i : ℕ) → i ≢ e.product → spot_at spots' i ≡ spot_at spots i
  off i n = rw spots_is (rw get_or-set_other refl)

  on : spot_at spots' e.product ≡ At (length tree)
  on = rw spots_is (rw get_or-set_same refl)

  not_who : (i : ℕ) (v : Spot) → spot_at spots i ≡ v → v ≢ Free → i ≢ e.product
  not_who i v h n q = n (sym h ∙ subst (λ (x : ℕ). spot_at spots x ≡ Free) (sym q) free)

  at_free : (p : ℕ) → At p ≢ Free
  at_free p q = cc

  kept_free : Kept ≢ Free
  kept_free q = cc

  kept_same : (i : ℕ) → spot_at spots i ≡ Kept → spot_at spots' i ≡ Kept
  kept_same i h = off i (not_who i Kept h kept_free) ∙ h

  kept_was : (i : ℕ) → spot_at spots' i ≡ Kept → spot_at spots i ≡ Kept
  kept_was i h = elim (cases_eq i e.product) as (λ v. spot_at spots i ≡ Kept)
      [ inl q ↦ let here : spot_at spots' i ≡ At (length tree) = rw q on in cc | inr n ↦ sym (off i n) ∙ h ]

  apart_new : (i : ℕ) → i < length tree → before tree i < i → e.from < length tree → over tree i ≢ e.row
  apart_new i l b lf q =
      let si = s.well.step i l b in
      let se = j.step lf in
      elim (ends rows e.row e.back (entry_at tree i).back) as (λ v. ⊥) [
        | inl x ↦ let same : e.product ≡ product_of tree i = sym se.target ∙ x ∙ subst (λ (k : ℕ). target_of rows k (entry_at tree i).back ≡ product_of tree i) q si.target in
            not_who (product_of tree i) (At i) (s.placed i l) (at_free i) (sym same)
        | inr x ↦ let same : e.product ≡ product_of tree (before tree i) = sym se.target ∙ x ∙ subst (λ (k : ℕ). source_of rows k (entry_at tree i).back ≡ product_of tree (before tree i)) q si.source in
            not_who (product_of tree (before tree i)) (At (before tree i)) (s.placed (before tree i) (omega arith)) (at_free (before tree i)) (sym same)
      ]

  -- What holds of each entry and of the new one holds of all.
  each : (P : ℕ → Entry → Type 0) → ((i : ℕ) → i < length tree → P i (entry_at tree i)) → P (length tree) e → (i : ℕ) → i < length tree' → P i (entry_at tree' i)
  each P was here = by_last (λ i. P i (entry_at tree' i)) (length tree) (length tree') len
      (λ i l. subst (λ (x : Entry). P i x) (sym (old i l)) (was i l)) (subst (λ (x : Entry). P (length tree) x) (sym new) here)

  spots_each : length spots' ≡ length spots
  spots_each = rw spots_is (simp length-set refl)

  seen_more : (i : ℕ) → seen spots i ≡ true → seen spots' i ≡ true
  seen_more i h = elim (cases_eq i e.product) as (λ v. seen spots' i ≡ true)
      [ inl q ↦ subst (λ (x : ℕ). seen spots' x ≡ true) (sym q) (ap is_seen on) | inr n ↦ ap is_seen (off i n) ∙ h ]

  grown_well : IsTree rows (length spots') f tree'
  grown_well = record {
    below = each (λ i x. x.from ≤ i) s.well.below j.below;
    named = each (λ i x. x.product < length spots') (λ i l. let h = s.well.named i l in omega (arith, spots_each, h)) (omega (arith, spots_each, inside));
    step = each (λ i x. x.from < i → Leads rows f x (entry_at tree' x.from))
        (λ i l b. subst (λ (y : Entry). Leads rows f (entry_at tree i) y) (sym (old (before tree i) (omega arith))) (s.well.step i l b))
        (λ b. subst (λ (y : Entry). Leads rows f e y) (sym (old e.from b)) (j.step b));
    apart = λ i k lik lk. each (λ k x. i < k → before tree' i < i → x.from < k → over tree' i ≢ x.row)
        (λ k l lik. subst (λ (y : Entry). y.from < i → before tree k < k → y.row ≢ over tree k) (sym (old i (omega arith))) (s.well.apart i k lik l))
        (λ lik. subst (λ (y : Entry). y.from < i → e.from < length tree → y.row ≢ e.row) (sym (old i lik)) (λ bi be. apart_new i lik bi be)) k lk lik;
  }

  grown_grown : Grown spots tree spots' tree'
  grown_grown = record {
    each = spots_each;
    longer = omega (arith, len);
    front = old;
    more = seen_more;
    kept = kept_same;
    was_kept = kept_was;
    count =
        let less = sum_less (length spots) (λ i. cond (seen spots' i) 0 1) (λ i. cond (seen spots i) 0 1) e.product 1 inside
        (λ i l. fewer_here i e.product (seen spots' i) (seen spots i)
        (λ q. (subst (λ (x : ℕ). seen spots' x ≡ true) (sym q) (ap is_seen on), subst (λ (x : ℕ). seen spots x ≡ false) (sym q) (ap is_seen free)))
        (λ n. ap is_seen (off i n))) in
        omega (arith, less, len);
  }

  grown_searched : IsSearched rows node phase f r spots' tree'
  grown_searched = record {
    well = grown_well;
    placed = each (λ i x. spot_at spots' x.product ≡ At i)
        (λ i l. off (product_of tree i) (not_who (product_of tree i) (At i) (s.placed i l) (at_free i)) ∙ s.placed i l) on;
    there = λ i p h. elim (cases_eq i e.product) as (λ v. (p < length tree') × (product_of tree' p ≡ i)) [
      | inl q ↦ let same : At (length tree) ≡ At p = sym on ∙ subst (λ (x : ℕ). spot_at spots' x ≡ At p) q h in
          let place : p ≡ length tree = cc in
          (omega (arith, len, place), subst (λ (x : ℕ). product_of tree' x ≡ i) (sym place) (ap (λ (x : Entry). x.product) new ∙ sym q))
      | inr n ↦ let was = s.there i p (sym (off i n) ∙ h) in
          (omega (arith, len, was.0), ap (λ (x : Entry). x.product) (old p was.0) ∙ was.1)
    ];
    fewer = let n = grown_grown.count in let b = s.fewer in
        let same = ap (λ (n : ℕ). unseen n spots') spots_each in
        omega (arith, n, b, same, spots_each);
    root = each (λ i x. x.from ≡ i → x.cap ≡ supply_of phase (mark_at node x.product) (price_at r x.product)) s.root j.root;
    some = each (λ i x. 0 < x.cap) s.some j.some;
    kept_on = λ k l h. kept_same (second_of rows k) (s.kept_on k l (kept_was (first_of rows k) h));
    kept_back = λ k l some h. kept_same (first_of rows k) (s.kept_back k l some (kept_was (second_of rows k) h));
  }

-- A new entry keeps what holds of a search.
pub grown : (rows : List Row) (node : List Mark) (phase : Phase) (f : List ℕ) (r : List ℤ) (spots spots' : List Spot) (tree tree' : List Entry) (e : Entry)
    → IsSearched rows node phase f r spots tree → e.product < length spots → spot_at spots e.product ≡ Free
    → Joins rows node phase f r tree e → tree' ≡ tree ++ e ∷ [] → spots' ≡ set spots e.product (At (length tree))
    → IsSearched rows node phase f r spots' tree' × Grown spots tree spots' tree' × (length tree' ≡ length tree + 1) × (product_of tree' (length tree) ≡ e.product)
grown rows node phase f r spots spots' tree tree' e s inside free j tree_is spots_is = (
  grown_searched rows node phase f r spots spots' tree tree' e s inside free j tree_is spots_is,
  grown_grown rows node phase f r spots spots' tree tree' e s inside free j tree_is spots_is,
  len rows node phase f r spots spots' tree tree' e s inside free j tree_is spots_is,
  ap (λ (x : Entry). x.product) (new rows node phase f r spots spots' tree tree' e s inside free j tree_is spots_is),
)

-- A search that hasn't moved has grown by nothing.
pub grown_none : (spots : List Spot) (tree : List Entry) → Grown spots tree spots tree
grown_none spots tree = record { each = refl; longer = omega arith; front = λ j l. refl; more = λ i h. h; kept = λ i h. h; was_kept = λ i h. h; count = omega arith }

-- A search that has gone on twice has gone on.
pub grown_more : (a b c : List Spot) (s t u : List Entry) → Grown a s b t → Grown b t c u → Grown a s c u
grown_more a b c s t u g h = record {
  each = h.each ∙ g.each;
  longer = omega (arith, g.longer, h.longer);
  front = λ j l. h.front j (omega (arith, g.longer)) ∙ g.front j l;
  more = λ i x. h.more i (g.more i x);
  kept = λ i x. h.kept i (g.kept i x);
  was_kept = λ i x. g.was_kept i (h.was_kept i x);
  count = let n = h.count in let e = g.each in omega (arith, g.count, subst (λ (k : ℕ). unseen k c + length u ≤ unseen k b + length t) e n);
}

target_below : (rows : List Row) (n k : ℕ) (b : Bool) → k < length rows → AreNamed rows n → target_of rows k b < n
target_below rows n k true l h = (h k l).0
target_below rows n k false l h = (h k l).1

both_shut : (rows : List Row) (f : List ℕ) (s : ℕ → Bool) (k : ℕ) (b : Bool) → s (source_of rows k b) ≡ true → s (target_of rows k b) ≡ true → ShutAt rows f s k
both_shut rows f s k true x y = record { on = λ h. x; back = λ some h. y }
both_shut rows f s k false x y = record { on = λ h. y; back = λ some h. x }

-- A row that leads to a product that wasn't reached adds it.
pub tried_over : (rows : List Row) (node : List Mark) (phase : Phase) (f : List ℕ) (r : List ℤ) (spots spots' : List Spot) (tree tree' : List Entry) (k p c : ℕ) (b : Bool)
    → IsSearched rows node phase f r spots tree → AreNamed rows (length spots) → k < length rows
    → spot_at spots (source_of rows k b) ≡ At p → spot_at spots (target_of rows k b) ≡ Free
    → 0 < c → c ≤ cap tree p → (b ≡ false → cap tree p ≤ c) → (b ≡ true → c ≤ slice_index f k)
    → tree' ≡ tree ++ record { product = target_of rows k b; row = k; from = p; back = b; cap = c } ∷ [] → spots' ≡ set spots (target_of rows k b) (At (length tree))
    → Tried rows node phase f r spots tree spots' tree' k true
tried_over rows node phase f r spots spots' tree tree' k p c b s names l at free some narrow hold room tree_is spots_is =
    let e : Entry = record { product = target_of rows k b; row = k; from = p; back = b; cap = c } in
    let t = s.there (source_of rows k b) p at in
    let joins : Joins rows node phase f r tree e = record {
      below = omega (arith, t.0);
      some = some;
      root = λ q. absurd (omega (arith, t.0));
      step = λ q. record { row = l; source = sym t.1; target = refl; narrows = narrow; holds = hold; room = room };
    } in
    let g = grown rows node phase f r spots spots' tree tree' e s (target_below rows (length spots) k b l names) free joins tree_is spots_is in
    let target = ap is_seen (on rows node phase f r spots spots' tree tree' e s (target_below rows (length spots) k b l names) free joins tree_is spots_is) in
    let source = g.1.more (source_of rows k b) (ap is_seen at) in
    record { searched = g.0; grown = g.1; longer = λ q. g.2; tree_stays = λ q. cc; shut = both_shut rows f (seen spots') k b source target }

supply_none : (phase : Phase) (m : Mark) (z : ℤ) → 0 < supply_of phase m z → takes phase m z ≡ false
supply_none Forced In z h = refl
supply_none Forced Out z h = absurd (omega arith)
supply_none Forced Open z h = absurd (omega arith)
supply_none Funded Open (pos n) h = refl
supply_none Funded Open (negsuc n) h = absurd (omega arith)
supply_none Funded In z h = absurd (omega arith)
supply_none Funded Out z h = absurd (omega arith)

-- A product that gives something is added as a root.
pub rooted : (rows : List Row) (node : List Mark) (phase : Phase) (f : List ℕ) (r : List ℤ) (spots spots' : List Spot) (tree tree' : List Entry) (i c : ℕ)
    → IsSearched rows node phase f r spots tree → i < length spots → spot_at spots i ≡ Free → c ≡ supply_of phase (mark_at node i) (price_at r i) → 0 < c
    → tree' ≡ tree ++ record { product = i; row = 0; from = length tree; back = false; cap = c } ∷ [] → spots' ≡ set spots i (At (length tree))
    → Rooted rows node phase f r spots tree spots' tree' i
rooted rows node phase f r spots spots' tree tree' i c s inside free is some tree_is spots_is =
    let e : Entry = record { product = i; row = 0; from = length tree; back = false; cap = c } in
    let joins : Joins rows node phase f r tree e = record { below = omega arith; some = some; root = λ q. is; step = λ q. absurd (omega arith) } in
    let g = grown rows node phase f r spots spots' tree tree' e s inside free joins tree_is spots_is in
    record {
      searched = g.0;
      grown = g.1;
      none = λ was. each rows node phase f r spots spots' tree tree' e s inside free joins tree_is spots_is
          (λ j x. takes phase (mark_at node x.product) (price_at r x.product) ≡ false) was (supply_none phase (mark_at node i) (price_at r i) (subst (λ (x : ℕ). 0 < x) is some));
      here = λ q. ap is_seen (on rows node phase f r spots spots' tree tree' e s inside free joins tree_is spots_is);
    }

-- What was added takes nothing.
pub looked_on : (rows : List Row) (node : List Mark) (phase : Phase) (f : List ℕ) (r : List ℤ) (spots spots' : List Spot) (tree tree' : List Entry) (k : ℕ)
    → NoneTakes node phase r tree → Tried rows node phase f r spots tree spots' tree' k true
    → takes phase (mark_at node (product_of tree' (length tree' - 1))) (price_at r (product_of tree' (length tree' - 1))) ≡ false
    → Looked rows node phase f r spots tree spots' tree' k None
looked_on rows node phase f r spots spots' tree tree' k none t last =
    let len = t.longer refl in
    let place : length tree' - 1 ≡ length tree = omega (arith, len) in
    record {
      searched = t.searched;
      grown = t.grown;
      told = by_last (λ j. takes phase (mark_at node (product_of tree' j)) (price_at r (product_of tree' j)) ≡ false) (length tree) (length tree') len
          (λ j l. subst (λ (x : Entry). takes phase (mark_at node x.product) (price_at r x.product) ≡ false) (sym (t.grown.front j l)) (none j l))
          (subst (λ (x : ℕ). takes phase (mark_at node (product_of tree' x)) (price_at r (product_of tree' x)) ≡ false) place last);
      shut = t.shut;
    }

-- Where an end of a shut row is seen, the row is spent from there.
pub shut_spent : (rows : List Row) (f : List ℕ) (s : ℕ → Bool) (i k : ℕ) → s i ≡ true → ShutAt rows f s k → IsSpent rows f s i k
shut_spent rows f s i k here h = record {
  on = λ e. h.on (ap s e ∙ here);
  back = λ some e. h.back some (ap s e ∙ here);
}

-- What is spent stays so as the search goes on.
pub spent_more : (rows : List Row) (f : List ℕ) (s t : ℕ → Bool) (i k : ℕ) → ((j : ℕ) → s j ≡ true → t j ≡ true) → IsSpent rows f s i k → IsSpent rows f t i k
spent_more rows f s t i k more h = record {
  on = λ e. more (second_of rows k) (h.on e);
  back = λ some e. more (first_of rows k) (h.back some e);
}

-- Where no row leads on from what the tree holds, all rows are shut.
pub spent_shut : (rows : List Row) (node : List Mark) (phase : Phase) (f : List ℕ) (r : List ℤ) (spots : List Spot) (tree : List Entry)
    → IsSearched rows node phase f r spots tree
    → ((j : ℕ) → j < length tree → (k : ℕ) → k < length rows → IsSpent rows f (seen spots) (product_of tree j) k)
    → (k : ℕ) → k < length rows → ShutAt rows f (seen spots) k
spent_shut rows node phase f r spots tree s all k l = record {
  on = λ h. on (spot_at spots (first_of rows k)) refl h;
  back = λ some h. back (spot_at spots (second_of rows k)) some refl h;
}
  where
    on : (v : Spot) → spot_at spots (first_of rows k) ≡ v → is_seen v ≡ true → seen spots (second_of rows k) ≡ true
    on Free e h = cc
    on Kept e h = ap is_seen (s.kept_on k l e)
    on (At p) e h = let t = s.there (first_of rows k) p e in (all p t.0 k l).on (sym t.1)

    back : (v : Spot) → 0 < slice_index f k → spot_at spots (second_of rows k) ≡ v → is_seen v ≡ true → seen spots (first_of rows k) ≡ true
    back Free some e h = cc
    back Kept some e h = ap is_seen (s.kept_back k l some e)
    back (At p) some e h = let t = s.there (second_of rows k) p e in (all p t.0 k l).back some (sym t.1)

one_here : (i c : ℕ) (b : Bool) → (i ≡ c → b ≡ false) → 0 + cond (eqb i c) 1 0 ≤ cond b 0 1
one_here i c true h = elim (eqb_tells i c) as (λ v. 0 + cond (eqb i c) 1 0 ≤ 0)
    [ inl t ↦ let e = h t.1 in absurd (cc) | inr f ↦ rw f.0 (omega arith) ]
one_here i c false h = elim (eqb_tells i c) as (λ v. 0 + cond (eqb i c) 1 0 ≤ 1)
    [ inl t ↦ rw t.0 (omega arith) | inr f ↦ rw f.0 (omega arith) ]

-- Where a product isn't seen, the tree has fewer entries than there are products.
pub room_left : (rows : List Row) (node : List Mark) (phase : Phase) (f : List ℕ) (r : List ℤ) (spots : List Spot) (tree : List Entry) (i : ℕ)
    → IsSearched rows node phase f r spots tree → i < length spots → spot_at spots i ≡ Free → length tree < length spots
room_left rows node phase f r spots tree i s l free =
    let some = sum_less (length spots) (λ j. 0) (λ j. cond (seen spots j) 0 1) i 1 l
    (λ j lj. one_here j i (seen spots j) (λ q. subst (λ (x : ℕ). seen spots x ≡ false) (sym q) (ap is_seen free))) in
    let none = sum_below-zeros (length spots) (λ j. 0) (λ j lj. refl) in
    let fewer = s.fewer in
    omega (arith, some, none, fewer)
