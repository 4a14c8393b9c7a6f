-- Sums of what is In: how great they are, and how a mark changes them.
use Rattle.std.proofs.Common.{◌≡◌, ◌≢◌, ℕ, zero, suc, ◌+◌, ◌*◌, ◌^◌, ◌<◌, ◌≤◌, Bool, true, false, cond, List, [], ◌∷◌, length, get_or, set, length-set, get_or-set_same, get_or-set_other, refl, sym, ap, ◌∙◌, arith, inl, inr}
use Rattle.std.specs.Prelude.{sum_by}
use Rattle.std.specs.List.{All}
use Rattle.std.proofs.lemmas.Bool.{cases_eq}
use Rattle.std.proofs.lemmas.List.{ext_get_or}
use Rattle.std.proofs.lemmas.List.Elements.{All-from_get_or}
use Rattle.std.proofs.lemmas.List.Sums.{sum_by-cons, sum_by-le}
use Rattle.std.proofs.Math.Nat.{mul-le-mul}
use Rattle.offer_model.specs.declared.node.Mark.{Mark}
use Rattle.offer_model.specs.declared.node.Mark.TheVariants.{Out}
use Rattle.offer_model.specs.Assortments.{sum_below}
use Rattle.offer_model.specs.Problems.{ProblemData, SegmentData, product_count, margin_of, attraction_of}
use Rattle.offer_model.specs.Validity.{IsProblem, IsSegment}
use Rattle.offer_model.specs.Nodes.{mark_at, open_node, is_in}
use Rattle.offer_model.proofs.SumLemmas.{sum_below-same}
use Rattle.offer_model.proofs.NodeLemmas.{length-open_node}
use Rattle.segment_bound.specs.declared.order.Ranked.{Ranked}
use Rattle.segment_bound.specs.declared.sums.Sums.{Sums}
use Rattle.segment_bound.specs.Orders.{IsOrder, listed_product}
use Rattle.segment_bound.specs.Sums.{gain_in, weight_in, AreSums, IsMoved}
use Rattle.segment_bound.specs.Kept.{IsListed, IsRanking, IsKept, AreEmptySums, Holds, sums_at, listed_segment}
use Rattle.segment_bound.proofs.OrderLemmas.{sum_order, order_of, order_listed, from_order, length-order, IsOf}

-- ---- Sizes.

-- A term of a sum is at most the sum.
term_le : {X : Type 0} (f : X → ℕ) (xs : List X) (r : ℕ) (d : X) → r < length xs → f (get_or xs r d) ≤ sum_by f xs
term_le f [] r d l = absurd (omega arith)
term_le f (x ∷ xs) zero d l = let e = sum_by-cons f x xs in omega (arith, e)
term_le f (x ∷ xs) (suc r) d l = let e = sum_by-cons f x xs in let before = term_le f xs r d (omega arith) in omega (arith, e, before)

gain_term : (b : Bool) (r v : ℕ) → r ≤ 1000000000 → v ≤ 1000000000 → cond b (r * v) 0 ≤ 10 ^ 18
gain_term true r v l m = let t = mul-le-mul l m in omega (arith, t)
gain_term false r v l m = omega arith

weight_term : (b : Bool) (v : ℕ) → v ≤ 1000000000 → cond b v 0 ≤ 10 ^ 9
weight_term true v m = omega (arith, m)
weight_term false v m = omega arith

-- Gains of what is In are in their range.
pub gain_in-most : (n : ℕ) (order : List Ranked) (g : SegmentData) (node : List Mark) → All (IsListed n) order → IsSegment g → gain_in order g node ≤ length order * 10 ^ 18
gain_in-most n order g node listed valid = sum_by-le (λ q. cond (is_in (mark_at node q.product)) (q.margin * attraction_of g q.product) 0) (10 ^ 18) order
    (λ k d l. gain_term (is_in (mark_at node (get_or order k d).product)) (get_or order k d).margin (attraction_of g (get_or order k d).product) (listed k d l).1 (valid.attraction (get_or order k d).product))

-- So are weights.
pub weight_in-most : (order : List Ranked) (g : SegmentData) (node : List Mark) → IsSegment g → weight_in order g node ≤ (length order + 1) * 10 ^ 9
weight_in-most order g node valid =
    let all = sum_by-le (λ q. cond (is_in (mark_at node q.product)) (attraction_of g q.product) 0) (10 ^ 9) order
    (λ k d l. weight_term (is_in (mark_at node (get_or order k d).product)) (attraction_of g (get_or order k d).product) (valid.attraction (get_or order k d).product)) in
    let none = valid.none.1 in
    omega (arith, all, none)

held : (b : Bool) (v s : ℕ) → cond b v 0 ≤ s → b ≡ true → v ≤ s
held true v s h e = h
held false v s h e = absurd cc

-- The sums of what is In hold each product that is.
pub sums_hold : (order : List Ranked) (g : SegmentData) (node : List Mark) (s : Sums) (r : ℕ) (d : Ranked) → IsRanking order → IsSegment g → AreSums order g node s → r < length order
    → Holds (is_in (mark_at node (get_or order r d).product)) (get_or order r d).margin (attraction_of g (get_or order r d).product) s
sums_hold order g node s r d ranking valid sums l =
    let p = ranking.problem in
    let listed = order_listed p order ranking.valid ranking.ordered in
    let few = ranking.valid.few in
    let long = length-order p order ranking.ordered in
    let gain = gain_in-most (product_count p) order g node listed valid in
    let weight = weight_in-most order g node valid in
    let eg = sums.gain in
    let ew = sums.weight in
    let own_gain = term_le (λ q. cond (is_in (mark_at node q.product)) (q.margin * attraction_of g q.product) 0) order r d l in
    let own_weight = term_le (λ q. cond (is_in (mark_at node q.product)) (attraction_of g q.product) 0) order r d l in
    record {
      gain = omega (arith, few, long, gain, eg);
      weight = omega (arith, few, long, weight, ew);
      small = valid.attraction (get_or order r d).product;
      held_gain = held (is_in (mark_at node (get_or order r d).product)) ((get_or order r d).margin * attraction_of g (get_or order r d).product) s.gain (omega (arith, own_gain, eg));
      held_weight = held (is_in (mark_at node (get_or order r d).product)) (attraction_of g (get_or order r d).product) s.weight (omega (arith, own_weight, ew));
    }

-- ---- One mark.

-- Sums that differ in one term differ by that term.
sum_moved : (n i : ℕ) (f h : ℕ → ℕ) → i < n → ((j : ℕ) → j ≢ i → f j ≡ h j) → sum_below n f + h i ≡ sum_below n h + f i
sum_moved zero i f h l same = absurd (omega arith)
sum_moved (suc n) i f h l same = elim (cases_eq n i) [
  | inl e ↦ (let before = sum_below-same n f h (λ j m. same j (omega arith)) in rw e (let here = rw e at before in omega (arith, here)))
  | inr ne ↦ (let before = sum_moved n i f h (omega arith) same in let here = same n ne in omega (arith, before, here))
]

-- A sum of what is In, after a mark is set, and the term that the old mark gave.
in_set : (n : ℕ) (node : List Mark) (i : ℕ) (m : Mark) (a : ℕ → ℕ) → i < n → i < length node
    → sum_below n (λ j. cond (is_in (mark_at (set node i m) j)) (a j) 0) + cond (is_in (mark_at node i)) (a i) 0
    ≡ sum_below n (λ j. cond (is_in (mark_at node j)) (a j) 0) + cond (is_in m) (a i) 0
in_set n node i m a l inside =
    let moved = sum_moved n i (λ j. cond (is_in (mark_at (set node i m) j)) (a j) 0) (λ j. cond (is_in (mark_at node j)) (a j) 0) l
    (λ j ne. ap (λ t. cond (is_in t) (a j) 0) (get_or-set_other node i j m Out ne)) in
    let here : cond (is_in (mark_at (set node i m) i)) (a i) 0 ≡ cond (is_in m) (a i) 0 = ap (λ t. cond (is_in t) (a i) 0) (get_or-set_same node i m Out inside) in
    omega (arith, moved, here)

-- Moved sums are those of the node with the new mark.
pub moved_sums : (p : ProblemData) (order : List Ranked) (g : SegmentData) (node : List Mark) (q : Ranked) (m : Mark) (s t : Sums) → IsOrder p order → IsOf p q → q.product < length node
    → AreSums order g node s → IsMoved (is_in (mark_at node q.product)) (is_in m) q (attraction_of g q.product) s t → AreSums order g (set node q.product m) t
moved_sums p order g node q m s t o of inside sums moved =
    let i = q.product in
    let eg = in_set (product_count p) node i m (λ j. margin_of p j * attraction_of g j) of.1 inside in
    let ew = in_set (product_count p) node i m (attraction_of g) of.1 inside in
    let before_g : gain_in order g node ≡ sum_below (product_count p) (λ j. cond (is_in (mark_at node j)) (margin_of p j * attraction_of g j) 0)
    = sum_order p order o (λ z. cond (is_in (mark_at node z.product)) (z.margin * attraction_of g z.product) 0) in
    let after_g : gain_in order g (set node i m) ≡ sum_below (product_count p) (λ j. cond (is_in (mark_at (set node i m) j)) (margin_of p j * attraction_of g j) 0)
    = sum_order p order o (λ z. cond (is_in (mark_at (set node i m) z.product)) (z.margin * attraction_of g z.product) 0) in
    let before_w : sum_by (λ z. cond (is_in (mark_at node z.product)) (attraction_of g z.product) 0) order ≡ sum_below (product_count p) (λ j. cond (is_in (mark_at node j)) (attraction_of g j) 0)
    = sum_order p order o (λ z. cond (is_in (mark_at node z.product)) (attraction_of g z.product) 0) in
    let after_w : sum_by (λ z. cond (is_in (mark_at (set node i m) z.product)) (attraction_of g z.product) 0) order ≡ sum_below (product_count p) (λ j. cond (is_in (mark_at (set node i m) j)) (attraction_of g j) 0)
    = sum_order p order o (λ z. cond (is_in (mark_at (set node i m) z.product)) (attraction_of g z.product) 0) in
    let sg = sums.gain in
    let sw = sums.weight in
    let mg = rw of.0 at moved.gain in
    let mw = moved.weight in
    record { gain = omega (arith, eg, before_g, after_g, sg, mg); weight = omega (arith, ew, before_w, after_w, sw, mw) }

-- Where nothing is In there is only the weight of buying nothing.
pub none_in : (order : List Ranked) (g : SegmentData) (node : List Mark) (s : Sums) → ((i : ℕ) → is_in (mark_at node i) ≡ false) → s ≡ record { gain = 0; weight = g.none } → AreSums order g node s
none_in order g node s none e = record {
  gain = ap (λ (t : Sums). t.gain) e ∙ sym (zeros order (λ q. q.margin * attraction_of g q.product));
  weight = ap (λ (t : Sums). t.weight) e ∙ (let z = zeros order (λ q. attraction_of g q.product) in omega (arith, z));
}
  where
    zeros : (qs : List Ranked) (f : Ranked → ℕ) → sum_by (λ q. cond (is_in (mark_at node q.product)) (f q) 0) qs ≡ 0
    zeros [] f = refl
    zeros (q ∷ qs) f =
        let cons = sum_by-cons (λ z. cond (is_in (mark_at node z.product)) (f z) 0) q qs in
        let rest = zeros qs f in
        let here : cond (is_in (mark_at node q.product)) (f q) 0 ≡ 0 = ap (λ b. cond b (f q) 0) (none q.product) in
        omega (arith, cons, rest, here)

-- ---- What is kept.

-- Each product of the order is inside, and its margin in its range.
pub ranked_inside : (order : List Ranked) (r : ℕ) (d : Ranked) → IsRanking order → r < length order
    → ((get_or order r d).product < length order) × ((get_or order r d).margin ≤ 1000000000)
ranked_inside order r d ranking l =
    let listed = order_listed ranking.problem order ranking.valid ranking.ordered r d l in
    let long = length-order ranking.problem order ranking.ordered in
    let inside = listed.0 in
    (omega (arith, inside, long), listed.1)

-- What is kept follows one mark.
pub kept_moved : (order : List Ranked) (segments : List SegmentData) (node : List Mark) (sums moved : List Sums) (r : ℕ) (d : Ranked) (m : Mark) → IsKept order segments node sums → r < length order
    → length moved ≡ length sums
    → ((k : ℕ) → k < length sums → IsMoved (is_in (mark_at node (get_or order r d).product)) (is_in m) (get_or order r d) (attraction_of (listed_segment segments k) (get_or order r d).product) (sums_at sums k) (sums_at moved k))
    → IsKept order segments (set node (get_or order r d).product m) moved
kept_moved order segments node sums moved r d m kept l same each =
    let long = kept.long in
    let set_long = length-set node (get_or order r d).product m in
    let kept_each = kept.each in
    let inside = (ranked_inside order r d kept.ranking l).0 in
    record {
      ranking = kept.ranking;
      long = omega (arith, long, set_long);
      attracts = kept.attracts;
      valid = kept.valid;
      each = omega (arith, same, kept_each);
      each_sum = λ k b. moved_sums kept.ranking.problem order (listed_segment segments k) node (get_or order r d) m (sums_at sums k) (sums_at moved k) kept.ranking.ordered
          (order_of kept.ranking.problem order kept.ranking.ordered r d l) (omega (arith, inside, long)) (kept.each_sum k b) (each k (omega (arith, kept_each)));
    }

-- Nodes of the order's length are equal where they agree at each product of the order.
pub same_marks : (order : List Ranked) (a b : List Mark) → IsRanking order → length a ≡ length order → length b ≡ length order
    → ((r : ℕ) → r < length order → mark_at a (listed_product order r) ≡ mark_at b (listed_product order r)) → a ≡ b
same_marks order a b ranking la lb h =
    let p = ranking.problem in
    let long = length-order p order ranking.ordered in
    let all : All (λ (q : Ranked). mark_at a q.product ≡ mark_at b q.product) order = All-from_get_or (λ (q : Ranked). mark_at a q.product ≡ mark_at b q.product) order (record { margin = 0; product = 0 }) h in
    ext_get_or Out a b (omega arith) (λ i l. from_order p order ranking.ordered (λ (q : Ranked). mark_at a q.product ≡ mark_at b q.product) all i (omega (arith, long, la, l)))

-- What is kept of a new problem: nothing is In.
pub kept_new : (p : ProblemData) (order : List Ranked) (segments : List SegmentData) (sums : List Sums) → IsProblem p → IsOrder p order → segments ≡ p.segments → AreEmptySums segments sums
    → IsKept order segments (open_node (product_count p)) sums
kept_new p order segments sums valid ordered same empty =
    let long = length-order p order ordered in
    let node_long = length-open_node (product_count p) in
    record {
      ranking = record { problem = p; valid = valid; ordered = ordered };
      long = omega (arith, long, node_long);
      attracts = rw same (λ k d l. valid.each k d l ∙ sym long);
      valid = rw same valid.segments;
      each = empty.each;
      each_sum = λ k l. none_in order (listed_segment segments k) (open_node (product_count p)) (sums_at sums k) (none_open (product_count p)) (empty.empty k l);
    }
  where
    none_open : (n i : ℕ) → is_in (mark_at (open_node n) i) ≡ false
    none_open zero i = refl
    none_open (suc n) zero = refl
    none_open (suc n) (suc i) = none_open n i

-- The sums from which a segment's greatest value is reached are in their range.
pub start_small : (p : ProblemData) (order : List Ranked) (g : SegmentData) (node : List Mark) (s : Sums) → IsProblem p → IsOrder p order → IsSegment g → AreSums order g node s
    → (s.gain ≤ 256 * 10 ^ 18) × (s.weight ≤ 257 * 10 ^ 9)
start_small p order g node s valid ordered segment sums =
    let long = length-order p order ordered in
    let few = valid.few in
    let gain = gain_in-most (product_count p) order g node (order_listed p order valid ordered) segment in
    let weight = weight_in-most order g node segment in
    let eg = sums.gain in
    let ew = sums.weight in
    (omega (arith, long, few, gain, eg), omega (arith, long, few, weight, ew))
