-- Room under the caps of a product.
use Rattle.std.specs.Prelude.{◌⊎◌, Option, Some, None}
use Rattle.std.specs.Option.{is_some}
use Rattle.std.proofs.Common.{◌≡◌, ℕ, ◌+◌, ◌<◌, ◌≤◌, Bool, true, false, cond, List, length, refl, arith, subst, inl, inr, set, add-one, ◌∙◌}
use Rattle.std.proofs.lemmas.Bool.Decides.{nat_tests}
use Rattle.std.proofs.lemmas.List.{get_or_default}
use Rattle.offer_model.specs.declared.node.Mark.{Mark}
use Rattle.offer_model.specs.declared.node.Mark.TheVariants.{In}
use Rattle.offer_model.specs.declared.products.Limit.{Limit}
use Rattle.offer_model.specs.declared.products.Limit.TheVariants.{Total, Category, Requires, Shelf, Ladder}
use Rattle.offer_model.specs.Assortments.{offers, sum_below}
use Rattle.offer_model.specs.Problems.{ProblemData, product_count}
use Rattle.offer_model.specs.Validity.{is_cap}
use Rattle.offer_model.specs.Revenue.{sum_offered}
use Rattle.offer_model.specs.Nodes.{mark_at, is_in, fill_of, ClashesAt, Clashes}
use Rattle.offer_model.proofs.NodeLemmas.{offers-fill_of}
use Rattle.offer_model.proofs.SumLemmas.{sum_below_le, sum_below-set}
use Rattle.rank_step.specs.Caps.{limit_at, cap_of, is_total, is_of_category, count_of, PlacesData, category_place, is_place, AreCapPlaces}
use Rattle.rank_step.specs.Rooms.{RoomsData, AreRooms, AreTaken, IsFullCap, IsTaken}
use Rattle.rank_step.proofs.PlaceLemmas.{caps_at}

-- 1 at the place, else 0.
abbrev pub one_at : Option ℕ → ℕ → ℕ
one_at place k = cond (is_place place k) 1 0

two_parts : (p : ProblemData) (limit : Limit) (i : ℕ) → is_cap limit ≡ true
    → count_of p limit i ≡ cond (is_total limit) 1 0 + cond (is_of_category p limit i) 1 0
two_parts p (Total cap) i h = refl
two_parts p (Category c cap) i h = omega arith
two_parts p (Requires a b) i h = cc
two_parts p (Shelf cap) i h = cc
two_parts p (Ladder l) i h = cc

-- What a cap counts of a product, by the places.
pub counts_at : (p : ProblemData) (at : PlacesData) (i k : ℕ) → AreCapPlaces p at → i < product_count p → k < length p.limits
    → count_of p (limit_at p k) i ≡ one_at at.total k + one_at (category_place at i) k
counts_at p at i k places inside l =
    two_parts p (limit_at p k) i (caps_at p places.kind k l) ∙ rw (places.below.total_is k l, places.below.category_is i k inside l) refl

count_le : (p : ProblemData) (limit : Limit) (i : ℕ) → count_of p limit i ≤ 1
count_le p (Total cap) i = omega arith
count_le p (Category c cap) i = grind (arith, nat_tests)
count_le p (Requires a b) i = omega arith
count_le p (Shelf cap) i = omega arith
count_le p (Ladder l) i = omega arith

-- No limit is both the total cap and a product's category's.
pub places_apart : (p : ProblemData) (at : PlacesData) (i k : ℕ) → AreCapPlaces p at → i < product_count p → k < length p.limits
    → one_at at.total k + one_at (category_place at i) k ≤ 1
places_apart p at i k places inside l = subst (λ t. t ≤ 1) (counts_at p at i k places inside l) (count_le p (limit_at p k) i)

-- ---- What is In.

-- What is In counts more than the cap allows.
over_cap : (p : ProblemData) (node : List Mark) (limit : Limit) → is_cap limit ≡ true
    → cap_of limit < sum_offered p (fill_of node) (count_of p limit) → ClashesAt p node limit
over_cap p node (Total cap) i h = λ m. absurd (omega arith)
over_cap p node (Category c cap) i h = λ m. absurd (omega arith)
over_cap p node (Requires a b) i h = cc
over_cap p node (Shelf cap) i h = cc
over_cap p node (Ladder l) i h = cc

clash_at : (p : ProblemData) (node : List Mark) (k : ℕ) → k < length p.limits → ClashesAt p node (limit_at p k) → Clashes p node
clash_at p node k l c = (k, limit_at p k, l, get_or_default p.limits k (limit_at p k) (Ladder 0) l, c)

-- The place that is told is the one.
pub one_place : (k : ℕ) → is_place (Some k) k ≡ true
one_place k = grind (arith, nat_tests)

one_here : (place : Option ℕ) (k : ℕ) → place ≡ Some k → one_at place k ≡ 1
one_here place k e = rw (e, one_place k) refl

one_there : (a b : Option ℕ) (k : ℕ) → (a ≡ Some k) ⊎ (b ≡ Some k) → 1 ≤ one_at a k + one_at b k
one_there a b k (inl e) = let one = one_here a k e in omega arith
one_there a b k (inr e) = let one = one_here b k e in omega arith

sum_last : (n : ℕ) (f : ℕ → ℕ) → sum_below (n + 1) f ≡ sum_below n f + f n
sum_last n f = rw add-one refl

sum_in : (node : List Mark) (i : ℕ) (f : ℕ → ℕ) → mark_at node i ≡ In
    → sum_below (i + 1) (λ j. cond (offers (fill_of node) j) (f j) 0) ≡ sum_below i (λ j. cond (offers (fill_of node) j) (f j) 0) + f i
sum_in node i f e = sum_last i (λ j. cond (offers (fill_of node) j) (f j) 0)
    ∙ rw (offers-fill_of node i, e) refl

full_at : (p : ProblemData) (node : List Mark) (at : PlacesData) (rooms : RoomsData) (i k : ℕ) → AreCapPlaces p at → i < product_count p
    → mark_at node i ≡ In → AreRooms p rooms → AreTaken p (fill_of node) i rooms → IsFullCap rooms at i (Some k) → Clashes p node
full_at p node at rooms i k places inside is_in are taken full =
    let each = are.left in
    let l : k < length p.limits = (let h = full.0 in omega arith) in
    let left = taken k l in
    let none = full.1 in
    let count = counts_at p at i k places inside l in
    let one = one_there at.total (category_place at i) k full.2 in
    let here = sum_in node i (count_of p (limit_at p k)) is_in in
    let more = sum_below_le (i + 1) (product_count p) (λ j. cond (offers (fill_of node) j) (count_of p (limit_at p k) j) 0) (omega arith) in
    clash_at p node k l (over_cap p node (limit_at p k) (caps_at p places.kind k l) (omega arith))

-- A product that is In finds no room.
pub full_clashes : (p : ProblemData) (node : List Mark) (at : PlacesData) (rooms : RoomsData) (i : ℕ) (full : Option ℕ) → AreCapPlaces p at
    → i < product_count p → mark_at node i ≡ In → AreRooms p rooms → AreTaken p (fill_of node) i rooms → IsFullCap rooms at i full
    → is_some full ≡ true → Clashes p node
full_clashes p node at rooms i (Some k) places inside is_in are taken h e = full_at p node at rooms i k places inside is_in are taken h
full_clashes p node at rooms i None places inside is_in are taken h e = cc

-- It finds room.
pub taken_in : (p : ProblemData) (node : List Mark) (at : PlacesData) (rooms next : RoomsData) (i : ℕ) → AreCapPlaces p at → i < product_count p
    → mark_at node i ≡ In → AreRooms p rooms → IsTaken rooms at i next
    → AreTaken p (fill_of node) i rooms → AreTaken p (fill_of node) (i + 1) next
taken_in p node at rooms next i places inside is_in are less taken k l =
    let each = are.left in
    let left = taken k l in
    let room = less.left k (omega arith) in
    let count = counts_at p at i k places inside l in
    let here = sum_in node i (count_of p (limit_at p k)) is_in in
    omega arith

-- ---- What is added.

-- One more product takes its room.
pub taken_more : (p : ProblemData) (at : PlacesData) (x : List Bool) (rooms next : RoomsData) (i : ℕ) → AreCapPlaces p at → length x ≡ product_count p
    → i < product_count p → offers x i ≡ false → AreRooms p rooms → IsTaken rooms at i next
    → AreTaken p x (product_count p) rooms → AreTaken p (set x i true) (product_count p) next
taken_more p at x rooms next i places long inside o are less taken k l =
    let each = are.left in
    let left = taken k l in
    let room = less.left k (omega arith) in
    let count = counts_at p at i k places inside l in
    let sum = sum_below-set (product_count p) x i (count_of p (limit_at p k)) inside (omega arith) o in
    omega arith
