-- The bounds of leaves: each is at least what any feasible completion of its node is worth. Own; multipliers are
-- Lagrange multipliers, the shelf's is the knapsack recursion, potentials are those of a longest path.
use Rattle.std.specs.Prelude.{◌≡◌, ℕ, ◌+◌, ◌-◌, ◌*◌, ◌^◌, ◌≤◌, ◌<◌, ◌==◌, nat_le, max, ⊤, Bool, true, false, cond, List, [], ◌∷◌, length, filter, Option, Some, None, pos, ◌+ℤ◌, ◌-ℤ◌, ◌<ℤ◌, ◌≤ℤ◌, slice_index, slice_index_or}
use lib.IntN.{ℤ}
use Prim.Native.Nat.{zero, suc}
use Rattle.std.specs.Int.{int_max}
use Rattle.offer_model.specs.declared.node.Mark.{Mark}
use Rattle.offer_model.specs.declared.node.Mark.TheVariants.{In, Out, Open}
use Rattle.offer_model.specs.declared.products.Product.{Product}
use Rattle.offer_model.specs.declared.products.Limit.{Limit}
use Rattle.offer_model.specs.declared.products.Limit.TheVariants.{Total, Category, Requires, Shelf, Ladder}
use Rattle.offer_model.specs.Assortments.{sum_below}
use Rattle.offer_model.specs.Problems.{ProblemData, product_count, product_at, segment_at}
use Rattle.offer_model.specs.Limits.{MayStand}
use Rattle.offer_model.specs.Nodes.{mark_at, settled_node, settled_mark}
use Rattle.offer_model.specs.Prices.{Prices, int_sum_below, positive_part, greatest_worth, prices_above}

-- ---- Multipliers: one number for each limit that isn't a ladder, in order.

abbrev pub is_priced : Limit → Bool
is_priced (Ladder l) = false
is_priced (Total cap) = true
is_priced (Category c cap) = true
is_priced (Shelf space) = true
is_priced (Requires a b) = true

abbrev pub priced_limits : ProblemData → List Limit
priced_limits p = filter is_priced p.limits

abbrev pub priced_limit_at : ProblemData → ℕ → Limit
priced_limit_at p k = slice_index_or (priced_limits p) k (Ladder 0)

-- What a limit's multiplier u takes off the price of product i: u for each unit of the limit that the product uses,
-- and of `requires` u off the first product.
abbrev pub taken_by : ProblemData → Limit → ℕ → ℕ → ℕ
taken_by p (Total cap) u i = u * 1
taken_by p (Category c cap) u i = u * cond ((product_at p i).category == c) 1 0
taken_by p (Shelf space) u i = u * (product_at p i).space
taken_by p (Requires a b) u i = cond (i == a) u 0
taken_by p (Ladder l) u i = 0

-- What it adds to the price of product i: of `requires` u to the second product.
abbrev pub added_by : Limit → ℕ → ℕ → ℕ
added_by (Requires a b) u i = cond (i == b) u 0
added_by (Total cap) u i = 0
added_by (Category c cap) u i = 0
added_by (Shelf space) u i = 0
added_by (Ladder l) u i = 0

-- What it adds to the constant: u for each unit that the limit allows.
abbrev pub allowed_by : Limit → ℕ → ℕ
allowed_by (Total cap) u = u * cap
allowed_by (Category c cap) u = u * cap
allowed_by (Shelf space) u = u * space
allowed_by (Requires a b) u = 0
allowed_by (Ladder l) u = 0

-- The multiplier of a cap or a shelf is at most 2 ^ 100.
abbrev pub IsMultiplier : Limit → ℕ → Type 0
IsMultiplier (Total cap) u = u ≤ 2 ^ 100
IsMultiplier (Category c cap) u = u ≤ 2 ^ 100
IsMultiplier (Shelf space) u = u ≤ 2 ^ 100
IsMultiplier (Requires a b) u = ⊤
IsMultiplier (Ladder l) u = ⊥

pub record MultipliersFit (p : ProblemData) (us : List ℕ) : Type 0 where
  pub each : length us ≡ length (priced_limits p)
  pub small : (k : ℕ) → k < length us → IsMultiplier (priced_limit_at p k) (slice_index us k)

-- What all multipliers take off the price of product i, what they add to it, and what they add to the constant.
abbrev pub taken_off : ProblemData → List ℕ → ℕ → ℕ
taken_off p us i = sum_below (length us) (λ k. taken_by p (priced_limit_at p k) (slice_index us k) i)

abbrev pub added_to : ProblemData → List ℕ → ℕ → ℕ
added_to p us i = sum_below (length us) (λ k. added_by (priced_limit_at p k) (slice_index us k) i)

abbrev pub allowed_in_all : ProblemData → List ℕ → ℕ
allowed_in_all p us = sum_below (length us) (λ k. allowed_by (priced_limit_at p k) (slice_index us k))

-- The prices under the multipliers.
abbrev pub relaxed : ProblemData → List ℕ → Prices → Prices
relaxed p us at = record {
  constant = at.constant +ℤ pos (allowed_in_all p us);
  price = λ i. (at.price i +ℤ pos (added_to p us i)) -ℤ pos (taken_off p us i);
}

abbrev pub multipliers_bound : ProblemData → List Mark → List ℕ → Prices → ℤ
multipliers_bound p node us at = greatest_worth p (settled_node p node) (relaxed p us at)

-- ---- The shelf: a table over products and space, without numbers of its own.

-- The greater of two sums, where there are some.
abbrev pub greater_of : Option ℤ → Option ℤ → Option ℤ
greater_of None b = b
greater_of (Some a) None = Some a
greater_of (Some a) (Some b) = Some (int_max a b)

abbrev pub raised_by : ℤ → Option ℤ → Option ℤ
raised_by a None = None
raised_by a (Some b) = Some (a +ℤ b)

-- A sum that leaves out a product with this mark.
abbrev pub leaving_out : Mark → Option ℤ → Option ℤ
leaving_out In sum = None
leaving_out Out sum = sum
leaving_out Open sum = sum

-- A sum that offers a product with this mark, where its space fits.
abbrev pub offering : Mark → Bool → Option ℤ → Option ℤ
offering Out fits sum = None
offering In fits sum = cond fits sum None
offering Open fits sum = cond fits sum None

-- The greatest sum of prices over products below k that the marks and the space allow. There is none where they
-- allow no choice.
abbrev pub best_in_space : ProblemData → List Mark → (ℕ → ℤ) → ℕ → ℕ → Option ℤ
best_in_space p marks price zero space = Some (pos 0)
best_in_space p marks price (suc k) space = greater_of
    (leaving_out (mark_at marks k) (best_in_space p marks price k space))
    (offering (mark_at marks k) (nat_le (product_at p k).space space)
    (raised_by (price k) (best_in_space p marks price k (space - (product_at p k).space))))

-- The space of the first shelf limit.
abbrev pub shelf_space : List Limit → Option ℕ
shelf_space [] = None
shelf_space (Shelf space ∷ limits) = Some space
shelf_space (Total cap ∷ limits) = shelf_space limits
shelf_space (Category c cap ∷ limits) = shelf_space limits
shelf_space (Requires a b ∷ limits) = shelf_space limits
shelf_space (Ladder l ∷ limits) = shelf_space limits

abbrev pub bound_in_space : ProblemData → List Mark → Prices → Option ℕ → Option ℤ
bound_in_space p marks at None = None
bound_in_space p marks at (Some space) = raised_by at.constant (best_in_space p marks at.price (product_count p) space)

abbrev pub shelf_bound : ProblemData → List Mark → Prices → Option ℤ
shelf_bound p node at = bound_in_space p (settled_node p node) at (shelf_space p.limits)

-- ---- Potentials: one number for each product.

-- The ladder has a limit.
abbrev pub is_limited : List Limit → ℕ → Bool
is_limited [] l = false
is_limited (Ladder k ∷ limits) l = cond (k == l) true (is_limited limits l)
is_limited (Total cap ∷ limits) l = is_limited limits l
is_limited (Category c cap ∷ limits) l = is_limited limits l
is_limited (Shelf space ∷ limits) l = is_limited limits l
is_limited (Requires a b ∷ limits) l = is_limited limits l

abbrev pub ladder_of : ProblemData → ℕ → ℕ
ladder_of p i = (product_at p i).ladder

-- Product i is Open, on a limited ladder, and may stand together with each product of its ladder that is In.
pub record IsUsable (p : ProblemData) (node : List Mark) (i : ℕ) : Type 0 where
  pub open_mark : settled_mark p node i ≡ Open
  pub limited : is_limited p.limits (ladder_of p i) ≡ true
  pub fits : (j : ℕ) → j < product_count p → settled_mark p node j ≡ In → ladder_of p j ≡ ladder_of p i
      → MayStand (product_at p i) (product_at p j) × MayStand (product_at p j) (product_at p i)

-- From a to b the grade rises and the price doesn't fall.
abbrev pub Rises : Product → Product → Type 0
Rises a b = (a.grade < b.grade) × (a.price ≤ b.price)

-- Each number is at least what any rise on its ladder brings that begins with its product: products of rising grade
-- and no fall of price.
pub record PotentialsFit (p : ProblemData) (node : List Mark) (price : ℕ → ℤ) (us : List ℕ) : Type 0 where
  pub each : length us ≡ product_count p
  pub unused : (i : ℕ) → i < product_count p → (IsUsable p node i → ⊥) → slice_index us i ≡ 0
  pub alone : (i : ℕ) → i < product_count p → IsUsable p node i → price i ≤ℤ pos (slice_index us i)
  pub chained : (i j : ℕ) → i < product_count p → j < product_count p → IsUsable p node i → IsUsable p node j
      → ladder_of p i ≡ ladder_of p j → Rises (product_at p i) (product_at p j)
      → (price i +ℤ pos (slice_index us j)) ≤ℤ pos (slice_index us i)

-- The greatest number of a product of the ladder, 0 without one.
abbrev pub ladder_top : ProblemData → List ℕ → ℕ → ℕ → ℕ
ladder_top p us l zero = 0
ladder_top p us l (suc k) = max (ladder_top p us l k) (cond (ladder_of p k == l) (slice_index us k) 0)

-- These, summed over the limited ladders.
abbrev pub ladder_tops : ProblemData → List ℕ → List Limit → ℕ
ladder_tops p us [] = 0
ladder_tops p us (Ladder l ∷ limits) = ladder_top p us l (product_count p) + ladder_tops p us limits
ladder_tops p us (Total cap ∷ limits) = ladder_tops p us limits
ladder_tops p us (Category c cap ∷ limits) = ladder_tops p us limits
ladder_tops p us (Shelf space ∷ limits) = ladder_tops p us limits
ladder_tops p us (Requires a b ∷ limits) = ladder_tops p us limits

-- What a product adds at most beside the tops of the ladders.
abbrev pub most_beside : Mark → Bool → ℤ → ℤ
most_beside In limited price = price
most_beside Out limited price = pos 0
most_beside Open true price = pos 0
most_beside Open false price = positive_part price

abbrev pub potentials_bound : ProblemData → List Mark → List ℕ → Prices → ℤ
potentials_bound p node us at =
    let limited = λ (i : ℕ). is_limited p.limits (ladder_of p i) in
    at.constant
    +ℤ int_sum_below (product_count p) (λ i. most_beside (settled_mark p node i) (limited i) (at.price i))
    +ℤ pos (ladder_tops p us p.limits)

-- ---- Segments, under mixed logit: one number for each segment, in units.

-- No completion brings more than a segment's number in it.
pub record SegmentsFit (p : ProblemData) (node : List Mark) (us : List ℕ) : Type 0 where
  pub each : length us ≡ length p.segments
  pub small : (k : ℕ) → k < length us → slice_index us k ≤ 10 ^ 18
  pub below : (k : ℕ) → k < length us
      → greatest_worth p node (prices_above p (segment_at p k) (slice_index us k)) <ℤ pos 0

abbrev pub segments_bound : List ℕ → ℕ
segments_bound us = sum_below (length us) (slice_index us)
