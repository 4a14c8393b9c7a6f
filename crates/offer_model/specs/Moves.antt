-- What customers of a chain bring within a number of moves, and bounds on what they bring in all. Gallego and
-- Topaloglu (2019), Markov chain choice; bounds in millionths of a margin unit are our own.
use Rattle.std.specs.Prelude.{ℕ, ◌+◌, ◌-◌, ◌*◌, ◌/◌, ◌^◌, ◌≤◌, Bool, cond, List, slice_index}
use Prim.Native.Nat.{zero, suc}
use Rattle.offer_model.specs.Assortments.{offers}
use Rattle.offer_model.specs.Chains.{ChainData, moved, arriving, customer_count, greatest_margin, least_leaving}

-- What a customer at product i brings within t moves, times scale ^ t.
abbrev pub earned_within : ChainData → List Bool → ℕ → ℕ → ℕ
earned_within c x zero i = cond (offers x i) (slice_index c.margins i) 0
earned_within c x (suc t) i =
    cond (offers x i) (slice_index c.margins i * c.scale ^ suc t) (moved c i (earned_within c x t))

-- The chance that he still walks after t moves, times scale ^ t.
abbrev pub walking_after : ChainData → List Bool → ℕ → ℕ → ℕ
walking_after c x zero i = cond (offers x i) 0 1
walking_after c x (suc t) i = cond (offers x i) 0 (moved c i (walking_after c x t))

-- Values and bounds are in millionths of a margin unit.
abbrev pub million : ℕ
million = 1000000

-- Within any number of moves, all customers together bring at most `up` for each of them.
abbrev pub BringsAtMost : ChainData → List Bool → ℕ → Type 0
BringsAtMost c x up = (t : ℕ) →
    million * arriving c (earned_within c x t) ≤ up * customer_count c * c.scale ^ t

-- Within any number of moves, all customers together bring at least `lo` for each of them, where those who still walk
-- count with the greatest margin. Since some leave at each move, these go to none.
abbrev pub BringsAtLeast : ChainData → List Bool → ℕ → Type 0
BringsAtLeast c x lo = (t : ℕ) →
    lo * customer_count c * c.scale ^ t
    ≤ million * arriving c (earned_within c x t) + million * greatest_margin c * arriving c (walking_after c x t)

-- The most that the two bounds of a chain may lie apart.
abbrev pub gap_of : ChainData → ℕ
gap_of c = 2 * (c.scale - 1) / least_leaving c + 1
