-- Which problems a step under caps fits. Own.
use Rattle.std.specs.Prelude.{◌≡◌, ℕ, ◌≤◌, Bool, List, length}
use Rattle.offer_model.specs.Problems.{ProblemData, product_count}
use Rattle.rank_step.specs.Caps.{PlacesData, AreCapPlaces}
use Rattle.rank_step.specs.Rooms.{RoomsData, AreRooms}

-- What the step holds fits the problem: the places of its caps, a room for each limit, space for all candidates, and an
-- assortment of its products.
pub record FitsCaps (p : ProblemData) (at : PlacesData) (rooms : RoomsData) (space : ℕ) (x : List Bool) : Type 0 where
  pub places : AreCapPlaces p at
  pub rooms_each : AreRooms p rooms
  pub enough : product_count p ≤ space
  pub each : length x ≡ product_count p
