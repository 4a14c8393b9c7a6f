-- Which product is the first ranked one that is Open, and which the first that a limit forces.
use Rattle.std.proofs.Common.{◌≡◌, ℕ, zero, suc, ◌<◌, true, false, Some, None, List, [], ◌∷◌, length, get_or, refl, arith}
use Rattle.offer_model.specs.declared.node.Mark.{Mark}
use Rattle.offer_model.specs.declared.products.Limit.{Limit}
use Rattle.offer_model.specs.Nodes.{mark_at, is_open}
use Rattle.several_step.specs.declared.branch_order.Ranked.{Ranked}
use Rattle.several_step.specs.Opens.{first_ranked, forced_by, first_forced}

-- It is the ranked product before which none is Open.
pub ranked_is : (order : List Ranked) (node : List Mark) (k : ℕ) (d : Ranked) → k < length order
    → ((j : ℕ) → j < k → is_open (mark_at node (get_or order j d).product) ≡ false) → is_open (mark_at node (get_or order k d).product) ≡ true
    → first_ranked order node ≡ Some (get_or order k d).product
ranked_is [] node k d l none at = absurd (omega arith)
ranked_is (r ∷ order) node zero d l none at = rw at refl
ranked_is (r ∷ order) node (suc k) d l none at = rw (none 0 (omega arith)) (ranked_is order node k d (omega arith) (λ j m. none (suc j) (omega arith)) at)

-- There is none where no ranked product is Open.
pub ranked_none : (order : List Ranked) (node : List Mark) (d : Ranked) → ((j : ℕ) → j < length order → is_open (mark_at node (get_or order j d).product) ≡ false)
    → first_ranked order node ≡ None
ranked_none [] node d none = refl
ranked_none (r ∷ order) node d none = rw (none 0 (omega arith)) (ranked_none order node d (λ j m. none (suc j) (omega arith)))

-- It is what the first limit forces that forces one.
pub forced_is : (limits : List Limit) (node : List Mark) (k i : ℕ) (d : Limit) → k < length limits
    → ((j : ℕ) → j < k → forced_by node (get_or limits j d) ≡ None) → forced_by node (get_or limits k d) ≡ Some i → first_forced limits node ≡ Some i
forced_is [] node k i d l none at = absurd (omega arith)
forced_is (limit ∷ limits) node zero i d l none at = rw at refl
forced_is (limit ∷ limits) node (suc k) i d l none at =
    rw (none 0 (omega arith)) (forced_is limits node k i d (omega arith) (λ j m. none (suc j) (omega arith)) at)

-- There is none where no limit forces one.
pub forced_none : (limits : List Limit) (node : List Mark) (d : Limit) → ((j : ℕ) → j < length limits → forced_by node (get_or limits j d) ≡ None)
    → first_forced limits node ≡ None
forced_none [] node d none = refl
forced_none (limit ∷ limits) node d none = rw (none 0 (omega arith)) (forced_none limits node d (λ j m. none (suc j) (omega arith)))
