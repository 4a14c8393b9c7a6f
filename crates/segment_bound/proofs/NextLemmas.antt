-- The steps of the loop that finds the first Open product of an order.
use Rattle.std.proofs.Common.{◌≡◌, ℕ, suc, ◌+◌, ◌<◌, true, false, cond, Some, List, length, get_or, drop, drop-cons, sym, ap, ◌∙◌, add-one}
use Rattle.offer_model.specs.declared.node.Mark.{Mark}
use Rattle.offer_model.specs.Problems.{ProblemData}
use Rattle.offer_model.specs.Nodes.{mark_at, is_open}
use Rattle.segment_bound.specs.Tangents.{next_in}

-- An Open product before which none of the order is Open is the next one.
pub next_here : (p : ProblemData) (node : List Mark) (order : List ℕ) (i d : ℕ) → i < length order → is_open (mark_at node (get_or order i d)) ≡ true
    → next_in p node (drop i order) ≡ next_in p node order → Some (get_or order i d) ≡ next_in p node order
next_here p node order i d l e h =
    sym (ap (λ t. cond t (Some (get_or order i d)) (next_in p node (drop (suc i) order))) e) ∙ (sym (ap (next_in p node) (drop-cons order i d l)) ∙ h)

-- One that isn't Open leaves the next one to those after it.
pub next_step : (p : ProblemData) (node : List Mark) (order : List ℕ) (i d : ℕ) → i < length order → is_open (mark_at node (get_or order i d)) ≡ false
    → next_in p node (drop i order) ≡ next_in p node order → next_in p node (drop (i + 1) order) ≡ next_in p node order
next_step p node order i d l e h =
    rw add-one (sym (ap (λ t. cond t (Some (get_or order i d)) (next_in p node (drop (suc i) order))) e) ∙ (sym (ap (next_in p node) (drop-cons order i d l)) ∙ h))
