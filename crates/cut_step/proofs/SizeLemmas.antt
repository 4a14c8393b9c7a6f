-- Lists that keep their sizes still fit together.
use Rattle.std.proofs.Common.{◌≡◌, ℕ, List, length, arith, sym, subst, ◌∙◌}
use Rattle.std.specs.Prelude.{vec_capacity}
use Rattle.offer_model.specs.declared.node.Mark.{Mark}
use Rattle.cut_step.specs.declared.rows.Row.{Row}
use Rattle.cut_step.specs.Closures.{AreNamed}
use Rattle.cut_step.specs.Sizes.{FitTogether}
use Rattle.cut_step.specs.declared.flow.Flow.{Flow}
use Rattle.cut_step.specs.declared.reach.Reach.{Reach}

-- Lists of the same sizes fit together too.
pub fit_on : (rows : List Row) (node : List Mark) (flow flow' : Flow) (reach reach' : Reach) → FitTogether rows node flow reach
    → length flow'.amounts.items ≡ length flow.amounts.items → length flow'.excess.items ≡ length flow.excess.items
    → length reach'.spots.items ≡ length reach.spots.items → vec_capacity reach'.tree ≡ vec_capacity reach.tree
    → FitTogether rows node flow' reach'
fit_on rows node flow flow' reach reach' h a l s t = record {
  names = subst (λ (n : ℕ). AreNamed rows n) (sym s) h.names;
  each = a ∙ h.each;
  marks = h.marks ∙ sym s;
  excess = l ∙ h.excess ∙ sym s;
  room = let room = h.room in omega (arith, room, s, t);
}
