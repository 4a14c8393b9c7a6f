use Rattle.limit_rules.specs.LadderProducts.{Collects}
use Rattle.limit_rules.proofs.on_ladder.ladder_products.Given as goal

abbrev pub invariant-loop-i : goal.invariant-loop-i
invariant-loop-i l = Collects l.p l.ladder l.i l.list.items
