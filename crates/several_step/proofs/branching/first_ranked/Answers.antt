use Rattle.std.proofs.Common.{sym, arith, rules}
use Rattle.std.specs.Prelude.{pos}
use Rattle.several_step.specs.declared.branch_order.Ranked.{Ranked}
use Rattle.several_step.proofs.OpenLemmas.{ranked_is, ranked_none}
use Rattle.several_step.proofs.branching.first_ranked.Goals as goal

pub returns-then-is_open_at : goal.returns-then-is_open_at
returns-then-is_open_at c =
    let none : Ranked = record { priority = pos 0; product = 0 } in
    sym (ranked_is c.args.order.now c.args.node.now c.loop-k.k none (omega arith) (λ j m. c.loop-k.invariant j none m) (search rules))

pub returns : goal.returns
returns c =
    let none : Ranked = record { priority = pos 0; product = 0 } in
    sym (ranked_none c.args.order.now c.args.node.now none (λ j m. c.loop-k.invariant j none (omega arith)))
