use Rattle.std.proofs.Common.{◌≡◌, ℕ, Bool, ◌∙◌, length, sym, rules, arith, below_more, not, ◌||◌, true}
use Rattle.offer_model.specs.Nodes.{mark_at, is_in}
use Rattle.several_step.specs.Chains.{rung_at, stands}
use Rattle.several_step.proofs.ChainLemmas.{all_yes, all_no}
use Rattle.several_step.proofs.chains.stands_beside.Goals as goal

pub returns-then-not-leaves : goal.returns-then-not-leaves
returns-then-not-leaves c =
    let test : ℕ → Bool = λ r. not (is_in (mark_at c.args.node.now (rung_at c.args.rungs.now r).at)) || stands (rung_at c.args.rungs.now r) (rung_at c.args.rungs.now c.args.k) in
    sym (all_no (length c.args.rungs.now) c.loop-r.r test (omega arith) (search rules))

pub loop-r-preserved : goal.loop-r-preserved
loop-r-preserved c = below_more (λ r. (not (is_in (mark_at c.args.node.now (rung_at c.args.rungs.now r).at)) || stands (rung_at c.args.rungs.now r) (rung_at c.args.rungs.now c.args.k)) ≡ true) c.loop-r.r c.loop-r.invariant (search rules)

pub returns : goal.returns
returns c =
    let test : ℕ → Bool = λ r. not (is_in (mark_at c.args.node.now (rung_at c.args.rungs.now r).at)) || stands (rung_at c.args.rungs.now r) (rung_at c.args.rungs.now c.args.k) in
    sym (all_yes (length c.args.rungs.now) test (λ r l. c.loop-r.invariant r (omega arith)))
