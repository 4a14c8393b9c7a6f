use Rattle.std.proofs.Common.{◌+◌, ◌≤◌}
use Rattle.std.specs.Prelude.{◌↔◌}
use Rattle.offer_model.specs.Problems.{ProblemData}
use Rattle.ratio_loop.proofs.LoopFacts.{Leads}
use Rattle.ratio_loop.proofs.ties.first_of_equals.Given as goal

-- What was found leads the products so far.
abbrev pub invariant-loop-i : goal.invariant-loop-i
invariant-loop-i g l = record {
  count : l.steps ≤ l.fn.steps + l.i;
  leads : Leads l.p l.at l.i l.node l.found;
  fits : (q : ProblemData) → g.T.Step.fits l.fn.step q ↔ g.T.Step.fits l.step q;
}
