use Rattle.std.proofs.Common.{◌≡◌, ◌-◌, ◌≤◌}
use Rattle.std.specs.Prelude.{◌↔◌}
use Rattle.offer_model.specs.Problems.{ProblemData, product_count}
use Rattle.offer_model.specs.Ranges.{IsInBounds}
use Rattle.offer_model.specs.Revenue.{revenue_of}
use Rattle.ratio_loop.specs.Trials.{most_trials}
use Rattle.ratio_loop.proofs.LoopFacts.{IsReached}
use Rattle.ratio_loop.proofs.trials.earning_most.Given as goal

-- The trials so far have led to what was found.
abbrev pub invariant-trials : goal.invariant-trials
invariant-trials g l = record {
  more : l.fn.steps ≤ l.steps;
  reached : IsReached l.p l.found (l.steps - l.fn.steps);
  at : l.at ≡ revenue_of l.p l.found;
  bounds : IsInBounds l.at;
  room : product_count l.p ≤ l.weights.room;
  fits : (q : ProblemData) → g.T.Step.fits l.fn.step q ↔ g.T.Step.fits l.step q;
}

-- How many trials there may still be.
abbrev pub decreases-trials : goal.decreases-trials
decreases-trials g l = most_trials - (l.steps - l.fn.steps)
