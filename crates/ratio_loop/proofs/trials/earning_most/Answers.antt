use Rattle.std.proofs.Common.{arith}
use Rattle.ratio_loop.proofs.TrialLemmas.{never_none, trials_begin, trials_go_on, trials_end}
use Rattle.ratio_loop.proofs.trials.earning_most.Goals as goal

pub trials-init : goal.trials-init
trials-init g c = record {
  more = omega arith;
  reached = trials_begin c.args.p.now c.args.first c.args.steps.now c.revenue-at.ensures.valid c.requires.model c.requires.first;
  at = c.revenue-at.ensures.value;
  bounds = c.revenue-at.ensures.bounds;
  room = c.requires.room;
  fits = λ q. (λ h. h, λ h. h);
}

pub returns-in_default-clause-most : goal.returns-in_default-clause-most
returns-in_default-clause-most g c =
    absurd (never_none c.args.p.now c.args.root.now c.trials.found c.requires.root (rw c.in_default.is at c.in_ok-next.ensures.answer) c.trials.invariant.reached.feasible)

pub returns-then-is_same-clause-most : goal.returns-then-is_same-clause-most
returns-then-is_same-clause-most g c =
    let greatest = rw c.in-Some.is at c.in_ok-next.ensures.answer in
    trials_end c.args.p.now c.trials.at c.revenue-reached.result c.weights_at.new.out c.args.root.now c.trials.found c.in-Some.next _ c.requires.model
    c.trials.invariant.reached (c.trials.invariant.at, c.weights_at.ensures.at, c.requires.root, greatest) c.revenue-reached.ensures.value
    (c.is_same.ensures.0 c.if-is_same.true)

pub trials-preserved : goal.trials-preserved
trials-preserved g c =
    let inv = c.trials.invariant in
    let e = c.in_ok-next.ensures in
    let greatest = rw c.in-Some.is at e.answer in
    record {
      more = omega arith;
      reached = trials_go_on c.args.p.now c.trials.at c.revenue-reached.result c.weights_at.new.out c.args.root.now c.trials.found c.in-Some.next
          c.args.steps.now c.trials.steps c.best.new.steps c.revenue-at.ensures.valid c.requires.model inv.more e.count inv.reached
          (inv.at, c.weights_at.ensures.at, c.requires.root, greatest) c.revenue-reached.ensures.value
          (λ same. let t = c.is_same.ensures.1 same in let f = c.if-is_same.false in cc);
      at = c.revenue-reached.ensures.value;
      bounds = c.revenue-reached.ensures.bounds;
      room = omega arith;
      fits = λ q. (λ h. (e.fits q).0 ((inv.fits q).0 h), λ h. (inv.fits q).1 ((e.fits q).1 h));
    }
