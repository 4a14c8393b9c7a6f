use Rattle.several_step.specs.SearchFits.{FitsBounding, IsAsBefore}
use Rattle.several_step.specs.Firsts.{IsFirst}
use Rattle.several_step.proofs.bounding.Bounding.descend.Given as goal

abbrev pub invariant-loop-round : goal.invariant-loop-round
invariant-loop-round l = record {
  fits : FitsBounding l.p l.self;
  same : IsAsBefore l.fn.self l.self;
  first : IsFirst l.p l.node l.self.first;
}
