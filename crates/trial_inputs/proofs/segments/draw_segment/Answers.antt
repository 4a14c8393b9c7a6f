use Rattle.std.proofs.Common.{sym, subst, ◌∙◌, arith}
use Rattle.offer_model.specs.Validity.{IsSegment}
use Rattle.trial_inputs.proofs.WordLemmas.{state_drawn}
use Rattle.trial_inputs.proofs.SegmentLemmas.{segment_drawn, segment_valid}
use Rattle.trial_inputs.proofs.segments.draw_segment.Goals as goal

pub new-requires : goal.new-requires
new-requires c = subst IsSegment
    (sym (segment_drawn c.args.rng.now c.draw-head.new.rng c.args.count c.draw-head.result c.in_ok-attract.attract.items c.in_ok-shadow.shadow.items
    c.draw-head.ensures.word c.draw-head.ensures.state c.in_ok-attract.ensures.numbers c.in_ok-shadow.ensures))
    (segment_valid c.args.rng.now c.args.count 0)

pub returns-clause-segment : goal.returns-clause-segment
returns-clause-segment c = c.new.ensures
    ∙ segment_drawn c.args.rng.now c.draw-head.new.rng c.args.count c.draw-head.result c.in_ok-attract.attract.items c.in_ok-shadow.shadow.items
    c.draw-head.ensures.word c.draw-head.ensures.state c.in_ok-attract.ensures.numbers c.in_ok-shadow.ensures

pub returns-clause-state : goal.returns-clause-state
returns-clause-state c =
    state_drawn c.args.rng.now c.draw-head.new.rng c.draw_numbers.new.rng 1 c.args.count _ c.draw-head.ensures.state c.in_ok-attract.ensures.state (omega arith)
