use Rattle.std.proofs.Common.{◌≡◌, ℕ, ◌+◌, ◌*◌, suc-mul, add-one, sym, ap, ◌∙◌, arith}
use Rattle.trial_inputs.specs.TrialInputs.{state_at, segment_from}
use Rattle.trial_inputs.proofs.WordLemmas.{state_at-none, state_drawn}
use Rattle.trial_inputs.proofs.ListedLemmas.{listed_more}
use Rattle.trial_inputs.proofs.SegmentLemmas.{segment_from-later}
use Rattle.trial_inputs.proofs.segments.draw_segments.Goals as goal

-- One more row of m places.
row_more : (g m : ℕ) → g * m + m ≡ (g + 1) * m
row_more g m = sym (ap (λ k. k * m) (add-one g) ∙ suc-mul g m)

pub loop-g-init : goal.loop-g-init
loop-g-init c = record {
  drawn = c.in_ok-reserve.ensures.items ∙ c.new-segments.ensures;
  state = sym (state_at-none c.args.rng.now) ∙ ap (state_at c.args.rng.now) (omega arith);
  room = omega (arith, c.in_ok-reserve.ensures.room);
}

pub loop-g-preserved : goal.loop-g-preserved
loop-g-preserved c = record {
  drawn = listed_more (λ g. segment_from c.args.rng.now c.args.count (g * (c.args.count + 1))) c.loop-g.segments.items c.push.new.self.items c.loop-g.g
      c.in_ok-draw_segment.field-0 c.loop-g.invariant.drawn
      (c.in_ok-draw_segment.ensures.segment ∙ ap (λ u. segment_from u c.args.count 0) c.loop-g.invariant.state
      ∙ segment_from-later c.args.rng.now (c.loop-g.g * (c.args.count + 1)) 0 c.args.count
      ∙ ap (segment_from c.args.rng.now c.args.count) (omega arith)) c.push.ensures.items;
  state = state_drawn c.args.rng.now c.loop-g.rng c.draw_segment.new.rng (c.loop-g.g * (c.args.count + 1)) (c.args.count + 1) _
      c.loop-g.invariant.state c.in_ok-draw_segment.ensures.state (row_more c.loop-g.g (c.args.count + 1));
  room = omega (arith, c.push.ensures.spare, c.loop-g.invariant.room);
}
