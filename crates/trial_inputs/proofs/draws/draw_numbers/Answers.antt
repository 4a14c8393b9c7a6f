use Rattle.std.proofs.Common.{◌+◌, ◌%◌, refl, sym, ap, ◌∙◌, arith}
use Rattle.trial_inputs.specs.TrialInputs.{word_at}
use Rattle.trial_inputs.proofs.WordLemmas.{state_at-none, word_drawn, state_drawn}
use Rattle.trial_inputs.proofs.ListedLemmas.{listed_more}
use Rattle.trial_inputs.proofs.draws.draw_numbers.Goals as goal

pub loop-i-init : goal.loop-i-init
loop-i-init c = record {
  drawn = c.in_ok-reserve.ensures.items ∙ c.new-numbers.ensures;
  state = sym (state_at-none c.args.rng.now);
  room = omega (arith, c.in_ok-reserve.ensures.room);
}

pub loop-i-preserved : goal.loop-i-preserved
loop-i-preserved c = record {
  drawn = listed_more (λ i. c.args.least + word_at c.args.rng.now i % c.args.span) c.loop-i.numbers.items c.push.new.self.items c.loop-i.i _ c.loop-i.invariant.drawn
      (ap (λ w. c.args.least + w % c.args.span)
      (word_drawn c.args.rng.now c.loop-i.rng c.draw.result c.loop-i.i c.loop-i.invariant.state c.draw.ensures.word)) c.push.ensures.items;
  state = state_drawn c.args.rng.now c.loop-i.rng c.draw.new.rng c.loop-i.i 1 (c.loop-i.i + 1) c.loop-i.invariant.state c.draw.ensures.state refl;
  room = omega (arith, c.push.ensures.spare, c.loop-i.invariant.room);
}
