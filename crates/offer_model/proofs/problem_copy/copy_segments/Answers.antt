use Rattle.std.proofs.Common.{◌++◌, ◌∷◌, [], ap, ◌∙◌, arith}
use Rattle.offer_model.proofs.ListLemmas.{copied_more}
use Rattle.offer_model.proofs.problem_copy.copy_segments.Goals as goal

pub loop-k-preserved : goal.loop-k-preserved
loop-k-preserved c = record {
  copied = copied_more c.args.segments.now.items c.loop-k.copy.items c.push.new.self.items c.loop-k.k c.get.result.now c.get.ensures c.loop-k.invariant.copied
      (c.push.ensures.items ∙ ap (λ z. c.loop-k.copy.items ++ z ∷ []) c.in_ok-copy.ensures);
  room = omega (arith, c.push.ensures.spare, c.loop-k.invariant.room);
}
