use Rattle.std.proofs.Common.{rules, ◌≡◌, ◌∙◌, length, arith, sym}
use Rattle.std.specs.Prelude.{pos}
use Rattle.std.proofs.lemmas.List.{ext_get_or}
use Rattle.cut_step.proofs.flow.set_excess.Goals as goal

pub returns : goal.returns
returns c =
    let long : length c.loop-i.excess ≡ length c.args.excess.now = search rules in
    ext_get_or (pos 0) c.loop-i.excess c.args.weights.now.items (long ∙ sym c.requires) (λ k l. c.loop-i.invariant k (omega (arith, l, c.loop-i-test.false, long)))
