use Rattle.std.proofs.Common.{◌≡◌, ◌∙◌, false, length, sym, arith}
use Rattle.std.proofs.lemmas.List.{ext_get_or}
use Rattle.std.proofs.Math.ListN.{length-map}
use Rattle.offer_model.specs.Nodes.{fill_of}
use Rattle.limit_rules.proofs.fill.fill_out.Goals as goal

pub returns : goal.returns
returns c =
    let long : length (fill_of c.args.node.now) ≡ length c.args.node.now = simp length-map in
    ext_get_or false c.loop-i.into (fill_of c.args.node.now) (c.loop-i.invariant.long ∙ sym long)
    (λ k l. c.loop-i.invariant.filled k (omega arith))
