use Rattle.std.proofs.Common.{◌≡◌, ◌∙◌, ap, sym, length, arith}
use Rattle.offer_model.proofs.NodeLemmas.{length-open_node}
use Rattle.offer_model.specs.Nodes.{opens}
use Rattle.proof_tree.proofs.StandLemmas.{opens-open_node}
use Rattle.proof_tree.proofs.path.Path.new.Goals as goal

pub invariant_of-result : goal.invariant_of-result
invariant_of-result c =
    let n = c.args.n in
    let same = c.in_ok-node.ensures in
    let size : length c.in_ok-node.node ≡ n = ap length same ∙ length-open_node n in
    record {
      fits = rw c.in_ok-frames.ensures.items (ap opens same ∙ opens-open_node n ∙ sym size);
      none = λ t. ap length c.in_ok-frames.ensures.items;
      room = omega (arith, c.in_ok-frames.ensures.capacity, c.in_ok-frames.ensures.exact);
    }
