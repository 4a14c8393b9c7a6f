use Rattle.std.proofs.Common.{rules}
use Rattle.offer_model.specs.Chains.{place_count}
use Rattle.chain_check.specs.Vectors.{AreMost}
use Rattle.chain_check.proofs.VectorLemmas.{most_small}
use Rattle.chain_check.proofs.judge.Judge.gives_lo.Goals as goal

pub lo_of-requires-clause-small : goal.lo_of-requires-clause-small
lo_of-requires-clause-small c =
    let most : AreMost (place_count c.self.inside.chain) c.self.inside.most c.deref-4.result.now = search rules in
    most_small (place_count c.self.inside.chain) c.self.inside.most c.deref-4.result.now c.self.invariant.small most
