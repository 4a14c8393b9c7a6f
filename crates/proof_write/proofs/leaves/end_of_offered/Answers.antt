use Rattle.std.proofs.Common.{◌≡◌, arith, sym, subst, true}
use Rattle.offer_model.specs.Assortments.{offers}
use Rattle.proof_write.proofs.PathLemmas.{end-is, no_end}
use Rattle.proof_write.proofs.leaves.end_of_offered.Goals as goal

pub returns-then-offers : goal.returns-then-offers
returns-then-offers c = record {
  value = sym (end-is c.args.x.now c.products.end c.products.invariant.past
      (λ i e. subst (λ t. offers c.args.x.now t ≡ true) (omega arith) (sym (c.if-offers.ensures))));
  inside = c.products.invariant.inside;
}

pub returns : goal.returns
returns c = record {
  value = sym (end-is c.args.x.now 0 (λ i l. c.products.invariant.past i (omega arith)) (no_end c.args.x.now));
  inside = omega arith;
}
