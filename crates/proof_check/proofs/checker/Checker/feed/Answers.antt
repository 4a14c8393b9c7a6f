use Rattle.std.proofs.Common.{◌++◌, sym, subst}
use Rattle.proof_tree.specs.Feeding.{FeederData}
use Rattle.proof_check.specs.Waiting.{AnyMachine, Takes}
use Rattle.proof_check.proofs.checker.Checker.feed.Goals as goal

pub returns : goal.returns
returns c = λ r.
    let h = c.feed.ensures r in (
      λ t. subst (λ (f : FeederData AnyMachine). Takes f (c.args.piece.now ++ r)) c.self.view_is (h.0 t),
      λ t. h.1 (subst (λ (f : FeederData AnyMachine). Takes f (c.args.piece.now ++ r)) (sym c.self.view_is) t),
    )
