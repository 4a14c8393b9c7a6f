use Rattle.std.proofs.Common.{subst, ◌↔◌, ℕ, List, ◌∷◌}
use Rattle.proof_tree.proofs.FeedingLemmas.{line_step}
use Rattle.proof_tree.proofs.feeder.Feeder.take_line.Goals as goal

pub returns : goal.returns
returns g c = line_step g.M.LineMachine.waits c.args.self.now c.self.inside.machine c.take.new.self c.self.inside.begun.items c.clear.new.self.items
    c.self.view_is c.clear.ensures.items c.self.invariant.one_line c.self.invariant.most
    (subst (λ z. (ls : List (List ℕ)) → g.M.LineMachine.waits c.take.new.self ls ↔ g.M.LineMachine.waits c.self.inside.machine (z ∷ ls)) c.as_slice.ensures c.take.ensures)
