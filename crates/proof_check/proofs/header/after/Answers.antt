use Rattle.std.proofs.Common.{subst}
use Rattle.proof_check.specs.Headers.{ModelBy}
use Rattle.proof_check.proofs.HeaderLemmas.{start_leads, model_leads, set_leads, value_leads}
use Rattle.proof_check.proofs.header.after.Goals as goal

pub returns-in-Start-clause-leads : goal.returns-in-Start-clause-leads
returns-in-Start-clause-leads c = rw c.in-Start.is
    (start_leads c.args.leaves.now.problem c.args.leaves.now.set c.args.line.now c.args.read c.args.numbers.now.items c.after_start.result c.requires.read c.after_start.ensures)

pub returns-in-Model-clause-leads : goal.returns-in-Model-clause-leads
returns-in-Model-clause-leads c = rw c.in-Model.is
    (model_leads c.args.leaves.now.problem c.args.leaves.now.set c.args.line.now c.args.read c.args.numbers.now.items c.after_model.result c.requires.read
    (subst (λ z. ModelBy c.args.read z c.after_model.result) c.model.ensures c.after_model.ensures))

pub returns-in-Set-clause-leads : goal.returns-in-Set-clause-leads
returns-in-Set-clause-leads c = rw c.in-Set.is
    (set_leads c.args.leaves.now.problem c.after_set.new.leaves.set c.args.line.now c.args.read c.args.numbers.now.items c.after_set.result c.requires.read c.after_set.ensures.set)

pub returns-in-Value-clause-leads : goal.returns-in-Value-clause-leads
returns-in-Value-clause-leads c = rw c.in-Value.is
    (value_leads c.args.leaves.now.problem c.args.leaves.now.set c.args.line.now c.args.read c.args.numbers.now.items c.after_value.result c.requires.read c.after_value.ensures)
