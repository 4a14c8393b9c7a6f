use Rattle.std.proofs.Common.{subst}
use Rattle.chain_check.specs.Stages.{phase_at, Leads}
use Rattle.chain_check.specs.Waiting.ChainPhase.{at_set, at_value}
use Rattle.chain_check.proofs.StageLemmas.{start_leads, model_leads, end_leads, set_leads, value_leads, upper_leads, lower_leads}
use Rattle.chain_check.proofs.stages.after.Goals as goal

pub returns-in-Start-clause-leads : goal.returns-in-Start-clause-leads
returns-in-Start-clause-leads c = rw c.in-Start.is
    (start_leads c.args.judge.now.chain c.args.judge.now c.args.line.now c.args.read c.args.numbers.now.items c.after_shape.result c.requires.read c.after_shape.ensures)

pub returns-in-Model-clause-leads : goal.returns-in-Model-clause-leads
returns-in-Model-clause-leads c = rw c.in-Model.is
    (model_leads c.args.judge.now.chain c.args.judge.now c.args.line.now c.args.read c.args.numbers.now.items c.after_shape-in-Model.result c.requires.read c.after_shape-in-Model.ensures)

pub returns-in-End-clause-leads : goal.returns-in-End-clause-leads
returns-in-End-clause-leads c = rw c.in-End.is
    (end_leads c.args.judge.now.chain c.args.judge.now c.args.line.now c.args.read c.args.numbers.now.items c.after_shape-in-End.result c.requires.read c.after_shape-in-End.ensures)

pub returns-in-Set-clause-leads : goal.returns-in-Set-clause-leads
returns-in-Set-clause-leads c =
    let j = c.after_set.new.judge in
    let after = phase_at c.after_set.result j in
    let leads = set_leads j c.args.line.now c.args.read c.args.numbers.now.items c.after_set.result c.requires.read c.after_set.ensures.set in
    rw c.in-Set.is (subst (λ z. Leads z at_set after c.args.line.now) c.after_set.ensures.chain leads)

pub returns-in-Value-clause-leads : goal.returns-in-Value-clause-leads
returns-in-Value-clause-leads c =
    let j = c.after_value.new.judge in
    let after = phase_at c.after_value.result j in
    let leads = value_leads j c.args.line.now c.args.read c.args.numbers.now.items c.after_value.result c.requires.read c.after_value.ensures.value in
    rw c.in-Value.is (subst (λ z. Leads z (at_value c.args.judge.now.set) after c.args.line.now) c.after_value.ensures.chain
    (subst (λ z. Leads j.chain (at_value z) after c.args.line.now) c.after_value.ensures.set leads))

pub returns-in-Upper-clause-leads : goal.returns-in-Upper-clause-leads
returns-in-Upper-clause-leads c =
    let leads = upper_leads c.args.judge.now c.args.line.now c.args.read c.args.numbers.now.items c.after_upper.result c.requires.read c.after_upper.ensures.upper in
    rw (c.in-Upper.is, c.after_upper.ensures.kept) leads

pub returns-in-Lower-clause-leads : goal.returns-in-Lower-clause-leads
returns-in-Lower-clause-leads c =
    let leads = lower_leads c.args.judge.now c.args.line.now c.args.read c.args.numbers.now.items c.after_lower.result c.requires.read c.after_lower.ensures.lower in
    rw (c.in-Lower.is, c.after_lower.ensures.kept) leads
