use Rattle.chain_check.proofs.StageLemmas.{machine_step}
use Rattle.chain_check.proofs.machine.ChainMachineLineMachine.take.Goals as goal

pub returns : goal.returns
returns c = machine_step c.args.self.now c.self.inside.stage c.after-self-inside.result c.self.inside.judge c.after-self-inside.new.judge c.args.line.now c.self.view_is
    c.after-self-inside.ensures.chain c.after-self-inside.ensures.leads
