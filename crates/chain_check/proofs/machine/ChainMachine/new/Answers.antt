use Rattle.chain_check.proofs.AcceptedLemmas.{first_awaits}
use Rattle.chain_check.proofs.machine.ChainMachine.new.Goals as goal

pub returns : goal.returns
returns c = first_awaits c.args.chain.now c.in_ok-judge.judge.chain c.in_ok-judge.ensures.valid c.in_ok-judge.ensures.chain
