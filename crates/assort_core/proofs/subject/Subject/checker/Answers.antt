use Rattle.assort_core.proofs.subject.Subject.checker.Goals as goal

pub returns-in-Problem : goal.returns-in-Problem
returns-in-Problem c = rw c.in-Problem.is c.for_problem.ensures

pub returns-in-Chain : goal.returns-in-Chain
returns-in-Chain c = rw c.in-Chain.is c.for_chain.ensures
