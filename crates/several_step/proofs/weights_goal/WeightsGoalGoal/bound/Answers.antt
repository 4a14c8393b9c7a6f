use Rattle.several_step.proofs.weights_goal.WeightsGoalGoal.bound.Goals as goal

pub returns-clause-same : goal.returns-clause-same
returns-clause-same c = c.self.view_is
