use Rattle.proof_write.proofs.PathRuleLemmas.{turn_seen, turns_open, stands_near_seen}
use Rattle.proof_write.proofs.path_rule.PathRuleTreeRule.branch.Goals as goal

pub turn_of-requires-clause-near : goal.turn_of-requires-clause-near
turn_of-requires-clause-near c = stands_near_seen c.args.self.now c.self.inside.best.now _ c.args.depth c.args.node.now c.self.view_is c.requires.stands

pub returns-clause-open : goal.returns-clause-open
returns-clause-open c =
    turns_open c.args.self.now c.args.node.now c.turn_of.result
    (turn_seen c.args.self.now c.self.inside.best.now _ c.args.node.now c.turn_of.result c.self.view_is c.turn_of.ensures) c.requires.none
