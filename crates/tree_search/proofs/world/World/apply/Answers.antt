use Rattle.std.proofs.Common.{subst, sym}
use Rattle.tree_search.specs.declared.event.Event.{Event}
use Rattle.tree_search.specs.declared.event.Event.TheVariants.{Take, Look, Work, Tell, Give}
use Rattle.tree_search.specs.Worlds.{Happens}
use Rattle.tree_search.proofs.WorldLemmas.{happens_of}
use Rattle.tree_search.proofs.world.World.apply.Goals as goal

pub returns-in_ok-take-in-Take-clause-world : goal.returns-in_ok-take-in-Take-clause-world
returns-in_ok-take-in-Take-clause-world g c =
    happens_of (g.T.Goal.rules c.args.goal.now) (Take c.in-Take.worker) c.args.self.now c.take.new.self c.in_ok-take-in-Take.ensures.event c.requires.world

pub returns-in-Look-clause-world : goal.returns-in-Look-clause-world
returns-in-Look-clause-world g c = happens_of (g.T.Goal.rules c.args.goal.now) (Look c.in-Look.worker) c.args.self.now c.look.new.self c.look.ensures c.requires.world

pub returns-in-Work-clause-event : goal.returns-in-Work-clause-event
returns-in-Work-clause-event g c = subst (λ (e : Event). Happens (g.T.Goal.rules c.args.goal.now) e c.args.self.now c.work.new.self) (sym c.in-Work.is) c.work.ensures.event

pub returns-in-Work-clause-world : goal.returns-in-Work-clause-world
returns-in-Work-clause-world g c = happens_of (g.T.Goal.rules c.args.goal.now) (Work c.in-Work.worker) c.args.self.now c.work.new.self c.work.ensures.event c.requires.world

pub returns-in-Tell-clause-world : goal.returns-in-Tell-clause-world
returns-in-Tell-clause-world g c = happens_of (g.T.Goal.rules c.args.goal.now) (Tell c.in-Tell.worker) c.args.self.now c.tell.new.self c.tell.ensures c.requires.world

pub returns-in_ok-give-in-Give-clause-world : goal.returns-in_ok-give-in-Give-clause-world
returns-in_ok-give-in-Give-clause-world g c =
    happens_of (g.T.Goal.rules c.args.goal.now) (Give c.in-Give.from c.in-Give.to) c.args.self.now c.give.new.self c.in_ok-give-in-Give.ensures.event c.requires.world
