use Rattle.std.proofs.Common.{rules, subst, sym}
use Rattle.std.specs.List.{All}
use Rattle.std.proofs.lemmas.List.Elements.{All-take, All-drop}
use Rattle.std.proofs.lemmas.Result.{on_ok_weaker}
use Rattle.tree_search.specs.Worlds.{IsWorkerOf}
use Rattle.tree_search.proofs.WorldLemmas.{gives_later, gives_earlier}
use Rattle.tree_search.proofs.worker.give_between.Goals as goal

pub give-requires : goal.give-requires
give-requires c = record {
  products = (
    subst (All (IsWorkerOf c.args.n)) (sym c.split_at_mut-front.ensures.front) (All-take (IsWorkerOf c.args.n) c.args.to c.args.workers.now c.requires.products) c.args.from _ (search rules),
    subst (All (IsWorkerOf c.args.n)) (sym c.split_at_mut-front.ensures.back) (All-drop (IsWorkerOf c.args.n) c.args.to c.args.workers.now c.requires.products) 0 _ (search rules),
  );
}

pub give-requires-else-from-to : goal.give-requires-else-from-to
give-requires-else-from-to c = record {
  products = (
    subst (All (IsWorkerOf c.args.n)) (sym c.split_at_mut-front-else-from-to.ensures.back) (All-drop (IsWorkerOf c.args.n) c.args.from c.args.workers.now c.requires.products) 0 _ (search rules),
    subst (All (IsWorkerOf c.args.n)) (sym c.split_at_mut-front-else-from-to.ensures.front) (All-take (IsWorkerOf c.args.n) c.args.from c.args.workers.now c.requires.products) c.args.to _
        (search rules),
  );
}

pub returns-then-from-to-clause-given : goal.returns-then-from-to-clause-given
returns-then-from-to-clause-given c =
    on_ok_weaker c.give.result
    (gives_later c.args.workers.now c.split_at_mut-front.result.0.now c.split_at_mut-front.result.1.now c.args.from c.args.to c.index-front-from.result c.index-back-0.result
    c.give.new.giver c.give.new.taker c.split_at_mut-front.ensures.value c.split_at_mut-front.ensures.front_len (search rules) (search rules) c.args.n)
    c.give.ensures.given

pub returns-else-from-to-clause-given : goal.returns-else-from-to-clause-given
returns-else-from-to-clause-given c =
    on_ok_weaker c.give-else-from-to.result
    (gives_earlier c.args.workers.now c.split_at_mut-front-else-from-to.result.0.now c.split_at_mut-front-else-from-to.result.1.now c.args.to c.args.from c.index-front-to.result
    c.index-back-0-else-from-to.result c.give-else-from-to.new.taker c.give-else-from-to.new.giver c.split_at_mut-front-else-from-to.ensures.value
    c.split_at_mut-front-else-from-to.ensures.front_len (search rules) (search rules) c.args.n)
    c.give-else-from-to.ensures.given
