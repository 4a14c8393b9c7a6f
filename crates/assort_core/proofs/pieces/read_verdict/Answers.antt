use Rattle.std.proofs.Common.{◌≡◌, sym, rules}
use Rattle.proof_check.specs.Waiting.{Takes}
use Rattle.assort_core.proofs.PieceLemmas.{feeding_begins, feeding_more, feeding_end, both}
use Rattle.assort_core.proofs.pieces.read_verdict.Goals as goal

pub returns-in-Ok-eq0-clause-verdict : goal.returns-in-Ok-eq0-clause-verdict
returns-in-Ok-eq0-clause-verdict g c =
    let none : c.in-Ok-eq0.field-0 ≡ 0 = search rules in
    feeding_end (Takes c.args.checker) (g.S.Store.view c.args.store.now) c.args.name.now c.args.most (Takes c.pieces.checker) c.pieces.taken (g.S.Store.view c.pieces.store)
    c.is_yes.result c.pieces.invariant (λ told. (c.in-Ok-eq0.ensures.end told).0 none) (both c.is_yes.ensures c.finish.ensures)

pub pieces-init : goal.pieces-init
pieces-init g c =
    feeding_begins (Takes c.args.checker) (g.S.Store.view c.args.store.now) c.args.name.now c.args.most (g.S.Store.view c.open.new.self) c.open.result c.open.ensures
    (sym c.if-is_err.ensures.value)

pub pieces-preserved : goal.pieces-preserved
pieces-preserved g c =
    feeding_more (Takes c.args.checker) (g.S.Store.view c.args.store.now) c.args.name.now c.args.most (Takes c.pieces.checker) (Takes c.feed.new.self)
    c.pieces.taken c.next_piece.new.taken c.in-Ok.count c.next_piece.new.piece (g.S.Store.view c.pieces.store) (g.S.Store.view c.next_piece.new.store)
    c.pieces.invariant c.in-Ok.ensures.count c.in-Ok.ensures.taken c.next_piece.ensures.fits c.in-Ok.ensures.bytes c.feed.ensures
    c.next_piece.ensures.reading c.next_piece.ensures.passes
