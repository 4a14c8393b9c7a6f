use Rattle.std.proofs.Common.{◌≡◌, ◌∙◌, get_or, refl}
use Rattle.offer_model.specs.Chains.{place_count}
use Rattle.chain_moves.proofs.RowLemmas.{parts_put, parts_end}
use Rattle.chain_moves.proofs.rows.rows_of.Goals as goal

pub each-preserved : goal.each-preserved
each-preserved c =
    let same : c.as_slice-arcs.result.now ≡ c.args.chain.now.arcs = c.as_slice-arcs.ensures ∙ c.arcs.ensures.value in
    let inside = rw same at c.each-test.true in
    parts_put c.args.chain.now.arcs (place_count c.args.chain.now) c.each.arc-index c.each.rows.items c.put.new.rows.items
    (get_or c.args.chain.now.arcs c.each.arc-index (record { from = 0; to = 0; parts = 0 })) (record { from = 0; to = 0; parts = 0 })
    inside refl c.arcs.ensures.valid.ends (rw same at c.in_ok-put.ensures) c.each.invariant

pub returns : goal.returns
returns c =
    let same : c.as_slice-arcs.result.now ≡ c.args.chain.now.arcs = c.as_slice-arcs.ensures ∙ c.arcs.ensures.value in
    parts_end c.args.chain.now c.each.arc-index c.each.rows.items c.arcs.ensures.valid (rw same at c.each-test.false) c.each.invariant
