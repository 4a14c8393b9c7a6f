use Rattle.std.proofs.Common.{◌≡◌, ◌∙◌, ◌+◌, ◌<◌, length, ap, refl, arith, rules}
use Rattle.std.specs.Prelude.{slice_set}
use Rattle.std.proofs.lemmas.List.{length-set, length_push}
use Rattle.offer_model.specs.Problems.{product_count}
use Rattle.offer_model.specs.Nodes.{open_node}
use Rattle.linear_step.specs.Weights.{prices_of}
use Rattle.proof_tree.specs.Pens.{lines_data}
use Rattle.proof_write.specs.Leaves.{path_node, leaf_line}
use Rattle.proof_lines.specs.Writing.{offered_end}
use Rattle.proof_write.proofs.LeafLemmas.{marked_beside, marked_along, sides_more, leaves_all, data_push, data_length}
use Rattle.proof_write.proofs.PathLemmas.{node-length, node-open}
use Rattle.proof_write.proofs.leaves.leaves_at.Goals as goal

pub loop-k-init : goal.loop-k-init
loop-k-init g c =
    let count : length c.products.result.now.items ≡ product_count c.args.p.now = ap length c.products.ensures.value in
    let long : c.len.result ≡ length c.args.x.now = omega arith in
    record {
      node = c.in_ok-node.ensures ∙ ap open_node long ∙ node-open c.args.x.now;
      each = search rules;
      sides = λ k l. absurd (omega arith);
      room = search rules;
      fits = λ q. (λ h. h, λ h. h);
    }

pub set-requires : goal.set-requires
set-requires g c =
    let same = ap length c.loop-k.invariant.node in
    let long = node-length c.args.x.now c.loop-k.k in
    let inside = c.end_of_offered-end.ensures.inside in
    omega arith

pub close-requires-clause-node : goal.close-requires-clause-node
close-requires-clause-node g c =
    let same = ap length (c.set.ensures ∙ ap (λ n. slice_set n c.loop-k.k c.mark_of.result) c.loop-k.invariant.node) in
    let set = length-set (path_node c.args.x.now c.loop-k.k) c.loop-k.k c.mark_of.result in
    let long = node-length c.args.x.now c.loop-k.k in
    same ∙ set ∙ long ∙ c.requires.length

pub set-requires-in-loop-k : goal.set-requires-in-loop-k
set-requires-in-loop-k g c =
    let same = ap length (c.set.ensures ∙ ap (λ n. slice_set n c.loop-k.k c.mark_of.result) c.loop-k.invariant.node) in
    let set = length-set (path_node c.args.x.now c.loop-k.k) c.loop-k.k c.mark_of.result in
    let long = node-length c.args.x.now c.loop-k.k in
    let inside = c.end_of_offered-end.ensures.inside in
    omega arith

pub loop-k-preserved : goal.loop-k-preserved
loop-k-preserved g c =
    let x = c.args.x.now in
    let k = c.loop-k.k in
    let held = c.loop-k.invariant in
    let inside = c.end_of_offered-end.ensures.inside in
    let below : k < length x = omega arith in
    let beside = c.set.ensures ∙ marked_beside x c.loop-k.node k c.mark_of.result c.offers.result held.node c.mark_of.ensures c.offers.ensures in
    let closed = c.in_ok-close.ensures in
    let pushed = c.push_reserved.ensures in
    record {
      node = c.set-in-loop-k.ensures ∙ marked_along x c.set.new.self k c.mark_of-in-loop-k.result c.offers-in-loop-k.result below beside c.mark_of-in-loop-k.ensures c.offers-in-loop-k.ensures;
      each = ap length pushed.items ∙ length_push c.loop-k.leaves.items c.line_of.result ∙ ap (λ n. n + 1) held.each;
      sides = sides_more c.args.p.now (prices_of c.args.weights.now) x k (lines_data c.loop-k.leaves.items) (lines_data c.push_reserved.new.self.items) c.set.new.self (leaf_line c.in_ok-close.field-0)
          (ap lines_data pushed.items ∙ data_push c.loop-k.leaves.items c.line_of.result (leaf_line c.in_ok-close.field-0) c.line_of.ensures)
          (data_length c.loop-k.leaves.items ∙ held.each) held.sides beside (c.in_ok-close.field-0, closed.answer, refl);
      room = search rules;
      fits = λ q. (λ h. (closed.fits q).0 ((held.fits q).0 h), λ h. (held.fits q).1 ((closed.fits q).1 h));
    }

pub close-requires-2-clause-node : goal.close-requires-2-clause-node
close-requires-2-clause-node g c = ap length c.loop-k.invariant.node ∙ node-length c.args.x.now c.loop-k.k ∙ c.requires.length

pub returns-clause-leaves : goal.returns-clause-leaves
returns-clause-leaves g c =
    let x = c.args.x.now in
    let held = c.loop-k.invariant in
    let value = c.end_of_offered-end.ensures.value in
    leaves_all c.args.p.now (prices_of c.args.weights.now) x (offered_end x) c.loop-k.k (lines_data c.loop-k.leaves.items) (lines_data c.push_reserved-2.new.self.items)
    c.loop-k.node (leaf_line c.in_ok-close-2.field-0) (omega arith)
    (ap lines_data c.push_reserved-2.ensures.items ∙ data_push c.loop-k.leaves.items c.line_of-2.result (leaf_line c.in_ok-close-2.field-0) c.line_of-2.ensures)
    (data_length c.loop-k.leaves.items ∙ held.each) held.sides held.node (c.in_ok-close-2.field-0, c.in_ok-close-2.ensures.answer, refl)
