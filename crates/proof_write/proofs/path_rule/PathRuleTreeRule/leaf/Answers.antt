use Rattle.std.proofs.Common.{◌≡◌, ◌∙◌, ◌++◌, ◌∷◌, [], ◌<◌, ap, arith, length, sym, subst, Bool, false, IsTrue}
use Rattle.proof_lines.proofs.ShortLines.{line_short}
use Rattle.proof_lines.specs.Lines.{line_text}
use Rattle.proof_lines.specs.Writing.{offered_end}
use Rattle.proof_tree.specs.Pens.{line_data}
use Rattle.proof_write.specs.Leaves.{leaf_at}
use Rattle.proof_write.specs.PathRules.{PathData}
use Rattle.proof_write.proofs.LeafLemmas.{data_at}
use Rattle.proof_write.proofs.PathLemmas.{end-inside}
use Rattle.proof_write.proofs.PathRuleLemmas.{turn_seen, leaf_printable, says_leaf, stands_near_seen}
use Rattle.proof_write.proofs.path_rule.PathRuleTreeRule.leaf.Goals as goal

pub turn_of-k-requires-clause-near : goal.turn_of-k-requires-clause-near
turn_of-k-requires-clause-near c = stands_near_seen c.args.self.now c.self.inside.best.now _ c.args.depth c.args.node.now c.self.view_is c.requires.stands

pub goes_on-requires : goal.goes_on-requires
goes_on-requires c =
    let inside = end-inside c.self.inside.best.now in
    let best = ap (λ (z : PathData). length z.best) c.self.view_is in
    omega (arith, c.self.invariant.last, c.requires.each)

pub print_line-requires-clause-line : goal.print_line-requires-clause-line
print_line-requires-clause-line c =
    (leaf_printable c.self.inside.leaves.items c.turn_of-k.result c.index.result.now c.self.invariant.printable (omega (arith, c.self.invariant.each, c.self.invariant.last, c.turn_of-k.ensures.inside)) c.index.ensures).grammar

pub print_line-requires-clause-room : goal.print_line-requires-clause-room
print_line-requires-clause-room c =
    let own = leaf_printable c.self.inside.leaves.items c.turn_of-k.result c.index.result.now c.self.invariant.printable (omega (arith, c.self.invariant.each, c.self.invariant.last, c.turn_of-k.ensures.inside)) c.index.ensures in
    let short = line_short c.index.result.now.shape c.index.result.now.numbers.items own.grammar (omega (arith, own.few)) in
    omega (arith, c.requires.room)

pub returns-clause-leaf : goal.returns-clause-leaf
returns-clause-leaf c =
    let r = c.args.self.now in
    let k = c.turn_of-k.result in
    let best = ap (λ (z : PathData). z.best) c.self.view_is in
    let end : offered_end r.best ≡ c.self.inside.end = ap offered_end (sym best) ∙ sym c.self.invariant.last in
    let is = ap (λ (z : PathData). leaf_at z.leaves k) (sym c.self.view_is) ∙ data_at c.self.inside.leaves.items k c.index.result.now (omega (arith, c.self.invariant.each, c.self.invariant.last, c.turn_of-k.ensures.inside)) c.index.ensures in
    says_leaf r c.args.node.now k (line_data c.index.result.now) c.print_line.new.out.items
    (turn_seen r c.self.inside.best.now _ c.args.node.now k c.self.view_is c.turn_of-k.ensures)
    (λ b o. untrue _ c.if-goes_on.false (c.goes_on.ensures.1 (subst (λ z. k < z) end b, o))) is
    (c.print_line.ensures.text ∙ ap (λ z. z ++ (line_text c.index.result.now.shape c.index.result.now.numbers.items ++ 10 ∷ [])) c.requires.empty)
  where
    untrue : (b : Bool) → b ≡ false → IsTrue b → ⊥
    untrue b e t = cc
