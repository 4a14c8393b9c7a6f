use Rattle.std.proofs.Common.{◌≡◌, ◌∙◌, ◌++◌, ◌∷◌, [], ◌↔◌, ap, arith, sym, subst, IsTrue, Bool, true, false}
use Rattle.offer_model.specs.LeafBounds.{segments_bound}
use Rattle.offer_model.specs.Problems.{product_count}
use Rattle.offer_model.specs.Revenue.{value_of}
use Rattle.proof_lines.specs.declared.line.Shape.{Shape}
use Rattle.proof_lines.specs.Lines.{line, line_text}
use Rattle.proof_lines.specs.Writing.{mixed_rule}
use Rattle.proof_tree.specs.Pens.{line_data}
use Rattle.proof_tree.specs.Rules.{SaysLeaf}
use Rattle.proof_tree.specs.SearchRules.{SearchLeaf}
use Rattle.proof_write.specs.Searches.{SearchData, SumCloses}
use Rattle.proof_write.proofs.MixedRuleLemmas.{IsMet, open_says, closed_says, closed_line}
use Rattle.proof_write.proofs.mixed_rule.MixedRuleTreeRule.leaf.Goals as goal

untrue : (b : Bool) → b ≡ false → IsTrue b → ⊥
untrue b e t = cc

pub returns-then-not-sum_closes-clause-leaf : goal.returns-then-not-sum_closes-clause-leaf
returns-then-not-sum_closes-clause-leaf c =
    let p = c.self.inside.problem.now in
    let x = c.self.inside.best.now in
    let us = c.value_leaf-sum.new.leaf.numbers.items in
    let told : IsTrue c.sum_closes.result ↔ SumCloses (segments_bound us) (value_of p x) x c.args.node.now =
    rw (← c.value_leaf-sum.ensures.sum, ← c.self.invariant.value_is) c.sum_closes.ensures in
    let met : IsMet p x c.args.node.now us c.sum_closes.result = record {
      valid = c.self.invariant.valid;
      mixed = c.self.invariant.model;
      best = c.self.invariant.best;
      each = c.requires.each ∙ ap (λ (z : SearchData). product_count z.problem) (sym c.self.view_is);
      values = c.value_leaf-sum.ensures.values;
      free = λ k. untrue c.clashes.result c.if-clashes.false (c.clashes.ensures.1 k);
      told = told;
    } in
    subst (λ (z : SearchData). SaysLeaf (SearchLeaf z.problem z.best (mixed_rule z.problem) c.args.node.now) c.args.text.now.items false) c.self.view_is
    (open_says p x c.args.node.now us c.args.text.now.items (subst (λ b. IsMet p x c.args.node.now us b) c.if-not-sum_closes.true met) c.requires.empty)

pub print_line-requires-2-clause-line : goal.print_line-requires-2-clause-line
print_line-requires-2-clause-line c =
    let p = c.self.inside.problem.now in
    let x = c.self.inside.best.now in
    let us = c.value_leaf-sum.new.leaf.numbers.items in
    let told : IsTrue c.sum_closes.result ↔ SumCloses (segments_bound us) (value_of p x) x c.args.node.now =
    rw (← c.value_leaf-sum.ensures.sum, ← c.self.invariant.value_is) c.sum_closes.ensures in
    let met : IsMet p x c.args.node.now us c.sum_closes.result = record {
      valid = c.self.invariant.valid;
      mixed = c.self.invariant.model;
      best = c.self.invariant.best;
      each = c.requires.each ∙ ap (λ (z : SearchData). product_count z.problem) (sym c.self.view_is);
      values = c.value_leaf-sum.ensures.values;
      free = λ k. untrue c.clashes.result c.if-clashes.false (c.clashes.ensures.1 k);
      told = told;
    } in
    (closed_line p x c.args.node.now us (line_data c.value_leaf-sum.new.leaf) (subst (λ b. IsMet p x c.args.node.now us b) c.if-not-sum_closes.false met)
    (ap (λ (s : Shape). line s us) c.value_leaf-sum.ensures.shape)).0

pub print_line-requires-2-clause-room : goal.print_line-requires-2-clause-room
print_line-requires-2-clause-room c =
    let p = c.self.inside.problem.now in
    let x = c.self.inside.best.now in
    let us = c.value_leaf-sum.new.leaf.numbers.items in
    let told : IsTrue c.sum_closes.result ↔ SumCloses (segments_bound us) (value_of p x) x c.args.node.now =
    rw (← c.value_leaf-sum.ensures.sum, ← c.self.invariant.value_is) c.sum_closes.ensures in
    let met : IsMet p x c.args.node.now us c.sum_closes.result = record {
      valid = c.self.invariant.valid;
      mixed = c.self.invariant.model;
      best = c.self.invariant.best;
      each = c.requires.each ∙ ap (λ (z : SearchData). product_count z.problem) (sym c.self.view_is);
      values = c.value_leaf-sum.ensures.values;
      free = λ k. untrue c.clashes.result c.if-clashes.false (c.clashes.ensures.1 k);
      told = told;
    } in
    let short = (closed_line p x c.args.node.now us (line_data c.value_leaf-sum.new.leaf) (subst (λ b. IsMet p x c.args.node.now us b) c.if-not-sum_closes.false met)
    (ap (λ (s : Shape). line s us) c.value_leaf-sum.ensures.shape)).1 in
    omega (arith, short, c.requires.room)

pub returns-clause-leaf : goal.returns-clause-leaf
returns-clause-leaf c =
    let p = c.self.inside.problem.now in
    let x = c.self.inside.best.now in
    let us = c.value_leaf-sum.new.leaf.numbers.items in
    let told : IsTrue c.sum_closes.result ↔ SumCloses (segments_bound us) (value_of p x) x c.args.node.now =
    rw (← c.value_leaf-sum.ensures.sum, ← c.self.invariant.value_is) c.sum_closes.ensures in
    let met : IsMet p x c.args.node.now us c.sum_closes.result = record {
      valid = c.self.invariant.valid;
      mixed = c.self.invariant.model;
      best = c.self.invariant.best;
      each = c.requires.each ∙ ap (λ (z : SearchData). product_count z.problem) (sym c.self.view_is);
      values = c.value_leaf-sum.ensures.values;
      free = λ k. untrue c.clashes.result c.if-clashes.false (c.clashes.ensures.1 k);
      told = told;
    } in
    subst (λ (z : SearchData). SaysLeaf (SearchLeaf z.problem z.best (mixed_rule z.problem) c.args.node.now) c.print_line-2.new.out.items true) c.self.view_is
    (closed_says p x c.args.node.now us c.print_line-2.new.out.items (line_data c.value_leaf-sum.new.leaf)
    (subst (λ b. IsMet p x c.args.node.now us b) c.if-not-sum_closes.false met) (ap (λ (s : Shape). line s us) c.value_leaf-sum.ensures.shape)
    (c.print_line-2.ensures.text ∙ ap (λ z. z ++ (line_text c.value_leaf-sum.new.leaf.shape c.value_leaf-sum.new.leaf.numbers.items ++ 10 ∷ [])) c.requires.empty))
