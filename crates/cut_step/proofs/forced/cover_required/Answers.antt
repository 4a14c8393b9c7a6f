use Rattle.std.proofs.Common.{◌≡◌, ◌∙◌, ◌<◌, ◌^◌, ℕ, List, length, arith, sym, subst}
use Rattle.std.specs.Prelude.{slice_index, pos, ◌≤ℤ◌}
use Rattle.offer_model.specs.declared.node.Mark.TheVariants.{Open}
use Rattle.offer_model.specs.Nodes.{mark_at}
use Rattle.cut_step.specs.declared.phase.Phase.TheVariants.{Forced}
use Rattle.cut_step.specs.declared.reach.Entry.{Entry}
use Rattle.cut_step.specs.Closures.{first_of, second_of, price_at}
use Rattle.cut_step.specs.Trees.{product_of, before, Unused, Pushed}
use Rattle.cut_step.specs.Searches.{spot_at, IsFull}
use Rattle.cut_step.proofs.ForcedLemmas.{none_back, full_caps, roots_in, free_at, free_kept, at_end}
use Rattle.cut_step.proofs.PathLemmas.{impossible_end}
use Rattle.cut_step.proofs.StartLemmas.{flowing_start, searched_start}
use Rattle.cut_step.proofs.forced.cover_required.Goals as goal

pub search-requires-clause-searched : goal.search-requires-clause-searched
search-requires-clause-searched c = searched_start c.args.rows.now c.args.node.now Forced c.args.flow.now.amounts.items c.args.flow.now.excess.items
    c.args.reach.now.spots.items c.args.reach.now.tree.items c.requires.empty
    (λ i p h. free_at (spot_at c.args.reach.now.spots.items i) p (c.requires.free i) h)
    (λ k l h. absurd (free_kept (spot_at c.args.reach.now.spots.items (first_of c.args.rows.now k)) (c.requires.free (first_of c.args.rows.now k)) h))
    (λ k l some h. absurd (free_kept (spot_at c.args.reach.now.spots.items (second_of c.args.rows.now k)) (c.requires.free (second_of c.args.rows.now k)) h))

pub push-requires-clause-enough : goal.push-requires-clause-enough
push-requires-clause-enough c =
    let e = c.in-Some.ensures.ended in
    let reach = c.search.new.reach in
    let back = none_back c.args.rows.now c.args.node.now Forced c.args.flow.now.amounts.items c.args.flow.now.excess.items reach.spots.items reach.tree.items e.searched c.requires.zero in
    let full = full_caps c.args.rows.now c.args.node.now c.args.flow.now.amounts.items c.args.flow.now.excess.items reach.spots.items reach.tree.items e.searched back c.in-Some.place e.told.0 in
    rw c.deref.ensures.value (omega (arith, full))

pub cover_deficits-requires-clause-full : goal.cover_deficits-requires-clause-full
cover_deficits-requires-clause-full c =
    let e = c.in-None.ensures.ended in
    let reach = c.search.new.reach in
    let back = none_back c.args.rows.now c.args.node.now Forced c.args.flow.now.amounts.items c.args.flow.now.excess.items reach.spots.items reach.tree.items e.searched c.requires.zero in
    subst (λ (t : List Entry). IsFull c.args.node.now t) (sym c.deref-in-None.ensures.value) (record {
      roots = roots_in c.args.rows.now c.args.node.now c.args.flow.now.amounts.items c.args.flow.now.excess.items reach.spots.items reach.tree.items e.searched;
      caps = full_caps c.args.rows.now c.args.node.now c.args.flow.now.amounts.items c.args.flow.now.excess.items reach.spots.items reach.tree.items e.searched back;
    })

pub cover_deficits-requires-clause-flowing : goal.cover_deficits-requires-clause-flowing
cover_deficits-requires-clause-flowing c = flowing_start c.args.rows.now c.args.node.now c.args.flow.now.excess.items c.args.flow.now.amounts.items c.requires.small c.requires.lists.each c.requires.zero

pub returns-in-Some-clause-begun : goal.returns-in-Some-clause-begun
returns-in-Some-clause-begun c =
    let e = c.in-Some.ensures.ended in
    let is = c.deref.ensures.value in
    let f = c.args.flow.now in let f' = c.push.new.flow in let reach = c.search.new.reach in
    let p = subst (λ (t : List Entry). Pushed c.args.rows.now t c.in-Some.place (2 ^ 108) f.amounts.items f.excess.items c.push.result f'.amounts.items f'.excess.items) is c.push.ensures.pushed in
    let root = subst (λ (t : List Entry). before t c.push.result ≡ c.push.result) is c.push.ensures.root in
    impossible_end c.args.rows.now c.args.node.now f.excess.items f'.excess.items f.amounts.items f'.amounts.items c.args.reach.now.spots.items reach.spots.items
    c.args.reach.now.tree.items reach.tree.items c.in-Some.place c.push.result c.requires.small c.requires.lists.each c.requires.zero (c.requires.lists.marks ∙ sym c.requires.lists.excess)
    (e.grown.each ∙ sym c.requires.lists.excess) e p root

pub returns-in-None-clause-begun : goal.returns-in-None-clause-begun
returns-in-None-clause-begun c =
    let e = c.in-None.ensures.ended in
    let is = c.deref-in-None.ensures.value in
    let f = c.args.flow.now in let f' = c.cover_deficits.new.flow in let reach = c.search.new.reach in
    let has = subst (λ (t : List Entry). (j : ℕ) → j < length t → mark_at c.args.node.now (product_of t j) ≡ Open → pos 0 ≤ℤ price_at f'.excess.items (product_of t j)) is c.cover_deficits.ensures.has in
    let unused = subst (λ (t : List Entry). (k : ℕ) → Unused t k → slice_index f'.amounts.items k ≡ slice_index f.amounts.items k) is c.cover_deficits.ensures.unused in
    let kept = c.keep.ensures in
    record {
      underway = record {
        flowing = c.cover_deficits.ensures.flowing;
        keeping = at_end c.args.rows.now c.args.node.now f.amounts.items f'.amounts.items f.excess.items f'.excess.items c.args.reach.now.spots.items reach.spots.items
            c.keep.new.self.spots.items c.args.reach.now.tree.items reach.tree.items e e.grown.each c.requires.free has
            (λ k u. unused k u ∙ c.requires.zero k) kept.each kept.kept kept.was kept.none;
      };
      empty = kept.tree;
      each = kept.each ∙ e.grown.each ∙ sym c.requires.lists.excess;
    }
