use Rattle.std.proofs.Common.{◌≡◌, ◌∙◌, ◌<◌, ℕ, List, length, arith, sym, subst}
use Rattle.std.specs.Prelude.{Some}
use Rattle.cut_step.specs.declared.phase.Phase.TheVariants.{Funded}
use Rattle.cut_step.specs.declared.reach.Entry.{Entry}
use Rattle.cut_step.specs.Phases.{imbalance_of, Augmented}
use Rattle.cut_step.proofs.FundedLemmas.{certified_end, keeping_more}
use Rattle.cut_step.proofs.SizeLemmas.{fit_on}
use Rattle.cut_step.proofs.StartLemmas.{searched_start}
use Rattle.cut_step.proofs.funded.augment_all.Goals as goal

pub search-requires-clause-searched : goal.search-requires-clause-searched
search-requires-clause-searched c =
    let b = c.paths.invariant.begun c.requires.begun.0 c.requires.begun.1 in let k = b.underway.keeping in
    searched_start c.args.rows.now c.args.node.now Funded c.paths.flow.amounts.items c.paths.flow.excess.items c.paths.reach.spots.items
    c.paths.reach.tree.items b.empty k.none k.on k.back

pub returns-in-None-clause-solved : goal.returns-in-None-clause-solved
returns-in-None-clause-solved c = λ w h.
    let e = c.in-None.ensures.ended in
    let b = c.paths.invariant.begun w h in
    let g = b.underway.flowing in
    record {
      certified = certified_end c.args.rows.now c.args.node.now w c.paths.flow.excess.items c.paths.flow.amounts.items
          c.paths.reach.spots.items c.search.new.reach.spots.items c.paths.reach.tree.items c.search.new.reach.tree.items g b.underway.keeping (sym b.each) e;
      amount = λ k. let a = g.amount k in omega (arith, a);
      rows_each = g.rows_each;
      spots_each = e.grown.each ∙ b.each;
    }

pub paths-preserved : goal.paths-preserved
paths-preserved c =
    let e = c.in-Some.ensures.ended in
    let is = c.deref-in-Some.ensures.value in
    let forgot = c.forget.ensures in
    let tree : List Entry = c.search.new.reach.tree.items in
    record {
      begun = λ w h.
          let b = c.paths.invariant.begun w h in
          let a : Augmented c.args.rows.now c.args.node.now w c.paths.flow.excess.items c.paths.flow.amounts.items tree
          c.augment.new.flow.excess.items c.augment.new.flow.amounts.items
          = subst (λ (t : List Entry). Augmented c.args.rows.now c.args.node.now w c.paths.flow.excess.items c.paths.flow.amounts.items t
          c.augment.new.flow.excess.items c.augment.new.flow.amounts.items) is (c.augment.ensures.augmented w b.underway.flowing) in
          record {
            underway = record {
              flowing = a.flowing;
              keeping = keeping_more c.args.rows.now c.args.node.now w c.paths.flow.excess.items c.augment.new.flow.excess.items
                  c.paths.flow.amounts.items c.augment.new.flow.amounts.items c.paths.reach.spots.items c.search.new.reach.spots.items
                  c.forget.new.self.spots.items c.paths.reach.tree.items tree (Some c.in-Some.place) b.underway.keeping e a forgot.each
                  forgot.kept forgot.was forgot.none;
            };
            empty = forgot.tree;
            each = forgot.each ∙ e.grown.each ∙ b.each;
          };
      lists = fit_on c.args.rows.now c.args.node.now c.paths.flow c.augment.new.flow c.search.new.reach c.forget.new.self c.in-Some.ensures.lists
          c.augment.ensures.each c.augment.ensures.excess forgot.each forgot.room;
    }

pub paths-smaller : goal.paths-smaller
paths-smaller c =
    let is = c.deref-in-Some.ensures.value in
    let w = c.requires.begun.0 in
    let b = c.paths.invariant.begun w c.requires.begun.1 in
    let a = c.augment.ensures.augmented w b.underway.flowing in
    let same : length w ≡ length c.args.node.now = sym b.each ∙ sym c.paths.invariant.lists.marks in
    subst (λ (n : ℕ). imbalance_of c.args.node.now n c.augment.new.flow.excess.items < imbalance_of c.args.node.now n c.paths.flow.excess.items) same a.less
