use Rattle.std.proofs.Common.{◌∙◌, ◌<◌, ◌≤◌, ℕ, inl, inr, ap, arith, refl, sym, subst, length}
use Rattle.std.proofs.lemmas.Bool.{cases_eq}
use Rattle.cut_step.specs.declared.reach.Entry.{Entry}
use Rattle.cut_step.specs.Trees.{product_of}
use Rattle.cut_step.specs.Searches.{IsSpent, seen}
use Rattle.cut_step.proofs.GrowthLemmas.{grown_more, spent_more, spent_shut}
use Rattle.cut_step.proofs.search.search.Goals as goal

pub returns-in-Some-clause-ended : goal.returns-in-Some-clause-ended
returns-in-Some-clause-ended c =
    let scanned = c.in-Some.ensures.scanned in
    let was = c.loop-place.invariant in
    let old = c.args.reach.now in let reach = c.loop-place.reach in let new = c.scan.new.reach in
    record {
      searched = scanned.searched;
      grown = grown_more old.spots.items reach.spots.items new.spots.items old.tree.items reach.tree.items new.tree.items was.grown scanned.grown;
      roots = λ i l some. scanned.grown.more i (was.reached i l some);
      told = scanned.told;
      shut = λ e. cc;
    }

pub loop-place-preserved : goal.loop-place-preserved
loop-place-preserved c =
    let scanned = c.in-None.ensures.scanned in
    let was = c.loop-place.invariant in
    let old = c.args.reach.now in let reach = c.loop-place.reach in let new = c.scan.new.reach in
    let f = c.args.flow.now.amounts.items in
    let rows = c.args.rows.now in
    let here : c.loop-place.place < length reach.tree.items = omega (arith, c.loop-place-test.true, c.len.ensures) in
    let same = λ (j : ℕ) (l : j < length reach.tree.items). ap (λ (x : Entry). x.product) (scanned.grown.front j l) in
    record {
      searched = scanned.searched;
      grown = grown_more old.spots.items reach.spots.items new.spots.items old.tree.items reach.tree.items new.tree.items was.grown scanned.grown;
      none = scanned.told;
      reached = λ i l some. scanned.grown.more i (was.reached i l some);
      inside = omega (arith, here, scanned.grown.longer);
      spent = λ j l k lk. elim (cases_eq j c.loop-place.place) as (λ v. IsSpent rows f (seen new.spots.items) (product_of new.tree.items j) k) [
        | inl e ↦ subst (λ (p : ℕ). IsSpent rows f (seen new.spots.items) p k) (sym (same c.loop-place.place here) ∙ ap (product_of new.tree.items) (sym e)) (scanned.spent refl k lk)
        | inr n ↦ let lj : j < c.loop-place.place = omega (arith, l, n) in
            subst (λ (p : ℕ). IsSpent rows f (seen new.spots.items) p k) (sym (same j (omega (arith, lj, here))))
            (spent_more rows f (seen reach.spots.items) (seen new.spots.items) (product_of reach.tree.items j) k scanned.grown.more (was.spent j lj k lk))
      ];
      lists = c.in-None.ensures.lists;
    }

pub returns-clause-ended : goal.returns-clause-ended
returns-clause-ended c =
    let was = c.loop-place.invariant in
    let reach = c.loop-place.reach in
    let end : length reach.tree.items ≤ c.loop-place.place = omega (arith, c.loop-place-test.false, c.len.ensures) in
    record {
      searched = was.searched;
      grown = was.grown;
      roots = was.reached;
      told = was.none;
      shut = λ e. spent_shut c.args.rows.now c.args.node.now c.args.phase c.args.flow.now.amounts.items c.args.flow.now.excess.items
          reach.spots.items reach.tree.items was.searched (λ j l. was.spent j (omega (arith, l, end)));
    }
