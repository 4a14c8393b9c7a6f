use Rattle.std.proofs.Common.{◌≡◌, ◌∙◌, ℕ, inl, inr, true, ap, arith, sym, subst}
use Rattle.std.specs.Prelude.{slice_index}
use Rattle.std.proofs.lemmas.Bool.{cases_eq}
use Rattle.cut_step.specs.declared.reach.Entry.{Entry}
use Rattle.cut_step.specs.Trees.{product_of}
use Rattle.cut_step.specs.Searches.{IsSpent, is_seen, seen}
use Rattle.cut_step.proofs.GrowthLemmas.{grown_more, shut_spent, spent_more}
use Rattle.cut_step.proofs.search.scan.Goals as goal

pub loop-position-preserved : goal.loop-position-preserved
loop-position-preserved c =
    let looked = c.in-None.ensures.looked in
    let was = c.loop-position.invariant in
    let old = c.args.reach.now in let reach = c.loop-position.reach in let new = c.look.new.reach in
    let i = c.entry-i.result.product in
    let f = c.args.flow.now.amounts.items in
    let rows = c.args.rows.now in
    let list = c.args.adjacency.now.rows.items in
    let grown = grown_more old.spots.items reach.spots.items new.spots.items old.tree.items reach.tree.items new.tree.items was.grown looked.grown in
    let same : i ≡ product_of old.tree.items c.args.place = ap (λ (x : Entry). x.product) c.entry-i.ensures in
    let here : seen new.spots.items i ≡ true = grown.more i (ap (seen old.spots.items) same ∙ ap is_seen (c.requires.searched.placed c.args.place c.requires.place)) in
    let now : IsSpent rows f (seen new.spots.items) i (slice_index list c.loop-position.position)
    = subst (λ (k : ℕ). IsSpent rows f (seen new.spots.items) i k) c.row-k.ensures (shut_spent rows f (seen new.spots.items) i c.row-k.result here looked.shut) in
    record {
      searched = looked.searched;
      grown = grown;
      none = looked.told;
      spent = λ q low l. elim (cases_eq q c.loop-position.position) as (λ v. IsSpent rows f (seen new.spots.items) i (slice_index list q)) [
        | inl e ↦ subst (λ (q : ℕ). IsSpent rows f (seen new.spots.items) i (slice_index list q)) (sym e) now
        | inr n ↦ spent_more rows f (seen reach.spots.items) (seen new.spots.items) i (slice_index list q) looked.grown.more (was.spent q low (omega (arith, l, n)))
      ];
      lists = c.in-None.ensures.lists;
    }
