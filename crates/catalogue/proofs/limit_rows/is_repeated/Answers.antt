use Rattle.std.proofs.Common.{◌≡◌, ◌∙◌, true, false, sym, get_or, rules}
use Rattle.std.proofs.lemmas.Option.{get_or_from_slice_get}
use Rattle.std.proofs.lemmas.List.Folds.{list_any_at, list_any_more}
use Rattle.catalogue.specs.LimitTables.{repeats}
use Rattle.catalogue.proofs.limit_rows.is_repeated.Goals as goal

pub returns-then-repeats : goal.returns-then-repeats
returns-then-repeats c =
    let x = c.get.result.now in
    let xs = c.args.limits.now.items in
    let here : get_or xs c.loop-k.k x ≡ x = get_or_from_slice_get xs c.loop-k.k x x c.get.ensures in
    let yes : repeats c.args.limit x ≡ true = cc in
    sym (list_any_at (repeats c.args.limit) xs c.loop-k.k x (search rules) (rw here yes))

pub loop-k-preserved : goal.loop-k-preserved
loop-k-preserved c =
    let x = c.get.result.now in
    let xs = c.args.limits.now.items in
    let here : get_or xs c.loop-k.k x ≡ x = get_or_from_slice_get xs c.loop-k.k x x c.get.ensures in
    let no : repeats c.args.limit x ≡ false = cc in
    list_any_more (repeats c.args.limit) xs c.loop-k.k x (search rules) ∙ rw (c.loop-k.invariant, here, no)
