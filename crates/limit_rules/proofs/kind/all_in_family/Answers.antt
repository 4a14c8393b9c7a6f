use Rattle.std.proofs.Common.{◌≡◌, ◌∙◌, true, false, sym, get_or, rules}
use Rattle.std.proofs.lemmas.Option.{get_or_from_slice_get}
use Rattle.std.proofs.lemmas.List.Folds.{list_all_at, list_all_more}
use Rattle.limit_rules.specs.Kinds.{is_in_family}
use Rattle.limit_rules.proofs.kind.all_in_family.Goals as goal

pub returns-then-not-is_in_family : goal.returns-then-not-is_in_family
returns-then-not-is_in_family c =
    let x = c.get.result.now in
    let xs = c.args.limits.now.items in
    let here : get_or xs c.loop-k.k x ≡ x = get_or_from_slice_get xs c.loop-k.k x x c.get.ensures in
    let no : is_in_family c.args.family x ≡ false = cc in
    sym (list_all_at (is_in_family c.args.family) xs c.loop-k.k x (search rules) (rw here no))

pub loop-k-preserved : goal.loop-k-preserved
loop-k-preserved c =
    let x = c.get.result.now in
    let xs = c.args.limits.now.items in
    let here : get_or xs c.loop-k.k x ≡ x = get_or_from_slice_get xs c.loop-k.k x x c.get.ensures in
    let yes : is_in_family c.args.family x ≡ true = cc in
    list_all_more (is_in_family c.args.family) xs c.loop-k.k x (search rules) ∙ rw (c.loop-k.invariant, here, yes)
