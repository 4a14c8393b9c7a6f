use Rattle.std.proofs.Common.{◌≡◌, ◌∙◌, sym, ap, None, Some, rules}
use Rattle.std.proofs.lemmas.List.{get_or_default}
use Rattle.catalogue_rows.specs.Rows.{RowData, no_row}
use Rattle.catalogue.proofs.LimitNameLemmas.{no_number, number_of_none, number_of_first}
use Rattle.catalogue.proofs.limit_names.ladder_named.Goals as goal

pub returns-then-is_empty : goal.returns-then-is_empty
returns-then-is_empty c = sym (no_number c.args.rows.now (λ row. row.ladder) c.args.text.now (sym c.if-is_empty.ensures))

pub returns-in_err-first : goal.returns-in_err-first
returns-in_err-first c =
    let none : c.from_residual.result ≡ None = search rules in
    none ∙ sym (number_of_none c.args.rows.now (λ row. row.ladder) (λ row. row.product.ladder)
    (λ k d inside. (c.requires k d inside).1) c.args.text.now (sym c.if-is_empty.ensures) (sym c.first_on_ladder.ensures ∙ c.in_err-first.was))

pub returns : goal.returns
returns c =
    let i = c.in_ok-first.field-0 in
    let found = number_of_first c.args.rows.now (λ row. row.ladder) (λ row. row.product.ladder)
    (λ k d inside. (c.requires k d inside).1) c.args.text.now i (sym c.if-is_empty.ensures) (sym c.first_on_ladder.ensures ∙ c.in_ok-first.was) in
    ap (λ (row : RowData). Some row.product.ladder) (c.first.view_is ∙ c.index-rows-branch.is ∙ get_or_default c.args.rows.now i _ no_row found.0) ∙ sym found.1
