use Rattle.std.proofs.Common.{◌≡◌, ◌∙◌, sym, ap, length, ◌==◌, false, ◌+◌, ◌++◌, ◌∷◌, []}
use Rattle.std.specs.List.{position_or_len}
use Rattle.std.specs.Str.{bytes_eq}
use Rattle.catalogue_rows.proofs.LentNameLemmas.{lent_names, lent_place, lent_inserted}
use Rattle.catalogue_rows.proofs.NameLemmas.{distinct_push, distinct_push_empty, number_of_empty, number_pushed}
use Rattle.catalogue_rows.proofs.name_set.NameSet.number.Goals as goal

pub returns-then-is_empty-clause-number : goal.returns-then-is_empty-clause-number
returns-then-is_empty-clause-number c = λ texts names. sym (number_of_empty (texts ++ c.args.name.now ∷ []) c.args.name.now (sym c.if-is_empty.ensures))

pub returns-then-is_empty-clause-names : goal.returns-then-is_empty-clause-names
returns-then-is_empty-clause-names c = λ texts names. names ∙ sym (distinct_push_empty texts c.args.name.now (sym c.if-is_empty.ensures))

pub returns-clause-number : goal.returns-clause-number
returns-clause-number c = λ texts names.
    let full : (length c.args.name.now == 0) ≡ false = sym c.if-is_empty.ensures in
    ap (λ n. n + 1) (c.in_ok-place.ensures.index ∙ lent_place c.args.name.now c.self.inside.names.keys
    ∙ ap (position_or_len (bytes_eq c.args.name.now)) (c.self.view_is ∙ names))
    ∙ sym (number_pushed texts c.args.name.now full)

pub returns-clause-names : goal.returns-clause-names
returns-clause-names c = λ texts names.
    let full : (length c.args.name.now == 0) ≡ false = sym c.if-is_empty.ensures in
    ap lent_names c.in_ok-place.ensures.keys ∙ lent_inserted c.args.name c.self.inside.names.keys
    ∙ rw (c.self.view_is, names) (sym (distinct_push texts c.args.name.now full))
