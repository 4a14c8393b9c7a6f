use Rattle.std.proofs.Common.{◌∙◌, sym, ap, Bor, List, ℕ}
use Rattle.std.specs.List.{position}
use Rattle.std.specs.Str.{bytes_eq}
use Rattle.table_reader.proofs.PositionLemmas.{position_in_map}
use Rattle.catalogue_rows.proofs.name_set.NameSet.place.Goals as goal

pub returns : goal.returns
returns c =
    c.get_index_of.ensures.index
    ∙ sym (position_in_map (λ (key : Bor (List ℕ)). key.now) (bytes_eq c.args.name.now) c.self.inside.names.keys)
    ∙ ap (position (bytes_eq c.args.name.now)) c.self.view_is
