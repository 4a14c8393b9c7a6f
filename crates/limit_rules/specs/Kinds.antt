-- Which kind of limits a problem has. Own.
use Rattle.std.specs.Prelude.{◌==◌, ◌&&◌, if◌then◌else◌, Bool, List, length}
use Rattle.std.specs.List.{list_all}
use Rattle.offer_model.specs.declared.products.Limit.{Limit}
use Rattle.offer_model.specs.Validity.{is_cap, is_requires, is_shelf, is_ladder}
use Rattle.limit_rules.specs.declared.kind.Kind.{Kind}
use Rattle.limit_rules.specs.declared.kind.Kind.TheVariants as K
use Rattle.limit_rules.specs.declared.kind.Family.{Family}
use Rattle.limit_rules.specs.declared.kind.Family.TheVariants as F

-- The limit is one of the family.
abbrev pub is_in_family : Family → Limit → Bool
is_in_family F.Caps = is_cap
is_in_family F.Requires = is_requires
is_in_family F.Shelves = is_shelf
is_in_family F.Ladders = is_ladder

-- The kind of limits that are all of one family. Of shelves there may be one.
abbrev pub kind_of : List Limit → Kind
kind_of limits =
    if length limits == 0 then K.Free
    else (if list_all is_cap limits then K.Caps
    else (if list_all is_requires limits then K.Closure
    else (if list_all is_shelf limits && (length limits == 1) then K.Shelf
    else (if list_all is_ladder limits then K.Ladder else K.General))))
