-- A segment that is being read, and one that was. Own.
use Rattle.std.specs.Prelude.{ℕ, ◌≤◌, List, length, map, replicate, Option, IfSome, unwrap_or, All}
use Rattle.offer_model.specs.declared.ranges.TheConstants.{MOST_AMOUNT}
use Rattle.offer_model.specs.Validity.{IsPositiveAmount}
use Rattle.catalogue.specs.SegmentTables.{NamedSegment}

-- A segment that is being read: what its head says, and each product's attraction where a row said it.
pub record DraftData : Type 0 where
  pub name : List ℕ
  pub size : ℕ
  pub none : ℕ
  pub attract : List (Option ℕ)

-- The numbers so far are in their ranges.
pub record IsDraft (draft : DraftData) : Type 0 where
  pub size : IsPositiveAmount draft.size
  pub none : IsPositiveAmount draft.none
  pub attract : All (λ found. IfSome found (λ v. v ≤ MOST_AMOUNT)) draft.attract

-- The segment as it stands: attraction 0 where no row said one, and no shadows.
abbrev pub segment_drafted : DraftData → NamedSegment
segment_drafted draft = record {
  name = draft.name;
  segment = record {
    size = draft.size;
    none = draft.none;
    attract = map (λ found. unwrap_or found 0) draft.attract;
    shadow = replicate (length draft.attract) 0;
  };
}
