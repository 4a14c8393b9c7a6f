-- Named segments that are a problem's.
use Rattle.std.proofs.Common.{◌≡◌, sym, ℕ, ◌<◌, List, [], length, map, refl}
use Rattle.std.proofs.lemmas.List.{length-map, get_or-map}
use Rattle.offer_model.specs.Problems.{SegmentData, ProblemData, segment_at}
use Rattle.catalogue.specs.SegmentTables.{NamedSegment, named_segment_at}

-- There are as many.
pub held_count : (segments : List NamedSegment) (p : ProblemData)
    → map (λ named. named.segment) segments ≡ p.segments
    → length segments ≡ length p.segments
held_count segments p held = rw (sym held, length-map segments (λ (named : NamedSegment). named.segment)) refl

-- The numbers of each are those of the problem's at its place.
pub held_segment : (segments : List NamedSegment) (p : ProblemData) (g : ℕ)
    → map (λ named. named.segment) segments ≡ p.segments
    → g < length segments
    → (named_segment_at segments g).segment ≡ segment_at p g
held_segment segments p g held inside =
    let nobody : SegmentData = record { size = 0; none = 0; attract = []; shadow = [] } in
    let unnamed : NamedSegment = record { name = []; segment = nobody } in
    rw (sym held) (sym (get_or-map (λ (named : NamedSegment). named.segment) segments g unnamed nobody inside))
