use Rattle.std.proofs.Common.{◌≡◌, ◌+◌, ◌^◌, ◌≤◌, []}
use Rattle.std.specs.Prelude.{vec_len, vec_capacity}
use Rattle.shared_best.specs.Places.{BelongsTo}
use Rattle.worker_rounds.specs.Crews.{Each, IsMember, HasNoClaims, shares}
use Rattle.worker_rounds.proofs.together.make_crew.Given as goal

abbrev pub invariant-loop-number : goal.invariant-loop-number
invariant-loop-number g l =
    record {
      of : BelongsTo l.place l.desk;
      claims : l.place.view.claims ≡ [];
      told : l.place.view.told ≡ 0;
      share : l.place.view.share + l.number ≡ 2 ^ 32;
      crew : Each (IsMember g.T.Goal.rules l.goal l.desk) l.crew.items;
      nothing : Each HasNoClaims l.crew.items;
      count : vec_len l.crew ≡ l.number;
      room : l.workers ≤ vec_capacity l.crew;
      shares : l.place.view.share + shares l.crew.items ≡ 2 ^ 32;
    }
