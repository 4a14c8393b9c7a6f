use Rattle.std.specs.Prelude.{◌==◌, Some, None}
use Rattle.std.proofs.Common.{◌≡◌, ℕ, ◌<◌, ◌≤◌, length, get_or, cond}
use Rattle.offer_model.specs.Problems.{product_count, product_at}
use Rattle.rank_step.proofs.places.note_category.Given as goal

abbrev pub invariant-loop-i : goal.invariant-loop-i
invariant-loop-i l = record {
  each : length l.places ≡ product_count l.p;
  done : (j : ℕ) → j < l.i → get_or l.places j None ≡ cond ((product_at l.p j).category == l.category) (Some l.k) (get_or l.fn.places j None);
  rest : (j : ℕ) → l.i ≤ j → get_or l.places j None ≡ get_or l.fn.places j None;
}
