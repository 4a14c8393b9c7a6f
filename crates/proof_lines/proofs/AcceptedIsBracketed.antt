-- Whoever wrote an accepted text of a chain, its bounds bracket what its assortment and every other bring.
use Rattle.std.proofs.Common.{ℕ, List}
use Rattle.std.specs.Prelude.{slice_index}
use Rattle.offer_model.specs.Chains.{ChainData}
use Rattle.offer_model.specs.Stopping.{StoppingData}
use Rattle.offer_model.specs.Claims.{IsBracketed}
use Rattle.proof_lines.specs.Acceptance.{Brackets, IsAcceptedChain}
use Rattle.offer_model.proofs.BracketLemmas.{brings_at_most, brings_at_least, arriving-le_quotient_up, quotient-le_arriving}

pub Brackets-claim : (c : ChainData) (s : StoppingData) → Brackets c s → IsBracketed c s.set s.lo s.up
Brackets-claim c s k = record {
  reached = brings_at_least c s.set s.lower s.lo k.below (rw k.lo (quotient-le_arriving c (slice_index s.lower)));
  none_exceeds = λ y. brings_at_most c y s.upper s.up k.above (rw k.up (arriving-le_quotient_up c (slice_index s.upper)));
  ordered = k.ordered;
  near = k.near;
}

pub accepted_is_bracketed : (c : ChainData) (text : List ℕ) (s : StoppingData) → IsAcceptedChain c text s → IsBracketed c s.set s.lo s.up
accepted_is_bracketed c text s k = Brackets-claim c s k.brackets
