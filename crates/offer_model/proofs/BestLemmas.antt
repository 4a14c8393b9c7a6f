-- There is at most one best assortment.
use Rattle.std.proofs.Common.{◌≢◌, Bool, List, sym}
use Rattle.offer_model.specs.Problems.{ProblemData}
use Rattle.offer_model.specs.Best.{IsBest}
use Rattle.offer_model.proofs.TieLemmas.{IsBefore-asym}

-- Two best assortments are not different.
pub IsBest-unique : (p : ProblemData) (x y : List Bool) → IsBest p x → IsBest p y → (x ≢ y → ⊥)
IsBest-unique p x y a b d = IsBefore-asym x y
    (a.first y b.feasible (λ e. d (sym e)) (λ m. b.most x a.feasible m))
    (b.first x a.feasible d (λ m. a.most y b.feasible m))
