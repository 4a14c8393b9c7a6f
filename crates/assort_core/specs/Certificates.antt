-- What a certificate is: which texts are accepted, which are written, and what an accepted one says. Own.
use Rattle.std.specs.Prelude.{ℕ, Bool, List}
use Rattle.offer_model.specs.Problems.{ProblemData}
use Rattle.offer_model.specs.Best.{IsBest}
use Rattle.offer_model.specs.Chains.{ChainData}
use Rattle.offer_model.specs.Claims.{IsBracketed}
use Rattle.offer_model.specs.Stopping.{StoppingData}
use Rattle.proof_lines.specs.Trees.{Tree}
use Rattle.proof_lines.specs.Acceptance.{Accepts, IsAccepted, AcceptsChain, IsAcceptedChain}
use Rattle.proof_lines.specs.Writing.{IsWritten, IsWrittenChain}
use Rattle.assort_words.specs.Asked.{RequestData}
use Rattle.assort_core.specs.declared.subject.Subject.{Subject}
use Rattle.assort_core.specs.declared.subject.Subject.TheVariants as S
use Rattle.assort_core.specs.Stages.{InputsData}
use Rattle.assort_core.specs.Subjects.{asked_subject}

pub record Certificate : Type 1 where
  pub Accepted : List ℕ → Type 0
  pub Written : List ℕ → Type 0
  pub Claimed : List ℕ → Type 0

-- The text is accepted with an assortment, and that one is the best.
abbrev pub ClaimsBest : ProblemData → List ℕ → Type 0
ClaimsBest p text = (x : List Bool) × (tree : Tree) × IsAccepted p text x tree × IsBest p x

-- The text is accepted with an assortment and two bounds: that one reaches the lower bound, none exceeds the upper one, and
-- they are close together.
abbrev pub ClaimsBounds : ChainData → List ℕ → Type 0
ClaimsBounds c text = (s : StoppingData) × IsAcceptedChain c text s × IsBracketed c s.set s.lo s.up

-- A certificate of the best assortment of a problem.
abbrev pub problem_certificate : ProblemData → Certificate
problem_certificate p = record { Accepted = Accepts p; Written = IsWritten p; Claimed = ClaimsBest p }

-- A certificate of an assortment of a chain and of its bounds.
abbrev pub chain_certificate : ChainData → Certificate
chain_certificate c = record { Accepted = AcceptsChain c; Written = IsWrittenChain c; Claimed = ClaimsBounds c }

-- The certificates of a subject.
abbrev pub certificate_for : Subject → Certificate
certificate_for (S.Problem rows p) = problem_certificate p
certificate_for (S.Chain rows c) = chain_certificate c

-- The certificates of a request over what its files give.
abbrev pub certificate_of : RequestData → InputsData → Certificate
certificate_of r i = certificate_for (asked_subject r i)
