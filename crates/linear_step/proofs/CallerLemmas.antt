-- For the proofs of steps and closers: a node that clashes has no completion, and what closes a node.
use Rattle.std.proofs.Common.{◌≡◌, ◌≢◌, List, refl}
use lib.IntN.{ℤ}
use Rattle.offer_model.specs.declared.node.Mark.{Mark}
use Rattle.offer_model.specs.Problems.{ProblemData}
use Rattle.offer_model.specs.Nodes.{Clashes}
use Rattle.offer_model.specs.Prices.{Prices}
use Rattle.offer_model.proofs.CompletionLemmas.{clash_none}
use Rattle.limit_rules.specs.declared.kind.Kind.{Kind}
use Rattle.limit_rules.specs.Kinds.{kind_of}
use Rattle.linear_step.specs.Answers.{HasNone}
use Rattle.linear_step.specs.declared.closing.Closing.{Closing}
use Rattle.linear_step.specs.declared.closing.Closing.TheVariants.{Clash}
use Rattle.linear_step.specs.Closings.{IsTop, HasBound, HasShape, HasSmallNumbers, Closes}

-- A node that clashes has no feasible completion.
pub clash_has_none : (p : ProblemData) (node : List Mark) → Clashes p node → HasNone p node
clash_has_none p node c y f k = clash_none p node y c f k

-- A clash closes a node that clashes.
pub Closes-from_clash : (p : ProblemData) (at : Prices) (node : List Mark) → Clashes p node → Closes p at node Clash
Closes-from_clash p at node c = record {
  shape = tt;
  small = tt;
  clash = (λ e. c, λ h. refl);
  bound = λ other. absurd (other refl);
}

-- A closing with the greatest worth as its bound closes a node that doesn't clash.
pub Closes-from_bound : (p : ProblemData) (at : Prices) (node : List Mark) (closing : Closing) (z : ℤ) → closing ≢ Clash
    → HasShape (kind_of p.limits) closing → HasSmallNumbers closing → (Clashes p node → ⊥) → HasBound p at node closing z → IsTop p at node z
    → Closes p at node closing
Closes-from_bound p at node closing z other shape small free bound top = record {
  shape = shape;
  small = small;
  clash = (λ e. absurd (other e), λ c. absurd (free c));
  bound = λ e. (z, bound, top);
}

-- Closings of one kind's shape, where the kind is known by an equation.
pub HasShape-at : (k l : Kind) (closing : Closing) → k ≡ l → HasShape l closing → HasShape k closing
HasShape-at k l closing e h = rw e h
