-- The goal of mixed logit: the feasible assortment that brings most in all segments together. Own.
use Rattle.std.specs.Prelude.{ℕ, pos, List, length}
use Rattle.offer_model.specs.declared.node.Mark.{Mark}
use Rattle.offer_model.specs.Assortments.{sum_below}
use Rattle.offer_model.specs.Problems.{ProblemData, product_count, segment_at}
use Rattle.offer_model.specs.Revenue.{segment_value, value_of}
use Rattle.offer_model.specs.Limits.{IsFeasible}
use Rattle.offer_model.specs.Nodes.{Clashes}
use Rattle.tree_search.specs.Goals.{Rules}
use Rattle.segment_bound.specs.Greatest.{greatest}
use Rattle.segment_bound.specs.Orders.{dearest}

-- The sum of the greatest values that the node's completions bring in each segment, with limits left aside.
abbrev pub greatest_sum : ProblemData → List Mark → ℕ
greatest_sum p node = sum_below (length p.segments) (λ k. greatest (segment_value p (segment_at p k)) node)

abbrev pub mixed_rules : ProblemData → Rules
mixed_rules p = record {
  products = product_count p;
  value = λ x. pos (value_of p x);
  Feasible = IsFeasible p;
  Clashing = Clashes p;
  bound = λ node. pos (greatest_sum p node);
  next = dearest p;
}
