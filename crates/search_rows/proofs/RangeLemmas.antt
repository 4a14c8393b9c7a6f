-- The goal of the tests has values and bounds in range.
use Rattle.std.proofs.Common.{ℕ, zero, suc, ◌≤◌, ◌^◌, Bool, true, false, cond, List, length, arith}
use Rattle.std.specs.Prelude.{pos, if◌then◌else◌}
use Rattle.std.proofs.lemmas.Int.{ints}
use Rattle.offer_model.specs.declared.node.Mark.{Mark}
use Rattle.offer_model.specs.declared.node.Mark.TheVariants.{In, Out, Open}
use Rattle.offer_model.specs.Assortments.{offers}
use Rattle.offer_model.specs.Nodes.{mark_at}
use Rattle.tree_search.specs.AnswerRanges.{IsSmall, AnswersInRange}
use Rattle.search_rows.specs.WorkedGoals.{CountingData, counting_rules, offered_of, left_of, one_unless_out}

offered_once : (b : Bool) → cond b 1 0 ≤ 1
offered_once true = omega arith
offered_once false = omega arith

offered_le : (n : ℕ) (x : List Bool) → offered_of n x ≤ n
offered_le zero x = omega arith
offered_le (suc n) x = let r = offered_le n x in let o = offered_once (offers x n) in omega arith

left_once : (m : Mark) → one_unless_out m ≤ 1
left_once In = omega arith
left_once Out = omega arith
left_once Open = omega arith

left_le : (n : ℕ) (node : List Mark) → left_of n node ≤ n
left_le zero node = omega arith
left_le (suc n) node = let r = left_le n node in let o = left_once (mark_at node n) in omega arith

small : (valued : Bool) (a : ℕ) → a ≤ 2 ^ 60 → IsSmall (if valued then pos a else pos 0)
small true a l = (omega (arith, ints), omega (arith, ints))
small false a l = (omega (arith, ints), omega (arith, ints))

-- A goal of few products answers in range.
pub in_range : (g : CountingData) → g.products ≤ 2 ^ 60 → AnswersInRange (counting_rules g)
in_range g l = record {
  values = λ x e. (let o = offered_le (length x) x in small g.valued (offered_of (length x) x) (omega arith));
  bounds = λ node e. (let o = left_le (length node) node in small true (left_of (length node) node) (omega arith));
}
