-- How many nodes can still come of a stack. Own.
use Rattle.std.specs.Prelude.{ℕ, ◌+◌, ◌-◌, ◌^◌, List, [], ◌∷◌}
use Rattle.offer_model.specs.declared.node.Mark.{Mark}
use Rattle.offer_model.specs.Nodes.{opens}

-- A node, and all nodes that can come of it by dividing: two for each Open product that is settled.
abbrev pub node_size : List Mark → ℕ
node_size node = 2 ^ (opens node + 1) - 1

-- All nodes of a stack, and all that can come of them.
abbrev pub size_of : List (List Mark) → ℕ
size_of [] = 0
size_of (node ∷ rest) = node_size node + size_of rest
