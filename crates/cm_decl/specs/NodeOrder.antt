-- Promised.
-- The order of the nodes of a realm graph.
use Rattle.std.specs.Prelude.{ℕ, ◌+◌, List, length, Bool, Option, Some, None}
use Rattle.std.specs.Ordering.{nat_cmp, ordering_then, is_le}
use Rattle.std.specs.declared.cmp.Ordering.{Ordering}
use Rattle.std.specs.Cmp.Lexicographic.{slice_cmp}
use Rattle.cm_decl.specs.declared.node.Node.{Node}
use Rattle.cm_decl.specs.declared.node.Node.TheVariants.{Own, Child}
use Rattle.cm_decl.specs.Words.{node_text}

-- the component itself comes before its children
abbrev pub rank : Node → ℕ
rank Own = 0
rank (Child name) = 1

-- how long the name of the collection is, by which names that have one text are told apart
abbrev pub coll_length : Option (List ℕ) → ℕ
coll_length None = 0
coll_length (Some coll) = length coll + 1

-- how long the name of a node's collection is; 0 where it has none
abbrev pub node_coll_length : Node → ℕ
node_coll_length Own = 0
node_coll_length (Child name) = coll_length name.coll

-- the order of nodes by their texts, byte by byte
abbrev pub text_cmp : Node → Node → Ordering
text_cmp x y = slice_cmp nat_cmp (node_text x) (node_text y)

-- the order of nodes: the component itself first, then the children by their texts
abbrev pub node_cmp : Node → Node → Ordering
node_cmp x y =
    ordering_then (nat_cmp (rank x) (rank y))
    (ordering_then (text_cmp x y) (nat_cmp (node_coll_length x) (node_coll_length y)))

-- whether x is y or comes before it
abbrev pub node_at_most : Node → Node → Bool
node_at_most x y = is_le (node_cmp x y)
