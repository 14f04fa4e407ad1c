-- Inside.
-- Whether a node is another one or depends on it, by their numbers.
use Rattle.std.specs.Prelude.{ℕ, List, Bool, false, ◌||◌, Option, Some, None, nat_eq, position}
use Rattle.std.specs.Option.{option_map_or}
use Rattle.cm_decl.specs.declared.node.Node.{Node}
use Rattle.cm_decl.specs.declared.node.Node.TheVariants.{Child}
use Rattle.cm_decl.specs.declared.origin.Origin.{Origin}
use Rattle.cm_decl.specs.declared.origin.Origin.TheVariants as origin
use Rattle.cm_decl.specs.Same.{same_node}
use Rattle.cm_deps.specs.Edges.{holds, row}

-- the number of the node that a source stands for, if it stands for one; the component itself is
-- number 0
abbrev pub number_of : List Node → Origin → Option ℕ
number_of nodes origin.Own = Some 0
number_of nodes (origin.Child c) = position (λ y. same_node y (Child c)) nodes
number_of nodes _ = None

-- whether node `from` is node `to` or depends on it, by the lists of what is reached
abbrev pub leads_to : List (List ℕ) → ℕ → ℕ → Bool
leads_to reached to from = nat_eq from to || holds (row reached from) to

-- whether a source stands for node `to` or for one that depends on it
abbrev pub source_leads : List Node → List (List ℕ) → ℕ → Origin → Bool
source_leads nodes reached to source = option_map_or (leads_to reached to) (number_of nodes source) false
