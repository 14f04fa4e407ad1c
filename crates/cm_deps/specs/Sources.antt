-- Inside.
-- The numbers of the nodes that a node strongly depends on.
use Rattle.std.specs.Prelude.{◌≡◌, ℕ, ◌<◌, List, [], Bool, ◌&&◌, ◌||◌, length, map, filter, nat_lt}
use Rattle.std.specs.Prelude.{unwrap_or}
use Rattle.std.specs.List.{list_any}
use Rattle.std.specs.Str.{bytes_eq}
use Rattle.std.specs.Ordering.{nat_cmp}
use Rattle.std.specs.Cmp.Lexicographic.{slice_cmp}
use Rattle.std.specs.BTreeMap.{BTreeMap, get}
use Rattle.cm_decl.specs.declared.decl.Decl.{Decl}
use Rattle.cm_decl.specs.declared.rows.Give.{Give}
use Rattle.cm_decl.specs.declared.rows.Offer.{Offer}
use Rattle.cm_decl.specs.declared.node.Node.{Node}
use Rattle.cm_decl.specs.declared.node.DynChild.{DynChild}
use Rattle.cm_decl.specs.declared.origin.Origin.{Origin}
use Rattle.cm_decl.specs.Graph.{is_strong, is_from_node, sources_of}
use Rattle.cm_deps.specs.Edges.{holds, row}
use Rattle.cm_deps.specs.Nodes.{at}

-- the sources of these gives, as far as they are strong
abbrev pub strong_sources : List Give → List Origin
strong_sources gives = map (λ g. g.from) (filter (λ g. is_strong g.dependency) gives)

-- what these offers give to the child or collection of this name
abbrev pub offers_of : List Offer → List ℕ → List Give
offers_of offers name = map (λ o. o.give) (filter (λ o. bytes_eq o.to name) offers)

-- whether j is the number of a node that one of the sources stands for
abbrev pub is_source : List Node → List Origin → ℕ → Bool
is_source nodes sources j = nat_lt j (length nodes) && list_any (is_from_node (at nodes j)) sources

-- a list of exactly the numbers of the nodes that these sources stand for
abbrev pub Lists : List Node → List Origin → List ℕ → Type 0
Lists nodes sources numbers = (j : ℕ) → holds numbers j ≡ is_source nodes sources j

-- the numbers of the nodes that these sources stand for were added to a list
abbrev pub ListsMore : List Node → List Origin → List ℕ → List ℕ → Type 0
ListsMore nodes sources old new = (j : ℕ) → holds new j ≡ (holds old j || is_source nodes sources j)

-- the numbers that a map has for a name; none where it has no entry
abbrev pub numbers_at : BTreeMap (List ℕ) (List ℕ) → List ℕ → List ℕ
numbers_at numbers name = unwrap_or (get (slice_cmp nat_cmp) numbers name) []

-- for each name, the numbers of the nodes that a child or collection of that name is strongly offered
-- something from
abbrev pub IsOffered : List Node → List Offer → BTreeMap (List ℕ) (List ℕ) → Type 0
IsOffered nodes offers numbers =
    (name : List ℕ) → Lists nodes (strong_sources (offers_of offers name)) (numbers_at numbers name)

-- for each node the numbers of the nodes that it strongly depends on
pub record IsEdges (d : Decl) (dynamic : List DynChild) (nodes : List Node) (rows : List (List ℕ))
    : Type 0 where
  pub size : length rows ≡ length nodes
  pub sources : (i : ℕ) → i < length nodes → Lists nodes (sources_of d dynamic (at nodes i)) (row rows i)
