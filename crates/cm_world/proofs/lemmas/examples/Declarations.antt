-- The declarations of the worked examples are valid.
use Rattle.std.proofs.Common.{◌≡◌, ℕ, List, [], ◌∷◌, ◌++◌, flat_map, Bool, true, false, cond, ◌&&◌, true≢false, Option, Some, None, unwrap_or, map, filter, refl, sym, ◌∙◌, ap, IsTrue, bytes_eq}
use Rattle.std.specs.List.{list_any}
use Rattle.std.specs.Option.{option_eq}
use Rattle.std.specs.Cmp.Lexicographic.{bytes_decides}
use Rattle.std.proofs.Math.Bool.{or-false}
use Rattle.std.specs.Cmp.{first_so}
use Rattle.cm_names.specs.declared.child.ChildName.{ChildName}
use Rattle.cm_decl.specs.declared.decl.Decl.{Decl}
use Rattle.cm_decl.specs.declared.node.Node.{Node}
use Rattle.cm_decl.specs.declared.node.Node.TheVariants.{Own, Child}
use Rattle.cm_decl.specs.declared.node.DynChild.{DynChild}
use Rattle.cm_decl.specs.Graph.{StrongOn, is_node, sources_of, own_sources, child_sources, is_from_node, is_strong, target_of}
use Rattle.cm_decl.specs.Reach.{NoCycle}
use Rattle.cm_decl.specs.Valid.{IsValid, is_well_formed}
use Rattle.cm_decl.specs.Examples.{from_child, no_decl}
use Rattle.cm_decl.proofs.lemmas.faults.Computed.{first_fault}
use Rattle.cm_decl.proofs.lemmas.faults.FirstFaults.{computes_none}
use Rattle.cm_decl.proofs.lemmas.cycles.Reaching.{acyclic_by_ends}
use Rattle.cm_world.specs.Examples.{root_decl, logger_decl, client_decl, no_offer_decl, no_expose_decl, l, c}
use Rattle.cm_world.specs.RouteExamples.{one_child}
use Rattle.cm_world.specs.ShutdownExamples.{k_decl, x_name}

-- an edge has a source that says so
pub edge_source : (d : Decl) (dynamic : List DynChild) (x y : Node) → StrongOn d dynamic x y → IsTrue (list_any (is_from_node y) (sources_of d dynamic x))
edge_source d dynamic x y h =
    let by : Bool = list_any (is_from_node y) (sources_of d dynamic x) in
    first_so by (is_node d dynamic x) (first_so (by && is_node d dynamic x) (is_node d dynamic y) h)

-- ---- declarations in which nothing depends on anything

-- without sources there is no cycle
pub acyclic_alone : (d : Decl) (dynamic : List DynChild) → ((x : Node) → sources_of d dynamic x ≡ []) → NoCycle (StrongOn d dynamic)
acyclic_alone d dynamic silent =
    acyclic_by_ends (StrongOn d dynamic) (λ x y z first second. true≢false (sym (edge_source d dynamic x y first) ∙ ap (list_any (is_from_node y)) (silent x)))

-- Where neither the component nor any child has sources, no node has.
silent_by : (d : Decl) → own_sources d ≡ [] → ((n : ChildName) → child_sources d n [] ≡ []) → (x : Node) → sources_of d [] x ≡ []
silent_by d own children Own = own
silent_by d own children (Child n) = children n

-- A declaration that is well formed and has no faults and no sources is valid.
pub valid_alone : (d : Decl) → IsTrue (is_well_formed d) → first_fault d ≡ None → own_sources d ≡ [] → ((n : ChildName) → child_sources d n [] ≡ []) → IsValid d
valid_alone d formed faultless own children = record {
  well_formed = formed;
  faultless = computes_none d faultless;
  acyclic = acyclic_alone d [] (silent_by d own children);
}

-- The declaration of the logger is valid.
pub logger_valid : IsValid logger_decl
logger_valid = valid_alone logger_decl refl refl refl (λ n. refl)

-- The declaration of the client is valid.
pub client_valid : IsValid client_decl
client_valid = valid_alone client_decl refl refl refl (λ n. refl)

-- The declaration of the root without its offer to the client is valid.
pub no_offer_valid : IsValid no_offer_decl
no_offer_valid = valid_alone no_offer_decl refl refl refl (λ n. refl)

-- The declaration of the logger without its expose is valid.
pub no_expose_valid : IsValid no_expose_decl
no_expose_valid = valid_alone no_expose_decl refl refl refl (λ n. refl)

-- The declaration of a root with one child is valid.
pub one_child_valid : IsValid one_child
one_child_valid = valid_alone one_child refl refl refl (λ n. refl)

-- The declaration of a root with a collection is valid.
pub k_valid : IsValid k_decl
k_valid = valid_alone k_decl refl refl refl (λ n. refl)

-- The declaration of nothing is valid.
pub no_decl_valid : IsValid no_decl
no_decl_valid = valid_alone no_decl refl refl refl (λ n. refl)

-- ---- a declaration with one offer, from l to c

-- t says whether the offer reaches the child
one_offer : (t : Bool) (y : Node) → IsTrue (list_any (is_from_node y) (map (λ g. g.from) (filter (λ g. is_strong g.dependency) (map (λ o. o.give) (cond t root_decl.offers []) ++ [])))) → IsTrue t × IsTrue (is_from_node y (from_child l))
one_offer true y h = (refl, sym (or-false (is_from_node y (from_child l))) ∙ h)
one_offer false y h = absurd (true≢false (sym h))

-- an edge of a child leads from c to l
child_edge : (n : ChildName) (y : Node) → StrongOn root_decl [] (Child n) y → IsTrue (bytes_eq c (target_of n)) × IsTrue (is_from_node y (from_child l))
child_edge n y h = one_offer (bytes_eq c (target_of n)) y (edge_source root_decl [] (Child n) y h)

-- A child's name isn't both of these two.
apart : (coll : Option (List ℕ)) (name : List ℕ) → IsTrue (option_eq bytes_eq None coll && bytes_eq l name) → IsTrue (bytes_eq c (unwrap_or coll name)) → ⊥
apart (Some k) name h g = true≢false (sym h)
apart None name h g =
    let same : l ≡ c = (bytes_decides l name).0 h ∙ sym ((bytes_decides c name).0 g) in
    true≢false (sym ((bytes_decides l c).1 same))

-- No strong edge of the example begins at the node that its offer comes from.
apart_node : (y z : Node) → IsTrue (is_from_node y (from_child l)) → StrongOn root_decl [] y z → ⊥
apart_node Own z h g = true≢false (sym h)
apart_node (Child n) z h g = apart n.coll n.name h (child_edge n z g).0

-- No strong edge of the example follows another.
short : (x y z : Node) → StrongOn root_decl [] x y → StrongOn root_decl [] y z → ⊥
short Own y z first second = true≢false (sym first)
short (Child n) y z first second = apart_node y z (child_edge n y first).1 second

-- The declaration of the root, with its offer to the client, is valid.
pub root_valid : IsValid root_decl
root_valid = record {
  well_formed = refl;
  faultless = computes_none root_decl refl;
  acyclic = acyclic_by_ends (StrongOn root_decl []) short;
}

-- ---- a child that was created, and is offered nothing

-- A child in a collection that was created and given nothing.
abbrev pub new_child : DynChild
new_child = record { name = x_name; gives = [] }

-- Nothing is given to a created child, whether it is there or not.
pub no_gives : (t : Bool) → flat_map (λ k. k.gives) (cond t (new_child ∷ []) []) ≡ []
no_gives true = refl
no_gives false = refl
