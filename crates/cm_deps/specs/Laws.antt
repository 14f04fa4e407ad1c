-- Inside.
-- What holds of realm graphs.
use Rattle.std.specs.Prelude.{◌≡◌, ℕ, List, [], ◌∷◌, ◌++◌, false, Some, ◌↔◌, ◌⊎◌}
use Rattle.cm_decl.specs.declared.decl.Decl.{Decl}
use Rattle.cm_decl.specs.declared.node.DynChild.{DynChild}
use Rattle.cm_decl.specs.declared.node.Node.{Node}
use Rattle.cm_decl.specs.declared.node.Node.TheVariants.{Child}
use Rattle.cm_decl.specs.Reach.{NoCycle}
use Rattle.cm_decl.specs.Cycle.{IsPickedCycle}
use Rattle.cm_decl.specs.Graph.{is_node, is_strong_edge, StrongOn}
use Rattle.cm_decl.specs.GraphInside.{DependsOn, WouldDepend}

-- a further child of a collection, which isn't a node of the realm graph yet, and on which no node
-- would depend
pub record IsFurther (d : Decl) (dynamic : List DynChild) (collection : List ℕ) (k : DynChild) : Type 0 where
  pub coll : k.name.coll ≡ Some collection
  pub new : is_node d dynamic (Child k.name) ≡ false
  pub unused : (z : Node) → is_strong_edge d (dynamic ++ k ∷ []) z (Child k.name) ≡ false

-- what is said of a child that would be created is true of the realm graph with that child
abbrev pub WouldDependIsOneMore : Type 0
WouldDependIsOneMore =
    (d : Decl) (dynamic : List DynChild) (coll : List ℕ) (k : DynChild) (y : Node) →
    IsFurther d dynamic coll k → NoCycle (StrongOn d dynamic) →
    DependsOn d (dynamic ++ k ∷ []) (Child k.name) y ↔ WouldDepend d dynamic coll k.gives y

-- a realm graph has no cycle of strong edges, or it has the one that is told
abbrev pub EachIsAcyclicOrHasAPickedCycle : Type 0
EachIsAcyclicOrHasAPickedCycle =
    (d : Decl) (dynamic : List DynChild) →
    NoCycle (StrongOn d dynamic) ⊎ ((cycle : List Node) × IsPickedCycle (is_strong_edge d dynamic) cycle)
