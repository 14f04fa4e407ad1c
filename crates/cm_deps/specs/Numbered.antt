-- Inside.
-- The realm graph of a declaration, with numbers for its nodes.
use Rattle.std.specs.Prelude.{List}
use Rattle.cm_decl.specs.declared.decl.Decl.{Decl}
use Rattle.cm_decl.specs.declared.node.DynChild.{DynChild}
use Rattle.cm_decl.specs.Graph.{is_node}
use Rattle.cm_deps.specs.declared.realm.NumberedRealm.{NumberedRealm}
use Rattle.cm_deps.specs.Nodes.{IsNodes}
use Rattle.cm_deps.specs.Sources.{IsOffered, IsEdges}

-- the numbered graph is that of this declaration with these children of its collections
pub record IsNumberedRealm (d : Decl) (dynamic : List DynChild) (realm : NumberedRealm) : Type 0 where
  pub nodes : IsNodes (is_node d dynamic) realm.nodes.items
  pub offered : IsOffered realm.nodes.items d.offers realm.offered
  pub edges : IsEdges d dynamic realm.nodes.items realm.after.items
