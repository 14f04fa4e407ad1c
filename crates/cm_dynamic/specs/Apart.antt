-- Inside.
-- Children in collections from which nothing strongly comes, so that they can be on no cycle.
use Rattle.std.specs.Prelude.{List, Bool, false, not, ◌&&◌, is_some, IsTrue}
use Rattle.std.specs.List.{list_all}
use Rattle.cm_names.specs.declared.dependency.Dependency.{Dependency}
use Rattle.cm_decl.specs.declared.decl.Decl.{Decl}
use Rattle.cm_decl.specs.declared.node.DynChild.{DynChild}
use Rattle.cm_decl.specs.declared.origin.Origin.{Origin}
use Rattle.cm_decl.specs.declared.origin.Origin.TheVariants as origin
use Rattle.cm_decl.specs.declared.rows.Give.{Give}
use Rattle.cm_decl.specs.declared.rows.Offer.{Offer}
use Rattle.cm_decl.specs.declared.rows.Usage.{Usage}
use Rattle.cm_decl.specs.Graph.{is_strong}

-- whether a source is a child in a collection
abbrev pub is_from_created : Origin → Bool
is_from_created (origin.Child c) = is_some c.coll
is_from_created _ = false

-- whether something with this dependency and source comes strongly from such a child
abbrev pub binds_created : Dependency → Origin → Bool
binds_created dependency from = is_strong dependency && is_from_created from

-- whether a give doesn't come strongly from such a child
abbrev pub is_plain_give : Give → Bool
is_plain_give g = not (binds_created g.dependency g.from)

-- whether an offer doesn't come strongly from such a child
abbrev pub is_plain_offer : Offer → Bool
is_plain_offer o = not (binds_created o.give.dependency o.give.from)

-- whether a use doesn't come strongly from such a child
abbrev pub is_plain_use : Usage → Bool
is_plain_use u = not (binds_created u.dependency u.from)

-- whether a child in a collection was given nothing that does
abbrev pub is_plain_child : DynChild → Bool
is_plain_child k = is_some k.name.coll && list_all is_plain_give k.gives

-- nothing in the declaration, and nothing that children in collections were given, comes strongly from
-- such a child
pub record NoneOfKind (d : Decl) (dynamic : List DynChild) : Type 0 where
  pub offers : IsTrue (list_all is_plain_offer d.offers)
  pub usages : IsTrue (list_all is_plain_use d.uses)
  pub children : IsTrue (list_all is_plain_child dynamic)
