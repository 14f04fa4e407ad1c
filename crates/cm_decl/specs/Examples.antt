-- Inside.
-- Short declarations that worked examples speak of, and their faults. A name of one letter is written
-- by its byte.
use Rattle.std.specs.Prelude.{ℕ, List, [], ◌∷◌, false, Option, None}
use Rattle.cm_decl.specs.declared.decl.Decl.{Decl}
use Rattle.cm_decl.specs.declared.rows.Child.{Child}
use Rattle.cm_decl.specs.declared.rows.Usage.{Usage}
use Rattle.cm_decl.specs.declared.rows.Give.{Give}
use Rattle.cm_decl.specs.declared.rows.Offer.{Offer}
use Rattle.cm_decl.specs.declared.rows.Durability.TheVariants.{Transient}
use Rattle.cm_decl.specs.declared.kind.Kind.TheVariants.{Protocol}
use Rattle.cm_names.specs.declared.dependency.Dependency.{Dependency}
use Rattle.cm_names.specs.declared.dependency.Dependency.TheVariants.{Strong}
use Rattle.cm_names.specs.declared.availability.Availability.{Availability}
use Rattle.cm_names.specs.declared.availability.Availability.TheVariants.{Required, Optional}
use Rattle.cm_decl.specs.declared.origin.Origin.{Origin}
use Rattle.cm_decl.specs.declared.origin.Origin.TheVariants as origin
use Rattle.cm_decl.specs.declared.section.Section.{Section}
use Rattle.cm_decl.specs.declared.node.Node.{Node}
use Rattle.cm_decl.specs.declared.node.Node.TheVariants as node
use Rattle.cm_decl.specs.Graph.{static_name}
use Rattle.cm_decl.specs.Clashes.{RowPlace}
use Rattle.cm_decl.specs.Faults.{DeclFault}

-- a declaration of nothing
abbrev pub no_decl : Decl
no_decl = record {
  runner = None;
  children = [];
  collections = [];
  capabilities = [];
  uses = [];
  offers = [];
  exposes = [];
  environments = [];
  debug_uses = [];
  storages = [];
  storage_uses = [];
  storage_offers = [];
}

-- a child of this name, whose URL is `#` and the name
abbrev pub child : List ℕ → Child
child name = record { name = name; url = 35 ∷ name; eager = false; environment = None }

-- a protocol that is given under its own name
abbrev pub give : List ℕ → Origin → Dependency → Availability → Give
give name from dependency availability = record {
  kind = Protocol;
  source_name = name;
  from = from;
  target_name = name;
  rights = None;
  subdir = None;
  dependency = dependency;
  availability = availability;
}

-- the source that is a declared child
abbrev pub from_child : List ℕ → Origin
from_child name = origin.Child (static_name name)

-- an offer of a protocol, from one declared child to another
abbrev pub offer : List ℕ → List ℕ → List ℕ → Dependency → Offer
offer name from to dependency = record { to = to; give = give name (from_child from) dependency Required }

-- the name `a`
abbrev pub a : List ℕ
a = 97 ∷ []

-- the name `b`
abbrev pub b : List ℕ
b = 98 ∷ []

-- the name `p`
abbrev pub p : List ℕ
p = 112 ∷ []

-- the name `q`
abbrev pub q : List ℕ
q = 113 ∷ []

-- ---- declarations of one fault each

-- a collection with the name of a child
abbrev pub named_as_child : Decl
named_as_child = record no_decl {
  children = child a ∷ child b ∷ [];
  collections = record { name = b; durability = Transient; dynamic_offers = false; environment = None } ∷ [];
}

-- a use of a protocol
abbrev pub use_of : List ℕ → Origin → List ℕ → Usage
use_of name from path = record {
  kind = Protocol;
  name = name;
  from = from;
  path = path;
  rights = None;
  subdir = None;
  dependency = Strong;
  availability = Required;
}

-- a component that uses something of a child that isn't declared
abbrev pub used_of_nobody : Decl
used_of_nobody = record no_decl { children = child a ∷ []; uses = use_of p (from_child b) (47 ∷ p) ∷ [] }

-- a component that offers its child what it doesn't provide
abbrev pub offered_undeclared : Decl
offered_undeclared = record no_decl {
  children = child a ∷ [];
  offers = record { to = a; give = give p origin.Own Strong Required } ∷ [];
}

-- a child that is offered what it exposes itself
abbrev pub given_back : Decl
given_back = record no_decl { children = child a ∷ []; offers = offer p a a Strong ∷ [] }

-- a name that is exposed twice
abbrev pub exposed_twice : Decl
exposed_twice = record no_decl {
  children = child a ∷ child b ∷ [];
  exposes =
      give p (from_child a) Strong Required ∷ give q (from_child a) Strong Required
      ∷ give p (from_child b) Strong Required ∷ [];
}

-- a path that is used twice
abbrev pub used_twice : Decl
used_twice = record no_decl { uses = use_of p origin.Parent (47 ∷ p) ∷ use_of q origin.Parent (47 ∷ p) ∷ [] }

-- uses at the paths /a/b, /ab and /a: the first lies inside the third
abbrev pub one_inside : Decl
one_inside = record no_decl {
  uses =
      use_of p origin.Parent (47 ∷ 97 ∷ 47 ∷ 98 ∷ []) ∷ use_of q origin.Parent (47 ∷ 97 ∷ 98 ∷ [])
      ∷ use_of b origin.Parent (47 ∷ 97 ∷ []) ∷ [];
}

-- two exposes from void, the second of which has to be there
abbrev pub exposed_from_void : Decl
exposed_from_void =
    record no_decl { exposes = give p origin.Void Strong Optional ∷ give q origin.Void Strong Required ∷ [] }

-- a child's name that is declared twice, and an offer from void that has to be there
abbrev pub twice_named : Decl
twice_named = record no_decl {
  children = child a ∷ child b ∷ child a ∷ [];
  offers = record { to = a; give = give p origin.Void Strong Required } ∷ [];
}

-- the fault of a row, with the row that it clashes with
abbrev pub row_fault : ℕ → Section → ℕ → Option RowPlace → DeclFault
row_fault number section i against =
    record { number = number; section = section; index = i; against = against; cycle = [] }

-- ---- cycles

-- the node of a declared child
abbrev pub child_node : List ℕ → Node
child_node name = node.Child (static_name name)

-- two children, each of which is offered something of the other; the dependency of the second offer is
-- said
abbrev pub two_ways : Dependency → Decl
two_ways back =
    record no_decl { children = child a ∷ child b ∷ []; offers = offer p a b Strong ∷ offer q b a back ∷ [] }
