-- What stands behind a station of a route.
use Rattle.std.proofs.Common.{◌≡◌, ℕ, List, Option, Some, None, option_and_then, refl, subst}
use Rattle.cm_names.specs.declared.child.ChildName.{ChildName}
use Rattle.cm_decl.specs.declared.decl.Decl.{Decl}
use Rattle.cm_decl.specs.declared.rows.Give.{Give}
use Rattle.cm_decl.specs.declared.rows.Capability.{Capability}
use Rattle.cm_decl.specs.declared.origin.Origin.{Origin}
use Rattle.cm_decl.specs.declared.origin.Origin.TheVariants.{Parent, Own, Framework, Child, Void}
use Rattle.cm_world.specs.declared.row.Row.{Row}
use Rattle.cm_world.specs.declared.frame.Builtin.{Builtin}
use Rattle.cm_world.specs.declared.route.Provider.{Provider}
use Rattle.cm_world.specs.declared.route.Provider.TheVariants as provider
use Rattle.cm_world.specs.Rows.{row_of, decl_of, child_of}
use Rattle.cm_world.specs.Stations.{Station, offer_station, expose_station, capability_station, builtin_station, framework_station}
use Rattle.cm_world.specs.NextStation.{To, next_of, next_by, from_above, next_above, by_builtin, builtin_of, offered_by, by_offer, offered, from_child, exposed_by, by_expose, give_of, by_capability}
use Rattle.cm_world.specs.Route.{provider_of}
use Rattle.cm_world.proofs.lemmas.trees.Chains.{same_station}

-- the instance that a provider is
abbrev pub instance_of : Provider → Option ℕ
instance_of (provider.Instance i moniker) = Some i
instance_of provider.Framework = None
instance_of provider.Builtin = None

-- the instance that a station provides by itself
abbrev pub provided_at : Station → Option ℕ
provided_at s = instance_of (provider_of s.hop)

-- the source of a station is the parent, p, whose declaration or the creation of the station's row offers this
pub record IsOffered (rows : List Row) (s : Station) (p : ℕ) (g : Give) : Type 0 where
  pub source : s.source ≡ Some Parent
  pub row : Row
  pub lives : row_of rows s.hop.inc ≡ Some row
  pub parent : row.parent ≡ Some p
  pub decl : Decl
  pub found : decl_of rows p ≡ Some decl
  pub name : ChildName
  pub named : row.name ≡ Some name
  pub gives : offered decl name row.gives s.hop.kind s.source_name ≡ Some g

-- an offer of the parent, an expose of a child, a capability of the row itself, or an end that is no instance
pub data IsNext (rows : List Row) (s : Station) : Station → Type 0 where
  by_parent : (p : ℕ) (g : Give) → IsOffered rows s p g → IsNext rows s (offer_station rows p g)
  by_kid : (c : ChildName) (j : ℕ) (g : Give) → s.source ≡ Some (Child c) → child_of rows s.hop.inc c ≡ Some j → IsNext rows s (expose_station rows j g)
  by_itself : (c : Capability) → s.source ≡ Some Own → IsNext rows s (capability_station rows s.hop.inc c)
  by_others : (t : Station) → t.source ≡ None → provided_at t ≡ None → IsNext rows s t

module _ (rows : List Row) (builtins : List Builtin) (s t : Station) where
  -- ---- from the parent

  -- A station that follows by a builtin is a next one.
  builtin_next : (i : ℕ) (o : Option Builtin) → by_builtin rows i s.hop.kind s.source_name o ≡ To t → IsNext rows s t
  builtin_next i None e = absurd (cc)
  builtin_next i (Some b) e = subst (IsNext rows s) (same_station (builtin_station rows i b) t e) (by_others (builtin_station rows i b) refl refl)

  module _ (p : ℕ) (r : Row) (source : s.source ≡ Some Parent) (lives : row_of rows s.hop.inc ≡ Some r) (parent : r.parent ≡ Some p) where
    -- A station that follows by an offer of the parent is a next one.
    offer_next : (d : Decl) (c : ChildName) (o : Option Give) → decl_of rows p ≡ Some d → r.name ≡ Some c → offered d c r.gives s.hop.kind s.source_name ≡ o → by_offer rows p s.hop.kind s.source_name o ≡ To t → IsNext rows s t
    offer_next d c None found named gives e = absurd (cc)
    offer_next d c (Some g) found named gives e =
        subst (IsNext rows s) (same_station (offer_station rows p g) t e)
        (by_parent p g (record { source = source; row = r; lives = lives; parent = parent; decl = d; found = found; name = c; named = named; gives = gives }))

    -- A station that follows by what the parent offers the row, if it has a name, is a next one.
    name_next : (d : Decl) (o : Option ChildName) → decl_of rows p ≡ Some d → r.name ≡ o → by_offer rows p s.hop.kind s.source_name (option_and_then (λ c. offered d c r.gives s.hop.kind s.source_name) o) ≡ To t → IsNext rows s t
    name_next d None found named e = absurd (cc)
    name_next d (Some c) found named e = offer_next d c (offered d c r.gives s.hop.kind s.source_name) found named refl e

    -- A station that follows by the parent's declaration, if it has one, is a next one.
    decl_next : (o : Option Decl) → decl_of rows p ≡ o → offered_by rows p r s.hop.kind s.source_name o ≡ To t → IsNext rows s t
    decl_next None found e = absurd (cc)
    decl_next (Some d) found e = name_next d r.name found refl e

  -- A station that follows above a row, at its parent or a builtin, is a next one.
  parent_next : (r : Row) (o : Option ℕ) → s.source ≡ Some Parent → row_of rows s.hop.inc ≡ Some r → r.parent ≡ o → next_above rows builtins r s.hop.kind s.source_name o ≡ To t → IsNext rows s t
  parent_next r None source lives parent e = builtin_next r.inc (builtin_of builtins s.hop.kind s.source_name) e
  parent_next r (Some p) source lives parent e = decl_next p r source lives parent (decl_of rows p) refl e

  -- A station that follows from above an instance, if its row is there, is a next one.
  row_next : (o : Option Row) → s.source ≡ Some Parent → row_of rows s.hop.inc ≡ o → from_above rows builtins s.hop.kind s.source_name o ≡ To t → IsNext rows s t
  row_next None source lives e = absurd (cc)
  row_next (Some r) source lives e = parent_next r r.parent source lives refl e

  -- ---- from a child, and from the row itself

  -- A station that follows by an expose of a child is a next one.
  give_next : (c : ChildName) (j : ℕ) (o : Option Give) → s.source ≡ Some (Child c) → child_of rows s.hop.inc c ≡ Some j → by_expose rows j s.hop.kind s.source_name o ≡ To t → IsNext rows s t
  give_next c j None source found e = absurd (cc)
  give_next c j (Some g) source found e = subst (IsNext rows s) (same_station (expose_station rows j g) t e) (by_kid c j g source found)

  -- A station that follows by the declaration of a child is a next one.
  expose_next : (c : ChildName) (j : ℕ) (o : Option Decl) → s.source ≡ Some (Child c) → child_of rows s.hop.inc c ≡ Some j → exposed_by rows j s.hop.kind s.source_name o ≡ To t → IsNext rows s t
  expose_next c j None source found e = absurd (cc)
  expose_next c j (Some d) source found e = give_next c j (give_of d.exposes s.hop.kind s.source_name) source found e

  -- A station that follows from a child, if it is there, is a next one.
  child_next : (c : ChildName) (o : Option ℕ) → s.source ≡ Some (Child c) → child_of rows s.hop.inc c ≡ o → from_child rows s.hop.kind s.source_name o ≡ To t → IsNext rows s t
  child_next c None source found e = absurd (cc)
  child_next c (Some j) source found e = expose_next c j (decl_of rows j) source found e

  -- A station that follows by a capability of the row itself is a next one.
  own_next : (o : Option Capability) → s.source ≡ Some Own → by_capability rows s.hop.inc o ≡ To t → IsNext rows s t
  own_next None source e = absurd (cc)
  own_next (Some c) source e = subst (IsNext rows s) (same_station (capability_station rows s.hop.inc c) t e) (by_itself c source)

  -- ---- from each source

  -- A station that follows from the source of another is a next one.
  source_next : (o : Option Origin) → s.source ≡ o → next_by rows builtins s o ≡ To t → IsNext rows s t
  source_next None source e = absurd (cc)
  source_next (Some Parent) source e = row_next (row_of rows s.hop.inc) source refl e
  source_next (Some (Child c)) source e = child_next c (child_of rows s.hop.inc c) source refl e
  source_next (Some Own) source e = own_next _ source e
  source_next (Some Framework) source e =
      subst (IsNext rows s) (same_station (framework_station rows s.hop.inc s.hop.kind s.source_name) t e) (by_others (framework_station rows s.hop.inc s.hop.kind s.source_name) refl refl)
  source_next (Some Void) source e = absurd (cc)

  -- what stands behind a station is one of these
  pub next_is : next_of rows builtins s ≡ To t → IsNext rows s t
  next_is e = source_next s.source refl e
