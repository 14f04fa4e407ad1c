-- What comes from the parent of an instance.
use Rattle.std.proofs.Common.{◌≡◌, ℕ, List, Option, Some, None, option_map, option_and_then, refl, sym, ◌∙◌, ap}
use Rattle.cm_decl.specs.declared.decl.Decl.{Decl}
use Rattle.cm_decl.specs.declared.kind.Kind.{Kind}
use Rattle.cm_decl.specs.declared.rows.Give.{Give}
use Rattle.cm_world.specs.declared.row.Row.{Row}
use Rattle.cm_world.specs.declared.view.Facts.{Facts}
use Rattle.cm_world.specs.declared.frame.Builtin.{Builtin}
use Rattle.cm_world.specs.declared.route.Hop.{Hop}
use Rattle.cm_world.specs.declared.route.StepKind.TheVariants.{OfferHop}
use Rattle.cm_world.specs.declared.route.Why.TheVariants.{NoOffer}
use Rattle.cm_world.specs.Rows.{row_of, decl_of}
use Rattle.cm_world.specs.RowsInside.{facts_of}
use Rattle.cm_world.specs.Stations.{Station, offer_station, bare_hop}
use Rattle.cm_world.specs.NextStation.{To, Misses, by_builtin, builtin_of, next_above, from_above, offered, offered_by, by_offer}
use Rattle.cm_world.proofs.lemmas.trees.Finding.{some_same, none_some, row_of-inc}

-- an offer of a parent with this declaration
pub offered_to : (rows : List Row) (p : ℕ) (r : Row) (kind : Kind) (name : List ℕ) (d : Decl) (g : Give) (s : Station) → Some d ≡ decl_of rows p → Some g ≡ option_and_then (λ c. offered d c r.gives kind name) r.name → s ≡ offer_station rows p g → To s ≡ offered_by rows p r kind name (decl_of rows p)
offered_to rows p r kind name d g s declared given made =
    ap To made ∙ ap (by_offer rows p kind name) given ∙ ap (offered_by rows p r kind name) declared

-- no offer of a parent with this declaration
pub not_offered : (rows : List Row) (p : ℕ) (r : Row) (kind : Kind) (name : List ℕ) (d : Decl) (hop : Hop) → Some d ≡ decl_of rows p → None ≡ option_and_then (λ c. offered d c r.gives kind name) r.name → hop ≡ bare_hop rows OfferHop p kind name → Misses hop NoOffer ≡ offered_by rows p r kind name (decl_of rows p)
not_offered rows p r kind name d hop declared given made =
    ap (λ h. Misses h NoOffer) made ∙ ap (by_offer rows p kind name) given ∙ ap (offered_by rows p r kind name) declared

-- For a row without a parent the builtin is what comes from above.
root_by : (rows : List Row) (builtins : List Builtin) (kind : Kind) (name : List ℕ) (i : ℕ) (facts : Facts) (o : Option Row) → row_of rows i ≡ o → Some facts ≡ option_map facts_of o → facts.parent ≡ None → by_builtin rows i kind name (builtin_of builtins kind name) ≡ from_above rows builtins kind name o
root_by rows builtins kind name i facts None lives told above = absurd (none_some facts (sym told))
root_by rows builtins kind name i facts (Some r) lives told above =
    let parent : r.parent ≡ None = sym (ap (λ f. f.parent) (some_same facts (facts_of r) told)) ∙ above in
    ap (λ j. by_builtin rows j kind name (builtin_of builtins kind name)) (sym (row_of-inc rows i r lives))
    ∙ sym (ap (next_above rows builtins r kind name) parent)

-- above the root stand the builtins
pub above_root : (rows : List Row) (builtins : List Builtin) (kind : Kind) (name : List ℕ) (i : ℕ) (facts : Facts) → Some facts ≡ option_map facts_of (row_of rows i) → facts.parent ≡ None → by_builtin rows i kind name (builtin_of builtins kind name) ≡ from_above rows builtins kind name (row_of rows i)
above_root rows builtins kind name i facts told above = root_by rows builtins kind name i facts (row_of rows i) refl told above
