-- The offer, the use, the expose and the capability that an index tells.
use Rattle.std.proofs.Common.{◌≡◌, ℕ, ◌<◌, ◌-◌, ◌^◌, List, length, Bool, true, false, ◌&&◌, cond, Option, Some, None, find, refl, sym, ap, ◌∙◌, arith}
use Rattle.std.specs.Prelude.{position, slice_get, option_map, option_and_then, nat_lt}
use Rattle.std.specs.List.{position_or_len}
use Rattle.std.specs.Str.{bytes_eq}
use Rattle.std.proofs.lemmas.Bool.{ltb-false}
use Rattle.std.proofs.lemmas.List.Folds.{find_at}
use Rattle.std.proofs.lemmas.Option.{slice_get_past}
use Rattle.cm_names.specs.declared.child.ChildName.{ChildName}
use Rattle.cm_decl.specs.declared.decl.Decl.{Decl}
use Rattle.cm_decl.specs.declared.kind.Kind.{Kind}
use Rattle.cm_decl.specs.Same.{same_kind}
use Rattle.cm_world.specs.declared.row.Row.{Row}
use Rattle.cm_world.specs.Rows.{row_of, decl_of}
use Rattle.cm_world.specs.NextStation.{is_offer_to, offer_of, give_of, capability_of}
use Rattle.cm_world.specs.Offering.{offer_index, index_for, told_index, offer_for, offer_at}
use Rattle.cm_world.specs.RowsInside.{use_index, use_at, expose_index, expose_at, capability_index, capability_at}
use Rattle.cm_world.proofs.lemmas.trees.Finding.{some_same, none_some}

-- ---- the first that passes, and its place

-- Where the place of the first item that passes is told, that item is the one found.
at_by : {X : Type 0} (p : X → Bool) (xs : List X) (k : ℕ) (t : Bool) → nat_lt (position_or_len p xs) (length xs) ≡ t → cond t (Some (position_or_len p xs)) None ≡ Some k → find p xs ≡ slice_get xs k
at_by p xs k true less is = find_at p xs ∙ ap (slice_get xs) (some_same (position_or_len p xs) k is)
at_by p xs k false less is = absurd (none_some k is)

-- Where a test has a first place, what it finds is what stands at that place.
pub first_at : {X : Type 0} (p : X → Bool) (xs : List X) (k : ℕ) → position p xs ≡ Some k → find p xs ≡ slice_get xs k
first_at p xs k is = at_by p xs k (nat_lt (position_or_len p xs) (length xs)) refl is

-- Where no place is told, no item that passes is found.
none_by : {X : Type 0} (p : X → Bool) (xs : List X) (t : Bool) → nat_lt (position_or_len p xs) (length xs) ≡ t → cond t (Some (position_or_len p xs)) None ≡ None → find p xs ≡ None
none_by p xs true less is = absurd (none_some (position_or_len p xs) (sym is))
none_by p xs false less is = find_at p xs ∙ slice_get_past xs (position_or_len p xs) (ltb-false (position_or_len p xs) (length xs) less)

-- Where a test has no first place, it finds nothing.
pub none_at : {X : Type 0} (p : X → Bool) (xs : List X) → position p xs ≡ None → find p xs ≡ None
none_at p xs is = none_by p xs (nat_lt (position_or_len p xs) (length xs)) refl is

-- ---- told indexes

-- a number that is told and isn't the highest one is exact
pub told_exact : (k index : ℕ) → told_index k ≡ index → index < 2 ^ 32 - 1 → k ≡ index
told_exact k index told less = omega arith

-- A place that is told, and isn't the highest number that can be told, is the exact one.
pub told_exactly : (o : Option ℕ) (index : ℕ) → option_map told_index o ≡ Some index → index < 2 ^ 32 - 1 → o ≡ Some index
told_exactly None index told less = absurd (none_some index told)
told_exactly (Some k) index told less = ap Some (told_exact k index (some_same (told_index k) index told) less)

-- Where no place is told, there is none.
pub told_none : (o : Option ℕ) → option_map told_index o ≡ None → o ≡ None
told_none None told = refl
told_none (Some k) told = absurd (none_some (told_index k) (sym told))

-- ---- an offer by its index

-- At an exact place that is told of it stands the offer of that kind and name to the child.
pub offer_by_index : (d : Decl) (c : ChildName) (kind : Kind) (name : List ℕ) (index : ℕ) → option_map told_index (offer_index d kind name c) ≡ Some index → index < 2 ^ 32 - 1 → slice_get d.offers index ≡ offer_of d c kind name
offer_by_index d c kind name index told less =
    sym (first_at (is_offer_to c kind name) d.offers index (told_exactly (offer_index d kind name c) index told less))

-- Where no place of it is told, there is no offer of that kind and name to the child.
pub no_offer_by_index : (d : Decl) (c : ChildName) (kind : Kind) (name : List ℕ) → option_map told_index (offer_index d kind name c) ≡ None → None ≡ offer_of d c kind name
no_offer_by_index d c kind name told =
    sym (none_at (is_offer_to c kind name) d.offers (told_none (offer_index d kind name c) told))

-- the index for a row whose parent has this declaration
pub index_is : (rows : List Row) (i : ℕ) (kind : Kind) (name : List ℕ) (d : Decl) (c : ChildName) (r : Row) → row_of rows i ≡ Some r → r.name ≡ Some c → option_and_then (decl_of rows) r.parent ≡ Some d → offer_at rows i kind name ≡ option_map told_index (offer_index d kind name c)
index_is rows i kind name d c r lives named declared =
    ap (λ o. option_map told_index (option_and_then (offer_for rows kind name) o)) lives
    ∙ ap (λ o. option_map told_index (option_and_then (index_for r kind name) o)) declared
    ∙ ap (λ n. option_map told_index (option_and_then (offer_index d kind name) n)) named

-- ---- a use by its index

-- At an exact place that is told of it stands the use of that path.
pub use_by_index : (d : Decl) (path : List ℕ) (index : ℕ) → option_map told_index (use_index d path) ≡ Some index → index < 2 ^ 32 - 1 → slice_get d.uses index ≡ find (λ u. bytes_eq u.path path) d.uses
use_by_index d path index told less =
    sym (first_at (λ u. bytes_eq u.path path) d.uses index (told_exactly (use_index d path) index told less))

-- the index for an instance that has this declaration
pub use_index_is : (rows : List Row) (i : ℕ) (path : List ℕ) (d : Decl) → decl_of rows i ≡ Some d → use_at rows i path ≡ option_map told_index (use_index d path)
use_index_is rows i path d declared = ap (λ o. option_map told_index (option_and_then (λ e. use_index e path) o)) declared

-- Where no place of it is told of a row, its declaration has no use of that path.
pub no_use_by_index : (rows : List Row) (i : ℕ) (path : List ℕ) (d : Decl) → decl_of rows i ≡ Some d → use_at rows i path ≡ None → None ≡ find (λ u. bytes_eq u.path path) d.uses
no_use_by_index rows i path d declared told =
    sym (none_at (λ u. bytes_eq u.path path) d.uses (told_none (use_index d path) (sym (use_index_is rows i path d declared) ∙ told)))

-- ---- an expose and a capability by their indexes

module _ (kind : Kind) (name : List ℕ) where
  -- At an exact place that is told of it stands the expose of that kind and name.
  pub expose_by_index : (d : Decl) (index : ℕ) → option_map told_index (expose_index d kind name) ≡ Some index → index < 2 ^ 32 - 1 → slice_get d.exposes index ≡ give_of d.exposes kind name
  expose_by_index d index told less =
      sym (first_at (λ g. same_kind g.kind kind && bytes_eq g.target_name name) d.exposes index (told_exactly (expose_index d kind name) index told less))

  -- The place of an expose that is told of a row is told of its declaration.
  pub expose_index_is : (rows : List Row) (i : ℕ) (d : Decl) → decl_of rows i ≡ Some d → expose_at rows i kind name ≡ option_map told_index (expose_index d kind name)
  expose_index_is rows i d declared = ap (λ o. option_map told_index (option_and_then (λ e. expose_index e kind name) o)) declared

  -- Where no place of it is told of a row, its declaration has no expose of that kind and name.
  pub no_expose_by_index : (rows : List Row) (i : ℕ) (d : Decl) → decl_of rows i ≡ Some d → expose_at rows i kind name ≡ None → None ≡ give_of d.exposes kind name
  no_expose_by_index rows i d declared told =
      sym (none_at (λ g. same_kind g.kind kind && bytes_eq g.target_name name) d.exposes (told_none (expose_index d kind name) (sym (expose_index_is rows i d declared) ∙ told)))

  -- At an exact place that is told of it stands the capability of that kind and name.
  pub capability_by_index : (d : Decl) (index : ℕ) → option_map told_index (capability_index d kind name) ≡ Some index → index < 2 ^ 32 - 1 → slice_get d.capabilities index ≡ capability_of d kind name
  capability_by_index d index told less =
      sym (first_at (λ c. same_kind c.kind kind && bytes_eq c.name name) d.capabilities index (told_exactly (capability_index d kind name) index told less))

  -- The place of a capability that is told of a row is told of its declaration.
  pub capability_index_is : (rows : List Row) (i : ℕ) (d : Decl) → decl_of rows i ≡ Some d → capability_at rows i kind name ≡ option_map told_index (capability_index d kind name)
  capability_index_is rows i d declared = ap (λ o. option_map told_index (option_and_then (λ e. capability_index e kind name) o)) declared

  -- Where no place of it is told of a row, its declaration has no capability of that kind and name.
  pub no_capability_by_index : (rows : List Row) (i : ℕ) (d : Decl) → decl_of rows i ≡ Some d → capability_at rows i kind name ≡ None → None ≡ capability_of d kind name
  no_capability_by_index rows i d declared told =
      sym (none_at (λ c. same_kind c.kind kind && bytes_eq c.name name) d.capabilities (told_none (capability_index d kind name) (sym (capability_index_is rows i d declared) ∙ told)))
