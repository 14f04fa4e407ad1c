-- Inside.
-- The order of a declaration's offers, in which they are found by binary search.
use Rattle.std.specs.Prelude.{ℕ, List, [], Bool, Option, Some, None, slice_get}
use Rattle.std.specs.Ordering.{nat_cmp, ordering_then, is_lt}
use Rattle.std.specs.declared.cmp.Ordering.{Ordering}
use Rattle.std.specs.Cmp.Lexicographic.{slice_cmp}
use Rattle.cm_decl.specs.declared.kind.Kind.{Kind}
use Rattle.cm_decl.specs.declared.kind.Kind.TheVariants.{Protocol, Directory}
use Rattle.cm_decl.specs.declared.rows.Offer.{Offer}
use Rattle.cm_table.specs.declared.offers.OfferLookup.{OfferLookup}
use Rattle.cm_table.specs.Orders.{place_cmp_by, IsSplitBy, IsOrderBy}

-- what an offer is looked for by: its target, its name there, and the rank of its kind
pub record OfferKey : Type 0 where
  pub to : List ℕ
  pub name : List ℕ
  pub kind : ℕ

-- the rank of a kind: protocols come before directories
abbrev pub kind_rank : Kind → ℕ
kind_rank Protocol = 0
kind_rank Directory = 1

-- the key that the code looks for
abbrev pub key_of : OfferLookup → OfferKey
key_of s = record { to = s.to.now; name = s.name.now; kind = s.kind }

-- the key of an offer, or one of empty texts where there is none
abbrev pub key_by : Option Offer → OfferKey
key_by None = record { to = []; name = []; kind = 0 }
key_by (Some o) = record { to = o.to; name = o.give.target_name; kind = kind_rank o.give.kind }

-- the key of the offer at a place
abbrev pub key_at : List Offer → ℕ → OfferKey
key_at offers k = key_by (slice_get offers k)

-- the order of keys: by targets, then by names, then by kinds
abbrev pub key_cmp : OfferKey → OfferKey → Ordering
key_cmp a b =
    ordering_then (ordering_then (slice_cmp nat_cmp a.to b.to) (slice_cmp nat_cmp a.name b.name))
    (nat_cmp a.kind b.kind)

-- the order of places by the keys of their offers, then by the places themselves
abbrev pub place_cmp : List Offer → ℕ → ℕ → Ordering
place_cmp offers a b = place_cmp_by key_by key_cmp offers a b

-- the key for this kind and name at a target
abbrev pub wanted : List ℕ → Kind → List ℕ → OfferKey
wanted to kind name = record { to = to; name = name; kind = kind_rank kind }

-- whether the offer at a place comes before the one that is looked for
abbrev pub is_before : List Offer → OfferKey → ℕ → Bool
is_before offers w k = is_lt (key_cmp (key_at offers k) w)

-- the first n places have keys before the one that is looked for, and the others don't: where a binary
-- search ends
abbrev pub IsSplit : List Offer → List ℕ → OfferKey → ℕ → Type 0
IsSplit offers places w n = IsSplitBy key_by key_cmp offers places w n

-- the places of all offers, in that order
abbrev pub IsOfferOrder : List Offer → List ℕ → Type 0
IsOfferOrder offers places = IsOrderBy key_by key_cmp offers places
