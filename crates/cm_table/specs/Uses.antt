-- Inside.
-- The order of a declaration's uses by path, and all orders of a declaration.
use Rattle.std.specs.Prelude.{◌≡◌, ℕ, List, [], Option, Some, None, IfSome, slice_get}
use Rattle.std.specs.Ordering.{nat_cmp}
use Rattle.std.specs.declared.cmp.Ordering.{Ordering}
use Rattle.std.specs.Cmp.Lexicographic.{slice_cmp}
use Rattle.cm_decl.specs.declared.decl.Decl.{Decl}
use Rattle.cm_decl.specs.declared.rows.Usage.{Usage}
use Rattle.cm_world.specs.declared.row.Row.{Row}
use Rattle.cm_table.specs.declared.ordered.Orders.{Orders}
use Rattle.cm_table.specs.Named.{IsNameOrder}
use Rattle.cm_table.specs.Offers.{IsOfferOrder}
use Rattle.cm_table.specs.Orders.{place_cmp_by, IsSplitBy, IsOrderBy}

-- the path of a use, or an empty text where there is none
abbrev pub path_by : Option Usage → List ℕ
path_by None = []
path_by (Some u) = u.path

-- the path of the use at a place
abbrev pub path_at : List Usage → ℕ → List ℕ
path_at uses k = path_by (slice_get uses k)

-- the order of paths, by their bytes
abbrev pub path_cmp : List ℕ → List ℕ → Ordering
path_cmp a b = slice_cmp nat_cmp a b

-- the order of places by the paths of their uses, then by the places themselves
abbrev pub use_cmp : List Usage → ℕ → ℕ → Ordering
use_cmp uses a b = place_cmp_by path_by path_cmp uses a b

-- the first n places have paths before this one, and the others don't: where a binary search ends
abbrev pub IsUseSplit : List Usage → List ℕ → List ℕ → ℕ → Type 0
IsUseSplit uses places path n = IsSplitBy path_by path_cmp uses places path n

-- the places of all uses, in that order
abbrev pub IsUseOrder : List Usage → List ℕ → Type 0
IsUseOrder uses places = IsOrderBy path_by path_cmp uses places

-- the places of the offers, uses, exposes and capabilities of a declaration, each in their order
pub record AreOrders (d : Decl) (o : Orders) : Type 0 where
  pub offers : IsOfferOrder d.offers o.offers.items
  pub uses : IsUseOrder d.uses o.uses.items
  pub exposes : IsNameOrder (λ g. g.target_name) (λ g. g.kind) d.exposes o.exposes.items
  pub capabilities : IsNameOrder (λ c. c.name) (λ c. c.kind) d.capabilities o.capabilities.items

-- orders that are kept of a declaration, if some are, are right
abbrev pub AreKeptOrders : Decl → Option Orders → Type 0
AreKeptOrders d o = IfSome o (AreOrders d)

-- orders that are kept of a row's declaration, if it has one, are right
abbrev pub AreOrdersOf : Row → Option Orders → Type 0
AreOrdersOf r o = (d : Decl) → r.decl ≡ Some d → AreKeptOrders d o
