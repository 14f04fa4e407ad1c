-- Uses found by binary search.
use Rattle.std.proofs.Common.{◌≡◌, ℕ, List, true, false, None, Some, sym, ap, ◌∙◌, Equal, is_eq, bytes_eq}
use Rattle.std.specs.Prelude.{slice_get, position}
use Rattle.std.specs.List.Sorted.{IsPartitionedBy}
use Rattle.std.specs.Option.{option_map_or}
use Rattle.std.specs.Ordering.{is_lt}
use Rattle.std.specs.Cmp.{IsTotalOrder, IsStrictWeakOrder}
use Rattle.std.specs.Cmp.Lexicographic.{bytes_decides}
use Rattle.std.proofs.lemmas.Cmp.{nat_list_cmp_total}
use Rattle.std.proofs.lemmas.Map.Text.{is_eq-slice_cmp}
use Rattle.cm_decl.specs.declared.rows.Usage.{Usage}
use Rattle.cm_table.specs.Uses.{path_by, path_at, path_cmp, use_cmp, IsUseSplit, IsUseOrder}
use Rattle.cm_table.proofs.lemmas.lists.Sought as sought

-- The order of paths is total.
pub path_total : IsTotalOrder path_cmp
path_total = nat_list_cmp_total

-- The order of places by the paths of their uses is a strict weak one.
pub use_weak : (uses : List Usage) → IsStrictWeakOrder (λ (x : ℕ) (y : ℕ). is_lt (use_cmp uses x y))
use_weak uses = sought.place_weak path_by path_cmp path_total uses

-- In the order of uses those whose paths come before one stand before all others.
pub uses_parted : (uses : List Usage) (places : List ℕ) → IsUseOrder uses places → (path : List ℕ) → IsPartitionedBy (λ k. is_lt (path_cmp (path_at uses k) path)) places
uses_parted uses places o path = sought.parted path_by path_cmp path_total uses places o path

-- ---- what is looked for of a use

module _ (path : List ℕ) where
  -- A use of the path has that path as its key.
  exact_use : (x : Usage) → bytes_eq x.path path ≡ true → path_by (Some x) ≡ path
  exact_use x h = (bytes_decides x.path path).0 h

  -- A use whose key compares as equal to the path is of that path.
  use_back : (x : Usage) → path_cmp (path_by (Some x)) path ≡ Equal → bytes_eq x.path path ≡ true
  use_back x h = sym (is_eq-slice_cmp x.path path) ∙ ap is_eq h

-- ---- the search, by its answers

module _ (uses : List Usage) (places : List ℕ) (o : IsUseOrder uses places) (path : List ℕ) (count : ℕ) (split : IsUseSplit uses places path count) where
  -- no place is left
  pub used_behind : None ≡ slice_get places count → None ≡ position (λ u. bytes_eq u.path path) uses
  used_behind none = sought.none_behind path_by path_cmp path_total uses places o path (λ u. bytes_eq u.path path) (exact_use path) (use_back path) count split none

  -- another use stands at the next place
  pub used_other : (m : ℕ) → Some m ≡ slice_get places count → false ≡ option_map_or (λ u. bytes_eq u.path path) (slice_get uses m) false → None ≡ position (λ u. bytes_eq u.path path) uses
  used_other m here fails = sought.none_tested path_by path_cmp path_total uses places o path (λ u. bytes_eq u.path path) (exact_use path) (use_back path) count split m here fails

  -- it stands there
  pub used_there : (m : ℕ) → Some m ≡ slice_get places count → true ≡ option_map_or (λ u. bytes_eq u.path path) (slice_get uses m) false → Some m ≡ position (λ u. bytes_eq u.path path) uses
  used_there m here passes = sought.some_tested path_by path_cmp path_total uses places o path (λ u. bytes_eq u.path path) (exact_use path) (use_back path) count split m here passes
