-- Rows found by their name and kind, by binary search.
use Rattle.std.proofs.Common.{◌≡◌, ℕ, List, Bool, true, false, ◌&&◌, None, Some, refl, sym, ap, ap₂, ◌∙◌, nat_cmp, Equal, is_eq, bytes_eq}
use Rattle.std.specs.Prelude.{slice_get, position}
use Rattle.std.specs.List.Sorted.{IsPartitionedBy}
use Rattle.std.specs.Option.{option_map_or}
use Rattle.std.specs.Ordering.{is_lt}
use Rattle.std.specs.Cmp.{IsTotalOrder, IsStrictWeakOrder, tied_then}
use Rattle.std.specs.Cmp.Lexicographic.{slice_cmp, bytes_decides}
use Rattle.std.proofs.lemmas.Bool.{and_parts}
use Rattle.std.proofs.lemmas.Cmp.{then_total, on_total, nat_cmp_total, nat_list_cmp_total}
use Rattle.std.proofs.lemmas.Map.Text.{is_eq-slice_cmp}
use Rattle.cm_decl.specs.declared.kind.Kind.{Kind}
use Rattle.cm_decl.specs.Same.{same_kind}
use Rattle.cm_table.specs.Offers.{kind_rank}
use Rattle.cm_table.specs.Named.{NameKey, name_cmp, name_key, name_key_at, named_cmp, sought_key, is_named, IsNameSplit, IsNameOrder}
use Rattle.cm_table.proofs.lemmas.Seeking.{same_rank, rank_tie}
use Rattle.cm_table.proofs.lemmas.lists.Sought as sought

-- The order of the keys of names and kinds is total.
pub name_total : IsTotalOrder name_cmp
name_total = then_total (on_total (λ (a : NameKey). a.name) nat_list_cmp_total) (on_total (λ (a : NameKey). a.kind) nat_cmp_total)

-- The key of a row, by its name and the rank of its kind.
abbrev make : List ℕ → ℕ → NameKey
make name kind = record { name = name; kind = kind }

-- Two tests may change places.
swapped : (a b : Bool) → (a && b) ≡ (b && a)
swapped true true = refl
swapped true false = refl
swapped false true = refl
swapped false false = refl

module _ {X : Type 0} (name_in : X → List ℕ) (kind_in : X → Kind) where
  -- The order of places by the names and kinds of their rows is a strict weak one.
  pub named_weak : (items : List X) → IsStrictWeakOrder (λ (x : ℕ) (y : ℕ). is_lt (named_cmp name_in kind_in items x y))
  named_weak items = sought.place_weak (name_key name_in kind_in) name_cmp name_total items

  -- In the order of names the rows that come before a key stand before all others.
  pub named_parted : (items : List X) (places : List ℕ) → IsNameOrder name_in kind_in items places → (w : NameKey) → IsPartitionedBy (λ k. is_lt (name_cmp (name_key_at name_in kind_in items k) w)) places
  named_parted items places o w = sought.parted (name_key name_in kind_in) name_cmp name_total items places o w

  -- ---- what is looked for of a row

  module _ (kind : Kind) (name : List ℕ) where
    -- An item of the name and kind has the key that is looked for.
    exact_named : (x : X) → is_named name_in kind_in kind name x ≡ true → name_key name_in kind_in (Some x) ≡ sought_key kind name
    exact_named x h =
        let both = and_parts (same_kind (kind_in x) kind) (bytes_eq (name_in x) name) h in
        ap (λ t. make t (kind_rank (kind_in x))) ((bytes_decides (name_in x) name).0 both.1)
        ∙ ap (λ t. make name t) (same_rank (kind_in x) kind both.0)

    -- An item whose key compares as equal to the one that is looked for has the name and kind.
    named_back : (x : X) → name_cmp (name_key name_in kind_in (Some x)) (sought_key kind name) ≡ Equal → is_named name_in kind_in kind name x ≡ true
    named_back x h =
        let own = slice_cmp nat_cmp (name_in x) name in
        let rank = nat_cmp (kind_rank (kind_in x)) (kind_rank kind) in
        sym (ap₂ (λ s t. s && t) (rank_tie (kind_in x) kind) (is_eq-slice_cmp (name_in x) name))
        ∙ swapped (is_eq rank) (is_eq own) ∙ sym (sym (tied_then own rank)) ∙ ap is_eq h

  -- ---- the search, by its answers

  module _ (items : List X) (places : List ℕ) (o : IsNameOrder name_in kind_in items places) (kind : Kind) (name : List ℕ) (count : ℕ) (split : IsNameSplit name_in kind_in items places (sought_key kind name) count) where
    -- no place is left
    pub named_behind : None ≡ slice_get places count → None ≡ position (is_named name_in kind_in kind name) items
    named_behind none = sought.none_behind (name_key name_in kind_in) name_cmp name_total items places o (sought_key kind name) (is_named name_in kind_in kind name) (exact_named kind name) (named_back kind name) count split none

    -- another row stands at the next place
    pub named_other : (m : ℕ) → Some m ≡ slice_get places count → false ≡ option_map_or (is_named name_in kind_in kind name) (slice_get items m) false → None ≡ position (is_named name_in kind_in kind name) items
    named_other m here fails = sought.none_tested (name_key name_in kind_in) name_cmp name_total items places o (sought_key kind name) (is_named name_in kind_in kind name) (exact_named kind name) (named_back kind name) count split m here fails

    -- it stands there
    pub named_there : (m : ℕ) → Some m ≡ slice_get places count → true ≡ option_map_or (is_named name_in kind_in kind name) (slice_get items m) false → Some m ≡ position (is_named name_in kind_in kind name) items
    named_there m here passes = sought.some_tested (name_key name_in kind_in) name_cmp name_total items places o (sought_key kind name) (is_named name_in kind_in kind name) (exact_named kind name) (named_back kind name) count split m here passes
