-- Offers found by binary search.
use Rattle.std.proofs.Common.{◌≡◌, ℕ, List, Bool, true, false, ◌&&◌, true≢false, None, Some, refl, sym, ap, ap₂, ◌∙◌, subst, nat_cmp, Equal, is_eq, bytes_eq}
use Rattle.std.specs.Prelude.{slice_get, position}
use Rattle.std.specs.List.Sorted.{IsPartitionedBy}
use Rattle.std.specs.Option.{option_map_or}
use Rattle.std.specs.Ordering.{is_lt, ordering_then}
use Rattle.std.specs.Cmp.{IsTotalOrder, IsStrictWeakOrder, tied_then}
use Rattle.std.specs.Cmp.Lexicographic.{slice_cmp, bytes_decides}
use Rattle.std.proofs.lemmas.Bool.{and_parts}
use Rattle.std.proofs.lemmas.Cmp.{then_total, on_total, nat_cmp_total, nat_list_cmp_total}
use Rattle.std.proofs.lemmas.Map.Text.{is_eq-slice_cmp}
use Rattle.cm_names.specs.declared.child.ChildName.{ChildName}
use Rattle.cm_decl.specs.declared.kind.Kind.{Kind}
use Rattle.cm_decl.specs.declared.kind.Kind.TheVariants.{Protocol, Directory}
use Rattle.cm_decl.specs.declared.rows.Offer.{Offer}
use Rattle.cm_decl.specs.Graph.{target_of}
use Rattle.cm_decl.specs.Same.{same_kind}
use Rattle.cm_world.specs.NextStation.{is_offer_to}
use Rattle.cm_table.specs.Offers.{OfferKey, key_by, key_cmp, place_cmp, kind_rank, wanted, is_before, IsSplit, IsOfferOrder}
use Rattle.cm_table.proofs.lemmas.lists.Sought as sought

-- ---- the orders are orders

-- The order of the keys of offers is total.
pub key_total : IsTotalOrder key_cmp
key_total = then_total (then_total (on_total (λ (a : OfferKey). a.to) nat_list_cmp_total) (on_total (λ (a : OfferKey). a.name) nat_list_cmp_total)) (on_total (λ (a : OfferKey). a.kind) nat_cmp_total)

-- The order of places by the keys of their offers is a strict weak one.
pub place_weak : (offers : List Offer) → IsStrictWeakOrder (λ (x : ℕ) (y : ℕ). is_lt (place_cmp offers x y))
place_weak offers = sought.place_weak key_by key_cmp key_total offers

-- In the order of offers those that come before a key stand before all others.
pub parted : (offers : List Offer) (places : List ℕ) → IsOfferOrder offers places → (w : OfferKey) → IsPartitionedBy (is_before offers w) places
parted offers places o w = sought.parted key_by key_cmp key_total offers places o w

-- ---- what is looked for of an offer

-- The key of an offer, by its target, its name and the rank of its kind.
abbrev make : List ℕ → List ℕ → ℕ → OfferKey
make to name kind = record { to = to; name = name; kind = kind }

-- Kinds that are the same have the same rank.
pub same_rank : (a b : Kind) → same_kind a b ≡ true → kind_rank a ≡ kind_rank b
same_rank Protocol Protocol h = refl
same_rank Protocol Directory h = absurd (true≢false (sym h))
same_rank Directory Protocol h = absurd (true≢false (sym h))
same_rank Directory Directory h = refl

-- The ranks of two kinds are equal exactly where the kinds are the same.
pub rank_tie : (a b : Kind) → is_eq (nat_cmp (kind_rank a) (kind_rank b)) ≡ same_kind a b
rank_tie Protocol Protocol = refl
rank_tie Protocol Directory = refl
rank_tie Directory Protocol = refl
rank_tie Directory Directory = refl

-- Of three tests the last two may change places.
regroup : (a b c : Bool) → ((a && b) && c) ≡ (a && (c && b))
regroup true true true = refl
regroup true true false = refl
regroup true false true = refl
regroup true false false = refl
regroup false b c = refl

module _ (c : ChildName) (kind : Kind) (name : List ℕ) where
  -- An offer of the kind and name to the child has the key that is looked for.
  exact_offer : (x : Offer) → is_offer_to c kind name x ≡ true → key_by (Some x) ≡ wanted (target_of c) kind name
  exact_offer x h =
      let outer = and_parts (bytes_eq x.to (target_of c)) (same_kind x.give.kind kind && bytes_eq x.give.target_name name) h in
      let inner = and_parts (same_kind x.give.kind kind) (bytes_eq x.give.target_name name) outer.1 in
      ap (λ t. make t x.give.target_name (kind_rank x.give.kind)) ((bytes_decides x.to (target_of c)).0 outer.0)
      ∙ ap (λ t. make (target_of c) t (kind_rank x.give.kind)) ((bytes_decides x.give.target_name name).0 inner.1)
      ∙ ap (λ t. make (target_of c) name t) (same_rank x.give.kind kind inner.0)

  -- An offer whose key compares as the one looked for has the kind and name, and is to the child.
  offer_back : (x : Offer) → key_cmp (key_by (Some x)) (wanted (target_of c) kind name) ≡ Equal → is_offer_to c kind name x ≡ true
  offer_back x h =
      let to = slice_cmp nat_cmp x.to (target_of c) in
      let own = slice_cmp nat_cmp x.give.target_name name in
      let rank = nat_cmp (kind_rank x.give.kind) (kind_rank kind) in
      sym (ap₂ (λ s t. s && t) (is_eq-slice_cmp x.to (target_of c))
      (ap₂ (λ s t. s && t) (rank_tie x.give.kind kind) (is_eq-slice_cmp x.give.target_name name)))
      ∙ sym (regroup (is_eq to) (is_eq own) (is_eq rank))
      ∙ sym (sym (tied_then (ordering_then to own) rank) ∙ ap (λ s. s && is_eq rank) (sym (tied_then to own)))
      ∙ ap is_eq h

-- ---- the search, by its answers

module _ (offers : List Offer) (places : List ℕ) (o : IsOfferOrder offers places) (c : ChildName) (kind : Kind) (name to : List ℕ) (is : to ≡ target_of c) (count : ℕ) (split : IsSplit offers places (wanted to kind name) count) where
  -- The place where the search ends splits the offers by the key that is looked for.
  point : IsSplit offers places (wanted (target_of c) kind name) count
  point = subst (λ t. IsSplit offers places (wanted t kind name) count) is split

  -- no place is left
  pub found_behind : None ≡ slice_get places count → None ≡ position (is_offer_to c kind name) offers
  found_behind none = sought.none_behind key_by key_cmp key_total offers places o (wanted (target_of c) kind name) (is_offer_to c kind name) (exact_offer c kind name) (offer_back c kind name) count point none

  -- another offer stands at the next place
  pub found_other : (m : ℕ) → Some m ≡ slice_get places count → false ≡ option_map_or (is_offer_to c kind name) (slice_get offers m) false → None ≡ position (is_offer_to c kind name) offers
  found_other m here fails = sought.none_tested key_by key_cmp key_total offers places o (wanted (target_of c) kind name) (is_offer_to c kind name) (exact_offer c kind name) (offer_back c kind name) count point m here fails

  -- it stands there
  pub found_there : (m : ℕ) → Some m ≡ slice_get places count → true ≡ option_map_or (is_offer_to c kind name) (slice_get offers m) false → Some m ≡ position (is_offer_to c kind name) offers
  found_there m here passes = sought.some_tested key_by key_cmp key_total offers places o (wanted (target_of c) kind name) (is_offer_to c kind name) (exact_offer c kind name) (offer_back c kind name) count point m here passes
