-- A row has one place for a path, or one fault.
use Rattle.std.proofs.Common.{◌≡◌, ℕ, zero, suc, ◌<◌, List, Bool, true, false, Option, Some, None, Result, Ok, Err, refl, sym, ◌∙◌, ap, subst, arith}
use Rattle.cm_decl.specs.declared.storage.Storage.{Storage}
use Rattle.cm_decl.specs.declared.storage.StorageUse.{StorageUse}
use Rattle.cm_world.specs.declared.row.Row.{Row}
use Rattle.cm_world.specs.declared.frame.Builtin.{Builtin}
use Rattle.cm_world.specs.declared.route.Walked.{Walked}
use Rattle.cm_world.specs.Route.{IsWalked}
use Rattle.cm_world.specs.Sound.{IsOrderly}
use Rattle.cm_world.proofs.lemmas.trees.Chains.{walked_once}
use Rattle.cm_world.proofs.lemmas.trees.Walks.{walks_end}
use Rattle.cm_storage.specs.declared.fault.StorageFault.{StorageFault}
use Rattle.cm_storage.specs.Way.{Found, Onward, On, Ends, IsWay, ends, goes, onward}
use Rattle.cm_storage.specs.Backing.{Backing, Backed, KnownPlace, From, IsBackedBy, IsBacking, backed_by, backing_by}
use Rattle.cm_storage.specs.Places.{Placed, IsPlaced, IsPlacedFrom, IsPlacedFor, IsPlacedBy, IsPlacedIn, placed_by, use_of}
use Rattle.cm_storage.specs.Laws.{PlacesOnce, PlacesEnd}
use Rattle.cm_storage.proofs.lemmas.Below.{HasParent, leads_to, step_leads}

-- ---- once

-- Ways that end alike have found the same.
same_ends : (f g : Found) → Ends f ≡ Ends g → f ≡ g
same_ends f g e = cc

-- Ways that go on alike go on to the same row, by the same name.
same_on : (p q : ℕ) (m n : List ℕ) → On p m ≡ On q n → (p ≡ q) × (m ≡ n)
same_on p q m n e = (cc, cc)

-- A way that goes on doesn't end.
no_end : (p : ℕ) (m : List ℕ) (f : Found) → On p m ≡ Ends f → ⊥
no_end p m f e = cc

-- The way of a storage from a row ends in one way only.
way_once : (rows : List Row) (i j : ℕ) (m n : List ℕ) (f g : Found) → i ≡ j → m ≡ n → IsWay rows i m f → IsWay rows j n g → f ≡ g
way_once rows i j m n f g here name (ends e) (ends h) =
    same_ends f g (sym e ∙ ap (λ x. onward rows x m) here ∙ ap (onward rows j) name ∙ h)
way_once rows i j m n f g here name (ends e) (goes {p = q} {other = o} h way) =
    absurd (no_end q o f (sym h ∙ sym (ap (λ x. onward rows x m) here ∙ ap (onward rows j) name) ∙ e))
way_once rows i j m n f g here name (goes {p = p} {other = o} e way) (ends h) =
    absurd (no_end p o g (sym e ∙ ap (λ x. onward rows x m) here ∙ ap (onward rows j) name ∙ h))
way_once rows i j m n f g here name (goes {p = p} {other = o} e way) (goes {p = q} {other = u} h road) =
    let same : (p ≡ q) × (o ≡ u) = same_on p q o u (sym e ∙ ap (λ x. onward rows x m) here ∙ ap (onward rows j) name ∙ h) in
    way_once rows p q o u f g same.0 same.1 way road

-- What a storage is backed by comes to one directory or fault only.
backed_once : (rows : List Row) (builtins : List Builtin) (o : ℕ) (by : Backed) (b c : Backing) → IsBackedBy rows builtins o by b → IsBackedBy rows builtins o by c → b ≡ c
backed_once rows builtins o (KnownPlace known) b c first second = first ∙ sym second
backed_once rows builtins o (From begin) b c first second =
    first.2 ∙ ap (backing_by rows o) (walked_once rows builtins begin first.0 second.0 first.1 second.1) ∙ sym second.2

-- A row has one place, or one fault, in a storage.
placed_in_once : (rows : List Row) (builtins : List Builtin) (i o : ℕ) (s : Storage) (r q : Placed) → IsPlacedIn rows builtins i o s r → IsPlacedIn rows builtins i o s q → r ≡ q
placed_in_once rows builtins i o s r q first second =
    first.placed ∙ ap (placed_by rows i o s) (backed_once rows builtins o (backed_by rows builtins o s) first.backing second.backing first.is_backing second.is_backing) ∙ sym second.placed

-- A row has one place, or fault, in a storage that gives places by monikers or doesn't.
found_once : (rows : List Row) (builtins : List Builtin) (i o : ℕ) (s : Storage) (t : Bool) (e : StorageFault) (r q : Placed) → elim t as (λ _. Type 0) [ true ↦ IsPlacedIn rows builtins i o s r | false ↦ r ≡ Err e ] → elim t as (λ _. Type 0) [ true ↦ IsPlacedIn rows builtins i o s q | false ↦ q ≡ Err e ] → r ≡ q
found_once rows builtins i o s true e r q first second = placed_in_once rows builtins i o s r q first second
found_once rows builtins i o s false e r q first second = first ∙ sym second

-- A row has one place, or one fault, by the storage at the end of its way.
by_once : (rows : List Row) (builtins : List Builtin) (i : ℕ) (found : Found) (r q : Placed) → IsPlacedBy rows builtins i found r → IsPlacedBy rows builtins i found q → r ≡ q
by_once rows builtins i (Err e) r q first second = first ∙ sym second
by_once rows builtins i (Ok found) r q first second = found_once rows builtins i found.0 found.1 found.1.by_moniker _ r q first second

-- A row has one place, or one fault, for a use.
for_once : (rows : List Row) (builtins : List Builtin) (i : ℕ) (o : Option StorageUse) (r q : Placed) → IsPlacedFrom rows builtins i o r → IsPlacedFrom rows builtins i o q → r ≡ q
for_once rows builtins i None r q first second = first ∙ sym second
for_once rows builtins i (Some u) r q first second =
    by_once rows builtins i second.found r q
    (subst (λ f. IsPlacedBy rows builtins i f r) (way_once rows i i u.name u.name first.found second.found refl refl first.way second.way) first.placed)
    second.placed

-- A row has at most one place for a path, or one fault.
pub places_once : PlacesOnce
places_once rows builtins i path r q first second = for_once rows builtins i (use_of rows i path) r q first second

-- ---- one at all

-- In orderly rows, the way of a storage from a row comes to an end.
way_end : (n : ℕ) (rows : List Row) (next i : ℕ) (name : List ℕ) → IsOrderly rows next → i < n → (f : Found) × IsWay rows i name f
way_end zero rows next i name orderly low = absurd (omega arith)
way_end (suc n) rows next i name orderly low = by (onward rows i name) refl (λ p other up. way_end n rows next p other orderly (fewer p up)) where
  fewer : (p : ℕ) → p < i → p < n
  fewer p up = omega (arith, low)

  by : (o : Onward) → onward rows i name ≡ o → ((p : ℕ) (other : List ℕ) → p < i → (f : Found) × IsWay rows p other f) → (f : Found) × IsWay rows i name f
  by (Ends f) e rest = (f, ends e)
  by (On p other) e rest =
      let above : HasParent rows i p = step_leads rows i p name (ap leads_to e) in
      let on : (f : Found) × IsWay rows p other f = rest p other (orderly.parents i p above.row above.lives above.parent).0.lower in
      (on.0, goes e on.1)

-- In orderly rows, what a storage is backed by comes to a directory or a fault.
backed_end : (rows : List Row) (next : ℕ) (builtins : List Builtin) (o : ℕ) (by : Backed) → IsOrderly rows next → (b : Backing) × IsBackedBy rows builtins o by b
backed_end rows next builtins o (KnownPlace known) orderly = (known, refl)
backed_end rows next builtins o (From begin) orderly =
    let walk : (v : Walked) × IsWalked rows builtins begin v = walks_end rows next builtins begin orderly in
    (backing_by rows o walk.0, (walk.0, walk.1, refl))

-- In orderly rows, a row has a place or a fault in a storage.
in_end : (rows : List Row) (next : ℕ) (builtins : List Builtin) (i o : ℕ) (s : Storage) (t : Bool) (e : StorageFault) → IsOrderly rows next → (r : Placed) × elim t as (λ _. Type 0) [ true ↦ IsPlacedIn rows builtins i o s r | false ↦ r ≡ Err e ]
in_end rows next builtins i o s true e orderly =
    let backed : (b : Backing) × IsBackedBy rows builtins o (backed_by rows builtins o s) b = backed_end rows next builtins o (backed_by rows builtins o s) orderly in
    (placed_by rows i o s backed.0, record { backing = backed.0; is_backing = backed.1; placed = refl })
in_end rows next builtins i o s false e orderly = (Err e, refl)

-- In orderly rows, a row has a place or a fault by the storage at the end of its way.
by_end : (rows : List Row) (next : ℕ) (builtins : List Builtin) (i : ℕ) (found : Found) → IsOrderly rows next → (r : Placed) × IsPlacedBy rows builtins i found r
by_end rows next builtins i (Err e) orderly = (Err e, refl)
by_end rows next builtins i (Ok found) orderly = in_end rows next builtins i found.0 found.1 found.1.by_moniker _ orderly

-- In orderly rows, a row has a place or a fault for a use.
for_end : (rows : List Row) (next : ℕ) (builtins : List Builtin) (i : ℕ) (o : Option StorageUse) → IsOrderly rows next → (r : Placed) × IsPlacedFrom rows builtins i o r
for_end rows next builtins i None orderly = (Err _, refl)
for_end rows next builtins i (Some u) orderly =
    let way : (f : Found) × IsWay rows i u.name f = way_end (suc i) rows next i u.name orderly (omega arith) in
    let placed : (r : Placed) × IsPlacedBy rows builtins i way.0 r = by_end rows next builtins i way.0 orderly in
    (placed.0, record { found = way.0; way = way.1; placed = placed.1 })

-- In an orderly tree a row has a place for each path, or a fault.
pub places_end : PlacesEnd
places_end rows next builtins i path orderly = for_end rows next builtins i (use_of rows i path) orderly
