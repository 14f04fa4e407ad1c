-- An instance stands below the one that provides its storage, and so its place is its own.
use Rattle.std.proofs.Common.{◌≡◌, ◌≢◌, ℕ, List, [], ◌∷◌, ◌++◌, Bool, true, false, cond, true≢false, Option, Some, None, Result, Ok, Err, IsSome, length, drop, find, option_and_then, option_to_list, refl, sym, ◌∙◌, ap, subst, arith}
use Rattle.std.proofs.Math.Seq.{drop-append_seam}
use Rattle.std.proofs.lemmas.List.Elements.{All-drop}
use Rattle.std.specs.Prelude.{All}
use Rattle.cm_names.specs.declared.child.ChildName.{ChildName}
use Rattle.cm_names.specs.Moniker.{IsChildName}
use Rattle.cm_decl.specs.declared.decl.Decl.{Decl}
use Rattle.cm_decl.specs.declared.origin.Origin.{Origin}
use Rattle.cm_decl.specs.declared.origin.Origin.TheVariants as origin
use Rattle.cm_decl.specs.declared.storage.Storage.{Storage}
use Rattle.cm_decl.specs.declared.storage.StorageUse.{StorageUse}
use Rattle.cm_decl.specs.declared.storage.StorageOffer.{StorageOffer}
use Rattle.cm_world.specs.declared.row.Row.{Row}
use Rattle.cm_world.specs.declared.frame.Builtin.{Builtin}
use Rattle.cm_world.specs.Rows.{row_of, decl_of, names_to, moniker_of}
use Rattle.cm_world.specs.Sound.{Lives, IsOrderly}
use Rattle.cm_world.proofs.lemmas.trees.Climbing.{names_to-step}
use Rattle.cm_world.proofs.lemmas.trees.Finding.{some_same, none_some}
use Rattle.cm_storage.specs.declared.places.Place.{Place}
use Rattle.cm_storage.specs.declared.fault.StorageFault.{StorageFault}
use Rattle.cm_storage.specs.declared.fault.StorageFault.TheVariants.{NoStorageOffer}
use Rattle.cm_storage.specs.Parts.{names_below, parts_of}
use Rattle.cm_storage.specs.PartsInside.{IsPrefixOf}
use Rattle.cm_storage.specs.Way.{Found, Onward, On, Ends, IsWay, ends, goes, onward, by_row, by_parent, by_offer, by_source, by_storage, storage_of, storage_offer_of}
use Rattle.cm_storage.specs.declared.backing.BackingDirectory.{BackingDirectory}
use Rattle.cm_storage.specs.Backing.{Backing}
use Rattle.cm_storage.specs.Places.{Placed, IsPlaced, IsPlacedFrom, IsPlacedFor, IsPlacedBy, IsPlacedIn, are_enough, placed_by, place_in, use_of}
use Rattle.cm_storage.specs.Laws.{AreNamed, AreApart, PlacesAreApart}
use Rattle.cm_storage.proofs.lemmas.Apart.{parts_apart}

-- ---- one step up

-- the row that a step leads to: the one whose offer it follows, or that provides the storage
abbrev pub leads_to : Onward → Option ℕ
leads_to (On p name) = Some p
leads_to (Ends (Ok found)) = Some found.0
leads_to (Ends (Err e)) = None

-- a row with a parent, and the parent
pub record HasParent (rows : List Row) (i p : ℕ) : Type 0 where
  pub row : Row
  pub lives : Lives rows i row
  pub parent : row.parent ≡ Some p

-- The way that ends at the storage of a row leads to no other row.
by_storage_leads : (rows : List Row) (p q : ℕ) (o : Option Storage) → leads_to (by_storage rows p o) ≡ Some q → p ≡ q
by_storage_leads rows p q None e = absurd (none_some q e)
by_storage_leads rows p q (Some s) e = some_same p q e

-- The way that goes on from an offer's source leads to the row whose offer it is.
by_source_leads : (rows : List Row) (p q : ℕ) (d : Decl) (name : List ℕ) (from : Origin) → leads_to (by_source rows p d name from) ≡ Some q → p ≡ q
by_source_leads rows p q d name origin.Parent e = some_same p q e
by_source_leads rows p q d name origin.Own e = by_storage_leads rows p q (storage_of d name) e
by_source_leads rows p q d name origin.Framework e = absurd (none_some q e)
by_source_leads rows p q d name (origin.Child c) e = absurd (none_some q e)
by_source_leads rows p q d name origin.Void e = absurd (none_some q e)

-- The way that goes on from the offer that was found leads to the row whose offer it is.
by_offer_leads : (rows : List Row) (p q : ℕ) (d : Decl) (o : Option StorageOffer) → leads_to (by_offer rows p d o) ≡ Some q → p ≡ q
by_offer_leads rows p q d None e = absurd (none_some q e)
by_offer_leads rows p q d (Some o) e = by_source_leads rows p q d o.source_name o.from e

-- The way that goes on from a child leads to the row whose child it is.
by_parent_leads : (rows : List Row) (p q : ℕ) (name : List ℕ) (d : Option Decl) (c : Option ChildName) → leads_to (by_parent rows p name d c) ≡ Some q → p ≡ q
by_parent_leads rows p q name (Some d) (Some c) e = by_offer_leads rows p q d (storage_offer_of d c name) e
by_parent_leads rows p q name (Some d) None e = absurd (none_some q e)
by_parent_leads rows p q name None c e = absurd (none_some q e)

-- The way from a living row leads to its parent, if it leads to a row.
by_above_leads : (rows : List Row) (i q : ℕ) (name : List ℕ) (r : Row) (o : Option ℕ) → Lives rows i r → r.parent ≡ o → leads_to (elim o as (λ _. Onward) [ None ↦ Ends (Err (NoStorageOffer (moniker_of rows i))) | Some p ↦ by_parent rows p name (decl_of rows p) r.name ]) ≡ Some q → HasParent rows i q
by_above_leads rows i q name r None here above e = absurd (none_some q e)
by_above_leads rows i q name r (Some p) here above e =
    let same : p ≡ q = by_parent_leads rows p q name (decl_of rows p) r.name e in
    record { row = r; lives = here; parent = above ∙ ap Some same }

-- The way from a row that was looked up leads to its parent, if it leads to a row.
by_row_leads : (rows : List Row) (i q : ℕ) (name : List ℕ) (o : Option Row) → row_of rows i ≡ o → leads_to (by_row rows i name o) ≡ Some q → HasParent rows i q
by_row_leads rows i q name None here e = absurd (none_some q e)
by_row_leads rows i q name (Some r) here e = by_above_leads rows i q name r r.parent here refl e

-- A step of a storage's way leads to the parent of the row.
pub step_leads : (rows : List Row) (i q : ℕ) (name : List ℕ) → leads_to (onward rows i name) ≡ Some q → HasParent rows i q
step_leads rows i q name e = by_row_leads rows i q name (row_of rows i) refl e

-- ---- names

-- the names down to a row are those down to another, then some, and one at the end
pub record StandsBelow (rows : List Row) (o i : ℕ) : Type 0 where
  pub before : List ChildName
  pub last : ChildName
  pub names : (moniker_of rows i).parts ≡ (moniker_of rows o).parts ++ (before ++ last ∷ [])

-- Of three lists put together, the last two may be put together first.
append_assoc : {A : Type 0} (xs ys zs : List A) → (xs ++ ys) ++ zs ≡ xs ++ (ys ++ zs)
append_assoc [] ys zs = refl
append_assoc (x ∷ xs) ys zs = ap (λ l. x ∷ l) (append_assoc xs ys zs)

-- In orderly rows, a living row that has a parent and a name stands below the parent.
name_below : (rows : List Row) (next i p : ℕ) (r : Row) (o : Option ChildName) → IsOrderly rows next → Lives rows i r → r.parent ≡ Some p → r.name ≡ o → IsSome o → StandsBelow rows p i
name_below rows next i p r None orderly here above name some = absurd (true≢false (sym some))
name_below rows next i p r (Some c) orderly here above name some = record {
  before = [];
  last = c;
  names =
      names_to-step rows next i r orderly here
      ∙ ap (λ o. names_to (length rows) rows o ++ option_to_list r.name) above
      ∙ ap (λ n. names_to (length rows) rows (Some p) ++ option_to_list n) name;
}

-- a row stands below its parent
below_parent : (rows : List Row) (next i p : ℕ) → IsOrderly rows next → HasParent rows i p → StandsBelow rows p i
below_parent rows next i p orderly above =
    name_below rows next i p above.row above.row.name orderly above.lives above.parent refl (orderly.parents i p above.row above.lives above.parent).1

-- What stands below a row stands below what that row stands below.
below_more : (rows : List Row) (o p i : ℕ) → StandsBelow rows o p → StandsBelow rows p i → StandsBelow rows o i
below_more rows o p i high low = record {
  before = (high.before ++ high.last ∷ []) ++ low.before;
  last = low.last;
  names =
      low.names ∙ ap (λ l. l ++ (low.before ++ low.last ∷ [])) high.names
      ∙ append_assoc (moniker_of rows o).parts (high.before ++ high.last ∷ []) (low.before ++ low.last ∷ [])
      ∙ ap (λ l. (moniker_of rows o).parts ++ l) (sym (append_assoc (high.before ++ high.last ∷ []) low.before (low.last ∷ [])));
}

-- ---- the way

-- What was found is a storage that this row provides.
found_at : Found → ℕ → Type 0
found_at (Ok found) o = found.0 ≡ o
found_at (Err e) o = ⊥

-- who uses a storage stands below its owner
pub way_below : (rows : List Row) (next : ℕ) (orderly : IsOrderly rows next) (i : ℕ) (name : List ℕ) (o : ℕ) (s : Storage) (found : Found) → IsWay rows i name found → found ≡ Ok (o, s) → StandsBelow rows o i
way_below rows next orderly i name o s found (ends e) same =
    below_parent rows next i o orderly (step_leads rows i o name (ap leads_to (e ∙ ap Ends same)))
way_below rows next orderly i name o s found (goes {p = p} {other = other} e way) same =
    below_more rows o p i (way_below rows next orderly p other o s found way same)
    (below_parent rows next i p orderly (step_leads rows i p name (ap leads_to e)))

-- ---- places

-- a place has its folders from the names below its owner
record StandsAt (rows : List Row) (i : ℕ) (a : Place) : Type 0 where
  name : List ℕ
  storage : Storage
  way : IsWay rows i name (Ok (a.owner, storage))
  parts : a.parts ≡ parts_of (names_below rows a.owner i)

-- Whether a place was found.
is_ok : Placed → Bool
is_ok (Ok a) = true
is_ok (Err e) = false

-- A place isn't a fault.
pub not_ok : (e : StorageFault) (a : Place) → Ok a ≡ Err e → ⊥
unfolding is_ok
not_ok e a same = true≢false (ap is_ok same)

-- The place that was found, or this one where there was a fault.
unwrap : Place → Placed → Place
unwrap d (Ok a) = a
unwrap d (Err e) = d

-- Two results that are places are the same only where the places are.
pub ok_same : (a b : Place) → ◌≡◌ {A = Placed} (Ok a) (Ok b) → a ≡ b
unfolding unwrap
ok_same a b e = ap (unwrap a) e

-- Where a place comes of rights that may not be enough, it is the one that was meant.
enough_placed : (t : Bool) (a b : Place) (e : StorageFault) → ◌≡◌ {A = Placed} (Ok a) (cond t (Ok b) (Err e)) → a ≡ b
enough_placed true a b e same = ok_same a b same
enough_placed false a b e same = absurd (not_ok e a same)

-- A place in a storage's directory, at the way's end, has the folders of names below its owner.
backed_placed : (rows : List Row) (i o : ℕ) (s : Storage) (name : List ℕ) (a : Place) (b : Backing) → IsWay rows i name (Ok (o, s)) → Ok a ≡ placed_by rows i o s b → StandsAt rows i a
backed_placed rows i o s name a (Err e) way same = absurd (not_ok e a same)
backed_placed rows i o s name a (Ok folder) way same =
    let it : a ≡ place_in rows i o s folder = enough_placed (are_enough folder.rights) a (place_in rows i o s folder) _ same in
    subst (StandsAt rows i) (sym it) (record { name = name; storage = s; way = way; parts = refl })

-- A place that is given by monikers, at the way's end, has the folders of names below its owner.
moniker_placed : (rows : List Row) (builtins : List Builtin) (i o : ℕ) (s : Storage) (name : List ℕ) (a : Place) (e : StorageFault) (t : Bool) → IsWay rows i name (Ok (o, s)) → elim t as (λ _. Type 0) [ true ↦ IsPlacedIn rows builtins i o s (Ok a) | false ↦ Ok a ≡ Err e ] → StandsAt rows i a
moniker_placed rows builtins i o s name a e true way it = backed_placed rows i o s name a it.backing way it.placed
moniker_placed rows builtins i o s name a e false way it = absurd (not_ok e a it)

-- A place by the storage at the way's end has the folders of names below its owner.
found_placed : (rows : List Row) (builtins : List Builtin) (i : ℕ) (name : List ℕ) (a : Place) (found : Found) → IsWay rows i name found → IsPlacedBy rows builtins i found (Ok a) → StandsAt rows i a
found_placed rows builtins i name a (Err e) way it = absurd (not_ok e a it)
found_placed rows builtins i name a (Ok found) way it = moniker_placed rows builtins i found.0 found.1 name a _ found.1.by_moniker way it

-- A place that a row has for a use has the folders of names below its owner.
used_placed : (rows : List Row) (builtins : List Builtin) (i : ℕ) (a : Place) (o : Option StorageUse) → IsPlacedFrom rows builtins i o (Ok a) → StandsAt rows i a
used_placed rows builtins i a None it = absurd (not_ok _ a it)
used_placed rows builtins i a (Some u) it = found_placed rows builtins i u.name a it.found it.way it.placed

-- A place that a row has for a path has the folders of names below its owner.
placed_stands : (rows : List Row) (builtins : List Builtin) (i : ℕ) (path : List ℕ) (a : Place) → IsPlaced rows builtins i path (Ok a) → StandsAt rows i a
placed_stands rows builtins i path a it = used_placed rows builtins i a (use_of rows i path) it

-- ---- two places

-- A list of names with one more at its end isn't empty.
some_last : (cs : List ChildName) (c : ChildName) → cs ++ c ∷ [] ≢ []
some_last [] c e = absurd cc
some_last (d ∷ ds) c e = absurd cc

-- the names that a row has below its owner, which are some
record HasNames (rows : List Row) (i : ℕ) (a : Place) : Type 0 where
  below : List ChildName
  some : below ≢ []
  named : All IsChildName below
  names : (moniker_of rows i).parts ≡ (moniker_of rows a.owner).parts ++ below
  parts : a.parts ≡ parts_of below

-- In orderly rows with proper names, a row has names below the owner of its place.
has_names : (rows : List Row) (next i : ℕ) (a : Place) → IsOrderly rows next → AreNamed rows i → StandsAt rows i a → HasNames rows i a
has_names rows next i a orderly named at =
    let stands : StandsBelow rows a.owner i = way_below rows next orderly i at.name a.owner at.storage (Ok (a.owner, at.storage)) at.way refl in
    let below : names_below rows a.owner i ≡ stands.before ++ stands.last ∷ [] =
    ap (drop (length (moniker_of rows a.owner).parts)) stands.names ∙ drop-append_seam (moniker_of rows a.owner).parts (stands.before ++ stands.last ∷ []) in
    record {
      below = stands.before ++ stands.last ∷ [];
      some = some_last stands.before stands.last;
      named = subst (All IsChildName) below (All-drop IsChildName (length (moniker_of rows a.owner).parts) (moniker_of rows i).parts named);
      names = stands.names;
      parts = at.parts ∙ ap parts_of below;
    }

-- Rows whose monikers have the same parts have the same moniker.
same_moniker : (rows : List Row) (i j : ℕ) → (moniker_of rows i).parts ≡ (moniker_of rows j).parts → moniker_of rows i ≡ moniker_of rows j
same_moniker rows i j e = ap (λ ps. record { parts = ps }) e

-- the names below one owner are the same where the monikers are
same_below : (rows : List Row) (i j : ℕ) (a b : Place) (m : HasNames rows i a) (n : HasNames rows j b) → a.owner ≡ b.owner → moniker_of rows i ≡ moniker_of rows j → m.below ≡ n.below
same_below rows i j a b m n owner e =
    let prefix : (moniker_of rows a.owner).parts ≡ (moniker_of rows b.owner).parts = ap (λ o. (moniker_of rows o).parts) owner in
    let both : (moniker_of rows a.owner).parts ++ m.below ≡ (moniker_of rows a.owner).parts ++ n.below =
    sym m.names ∙ ap (λ k. k.parts) e ∙ n.names ∙ ap (λ ps. ps ++ n.below) (sym prefix) in
    sym (drop-append_seam (moniker_of rows a.owner).parts m.below)
    ∙ ap (drop (length (moniker_of rows a.owner).parts)) both
    ∙ drop-append_seam (moniker_of rows a.owner).parts n.below

-- a place that begins another is that of the same moniker
prefix_same : (rows : List Row) (i j : ℕ) (a b : Place) → HasNames rows i a → HasNames rows j b → a.owner ≡ b.owner → IsPrefixOf a.parts b.parts → moniker_of rows i ≡ moniker_of rows j
prefix_same rows i j a b m n owner prefix =
    let below : m.below ≡ n.below = parts_apart m.below n.below m.some n.some m.named n.named (prefix.0, sym n.parts ∙ prefix.1 ∙ ap (λ ps. ps ++ prefix.0) m.parts) in
    same_moniker rows i j
    (m.names ∙ ap (λ o. (moniker_of rows o).parts ++ m.below) owner ∙ ap (λ ps. (moniker_of rows b.owner).parts ++ ps) below ∙ sym n.names)

-- The places of any two rows with one owner are apart, unless both rows have one moniker.
pub places_apart : PlacesAreApart
places_apart rows next builtins i j p q a b orderly named named_too first second owner =
    let m : HasNames rows i a = has_names rows next i a orderly named (placed_stands rows builtins i p a first) in
    let n : HasNames rows j b = has_names rows next j b orderly named_too (placed_stands rows builtins j q b second) in
    record {
      same = λ e. m.parts ∙ ap parts_of (same_below rows i j a b m n owner e) ∙ sym n.parts;
      first = λ prefix. prefix_same rows i j a b m n owner prefix;
      second = λ prefix. sym (prefix_same rows j i b a n m (sym owner) prefix);
    }
