-- What is known of a storage for the children of a row.
use Rattle.std.proofs.Common.{◌≡◌, ℕ, List, [], ◌∷◌, ◌++◌, Bool, true, false, cond, true≢false, Option, Some, None, Result, Ok, Err, length, drop, option_and_then, refl, sym, ◌∙◌, ap, subst, append_assoc, append-nil}
use Rattle.std.proofs.Math.Seq.{drop-append_seam, drop-length}
use Rattle.std.specs.Prelude.{◌≢◌, IfOk, IfSome, option_map, option_to_list, codes}
use Rattle.cm_reply.specs.Lists.{each_behind}
use Rattle.cm_names.specs.declared.child.ChildName.{ChildName}
use Rattle.cm_names.specs.Child.{child_text}
use Rattle.cm_world.specs.declared.row.Row.{Row}
use Rattle.cm_world.specs.declared.frame.Builtin.{Builtin}
use Rattle.cm_world.specs.declared.route.Provider.{Provider}
use Rattle.cm_world.specs.declared.view.ParentPlace.{ParentPlace as Seat}
use Rattle.cm_world.specs.Rows.{row_of, decl_of, names_to, moniker_of}
use Rattle.cm_world.specs.RowsInside.{name_of}
use Rattle.cm_world.specs.Sound.{IsOrderly}
use Rattle.cm_world.proofs.lemmas.trees.Climbing.{names_to-step}
use Rattle.cm_world.proofs.lemmas.trees.Finding.{none_some}
use Rattle.cm_decl.specs.declared.storage.Storage.{Storage}
use Rattle.cm_storage.specs.declared.fault.StorageFault.{StorageFault}
use Rattle.cm_storage.specs.declared.fault.StorageFault.TheVariants as fault
use Rattle.cm_storage.specs.declared.fault.StorageFault.TheVariants.{NoStorageOffer}
use Rattle.cm_storage.specs.declared.known.KnownPlace.{KnownPlace}
use Rattle.cm_storage.specs.declared.known.KnownPlace.TheVariants.{Refused, Stands}
use Rattle.cm_storage.specs.declared.places.Place.{Place}
use Rattle.cm_storage.specs.declared.backing.BackingDirectory.{BackingDirectory}
use Rattle.cm_storage.specs.Backing.{Backing}
use Rattle.cm_storage.specs.Parts.{names_below, parts_of}
use Rattle.cm_storage.specs.Places.{Placed, IsPlacedBy, IsPlacedIn, IsPlacedFor, are_enough, placed_by, place_in}
use Rattle.cm_storage.specs.KnownPlace.{refused, stands, told_below, known_below, head_of, tail_of, folders_text}
use Rattle.cm_storage.specs.Report.{fault_text, placed_text}
use Rattle.cm_storage.specs.ParentAtHand.{IsToldChildOf, StandsUnder, IsKnownBy, none, some, IsKnown, GoesOnTo}
use Rattle.cm_storage.specs.Way.{Found, Onward, On, Ends, IsWay, ends, goes, onward, by_row, by_parent}
use Rattle.cm_storage.proofs.lemmas.Below.{StandsBelow, way_below, not_ok, ok_same}
use Rattle.cm_storage.proofs.lemmas.Prefixes.{parts_more, folders_more, place_more, head_more}

-- ---- the row of a place

-- A row with a parent and a name goes on from the parent, as the child of that name.
way_by : (rows : List Row) (i p : ℕ) (c : ChildName) (name : List ℕ) (o : Option Row) → Some p ≡ option_and_then (λ (r : Row). r.parent) o → Some c ≡ option_and_then (λ (r : Row). r.name) o → by_row rows i name o ≡ by_parent rows p name (decl_of rows p) (Some c)
way_by rows i p c name None above named = absurd (none_some p (sym above))
way_by rows i p c name (Some r) above named =
    ap (λ o. elim o as (λ _. Onward) [ None ↦ Ends (Err (NoStorageOffer (moniker_of rows i))) | Some q ↦ by_parent rows q name (decl_of rows q) r.name ]) (sym above)
    ∙ ap (λ n. by_parent rows p name (decl_of rows p) n) (sym named)

-- The names down to a row are those down to its parent, and its own.
names_by : (rows : List Row) (next i p : ℕ) (c : ChildName) (o : Option Row) → IsOrderly rows next → row_of rows i ≡ o → Some p ≡ option_and_then (λ (r : Row). r.parent) o → Some c ≡ option_and_then (λ (r : Row). r.name) o → (moniker_of rows i).parts ≡ (moniker_of rows p).parts ++ c ∷ []
names_by rows next i p c None orderly here above named = absurd (none_some p (sym above))
names_by rows next i p c (Some r) orderly here above named =
    names_to-step rows next i r orderly here
    ∙ ap (λ o. names_to (length rows) rows o ++ option_to_list r.name) (sym above)
    ∙ ap (λ n. names_to (length rows) rows (Some p) ++ option_to_list n) (sym named)

-- In orderly rows, a row that has a parent and a name is told as the child of that name.
child_by : (rows : List Row) (next i p : ℕ) (c : ChildName) → IsOrderly rows next → Some p ≡ option_and_then (λ (r : Row). r.parent) (row_of rows i) → Some c ≡ name_of rows i → IsToldChildOf rows i p c
child_by rows next i p c orderly above named = record {
  names = names_by rows next i p c (row_of rows i) orderly refl above named;
  way = λ name. way_by rows i p c name (row_of rows i) above named;
}

-- In an orderly tree a row with this parent and this name is the child of that name of that row.
pub child_placed : (rows : List Row) (next i : ℕ) (r : Option Seat) → IsOrderly rows next → option_map (λ p. p.parent) r ≡ option_and_then (λ (r : Row). r.parent) (row_of rows i) → option_map (λ p. p.name.now) r ≡ name_of rows i → IfSome r (λ p. IsToldChildOf rows i p.parent p.name.now)
child_placed rows next i None orderly above named = tt
child_placed rows next i (Some p) orderly above named = child_by rows next i p.parent p.name.now orderly above named

-- ---- names below an owner

-- a row that stands below an owner so does
pub under_by : (rows : List Row) (o i : ℕ) (names : List ChildName) → (moniker_of rows i).parts ≡ (moniker_of rows o).parts ++ names → StandsUnder rows o i
under_by rows o i names stands =
    stands ∙ ap (λ l. (moniker_of rows o).parts ++ l) (sym (ap (drop (length (moniker_of rows o).parts)) stands ∙ drop-append_seam (moniker_of rows o).parts names))

-- A row stands under itself.
pub under_itself : (rows : List Row) (i : ℕ) → StandsUnder rows i i
under_itself rows i = under_by rows i i [] (sym (append-nil (moniker_of rows i).parts))

-- The names of a child below one that stands under an owner are the owner's, those below, and its own.
below_names : (rows : List Row) (o p i : ℕ) (c : ChildName) → IsToldChildOf rows i p c → StandsUnder rows o p → (moniker_of rows i).parts ≡ (moniker_of rows o).parts ++ (names_below rows o p ++ c ∷ [])
below_names rows o p i c child under =
    child.names ∙ ap (λ l. l ++ c ∷ []) under ∙ append_assoc (moniker_of rows o).parts (names_below rows o p) (c ∷ [])

-- The names below an owner down to a child are those down to its parent, and its own.
below_more : (rows : List Row) (o p i : ℕ) (c : ChildName) → IsToldChildOf rows i p c → StandsUnder rows o p → names_below rows o i ≡ names_below rows o p ++ c ∷ []
below_more rows o p i c child under =
    ap (drop (length (moniker_of rows o).parts)) (below_names rows o p i c child under)
    ∙ drop-append_seam (moniker_of rows o).parts (names_below rows o p ++ c ∷ [])

-- A child of a row that is an owner or stands below it stands below it too.
under_more : (rows : List Row) (o p i : ℕ) (c : ChildName) → IsToldChildOf rows i p c → StandsUnder rows o p → StandsUnder rows o i
under_more rows o p i c child under = under_by rows o i (names_below rows o p ++ c ∷ []) (below_names rows o p i c child under)

-- who provides what a way finds stands above
pub under_way : (rows : List Row) (next : ℕ) (orderly : IsOrderly rows next) (i : ℕ) (name : List ℕ) (o : ℕ) (s : Storage) → IsWay rows i name (Ok (o, s)) → StandsUnder rows o i
under_way rows next orderly i name o s way =
    let stands : StandsBelow rows o i = way_below rows next orderly i name o s (Ok (o, s)) way refl in
    under_by rows o i (stands.before ++ stands.last ∷ []) stands.names

-- ---- one owner's places of two rows

-- Where the rights aren't enough for one place, they fail alike for another.
err_enough : (t : Bool) (a b : Place) (f e : StorageFault) → ◌≡◌ {A = Placed} (Err e) (cond t (Ok a) (Err f)) → ◌≡◌ {A = Placed} (Err e) (cond t (Ok b) (Err f))
err_enough true a b f e it = absurd (not_ok e a (sym it))
err_enough false a b f e it = it

-- A fault in the directory of a storage is the same for each row.
err_in : (rows : List Row) (p i o : ℕ) (s : Storage) (b : Backing) (e : StorageFault) → Err e ≡ placed_by rows p o s b → Err e ≡ placed_by rows i o s b
err_in rows p i o s (Err x) e it = it
err_in rows p i o s (Ok folder) e it = err_enough (are_enough folder.rights) (place_in rows p o s folder) (place_in rows i o s folder) _ e it

-- A fault in a storage that gives places by monikers, or doesn't, is the same for each row.
err_by : (rows : List Row) (builtins : List Builtin) (p i o : ℕ) (s : Storage) (t : Bool) (f e : StorageFault) → elim t as (λ _. Type 0) [ true ↦ IsPlacedIn rows builtins p o s (Err e) | false ↦ ◌≡◌ {A = Placed} (Err e) (Err f) ] → elim t as (λ _. Type 0) [ true ↦ IsPlacedIn rows builtins i o s (Err e) | false ↦ ◌≡◌ {A = Placed} (Err e) (Err f) ]
err_by rows builtins p i o s true f e it = record { backing = it.backing; is_backing = it.is_backing; placed = err_in rows p i o s it.backing e it.placed }
err_by rows builtins p i o s false f e it = it

-- Where a storage's way ends with a fault, it is that of each row that has this way.
err_stays : (rows : List Row) (builtins : List Builtin) (p i : ℕ) (found : Found) (e : StorageFault) → IsPlacedBy rows builtins p found (Err e) → IsPlacedBy rows builtins i found (Err e)
err_stays rows builtins p i (Err x) e it = it
err_stays rows builtins p i (Ok found) e it = err_by rows builtins p i found.0 found.1 found.1.by_moniker _ e it

-- a place of the other, at the same provider
pub record Moves (rows : List Row) (builtins : List Builtin) (i : ℕ) (found : Found) (place : Place) : Type 0 where
  pub other : Place
  pub placed : IsPlacedBy rows builtins i found (Ok other)
  pub owner : other.owner ≡ place.owner
  pub base : other.base ≡ place.base
  pub provider : other.provider ≡ place.provider
  pub parts : other.parts ≡ parts_of (names_below rows place.owner i)

-- Where rights are enough for one place, it is the one that was meant, and they are for another.
enough_is : (t : Bool) (place a b : Place) (f : StorageFault) → ◌≡◌ {A = Placed} (Ok place) (cond t (Ok a) (Err f)) → (place ≡ a) × ◌≡◌ {A = Placed} (Ok b) (cond t (Ok b) (Err f))
enough_is true place a b f it = (ok_same place a it, refl)
enough_is false place a b f it = absurd (not_ok f place it)

-- Where a row has a place in a storage's directory, another row has one in the same directory.
moves_in : (rows : List Row) (p i o : ℕ) (s : Storage) (b : Backing) (place : Place) → Ok place ≡ placed_by rows p o s b → (folder : BackingDirectory) × (place ≡ place_in rows p o s folder) × (Ok (place_in rows i o s folder) ≡ placed_by rows i o s b)
moves_in rows p i o s (Err x) place it = absurd (not_ok x place it)
moves_in rows p i o s (Ok folder) place it =
    let both : (place ≡ place_in rows p o s folder) × (Ok (place_in rows i o s folder) ≡ placed_by rows i o s (Ok folder)) =
    enough_is (are_enough folder.rights) place (place_in rows p o s folder) (place_in rows i o s folder) _ it in
    (folder, both.0, both.1)

-- Where a row has a place in the storage that was found, another has one, at the same provider.
moves_by : (rows : List Row) (builtins : List Builtin) (p i : ℕ) (found : ℕ × Storage) (t : Bool) (f : StorageFault) (place : Place) → found.1.by_moniker ≡ t → elim t as (λ _. Type 0) [ true ↦ IsPlacedIn rows builtins p found.0 found.1 (Ok place) | false ↦ ◌≡◌ {A = Placed} (Ok place) (Err f) ] → Moves rows builtins i (Ok found) place
moves_by rows builtins p i found true f place by it =
    let moved : (folder : BackingDirectory) × (place ≡ place_in rows p found.0 found.1 folder) × (Ok (place_in rows i found.0 found.1 folder) ≡ placed_by rows i found.0 found.1 it.backing) =
    moves_in rows p i found.0 found.1 it.backing place it.placed in
    record {
      other = place_in rows i found.0 found.1 moved.0;
      placed =
          subst (λ u. elim u as (λ _. Type 0) [ true ↦ IsPlacedIn rows builtins i found.0 found.1 (Ok (place_in rows i found.0 found.1 moved.0)) | false ↦ ◌≡◌ {A = Placed} (Ok (place_in rows i found.0 found.1 moved.0)) (Err (fault.NoInstanceId (moniker_of rows found.0))) ]) (sym by)
          (record { backing = it.backing; is_backing = it.is_backing; placed = moved.2 });
      owner = sym (ap (λ a. a.owner) moved.1);
      base = sym (ap (λ a. a.base) moved.1);
      provider = sym (ap (λ a. a.provider) moved.1);
      parts = ap (λ o. parts_of (names_below rows o i)) (sym (ap (λ a. a.owner) moved.1));
    }
moves_by rows builtins p i found false f place by it = absurd (not_ok f place it)

-- Where a row has a place at the end of its way, another row's place there moves with it.
moves : (rows : List Row) (builtins : List Builtin) (p i : ℕ) (found : Found) (place : Place) → IsPlacedBy rows builtins p found (Ok place) → Moves rows builtins i found place
moves rows builtins p i (Err x) place it = absurd (not_ok x place it)
moves rows builtins p i (Ok found) place it = moves_by rows builtins p i found found.1.by_moniker _ place refl it

-- The owner of a place in the storage that was found is the row that provides it.
owner_by : (rows : List Row) (builtins : List Builtin) (p : ℕ) (found : ℕ × Storage) (t : Bool) (f : StorageFault) (place : Place) → elim t as (λ _. Type 0) [ true ↦ IsPlacedIn rows builtins p found.0 found.1 (Ok place) | false ↦ ◌≡◌ {A = Placed} (Ok place) (Err f) ] → place.owner ≡ found.0
owner_by rows builtins p found true f place it = ap (λ a. a.owner) (moves_in rows p p found.0 found.1 it.backing place it.placed).1
owner_by rows builtins p found false f place it = absurd (not_ok f place it)

-- ---- what is known

-- a row's own place, or the one that it would have
known_some : (rows : List Row) (builtins : List Builtin) (p : ℕ) (found : ℕ × Storage) (place : Place) → StandsUnder rows found.0 p → IsPlacedBy rows builtins p (Ok found) (Ok place) → IsKnownBy rows builtins p (Ok found) (stands place (names_below rows place.owner p))
known_some rows builtins p found place under it =
    some place it (subst (λ o. StandsUnder rows o p) (sym (owner_by rows builtins p found found.1.by_moniker _ place it)) under)

-- What holds of what is known holds of a result that is known to be it.
is_known : {E : Type 0} (r : Result KnownPlace E) (k : KnownPlace) (P : KnownPlace → Type 0) → P k → IfOk r (λ known. known ≡ k) → IfOk r P
is_known (Ok known) k P it same = subst P (sym same) it
is_known (Err e) k P it same = tt

-- What is known of a place, made of its owner and the names below it, is right there.
pub known_at : {E : Type 0} (rows : List Row) (builtins : List Builtin) (p o : ℕ) (s : Storage) (place : Place) (r : Result KnownPlace E) → StandsUnder rows o p → IsPlacedBy rows builtins p (Ok (o, s)) (Ok place) → IfOk r (λ known. known ≡ stands place (names_below rows place.owner p)) → IfOk r (IsKnownBy rows builtins p (Ok (o, s)))
known_at rows builtins p o s place r under it made =
    is_known r (stands place (names_below rows place.owner p)) (IsKnownBy rows builtins p (Ok (o, s))) (known_some rows builtins p (o, s) place under it) made

-- To refuse a row's children by the fault that ends their way is right, unless memory ran out.
pub known_fault : {E : Type 0} (rows : List Row) (builtins : List Builtin) (p : ℕ) (found : Found) (e : StorageFault) (r : Result KnownPlace E) → (e ≢ fault.Memory → IsPlacedBy rows builtins p found (Err e)) → IfOk r (λ known. known ≡ refused e) → IfOk r (λ _. e ≢ fault.Memory) → IfOk r (IsKnownBy rows builtins p found)
known_fault rows builtins p found e (Ok known) it made fine = subst (IsKnownBy rows builtins p found) (sym made) (none e (it fine))
known_fault rows builtins p found e (Err x) it made fine = tt

-- What is known by the end of a way is known by the way.
pub known_way : {E : Type 0} (rows : List Row) (builtins : List Builtin) (p : ℕ) (name : List ℕ) (found : Found) (r : Result KnownPlace E) → IsWay rows p name found → IfOk r (IsKnownBy rows builtins p found) → IfOk r (IsKnown rows builtins p (On p name))
known_way rows builtins p name found (Ok known) way it = (found, way, it)
known_way rows builtins p name found (Err x) way it = tt

-- What is known by a way that ends with a fault is that fault.
pub fault_way : {E : Type 0} (rows : List Row) (builtins : List Builtin) (p : ℕ) (name : List ℕ) (e : StorageFault) (r : Result KnownPlace E) → (e ≢ fault.Memory → IsWay rows p name (Err e)) → IfOk r (λ known. known ≡ refused e) → IfOk r (λ _. e ≢ fault.Memory) → IfOk r (IsKnown rows builtins p (On p name))
fault_way rows builtins p name e (Ok known) way made fine =
    (Err e, way fine, subst (IsKnownBy rows builtins p (Err e)) (sym made) (none e refl))
fault_way rows builtins p name e (Err x) way made fine = tt

-- A refusal that is kept for a row's children is right, where their way ends with its fault.
pub known_refused : {E : Type 0} (rows : List Row) (builtins : List Builtin) (p : ℕ) (e f : StorageFault) (r : Result KnownPlace E) → e ≡ f → IfOk r (λ known. known ≡ refused e) → IfOk r (IsKnown rows builtins p (Ends (Err f)))
known_refused rows builtins p e f (Ok known) same made =
    (Err f, refl, subst (IsKnownBy rows builtins p (Err f)) (sym (made ∙ ap refused same)) (none f refl))
known_refused rows builtins p e f (Err x) same made = tt

-- What is kept for a row's children and right for the end of a way is right where the way ends so.
pub known_end : {E : Type 0} (rows : List Row) (builtins : List Builtin) (p : ℕ) (found : Found) (r : Result KnownPlace E) → IfOk r (IsKnownBy rows builtins p found) → IfOk r (IsKnown rows builtins p (Ends found))
known_end rows builtins p found (Ok known) it = (found, refl, it)
known_end rows builtins p found (Err x) it = tt

-- The way of a storage from a row ends as the way does on which its first step goes on.
pub way_of : (rows : List Row) (i : ℕ) (name : List ℕ) (step : Onward) (found : Found) → onward rows i name ≡ step → GoesOnTo rows step found → IsWay rows i name found
way_of rows i name (On p other) found is leads = goes is leads
way_of rows i name (Ends end) found is leads = ends (is ∙ ap Ends leads)

-- The text that is told of a row's storage: that of the place, or of the fault, which is found.
pub record IsToldOf (rows : List Row) (builtins : List Builtin) (i : ℕ) (found : Found) (text : List ℕ) : Type 0 where
  pub placed : Placed
  pub is_placed : IsPlacedBy rows builtins i found placed
  pub told : text ≡ placed_text placed

-- What is told below what is known for the children of a row is right of such a child.
told_by : (rows : List Row) (builtins : List Builtin) (i p : ℕ) (c : ChildName) (found : Found) (known : KnownPlace) → IsToldChildOf rows i p c → IsKnownBy rows builtins p found known → IsToldOf rows builtins i found (told_below known c)
told_by rows builtins i p c found known child (none e it) =
    record { placed = Err e; is_placed = err_stays rows builtins p i found e it; told = refl }
told_by rows builtins i p c found known child (some place it under) =
    let moved : Moves rows builtins i found place = moves rows builtins p i found place it in
    let parts : moved.other.parts ≡ parts_of (names_below rows place.owner p ++ c ∷ []) = moved.parts ∙ ap parts_of (below_more rows place.owner p i c child under) in
    record {
      placed = Ok moved.other;
      is_placed = moved.placed;
      told =
          place_more place.base (folders_text (names_below rows place.owner p)) (child_text c) (tail_of place.provider)
          ∙ ap (λ t. codes " at " ++ (place.base ++ (t ++ tail_of place.provider))) (sym (ap (each_behind (codes "/") (λ part. part)) parts ∙ parts_more (names_below rows place.owner p) c))
          ∙ ap (λ b. codes " at " ++ (b ++ (each_behind (codes "/") (λ part. part) moved.other.parts ++ tail_of place.provider))) (sym moved.base)
          ∙ ap (λ v. codes " at " ++ (moved.other.base ++ (each_behind (codes "/") (λ part. part) moved.other.parts ++ tail_of v))) (sym moved.provider);
    }

-- a child is placed as it is told
pub known_placed : (rows : List Row) (builtins : List Builtin) (i p : ℕ) (c : ChildName) (name : List ℕ) (step : Onward) (known : KnownPlace) → IsToldChildOf rows i p c → onward rows i name ≡ step → IsKnown rows builtins p step known → (r : Placed) × IsPlacedFor rows builtins i name r × (told_below known c ≡ placed_text r)
known_placed rows builtins i p c name step known child is it =
    let told : IsToldOf rows builtins i it.0 (told_below known c) = told_by rows builtins i p c it.0 known child it.2 in
    (told.placed, record { found = it.0; way = way_of rows i name step it.0 is it.1; placed = told.is_placed }, told.told)

-- What is known for the children of a row, one name further, is known for those of a child.
known_more : (rows : List Row) (builtins : List Builtin) (i p : ℕ) (c : ChildName) (found : Found) (known : KnownPlace) → IsToldChildOf rows i p c → IsKnownBy rows builtins p found known → IsKnownBy rows builtins i found (known_below known c)
known_more rows builtins i p c found known child (none e it) = none e (err_stays rows builtins p i found e it)
known_more rows builtins i p c found known child (some place it under) =
    let moved : Moves rows builtins i found place = moves rows builtins p i found place it in
    let names : names_below rows moved.other.owner i ≡ names_below rows place.owner p ++ c ∷ [] =
    ap (λ o. names_below rows o i) moved.owner ∙ below_more rows place.owner p i c child under in
    let head : head_of moved.other.base (names_below rows moved.other.owner i) ≡ head_of place.base (names_below rows place.owner p) ++ (child_text c ++ codes "/children/") =
    ap (λ b. head_of b (names_below rows moved.other.owner i)) moved.base
    ∙ ap (λ t. codes " at " ++ (place.base ++ (codes "/" ++ t))) (ap folders_text names ∙ folders_more (names_below rows place.owner p) c)
    ∙ sym (head_more place.base (folders_text (names_below rows place.owner p)) (child_text c ++ codes "/children/")) in
    subst (IsKnownBy rows builtins i found) (ap (λ t. Stands t (tail_of moved.other.provider)) head ∙ ap (λ v. Stands (head_of place.base (names_below rows place.owner p) ++ (child_text c ++ codes "/children/")) (tail_of v)) moved.provider)
    (some moved.other moved.placed (subst (λ o. StandsUnder rows o i) (sym moved.owner) (under_more rows place.owner p i c child under)))

-- what is known for the children of a row is known for those of its child
pub known_onward : (rows : List Row) (builtins : List Builtin) (i p : ℕ) (c : ChildName) (name : List ℕ) (step : Onward) (known : KnownPlace) → IsToldChildOf rows i p c → onward rows i name ≡ step → IsKnown rows builtins p step known → IsKnown rows builtins i (On i name) (known_below known c)
known_onward rows builtins i p c name step known child is it =
    (it.0, way_of rows i name step it.0 is it.1, known_more rows builtins i p c it.0 known child it.2)
