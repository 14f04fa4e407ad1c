-- Inside.
-- A row whose children a report goes through, with what it keeps for all of them.
use Rattle.std.specs.Prelude.{◌≡◌, ℕ, List, [], ◌∷◌, ◌++◌, ◌==◌, ◌&&◌, Bool, true, false, codes, flat_map}
use Rattle.std.specs.Prelude.{Option, Some, None, Result, Ok, Err, All, find, option_map, if◌then◌else◌}
use Rattle.std.specs.Bool.{beq}
use Rattle.std.specs.Str.{bytes_eq}
use Rattle.cm_names.specs.declared.child.ChildName.{ChildName}
use Rattle.cm_names.specs.declared.moniker.Moniker.{Moniker}
use Rattle.cm_names.specs.Child.{child_text}
use Rattle.cm_decl.specs.declared.decl.Decl.{Decl}
use Rattle.cm_decl.specs.declared.origin.Origin.{Origin}
use Rattle.cm_decl.specs.declared.origin.Origin.TheVariants as origin
use Rattle.cm_world.specs.declared.row.Row.{Row}
use Rattle.cm_world.specs.declared.frame.Builtin.{Builtin}
use Rattle.cm_world.specs.Rows.{decl_of, moniker_of}
use Rattle.cm_reply.specs.Lists.{TextBytes}
use Rattle.cm_storage.specs.declared.fault.StorageFault.{StorageFault}
use Rattle.cm_storage.specs.declared.known.KnownPlace.{KnownPlace}
use Rattle.cm_storage.specs.declared.places.Place.{Place}
use Rattle.cm_storage.specs.declared.standing.Handed.{Handed}
use Rattle.cm_storage.specs.declared.standing.ParentAtHand.{ParentAtHand}
use Rattle.cm_storage.specs.Parts.{names_below}
use Rattle.cm_storage.specs.KnownPlace.{refused, stands}
use Rattle.cm_storage.specs.Places.{IsPlacedBy}
use Rattle.cm_storage.specs.Way.{Found, Onward, On, Ends, IsWay, onward, by_parent, by_source}

-- ---- where rows stand

-- row i is the child of that name of row p, so its moniker and its ways begin with p's
pub record IsToldChildOf (rows : List Row) (i p : ℕ) (c : ChildName) : Type 0 where
  pub names : (moniker_of rows i).parts ≡ (moniker_of rows p).parts ++ c ∷ []
  pub way : (name : List ℕ) → onward rows i name ≡ by_parent rows p name (decl_of rows p) (Some c)

-- row i is row o, or one below it
abbrev pub StandsUnder : List Row → ℕ → ℕ → Type 0
StandsUnder rows o i =
    (moniker_of rows i).parts ≡ (moniker_of rows o).parts ++ names_below rows o i

-- these names, each with a slash after it
abbrev pub names_text : List ChildName → TextBytes
names_text names = flat_map (λ c. child_text c ++ codes "/") names

-- the text of a moniker up to the name of a child
abbrev pub prefix_of : Moniker → TextBytes
prefix_of m = names_text m.parts

-- ---- what is known of a storage

-- what is kept for the children of row p is right, where their way to a storage ends so
pub data IsKnownBy (rows : List Row) (builtins : List Builtin) (p : ℕ) (found : Found) : KnownPlace
    → Type 0 where
  none : (e : StorageFault) → IsPlacedBy rows builtins p found (Err e)
      → IsKnownBy rows builtins p found (refused e)
  some : (place : Place) → IsPlacedBy rows builtins p found (Ok place) → StandsUnder rows place.owner p
      → IsKnownBy rows builtins p found (stands place (names_below rows place.owner p))

-- a way that goes on so ends so
abbrev pub GoesOnTo : List Row → Onward → Found → Type 0
GoesOnTo rows (On p name) found = IsWay rows p name found
GoesOnTo rows (Ends end) found = end ≡ found

-- what is kept for the children of row p is right, where their way to a storage goes on so
abbrev pub IsKnown : List Row → List Builtin → ℕ → Onward → KnownPlace → Type 0
IsKnown rows builtins p step known =
    (found : Found) × GoesOnTo rows step found × IsKnownBy rows builtins p found known

-- ---- what a row hands on

-- where an offer of row p has a storage from: p itself, or its parent
abbrev pub source_of : Bool → Origin
source_of own = if own then origin.Own else origin.Parent

-- what is kept for a storage of this name, of the row itself or of its parent
abbrev pub kept : List Handed → Bool → List ℕ → Option KnownPlace
kept handed own name =
    option_map (λ h. h.known) (find (λ h. beq h.own own && bytes_eq h.name.now name) handed)

-- what is kept for a storage of this name, by the source of an offer of it
abbrev pub kept_by : List Handed → Origin → List ℕ → Option KnownPlace
kept_by handed origin.Own name = kept handed true name
kept_by handed origin.Parent name = kept handed false name
kept_by handed _ name = None

-- what is kept for one storage is right
abbrev pub IsHanded : List Row → List Builtin → ℕ → Decl → Handed → Type 0
IsHanded rows builtins p d h =
    IsKnown rows builtins p (by_source rows p d h.name.now (source_of h.own)) h.known

-- a row with what is kept for its children: all of it is right
pub record IsStanding (rows : List Row) (builtins : List Builtin) (s : ParentAtHand) : Type 0 where
  pub decl : decl_of rows s.inc ≡ Some s.offers
  pub prefix : s.prefix ≡ prefix_of (moniker_of rows s.inc)
  pub handed : All (IsHanded rows builtins s.inc s.offers) s.handed.items

-- the rows on the way down, each with what is kept for its children: all of it is right
abbrev pub AreStanding : List Row → List Builtin → List ParentAtHand → Type 0
AreStanding rows builtins standing = All (IsStanding rows builtins) standing

-- the same row, for whose children more may be kept now
pub record StaysStanding (rows : List Row) (builtins : List Builtin) (old new : ParentAtHand) : Type 0 where
  pub standing : IsStanding rows builtins new
  pub inc : new.inc ≡ old.inc
