-- Inside.
-- Laws of places and of the report, as statements. Functions of this crate promise them, and nothing
-- is assumed.
use Rattle.std.specs.Prelude.{◌≡◌, ◌≢◌, ℕ, List, [], Ok, All}
use Rattle.cm_names.specs.declared.child.ChildName.{ChildName}
use Rattle.cm_names.specs.Moniker.{IsChildName}
use Rattle.cm_world.specs.declared.row.Row.{Row}
use Rattle.cm_world.specs.declared.frame.Builtin.{Builtin}
use Rattle.cm_world.specs.Rows.{moniker_of}
use Rattle.cm_world.specs.Sound.{IsOrderly}
use Rattle.cm_storage.specs.declared.places.Place.{Place}
use Rattle.cm_storage.specs.Parts.{parts_of}
use Rattle.cm_storage.specs.PartsInside.{IsPrefixOf}
use Rattle.cm_storage.specs.Places.{Placed, IsPlaced}
use Rattle.cm_storage.specs.Report.{IsStorageReport}

-- a row has at most one place for a path, or one fault
abbrev pub PlacesOnce : Type 0
PlacesOnce =
    (rows : List Row) (builtins : List Builtin) (i : ℕ) (path : List ℕ) (r q : Placed)
    → IsPlaced rows builtins i path r → IsPlaced rows builtins i path q → r ≡ q

-- in an orderly tree it has one
abbrev pub PlacesEnd : Type 0
PlacesEnd =
    (rows : List Row) (next : ℕ) (builtins : List Builtin) (i : ℕ) (path : List ℕ) → IsOrderly rows next
    → (r : Placed) × IsPlaced rows builtins i path r

-- a tree has at most one report on its storage
abbrev pub ReportsOnce : Type 0
ReportsOnce =
    (rows : List Row) (builtins : List Builtin) (text other : List ℕ)
    → IsStorageReport rows builtins text → IsStorageReport rows builtins other → text ≡ other

-- an orderly tree has a report on its storage
abbrev pub ReportsEnd : Type 0
ReportsEnd =
    (rows : List Row) (next : ℕ) (builtins : List Builtin) → IsOrderly rows next
    → (text : List ℕ) × IsStorageReport rows builtins text

-- different instances have different folders, and neither lies inside the other
abbrev pub PartsAreApart : Type 0
PartsAreApart =
    (cs ds : List ChildName) → cs ≢ [] → ds ≢ [] → All IsChildName cs → All IsChildName ds
    → IsPrefixOf (parts_of cs) (parts_of ds)
    → cs ≡ ds

-- all names from the root down to a row are proper names
abbrev pub AreNamed : List Row → ℕ → Type 0
AreNamed rows i = All IsChildName (moniker_of rows i).parts

-- of two places with one owner: the folders are the same exactly where the two rows have one moniker,
-- and else neither lies inside the other
pub record AreApart (rows : List Row) (i j : ℕ) (a b : Place) : Type 0 where
  pub same : moniker_of rows i ≡ moniker_of rows j → a.parts ≡ b.parts
  pub first : IsPrefixOf a.parts b.parts → moniker_of rows i ≡ moniker_of rows j
  pub second : IsPrefixOf b.parts a.parts → moniker_of rows i ≡ moniker_of rows j

-- the places of any two rows with one owner are apart so
abbrev pub PlacesAreApart : Type 0
PlacesAreApart =
    (rows : List Row) (next : ℕ) (builtins : List Builtin) (i j : ℕ) (p q : List ℕ) (a b : Place)
    → IsOrderly rows next → AreNamed rows i → AreNamed rows j
    → IsPlaced rows builtins i p (Ok a) → IsPlaced rows builtins j q (Ok b)
    → a.owner ≡ b.owner → AreApart rows i j a b

-- the places of these two rows, whose names are known to be proper, are apart
abbrev pub StandApart : List Row → List Builtin → ℕ → ℕ → Type 0
StandApart rows builtins i j =
    (p q : List ℕ) (a b : Place)
    → IsPlaced rows builtins i p (Ok a) → IsPlaced rows builtins j q (Ok b)
    → a.owner ≡ b.owner → AreApart rows i j a b
