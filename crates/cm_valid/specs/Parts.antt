-- Inside.
-- The first fault of a part of a declaration, as the check finds it part by part.
use Rattle.std.specs.Prelude.{◌≡◌, ℕ, ◌<◌, [], length, Option, option_map}
use Rattle.cm_decl.specs.declared.decl.Decl.{Decl}
use Rattle.cm_decl.specs.declared.rows.Child.{Child}
use Rattle.cm_decl.specs.declared.rows.Collection.{Collection}
use Rattle.cm_decl.specs.declared.rows.Capability.{Capability}
use Rattle.cm_decl.specs.declared.rows.Give.{Give}
use Rattle.cm_decl.specs.declared.section.Section.{Section}
use Rattle.cm_decl.specs.declared.section.Section.TheVariants.{Children, Collections, Capabilities, Uses}
use Rattle.cm_decl.specs.declared.section.Section.TheVariants.{Offers, Exposes}
use Rattle.cm_decl.specs.Faults.{DeclFault, section_rank}
use Rattle.cm_decl.specs.FaultsInside.{IsFirstIn}
use Rattle.cm_valid.specs.Keys.{usage_key, offer_key}
use Rattle.cm_valid.specs.Near.{KeysAreApart}
use Rattle.cm_valid.specs.declared.found.FoundFault.{FoundFault}

-- the fault that was found, as definitions have it
abbrev pub fault_of : FoundFault → DeclFault
fault_of found = record {
  number = found.number;
  section = found.section;
  index = found.index;
  against = found.against;
  cycle = [];
}

-- what was found is the first fault of a part of the declaration, for which In holds; or there is none
-- in it
abbrev pub FindsFault : Decl → (DeclFault → Type 0) → Option FoundFault → Type 0
FindsFault d In found = IsFirstIn d In (option_map fault_of found)

-- the fault is that of this row
abbrev pub At : Section → ℕ → DeclFault → Type 0
At section i f = (f.section ≡ section) × (f.index ≡ i)

-- the fault is that of one of the first n rows of this section
abbrev pub Below : Section → ℕ → DeclFault → Type 0
Below section n f = (f.section ≡ section) × (f.index < n)

-- the fault is one of this section
abbrev pub In : Section → DeclFault → Type 0
In section f = f.section ≡ section

-- the fault is one of the sections before the k-th, in the order of telling
abbrev pub Before : ℕ → DeclFault → Type 0
Before k f = section_rank f.section < k

-- holds of every fault of a row, wherever it is
abbrev pub Anywhere : DeclFault → Type 0
Anywhere f = Unit {0}

-- how many rows a section has
abbrev pub rows_of : Decl → Section → ℕ
rows_of d Children = length d.children
rows_of d Collections = length d.collections
rows_of d Capabilities = length d.capabilities
rows_of d Uses = length d.uses
rows_of d Offers = length d.offers
rows_of d Exposes = length d.exposes
rows_of d section = 0

-- no two of the first n rows of this section can clash
abbrev pub ApartIn : Decl → Section → ℕ → Type 0
ApartIn d Children n = KeysAreApart (λ (k : Child). k.name) d.children n
ApartIn d Collections n = KeysAreApart (λ (k : Collection). k.name) d.collections n
ApartIn d Capabilities n = KeysAreApart (λ (c : Capability). c.name) d.capabilities n
ApartIn d Uses n = KeysAreApart usage_key d.uses n
ApartIn d Offers n = KeysAreApart offer_key d.offers n
ApartIn d Exposes n = KeysAreApart (λ (g : Give). g.target_name) d.exposes n
ApartIn d section n = Unit {0}
