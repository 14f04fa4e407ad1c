-- Promised.
-- The rules that speak of two rows: with which earlier row a row clashes.
use Rattle.std.specs.Prelude.{ℕ, List, Bool, ◌&&◌, ◌||◌, Option, Some, None, take, slice_get, position}
use Rattle.std.specs.Prelude.{option_map, option_and_then}
use Rattle.std.specs.Str.{bytes_eq}
use Rattle.cm_decl.specs.declared.decl.Decl.{Decl}
use Rattle.cm_decl.specs.declared.rows.Child.{Child}
use Rattle.cm_decl.specs.declared.rows.Collection.{Collection}
use Rattle.cm_decl.specs.declared.rows.Capability.{Capability}
use Rattle.cm_decl.specs.declared.rows.Usage.{Usage}
use Rattle.cm_decl.specs.declared.rows.Offer.{Offer}
use Rattle.cm_decl.specs.declared.rows.Give.{Give}
use Rattle.cm_decl.specs.declared.section.Section.{Section}
use Rattle.cm_decl.specs.declared.section.Section.TheVariants.{Children, Collections, Capabilities, Uses}
use Rattle.cm_decl.specs.declared.section.Section.TheVariants.{Offers, Exposes}
use Rattle.cm_decl.specs.Rules.{Rule, RepeatedName, RepeatedTarget, RepeatedPath, PathInside, is_inside}

-- where a row stands: its section, and its index there
abbrev pub RowPlace : Type 0
RowPlace = Section × ℕ

-- the place of the row of this section and index
abbrev pub place : Section → ℕ → RowPlace
place section index = (section, index)

-- the place of the first row that passes the test
abbrev pub first_row : {A : Type 0} → Section → (A → Bool) → List A → Option RowPlace
first_row section passes rows = option_map (place section) (position passes rows)

-- the first row before the i-th of a section that clashes with it
abbrev pub first_before : {A : Type 0} → Section → (A → A → Bool) → List A → ℕ → Option RowPlace
first_before section clashes rows i =
    option_and_then (λ row. first_row section (λ earlier. clashes earlier row) (take i rows))
    (slice_get rows i)

-- the first value, or the second where there is no first
abbrev pub or_else : {A : Type 0} → Option A → Option A → Option A
or_else (Some x) other = Some x
or_else None other = other

-- the child that has the name of the i-th collection; the two share their names
abbrev pub child_of_name : Decl → ℕ → Option RowPlace
child_of_name d i =
    option_and_then (λ k. first_row Children (λ c. bytes_eq c.name k.name) d.children)
    (slice_get d.collections i)

-- whether two children have one name
abbrev pub same_child_name : Child → Child → Bool
same_child_name a b = bytes_eq a.name b.name

-- whether two collections have one name
abbrev pub same_collection_name : Collection → Collection → Bool
same_collection_name a b = bytes_eq a.name b.name

-- whether two capabilities have one name, of whatever kinds
abbrev pub same_capability_name : Capability → Capability → Bool
same_capability_name a b = bytes_eq a.name b.name

-- whether two offers give one name to one target, of whatever kinds
abbrev pub same_target : Offer → Offer → Bool
same_target a b = bytes_eq a.to b.to && bytes_eq a.give.target_name b.give.target_name

-- whether two exposes give one name, of whatever kinds
abbrev pub same_expose : Give → Give → Bool
same_expose a b = bytes_eq a.target_name b.target_name

-- whether two uses have one path
abbrev pub same_path : Usage → Usage → Bool
same_path a b = bytes_eq a.path b.path

-- whether the path of one use lies inside that of the other
abbrev pub are_paths_nested : Usage → Usage → Bool
are_paths_nested a b = is_inside a.path b.path || is_inside b.path a.path

-- the earlier row with which this row clashes by this rule: the first, where there are several
abbrev pub clash : Decl → Rule → Section → ℕ → Option RowPlace
clash d RepeatedName Children i = first_before Children same_child_name d.children i
clash d RepeatedName Collections i =
    or_else (child_of_name d i) (first_before Collections same_collection_name d.collections i)
clash d RepeatedName Capabilities i = first_before Capabilities same_capability_name d.capabilities i
clash d RepeatedTarget Offers i = first_before Offers same_target d.offers i
clash d RepeatedTarget Exposes i = first_before Exposes same_expose d.exposes i
clash d RepeatedPath Uses i = first_before Uses same_path d.uses i
clash d PathInside Uses i = first_before Uses are_paths_nested d.uses i
clash d rule section i = None
