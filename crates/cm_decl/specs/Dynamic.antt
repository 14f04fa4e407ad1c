-- Promised.
-- The faults of offers that a child in a collection is given when it is created.
use Rattle.std.specs.Prelude.{ℕ, List, [], ◌∷◌, length, take, Bool, false, ◌&&◌, ◌||◌, Option, option_map}
use Rattle.std.specs.Prelude.{option_and_then, is_none, find, slice_get, if◌then◌else◌}
use Rattle.std.specs.List.{list_any, filter_map, range_with_len}
use Rattle.std.specs.Str.{bytes_eq}
use Rattle.cm_names.specs.declared.child.ChildName.{ChildName}
use Rattle.cm_decl.specs.declared.decl.Decl.{Decl}
use Rattle.cm_decl.specs.declared.rows.Give.{Give}
use Rattle.cm_decl.specs.Rules.{Rule, UnknownRef, NotDeclared, RepeatedTarget, RequiredVoid, number_of}
use Rattle.cm_decl.specs.Rules.{is_child, is_unknown, is_required_void}
use Rattle.cm_decl.specs.Breaks.{has_undeclared_source}

-- whether a child is there: a declared one by the declaration, one in a collection as `dynamic` tells
abbrev pub is_there : Decl → (ChildName → Bool) → ChildName → Bool
is_there d dynamic c = if is_none c.coll then is_child d c else dynamic c

-- whether the declaration offers something of this name to the collection
abbrev pub is_offered : Decl → List ℕ → List ℕ → Bool
is_offered d coll name = list_any (λ o. bytes_eq o.to coll && bytes_eq o.give.target_name name) d.offers

-- whether an offer to a new child breaks this rule; `before` are the offers to it that come earlier
abbrev pub give_breaks : Decl → (ChildName → Bool) → List ℕ → List Give → Give → Rule → Bool
give_breaks d dynamic coll before g UnknownRef = is_unknown (is_there d dynamic) g.from
give_breaks d dynamic coll before g NotDeclared = has_undeclared_source d g
give_breaks d dynamic coll before g RepeatedTarget =
    is_offered d coll g.target_name || list_any (λ h. bytes_eq h.target_name g.target_name) before
give_breaks d dynamic coll before g RequiredVoid = is_required_void g
give_breaks d dynamic coll before g _ = false

-- the rules that such offers have to keep
abbrev pub give_rules : List Rule
give_rules = UnknownRef ∷ NotDeclared ∷ RepeatedTarget ∷ RequiredVoid ∷ []

-- the first rule that such an offer breaks
abbrev pub give_fault : Decl → (ChildName → Bool) → List ℕ → List Give → Give → Option Rule
give_fault d dynamic coll before g = find (give_breaks d dynamic coll before g) give_rules

-- the first rule that the i-th of these offers breaks
abbrev pub give_fault_at : Decl → (ChildName → Bool) → List ℕ → List Give → ℕ → Option Rule
give_fault_at d dynamic coll gives i =
    option_and_then (λ g. give_fault d dynamic coll (take i gives) g) (slice_get gives i)

-- the index of the i-th offer with the number of its fault, where it has one
abbrev pub bad_give_at : Decl → (ChildName → Bool) → List ℕ → List Give → ℕ → Option (ℕ × ℕ)
bad_give_at d dynamic coll gives i =
    option_map (λ rule. (i, number_of rule)) (give_fault_at d dynamic coll gives i)

-- the index of the first offer that has a fault, with the fault's number; `dynamic` tells which
-- children in collections are there and not doomed
abbrev pub bad_give : Decl → (ChildName → Bool) → List ℕ → List Give → Option (ℕ × ℕ)
bad_give d dynamic coll gives =
    slice_get (filter_map (bad_give_at d dynamic coll gives) (range_with_len 0 (length gives))) 0
