-- Promised.
-- The rules that the rows of a declaration have to keep, and the tests that they are made of. The rules
-- are those of Fuchsia's component manifest reference (fuchsia.dev); their numbers are this project's own.
use Rattle.std.specs.Prelude.{ℕ, List, [], ◌∷◌, ◌++◌, Bool, false, not, ◌&&◌, ◌||◌, is_none, nat_eq}
use Rattle.std.specs.List.{list_any, starts_with}
use Rattle.std.specs.Str.{bytes_eq}
use Rattle.cm_names.specs.declared.child.ChildName.{ChildName}
use Rattle.cm_names.specs.Availability.{allows_void}
use Rattle.cm_decl.specs.declared.decl.Decl.{Decl}
use Rattle.cm_decl.specs.declared.rows.Give.{Give}
use Rattle.cm_decl.specs.declared.kind.Kind.{Kind}
use Rattle.cm_decl.specs.declared.kind.Kind.TheVariants.{Directory}
use Rattle.cm_decl.specs.declared.origin.Origin.{Origin}
use Rattle.cm_decl.specs.declared.origin.Origin.TheVariants.{Own, Framework, Child, Void}
use Rattle.cm_decl.specs.Same.{same_kind}

-- the rules of rows, by what breaks them
pub data Rule : Type 0 where
  RepeatedName : Rule
  UnknownRef : Rule
  NotDeclared : Rule
  TargetIsSource : Rule
  RepeatedTarget : Rule
  RepeatedPath : Rule
  PathInside : Rule
  RequiredVoid : Rule

-- the number of a rule's fault, as it is printed
abbrev pub number_of : Rule → ℕ
number_of RepeatedName = 50
number_of UnknownRef = 51
number_of NotDeclared = 52
number_of TargetIsSource = 53
number_of RepeatedTarget = 54
number_of RepeatedPath = 55
number_of PathInside = 56
number_of RequiredVoid = 57

-- whether a child of this name is declared; a child in a collection never is
abbrev pub is_child : Decl → ChildName → Bool
is_child d c = is_none c.coll && list_any (λ k. bytes_eq k.name c.name) d.children

-- whether a collection of this name is declared
abbrev pub is_collection : Decl → List ℕ → Bool
is_collection d name = list_any (λ k. bytes_eq k.name name) d.collections

-- whether a child or a collection has this name, so that an offer may be to it
abbrev pub is_target : Decl → List ℕ → Bool
is_target d name = list_any (λ k. bytes_eq k.name name) d.children || is_collection d name

-- whether a capability of this kind and name is declared
abbrev pub is_capability : Decl → Kind → List ℕ → Bool
is_capability d kind name = list_any (λ c. same_kind c.kind kind && bytes_eq c.name name) d.capabilities

-- whether a source is a child that isn't there; `there` tells which children are
abbrev pub is_unknown : (ChildName → Bool) → Origin → Bool
is_unknown there (Child c) = not (there c)
is_unknown there _ = false

-- whether a source doesn't have this: the component itself doesn't provide it, or it is a directory of
-- the framework
abbrev pub is_undeclared : Decl → Kind → Origin → List ℕ → Bool
is_undeclared d kind Own name = not (is_capability d kind name)
is_undeclared d kind Framework name = same_kind kind Directory
is_undeclared d kind _ name = false

-- whether something is offered to the very child that it comes from
abbrev pub is_given_back : Origin → List ℕ → Bool
is_given_back (Child c) to = is_none c.coll && bytes_eq c.name to
is_given_back _ to = false

-- whether something is given from void although it has to be there
abbrev pub is_required_void : Give → Bool
is_required_void g = elim g.from as (λ _. Bool) [ Void ↦ not (allows_void g.availability) | _ ↦ false ]

-- whether the first path lies inside the second: it goes on after it with a slash
abbrev pub is_inside : List ℕ → List ℕ → Bool
is_inside path outer = starts_with nat_eq path (outer ++ 47 ∷ [])
