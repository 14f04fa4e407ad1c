-- Inside.
-- The names of a declaration as sets, for look-up.
use Rattle.std.specs.Prelude.{◌≡◌, ℕ, List, Bool}
use Rattle.std.specs.List.{list_any}
use Rattle.std.specs.Str.{bytes_eq}
use Rattle.cm_decl.specs.declared.decl.Decl.{Decl}
use Rattle.cm_decl.specs.declared.kind.Kind.TheVariants.{Protocol, Directory}
use Rattle.cm_decl.specs.Rules.{is_collection, is_capability}

-- whether a name is among these
abbrev pub has : List (List ℕ) → List ℕ → Bool
has names name = list_any (bytes_eq name) names

-- whether a declared child has this name
abbrev pub is_child_name : Decl → List ℕ → Bool
is_child_name d name = list_any (λ k. bytes_eq k.name name) d.children

-- the sets have exactly the names of a declaration's children, collections, protocols and directories
pub record HasNames (d : Decl) (children collections protocols directories : List (List ℕ)) : Type 0 where
  pub children_named : (name : List ℕ) → has children name ≡ is_child_name d name
  pub collections_named : (name : List ℕ) → has collections name ≡ is_collection d name
  pub protocols_named : (name : List ℕ) → has protocols name ≡ is_capability d Protocol name
  pub directories_named : (name : List ℕ) → has directories name ≡ is_capability d Directory name
