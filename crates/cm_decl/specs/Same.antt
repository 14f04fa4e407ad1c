-- Promised.
-- Tests whether two values are the same.
use Rattle.std.specs.Prelude.{Bool, true, false, ◌&&◌}
use Rattle.std.specs.Str.{bytes_eq}
use Rattle.std.specs.Option.{option_eq}
use Rattle.cm_names.specs.declared.child.ChildName.{ChildName}
use Rattle.cm_decl.specs.declared.kind.Kind.{Kind}
use Rattle.cm_decl.specs.declared.kind.Kind.TheVariants.{Protocol, Directory}
use Rattle.cm_decl.specs.declared.node.Node.{Node}
use Rattle.cm_decl.specs.declared.node.Node.TheVariants.{Own, Child}

-- whether both are protocols or both directories
abbrev pub same_kind : Kind → Kind → Bool
same_kind Protocol Protocol = true
same_kind Directory Directory = true
same_kind _ _ = false

-- whether both names and both collections are the same, byte by byte
abbrev pub same_child : ChildName → ChildName → Bool
same_child a b = option_eq bytes_eq a.coll b.coll && bytes_eq a.name b.name

-- whether both are the component itself, or the same child
abbrev pub same_node : Node → Node → Bool
same_node Own Own = true
same_node (Child a) (Child b) = same_child a b
same_node _ _ = false
