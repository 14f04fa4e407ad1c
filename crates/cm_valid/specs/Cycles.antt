-- Inside.
-- Declarations in which nothing depends on a child, so that nothing depends on itself and no graph has
-- to be made.
use Rattle.std.specs.Prelude.{Bool, ◌&&◌, ◌||◌}
use Rattle.std.specs.List.{list_any}
use Rattle.cm_names.specs.declared.dependency.Dependency.{Dependency}
use Rattle.cm_decl.specs.declared.decl.Decl.{Decl}
use Rattle.cm_decl.specs.declared.origin.Origin.{Origin}
use Rattle.cm_decl.specs.Graph.{is_strong, is_from_child}

-- whether a use or an offer of this kind depends strongly on a child
abbrev pub binds_child : Dependency → Origin → Bool
binds_child dependency from = is_strong dependency && is_from_child from

-- whether the component itself or one of its children strongly depends on a child
abbrev pub needs_child : Decl → Bool
needs_child d =
    list_any (λ u. binds_child u.dependency u.from) d.uses
    || list_any (λ o. binds_child o.give.dependency o.give.from) d.offers
