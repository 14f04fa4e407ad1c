-- Inside.
-- The order of children's names.
use Rattle.std.specs.Ordering.{nat_cmp, ordering_then}
use Rattle.std.specs.declared.cmp.Ordering.{Ordering}
use Rattle.std.specs.Option.{option_cmp}
use Rattle.std.specs.Cmp.Lexicographic.{slice_cmp}
use Rattle.cm_names.specs.declared.child.ChildName.{ChildName}

-- the order of children's names: by their collections, then by their own names, byte by byte
abbrev pub child_cmp : ChildName → ChildName → Ordering
child_cmp a b =
    ordering_then (option_cmp (slice_cmp nat_cmp) a.coll b.coll) (slice_cmp nat_cmp a.name b.name)
