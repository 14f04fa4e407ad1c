use Rattle.std.proofs.Common.{◌≡◌, map, take}
use Rattle.cm_names.specs.declared.child.ChildName.{ChildName}
use Rattle.cm_world.specs.Rows.{child_of}
use Rattle.cm_world.specs.End.{child_rows}
use Rattle.cm_table.specs.ByName.{led_to}
use Rattle.cm_table.proofs.prepared.index_of.Given as goal

abbrev pub invariant-loop-child : goal.invariant-loop-child
invariant-loop-child l =
    record {
      same : l.children ≡ l.decl.children;
      next : l.next ≡ l.child-index;
      kids : l.index.kids.items ≡ map (λ r. r.inc) (child_rows 0 0 (take l.child-index l.children));
      names : (c : ChildName) → led_to l.index.names c ≡ child_of (child_rows 0 0 (take l.child-index l.children)) 0 c;
    }
