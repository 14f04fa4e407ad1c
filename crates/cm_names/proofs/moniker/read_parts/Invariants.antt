use Rattle.std.proofs.Common.{◌≡◌, length, take, map, All}
use Rattle.cm_names.specs.Child.{child_text}
use Rattle.cm_names.specs.Moniker.{IsChildName}
use Rattle.cm_names.specs.Path.{parts_of}
use Rattle.cm_names.proofs.moniker.read_parts.Given as goal

-- the names so far are those of the pieces so far
abbrev pub invariant-loop-part : goal.invariant-loop-part
invariant-loop-part l = record {
  names : All IsChildName l.parts;
  texts : map child_text l.parts ≡ take (length l.yielded) (parts_of l.text);
}
