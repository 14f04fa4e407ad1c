use Rattle.std.proofs.Common.{◌≡◌, take, map, All}
use Rattle.std.specs.List.{join_with_byte}
use Rattle.cm_names.specs.Child.{child_text}
use Rattle.cm_names.specs.Moniker.{IsChildName}
use Rattle.cm_names.proofs.moniker.Moniker.write.Given as goal

-- the parts so far are written, and their names are names
abbrev pub invariant-loop-i : goal.invariant-loop-i
invariant-loop-i l = record {
  text : l.text ≡ join_with_byte 47 (take l.i (map child_text l.self.parts));
  names : All IsChildName (take l.i l.self.parts);
}
