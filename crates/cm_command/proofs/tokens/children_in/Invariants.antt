use Rattle.std.proofs.Common.{◌≡◌, ◌++◌, length, map, All}
use Rattle.cm_names.specs.Child.{child_text}
use Rattle.cm_names.specs.Moniker.{IsChildName}
use Rattle.cm_names.specs.Path.{parts_of}
use Rattle.cm_command.proofs.tokens.children_in.Given as goal

-- the names so far, and what stands between the slashes of the rest, are all of it
abbrev pub invariant-parts : goal.invariant-parts
invariant-parts l = record {
  names : All IsChildName l.parts;
  texts : map child_text l.parts ++ parts_of l.rest ≡ parts_of l.text;
}

abbrev pub decreases-parts : goal.decreases-parts
decreases-parts l = length l.rest
