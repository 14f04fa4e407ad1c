use Rattle.std.proofs.Common.{◌≡◌, ◌++◌, take}
use Rattle.std.specs.List.{flat_map}
use Rattle.cm_names.specs.Path.{slash_and_text}
use Rattle.cm_names.proofs.path.push_slashed.Given as goal

abbrev pub invariant-loop-subdir : goal.invariant-loop-subdir
invariant-loop-subdir l = l.text ≡ l.fn.text ++ flat_map slash_and_text (take l.subdir-index l.subdirs)
