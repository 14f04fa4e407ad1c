use Rattle.std.proofs.Common.{map, take}
use Rattle.cm_reply.specs.ListsInside.{GainsText}
use Rattle.cm_storage.specs.KnownPlace.{folders_text}
use Rattle.cm_storage.proofs.known.push_folders.Given as goal

abbrev pub invariant-loop-name : goal.invariant-loop-name
invariant-loop-name l = GainsText l.fn.text l.text (folders_text (map (λ x. x.now) (take l.name-index l.names)))
