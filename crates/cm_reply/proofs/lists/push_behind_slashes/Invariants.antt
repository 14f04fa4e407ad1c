use Rattle.std.proofs.Common.{take, map, codes}
use Rattle.cm_names.specs.Child.{child_text}
use Rattle.cm_reply.specs.Lists.{each_behind}
use Rattle.cm_reply.specs.ListsInside.{GainsText}
use Rattle.cm_reply.proofs.lists.push_behind_slashes.Given as goal

abbrev pub invariant-loop-part : goal.invariant-loop-part
invariant-loop-part l = GainsText l.fn.text l.text (each_behind (codes "/") child_text (map (λ x. x.now) (take l.part-index l.parts)))
