use Rattle.std.proofs.Common.{take}
use Rattle.cm_reply.specs.Lists.{each_behind}
use Rattle.cm_reply.specs.ListsInside.{GainsText}
use Rattle.cm_reply.proofs.lists.push_each.Given as goal

abbrev pub invariant-loop-item : goal.invariant-loop-item
invariant-loop-item g l = GainsText l.fn.text l.text (each_behind l.mark g.T.ListItem.written (take l.item-index l.items))
