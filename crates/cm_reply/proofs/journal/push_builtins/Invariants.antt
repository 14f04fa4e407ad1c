use Rattle.std.proofs.Common.{take, flat_map}
use Rattle.cm_reply.specs.ListsInside.{GainsText}
use Rattle.cm_reply.specs.Journal.{builtin_line}
use Rattle.cm_reply.proofs.journal.push_builtins.Given as goal

abbrev pub invariant-loop-builtin : goal.invariant-loop-builtin
invariant-loop-builtin l = GainsText l.fn.text l.text (flat_map builtin_line (take l.builtin-index l.builtins))
