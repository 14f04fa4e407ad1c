use Rattle.std.proofs.Common.{◌≡◌, ◌++◌, take}
use Rattle.std.specs.List.{flat_map}
use Rattle.cm_command.specs.Written.{spaced, give_words}
use Rattle.cm_command.proofs.writer.push_gives.Given as goal

abbrev pub invariant-loop-give : goal.invariant-loop-give
invariant-loop-give l =
    l.text ≡ l.fn.text ++ flat_map spaced (flat_map give_words (take l.give-index l.gives))
