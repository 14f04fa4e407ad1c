use Rattle.std.proofs.Common.{string_bytes, ◌≡◌, List, ◌++◌, drop}
use Rattle.cm_command.specs.declared.script.Line.{Line}
use Rattle.cm_program.specs.PrintedInside.{texts_of}
use Rattle.cm_program.proofs.answers.push_lines.Given as goal

-- what is still to be put behind the text makes the whole
abbrev pub invariant-loop-line : goal.invariant-loop-line
invariant-loop-line l = (more : List Line) → string_bytes l.text ++ texts_of (drop l.line-index l.lines ++ more) (drop l.at l.said) ≡ string_bytes l.fn.text ++ texts_of (l.lines ++ more) (drop l.from l.said)
