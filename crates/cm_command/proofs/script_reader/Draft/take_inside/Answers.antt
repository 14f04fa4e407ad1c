use Rattle.std.proofs.Common.{rules}
use Rattle.cm_command.proofs.lemmas.scripts.ScriptSteps.{inside_ends, inside_adds}
use Rattle.cm_command.proofs.script_reader.Draft.take_inside.Goals as goal

pub returns-then-is_same : goal.returns-then-is_same
returns-then-is_same c =
    inside_ends c.args.line.now c.args.block c.args.self.now c.push.new.self (search rules) (search rules)

pub returns : goal.returns
returns c = inside_adds c.args.line.now c.args.block c.args.self.now c.extend_from_slice.new.self c.push-2.new.self (search rules) (search rules) (search rules)
