use Rattle.std.proofs.Common.{rules}
use Rattle.cm_command.proofs.lemmas.scripts.ScriptSteps.{inside_result, outside_takes}
use Rattle.cm_command.proofs.script_reader.Draft.take.Goals as goal

pub returns-in-Some : goal.returns-in-Some
returns-in-Some c =
    inside_result c.take_inside.result c.args.number c.args.line.now c.in-Some.block c.args.self.now (record c.args.self.now { block = c.take.new.self }) c.take_inside.new.self (search rules) (search rules) c.take_inside.ensures

pub returns-in-None : goal.returns-in-None
returns-in-None c =
    outside_takes c.take_outside.result c.args.number c.args.line.now c.args.self.now (record c.args.self.now { block = c.take.new.self }) c.take_outside.new.self (search rules) (search rules) c.take_outside.ensures
