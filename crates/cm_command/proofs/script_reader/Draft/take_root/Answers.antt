use Rattle.std.proofs.Common.{rules, refl}
use Rattle.cm_command.specs.Scripts.{LineFault}
use Rattle.cm_command.proofs.lemmas.scripts.ScriptSteps.{root_takes, root_fault, some_of, none_of}
use Rattle.cm_command.proofs.script_reader.Draft.take_root.Goals as goal

pub returns-then-self : goal.returns-then-self
returns-then-self c = LineFault.late_root c.requires.closed (search rules) (c.args.url.now, refl)

pub returns-then-is_some : goal.returns-then-is_some
returns-then-is_some c = LineFault.second_root c.requires.closed (some_of c.args.self.now.root (search rules)).1 (c.args.url.now, refl)

pub returns-in-Err : goal.returns-in-Err
returns-in-Err c = root_fault c.args.self.now c.args.url.now c.in-Err.fault c.requires.closed (search rules) (none_of c.args.self.now.root (search rules)) c.in-Err.ensures

pub returns : goal.returns
returns c =
    λ n. root_takes n c.args.self.now c.args.url.now c.in-Ok.url c.requires.closed (search rules) (none_of c.args.self.now.root (search rules)) (search rules) (search rules)
