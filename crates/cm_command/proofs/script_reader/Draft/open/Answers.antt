use Rattle.std.proofs.Common.{rules, refl}
use Rattle.cm_command.specs.Scripts.{LineFault}
use Rattle.cm_command.proofs.lemmas.scripts.ScriptSteps.{opens_takes, manifest_fault}
use Rattle.cm_command.proofs.script_reader.Draft.open.Goals as goal

pub returns-then-self : goal.returns-then-self
returns-then-self c = LineFault.late_manifest c.requires.closed (search rules) (c.args.url.now, refl)

pub returns-in-Err : goal.returns-in-Err
returns-in-Err c = manifest_fault c.args.self.now c.args.url.now c.in-Err.fault c.requires.closed (search rules) c.in-Err.ensures

pub returns : goal.returns
returns c = opens_takes c.args.number c.args.self.now c.args.url.now c.in-Ok.url c.new.result (search rules) c.requires.closed (search rules) (search rules) (search rules)
