use Rattle.std.proofs.Common.{rules}
use Rattle.cm_command.specs.Scripts.{LineFault}
use Rattle.cm_command.proofs.lemmas.scripts.ScriptSteps.{sync_takes, none_of}
use Rattle.cm_command.proofs.script_reader.Draft.sync.Goals as goal

pub returns-then-is_none : goal.returns-then-is_none
returns-then-is_none c = LineFault.early_sync c.requires (none_of c.args.self.now.root (search rules))

pub returns : goal.returns
returns c =
    λ n. sync_takes n c.args.self.now c.push.new.self c.replace-phase.new.dest c.requires (search rules) (search rules) (search rules)
