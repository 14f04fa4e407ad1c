use Rattle.std.proofs.Common.{sym, ◌∙◌, ap}
use Rattle.std.proofs.lemmas.Option.{none-some}
use Rattle.cm_names.specs.Path.{subdir_fault}
use Rattle.cm_names.proofs.lemmas.texts.Path.{subdir_faultless}
use Rattle.cm_command.proofs.lemmas.counts.PathCounts.{subdir_utf8}
use Rattle.cm_command.proofs.tokens.read_subdir.Goals as goal

pub returns-in_default : goal.returns-in_default
returns-in_default c = (λ h. c.in_default.ensures (subdir_utf8 c.args.word.now h), c.subdir_prefixes.ensures)

pub returns-in_default-fault : goal.returns-in_default-fault
returns-in_default-fault c =
    (λ h. none-some c.in-Err.fault (sym (subdir_faultless c.args.word.now h) ∙ ap subdir_fault (sym c.in-Some.ensures) ∙ c.in-Err.ensures.fault c.in_default-fault.not-Memory), c.subdir_prefixes-in_default-fault.ensures)
