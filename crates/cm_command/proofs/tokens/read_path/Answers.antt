use Rattle.std.proofs.Common.{sym, ◌∙◌, ap}
use Rattle.std.proofs.lemmas.Option.{none-some}
use Rattle.cm_names.specs.Path.{path_fault}
use Rattle.cm_names.proofs.lemmas.texts.Path.{path_faultless}
use Rattle.cm_command.proofs.lemmas.counts.PathCounts.{path_utf8}
use Rattle.cm_command.proofs.tokens.read_path.Goals as goal

pub returns-in_default : goal.returns-in_default
returns-in_default c = (λ h. c.in_default.ensures (path_utf8 c.args.word.now h), c.path_prefixes.ensures)

pub returns-in_default-fault : goal.returns-in_default-fault
returns-in_default-fault c =
    (λ h. none-some c.in-Err.fault (sym (path_faultless c.args.word.now h) ∙ ap path_fault (sym c.in-Some.ensures) ∙ c.in-Err.ensures.fault c.in_default-fault.not-Memory), c.path_prefixes-in_default-fault.ensures)
