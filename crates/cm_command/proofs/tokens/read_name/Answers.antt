use Rattle.std.proofs.Common.{sym, ◌∙◌, ap}
use Rattle.std.proofs.lemmas.Option.{none-some}
use Rattle.cm_names.specs.Name.{name_fault}
use Rattle.cm_names.proofs.lemmas.texts.Name.{name_faultless}
use Rattle.cm_command.proofs.lemmas.counts.NameCounts.{name_utf8}
use Rattle.cm_command.proofs.tokens.read_name.Goals as goal

pub returns-in_default : goal.returns-in_default
returns-in_default c = (λ h. c.in_default.ensures (name_utf8 c.args.word.now h), c.name_prefixes.ensures)

pub returns-in_default-fault : goal.returns-in_default-fault
returns-in_default-fault c =
    (λ h. none-some c.in-Err.fault (sym (name_faultless c.args.word.now h) ∙ ap name_fault (sym c.in-Some.ensures) ∙ c.in-Err.ensures.fault c.in_default-fault.not-Memory), c.name_prefixes-in_default-fault.ensures)
