use Rattle.cm_plain.proofs.lemmas.Loose.{string_read}
use Rattle.cm_plain.proofs.relaxed.read_quoted.Goals as goal

pub returns-clause-string : goal.returns-clause-string
returns-clause-string c =
    string_read c.args.quote c.in_ok-string.string.now c.args.text.now c.in_ok-inside.inside.now
    c.in_ok-string.rest.now c.behind_gap.result.now c.requires c.in_ok-string.ensures.plain c.in_ok-inside.ensures
    c.in_ok-string.ensures.parts c.behind_gap.ensures.passed
