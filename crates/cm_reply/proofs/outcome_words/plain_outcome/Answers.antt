use Rattle.std.proofs.Common.{sym, ap, subst, ◌∙◌, IsUtf8}
use Rattle.cm_reply.specs.Reading.{outcome_named}
use Rattle.cm_reply.proofs.lemmas.back.Named.{outcome_utf8, outcome_found}
use Rattle.cm_reply.proofs.outcome_words.plain_outcome.Goals as goal

pub returns-in-Some-clause-finds : goal.returns-in-Some-clause-finds
returns-in-Some-clause-finds c o plain e = c.outcome_named.ensures.named ∙ ap outcome_named (c.in-Some.ensures ∙ e) ∙ outcome_found o plain

pub returns-in-None-clause-finds : goal.returns-in-None-clause-finds
returns-in-None-clause-finds c o plain e = absurd (c.in-None.ensures (subst IsUtf8 (sym e) (outcome_utf8 o plain)))
