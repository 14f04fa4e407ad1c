use Rattle.std.proofs.Common.{sym, ap, subst, ◌∙◌, IsUtf8}
use Rattle.cm_reply.specs.Reading.{section_named}
use Rattle.cm_reply.proofs.lemmas.back.Named.{section_utf8, section_found}
use Rattle.cm_reply.proofs.outcome_words.section_of.Goals as goal

pub returns-in-Some : goal.returns-in-Some
returns-in-Some c s e = c.section_named.ensures ∙ ap section_named (c.in-Some.ensures ∙ e) ∙ section_found s

pub returns-in-None : goal.returns-in-None
returns-in-None c s e = absurd (c.in-None.ensures (subst IsUtf8 (sym e) (section_utf8 s)))
