use Rattle.std.proofs.Common.{sym, ap, subst, ◌∙◌, IsUtf8}
use Rattle.cm_reply.specs.EventWords.{event_named}
use Rattle.cm_reply.proofs.lemmas.back.Named.{word_utf8, event_found}
use Rattle.cm_reply.proofs.event_words.event_word.Goals as goal

pub returns-in-Some : goal.returns-in-Some
returns-in-Some c v e = c.event_named.ensures ∙ ap event_named (c.in-Some.ensures ∙ e) ∙ event_found v

pub returns-in-None : goal.returns-in-None
returns-in-None c v e = absurd (c.in-None.ensures (subst IsUtf8 (sym e) (word_utf8 v)))
