use Rattle.std.proofs.Common.{ap₂}
use Rattle.cm_read.specs.Writing.{decl_text}
use Rattle.cm_world.specs.declared.action.Finish.TheVariants.{Resolved}
use Rattle.cm_command.proofs.lemmas.line.SpacelessWords.{url_lacks}
use Rattle.cm_reply.proofs.lemmas.back.Cuts.{word_cut, word_uncut}
use Rattle.cm_reply.proofs.outcome_words.resolved.Goals as goal

pub returns-in_default-clause-finds : goal.returns-in_default-clause-finds
returns-in_default-clause-finds c t d h e = absurd (word_uncut c.cut.result.1 c.args.text.now c.cut.result.0.now t (decl_text d) c.in_default.is c.cut.ensures.whole c.cut.ensures.clean e)

pub returns-in-Err-clause-finds : goal.returns-in-Err-clause-finds
returns-in-Err-clause-finds c t d h e = let parts = word_cut c.cut.result.1 c.in-Some.more c.args.text.now c.cut.result.0.now t (decl_text d) c.in-Some.is c.cut.ensures.whole c.cut.ensures.clean (url_lacks t h.0) e in c.in-Err.ensures.finds t h.0 parts.0

pub returns-in-Ok-decl-clause-finds : goal.returns-in-Ok-decl-clause-finds
returns-in-Ok-decl-clause-finds c t d h e =
    let parts = word_cut c.cut.result.1 c.in-Some.more c.args.text.now c.cut.result.0.now t (decl_text d) c.in-Some.is c.cut.ensures.whole c.cut.ensures.clean (url_lacks t h.0) e in
    ap₂ Resolved (c.in-Ok.ensures.finds t h.0 parts.0) (c.in-Ok-decl.ensures.finds d h.1 parts.1)

pub returns-in-Err-decl-clause-finds : goal.returns-in-Err-decl-clause-finds
returns-in-Err-decl-clause-finds c t d h e = let parts = word_cut c.cut.result.1 c.in-Some.more c.args.text.now c.cut.result.0.now t (decl_text d) c.in-Some.is c.cut.ensures.whole c.cut.ensures.clean (url_lacks t h.0) e in c.in-Err-decl.ensures.finds d h.1 parts.1
