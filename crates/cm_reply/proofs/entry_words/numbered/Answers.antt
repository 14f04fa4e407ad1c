use Rattle.std.proofs.Common.{decimal}
use Rattle.cm_reply.proofs.lemmas.back.Cuts.{word_cut, word_uncut, digits_lack}
use Rattle.cm_reply.proofs.entry_words.numbered.Goals as goal

pub returns-in_default-clause-finds : goal.returns-in_default-clause-finds
returns-in_default-clause-finds c n more small e = absurd (word_uncut c.cut.result.1 c.args.rest.now c.cut.result.0.now (decimal n) more c.in_default.is c.cut.ensures.whole c.cut.ensures.clean e)

pub returns-in-Ok-clause-finds : goal.returns-in-Ok-clause-finds
returns-in-Ok-clause-finds c n more small e =
    let parts = word_cut c.cut.result.1 c.in-Some.more c.args.rest.now c.cut.result.0.now (decimal n) more c.in-Some.is c.cut.ensures.whole c.cut.ensures.clean (digits_lack n small) e in
    (c.in-Ok.ensures.finds n small parts.0, parts.1)

pub returns-in-Err-clause-finds : goal.returns-in-Err-clause-finds
returns-in-Err-clause-finds c n more small e =
    let parts = word_cut c.cut.result.1 c.in-Some.more c.args.rest.now c.cut.result.0.now (decimal n) more c.in-Some.is c.cut.ensures.whole c.cut.ensures.clean (digits_lack n small) e in
    c.in-Err.ensures.finds n small parts.0
