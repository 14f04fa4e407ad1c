use Rattle.std.proofs.Common.{decimal, ap₂}
use Rattle.cm_world.specs.declared.event.Event.TheVariants.{Begin}
use Rattle.cm_reply.specs.States.{act_word}
use Rattle.cm_reply.proofs.lemmas.back.Cuts.{word_cut, word_uncut}
use Rattle.cm_reply.proofs.lemmas.back.Named.{kind_lacks}
use Rattle.cm_reply.proofs.reading.begin.Goals as goal

pub returns-in_default-clause-finds : goal.returns-in_default-clause-finds
returns-in_default-clause-finds c x h e = absurd (word_uncut c.cut.result.1 c.args.rest.now c.cut.result.0.now (act_word x.0) (decimal x.1) c.in_default.is c.cut.ensures.whole c.cut.ensures.clean e)

pub returns-in-Err-clause-finds : goal.returns-in-Err-clause-finds
returns-in-Err-clause-finds c x h e =
    let parts = word_cut c.cut.result.1 c.in-Some.more c.args.rest.now c.cut.result.0.now (act_word x.0) (decimal x.1) c.in-Some.is c.cut.ensures.whole c.cut.ensures.clean (kind_lacks x.0) e in
    c.in-Err.ensures x.0 parts.0

pub returns-in-Ok-number-clause-finds : goal.returns-in-Ok-number-clause-finds
returns-in-Ok-number-clause-finds c x h e =
    let parts = word_cut c.cut.result.1 c.in-Some.more c.args.rest.now c.cut.result.0.now (act_word x.0) (decimal x.1) c.in-Some.is c.cut.ensures.whole c.cut.ensures.clean (kind_lacks x.0) e in
    ap₂ Begin (c.in-Ok.ensures x.0 parts.0) (c.in-Ok-number.ensures.finds x.1 h parts.1)

pub returns-in-Err-number-clause-finds : goal.returns-in-Err-number-clause-finds
returns-in-Err-number-clause-finds c x h e =
    let parts = word_cut c.cut.result.1 c.in-Some.more c.args.rest.now c.cut.result.0.now (act_word x.0) (decimal x.1) c.in-Some.is c.cut.ensures.whole c.cut.ensures.clean (kind_lacks x.0) e in
    c.in-Err-number.ensures.finds x.1 h parts.1
