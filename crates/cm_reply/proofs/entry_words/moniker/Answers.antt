use Rattle.std.proofs.Common.{sym, subst}
use Rattle.cm_names.specs.Moniker.{IsMonikerTextOf}
use Rattle.cm_names.specs.MonikerInside.{IsMonikerText}
use Rattle.cm_names.proofs.lemmas.texts.MonikerParts.{reads_one_way_lem, writes_its_text_lem}
use Rattle.cm_reply.proofs.lemmas.back.Created.{target_is}
use Rattle.cm_reply.proofs.lemmas.back.Cuts.{word_faults}
use Rattle.cm_reply.proofs.entry_words.moniker.Goals as goal

pub returns-in-Ok-clause-target : goal.returns-in-Ok-clause-target
returns-in-Ok-clause-target c = target_is c.args.word.now c.in-Ok.moniker c.in-Ok.ensures

pub returns-in-Ok-clause-finds : goal.returns-in-Ok-clause-finds
returns-in-Ok-clause-finds c m is e =
    reads_one_way_lem c.args.word.now c.in-Ok.moniker m c.in-Ok.ensures.0 (subst (λ t. IsMonikerTextOf t m) (sym e) (writes_its_text_lem m is.0))

pub returns-in-Err-clause-finds : goal.returns-in-Err-clause-finds
returns-in-Err-clause-finds c m is e =
    word_faults IsMonikerText c.args.word.now c.in-Err.fault c.fault_of.result
    (subst IsMonikerText (sym e) (m, writes_its_text_lem m is.0, is.1)) c.in-Err.ensures c.fault_of.ensures
