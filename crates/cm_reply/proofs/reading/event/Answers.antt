use Rattle.std.proofs.Common.{◌≡◌, sym, ◌∙◌, subst}
use Rattle.std.proofs.lemmas.Option.{same_Some, none-some}
use Rattle.cm_reply.specs.Legible.{IsLegible}
use Rattle.cm_reply.specs.EventWords.{IsTold, word_of, told_text}
use Rattle.cm_reply.specs.Reading.{IsOr}
use Rattle.cm_reply.proofs.lemmas.back.Cuts.{word_cut, word_uncut}
use Rattle.cm_reply.proofs.lemmas.back.Named.{word_lacks, each_is_told_lem, found_by}
use Rattle.cm_reply.proofs.reading.event.Goals as goal

pub returns-in_default-clause-finds : goal.returns-in_default-clause-finds
returns-in_default-clause-finds c e legible same =
    let it : IsTold e = each_is_told_lem e in
    absurd (word_uncut c.cut.result.1 c.args.text.now c.cut.result.0.now (word_of it.word) (told_text it.word it.told) c.in_default.is c.cut.ensures.whole c.cut.ensures.clean (same ∙ it.text))

pub returns-in-Some-event_word-clause-finds : goal.returns-in-Some-event_word-clause-finds
returns-in-Some-event_word-clause-finds c e legible same =
    let it : IsTold e = each_is_told_lem e in
    let parts = word_cut c.cut.result.1 c.in-Some.rest c.args.text.now c.cut.result.0.now (word_of it.word) (told_text it.word it.told) c.in-Some.is c.cut.ensures.whole c.cut.ensures.clean (word_lacks it.word) (same ∙ it.text) in
    let first = same_Some c.in-Some-event_word.first it.word (sym c.in-Some-event_word.is ∙ c.event_word.ensures it.word parts.0) in
    subst (IsOr c.behind.result) it.event
    (found_by it.word c.in-Some-event_word.first it.told _ c.behind.result first c.behind.ensures.finds (subst IsLegible (sym it.event) legible) parts.1)

pub returns-in-None-clause-finds : goal.returns-in-None-clause-finds
returns-in-None-clause-finds c e legible same =
    let it : IsTold e = each_is_told_lem e in
    let parts = word_cut c.cut.result.1 c.in-Some.rest c.args.text.now c.cut.result.0.now (word_of it.word) (told_text it.word it.told) c.in-Some.is c.cut.ensures.whole c.cut.ensures.clean (word_lacks it.word) (same ∙ it.text) in
    absurd (none-some it.word (sym c.in-None.is ∙ c.event_word.ensures it.word parts.0))
