use Rattle.std.proofs.Common.{decimal, ap₂, sym, ◌∙◌}
use Rattle.std.proofs.lemmas.Option.{same_Some, none-some}
use Rattle.cm_decl.specs.Words.{section_word}
use Rattle.cm_reply.proofs.lemmas.back.Cuts.{word_cut, word_uncut}
use Rattle.cm_reply.proofs.lemmas.back.Named.{section_lacks}
use Rattle.cm_reply.proofs.outcome_words.place.Goals as goal

pub returns-in_default-clause-finds : goal.returns-in_default-clause-finds
returns-in_default-clause-finds c s n small e = absurd (word_uncut c.cut.result.1 c.args.text.now c.cut.result.0.now (section_word s) (decimal n) c.in_default.is c.cut.ensures.whole c.cut.ensures.clean e)

pub returns-in_default-section_of-clause-finds : goal.returns-in_default-section_of-clause-finds
returns-in_default-section_of-clause-finds c s n small e =
    let parts = word_cut c.cut.result.1 c.in-Some.last c.args.text.now c.cut.result.0.now (section_word s) (decimal n) c.in-Some.is c.cut.ensures.whole c.cut.ensures.clean (section_lacks s) e in
    absurd (none-some s (sym c.in_default-section_of.is ∙ c.section_of.ensures s parts.0))

pub returns-in-Ok-clause-finds : goal.returns-in-Ok-clause-finds
returns-in-Ok-clause-finds c s n small e =
    let parts = word_cut c.cut.result.1 c.in-Some.last c.args.text.now c.cut.result.0.now (section_word s) (decimal n) c.in-Some.is c.cut.ensures.whole c.cut.ensures.clean (section_lacks s) e in
    ap₂ (λ a b. (a, b)) (same_Some c.in-Some-section_of.section s (sym c.in-Some-section_of.is ∙ c.section_of.ensures s parts.0)) (c.in-Ok.ensures.finds n small parts.1)

pub returns-in-Err-clause-finds : goal.returns-in-Err-clause-finds
returns-in-Err-clause-finds c s n small e =
    let parts = word_cut c.cut.result.1 c.in-Some.last c.args.text.now c.cut.result.0.now (section_word s) (decimal n) c.in-Some.is c.cut.ensures.whole c.cut.ensures.clean (section_lacks s) e in
    c.in-Err.ensures.finds n small parts.1
