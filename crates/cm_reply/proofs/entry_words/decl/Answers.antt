use Rattle.std.proofs.Common.{sym, subst, IsUtf8, ◌∙◌}
use Rattle.cm_reply.proofs.lemmas.back.Declared.{decl_utf8, decl_one, decl_faults}
use Rattle.cm_reply.proofs.entry_words.decl.Goals as goal

pub returns-in_default-clause-finds : goal.returns-in_default-clause-finds
returns-in_default-clause-finds c d is e = absurd (c.in_default.ensures (subst IsUtf8 (sym e) (decl_utf8 d is)))

pub returns-in_ok-new-in-Ok-clause-finds : goal.returns-in_ok-new-in-Ok-clause-finds
returns-in_ok-new-in-Ok-clause-finds c d is e =
    c.in_ok-new-in-Ok.ensures ∙ decl_one c.in-Some.text.now c.in-Ok.decl d c.in-Ok.ensures.decl is (c.in-Some.ensures ∙ e)

pub returns-in-Err-clause-finds : goal.returns-in-Err-clause-finds
returns-in-Err-clause-finds c d is e =
    decl_faults c.in-Some.text.now c.in-Err.fault c.decl_fault.result d c.in-Err.ensures.decl c.decl_fault.ensures is (c.in-Some.ensures ∙ e)
