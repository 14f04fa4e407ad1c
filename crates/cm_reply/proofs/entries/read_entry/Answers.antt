use Rattle.std.proofs.Common.{◌∙◌}
use Rattle.cm_reply.proofs.lemmas.back.Arrows.{entry_is, IsParted, parted, no_entry, fault_is, memory_is}
use Rattle.cm_reply.proofs.lemmas.back.Told.{line_found}
use Rattle.cm_reply.proofs.entries.read_entry.Goals as goal

pub returns-in_default-text_of-clause-fault : goal.returns-in_default-text_of-clause-fault
returns-in_default-text_of-clause-fault c = λ sure some.
    let it : IsParted c.in-Some.prefix.now c.in-Some.rest.now = parted c.args.line.now c.in-Some.prefix.now c.in-Some.rest.now c.in-Some.ensures some in
    c.in_default-text_of.ensures it.utf8

pub returns-in-Err-clause-fault : goal.returns-in-Err-clause-fault
returns-in-Err-clause-fault c = λ sure some.
    let it : IsParted c.in-Some.prefix.now c.in-Some.rest.now = parted c.args.line.now c.in-Some.prefix.now c.in-Some.rest.now c.in-Some.ensures some in
    c.in-Err.ensures (fault_is c.in-Err.fault sure) it.asked it.askable it.prefix_is

pub returns-in_default-text_of-clause-finds : goal.returns-in_default-text_of-clause-finds
returns-in_default-text_of-clause-finds c = λ n k e r line.
    let it : IsParted c.in-Some.prefix.now c.in-Some.rest.now = parted c.args.line.now c.in-Some.prefix.now c.in-Some.rest.now c.in-Some.ensures (n, k, e, r, line) in
    absurd (c.in_default-text_of.ensures it.utf8)

pub returns-in-Ok-clause-finds : goal.returns-in-Ok-clause-finds
returns-in-Ok-clause-finds c =
    line_found c.args.line.now c.in-Some.prefix.now c.in-Some.rest.now c.in_ok-reply.reply c.in-Ok.field-0 c.in-Some.ensures c.in-Ok.ensures.0 c.in-Ok.ensures.1 (c.in_ok-reply.ensures ∙ c.in-Some-text_of.ensures)

pub returns-in-Err-clause-finds : goal.returns-in-Err-clause-finds
returns-in-Err-clause-finds c = λ n k e r line.
    let it : IsParted c.in-Some.prefix.now c.in-Some.rest.now = parted c.args.line.now c.in-Some.prefix.now c.in-Some.rest.now c.in-Some.ensures (n, k, e, r, line) in
    memory_is c.in-Err.fault (λ none. c.in-Err.ensures none it.asked it.askable it.prefix_is)
