use Rattle.std.proofs.Common.{◌+◌, take, None, Some, sym, subst}
use Rattle.std.proofs.lemmas.List.{take_rest}
use Rattle.memchr.specs.Find.{FindsLastNeedle}
use Rattle.cm_reply.specs.LinesInside.{IsCutAtLast}
use Rattle.cm_reply.proofs.lemmas.back.Arrows.{cut_last, no_arrow}
use Rattle.cm_reply.proofs.entries.cut_at_arrow.Goals as goal

pub returns-in_default : goal.returns-in_default
returns-in_default c = λ prefix rest e.
    no_arrow c.args.line.now prefix rest (subst (λ n. FindsLastNeedle c.args.line.now n None) c.as_bytes.ensures.value c.in_default.ensures) e

pub returns : goal.returns
returns c =
    let line = c.args.line.now in
    let place = c.in-Some.place in
    subst (IsCutAtLast line (take place line)) (sym (take_rest line (place + 4)))
    (cut_last line place (subst (λ n. FindsLastNeedle line n (Some place)) c.as_bytes.ensures.value c.in-Some.ensures))
