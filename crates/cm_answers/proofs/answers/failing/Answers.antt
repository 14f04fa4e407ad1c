use Rattle.std.proofs.Common.{Some, sym, ap, ◌∙◌}
use Rattle.cm_world.specs.declared.action.ActKind.{ActKind}
use Rattle.cm_answers.proofs.lemmas.Failures.{cannot, cannot_start, fails_so}
use Rattle.cm_answers.proofs.answers.failing.Goals as goal

pub returns-in-Resolve : goal.returns-in-Resolve
returns-in-Resolve c =
    let is = c.in_default in
    sym (fails_so c.args.kind c.args.action c.args.outcome is.not-Resolved is.not-Started is.not-Stopped is.not-Killed is.not-NoMemory
    ∙ ap (λ (k : ActKind). Some (cannot k c.args.action c.args.outcome)) c.in-Resolve.is)

pub returns-in_default-kind : goal.returns-in_default-kind
returns-in_default-kind c =
    let is = c.in_default in
    sym (fails_so c.args.kind c.args.action c.args.outcome is.not-Resolved is.not-Started is.not-Stopped is.not-Killed is.not-NoMemory
    ∙ ap Some (cannot_start c.args.kind c.args.action c.args.outcome c.in_default-kind.not-Resolve))
