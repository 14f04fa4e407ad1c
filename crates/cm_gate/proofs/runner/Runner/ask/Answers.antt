use Rattle.std.proofs.Common.{rules}
use Rattle.cm_gate.proofs.lemmas.Asking.{at_err, not_heard, not_written}
use Rattle.cm_gate.proofs.runner.Runner.ask.Goals as goal

pub returns-in_err-send-clause-unanswered : goal.returns-in_err-send-clause-unanswered
returns-in_err-send-clause-unanswered g c = at_err _ _ (not_written _ _ _ _ _ _ _ _ _ _ _ _ _ _
    c.in_ok-connection.ensures.connected (search rules) c.in_err-send.ensures.unsent (search rules))

pub returns-in_err-answer-clause-unanswered : goal.returns-in_err-answer-clause-unanswered
returns-in_err-answer-clause-unanswered g c = at_err _ _ (not_heard _ _ _ _ _ _ _ _ _ _ _ _ _ _ _
    c.in_ok-connection.ensures.connected (search rules) c.in_ok-send.ensures.wrote (search rules)
    c.in_err-answer.ensures.unheard)
