use Rattle.std.proofs.Common.{rules, ◌≡◌}
use Rattle.cm_reply.specs.Journal.{line}
use Rattle.cm_reply.specs.Answers.{reply_text}
use Rattle.cm_session.proofs.lemmas.spoken.Sessions.{command-lost, command-put}
use Rattle.cm_session.proofs.lines.serve_command.Goals as goal
use Rattle.cm_session.proofs.lines.serve_command.Goals.{in-Ok, in-Err}

pub returns-clause-served : goal.returns-clause-served
returns-clause-served g c = elim c.match-answer_line.branch [
  | in-Ok w ↦
      let text : w.as_bytes.result.now ≡ line (reply_text c.args.command.now c.perform-answer.result) = search rules in
      rw w.link-is (rw w.ended-is (command-put _ _ _ _ _ c.args.command.now c.perform-answer.result _ _ _ w.as_bytes.result.now c.is_out_of_memory-wanting.result
      c.perform-answer.ensures.performs.helps c.is_out_of_memory-wanting.ensures.told text w.put_reply-ended.ensures.wrote w.put_reply-ended.ensures.ordered))
  | in-Err w ↦
      rw w.link-is (rw w.ended-is (command-lost _ _ _ _ _ _ c.perform-answer.result _ _ _ c.perform-answer.ensures.performs.helps w.put_reply-ended-in-Err.ensures.wrote w.put_reply-ended-in-Err.ensures.ordered))
]
