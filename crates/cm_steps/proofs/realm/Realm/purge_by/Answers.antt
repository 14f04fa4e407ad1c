use Rattle.std.proofs.Common.{◌≡◌, List, cond, false, map, sym, ap, subst}
use Rattle.cm_world.specs.declared.row.Row.{Row}
use Rattle.cm_world.specs.declared.reply.Reply.TheVariants as reply
use Rattle.cm_world.specs.Rows.{is_live, subtree}
use Rattle.cm_world.specs.Marks.{lost_of}
use Rattle.cm_laws.specs.Story.{world_of}
use Rattle.cm_steps.specs.Answers.{AnswersPurge}
use Rattle.cm_steps.proofs.realm.Realm.purge_by.Goals as goal

pub tell-requires-clause-step : goal.tell-requires-clause-step
tell-requires-clause-step c =
    let rows : List Row = (world_of c.args.self.now).rows in
    let dead : is_live rows c.args.inc ≡ false = subst (AnswersPurge rows c.args.inc) c.in-Before.is c.requires.answer in
    record {
      enabled = c.requires.purgeable;
      allowed = sym (ap (λ b. cond b (reply.Purged (map (lost_of rows) (subtree rows c.args.inc))) reply.PurgedBefore) dead);
    }

pub remove-requires-clause-lives : goal.remove-requires-clause-lives
remove-requires-clause-lives c =
    (subst (AnswersPurge (world_of c.args.self.now).rows c.args.inc) c.in-Removes.is c.requires.answer).0

pub remove-requires-clause-lost : goal.remove-requires-clause-lost
remove-requires-clause-lost c =
    (subst (AnswersPurge (world_of c.args.self.now).rows c.args.inc) c.in-Removes.is c.requires.answer).1
