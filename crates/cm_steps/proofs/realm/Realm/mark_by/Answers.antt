use Rattle.std.proofs.Common.{sym, subst}
use Rattle.cm_laws.specs.Story.{world_of}
use Rattle.cm_steps.specs.Answers.{AnswersMark}
use Rattle.cm_steps.proofs.realm.Realm.mark_by.Goals as goal

pub tell-requires-clause-quiet : goal.tell-requires-clause-quiet
tell-requires-clause-quiet c =
    (subst (AnswersMark (world_of c.args.self.now).rows c.args.doom c.args.inc) c.in-Quiet.is c.requires).1

pub tell-requires-clause-step : goal.tell-requires-clause-step
tell-requires-clause-step c = record {
  enabled = tt;
  allowed = sym ((subst (AnswersMark (world_of c.args.self.now).rows c.args.doom c.args.inc) c.in-Quiet.is c.requires).0);
}

pub put_mark-requires : goal.put_mark-requires
put_mark-requires c =
    subst (AnswersMark (world_of c.args.self.now).rows c.args.doom c.args.inc) c.in-Marks.is c.requires
