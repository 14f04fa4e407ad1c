use Rattle.std.proofs.Common.{subst, sym}
use Rattle.cm_audit.specs.Reading.{TellsRow}
use Rattle.cm_audit.proofs.lemmas.Judged.{tells_none}
use Rattle.cm_audit.proofs.picks.judge_pick.Goals as goal

pub judge_own_pick-requires : goal.judge_own_pick-requires
judge_own_pick-requires c = tells_none c.args.realm.now c.requires c.args.target c.args.given.now c.in-None.ensures
