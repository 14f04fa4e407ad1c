use Rattle.cm_laws.specs.Story.{world_of}
use Rattle.cm_audit.proofs.lemmas.Judged.{enabled_by}
use Rattle.cm_audit.proofs.judging.is_enabled.Goals as goal

pub returns : goal.returns
returns c =
    enabled_by (world_of c.args.realm.now) c.args.caller c.args.event.now c.in_ok-brings_valid.field-0 c.enabled.result c.if-not-branch.false c.in_ok-brings_valid.ensures c.enabled.ensures
