use Rattle.std.proofs.Common.{subst}
use Rattle.cm_world.specs.World.{World}
use Rattle.cm_laws.specs.Story.{world_of}
use Rattle.cm_steps.specs.Answers.{CreatesBy}
use Rattle.cm_steps.proofs.realm.Realm.create_by.Goals as goal

pub tell-requires-clause-quiet : goal.tell-requires-clause-quiet
tell-requires-clause-quiet c =
    let w : World = world_of c.args.self.now in
    (subst (CreatesBy w.frame.limits.rows w.rows w.next_inc c.args.parent c.args.child.coll c.args.child.name c.args.child.gives) c.in-Quiet.is c.requires).1 c.args.parent c.args.child

pub tell-requires-clause-step : goal.tell-requires-clause-step
tell-requires-clause-step c =
    let w : World = world_of c.args.self.now in
    record {
      enabled = tt;
      allowed = (subst (CreatesBy w.frame.limits.rows w.rows w.next_inc c.args.parent c.args.child.coll c.args.child.name c.args.child.gives) c.in-Quiet.is c.requires).0;
    }

pub add_child-requires-clause-creates : goal.add_child-requires-clause-creates
add_child-requires-clause-creates c =
    let w : World = world_of c.args.self.now in
    (subst (CreatesBy w.frame.limits.rows w.rows w.next_inc c.args.parent c.args.child.coll c.args.child.name c.args.child.gives) c.in-Creates.is c.requires).0

pub add_child-requires-clause-takes : goal.add_child-requires-clause-takes
add_child-requires-clause-takes c =
    let w : World = world_of c.args.self.now in
    (subst (CreatesBy w.frame.limits.rows w.rows w.next_inc c.args.parent c.args.child.coll c.args.child.name c.args.child.gives) c.in-Creates.is c.requires).1
