use Rattle.std.proofs.Common.{ℕ, subst, sym, vec_capacity}
use Rattle.cm_manager.specs.Desks.{DeskPartsHaveRoom}
use Rattle.cm_session.specs.Links.{view_of}
use Rattle.cm_session.proofs.lemmas.ends.Coming.{closing_ready, comes, comes_not}
use Rattle.cm_session.specs.PoolParts.{DoorPartsHaveRoom}
use Rattle.cm_session.proofs.lemmas.ends.Ending.{have_passes, made_of, ready_all, sixteen_left}
use Rattle.cm_session.proofs.serving.serve_sessions.Goals as goal

pub returns-in_default : goal.returns-in_default
returns-in_default g c =
    let it = comes_not g.G.Gates.log g.G.Gates.faults (view_of g.D.Link.Source g.D.Link.Sink) g.D.Door.counts g.D.Door.place c.args.manager.now.manifests c.args.manager.now.turn c.args.sessions c.args.workers c.args.passes c.args.gates c.args.door c.unserved.result c.requires.passes c.requires.gates c.unserved.ensures in
    record { served = it.served; passes = it.passes_are; gates = it.gates_are; kept = it.kept; ended = it.ended; links = it.links; place = it.place; few = it.few; done = it.done; fault = it.fault; sound = it.sound }

-- the door that comes back is the one that was given
pub returns-in-Err : goal.returns-in-Err
returns-in-Err g c =
    let it = comes_not g.G.Gates.log g.G.Gates.faults (view_of g.D.Link.Source g.D.Link.Sink) g.D.Door.counts g.D.Door.place c.args.manager.now.manifests c.args.manager.now.turn c.args.sessions c.args.workers c.args.passes c.args.gates c.args.door c.unserved-in-Err.result c.requires.passes c.requires.gates (rw c.in-Err.ensures.err at c.unserved-in-Err.ensures) in
    record { served = it.served; passes = it.passes_are; gates = it.gates_are; kept = it.kept; ended = it.ended; links = it.links; place = it.place; few = it.few; done = it.done; fault = it.fault; sound = it.sound }

pub run_all-pool-requires-clause-ready : goal.run_all-pool-requires-clause-ready
run_all-pool-requires-clause-ready g c κs within = ready_all c.args.manager.now.turn c.in-Ok-open_door.opened.0 _ c.args.workers c.args.passes c.in-Ok-open_door.opened.1 c.args.gates c.in-Ok.room.links.items c.make_desks-pool.result.items c.requires.passes c.in-Ok-open_door.ensures.new c.in-Ok.ensures.links (made_of _ _ _ _ _ _ c.make_desks-pool.ensures c.make_works-works.ensures.at_door c.make_works-works.ensures.links) c.make_desks-pool.ensures.well

pub take_apart-parts-requires : goal.take_apart-parts-requires
take_apart-parts-requires g c =
    let worked = c.run_all-pool.ensures.worked in
    let sixteen = sym (sixteen_left g.G.Gates.log g.G.Gates.faults _ _ _ c.args.manager.now.turn c.args.passes _ _ c.requires.passes c.make_desks-pool.ensures.passes_are worked) in
    record {
      passes = have_passes g.G.Gates.log g.G.Gates.faults _ _ _ _ _ worked;
      empty = c.in-Ok.ensures.pool.no_parts;
      room = subst (λ (n : ℕ). DeskPartsHaveRoom n c.in-Ok.room.pool.parts) sixteen c.in-Ok.ensures.pool.parts;
      door = subst (λ (n : ℕ). DoorPartsHaveRoom n c.in-Ok.room.parts) sixteen c.in-Ok.ensures.parts;
    }

pub hand_back-requires : goal.hand_back-requires
hand_back-requires g c =
    let ready = closing_ready g.G.Gates.log g.G.Gates.faults (view_of g.D.Link.Source g.D.Link.Sink) g.D.Door.counts g.D.Door.place c.args.manager.now.manifests c.args.manager.now.turn c.args.sessions c.args.workers c.args.passes c.args.gates c.args.door
    c.in-Ok-open_door.opened.0 c.in-Ok-open_door.opened.1 c.in-Ok.room.links.items c.make_desks-pool.result.items c.run_all-pool.result.items c.take_apart-parts.result (vec_capacity c.in-Ok.room.back)
    c.requires.passes c.in-Ok-open_door.ensures.new (made_of _ _ _ _ _ _ c.make_desks-pool.ensures c.make_works-works.ensures.at_door c.make_works-works.ensures.links) c.run_all-pool.ensures.worked c.take_apart-parts.ensures c.in-Ok-open_door.ensures.count c.in-Ok.ensures.back in
    record { all = ready.0; counts = ready.1; none = c.in-Ok.ensures.no_links }

pub returns : goal.returns
returns g c =
    let back = c.hand_back.ensures in
    let it = comes g.G.Gates.log g.G.Gates.faults (view_of g.D.Link.Source g.D.Link.Sink) g.D.Door.counts g.D.Door.place c.args.manager.now.manifests c.args.manager.now.turn c.args.sessions c.args.workers c.args.passes c.args.gates c.args.door c.hand_back.result
    c.in-Ok-open_door.opened.0 c.in-Ok-open_door.opened.1 c.in-Ok.room.links.items c.make_desks-pool.result.items c.run_all-pool.result.items c.take_apart-parts.result
    c.requires.passes c.requires.gates c.requires.workers.0 c.in-Ok-open_door.ensures.new (made_of _ _ _ _ _ _ c.make_desks-pool.ensures c.make_works-works.ensures.at_door c.make_works-works.ensures.links) c.run_all-pool.ensures.worked c.take_apart-parts.ensures back.closed back.passes back.gates back.links in
    record { served = it.served; passes = it.passes_are; gates = it.gates_are; kept = it.kept; ended = it.ended; links = it.links; place = it.place; few = it.few; done = it.done; fault = it.fault; sound = it.sound }
