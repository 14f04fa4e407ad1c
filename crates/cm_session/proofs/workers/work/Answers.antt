use Rattle.std.proofs.Common.{◌∙◌, sym, refl}
use Rattle.cm_session.proofs.lemmas.work.Working.{ready_lock, ready_new, ready_pass, ready_room, worked_idle, worked_served}
use Rattle.cm_session.proofs.workers.work.Goals as goal

pub returns-then-is_idle : goal.returns-then-is_idle
returns-then-is_idle g c = record { worked = worked_idle g.G.Gates.log g.G.Gates.faults _ c.args.manager.now.manifests c.args.manager.now.turn c.args.door.now c.args.workers c.args.worker.now _ c.requires.ready c.in-Some.at_door (sym c.take.ensures.value ∙ c.in-Some.is) (c.is_idle.ensures.idle c.if-is_idle.true) refl refl refl refl refl }

pub serve_own-pass-requires-clause-lock : goal.serve_own-pass-requires-clause-lock
serve_own-pass-requires-clause-lock g c κs within = ready_pass c.args.manager.now.turn c.args.door.now c.args.workers c.args.worker.now c.requires.ready c.in-Some-take.pass (sym c.take-2.ensures.value ∙ c.in-Some-take.is)

pub serve_own-pass-requires-clause-door : goal.serve_own-pass-requires-clause-door
serve_own-pass-requires-clause-door g c κs within = ready_lock c.args.manager.now.turn c.args.door.now c.args.workers c.args.worker.now c.requires.ready c.in-Some.at_door (sym c.take.ensures.value ∙ c.in-Some.is)

pub serve_own-pass-requires-clause-new : goal.serve_own-pass-requires-clause-new
serve_own-pass-requires-clause-new g c κs within = ready_new c.args.manager.now.turn c.args.door.now c.args.workers c.args.worker.now c.requires.ready c.in-Some.at_door (sym c.take.ensures.value ∙ c.in-Some.is)

pub serve_own-pass-requires-clause-room : goal.serve_own-pass-requires-clause-room
serve_own-pass-requires-clause-room g c κs within = ready_room c.args.manager.now.turn c.args.door.now c.args.workers c.args.worker.now c.requires.ready c.in-Some.at_door (sym c.take.ensures.value ∙ c.in-Some.is) (c.is_idle.ensures.serves c.if-is_idle.false)

pub returns : goal.returns
returns g c = record { worked = worked_served g.G.Gates.log g.G.Gates.faults _ c.args.manager.now.manifests c.args.manager.now.turn c.args.door.now c.args.workers c.args.worker.now _ c.requires.ready c.in-Some-take.pass c.serve_own-pass.result.0 c.in-Some.at_door c.serve_own-pass.result.1 c.serve_own-pass.result.2 (sym c.take-2.ensures.value ∙ c.in-Some-take.is) (sym c.take.ensures.value ∙ c.in-Some.is) (c.is_idle.ensures.serves c.if-is_idle.false) refl refl refl c.serve_own-pass.ensures.served }
