use Rattle.std.proofs.Common.{Ok}
use Rattle.cm_storage.proofs.lemmas.Knowing.{known_at, known_fault}
use Rattle.cm_storage.proofs.lemmas.Ways.{same_fault}
use Rattle.cm_storage.proofs.handing.known_in.Goals as goal

pub returns-in-Ok : goal.returns-in-Ok
returns-in-Ok g c =
    known_at (g.V.View.rows c.args.view.now) (g.V.View.builtins c.args.view.now) c.args.inc c.args.owner c.args.storage.now c.in-Ok.place c.known_at.result c.requires (c.in-Ok.ensures (λ e. cc)) c.known_at.ensures

pub returns-in-Err : goal.returns-in-Err
returns-in-Err g c =
    known_fault (g.V.View.rows c.args.view.now) (g.V.View.builtins c.args.view.now) c.args.inc (Ok (c.args.owner, c.args.storage.now)) c.in-Err.fault c.faulty.result (λ fine. c.in-Err.ensures (λ e. fine (same_fault _ _ e))) c.faulty.ensures.known c.faulty.ensures.memory
