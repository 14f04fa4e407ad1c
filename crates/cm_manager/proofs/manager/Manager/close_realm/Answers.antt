use Rattle.std.proofs.Common.{refl}
use Rattle.cm_manager.proofs.lemmas.left.Closings.{closes_by, known_frames}
use Rattle.cm_manager.proofs.lemmas.left.HavingEnds.{history_has_ends}
use Rattle.cm_manager.proofs.manager.Manager.close_realm.Goals as goal

pub returns : goal.returns
returns c =
    let known = c.close-realm.ensures.known in
    let closes = closes_by _ _ _ refl c.check_history.ensures known c.close-realm.ensures.callers in
    record { closes = closes; ended = history_has_ends _ _ closes c.requires.ended; frames = known_frames _ _ known }
