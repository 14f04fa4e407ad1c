-- What a pick picks has its clients shut.
use Rattle.std.proofs.Common.{◌≡◌, ℕ, Some, subst}
use Rattle.cm_world.specs.declared.event.Event.{Event}
use Rattle.cm_world.specs.declared.event.Event.TheVariants.{Pick}
use Rattle.cm_world.specs.declared.reply.Reply.{Reply}
use Rattle.cm_world.specs.declared.reply.Reply.TheVariants as reply
use Rattle.cm_world.specs.World.{World, start}
use Rattle.cm_world.specs.Stopping.{MayStop}
use Rattle.cm_world.specs.Sound.{IsSound}
use Rattle.cm_world.specs.Step.{Allowed}
use Rattle.cm_world.specs.Legal.{replay}
use Rattle.cm_world.proofs.lemmas.trees.Finding.{none_some, some_same}
use Rattle.cm_laws.specs.Clients.{picked_by, HasClientsShut}
use Rattle.cm_laws.specs.ClientsInside.{ClientsStopFirst}
use Rattle.cm_laws.specs.ShutdownsInside.{TreesStaySound}
use Rattle.cm_laws.proofs.lemmas.entries.Entries.{of_each_entry}
use Rattle.cm_laws.proofs.lemmas.clients.Shut.{client_shut}

-- what is picked may stop
picked_stops : (w : World) (caller : ℕ) (e : Event) (r : Reply) (y : ℕ) → Allowed w caller e r → picked_by e r ≡ Some y → MayStop w.rows y
picked_stops w caller (Pick t) (reply.Stopping work) y allowed picks = subst (MayStop w.rows) (some_same work.inc y picks) allowed.may.may_stop
picked_stops w caller (Pick t) (reply.ShutDown i) y allowed picks = subst (MayStop w.rows) (some_same i y picks) allowed.may.may_stop
picked_stops w caller e r y allowed picks = absurd (none_some y picks)

-- In a sound tree, what may stop has its clients shut.
stopping_clients : (w : World) (y : ℕ) → IsSound w.rows w.next_inc → MayStop w.rows y → HasClientsShut w y
stopping_clients w y sound may = record {
  top = may.top;
  outermost = may.outermost;
  shut = λ x client below. client_shut w.rows w.next_inc sound w.frame.builtins x y may client below;
}

-- where trees stay sound, clients stop first
pub clients_stop_first : TreesStaySound → ClientsStopFirst
clients_stop_first stay f es legal =
    of_each_entry (λ prefix e. (y : ℕ) → picked_by e.event e.reply ≡ Some y → HasClientsShut (replay (start f) prefix) y) (start f) es legal
    (λ prefix e before step y picks.
    stopping_clients (replay (start f) prefix) y (stay f prefix before)
    (picked_stops (replay (start f) prefix) e.caller e.event e.reply y step.allowed picks))
