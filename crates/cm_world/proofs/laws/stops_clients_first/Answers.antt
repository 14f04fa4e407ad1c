use Rattle.cm_world.proofs.lemmas.examples.Shutdowns.{mid_waits, client_may_stop}
use Rattle.cm_world.proofs.laws.stops_clients_first.Goals as goal

pub returns : goal.returns
returns c = record { provider = mid_waits; client = client_may_stop }
