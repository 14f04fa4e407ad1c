use Rattle.cm_laws.proofs.lemmas.clients.First.{clients_stop_first}
use Rattle.cm_laws.proofs.lemmas.sound.Healthy.{trees_stay_sound}
use Rattle.cm_laws.proofs.clients_stop_first.Goals as goal

pub returns : goal.returns
returns c = record { first = clients_stop_first trees_stay_sound }
