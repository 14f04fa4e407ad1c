-- Every legal history keeps all laws.
use Rattle.cm_trees.proofs.trees.Ending.{no_dead_end}
use Rattle.cm_laws.specs.HistoriesInside.{HistoriesKeepLaws}
use Rattle.cm_laws.proofs.lemmas.lasting.Stable.{routes_are_stable}
use Rattle.cm_laws.proofs.lemmas.actions.Outcomes.{outcomes_are_one}
use Rattle.cm_laws.proofs.lemmas.sound.Healthy.{trees_stay_sound}
use Rattle.cm_laws.proofs.lemmas.clients.First.{clients_stop_first}
use Rattle.cm_laws.proofs.lemmas.lasting.MarksLast.{marks_hold, done_stays_shut, goes_on}
use Rattle.cm_laws.proofs.lemmas.destroyed.Gone.{doomed_are_destroyed, destroyed_stay_gone, leaves_gone}

-- Every legal history keeps all laws.
pub histories_keep_laws : HistoriesKeepLaws
histories_keep_laws f es legal = record {
  routes = routes_are_stable f es legal;
  outcomes = outcomes_are_one f es legal;
  clients = clients_stop_first trees_stay_sound f es legal;
  marks = marks_hold f es legal;
  done = done_stays_shut f es legal;
  goes_on = goes_on (λ f es i r legal. no_dead_end _ _ i r (trees_stay_sound f es legal)) f es legal;
  doomed = λ i it. doomed_are_destroyed f es i legal it;
  destroyed = destroyed_stay_gone f es legal;
  left = leaves_gone f es legal;
  sound = trees_stay_sound f es legal;
}
