use Rattle.cm_cache.proofs.lemmas.histories.Dooming.{others_doom_none, marks_doom, exits_doom, ends_doom}
use Rattle.cm_cache.proofs.laws.entries_that_doom.Goals as goal

pub returns : goal.returns
returns c = record { others = others_doom_none; marks = marks_doom; exits = exits_doom; ends = ends_doom }
