use Rattle.std.proofs.Common.{refl}
use Rattle.cm_world.specs.After.{after}
use Rattle.cm_world.proofs.laws.answers_created.Goals as goal

pub returns : goal.returns
unfolding after
returns c = record {
  offers = refl;
  exists = refl;
  listed = refl;
  unlisted = refl;
  unfound = refl;
  gone = refl;
  again = refl;
  closing = refl;
  shut = refl;
}
