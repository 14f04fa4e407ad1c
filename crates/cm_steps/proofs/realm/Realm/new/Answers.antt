use Rattle.std.proofs.Common.{refl}
use Rattle.cm_steps.proofs.lemmas.steps.Starting.{kept_new}
use Rattle.cm_steps.proofs.realm.Realm.new.Goals as goal

pub invariant_of-result : goal.invariant_of-result
invariant_of-result c =
    kept_new _ _ c.in_ok-frame.ensures c.in_ok-table.ensures c.new-3.ensures.items refl c.new-4.ensures.items c.new-5.ensures c.in_ok-keeper.ensures c.new-6.ensures c.new-7.ensures
