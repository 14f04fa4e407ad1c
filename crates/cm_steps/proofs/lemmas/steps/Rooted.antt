-- The root of a realm lives.
use Rattle.std.proofs.Common.{Bool, true, false, true≢false, not, ◌||◌, refl, sym, subst, IsTrue}
use Rattle.cm_world.specs.World.{World}
use Rattle.cm_world.specs.Rows.{is_live}
use Rattle.cm_laws.specs.Story.{world_of, IsLegal}
use Rattle.cm_laws.proofs.lemmas.destroyed.Rooted.{root_stays}
use Rattle.cm_steps.specs.Inside.{IsRealmInvariant}
use Rattle.cm_steps.specs.declared.realm.Realm.TheInside.{Inside}

-- What is neither missing nor doomed lives.
lives_by : (lives doomed : Bool) → IsTrue (not (not lives || doomed)) → IsTrue lives
lives_by true doomed here = refl
lives_by false doomed here = absurd (true≢false (sym here))

-- every legal history leaves it where it is
pub root_in : (a : Inside) → IsRealmInvariant a → IsTrue (is_live a.table.rows 0)
unfolding world_of IsLegal
root_in a kept =
    subst (λ (w : World). IsTrue (is_live w.rows 0)) kept.stands.world
    (lives_by _ _ (root_stays a.frame a.records.book.entries kept.stands.legal))
