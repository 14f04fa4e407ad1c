use Rattle.std.proofs.Common.{◌≡◌, Some, option_map, subst, arith}
use Rattle.cm_world.specs.Rows.{decl_of}
use Rattle.cm_env.specs.declared.giver.GivenEnvironment.TheVariants.{Realm, In}
use Rattle.cm_env.specs.Scope.{environment_of, environment_given}
use Rattle.cm_env.specs.Giving.{told_given}
use Rattle.cm_env.specs.Reach.{IsReachOf}
use Rattle.cm_env.proofs.lemmas.Steps.{stands, parent_lower}
use Rattle.cm_env.proofs.lemmas.Reaching.{given}
use Rattle.cm_env.proofs.reach.reach_below.Goals as goal

pub returns-in-Realm : goal.returns-in-Realm
returns-in-Realm g c =
    let rows = g.V.View.rows c.args.view.now in
    let next = g.V.View.next_inc c.args.view.now in
    let p = c.in-Some.place.parent in
    let name = c.in-Some.place.name.now in
    let d = c.args.giver.now in
    let same : c.args.parent.inc ≡ p = omega (arith, c.if-place-parent.false) in
    given rows next c.args.inc p name d c.args.parent.reach Realm c.place.ensures.orderly
    (stands rows c.args.inc p name c.in-Some.ensures.parent c.in-Some.ensures.name)
    (subst (λ i. Some d ≡ decl_of rows i) same c.requires.giver)
    (parent_lower rows next c.args.inc p c.place.ensures.orderly c.in-Some.ensures.parent)
    (subst (λ i. IsReachOf rows i c.args.parent.reach) same c.requires.reaches)
    (subst (λ n. told_given Realm ≡ option_map (environment_of d) (environment_given d n)) c.get.ensures c.in-Realm.ensures)

pub returns-in-In : goal.returns-in-In
returns-in-In g c =
    let rows = g.V.View.rows c.args.view.now in
    let next = g.V.View.next_inc c.args.view.now in
    let p = c.in-Some.place.parent in
    let name = c.in-Some.place.name.now in
    let d = c.args.giver.now in
    let same : c.args.parent.inc ≡ p = omega (arith, c.if-place-parent.false) in
    given rows next c.args.inc p name d c.args.parent.reach (In c.in-In.environment) c.place.ensures.orderly
    (stands rows c.args.inc p name c.in-Some.ensures.parent c.in-Some.ensures.name)
    (subst (λ i. Some d ≡ decl_of rows i) same c.requires.giver)
    (parent_lower rows next c.args.inc p c.place.ensures.orderly c.in-Some.ensures.parent)
    (subst (λ i. IsReachOf rows i c.args.parent.reach) same c.requires.reaches)
    (subst (λ n. told_given (In c.in-In.environment) ≡ option_map (environment_of d) (environment_given d n)) c.get.ensures c.in-In.ensures)
    c.args.kept
