use Rattle.std.proofs.Common.{◌≡◌, Some, refl, sym, ◌∙◌, ap}
use Rattle.std.proofs.lemmas.Result.{IfOk-weaker}
use Rattle.cm_world.specs.declared.route.Why.TheVariants.{NoInstance}
use Rattle.cm_world.specs.declared.route.Walked.TheVariants as walked
use Rattle.cm_world.specs.Route as spec
use Rattle.cm_walk.specs.Walking.{as_station, as_next}
use Rattle.cm_walk.proofs.lemmas.routes.Along.{begins_way, goes_way, falls_way, refused_way, ends_way}
use Rattle.cm_walk.proofs.walking.follow.Goals as goal

pub walk-init : goal.walk-init
walk-init g c =
    begins_way (g.V.View.rows c.args.view.now) (g.V.View.builtins c.args.view.now) c.in_ok-trail.trail c.args.first (c.in_ok-trail.ensures (as_station c.args.first) refl) c.requires.down c.requires.placed

pub walk-smaller : goal.walk-smaller
walk-smaller g c =
    falls_way (g.V.View.rows c.args.view.now) (g.V.View.next_inc c.args.view.now) (g.V.View.builtins c.args.view.now) (as_station c.args.first) c.walk.trail c.walk.here c.walk.invariant c.in-To.station c.in_ok-next.next c.requires.orderly c.in_ok-next.ensures.next c.in-To.is c.in_default.ensures

pub walk-preserved : goal.walk-preserved
walk-preserved g c =
    goes_way (g.V.View.rows c.args.view.now) (g.V.View.next_inc c.args.view.now) (g.V.View.builtins c.args.view.now) (as_station c.args.first) c.walk.trail c.walk.here c.walk.invariant c.in-To.station c.in_ok-next.next c.push.new.self c.requires.orderly c.in_ok-next.ensures.next c.in-To.is c.in_default.ensures (λ prefix s behind same. c.in_ok-push-in-To.ensures prefix s behind same)

pub returns-in-Some : goal.returns-in-Some
returns-in-Some g c =
    IfOk-weaker c.failed.result (λ made. made ≡ walked.Failed c.into_hop.result c.in-Some.why) (λ v. spec.IsRouteVerdict (g.V.View.rows c.args.view.now) (g.V.View.builtins c.args.view.now) (as_station c.args.first) v)
    (λ v is. refused_way (g.V.View.rows c.args.view.now) (g.V.View.next_inc c.args.view.now) (g.V.View.builtins c.args.view.now) (as_station c.args.first) c.walk.trail c.walk.here c.walk.invariant (as_next c.in_ok-next.next) c.in-Some.why v c.in_ok-next.ensures.next c.in-Some.ensures (is ∙ ap (λ h. walked.Failed h c.in-Some.why) c.into_hop.ensures))
    c.failed.ensures

pub returns-in-Ends : goal.returns-in-Ends
returns-in-Ends g c =
    IfOk-weaker c.arrive.result _ (λ v. spec.IsRouteVerdict (g.V.View.rows c.args.view.now) (g.V.View.builtins c.args.view.now) (as_station c.args.first) v)
    (λ v says. ends_way (g.V.View.rows c.args.view.now) (g.V.View.next_inc c.args.view.now) (g.V.View.builtins c.args.view.now) (as_station c.args.first) c.walk.trail c.walk.here c.walk.invariant (as_next c.in_ok-next.next) v c.in_ok-next.ensures.next c.in_default.ensures
    (says c.walk.invariant.prefix c.walk.invariant.behind (rw c.in-Ends.is at c.in_ok-next.ensures.path) ∙ sym (ap (λ n. spec.said_by c.walk.invariant.prefix (as_station c.walk.here) (as_next n)) c.in-Ends.is)))
    c.arrive.ensures

pub returns-in-Needs : goal.returns-in-Needs
returns-in-Needs g c =
    ends_way (g.V.View.rows c.args.view.now) (g.V.View.next_inc c.args.view.now) (g.V.View.builtins c.args.view.now) (as_station c.args.first) c.walk.trail c.walk.here c.walk.invariant (as_next c.in_ok-next.next) (walked.Need c.in-Needs.inc) c.in_ok-next.ensures.next c.in_default.ensures
    (sym (ap (λ n. spec.said_by c.walk.invariant.prefix (as_station c.walk.here) (as_next n)) c.in-Needs.is))

pub returns-in-FromVoid : goal.returns-in-FromVoid
returns-in-FromVoid g c =
    IfOk-weaker c.voided.result (λ made. made ≡ walked.Void c.into_hop-in-FromVoid.result) (λ v. spec.IsRouteVerdict (g.V.View.rows c.args.view.now) (g.V.View.builtins c.args.view.now) (as_station c.args.first) v)
    (λ v is. ends_way (g.V.View.rows c.args.view.now) (g.V.View.next_inc c.args.view.now) (g.V.View.builtins c.args.view.now) (as_station c.args.first) c.walk.trail c.walk.here c.walk.invariant (as_next c.in_ok-next.next) v c.in_ok-next.ensures.next c.in_default.ensures
    (ap Some (is ∙ ap walked.Void c.into_hop-in-FromVoid.ensures) ∙ sym (ap (λ n. spec.said_by c.walk.invariant.prefix (as_station c.walk.here) (as_next n)) c.in-FromVoid.is)))
    c.voided.ensures

pub returns-in-NoChild : goal.returns-in-NoChild
returns-in-NoChild g c =
    IfOk-weaker c.failed-in-NoChild.result (λ made. made ≡ walked.Failed c.into_hop-in-NoChild.result NoInstance) (λ v. spec.IsRouteVerdict (g.V.View.rows c.args.view.now) (g.V.View.builtins c.args.view.now) (as_station c.args.first) v)
    (λ v is. ends_way (g.V.View.rows c.args.view.now) (g.V.View.next_inc c.args.view.now) (g.V.View.builtins c.args.view.now) (as_station c.args.first) c.walk.trail c.walk.here c.walk.invariant (as_next c.in_ok-next.next) v c.in_ok-next.ensures.next c.in_default.ensures
    (ap Some (is ∙ ap (λ h. walked.Failed h NoInstance) c.into_hop-in-NoChild.ensures) ∙ sym (ap (λ n. spec.said_by c.walk.invariant.prefix (as_station c.walk.here) (as_next n)) c.in-NoChild.is)))
    c.failed-in-NoChild.ensures

pub returns-in-Misses : goal.returns-in-Misses
returns-in-Misses g c =
    IfOk-weaker c.failed-in-Misses.result (λ made. made ≡ walked.Failed c.in-Misses.hop c.in-Misses.why) (λ v. spec.IsRouteVerdict (g.V.View.rows c.args.view.now) (g.V.View.builtins c.args.view.now) (as_station c.args.first) v)
    (λ v is. ends_way (g.V.View.rows c.args.view.now) (g.V.View.next_inc c.args.view.now) (g.V.View.builtins c.args.view.now) (as_station c.args.first) c.walk.trail c.walk.here c.walk.invariant (as_next c.in_ok-next.next) v c.in_ok-next.ensures.next c.in_default.ensures
    (ap Some is ∙ sym (ap (λ n. spec.said_by c.walk.invariant.prefix (as_station c.walk.here) (as_next n)) c.in-Misses.is)))
    c.failed-in-Misses.ensures
