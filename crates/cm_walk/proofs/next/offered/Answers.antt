use Rattle.std.proofs.Common.{◌∙◌, ap, sym}
use Rattle.std.specs.Prelude.{option_and_then}
use Rattle.cm_world.specs.Rows.{decl_of}
use Rattle.cm_walk.specs.Walking.{as_station}
use Rattle.cm_walk.proofs.lemmas.routes.Sources.{offered_to, not_offered}
use Rattle.cm_walk.proofs.next.offered.Goals as goal

pub returns-in_ok-station-in-Some-offered_by : goal.returns-in_ok-station-in-Some-offered_by
returns-in_ok-station-in-Some-offered_by g c = λ r lives above.
    let rows = g.V.View.rows c.args.view.now in
    let declared = ap (option_and_then (decl_of rows)) above ∙ sym c.in-Some.ensures.decl in
    offered_to rows c.args.parent r c.args.here.now.kind c.args.name.now c.in-Some.decl.now c.in-Some-offered_by.give.now (as_station c.in_ok-station-in-Some-offered_by.station) c.in-Some.ensures.decl (c.in-Some-offered_by.ensures r lives declared) c.in_ok-station-in-Some-offered_by.ensures

pub returns-in_ok-hop-in-None : goal.returns-in_ok-hop-in-None
returns-in_ok-hop-in-None g c = λ r lives above.
    let rows = g.V.View.rows c.args.view.now in
    let declared = ap (option_and_then (decl_of rows)) above ∙ sym c.in-Some.ensures.decl in
    not_offered rows c.args.parent r c.args.here.now.kind c.args.name.now c.in-Some.decl.now c.in_ok-hop-in-None.hop c.in-Some.ensures.decl (c.in-None.ensures r lives declared) c.in_ok-hop-in-None.ensures
