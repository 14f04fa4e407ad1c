use Rattle.std.proofs.Common.{◌≡◌, Some}
use Rattle.std.proofs.lemmas.Result.{IfOk-weaker}
use Rattle.cm_world.specs.declared.row.Row.{Row}
use Rattle.cm_world.specs.Rows.{row_of}
use Rattle.cm_steps.specs.Reporting.{kid_as, kid_in}
use Rattle.cm_steps.proofs.lemmas.read.Reporting.{kid_found}
use Rattle.cm_steps.proofs.replies.listing.kid.Goals as goal

pub returns-in-Some-name-clause-kid : goal.returns-in-Some-name-clause-kid
returns-in-Some-name-clause-kid g c =
    let rows = g.V.View.rows c.args.view.now in
    IfOk-weaker c.kid_as.result (λ found. found ≡ kid_as c.args.coll.now c.args.inc c.in-Some.facts.doomed c.in-Some-name.name.now) (λ found. (r : Row) → row_of rows c.args.inc ≡ Some r → found ≡ kid_in c.args.coll.now r)
    (λ found is r lives. kid_found rows c.args.inc c.args.coll.now c.in-Some.facts c.in-Some-name.name.now found r c.in-Some.ensures.facts c.in-Some-name.ensures is lives) c.kid_as.ensures
