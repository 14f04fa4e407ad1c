use Rattle.std.proofs.Common.{Ok, codes, map, refl}
use Rattle.cm_plain.specs.JsonTree.{view}
use Rattle.cm_names.specs.declared.dependency.Dependency.TheVariants.{Strong}
use Rattle.cm_read.specs.Fields.{subdir_at}
use Rattle.cm_read.specs.Words.{given_availability_at, source_unknown_at, expose_from_at, expose_to_at}
use Rattle.cm_read.specs.Items.{as_at, given_rights_at, give_row, exposed_at}
use Rattle.cm_read.specs.Parts.{asked_with, asked_at, terms_by}
use Rattle.cm_read.proofs.lemmas.ByTwos.{fails_then, reads_then, two_and_asked}
use Rattle.cm_read.proofs.gives.exposed.Goals as goal

pub returns-in_err-read : goal.returns-in_err-read
unfolding exposed_at asked_at
returns-in_err-read c =
    let kind = c.args.kind in
    let children = c.args.children.now in
    let at = c.args.at in
    let names = c.args.names.now in
    let d = view c.args.item.now in
    fails_then c.in_err-read.field-0.0 c.from_residual.result _ _
    (exposed_at kind children at names d) c.from_residual.ensures.1
    (two_and_asked (expose_from_at at d) (expose_to_at at d) (as_at at names d) (given_rights_at at d)
    (subdir_at at (codes "subdir") d) (Ok Strong)
    (given_availability_at at d) (source_unknown_at at d) asked_with
    (λ from to asked.
    Ok (map (give_row (terms_by kind children from asked)) names)))
    (c.in_err-read.ensures _ _ (c.both.ensures _ _ c.expose_from_of.ensures c.expose_to_of.ensures)
    (c.asked_of.ensures _ refl))

pub returns : goal.returns
unfolding exposed_at asked_at
returns c =
    let kind = c.args.kind in
    let children = c.args.children.now in
    let at = c.args.at in
    let names = c.args.names.now in
    let d = view c.args.item.now in
    rw (c.in_ok-expose_by.ensures, c.terms_by-terms.ensures)
    (reads_then c.in_ok-read.read _ _ (exposed_at kind children at names d)
    (two_and_asked (expose_from_at at d) (expose_to_at at d) (as_at at names d) (given_rights_at at d)
    (subdir_at at (codes "subdir") d) (Ok Strong)
    (given_availability_at at d) (source_unknown_at at d) asked_with
    (λ from to asked.
    Ok (map (give_row (terms_by kind children from asked)) names)))
    (c.in_ok-read.ensures _ _ (c.both.ensures _ _ c.expose_from_of.ensures c.expose_to_of.ensures)
    (c.asked_of.ensures _ refl)))
