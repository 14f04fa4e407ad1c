use Rattle.std.proofs.Common.{Ok, codes, map}
use Rattle.std.specs.List.{flat_map}
use Rattle.cm_plain.specs.JsonTree.{view}
use Rattle.cm_read.specs.Fields.{subdir_at}
use Rattle.cm_read.specs.Words.{dependency_at, given_availability_at, source_unknown_at, offer_from_at}
use Rattle.cm_read.specs.Items.{as_at, given_rights_at, targets_at, give_row, offer_rows, offered_at}
use Rattle.cm_read.specs.Parts.{asked_with, asked_at, terms_by}
use Rattle.cm_read.proofs.lemmas.ByTwos.{fails_then, reads_then, two_and_asked}
use Rattle.cm_read.proofs.gives.offered.Goals as goal

pub returns-in_err-read : goal.returns-in_err-read
unfolding offered_at asked_at
returns-in_err-read c =
    let kind = c.args.kind in
    let children = c.args.children.now in
    let at = c.args.at in
    let names = c.args.names.now in
    let d = view c.args.item.now in
    fails_then c.in_err-read.field-0.0 c.from_residual.result _ _
    (offered_at kind children at names d) c.from_residual.ensures.1
    (two_and_asked (offer_from_at at d) (targets_at at d) (as_at at names d) (given_rights_at at d)
    (subdir_at at (codes "subdir") d) (dependency_at at d)
    (given_availability_at at d) (source_unknown_at at d) asked_with
    (λ from targets asked.
    Ok (flat_map (offer_rows targets) (map (give_row (terms_by kind children from asked)) names))))
    (c.in_err-read.ensures _ _ (c.both.ensures _ _ c.offer_from_of.ensures c.targets_of.ensures)
    (c.asked_of.ensures _ c.dependency_of.ensures))

pub returns : goal.returns
unfolding offered_at asked_at
returns c =
    let kind = c.args.kind in
    let children = c.args.children.now in
    let at = c.args.at in
    let names = c.args.names.now in
    let d = view c.args.item.now in
    rw (c.in_ok-offer_by.ensures, c.terms_by-terms.ensures)
    (reads_then c.in_ok-read.read _ _ (offered_at kind children at names d)
    (two_and_asked (offer_from_at at d) (targets_at at d) (as_at at names d) (given_rights_at at d)
    (subdir_at at (codes "subdir") d) (dependency_at at d)
    (given_availability_at at d) (source_unknown_at at d) asked_with
    (λ from targets asked.
    Ok (flat_map (offer_rows targets) (map (give_row (terms_by kind children from asked)) names))))
    (c.in_ok-read.ensures _ _ (c.both.ensures _ _ c.offer_from_of.ensures c.targets_of.ensures)
    (c.asked_of.ensures _ c.dependency_of.ensures)))
