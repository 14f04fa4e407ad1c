use Rattle.std.proofs.Common.{◌≡◌, ◌<◌, [], length, set, true, false, sym, ◌∙◌, ap, subst, inr, arith}
use Rattle.std.specs.List.{list_all}
use Rattle.std.proofs.lemmas.List.{get_or_default}
use Rattle.cm_deps.specs.Edges.{is_set, row, IsListing}
use Rattle.cm_deps.proofs.lemmas.listed.Listing.{listing_more, one_fails}
use Rattle.cm_deps.proofs.edges.list_if_ready.Goals as goal

pub returns-in_ok-push-clause-listing : goal.returns-in_ok-push-clause-listing
returns-in_ok-push-clause-listing c =
    let inside : c.args.x < length c.args.queued.now.items = omega (arith, c.requires.listing.queued_size) in
    let unlisted : is_set c.args.queued.now.items c.args.x ≡ false = get_or_default c.args.queued.now.items c.args.x false c.index.result.now inside ∙ sym c.index.ensures ∙ c.if-index.false in
    let nodes : row c.args.after.now c.args.x ≡ c.index-after-x.result = get_or_default c.args.after.now c.args.x [] c.index-after-x.result c.requires.inside ∙ sym c.index-after-x.is in
    let ready : list_all (is_set c.args.done.now) (row c.args.after.now c.args.x) ≡ true = ap (list_all (is_set c.args.done.now)) (nodes ∙ sym c.as_slice.ensures) ∙ sym c.are_done.ensures ∙ c.if-are_done.true in
    subst (λ l. IsListing c.args.after.now l (set c.args.queued.now.items c.args.x true) c.args.done.now) (sym c.in_ok-push.ensures.items)
    (listing_more c.args.after.now c.args.order.now.items c.args.queued.now.items c.args.done.now c.args.x c.requires.listing c.requires.inside unlisted ready)

pub returns-else-are_done-clause-settled : goal.returns-else-are_done-clause-settled
returns-else-are_done-clause-settled c =
    let nodes : row c.args.after.now c.args.x ≡ c.index-after-x.result = get_or_default c.args.after.now c.args.x [] c.index-after-x.result c.requires.inside ∙ sym c.index-after-x.is in
    let unready : list_all (is_set c.args.done.now) (row c.args.after.now c.args.x) ≡ false = ap (list_all (is_set c.args.done.now)) (nodes ∙ sym c.as_slice.ensures) ∙ sym c.are_done.ensures ∙ c.if-are_done.false in
    inr (one_fails (is_set c.args.done.now) (row c.args.after.now c.args.x) unready)
