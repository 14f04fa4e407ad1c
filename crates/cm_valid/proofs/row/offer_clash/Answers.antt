use Rattle.std.proofs.Common.{◌≡◌, Some, List, take, sym, subst}
use Rattle.std.specs.Prelude.{slice_get, position}
use Rattle.cm_decl.specs.declared.rows.Offer.{Offer}
use Rattle.cm_decl.specs.declared.section.Section.TheVariants.{Offers}
use Rattle.cm_decl.specs.Clashes.{same_target}
use Rattle.cm_valid.specs.Keys.{offer_key}
use Rattle.cm_valid.proofs.lemmas.Clash.{target_near}
use Rattle.cm_valid.proofs.lemmas.Row.{row_at, clash_of, clash_apart}
use Rattle.cm_valid.proofs.row.offer_clash.Goals as goal

pub returns-then-row-apart : goal.returns-then-row-apart
returns-then-row-apart c =
    let d = c.args.index.now in
    sym (clash_apart Offers offer_key same_target target_near d.offers c.args.apart c.args.row c.requires.apart c.if-row-apart.true)

pub returns : goal.returns
returns c =
    let d = c.args.index.now in
    let row = c.args.row in
    let this = c.index-offers-row.result in
    let rows : c.as_slice-offers.result.now ≡ d.offers = cc in
    let at : slice_get d.offers row ≡ Some this = row_at c.as_slice-offers.result.now d.offers row this rows c.requires.within c.index-offers-row.is in
    let found : position (λ (e : Offer). same_target e this) (take row d.offers) ≡ c.same_target.result = subst (λ (l : List Offer). position (λ (e : Offer). same_target e this) (take row l) ≡ c.same_target.result) rows (sym c.same_target.ensures) in
    sym (clash_of Offers same_target d.offers row this c.same_target.result at found)
