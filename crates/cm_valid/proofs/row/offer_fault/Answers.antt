use Rattle.std.proofs.Common.{◌≡◌, Some, None, refl, sym, subst, ap, ◌∙◌, true, false, ◌||◌, not}
use Rattle.std.specs.Prelude.{slice_get, is_some, option_map}
use Rattle.cm_decl.specs.declared.rows.Offer.{Offer}
use Rattle.cm_decl.specs.declared.section.Section.TheVariants.{Offers}
use Rattle.cm_decl.specs.Rules.{UnknownRef, NotDeclared, TargetIsSource, RepeatedTarget, RequiredVoid, is_target, is_given_back, is_required_void}
use Rattle.cm_decl.specs.Breaks.{breaks, has_unknown_source, has_undeclared_source}
use Rattle.cm_decl.specs.Clashes.{place, clash}
use Rattle.cm_valid.specs.declared.found.FoundFault.{FoundFault}
use Rattle.cm_valid.specs.Parts.{At, FindsFault}
use Rattle.cm_valid.proofs.lemmas.Row.{row_at, passes, finds, finds_none}
use Rattle.cm_valid.proofs.row.offer_fault.Goals as goal

pub returns-then-has_unknown_end : goal.returns-then-has_unknown_end
returns-then-has_unknown_end c =
    let d = c.args.index.now in
    let row = c.args.row in
    let this = c.index-as_slice-row.result in
    let rows : c.as_slice.result.now ≡ d.offers = cc in
    let at : slice_get d.offers row ≡ Some this = row_at c.as_slice.result.now d.offers row this rows c.requires.within c.index-as_slice-row.is in
    let unknown : breaks d UnknownRef Offers row ≡ true = passes (λ (r : Offer). has_unknown_source d r.give || not (is_target d r.to)) d.offers row this true at (sym c.has_unknown_end.ensures ∙ c.if-has_unknown_end.true) in
    subst (λ (f : FoundFault). FindsFault d (At Offers row) (Some f)) (sym c.alone.ensures) (finds d Offers row 1 UnknownRef None refl (refl, tt) unknown refl)

pub returns-then-is_undeclared : goal.returns-then-is_undeclared
returns-then-is_undeclared c =
    let d = c.args.index.now in
    let row = c.args.row in
    let this = c.index-as_slice-row.result in
    let rows : c.as_slice.result.now ≡ d.offers = cc in
    let at : slice_get d.offers row ≡ Some this = row_at c.as_slice.result.now d.offers row this rows c.requires.within c.index-as_slice-row.is in
    let unknown : breaks d UnknownRef Offers row ≡ false = passes (λ (r : Offer). has_unknown_source d r.give || not (is_target d r.to)) d.offers row this false at (sym c.has_unknown_end.ensures ∙ c.if-has_unknown_end.false) in
    let undeclared : breaks d NotDeclared Offers row ≡ true = passes (λ (r : Offer). has_undeclared_source d r.give) d.offers row this true at (sym c.is_undeclared.ensures ∙ c.if-is_undeclared.true) in
    subst (λ (f : FoundFault). FindsFault d (At Offers row) (Some f)) (sym c.alone-then-is_undeclared.ensures) (finds d Offers row 2 NotDeclared None refl (refl, (unknown, tt)) undeclared refl)

pub returns-then-is_given_back : goal.returns-then-is_given_back
returns-then-is_given_back c =
    let d = c.args.index.now in
    let row = c.args.row in
    let this = c.index-as_slice-row.result in
    let rows : c.as_slice.result.now ≡ d.offers = cc in
    let at : slice_get d.offers row ≡ Some this = row_at c.as_slice.result.now d.offers row this rows c.requires.within c.index-as_slice-row.is in
    let unknown : breaks d UnknownRef Offers row ≡ false = passes (λ (r : Offer). has_unknown_source d r.give || not (is_target d r.to)) d.offers row this false at (sym c.has_unknown_end.ensures ∙ c.if-has_unknown_end.false) in
    let undeclared : breaks d NotDeclared Offers row ≡ false = passes (λ (r : Offer). has_undeclared_source d r.give) d.offers row this false at (sym c.is_undeclared.ensures ∙ c.if-is_undeclared.false) in
    let back : breaks d TargetIsSource Offers row ≡ true = passes (λ (r : Offer). is_given_back r.give.from r.to) d.offers row this true at (sym c.is_given_back.ensures ∙ c.if-is_given_back.true) in
    subst (λ (f : FoundFault). FindsFault d (At Offers row) (Some f)) (sym c.alone-then-is_given_back.ensures) (finds d Offers row 3 TargetIsSource None refl (refl, (unknown, (undeclared, tt))) back refl)

pub returns-in-Some : goal.returns-in-Some
returns-in-Some c =
    let d = c.args.index.now in
    let row = c.args.row in
    let this = c.index-as_slice-row.result in
    let rows : c.as_slice.result.now ≡ d.offers = cc in
    let at : slice_get d.offers row ≡ Some this = row_at c.as_slice.result.now d.offers row this rows c.requires.within c.index-as_slice-row.is in
    let unknown : breaks d UnknownRef Offers row ≡ false = passes (λ (r : Offer). has_unknown_source d r.give || not (is_target d r.to)) d.offers row this false at (sym c.has_unknown_end.ensures ∙ c.if-has_unknown_end.false) in
    let undeclared : breaks d NotDeclared Offers row ≡ false = passes (λ (r : Offer). has_undeclared_source d r.give) d.offers row this false at (sym c.is_undeclared.ensures ∙ c.if-is_undeclared.false) in
    let back : breaks d TargetIsSource Offers row ≡ false = passes (λ (r : Offer). is_given_back r.give.from r.to) d.offers row this false at (sym c.is_given_back.ensures ∙ c.if-is_given_back.false) in
    let first = c.in-Some.first in
    let clashing : clash d RepeatedTarget Offers row ≡ Some (place Offers first) = sym c.offer_clash.ensures ∙ ap (option_map (place Offers)) c.in-Some.is in
    subst (λ (f : FoundFault). FindsFault d (At Offers row) (Some f)) (sym c.clash.ensures) (finds d Offers row 4 RepeatedTarget (Some (place Offers first)) refl (refl, (unknown, (undeclared, (back, tt)))) (ap is_some clashing) clashing)

pub returns-then-is_required_void : goal.returns-then-is_required_void
returns-then-is_required_void c =
    let d = c.args.index.now in
    let row = c.args.row in
    let this = c.index-as_slice-row.result in
    let rows : c.as_slice.result.now ≡ d.offers = cc in
    let at : slice_get d.offers row ≡ Some this = row_at c.as_slice.result.now d.offers row this rows c.requires.within c.index-as_slice-row.is in
    let unknown : breaks d UnknownRef Offers row ≡ false = passes (λ (r : Offer). has_unknown_source d r.give || not (is_target d r.to)) d.offers row this false at (sym c.has_unknown_end.ensures ∙ c.if-has_unknown_end.false) in
    let undeclared : breaks d NotDeclared Offers row ≡ false = passes (λ (r : Offer). has_undeclared_source d r.give) d.offers row this false at (sym c.is_undeclared.ensures ∙ c.if-is_undeclared.false) in
    let back : breaks d TargetIsSource Offers row ≡ false = passes (λ (r : Offer). is_given_back r.give.from r.to) d.offers row this false at (sym c.is_given_back.ensures ∙ c.if-is_given_back.false) in
    let missing : c.offer_clash.result ≡ None = cc in
    let clashing : clash d RepeatedTarget Offers row ≡ None = sym c.offer_clash.ensures ∙ ap (option_map (place Offers)) missing in
    let void : breaks d RequiredVoid Offers row ≡ true = passes (λ (r : Offer). is_required_void r.give) d.offers row this true at (sym c.is_required_void.ensures ∙ c.if-is_required_void.true) in
    subst (λ (f : FoundFault). FindsFault d (At Offers row) (Some f)) (sym c.alone-then-is_required_void.ensures) (finds d Offers row 7 RequiredVoid None refl (refl, (unknown, (undeclared, (back, (ap is_some clashing, (refl, (refl, tt))))))) void refl)

pub returns : goal.returns
returns c =
    let d = c.args.index.now in
    let row = c.args.row in
    let this = c.index-as_slice-row.result in
    let rows : c.as_slice.result.now ≡ d.offers = cc in
    let at : slice_get d.offers row ≡ Some this = row_at c.as_slice.result.now d.offers row this rows c.requires.within c.index-as_slice-row.is in
    let unknown : breaks d UnknownRef Offers row ≡ false = passes (λ (r : Offer). has_unknown_source d r.give || not (is_target d r.to)) d.offers row this false at (sym c.has_unknown_end.ensures ∙ c.if-has_unknown_end.false) in
    let undeclared : breaks d NotDeclared Offers row ≡ false = passes (λ (r : Offer). has_undeclared_source d r.give) d.offers row this false at (sym c.is_undeclared.ensures ∙ c.if-is_undeclared.false) in
    let back : breaks d TargetIsSource Offers row ≡ false = passes (λ (r : Offer). is_given_back r.give.from r.to) d.offers row this false at (sym c.is_given_back.ensures ∙ c.if-is_given_back.false) in
    let missing : c.offer_clash.result ≡ None = cc in
    let clashing : clash d RepeatedTarget Offers row ≡ None = sym c.offer_clash.ensures ∙ ap (option_map (place Offers)) missing in
    let void : breaks d RequiredVoid Offers row ≡ false = passes (λ (r : Offer). is_required_void r.give) d.offers row this false at (sym c.is_required_void.ensures ∙ c.if-is_required_void.false) in
    finds_none d Offers row (refl, (unknown, (undeclared, (back, (ap is_some clashing, (refl, (refl, (void, tt))))))))
