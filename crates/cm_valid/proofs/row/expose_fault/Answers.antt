use Rattle.std.proofs.Common.{◌≡◌, Some, None, refl, sym, subst, ap, ◌∙◌, true, false}
use Rattle.std.specs.Prelude.{slice_get, is_some, option_map}
use Rattle.cm_decl.specs.declared.rows.Give.{Give}
use Rattle.cm_decl.specs.declared.section.Section.TheVariants.{Exposes}
use Rattle.cm_decl.specs.Rules.{UnknownRef, NotDeclared, RepeatedTarget, RequiredVoid, is_required_void}
use Rattle.cm_decl.specs.Breaks.{breaks, has_unknown_source, has_undeclared_source}
use Rattle.cm_decl.specs.Clashes.{place, clash}
use Rattle.cm_valid.specs.declared.found.FoundFault.{FoundFault}
use Rattle.cm_valid.specs.Parts.{At, FindsFault}
use Rattle.cm_valid.proofs.lemmas.Row.{row_at, passes, finds, finds_none}
use Rattle.cm_valid.proofs.row.expose_fault.Goals as goal

pub returns-then-is_unknown : goal.returns-then-is_unknown
returns-then-is_unknown c =
    let d = c.args.index.now in
    let row = c.args.row in
    let this = c.index-as_slice-row.result in
    let rows : c.as_slice.result.now ≡ d.exposes = cc in
    let at : slice_get d.exposes row ≡ Some this = row_at c.as_slice.result.now d.exposes row this rows c.requires.within c.index-as_slice-row.is in
    let unknown : breaks d UnknownRef Exposes row ≡ true = passes (λ (r : Give). has_unknown_source d r) d.exposes row this true at (sym c.is_unknown.ensures ∙ c.if-is_unknown.true) in
    subst (λ (f : FoundFault). FindsFault d (At Exposes row) (Some f)) (sym c.alone.ensures) (finds d Exposes row 1 UnknownRef None refl (refl, tt) unknown refl)

pub returns-then-is_undeclared : goal.returns-then-is_undeclared
returns-then-is_undeclared c =
    let d = c.args.index.now in
    let row = c.args.row in
    let this = c.index-as_slice-row.result in
    let rows : c.as_slice.result.now ≡ d.exposes = cc in
    let at : slice_get d.exposes row ≡ Some this = row_at c.as_slice.result.now d.exposes row this rows c.requires.within c.index-as_slice-row.is in
    let unknown : breaks d UnknownRef Exposes row ≡ false = passes (λ (r : Give). has_unknown_source d r) d.exposes row this false at (sym c.is_unknown.ensures ∙ c.if-is_unknown.false) in
    let undeclared : breaks d NotDeclared Exposes row ≡ true = passes (λ (r : Give). has_undeclared_source d r) d.exposes row this true at (sym c.is_undeclared.ensures ∙ c.if-is_undeclared.true) in
    subst (λ (f : FoundFault). FindsFault d (At Exposes row) (Some f)) (sym c.alone-then-is_undeclared.ensures) (finds d Exposes row 2 NotDeclared None refl (refl, (unknown, tt)) undeclared refl)

pub returns-in-Some : goal.returns-in-Some
returns-in-Some c =
    let d = c.args.index.now in
    let row = c.args.row in
    let this = c.index-as_slice-row.result in
    let rows : c.as_slice.result.now ≡ d.exposes = cc in
    let at : slice_get d.exposes row ≡ Some this = row_at c.as_slice.result.now d.exposes row this rows c.requires.within c.index-as_slice-row.is in
    let unknown : breaks d UnknownRef Exposes row ≡ false = passes (λ (r : Give). has_unknown_source d r) d.exposes row this false at (sym c.is_unknown.ensures ∙ c.if-is_unknown.false) in
    let undeclared : breaks d NotDeclared Exposes row ≡ false = passes (λ (r : Give). has_undeclared_source d r) d.exposes row this false at (sym c.is_undeclared.ensures ∙ c.if-is_undeclared.false) in
    let first = c.in-Some.first in
    let clashing : clash d RepeatedTarget Exposes row ≡ Some (place Exposes first) = sym c.expose_clash.ensures ∙ ap (option_map (place Exposes)) c.in-Some.is in
    subst (λ (f : FoundFault). FindsFault d (At Exposes row) (Some f)) (sym c.clash.ensures) (finds d Exposes row 4 RepeatedTarget (Some (place Exposes first)) refl (refl, (unknown, (undeclared, (refl, tt)))) (ap is_some clashing) clashing)

pub returns-then-is_required_void : goal.returns-then-is_required_void
returns-then-is_required_void c =
    let d = c.args.index.now in
    let row = c.args.row in
    let this = c.index-as_slice-row.result in
    let rows : c.as_slice.result.now ≡ d.exposes = cc in
    let at : slice_get d.exposes row ≡ Some this = row_at c.as_slice.result.now d.exposes row this rows c.requires.within c.index-as_slice-row.is in
    let unknown : breaks d UnknownRef Exposes row ≡ false = passes (λ (r : Give). has_unknown_source d r) d.exposes row this false at (sym c.is_unknown.ensures ∙ c.if-is_unknown.false) in
    let undeclared : breaks d NotDeclared Exposes row ≡ false = passes (λ (r : Give). has_undeclared_source d r) d.exposes row this false at (sym c.is_undeclared.ensures ∙ c.if-is_undeclared.false) in
    let missing : c.expose_clash.result ≡ None = cc in
    let clashing : clash d RepeatedTarget Exposes row ≡ None = sym c.expose_clash.ensures ∙ ap (option_map (place Exposes)) missing in
    let void : breaks d RequiredVoid Exposes row ≡ true = passes (λ (r : Give). is_required_void r) d.exposes row this true at (sym c.is_required_void.ensures ∙ c.if-is_required_void.true) in
    subst (λ (f : FoundFault). FindsFault d (At Exposes row) (Some f)) (sym c.alone-then-is_required_void.ensures) (finds d Exposes row 7 RequiredVoid None refl (refl, (unknown, (undeclared, (refl, (ap is_some clashing, (refl, (refl, tt))))))) void refl)

pub returns : goal.returns
returns c =
    let d = c.args.index.now in
    let row = c.args.row in
    let this = c.index-as_slice-row.result in
    let rows : c.as_slice.result.now ≡ d.exposes = cc in
    let at : slice_get d.exposes row ≡ Some this = row_at c.as_slice.result.now d.exposes row this rows c.requires.within c.index-as_slice-row.is in
    let unknown : breaks d UnknownRef Exposes row ≡ false = passes (λ (r : Give). has_unknown_source d r) d.exposes row this false at (sym c.is_unknown.ensures ∙ c.if-is_unknown.false) in
    let undeclared : breaks d NotDeclared Exposes row ≡ false = passes (λ (r : Give). has_undeclared_source d r) d.exposes row this false at (sym c.is_undeclared.ensures ∙ c.if-is_undeclared.false) in
    let missing : c.expose_clash.result ≡ None = cc in
    let clashing : clash d RepeatedTarget Exposes row ≡ None = sym c.expose_clash.ensures ∙ ap (option_map (place Exposes)) missing in
    let void : breaks d RequiredVoid Exposes row ≡ false = passes (λ (r : Give). is_required_void r) d.exposes row this false at (sym c.is_required_void.ensures ∙ c.if-is_required_void.false) in
    finds_none d Exposes row (refl, (unknown, (undeclared, (refl, (ap is_some clashing, (refl, (refl, (void, tt))))))))
