use Rattle.std.proofs.Common.{◌≡◌, Some, List, take, sym, subst, bytes_eq}
use Rattle.std.specs.Prelude.{slice_get, position}
use Rattle.cm_decl.specs.declared.rows.Give.{Give}
use Rattle.cm_decl.specs.declared.section.Section.TheVariants.{Exposes}
use Rattle.cm_decl.specs.Clashes.{same_expose}
use Rattle.cm_valid.proofs.lemmas.Clash.{same_near}
use Rattle.cm_valid.proofs.lemmas.Row.{row_at, clash_of, clash_apart}
use Rattle.cm_valid.proofs.row.expose_clash.Goals as goal

pub returns-then-row-apart : goal.returns-then-row-apart
returns-then-row-apart c =
    let d = c.args.index.now in
    sym (clash_apart Exposes (λ (g : Give). g.target_name) same_expose (λ a b e. same_near a.target_name b.target_name e) d.exposes c.args.apart c.args.row c.requires.apart c.if-row-apart.true)

pub returns : goal.returns
returns c =
    let d = c.args.index.now in
    let row = c.args.row in
    let this = c.index-exposes-row.result in
    let rows : c.as_slice-exposes.result.now ≡ d.exposes = cc in
    let at : slice_get d.exposes row ≡ Some this = row_at c.as_slice-exposes.result.now d.exposes row this rows c.requires.within c.index-exposes-row.is in
    let found : position (λ (e : Give). bytes_eq e.target_name this.target_name) (take row d.exposes) ≡ c.expose_named.result = subst (λ (l : List Give). position (λ (e : Give). bytes_eq e.target_name this.target_name) (take row l) ≡ c.expose_named.result) rows (sym c.expose_named.ensures) in
    sym (clash_of Exposes same_expose d.exposes row this c.expose_named.result at found)
