use Rattle.std.proofs.Common.{◌≡◌, ℕ, Option, Some, None, List, take, refl, sym, subst, ap, ◌∙◌, bytes_eq, true, false, ◌||◌}
use Rattle.std.specs.Prelude.{slice_get, position, is_some, option_map}
use Rattle.cm_decl.specs.declared.decl.Decl.{Decl}
use Rattle.cm_decl.specs.declared.rows.Usage.{Usage}
use Rattle.cm_decl.specs.declared.section.Section.TheVariants.{Uses}
use Rattle.cm_decl.specs.Rules.{UnknownRef, NotDeclared, RepeatedPath, PathInside, is_unknown, is_undeclared, is_child, is_inside}
use Rattle.cm_decl.specs.Breaks.{breaks}
use Rattle.cm_decl.specs.Clashes.{place, clash, same_path, are_paths_nested}
use Rattle.cm_valid.specs.declared.found.FoundFault.{FoundFault}
use Rattle.cm_valid.specs.Keys.{usage_key}
use Rattle.cm_valid.specs.Parts.{At, FindsFault}
use Rattle.cm_valid.proofs.lemmas.Clash.{path_near, nested_near}
use Rattle.cm_valid.proofs.lemmas.Row.{row_at, passes, clash_of, clash_apart, finds, finds_none, found_at}
use Rattle.cm_valid.proofs.row.use_fault.Goals as goal

-- what was found among the earlier uses, of which none has the path
by_nested : (d : Decl) (row : ℕ) → breaks d UnknownRef Uses row ≡ false → breaks d NotDeclared Uses row ≡ false → clash d RepeatedPath Uses row ≡ None → (o : Option ℕ) → clash d PathInside Uses row ≡ option_map (place Uses) o
    → FindsFault d (At Uses row) (option_map (λ first. found_at Uses row PathInside (Some (place Uses first))) o)
by_nested d row unknown undeclared same None nested =
    finds_none d Uses row (refl, (unknown, (undeclared, (refl, (refl, (ap is_some same, (ap is_some nested, (refl, tt))))))))
by_nested d row unknown undeclared same (Some first) nested =
    finds d Uses row 6 PathInside (Some (place Uses first)) refl (refl, (unknown, (undeclared, (refl, (refl, (ap is_some same, tt)))))) (ap is_some nested) nested

pub returns-then-is_unknown : goal.returns-then-is_unknown
returns-then-is_unknown c =
    let d = c.args.index.now in
    let row = c.args.row in
    let this = c.index-uses-row.result in
    let rows : c.as_slice-uses.result.now ≡ d.uses = cc in
    let at : slice_get d.uses row ≡ Some this = row_at c.as_slice-uses.result.now d.uses row this rows c.requires.within c.index-uses-row.is in
    let unknown : breaks d UnknownRef Uses row ≡ true = passes (λ (u : Usage). is_unknown (is_child d) u.from) d.uses row this true at (sym c.is_unknown.ensures ∙ c.if-is_unknown.true) in
    subst (λ (f : FoundFault). FindsFault d (At Uses row) (Some f)) (sym c.alone.ensures) (finds d Uses row 1 UnknownRef None refl (refl, tt) unknown refl)

pub returns-then-is_undeclared : goal.returns-then-is_undeclared
returns-then-is_undeclared c =
    let d = c.args.index.now in
    let row = c.args.row in
    let this = c.index-uses-row.result in
    let rows : c.as_slice-uses.result.now ≡ d.uses = cc in
    let at : slice_get d.uses row ≡ Some this = row_at c.as_slice-uses.result.now d.uses row this rows c.requires.within c.index-uses-row.is in
    let unknown : breaks d UnknownRef Uses row ≡ false = passes (λ (u : Usage). is_unknown (is_child d) u.from) d.uses row this false at (sym c.is_unknown.ensures ∙ c.if-is_unknown.false) in
    let undeclared : breaks d NotDeclared Uses row ≡ true = passes (λ (u : Usage). is_undeclared d u.kind u.from u.name) d.uses row this true at (sym c.is_undeclared.ensures ∙ c.if-is_undeclared.true) in
    subst (λ (f : FoundFault). FindsFault d (At Uses row) (Some f)) (sym c.alone-then-is_undeclared.ensures) (finds d Uses row 2 NotDeclared None refl (refl, (unknown, tt)) undeclared refl)

pub returns-then-row-apart : goal.returns-then-row-apart
returns-then-row-apart c =
    let d = c.args.index.now in
    let row = c.args.row in
    let this = c.index-uses-row.result in
    let rows : c.as_slice-uses.result.now ≡ d.uses = cc in
    let at : slice_get d.uses row ≡ Some this = row_at c.as_slice-uses.result.now d.uses row this rows c.requires.within c.index-uses-row.is in
    let unknown : breaks d UnknownRef Uses row ≡ false = passes (λ (u : Usage). is_unknown (is_child d) u.from) d.uses row this false at (sym c.is_unknown.ensures ∙ c.if-is_unknown.false) in
    let undeclared : breaks d NotDeclared Uses row ≡ false = passes (λ (u : Usage). is_undeclared d u.kind u.from u.name) d.uses row this false at (sym c.is_undeclared.ensures ∙ c.if-is_undeclared.false) in
    let same : clash d RepeatedPath Uses row ≡ None = clash_apart Uses usage_key same_path path_near d.uses c.args.apart row c.requires.apart c.if-row-apart.true in
    let nested : clash d PathInside Uses row ≡ None = clash_apart Uses usage_key are_paths_nested nested_near d.uses c.args.apart row c.requires.apart c.if-row-apart.true in
    finds_none d Uses row (refl, (unknown, (undeclared, (refl, (refl, (ap is_some same, (ap is_some nested, (refl, tt))))))))

pub returns-in-Some : goal.returns-in-Some
returns-in-Some c =
    let d = c.args.index.now in
    let row = c.args.row in
    let this = c.index-uses-row.result in
    let rows : c.as_slice-uses.result.now ≡ d.uses = cc in
    let at : slice_get d.uses row ≡ Some this = row_at c.as_slice-uses.result.now d.uses row this rows c.requires.within c.index-uses-row.is in
    let unknown : breaks d UnknownRef Uses row ≡ false = passes (λ (u : Usage). is_unknown (is_child d) u.from) d.uses row this false at (sym c.is_unknown.ensures ∙ c.if-is_unknown.false) in
    let undeclared : breaks d NotDeclared Uses row ≡ false = passes (λ (u : Usage). is_undeclared d u.kind u.from u.name) d.uses row this false at (sym c.is_undeclared.ensures ∙ c.if-is_undeclared.false) in
    let first = c.in-Some.first in
    let same_found : position (λ (e : Usage). bytes_eq e.path this.path) (take row d.uses) ≡ Some first = subst (λ (l : List Usage). position (λ (e : Usage). bytes_eq e.path this.path) (take row l) ≡ Some first) rows (sym c.same_path.ensures ∙ c.in-Some.is) in
    let same : clash d RepeatedPath Uses row ≡ option_map (place Uses) (Some first) = clash_of Uses same_path d.uses row this (Some first) at same_found in
    subst (λ (f : FoundFault). FindsFault d (At Uses row) (Some f)) (sym c.clash.ensures) (finds d Uses row 5 RepeatedPath (Some (place Uses first)) refl (refl, (unknown, (undeclared, (refl, (refl, tt))))) (ap is_some same) same)

pub returns : goal.returns
returns c =
    let d = c.args.index.now in
    let row = c.args.row in
    let this = c.index-uses-row.result in
    let rows : c.as_slice-uses.result.now ≡ d.uses = cc in
    let at : slice_get d.uses row ≡ Some this = row_at c.as_slice-uses.result.now d.uses row this rows c.requires.within c.index-uses-row.is in
    let unknown : breaks d UnknownRef Uses row ≡ false = passes (λ (u : Usage). is_unknown (is_child d) u.from) d.uses row this false at (sym c.is_unknown.ensures ∙ c.if-is_unknown.false) in
    let undeclared : breaks d NotDeclared Uses row ≡ false = passes (λ (u : Usage). is_undeclared d u.kind u.from u.name) d.uses row this false at (sym c.is_undeclared.ensures ∙ c.if-is_undeclared.false) in
    let same_found : position (λ (e : Usage). bytes_eq e.path this.path) (take row d.uses) ≡ None = subst (λ (l : List Usage). position (λ (e : Usage). bytes_eq e.path this.path) (take row l) ≡ None) rows (sym c.same_path.ensures ∙ cc) in
    let same : clash d RepeatedPath Uses row ≡ None = clash_of Uses same_path d.uses row this None at same_found in
    let first = c.nested_path-first.result in
    let nested_found : position (λ (e : Usage). is_inside e.path this.path || is_inside this.path e.path) (take row d.uses) ≡ first = subst (λ (l : List Usage). position (λ (e : Usage). is_inside e.path this.path || is_inside this.path e.path) (take row l) ≡ first) rows (sym c.nested_path-first.ensures) in
    let nested : clash d PathInside Uses row ≡ option_map (place Uses) first = clash_of Uses are_paths_nested d.uses row this first at nested_found in
    subst (λ (f : Option FoundFault). FindsFault d (At Uses row) f) (sym c.earlier.ensures) (by_nested d row unknown undeclared same first nested)
