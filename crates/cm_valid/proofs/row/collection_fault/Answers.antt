use Rattle.std.proofs.Common.{◌≡◌, ℕ, Option, Some, None, refl, sym, ap, subst, ◌∙◌, bytes_eq}
use Rattle.std.specs.Prelude.{is_some, option_map}
use Rattle.cm_decl.specs.declared.decl.Decl.{Decl}
use Rattle.cm_decl.specs.declared.rows.Child.{Child}
use Rattle.cm_decl.specs.declared.rows.Collection.{Collection}
use Rattle.cm_decl.specs.declared.section.Section.TheVariants.{Children, Collections}
use Rattle.cm_decl.specs.Rules.{RepeatedName}
use Rattle.cm_decl.specs.Clashes.{place, clash, same_collection_name}
use Rattle.cm_valid.specs.declared.found.FoundFault.{FoundFault}
use Rattle.cm_valid.specs.Parts.{At, FindsFault}
use Rattle.cm_valid.proofs.lemmas.Clash.{same_near}
use Rattle.cm_valid.proofs.lemmas.Row.{row_at, looked_through, first_named, clash_apart, clash_child, clash_collection, no_child, some_child, named_before, named_once, found_at}
use Rattle.cm_valid.proofs.row.collection_fault.Goals as goal

-- what was found among the earlier collections
by_earlier : (d : Decl) (row : ℕ) (o : Option ℕ) → clash d RepeatedName Collections row ≡ option_map (place Collections) o
    → FindsFault d (At Collections row) (option_map (λ first. found_at Collections row RepeatedName (Some (place Collections first))) o)
by_earlier d row None clashing = named_once d Collections row (ap is_some clashing) (refl, (refl, (refl, (refl, (refl, (refl, (refl, tt)))))))
by_earlier d row (Some first) clashing =
    named_before d Collections Collections row first (found_at Collections row RepeatedName (Some (place Collections first))) refl (ap is_some clashing) clashing

pub returns-in_default : goal.returns-in_default
returns-in_default c =
    let d = c.args.index.now in
    let this = c.index-collections-row.result in
    absurd (some_child d this.name (sym c.has_child.ensures ∙ c.if-has_child.true)
    (looked_through (λ (k : Child). bytes_eq k.name this.name) c.as_slice.result.now d.children c.child_named.result None (cc) c.child_named.ensures (cc)))

pub returns-then-has_child : goal.returns-then-has_child
returns-then-has_child c =
    let d = c.args.index.now in
    let row = c.args.row in
    let this = c.index-collections-row.result in
    let first = c.in-Some.first in
    let at = row_at c.as_slice-collections.result.now d.collections row this (cc) c.requires.within c.index-collections-row.is in
    let found = looked_through (λ (k : Child). bytes_eq k.name this.name) c.as_slice.result.now d.children c.child_named.result (Some first) (cc) c.child_named.ensures c.in-Some.is in
    let clashing = clash_child d row this first at found in
    named_before d Collections Children row first c.clash.result c.clash.ensures (ap is_some clashing) clashing

pub returns-then-row-apart : goal.returns-then-row-apart
returns-then-row-apart c =
    let d = c.args.index.now in
    let row = c.args.row in
    let this = c.index-collections-row.result in
    let at = row_at c.as_slice-collections.result.now d.collections row this (cc) c.requires.within c.index-collections-row.is in
    let clashing = clash_collection d row this None at (no_child d this.name (sym c.has_child.ensures ∙ c.if-has_child.false))
    (clash_apart Collections (λ (k : Collection). k.name) same_collection_name (λ a b e. same_near a.name b.name e) d.collections c.args.apart row c.requires.apart c.if-row-apart.true) in
    named_once d Collections row (ap is_some clashing) (refl, (refl, (refl, (refl, (refl, (refl, (refl, tt)))))))

pub returns : goal.returns
returns c =
    let d = c.args.index.now in
    let row = c.args.row in
    let this = c.index-collections-row.result in
    let first = c.collection_named-first.result in
    let at = row_at c.as_slice-collections.result.now d.collections row this (cc) c.requires.within c.index-collections-row.is in
    let clashing = clash_collection d row this (option_map (place Collections) first) at (no_child d this.name (sym c.has_child.ensures ∙ c.if-has_child.false))
    (first_named Collections (λ (k : Collection). k.name) c.as_slice-collections.result.now d.collections row this first first (cc) c.requires.within c.index-collections-row.is c.collection_named-first.ensures refl) in
    subst (λ (f : Option FoundFault). FindsFault d (At Collections row) f) (sym c.earlier.ensures) (by_earlier d row first clashing)
