use Rattle.std.proofs.Common.{ℕ, refl, sym, subst, Option}
use Rattle.cm_decl.specs.declared.decl.Decl.{Decl}
use Rattle.cm_decl.specs.declared.rows.Child.{Child}
use Rattle.cm_decl.specs.declared.section.Section.TheVariants.{Children}
use Rattle.cm_valid.specs.declared.found.FoundFault.{FoundFault}
use Rattle.cm_valid.specs.Parts.{At, FindsFault}
use Rattle.cm_valid.proofs.lemmas.Row.{IsNamed, named_apart, named_found}
use Rattle.cm_valid.proofs.row.child_fault.Goals as goal

named : (d : Decl) (row : ℕ) → IsNamed d Children (λ (k : Child). k.name) d.children row
named d row = record { clashing = refl; broken = refl; others = (refl, (refl, (refl, (refl, (refl, (refl, (refl, tt))))))) }

pub returns-then-row-apart : goal.returns-then-row-apart
returns-then-row-apart c =
    let d = c.args.index.now in
    named_apart d Children (λ (k : Child). k.name) d.children c.args.apart c.args.row (named d c.args.row) c.requires.apart c.if-row-apart.true

pub returns : goal.returns
returns c =
    let d = c.args.index.now in
    let found = named_found d Children (λ (k : Child). k.name) c.as_slice-children.result.now d.children c.args.row c.index-children-row.result c.child_named-first.result c.child_named-first.result (named d c.args.row) (cc) c.requires.within c.index-children-row.is c.child_named-first.ensures refl in
    subst (λ (f : Option FoundFault). FindsFault d (At Children c.args.row) f) (sym c.earlier.ensures) found
