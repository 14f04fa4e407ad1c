use Rattle.std.proofs.Common.{ℕ, refl, sym, subst, Option}
use Rattle.cm_decl.specs.declared.decl.Decl.{Decl}
use Rattle.cm_decl.specs.declared.rows.Capability.{Capability}
use Rattle.cm_decl.specs.declared.section.Section.TheVariants.{Capabilities}
use Rattle.cm_valid.specs.declared.found.FoundFault.{FoundFault}
use Rattle.cm_valid.specs.Parts.{At, FindsFault}
use Rattle.cm_valid.proofs.lemmas.Row.{IsNamed, named_apart, named_found}
use Rattle.cm_valid.proofs.row.capability_fault.Goals as goal

named : (d : Decl) (row : ℕ) → IsNamed d Capabilities (λ (k : Capability). k.name) d.capabilities row
named d row = record { clashing = refl; broken = refl; others = (refl, (refl, (refl, (refl, (refl, (refl, (refl, tt))))))) }

pub returns-then-row-apart : goal.returns-then-row-apart
returns-then-row-apart c =
    let d = c.args.index.now in
    named_apart d Capabilities (λ (k : Capability). k.name) d.capabilities c.args.apart c.args.row (named d c.args.row) c.requires.apart c.if-row-apart.true

pub returns : goal.returns
returns c =
    let d = c.args.index.now in
    let found = named_found d Capabilities (λ (k : Capability). k.name) c.as_slice-capabilities.result.now d.capabilities c.args.row c.index-capabilities-row.result c.capability_named-first.result c.capability_named-first.result (named d c.args.row) (cc) c.requires.within c.index-capabilities-row.is c.capability_named-first.ensures refl in
    subst (λ (f : Option FoundFault). FindsFault d (At Capabilities c.args.row) f) (sym c.earlier.ensures) found
