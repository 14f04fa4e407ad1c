use Rattle.std.proofs.Common.{◌≡◌, [], None, Some, Option, refl, sym, ◌∙◌, subst, inl, inr}
use Rattle.cm_decl.specs.Valid.{cycle_fault}
use Rattle.cm_deps.specs.Outcome.{IsOutcome}
use Rattle.cm_deps.specs.declared.outcome.Order.{Order}
use Rattle.cm_deps.specs.declared.outcome.Order.TheVariants.{Ordered, Cycle}
use Rattle.cm_deps.proofs.lemmas.given.Outcomes.{ordered_acyclic}
use Rattle.cm_valid.specs.declared.found.FoundFault.{FoundFault}
use Rattle.cm_valid.specs.Parts.{Anywhere, FindsFault, fault_of}
use Rattle.cm_valid.proofs.lemmas.Cycle.{acyclic_free}
use Rattle.cm_valid.proofs.lemmas.Pass.{is_first, is_faultless}
use Rattle.cm_valid.proofs.validator.check.Goals as goal

pub returns-in-Some-clause-fault : goal.returns-in-Some-clause-fault
returns-in-Some-clause-fault c =
    let d = c.args.decl.now in
    let found = c.in-Some.found in
    let finds : FindsFault d Anywhere (Some found) = subst (λ (o : Option FoundFault). FindsFault d Anywhere o) c.in-Some.is c.in_ok-found.ensures in
    λ ran. (fault_of found, inl (is_first d found finds), c.report.ensures)

pub returns-in-Ordered-clause-valid : goal.returns-in-Ordered-clause-valid
returns-in-Ordered-clause-valid c =
    let d = c.args.decl.now in
    let missing : c.in_ok-found.field-0 ≡ None = cc in
    let none : FindsFault d Anywhere None = subst (λ (o : Option FoundFault). FindsFault d Anywhere o) missing c.in_ok-found.ensures in
    let outcome : IsOutcome d [] (Ordered c.in-Ordered.field-0) = subst (λ (o : Order). IsOutcome d [] o) c.in-Ordered.is c.in_ok-order_of.ensures in
    record { well_formed = c.requires.well_formed; faultless = is_faultless d none; acyclic = ordered_acyclic d [] c.in-Ordered.field-0 outcome }

pub returns-clause-fault : goal.returns-clause-fault
returns-clause-fault c =
    let d = c.args.decl.now in
    let cycle = c.in-Cycle.cycle in
    let missing : c.in_ok-found.field-0 ≡ None = cc in
    let none : FindsFault d Anywhere None = subst (λ (o : Option FoundFault). FindsFault d Anywhere o) missing c.in_ok-found.ensures in
    let outcome : IsOutcome d [] (Cycle cycle) = subst (λ (o : Order). IsOutcome d [] o) c.in-Cycle.is c.in_ok-order_of.ensures in
    λ ran. (cycle_fault cycle, inr (record { faultless = is_faultless d none; picked = outcome; whole = refl }), refl)

pub returns-then-not-needs_child-clause-valid : goal.returns-then-not-needs_child-clause-valid
returns-then-not-needs_child-clause-valid c =
    let d = c.args.decl.now in
    let missing : c.in_ok-found.field-0 ≡ None = cc in
    let none : FindsFault d Anywhere None = subst (λ (o : Option FoundFault). FindsFault d Anywhere o) missing c.in_ok-found.ensures in
    record { well_formed = c.requires.well_formed; faultless = is_faultless d none; acyclic = acyclic_free d (sym c.needs_child.ensures ∙ c.if-not-needs_child.true) }
