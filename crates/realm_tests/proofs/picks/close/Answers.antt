-- What is marked, or was marked before, may be picked for.
use Rattle.std.proofs.Common.{false, refl, inl, inr, subst}
use Rattle.cm_world.specs.declared.event.Event.TheVariants.{Mark}
use Rattle.cm_world.specs.declared.reply.Reply.TheVariants.{Marked, Already}
use Rattle.cm_laws.specs.Story.{world_of, IsLegal, AddsEntry}
use Rattle.realm_tests.proofs.picks.close.Goals as goal

pub returns-in-Ok-Marked : goal.returns-in-Ok-Marked
unfolding IsLegal
returns-in-Ok-Marked c =
    let tells : AddsEntry c.args.realm.now c.mark.new.self 0 (Mark false c.args.inc) Marked =
    subst (λ r. AddsEntry c.args.realm.now c.mark.new.self 0 (Mark false c.args.inc) r)
    c.in-Ok-Marked.field-0-is c.in-Ok-Marked.ensures.step in
    c.marks_stay.ensures.closes (world_of c.mark.new.self) c.args.inc false
    (c.marks_stay.ensures.marks c.args.realm.now c.mark.new.self 0 c.args.inc false Marked
    c.entries-entries.ensures.legal tells (inl refl))

pub returns-in-Ok-Already : goal.returns-in-Ok-Already
unfolding IsLegal
returns-in-Ok-Already c =
    let tells : AddsEntry c.args.realm.now c.mark.new.self 0 (Mark false c.args.inc) Already =
    subst (λ r. AddsEntry c.args.realm.now c.mark.new.self 0 (Mark false c.args.inc) r)
    c.in-Ok-Already.field-0-is c.in-Ok-Already.ensures.step in
    c.marks_stay.ensures.closes (world_of c.mark.new.self) c.args.inc false
    (c.marks_stay.ensures.marks c.args.realm.now c.mark.new.self 0 c.args.inc false Already
    c.entries-entries.ensures.legal tells (inr refl))
