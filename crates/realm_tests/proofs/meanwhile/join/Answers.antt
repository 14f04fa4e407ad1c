use Rattle.std.proofs.Common.{◌≡◌, ℕ, subst, arith}
use Rattle.cm_world.specs.declared.action.ActKind.TheVariants.{Start}
use Rattle.cm_world.specs.declared.action.Finish.TheVariants as finish
use Rattle.cm_world.specs.declared.action.Outcome.TheVariants as outcome
use Rattle.cm_world.specs.declared.event.Event.TheVariants.{Begin}
use Rattle.cm_world.specs.declared.reply.Reply.TheVariants.{Joined}
use Rattle.cm_laws.specs.Story.{AddsEntry}
use Rattle.cm_laws.proofs.lemmas.actions.Beginners.{joiners_are_joined, still_may_end}
use Rattle.realm_tests.proofs.meanwhile.join.Goals as goal

one_not_zero : ◌≡◌ {A = ℕ} 1 0 → ⊥
one_not_zero e = absurd (omega arith)

pub decline_joined-requires : goal.decline_joined-requires
decline_joined-requires c = record {
  may =
      still_may_end c.args.realm.now c.begin.new.self 1 0 c.args.begun (Begin Start c.args.inc)
      (Joined c.in-Ok-Joined.action) (finish.Other outcome.Declined)
      (subst (λ r. AddsEntry c.args.realm.now c.begin.new.self 1 (Begin Start c.args.inc) r)
      c.in-Ok-Joined.field-0-is c.in-Ok-Joined.ensures.step) one_not_zero c.requires;
  joined =
      joiners_are_joined c.args.realm.now c.begin.new.self 1 c.args.inc c.in-Ok-Joined.action Start
      (subst (λ r. AddsEntry c.args.realm.now c.begin.new.self 1 (Begin Start c.args.inc) r)
      c.in-Ok-Joined.field-0-is c.in-Ok-Joined.ensures.step);
}
