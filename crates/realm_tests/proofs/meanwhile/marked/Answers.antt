use Rattle.std.proofs.Common.{◌≡◌, ℕ, true, refl, inl, subst, arith}
use Rattle.cm_world.specs.declared.event.Event.TheVariants.{Mark}
use Rattle.cm_world.specs.declared.reply.Reply.TheVariants.{Marked}
use Rattle.cm_laws.specs.Story.{world_of, IsLegal, AddsEntry}
use Rattle.cm_laws.proofs.lemmas.actions.Beginners.{still_may_end}
use Rattle.realm_tests.proofs.meanwhile.marked.Goals as goal

one_not_zero : ◌≡◌ {A = ℕ} 1 0 → ⊥
one_not_zero e = absurd (omega arith)

pub returns-in-Ok-Marked : goal.returns-in-Ok-Marked
unfolding IsLegal
returns-in-Ok-Marked c =
    let tells : AddsEntry c.args.realm.now c.mark.new.self 1 (Mark true c.args.inc) Marked =
    subst (λ r. AddsEntry c.args.realm.now c.mark.new.self 1 (Mark true c.args.inc) r)
    c.in-Ok-Marked.field-0-is c.in-Ok-Marked.ensures.step in (
      c.marks_stay.ensures.closes (world_of c.mark.new.self) c.args.inc true
          (c.marks_stay.ensures.marks c.args.realm.now c.mark.new.self 1 c.args.inc true Marked
          c.entries-entries.ensures.legal tells (inl refl)),
      λ a f may.
          still_may_end c.args.realm.now c.mark.new.self 1 0 a (Mark true c.args.inc) Marked f tells one_not_zero may,
    )
