use Rattle.std.proofs.Common.{subst}
use Rattle.cm_command.specs.Additions.{IsAddition}
use Rattle.cm_command.proofs.lemmas.line.Step.{target_adds, rights_add, subdir_adds, weak_adds, optional_adds, transitional_adds, same_adds}
use Rattle.cm_command.proofs.step.add.Goals as goal

pub returns-in-Target : goal.returns-in-Target
returns-in-Target c n t h =
    target_adds c.args.creation c.args.give n t c.in-Target.name (subst (IsAddition n c.args.give.kind t) c.in-Target.is h)

pub returns-in-Rights : goal.returns-in-Rights
returns-in-Rights c n t h =
    rights_add c.args.creation c.args.give n t c.in-Rights.rights (subst (IsAddition n c.args.give.kind t) c.in-Rights.is h)

pub returns-in-Subdir : goal.returns-in-Subdir
returns-in-Subdir c n t h =
    subdir_adds c.args.creation c.args.give n t c.in-Subdir.subdir (subst (IsAddition n c.args.give.kind t) c.in-Subdir.is h)

pub returns-in-Weak : goal.returns-in-Weak
returns-in-Weak c n t h =
    weak_adds c.args.creation c.args.give n t (subst (IsAddition n c.args.give.kind t) c.in-Weak.is h)

pub returns-in-Optional : goal.returns-in-Optional
returns-in-Optional c n t h =
    optional_adds c.args.creation c.args.give n t (subst (IsAddition n c.args.give.kind t) c.in-Optional.is h)

pub returns-in-Transitional : goal.returns-in-Transitional
returns-in-Transitional c n t h =
    transitional_adds c.args.creation c.args.give n t (subst (IsAddition n c.args.give.kind t) c.in-Transitional.is h)

pub returns-in-SameAsTarget : goal.returns-in-SameAsTarget
returns-in-SameAsTarget c n t h =
    same_adds c.args.creation c.args.give n t (subst (IsAddition n c.args.give.kind t) c.in-SameAsTarget.is h)
