use Rattle.std.proofs.Common.{◌<◌, ◌≤◌, ◌==◌, length, sym, arith}
use Rattle.cm_world.specs.declared.action.Act.{Act}
use Rattle.cm_steps.proofs.lemmas.actions.Numbered.{no_place, others_there, not_zero, not_above, place_of}
use Rattle.cm_steps.proofs.pending.act_place.Goals as goal

pub returns-then-action-eq0-clause-place : goal.returns-then-action-eq0-clause-place
returns-then-action-eq0-clause-place c =
    sym (no_place (λ (x : Act). x.action == c.args.action) c.args.acts.now
    (others_there c.args.acts.now c.args.action c.requires (not_zero c.args.action (length c.args.acts.now) c.if-action-eq0.true)))

pub returns-then-action-eq0-clause-none : goal.returns-then-action-eq0-clause-none
returns-then-action-eq0-clause-none c =
    others_there c.args.acts.now c.args.action c.requires (not_zero c.args.action (length c.args.acts.now) c.if-action-eq0.true)

pub returns-then-action-acts-clause-place : goal.returns-then-action-acts-clause-place
returns-then-action-acts-clause-place c =
    let high : length c.args.acts.now < c.args.action = omega (arith, c.if-action-acts.true) in
    sym (no_place (λ (x : Act). x.action == c.args.action) c.args.acts.now
    (others_there c.args.acts.now c.args.action c.requires (not_above c.args.action (length c.args.acts.now) high)))

pub returns-then-action-acts-clause-none : goal.returns-then-action-acts-clause-none
returns-then-action-acts-clause-none c =
    let high : length c.args.acts.now < c.args.action = omega (arith, c.if-action-acts.true) in
    others_there c.args.acts.now c.args.action c.requires (not_above c.args.action (length c.args.acts.now) high)

pub returns-clause-place : goal.returns-clause-place
returns-clause-place c =
    let low : c.args.action ≤ length c.args.acts.now = omega (arith, c.if-action-acts.false) in
    sym (place_of c.args.acts.now c.args.action c.requires c.if-action-eq0.false low)
