use Rattle.std.proofs.Common.{[], ap, ◌∙◌, sym, subst}
use Rattle.std.specs.Prelude.{IsSome}
use Rattle.std.proofs.lemmas.List.Elements.{All-push}
use Rattle.cm_turn.specs.Views.{with_pass}
use Rattle.cm_turn.specs.Passes.{PassView, view_in}
use Rattle.cm_turn.proofs.lemmas.Closing.{gathered_more}
use Rattle.cm_turn.proofs.turn.gather_passes.Goals as goal

pub loop-pass-preserved : goal.loop-pass-preserved
loop-pass-preserved g c =
    let E = g.row.S-Entry.Denot in
    let F = g.row.S-Frame.Denot in
    let i = c.pass.inside in
    let inv = c.loop-pass.invariant in
    let ys = c.loop-pass.yielded in
    let same = ap view_in c.into_seat.ensures.2 in
    let step = c.gather_pass.ensures.view ∙ (λ k. (with_pass (inv.1 k).0 (sym same k), [])) in
    let IsIt : PassView E F → Type 0 = λ p. IsSome p.frame in
    (c.gather_pass.ensures.lock ∙ inv.0, step ∙ ap (λ v. (v, [])) (gathered_more ys i.badge.table_id i.number (view_in i.badge.views) c.in-Some.pass c.pass.invariant.1 c.pass.view_is), All-push IsIt ys c.in-Some.pass inv.2 (subst IsIt c.pass.view_is c.pass.invariant.1.1))
