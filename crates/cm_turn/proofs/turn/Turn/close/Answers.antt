use Rattle.std.proofs.Common.{All, List, length, ap, ◌∙◌, sym, subst, arith}
use Rattle.std.proofs.lemmas.Option.{same_Some}
use Rattle.cm_turn.specs.History.{entries_by}
use Rattle.cm_turn.specs.Passes.{PassView, BearsPassOut}
use Rattle.cm_turn.proofs.lemmas.Closing.{closes, all_callers}
use Rattle.cm_turn.proofs.turn.Turn.close.Goals as goal

pub unreachable-requires : goal.unreachable-requires
unreachable-requires g c =
    let i = c.self.inside in
    let all = ap (λ l. length l) c.into_vec.ensures ∙ (c.requires.1 ∙ (ap (λ l. l.passes) (sym c.self.view_is) ∙ sym c.self.invariant.2)) in
    let w = closes g.S.Storied.story g.S.Storied.frame g.S.Storied.by i.table.shared.key _ _ _ _ c.into_vec.result.items c.take-slot.result c.close_with-closed.ensures.values.2 (ap (λ m. m.0) c.gather_passes-seat.ensures.view) all c.gather_passes-seat.ensures.frames c.take-slot.ensures.value in
    c.in_default.not-Some w.0 w.1

pub returns-clause-known : goal.returns-clause-known
returns-clause-known g c =
    let i = c.self.inside in
    let all = ap (λ l. length l) c.into_vec.ensures ∙ (c.requires.1 ∙ (ap (λ l. l.passes) (sym c.self.view_is) ∙ sym c.self.invariant.2)) in
    let w = closes g.S.Storied.story g.S.Storied.frame g.S.Storied.by i.table.shared.key _ _ _ _ c.into_vec.result.items c.take-slot.result c.close_with-closed.ensures.values.2 (ap (λ m. m.0) c.gather_passes-seat.ensures.view) all c.gather_passes-seat.ensures.frames c.take-slot.ensures.value in
    let same = same_Some w.0 c.in-Some.state (sym w.1 ∙ c.in-Some.is) in
    let IsBorneOut : g.row.S.Denot → List (PassView g.row.S-Entry.Denot g.row.S-Frame.Denot) → Type 0 = λ x passes. All (λ p. BearsPassOut g.S.Storied.story g.S.Storied.frame g.S.Storied.by x p) passes in
    let known = subst (λ passes. IsBorneOut c.in-Some.state passes) c.into_vec.ensures (subst (λ x. IsBorneOut x c.into_vec.result.items) same w.2) in
    subst (λ x. IsBorneOut x c.args.passes) (sym c.into_state.ensures) known

pub returns-clause-callers : goal.returns-clause-callers
returns-clause-callers g c =
    let i = c.self.inside in
    let all = ap (λ l. length l) c.into_vec.ensures ∙ (c.requires.1 ∙ (ap (λ l. l.passes) (sym c.self.view_is) ∙ sym c.self.invariant.2)) in
    let w = closes g.S.Storied.story g.S.Storied.frame g.S.Storied.by i.table.shared.key _ _ _ _ c.into_vec.result.items c.take-slot.result c.close_with-closed.ensures.values.2 (ap (λ m. m.0) c.gather_passes-seat.ensures.view) all c.gather_passes-seat.ensures.frames c.take-slot.ensures.value in
    let same = same_Some w.0 c.in-Some.state (sym w.1 ∙ c.in-Some.is) in
    let n = c.self.invariant.2 ∙ ap (λ l. l.passes) c.self.view_is in
    let back = c.into_state.ensures ∙ sym same in
    all_callers g.S.Storied.story g.S.Storied.frame g.S.Storied.by c.args.self c.args.passes c.into_state.result c.requires.2 (λ k le. ap (λ x. entries_by g.S.Storied.by k (g.S.Storied.story x)) back ∙ w.3 k (omega arith))
