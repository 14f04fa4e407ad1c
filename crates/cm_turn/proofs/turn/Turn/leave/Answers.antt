use Rattle.std.proofs.Common.{rules, ◌≡◌, List, [], ◌∷◌, ◌++◌, Some, All, ap, ◌∙◌, sym, subst}
use Rattle.atomic_table.specs.Table.{rest}
use Rattle.std.proofs.lemmas.Option.{same_Some}
use Rattle.cm_turn.specs.History.{entries_by}
use Rattle.cm_turn.specs.Passes.{HeldView, view_in}
use Rattle.cm_turn.proofs.lemmas.Histories.{entries-left}
use Rattle.cm_turn.proofs.lemmas.ViewLists.{slot_same}
use Rattle.cm_turn.proofs.turn.Turn.leave.Goals as goal

pub record_entries-requires-clause-entries : goal.record_entries-requires-clause-entries
record_entries-requires-clause-entries g c =
    let i = c.held.inside in
    let P : HeldView g.row.S.Denot g.row.S-Entry.Denot g.row.S-Frame.Denot → Type 0 = λ h. (es : List g.row.S-Entry.Denot) × (g.S.Storied.story h.state ≡ h.pass.seen ++ es) × All (λ e. g.S.Storied.by e ≡ h.pass.caller) es in
    let need = subst P (sym c.held.view_is) c.requires.entries in
    let inv = c.held.invariant in
    let holding = inv.1.0.1 in
    let e = c.exchange-out.ensures.3 ∙ ap (λ l. (i.seat.me.0, (0, Some i.state) ∷ rest l)) inv.0 in
    (i.state, i.number, need.0, ap (λ m. m.1) e, ap (λ m. m.0.caller) e ∙ ap (λ v. v.caller) holding, need.1 ∙ ap (λ v. v.seen ++ need.0) (sym (ap (λ m. m.0) e)), need.2)

pub returns : goal.returns
returns g c =
    record {
      lock = search rules;
      frame = search rules;
      caller = search rules;
      seen = search rules;
      own = search rules;
      mine =
          let i = c.held.inside in
          let E = g.row.S-Entry.Denot in
          let story = g.S.Storied.story in
          let by = g.S.Storied.by in
          let P : HeldView g.row.S.Denot E g.row.S-Frame.Denot → Type 0 = λ h. (es : List E) × (story h.state ≡ h.pass.seen ++ es) × All (λ e. by e ≡ h.pass.caller) es in
          let need = subst P (sym c.held.view_is) c.requires.entries in
          let inv = c.held.invariant in
          let holding = inv.1.0.1 in
          let e = c.exchange-out.ensures.3 ∙ ap (λ l. (i.seat.me.0, (0, Some i.state) ∷ rest l)) inv.0 in
          let r = c.record_entries.ensures.view in
          let slot : (0, Some i.state) ∷ [] ≡ (0, Some r.0) ∷ [] = sym (ap (λ m. m.1) e) ∙ r.2 in
          let state : r.0 ≡ i.state = slot_same r.0 i.state (sym slot) in
          let caller : r.1 ≡ i.number = same_Some r.1 i.number (sym r.3 ∙ (ap (λ m. m.0.caller) e ∙ ap (λ v. v.caller) holding)) in
          let views = ap view_in (c.into_badge.ensures.2 ∙ ap (λ m. m.0 ∷ []) c.pass_turn_on.ensures.view) in
          let mine = ap (λ v. v.mine) views ∙ ap (λ m. m.0.mine) r.4 in
          let Q : HeldView g.row.S.Denot E g.row.S-Frame.Denot → Type 0 = λ h. (es : List E) → story h.state ≡ h.pass.seen ++ es → (view_in c.into_badge.result.views).mine ≡ h.pass.mine ++ es in
          subst Q c.held.view_is (λ es also. mine ∙ ((λ k. entries_by by (caller k) (story (state k))) ∙ entries-left by i.number (story i.state) i.seat.me.0.seen i.seat.me.0.mine need.0 es need.1 need.2 inv.1.1 also));
    }
