use Rattle.std.proofs.Common.{refl, sym, ◌∙◌, ap}
use Rattle.cm_world.proofs.lemmas.trees.Finding.{row_of-inc}
use Rattle.cm_steps.proofs.lemmas.read.Reading.{told_of, resolved_is, closed_is, idle_shut, idle_need, idle_begins}
use Rattle.cm_steps.proofs.replies.beginning.idle_answer.Goals as goal

pub returns-then-closed : goal.returns-then-closed
returns-then-closed c = λ r lives.
    let rows = c.args.table.now.rows in
    let on = ap (λ z. z.on) (told_of rows c.args.inc c.args.facts r c.requires.facts lives) in
    let has = resolved_is rows c.args.inc r c.is_resolved-resolved.result c.is_resolved-resolved.ensures lives in (
      idle_shut rows c.args.next_action c.args.inc c.args.kind r (sym (c.is_so.ensures r on has) ∙ c.if-is_so.false) (sym (closed_is rows c.args.inc r c.args.closed c.requires.closed lives) ∙ c.if-closed.true) (row_of-inc rows c.args.inc r lives),
      refl,
    )

pub returns-then-needs_decl : goal.returns-then-needs_decl
returns-then-needs_decl c = λ r lives.
    let rows = c.args.table.now.rows in
    let on = ap (λ z. z.on) (told_of rows c.args.inc c.args.facts r c.requires.facts lives) in
    let has = resolved_is rows c.args.inc r c.is_resolved-resolved.result c.is_resolved-resolved.ensures lives in (
      idle_need rows c.args.next_action c.args.inc c.args.kind r (sym (c.is_so.ensures r on has) ∙ c.if-is_so.false) (sym (closed_is rows c.args.inc r c.args.closed c.requires.closed lives) ∙ c.if-closed.false) (sym (c.needs_decl.ensures r has) ∙ c.if-needs_decl.true) (row_of-inc rows c.args.inc r lives),
      refl,
    )

pub returns : goal.returns
returns c = λ r lives.
    let rows = c.args.table.now.rows in
    let facts = told_of rows c.args.inc c.args.facts r c.requires.facts lives in
    let has = resolved_is rows c.args.inc r c.is_resolved-resolved.result c.is_resolved-resolved.ensures lives in
    idle_begins rows c.args.next_action c.args.kind r c.in_ok-boxed.boxed (sym (c.is_so.ensures r (ap (λ z. z.on) facts) has) ∙ c.if-is_so.false) (sym (closed_is rows c.args.inc r c.args.closed c.requires.closed lives) ∙ c.if-closed.false) (sym (c.needs_decl.ensures r has) ∙ c.if-needs_decl.false) (c.in_ok-boxed.ensures ∙ c.in_ok-work.ensures r lives (ap (λ z. z.parent) facts))
