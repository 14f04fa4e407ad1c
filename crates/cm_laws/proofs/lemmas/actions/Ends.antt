-- What the end of an action leaves.
use Rattle.std.proofs.Common.{◌≡◌, ℕ, List, [], true, true≢false, append-nil, None, refl, sym, subst}
use Rattle.cm_decl.specs.declared.decl.Decl.{Decl}
use Rattle.cm_world.specs.declared.row.Row.{Row}
use Rattle.cm_world.specs.declared.action.Act.{Act}
use Rattle.cm_world.specs.declared.action.ActKind.{ActKind}
use Rattle.cm_world.specs.declared.action.ActKind.TheVariants.{Resolve, Start, Stop}
use Rattle.cm_world.specs.declared.action.Outcome.{Outcome}
use Rattle.cm_world.specs.declared.action.Outcome.TheVariants as outcome
use Rattle.cm_world.specs.declared.action.Finish.{Finish}
use Rattle.cm_world.specs.declared.action.Finish.TheVariants as finish
use Rattle.cm_world.specs.End.{fits_kind, changed, end_row, set_decl, set_pending, rows_by, ended, child_rows}
use Rattle.cm_world.specs.Step.{MayEnd}
use Rattle.cm_world.proofs.lemmas.trees.Finding.{none_some}
use Rattle.cm_laws.specs.Tasks.{IsTasked}
use Rattle.cm_laws.proofs.lemmas.actions.Tasks.{tasked_ended, idle_kids}

-- The end of an action leaves its row's incarnation.
end_inc : (o : Outcome) (r : Row) → (end_row o r).inc ≡ r.inc
end_inc outcome.Started r = refl
end_inc outcome.Stopped r = refl
end_inc outcome.Killed r = refl
end_inc _ r = refl

-- Nothing is pending at a row behind the end of an action there.
pub end_idle : (o : Outcome) (r : Row) → (end_row o r).pending ≡ None
end_idle outcome.Started r = refl
end_idle outcome.Stopped r = refl
end_idle outcome.Killed r = refl
end_idle _ r = refl

-- Rows and actions still agree once an action has ended at its row.
one_row : (rows : List Row) (acts : List Act) (caller a : ℕ) (f : Finish) (o : Outcome) → (may : MayEnd acts caller a f) → IsTasked rows acts → IsTasked (changed may.act.inc (end_row o) rows) (ended a o acts)
one_row rows acts caller a f o may tasked =
    subst (λ rs. IsTasked rs (ended a o acts)) (append-nil (changed may.act.inc (end_row o) rows))
    (tasked_ended rows [] acts a may.act o (end_row o) (end_inc o) (end_idle o) (λ j r e. absurd (none_some r e)) tasked may.there may.pending)

-- what is pending where behind the end of an action
pub tasked_by : (rows : List Row) (acts : List Act) (caller a next : ℕ) (f : Finish) (o : Outcome) → (may : MayEnd acts caller a f) → IsTasked rows acts → IsTasked (rows_by may.act.inc next f o rows) (ended a o acts)
tasked_by rows acts caller a next (finish.Other p) o may tasked = one_row rows acts caller a (finish.Other p) o may tasked
tasked_by rows acts caller a next (finish.Resolved url d) outcome.Resolved may tasked =
    tasked_ended rows (child_rows may.act.inc next d.children) acts a may.act outcome.Resolved (λ r. set_decl url d (set_pending None r)) (λ r. refl) (λ r. refl) (idle_kids may.act.inc next d.children) tasked may.there may.pending
tasked_by rows acts caller a next (finish.Resolved url d) o may tasked = one_row rows acts caller a (finish.Resolved url d) o may tasked

-- what ends by a declaration is a resolve
pub kind_of_resolve : (k : ActKind) (url : List ℕ) (d : Decl) → fits_kind k (finish.Resolved url d) ≡ true → k ≡ Resolve
kind_of_resolve Resolve url d e = refl
kind_of_resolve Start url d e = absurd (true≢false (sym e))
kind_of_resolve Stop url d e = absurd (true≢false (sym e))
