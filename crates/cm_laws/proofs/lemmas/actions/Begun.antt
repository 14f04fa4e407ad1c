-- The row at which an action begins, and its beginner.
use Rattle.std.proofs.Common.{◌≡◌, ℕ, ◌+◌, ◌∷◌, ◌++◌, [], ◌==◌, List, Bool, true, false, cond, length, Option, Some, None, refl, sym, ◌∙◌, ap, subst, arith, IsTrue}
use Rattle.std.specs.Cmp.{unsigned_Decides}
use Rattle.cm_facts.proofs.Options.{is_some_false}
use Rattle.cm_facts.proofs.Lists.{find_last}
use Rattle.cm_world.specs.declared.row.Row.{Row}
use Rattle.cm_world.specs.declared.action.Act.{Act}
use Rattle.cm_world.specs.declared.action.ActKind.{ActKind}
use Rattle.cm_world.specs.declared.action.ActKind.TheVariants.{Resolve, Start, Stop}
use Rattle.cm_world.specs.declared.action.Finish.{Finish}
use Rattle.cm_world.specs.declared.action.Work.{Work}
use Rattle.cm_world.specs.declared.event.Event.TheVariants.{Begin, Pick}
use Rattle.cm_world.specs.declared.reply.Reply.{Reply}
use Rattle.cm_world.specs.declared.reply.Reply.TheVariants.{Gone, Already, Joined, Shut, Need, Begun, Stopping}
use Rattle.cm_world.specs.Rows.{row_of, is_gone, is_closed}
use Rattle.cm_world.specs.World.{World, act_of}
use Rattle.cm_world.specs.Begin.{same_act, is_so, needs_decl, begin_idle, begin_at, begin_reply}
use Rattle.cm_world.specs.Work.{work_of}
use Rattle.cm_world.specs.End.{fits_kind, HasValid}
use Rattle.cm_world.specs.Step.{MayEnd, PicksOn}
use Rattle.cm_world.specs.After.{new_act, with_action, after}
use Rattle.cm_world.proofs.lemmas.trees.Finding.{some_same}
use Rattle.cm_laws.specs.Story.{entry_of}
use Rattle.cm_laws.proofs.lemmas.actions.Tasks.{unused}
use Rattle.cm_laws.proofs.lemmas.actions.Numbers.{IsCounted}

-- no action is pending at it, it isn't closed, one that is to be resolved has no declaration, and this is the work there
pub record IsIdle (rows : List Row) (next : ℕ) (kind : ActKind) (work : Work) (o : Option Row) : Type 0 where
  pub row : Row
  pub lives : o ≡ Some row
  pub idle : row.pending ≡ None
  pub unclosed : is_closed rows row.inc ≡ false
  pub unresolved : kind ≡ Resolve → row.decl ≡ None
  pub work_is : work_of rows next kind row ≡ work

-- A row that isn't yet what an action makes it has no declaration, where that is to resolve it.
undeclared : (kind : ActKind) (r : Row) → is_so kind r ≡ false → kind ≡ Resolve → r.decl ≡ None
undeclared kind r so same = is_some_false r.decl (subst (λ k. is_so k r ≡ false) same so)

module _ (rows : List Row) (next i : ℕ) (kind : ActKind) (work : Work) where
  -- The work that a begin is answered by is that of the row.
  shut_by : (b c : Bool) (i j : ℕ) (v : Work) → cond b (Shut i) (cond c (Need j) (Begun v)) ≡ Begun work → v ≡ work
  shut_by true c i j v e = absurd (cc)
  shut_by false true i j v e = absurd (cc)
  shut_by false false i j v e = cc

  -- Where a begin is answered by work, the row isn't closed.
  closed_by : (b c : Bool) (i j : ℕ) (v : Work) → cond b (Shut i) (cond c (Need j) (Begun v)) ≡ Begun work → b ≡ false
  closed_by true c i j v e = absurd (cc)
  closed_by false c i j v e = refl

  -- Where nothing is pending and a begin is answered by work, the row is ready for it.
  so_by : (r : Row) (b : Bool) → is_so kind r ≡ b → r.pending ≡ None → cond b Already (cond (is_closed rows r.inc) (Shut r.inc) (cond (needs_decl kind r) (Need r.inc) (Begun (work_of rows next kind r)))) ≡ Begun work → IsIdle rows next kind work (Some r)
  so_by r true so idle e = absurd (cc)
  so_by r false so idle e = record {
    row = r;
    lives = refl;
    idle = idle;
    unclosed = closed_by (is_closed rows r.inc) (needs_decl kind r) r.inc r.inc (work_of rows next kind r) e;
    unresolved = undeclared kind r so;
    work_is = shut_by (is_closed rows r.inc) (needs_decl kind r) r.inc r.inc (work_of rows next kind r) e;
  }

  -- A join of a pending action isn't an answer by work.
  kind_by : (b : Bool) (a : ℕ) → cond b (Some (Joined a)) None ≡ Some (Begun work) → ⊥
  kind_by true a e = absurd (cc)
  kind_by false a e = absurd (cc)

  -- Where a begin is answered by work, whatever is pending, the row is ready for it.
  pending_by : (r : Row) (p : Option (ActKind × ℕ)) → r.pending ≡ p → elim p as (λ _. Option Reply) [ Some q ↦ cond (same_act kind q.0) (Some (Joined q.1)) None | None ↦ Some (begin_idle rows next kind r) ] ≡ Some (Begun work) → IsIdle rows next kind work (Some r)
  pending_by r (Some q) same e = absurd (kind_by (same_act kind q.0) q.1 e)
  pending_by r None same e = so_by r (is_so kind r) refl same (some_same (begin_idle rows next kind r) (Begun work) e)

  -- Where a begin is answered by work, there is a row that is ready for it.
  gone_by : (b : Bool) (o : Option Row) → cond b (Some (Gone i)) (elim o as (λ _. Option Reply) [ None ↦ Some (Gone i) | Some r ↦ begin_at rows next kind r ]) ≡ Some (Begun work) → IsIdle rows next kind work o
  gone_by true o e = absurd (cc)
  gone_by false None e = absurd (cc)
  gone_by false (Some r) e = pending_by r r.pending refl e

  -- A row at which an action begins lives, has nothing pending, and isn't closed.
  pub begun_row : begin_reply rows next kind i ≡ Some (Begun work) → IsIdle rows next kind work (row_of rows i)
  begun_row e = gone_by (is_gone rows i) (row_of rows i) e

-- ---- who began may end

-- The work of a row has the number of the next action.
work_action : (rows : List Row) (next : ℕ) (kind : ActKind) (r : Row) → (work_of rows next kind r).action ≡ next
work_action rows next Resolve r = refl
work_action rows next Start r = refl
work_action rows next Stop r = refl

-- the work names the next action
pub begun_action : (rows : List Row) (next i : ℕ) (kind : ActKind) (work : Work) → begin_reply rows next kind i ≡ Some (Begun work) → work.action ≡ next
begun_action rows next i kind work e =
    let idle : IsIdle rows next kind work (row_of rows i) = begun_row rows next i kind work e in
    sym (ap (λ v. v.action) idle.work_is) ∙ work_action rows next kind idle.row

-- a new action may be ended by its caller
may_end_new : (w : World) (caller i a : ℕ) (kind : ActKind) (finish : Finish) → IsCounted w → a ≡ w.next_action → IsTrue (fits_kind kind finish) → HasValid finish → MayEnd (with_action w caller kind i).acts caller a finish
may_end_new w caller i a kind finish counted same fits valid =
    let x : Act = new_act w.next_action kind i caller in
    let next : w.next_action ≡ length w.acts + 1 = counted.next in
    record {
      act = x;
      there =
          ap (act_of (w.acts ++ x ∷ [])) same
          ∙ find_last (λ y. y.action == w.next_action) w.acts x (unused 1 w.next_action w.acts counted.numbers (omega arith)) ((unsigned_Decides w.next_action w.next_action).1 refl);
      pending = refl;
      own = refl;
      fitting = fits;
      valid = valid;
    }

-- behind a begin its caller may end the action
pub may_end_begun : (w : World) (caller i : ℕ) (kind : ActKind) (work : Work) (finish : Finish) → IsCounted w → begin_reply w.rows w.next_action kind i ≡ Some (Begun work) → IsTrue (fits_kind kind finish) → HasValid finish → MayEnd (after w (entry_of caller (Begin kind i) (Begun work))).acts caller work.action finish
unfolding after
may_end_begun w caller i kind work finish counted begins fits valid =
    may_end_new w caller i work.action kind finish counted (begun_action w.rows w.next_action i kind work begins) fits valid

-- Who picks, and so begins a stop, may end it with what fits a stop.
pub may_end_picked : (w : World) (caller target : ℕ) (work : Work) (finish : Finish) → IsCounted w → PicksOn w.rows w.next_action target work → IsTrue (fits_kind Stop finish) → HasValid finish → MayEnd (after w (entry_of caller (Pick target) (Stopping work))).acts caller work.action finish
unfolding after
may_end_picked w caller target work finish counted picks fits valid =
    may_end_new w caller work.inc work.action Stop finish counted (ap (λ v. v.action) picks.same) fits valid
