-- Promised.
-- The reply to a begin, by which a caller resolves, starts or stops an instance.
use Rattle.std.specs.Prelude.{ℕ, List, Bool, true, false, not, Option, Some, None, is_some, is_none}
use Rattle.std.specs.Prelude.{if◌then◌else◌}
use Rattle.cm_world.specs.declared.row.Row.{Row}
use Rattle.cm_world.specs.declared.action.ActKind.{ActKind}
use Rattle.cm_world.specs.declared.action.ActKind.TheVariants.{Resolve, Start, Stop}
use Rattle.cm_world.specs.declared.reply.Reply.{Reply}
use Rattle.cm_world.specs.declared.reply.Reply.TheVariants.{Gone, Joined, Already, Shut, Need, Begun}
use Rattle.cm_world.specs.Rows.{row_of, is_gone, is_closed}
use Rattle.cm_world.specs.Work.{work_of}

-- whether two kinds of action are the same one
abbrev pub same_act : ActKind → ActKind → Bool
same_act Resolve Resolve = true
same_act Start Start = true
same_act Stop Stop = true
same_act _ _ = false

-- whether a row is already as the action would make it: resolved, on, or off
abbrev pub is_so : ActKind → Row → Bool
is_so Resolve r = is_some r.decl
is_so Start r = r.on
is_so Stop r = not r.on

-- whether a row has to be resolved before this action can begin; only a start needs that
abbrev pub needs_decl : ActKind → Row → Bool
needs_decl Start r = is_none r.decl
needs_decl _ r = false

-- the reply to a begin at a row without a pending action; next is the number that the action would get
abbrev pub begin_idle : List Row → ℕ → ActKind → Row → Reply
begin_idle rows next kind r =
    if is_so kind r then Already
    else if is_closed rows r.inc then Shut r.inc
    else if needs_decl kind r then Need r.inc
    else Begun (work_of rows next kind r)

-- the reply to a begin at a row that lives: a pending action of the same kind is joined, and there is
-- no reply as long as one of another kind is pending
abbrev pub begin_at : List Row → ℕ → ActKind → Row → Option Reply
begin_at rows next kind r =
    elim r.pending as (λ _. Option Reply) [
      | Some p ↦ if same_act kind p.0 then Some (Joined p.1) else None
      | None ↦ Some (begin_idle rows next kind r)
    ]

-- the reply to a begin at an incarnation; none where an action of another kind is pending, for which
-- the caller waits
abbrev pub begin_reply : List Row → ℕ → ActKind → ℕ → Option Reply
begin_reply rows next kind i =
    if is_gone rows i then Some (Gone i) else
    elim (row_of rows i) as (λ _. Option Reply) [ None ↦ Some (Gone i) | Some r ↦ begin_at rows next kind r ]
