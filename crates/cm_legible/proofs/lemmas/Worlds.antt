-- Entries leave a world that can be told of, where their events can.
use Rattle.std.proofs.Common.{◌≡◌, ℕ, ◌+◌, List, [], ◌∷◌, Bool, true, false, cond, not, ◌&&◌, ◌==◌, Option, Some, None, All, IsTrue, sym, subst}
use Rattle.std.specs.Prelude.{IfSome}
use Rattle.std.proofs.lemmas.List.Elements.{All-cons, All-append, All-filter, All-tail, All-nil}
use Rattle.cm_names.specs.Moniker.{IsChildName}
use Rattle.cm_names.specs.Urls.{is_url_text}
use Rattle.cm_facts.proofs.Lists.{All_map}
use Rattle.cm_decl.specs.declared.decl.Decl.{Decl}
use Rattle.cm_decl.specs.declared.rows.Child.{Child}
use Rattle.cm_world.specs.declared.row.Row.{Row}
use Rattle.cm_world.specs.declared.action.Act.{Act}
use Rattle.cm_world.specs.declared.action.ActKind.{ActKind}
use Rattle.cm_world.specs.declared.action.ActKind.TheVariants.{Stop}
use Rattle.cm_world.specs.declared.action.Finish.{Finish}
use Rattle.cm_world.specs.declared.action.Finish.TheVariants as finish
use Rattle.cm_world.specs.declared.action.Outcome.{Outcome}
use Rattle.cm_world.specs.declared.action.Outcome.TheVariants as outcome
use Rattle.cm_world.specs.declared.reply.Entry.{Entry}
use Rattle.cm_world.specs.declared.reply.Reply.{Reply}
use Rattle.cm_world.specs.declared.reply.Reply.TheVariants as reply
use Rattle.cm_world.specs.declared.event.Event.{Event}
use Rattle.cm_world.specs.declared.event.Event.TheVariants.{Begin, End, Await, Create, Mark, Pick, Purge, Exited}
use Rattle.cm_world.specs.declared.frame.Frame.{Frame}
use Rattle.cm_world.specs.Rows.{is_below}
use Rattle.cm_world.specs.World.{World, start, root_row, act_of}
use Rattle.cm_world.specs.End.{changed, set_pending, set_on, set_closing, set_doomed, set_shut, set_decl, end_row, child_row, child_rows, rows_by}
use Rattle.cm_world.specs.Create.{created_row}
use Rattle.cm_world.specs.Expiring.{expired, goes_with, is_stopped}
use Rattle.cm_world.specs.After.{moved, after, with_end_of}
use Rattle.cm_legible.specs.Tellable.{IsTellable, IsTellableFinish, IsTellableDecl, IsTellableKid, IsTellableGive, IsTellableRow, IsTellableWorld, IsTellableFrame}
use Rattle.cm_legible.proofs.lemmas.Lists.{head, edit-All}

-- All of these rows can be told of.
abbrev Rows : List Row → Type 0
Rows rows = All IsTellableRow rows

-- a change that leaves what is told of
abbrev Leaves : (Row → Row) → Type 0
Leaves change = (r : Row) → IsTellableRow r → IsTellableRow (change r)

-- a row with the same name, URL, declaration and gives
same_row : (r s : Row) → s.name ≡ r.name → s.url ≡ r.url → s.decl ≡ r.decl → s.gives ≡ r.gives → IsTellableRow r → IsTellableRow s
same_row r s name url decl gives h = record {
  name = subst (λ o. IfSome o IsChildName) (sym name) h.name;
  url = subst (λ t. IsTrue (is_url_text t)) (sym url) h.url;
  decl = subst (λ o. IfSome o IsTellableDecl) (sym decl) h.decl;
  gives = subst (All IsTellableGive) (sym gives) h.gives;
}

-- Rows that can be told of can still be told of where one is changed in a harmless way.
change_rows : (i : ℕ) (change : Row → Row) (rows : List Row) → Leaves change → Rows rows → Rows (changed i change rows)
change_rows i change rows leaves h = edit-All IsTellableRow (λ r. r.inc == i) change rows leaves h

-- A row with another pending action, or none, can be told of as before.
leaves_pending : (p : Option (ActKind × ℕ)) → Leaves (set_pending p)
leaves_pending p r h = record { name = h.name; url = h.url; decl = h.decl; gives = h.gives }

-- A row with its program on or off can be told of as before.
leaves_on : (b : Bool) → Leaves (set_on b)
leaves_on b r h = record { name = h.name; url = h.url; decl = h.decl; gives = h.gives }

-- A row marked to be shut down can be told of as before.
leaves_closing : Leaves set_closing
leaves_closing r h = record { name = h.name; url = h.url; decl = h.decl; gives = h.gives }

-- A row marked to be destroyed can be told of as before.
leaves_doomed : Leaves set_doomed
leaves_doomed r h = record { name = h.name; url = h.url; decl = h.decl; gives = h.gives }

-- A row shut down can be told of as before.
leaves_shut : Leaves set_shut
leaves_shut r h = record { name = h.name; url = h.url; decl = h.decl; gives = h.gives }

-- A row marked to be destroyed or to be shut down can be told of as before.
leaves_mark : (doom : Bool) → Leaves (cond doom set_doomed set_closing)
leaves_mark true = leaves_doomed
leaves_mark false = leaves_closing

-- A row at which an action ended can be told of as before.
leaves_end : (o : Outcome) → Leaves (end_row o)
leaves_end outcome.Started r h = leaves_on true (set_pending None r) (leaves_pending None r h)
leaves_end outcome.Stopped r h = leaves_on false (set_pending None r) (leaves_pending None r h)
leaves_end outcome.Killed r h = leaves_on false (set_pending None r) (leaves_pending None r h)
leaves_end _ r h = leaves_pending None r h

-- ---- new rows

-- The rows of a declaration's static children can be told of, where the children can.
kid_rows : (p next : ℕ) (ks : List Child) → All IsTellableKid ks → Rows (child_rows p next ks)
kid_rows p next [] h = All-nil IsTellableRow
kid_rows p next (k ∷ ks) h =
    let kid : IsTellableKid k = head IsTellableKid k ks h in
    All-cons IsTellableRow (child_row p next k) (child_rows p (next + 1) ks)
    (record { name = (kid.name, tt); url = kid.url; decl = tt; gives = All-nil IsTellableGive })
    (kid_rows p (next + 1) ks (All-tail IsTellableKid k ks h))

-- Rows can be told of behind a resolution, where its declaration can.
resolves_rows : (i next : ℕ) (url : List ℕ) (d : Decl) (o : Outcome) (rows : List Row) → IsTellableDecl d → Rows rows → Rows (rows_by i next (finish.Resolved url d) o rows)
resolves_rows i next url d outcome.Resolved rows told h =
    All-append IsTellableRow (changed i (λ r. set_decl url d (set_pending None r)) rows) (child_rows i next d.children)
    (change_rows i (λ r. set_decl url d (set_pending None r)) rows (λ r k. record { name = k.name; url = k.url; decl = told; gives = k.gives }) h)
    (kid_rows i next d.children told.children)
resolves_rows i next url d o rows told h = change_rows i (end_row o) rows (leaves_end o) h

-- Rows can be told of behind the finish of an action, where what it brings can.
ends_rows : (i next : ℕ) (f : Finish) (o : Outcome) (rows : List Row) → IsTellableFinish f → Rows rows → Rows (rows_by i next f o rows)
ends_rows i next (finish.Resolved url d) o rows told h = resolves_rows i next url d o rows told h
ends_rows i next (finish.Other x) o rows told h = change_rows i (end_row o) rows (leaves_end o) h

-- ---- what expires

-- A row that can be told of can be when it is marked to be destroyed, or not.
doomed_if : (b : Bool) (r : Row) → IsTellableRow r → IsTellableRow (cond b (set_doomed r) r)
doomed_if true r h = leaves_doomed r h
doomed_if false r h = h

-- Rows that can be told of can be when what goes with one that stopped is doomed.
expire_rows : (i : ℕ) (rows : List Row) → Rows rows → Rows (expired i rows)
expire_rows i rows h = All_map IsTellableRow IsTellableRow (λ r. cond (goes_with rows i r && not r.doomed) (set_doomed r) r) rows (λ r. doomed_if (goes_with rows i r && not r.doomed) r) h

-- Rows that can be told of can be when what goes with one that stopped is doomed, or not.
expire_if : (b : Bool) (i : ℕ) (rows : List Row) → Rows rows → Rows (cond b (expired i rows) rows)
expire_if true i rows h = expire_rows i rows h
expire_if false i rows h = h

-- ---- worlds

-- A world can be told of behind the end of an action, where what it brings can.
end_tellable : (w : World) (a : ℕ) (f : Finish) (o : Outcome) (x : Option Act) → IsTellableFinish f → IsTellableWorld w → IsTellableWorld (with_end_of w a f o x)
end_tellable w a f o None told h = h
end_tellable w a f o (Some x) told h = record {
  rows = expire_if (is_stopped o) x.inc (rows_by x.inc w.next_inc f o w.rows) (ends_rows x.inc w.next_inc f o w.rows told h.rows);
  builtins = h.builtins;
}

-- A world that can be told stays so when an event that can be told moves it, whatever the reply.
pub moved_tellable : (w : World) (c : ℕ) (e : Event) (r : Reply) → IsTellable e → IsTellableWorld w → IsTellableWorld (moved w c e r)
moved_tellable w c (Begin kind i) (reply.Begun work) told h =
    record { rows = change_rows i (set_pending (Some (kind, w.next_action))) w.rows (leaves_pending _) h.rows; builtins = h.builtins }
moved_tellable w c (Begin kind i) (reply.Joined a) told h = record { rows = h.rows; builtins = h.builtins }
moved_tellable w c (End a f) (reply.Ended o) told h = end_tellable w a f o (act_of w.acts a) told h
moved_tellable w c (Await a) (reply.Ended o) told h = record { rows = h.rows; builtins = h.builtins }
moved_tellable w c (Create p child) (reply.Created i) told h = record {
  rows = All-append IsTellableRow w.rows (created_row i p child.coll child.name child.url child.gives ∷ []) h.rows
      (All-cons IsTellableRow (created_row i p child.coll child.name child.url child.gives) [] (record { name = (told.1, told.0); url = told.2; decl = tt; gives = told.3 }) (All-nil IsTellableRow));
  builtins = h.builtins;
}
moved_tellable w c (Mark doom i) reply.Marked told h = record { rows = change_rows i (cond doom set_doomed set_closing) w.rows (leaves_mark doom) h.rows; builtins = h.builtins }
moved_tellable w c (Pick t) (reply.Stopping work) told h =
    record { rows = change_rows work.inc (set_pending (Some (Stop, w.next_action))) w.rows (leaves_pending _) h.rows; builtins = h.builtins }
moved_tellable w c (Pick t) (reply.ShutDown i) told h = record { rows = change_rows i set_shut w.rows leaves_shut h.rows; builtins = h.builtins }
moved_tellable w c (Purge i) (reply.Purged lost) told h = record { rows = All-filter (λ r. not (is_below w.rows i r.inc)) IsTellableRow w.rows h.rows; builtins = h.builtins }
moved_tellable w c (Exited i) (reply.Left m) told h =
    record { rows = expire_rows i (changed i (set_on false) w.rows) (change_rows i (set_on false) w.rows (leaves_on false) h.rows); builtins = h.builtins }
moved_tellable w c e r told h = h

-- A world that can be told is so after an entry whose event can be told.
pub after_tellable : (w : World) (e : Entry) → IsTellable e.event → IsTellableWorld w → IsTellableWorld (after w e)
unfolding after
after_tellable w e told h =
    let m : IsTellableWorld (moved w e.caller e.event e.reply) = moved_tellable w e.caller e.event e.reply told h in
    record { rows = m.rows; builtins = m.builtins }

-- The first world of a realm can be told, where what the realm was made with can.
pub start_tellable : (f : Frame) → IsTellableFrame f → IsTellableWorld (start f)
start_tellable f h = record {
  rows = All-cons IsTellableRow (root_row f.root) [] (record { name = tt; url = h.root; decl = tt; gives = All-nil IsTellableGive }) (All-nil IsTellableRow);
  builtins = h.builtins;
}
