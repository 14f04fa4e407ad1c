-- What is pending at a row is an action that was begun.
use Rattle.std.proofs.Common.{◌≡◌, ℕ, ◌+◌, ◌==◌, List, [], ◌∷◌, ◌++◌, Bool, true, false, cond, not, ◌&&◌, filter, map, Option, Some, None, refl, sym, ◌∙◌, ap, subst}
use Rattle.cm_decl.specs.declared.rows.Child.{Child}
use Rattle.cm_world.specs.declared.row.Row.{Row}
use Rattle.cm_world.specs.declared.action.Act.{Act}
use Rattle.cm_world.specs.declared.action.ActKind.{ActKind}
use Rattle.cm_world.specs.declared.action.ActKind.TheVariants.{Stop}
use Rattle.cm_world.specs.declared.action.Outcome.{Outcome}
use Rattle.cm_world.specs.declared.action.Outcome.TheVariants as outcome
use Rattle.cm_world.specs.declared.action.Work.{Work}
use Rattle.cm_world.specs.declared.action.Finish.{Finish}
use Rattle.cm_world.specs.declared.action.Finish.TheVariants.{Resolved, Other}
use Rattle.cm_world.specs.declared.event.Event.{Event}
use Rattle.cm_world.specs.declared.event.Event.TheVariants.{Begin, End, Await, Create, Mark, Pick, Purge, Exited}
use Rattle.cm_world.specs.declared.reply.Reply.{Reply}
use Rattle.cm_world.specs.declared.reply.Reply.TheVariants as reply
use Rattle.cm_world.specs.Rows.{row_of, is_below, is_gone, is_closed}
use Rattle.cm_world.specs.World.{World, root_row, act_of}
use Rattle.cm_world.specs.Begin.{same_act, is_so, needs_decl, begin_idle, begin_at, begin_reply}
use Rattle.cm_world.specs.End.{changed, set_pending, set_on, set_closing, set_doomed, set_shut, set_decl, end_row, child_row, child_rows, rows_by}
use Rattle.cm_world.specs.Create.{created_row}
use Rattle.cm_world.specs.Expiring.{goes_with, expired, is_stopped}
use Rattle.cm_world.specs.After.{with_end_of, moved}
use Rattle.cm_world.proofs.lemmas.trees.Finding.{none_some, some_same}
use Rattle.cm_laws.specs.Lasting.{begun_by}
use Rattle.cm_laws.proofs.lemmas.actions.Ends.{end_idle}
use Rattle.cm_trees.proofs.rows.Dooming.{doom_pending}

-- an action of that number was begun
abbrev pub IsKnown : List Act → ℕ → Type 0
IsKnown acts a = (x : Act) × (act_of acts a ≡ Some x)

-- what is pending at a row was begun
pub record IsKnownAt (acts : List Act) (r : Row) : Type 0 where
  pub known : (kind : ActKind) (a : ℕ) → r.pending ≡ Some (kind, a) → IsKnown acts a

-- What is pending at each of these rows was begun.
pub AreKnown : List Act → List Row → Type 0
AreKnown acts [] = Unit {0}
AreKnown acts (r ∷ rs) = IsKnownAt acts r × AreKnown acts rs

-- ---- rows

-- Where nothing is pending at a row, all that is pending there was begun.
pub idle_known : (acts : List Act) (r : Row) → r.pending ≡ None → IsKnownAt acts r
idle_known acts r idle = record { known = λ kind a e. absurd (none_some (kind, a) (sym idle ∙ e)) }

-- Where what is pending at a row was begun, so was it at one with the same pending.
same_known : (acts : List Act) (r s : Row) → s.pending ≡ r.pending → IsKnownAt acts r → IsKnownAt acts s
same_known acts r s same it = record { known = λ kind a e. it.known kind a (sym same ∙ e) }

-- The number of what is pending, or another where nothing is.
number_of : Option (ActKind × ℕ) → ℕ → ℕ
number_of o d = elim o as (λ _. ℕ) [ None ↦ d | Some p ↦ p.1 ]

-- What is pending at a row was begun, where it is set to an action that was.
new_known : (acts : List Act) (r : Row) (kind : ActKind) (n : ℕ) → IsKnown acts n → IsKnownAt acts (set_pending (Some (kind, n)) r)
unfolding number_of
new_known acts r kind n it = record { known = λ k a e. subst (IsKnown acts) (ap (λ o. number_of o n) e) it }

-- What is pending at a row was begun, where each action that was is so among others.
more_known : (acts bs : List Act) (r : Row) → ((a : ℕ) → IsKnown acts a → IsKnown bs a) → IsKnownAt acts r → IsKnownAt bs r
more_known acts bs r more it = record { known = λ kind a e. more a (it.known kind a e) }

-- nothing is pending at the root of a new realm
pub root_known : (url : List ℕ) → AreKnown [] (root_row url ∷ [])
unfolding AreKnown
root_known url = (idle_known [] (root_row url) refl, tt)

-- What is pending at rows and was begun still was where no begun action is lost.
pub grown_known : (acts bs : List Act) (rows : List Row) → ((a : ℕ) → IsKnown acts a → IsKnown bs a) → AreKnown acts rows → AreKnown bs rows
unfolding AreKnown
grown_known acts bs [] more all = tt
grown_known acts bs (r ∷ rs) more all = (more_known acts bs r more all.0, grown_known acts bs rs more all.1)

module _ (acts : List Act) where
  -- What is pending at rows was begun after a change of one that leaves it so, row by row.
  changed_by : (b : Bool) (i : ℕ) (f : Row → Row) (r : Row) (rs : List Row) → (IsKnownAt acts r → IsKnownAt acts (f r)) → IsKnownAt acts r → AreKnown acts rs → AreKnown acts (changed i f rs) → AreKnown acts (cond b (f r ∷ rs) (r ∷ changed i f rs))
  unfolding AreKnown
  changed_by true i f r rs keeps it rest more = (keeps it, rest)
  changed_by false i f r rs keeps it rest more = (it, more)

  -- What is pending at rows was begun after a change of one that leaves it so.
  known_changed : (i : ℕ) (f : Row → Row) (rows : List Row) → ((r : Row) → IsKnownAt acts r → IsKnownAt acts (f r)) → AreKnown acts rows → AreKnown acts (changed i f rows)
  unfolding AreKnown
  known_changed i f [] keeps all = tt
  known_changed i f (r ∷ rs) keeps all =
      changed_by (r.inc == i) i f r rs (keeps r) all.0 all.1 (known_changed i f rs keeps all.1)

  -- a change that leaves what is pending
  kept_changed : (i : ℕ) (f : Row → Row) (rows : List Row) → ((r : Row) → (f r).pending ≡ r.pending) → AreKnown acts rows → AreKnown acts (changed i f rows)
  kept_changed i f rows same all = known_changed i f rows (λ r it. same_known acts r (f r) (same r) it) all

  -- a change behind which nothing is pending
  idle_changed : (i : ℕ) (f : Row → Row) (rows : List Row) → ((r : Row) → (f r).pending ≡ None) → AreKnown acts rows → AreKnown acts (changed i f rows)
  idle_changed i f rows idle all = known_changed i f rows (λ r it. idle_known acts (f r) (idle r)) all

  -- What is pending at rows was begun, where one of them has a begun action set.
  new_changed : (i n : ℕ) (kind : ActKind) (rows : List Row) → IsKnown acts n → AreKnown acts rows → AreKnown acts (changed i (set_pending (Some (kind, n))) rows)
  new_changed i n kind rows new all =
      known_changed i (set_pending (Some (kind, n))) rows (λ r it. new_known acts r kind n new) all

  -- What is pending at rows was begun, where it was at those before and those behind.
  known_append : (rows more : List Row) → AreKnown acts rows → AreKnown acts more → AreKnown acts (rows ++ more)
  unfolding AreKnown
  known_append [] more all rest = rest
  known_append (r ∷ rs) more all rest = (all.0, known_append rs more all.1 rest)

  -- What is pending at the rows of declared children was begun, as nothing is.
  kids_known : (parent next : ℕ) (ks : List Child) → AreKnown acts (child_rows parent next ks)
  unfolding AreKnown
  kids_known parent next [] = tt
  kids_known parent next (k ∷ ks) = (idle_known acts (child_row parent next k) refl, kids_known parent (next + 1) ks)

  -- What is pending at rows that are left was begun, row by row.
  filtered_by : (b : Bool) (r : Row) (rs : List Row) → IsKnownAt acts r → AreKnown acts rs → AreKnown acts (cond b (r ∷ rs) rs)
  unfolding AreKnown
  filtered_by true r rs it rest = (it, rest)
  filtered_by false r rs it rest = rest

  -- What is pending at the rows that pass a test was begun, where it was at all.
  known_filter : (p : Row → Bool) (rows : List Row) → AreKnown acts rows → AreKnown acts (filter p rows)
  unfolding AreKnown
  known_filter p [] all = tt
  known_filter p (r ∷ rs) all = filtered_by (p r) r (filter p rs) all.0 (known_filter p rs all.1)

  -- What is pending at a row that is found was begun, row by row.
  found_by : (b : Bool) (r s : Row) (o : Option Row) → IsKnownAt acts s → (o ≡ Some r → IsKnownAt acts r) → cond b (Some s) o ≡ Some r → IsKnownAt acts r
  found_by true r s o it later e = subst (IsKnownAt acts) (some_same s r e) it
  found_by false r s o it later e = later e

  -- Where what is pending at rows was begun, so was what is pending at the row of an incarnation.
  pub known_found : (rows : List Row) (i : ℕ) (r : Row) → AreKnown acts rows → row_of rows i ≡ Some r → IsKnownAt acts r
  unfolding AreKnown
  known_found [] i r all e = absurd (none_some r e)
  known_found (s ∷ ss) i r all e = found_by (s.inc == i) r s (row_of ss i) all.0 (known_found ss i r all.1) e

  -- ---- behind an entry

  -- A mark leaves what is pending at a row.
  mark_keeps : (doom : Bool) (r : Row) → (cond doom set_doomed set_closing r).pending ≡ r.pending
  mark_keeps true r = refl
  mark_keeps false r = refl

  -- What is pending at rows was begun once an action's end has changed them.
  known_ended : (i next : ℕ) (f : Finish) (o : Outcome) (rows : List Row) → AreKnown acts rows → AreKnown acts (rows_by i next f o rows)
  known_ended i next (Other p) o rows all = idle_changed i (end_row o) rows (end_idle o) all
  known_ended i next (Resolved url d) outcome.Resolved rows all =
      known_append (changed i (λ r. set_decl url d (set_pending None r)) rows) (child_rows i next d.children)
      (idle_changed i (λ r. set_decl url d (set_pending None r)) rows (λ r. refl) all) (kids_known i next d.children)
  known_ended i next (Resolved url d) o rows all = idle_changed i (end_row o) rows (end_idle o) all

  -- What is pending at rows was begun after a change of each that leaves what is pending.
  known_map : (g : Row → Row) → ((r : Row) → (g r).pending ≡ r.pending) → (rows : List Row) → AreKnown acts rows → AreKnown acts (map g rows)
  unfolding AreKnown
  known_map g same [] all = tt
  known_map g same (r ∷ rs) all = (same_known acts r (g r) (same r) all.0, known_map g same rs all.1)

  -- What is pending at rows was begun after an expiry.
  known_expired : (i : ℕ) (rows : List Row) → AreKnown acts rows → AreKnown acts (expired i rows)
  known_expired i rows all =
      known_map (λ r. cond (goes_with rows i r && not r.doomed) (set_doomed r) r)
      (λ r. doom_pending (goes_with rows i r && not r.doomed) r) rows all

  -- What is pending at rows was begun, whether there was an expiry or not.
  expired_if : (b : Bool) (i : ℕ) (rows : List Row) → AreKnown acts rows → AreKnown acts (cond b (expired i rows) rows)
  expired_if true i rows all = known_expired i rows all
  expired_if false i rows all = all

  -- What is pending at the rows of a world in which an action has ended was begun.
  ended_rows : (w : World) (a : ℕ) (f : Finish) (o : Outcome) (x : Option Act) → AreKnown acts w.rows → AreKnown acts (with_end_of w a f o x).rows
  ended_rows w a f o None all = all
  ended_rows w a f o (Some y) all =
      expired_if (is_stopped o) y.inc (rows_by y.inc w.next_inc f o w.rows) (known_ended y.inc w.next_inc f o w.rows all)

  -- Behind an entry what is pending at rows was begun, where the action that it begins, if any, was.
  pub rows_known : (w : World) (caller : ℕ) (e : Event) (r : Reply) → ((a : ℕ) → begun_by r ≡ Some a → IsKnown acts w.next_action) → AreKnown acts w.rows → AreKnown acts (moved w caller e r).rows
  unfolding AreKnown
  rows_known w caller (Begin kind i) (reply.Begun work) new all = new_changed i w.next_action kind w.rows (new work.action refl) all
  rows_known w caller (Begin kind i) (reply.Joined b) new all = all
  rows_known w caller (End b f) (reply.Ended o) new all = ended_rows w b f o (act_of w.acts b) all
  rows_known w caller (Await b) (reply.Ended o) new all = all
  rows_known w caller (Create p child) (reply.Created i) new all =
      known_append w.rows (created_row i p child.coll child.name child.url child.gives ∷ []) all (idle_known acts (created_row i p child.coll child.name child.url child.gives) refl, tt)
  rows_known w caller (Mark doom i) reply.Marked new all = kept_changed i (cond doom set_doomed set_closing) w.rows (mark_keeps doom) all
  rows_known w caller (Pick t) (reply.Stopping work) new all =
      new_changed work.inc w.next_action Stop w.rows (new work.action refl) all
  rows_known w caller (Pick t) (reply.ShutDown i) new all = kept_changed i set_shut w.rows (λ r. refl) all
  rows_known w caller (Purge i) (reply.Purged lost) new all = known_filter (λ r. not (is_below w.rows i r.inc)) w.rows all
  rows_known w caller (Exited i) (reply.Left m) new all =
      known_expired i (changed i (set_on false) w.rows) (kept_changed i (set_on false) w.rows (λ r. refl) all)
  rows_known w caller e r new all = all

-- ---- what a begin joins

module _ (rows : List Row) (next i : ℕ) (kind : ActKind) (a : ℕ) where
  -- an action of some kind is pending at a row with this number
  record IsJoinedAt (o : Option Row) : Type 0 where
    row : Row
    lives : o ≡ Some row
    of : ActKind
    pending : row.pending ≡ Some (of, a)

  -- A begin at a row with nothing pending isn't answered by a join.
  idle_joins : (b c d : Bool) (j : ℕ) (work : Work) → cond b reply.Already (cond c (reply.Shut j) (cond d (reply.Need j) (reply.Begun work))) ≡ reply.Joined a → ⊥
  idle_joins true c d j work e = absurd (cc)
  idle_joins false true d j work e = absurd (cc)
  idle_joins false false true j work e = absurd (cc)
  idle_joins false false false j work e = absurd (cc)

  -- A begin that joins what is pending joins the action of that number.
  kind_joins : (b : Bool) (n : ℕ) → cond b (Some (reply.Joined n)) None ≡ Some (reply.Joined a) → n ≡ a
  kind_joins true n e = cc
  kind_joins false n e = absurd (cc)

  -- A begin at a row that joins an action joins what is pending there.
  pending_joins : (r : Row) (o : Option (ActKind × ℕ)) → r.pending ≡ o → elim o as (λ _. Option Reply) [ Some q ↦ cond (same_act kind q.0) (Some (reply.Joined q.1)) None | None ↦ Some (begin_idle rows next kind r) ] ≡ Some (reply.Joined a) → IsJoinedAt (Some r)
  pending_joins r (Some q) same e = record {
    row = r;
    lives = refl;
    of = q.0;
    pending = same ∙ ap (λ n. Some (q.0, n)) (kind_joins (same_act kind q.0) q.1 e);
  }
  pending_joins r None same e =
      absurd (idle_joins (is_so kind r) (is_closed rows r.inc) (needs_decl kind r) r.inc _ (some_same (begin_idle rows next kind r) (reply.Joined a) e))

  -- A begin that joins an action has a row at which that is pending.
  gone_joins : (b : Bool) (o : Option Row) → cond b (Some (reply.Gone i)) (elim o as (λ _. Option Reply) [ None ↦ Some (reply.Gone i) | Some r ↦ begin_at rows next kind r ]) ≡ Some (reply.Joined a) → IsJoinedAt o
  gone_joins true o e = absurd (cc)
  gone_joins false None e = absurd (cc)
  gone_joins false (Some r) e = pending_joins r r.pending refl e

  -- what a begin joins was begun
  pub joined_known : (acts : List Act) → AreKnown acts rows → begin_reply rows next kind i ≡ Some (reply.Joined a) → IsKnown acts a
  joined_known acts all e =
      let it : IsJoinedAt (row_of rows i) = gone_joins (is_gone rows i) (row_of rows i) e in
      (known_found acts rows i it.row all it.lives).known it.of a it.pending
