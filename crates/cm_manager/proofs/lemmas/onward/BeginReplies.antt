-- The replies that a begin may get.
use Rattle.std.proofs.Common.{◌≡◌, ◌≢◌, ℕ, List, Bool, true, false, Option, Some, None, IsTrue, if◌then◌else◌, refl, sym, subst}
use Rattle.cm_world.specs.declared.row.Row.{Row}
use Rattle.cm_world.specs.declared.action.ActKind.{ActKind}
use Rattle.cm_world.specs.declared.action.ActKind.TheVariants as kind
use Rattle.cm_world.specs.declared.action.Work.{Work}
use Rattle.cm_world.specs.declared.reply.Reply.{Reply}
use Rattle.cm_world.specs.declared.reply.Reply.TheVariants as reply
use Rattle.cm_world.specs.Rows.{row_of, is_gone, is_closed}
use Rattle.cm_world.specs.Begin.{begin_reply, begin_at, begin_idle, same_act, is_so, needs_decl}
use Rattle.cm_world.specs.Work.{work_of}
use Rattle.cm_world.proofs.lemmas.trees.Finding.{some_same}
use Rattle.cm_manager.specs.Runs.{is_quiet}

-- only a start may need that a row is resolved first
pub is_begin_reply : ActKind → Reply → Bool
is_begin_reply k (reply.Gone i) = true
is_begin_reply k (reply.Joined a) = true
is_begin_reply k reply.Already = true
is_begin_reply k (reply.Shut i) = true
is_begin_reply k (reply.Begun w) = true
is_begin_reply kind.Start (reply.Need j) = true
is_begin_reply k _ = false

-- What a begin at an idle row is answered, by how the row is, is a reply that it may get.
idle_by : (k : ActKind) (so closed needs : Bool) (i : ℕ) (w : Work) → (needs ≡ true → k ≡ kind.Start) → IsTrue (is_begin_reply k (if so then reply.Already else if closed then reply.Shut i else if needs then reply.Need i else reply.Begun w))
unfolding is_begin_reply
idle_by k true closed needs i w start = refl
idle_by k false true needs i w start = refl
idle_by k false false true i w start = subst (λ (k : ActKind). IsTrue (is_begin_reply k (reply.Need i))) (sym (start refl)) refl
idle_by k false false false i w start = refl

-- Only a start needs a row's declaration first.
needs_start : (k : ActKind) (r : Row) → needs_decl k r ≡ true → k ≡ kind.Start
needs_start kind.Start r is = refl
needs_start kind.Resolve r is = absurd (cc is)
needs_start kind.Stop r is = absurd (cc is)

-- What a begin is answered, by what is pending and how an idle row answers, it may get.
at_by : (k : ActKind) (pending : Option (ActKind × ℕ)) (idle r : Reply) → IsTrue (is_begin_reply k idle) → elim pending as (λ _. Option Reply) [ Some p ↦ (if same_act k p.0 then Some (reply.Joined p.1) else None) | None ↦ Some idle ] ≡ Some r → IsTrue (is_begin_reply k r)
unfolding is_begin_reply
at_by k None idle r is e = subst (λ (r : Reply). IsTrue (is_begin_reply k r)) (some_same idle r e) is
at_by k (Some p) idle r is e = joined (same_act k p.0) e where
  joined : (b : Bool) → (if b then Some (reply.Joined p.1) else None) ≡ Some r → IsTrue (is_begin_reply k r)
  joined true e = subst (λ (r : Reply). IsTrue (is_begin_reply k r)) (some_same (reply.Joined p.1) r e) refl
  joined false e = absurd (cc e)

-- The reply that a begin gets of the rows is one that a begin of its kind may get.
pub begin_replies : (rows : List Row) (next : ℕ) (k : ActKind) (i : ℕ) (r : Reply) → begin_reply rows next k i ≡ Some r → IsTrue (is_begin_reply k r)
unfolding is_begin_reply
begin_replies rows next k i r e = gone (is_gone rows i) e where
  found : (o : Option Row) → elim o as (λ _. Option Reply) [ None ↦ Some (reply.Gone i) | Some x ↦ begin_at rows next k x ] ≡ Some r → IsTrue (is_begin_reply k r)
  found None e = subst (λ (r : Reply). IsTrue (is_begin_reply k r)) (some_same (reply.Gone i) r e) refl
  found (Some x) e = at_by k x.pending (begin_idle rows next k x) r (idle_by k (is_so k x) (is_closed rows x.inc) (needs_decl k x) x.inc (work_of rows next k x) (needs_start k x)) e

  gone : (b : Bool) → (if b then Some (reply.Gone i) else elim (row_of rows i) as (λ _. Option Reply) [ None ↦ Some (reply.Gone i) | Some x ↦ begin_at rows next k x ]) ≡ Some r → IsTrue (is_begin_reply k r)
  gone true e = subst (λ (r : Reply). IsTrue (is_begin_reply k r)) (some_same (reply.Gone i) r e) refl
  gone false e = found (row_of rows i) e

-- only a start needs that a row is resolved first
pub start_needs : (k : ActKind) (j : ℕ) → IsTrue (is_begin_reply k (reply.Need j)) → k ≡ kind.Start
unfolding is_begin_reply
start_needs kind.Start j is = refl
start_needs kind.Resolve j is = absurd (cc is)
start_needs kind.Stop j is = absurd (cc is)

-- every other reply of a begin is quiet
pub quiet_by : (k : ActKind) (r : Reply) → IsTrue (is_begin_reply k r) → ((w : Work) → r ≢ reply.Begun w) → ((n : ℕ) → r ≢ reply.Joined n) → ((j : ℕ) → r ≢ reply.Need j) → IsTrue (is_quiet r)
unfolding is_begin_reply
quiet_by k (reply.Gone i) is begun joined need = refl
quiet_by k reply.Already is begun joined need = refl
quiet_by k (reply.Shut i) is begun joined need = refl
quiet_by k (reply.Begun w) is begun joined need = absurd (begun w refl)
quiet_by k (reply.Joined n) is begun joined need = absurd (joined n refl)
quiet_by k (reply.Need j) is begun joined need = absurd (need j refl)
quiet_by k _ is begun joined need = absurd (cc is)
