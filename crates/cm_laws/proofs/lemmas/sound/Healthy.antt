-- What is kept of the world that a legal history leaves: its tree is sound, and its actions are pending where they should be.
use Rattle.std.proofs.Common.{◌≡◌, ℕ, ◌+◌, ◌==◌, List, [], ◌∷◌, ◌++◌, Bool, true, false, cond, true≢false, length, Some, None, refl, sym, ◌∙◌, ap, subst, arith, inl, inr, ◌⊎◌}
use Rattle.cm_decl.specs.declared.decl.Decl.{Decl}
use Rattle.cm_decl.specs.declared.rows.Give.{Give}
use Rattle.cm_world.specs.declared.row.Row.{Row}
use Rattle.cm_world.specs.declared.frame.Frame.{Frame}
use Rattle.cm_world.specs.declared.action.ActKind.{ActKind}
use Rattle.cm_world.specs.declared.action.ActKind.TheVariants.{Resolve, Stop}
use Rattle.cm_world.specs.declared.action.Work.{Work}
use Rattle.cm_world.specs.declared.action.Outcome.{Outcome}
use Rattle.cm_world.specs.declared.action.Outcome.TheVariants as outcome
use Rattle.cm_world.specs.declared.action.Finish.{Finish}
use Rattle.cm_world.specs.declared.action.Finish.TheVariants as finish
use Rattle.cm_world.specs.declared.event.Event.{Event}
use Rattle.cm_world.specs.declared.event.Event.TheVariants.{Begin, End, Await, Create, Mark, Pick, Purge, Exited}
use Rattle.cm_world.specs.declared.reply.Reply.{Reply}
use Rattle.cm_world.specs.declared.reply.Reply.TheVariants as reply
use Rattle.cm_world.specs.declared.reply.Entry.{Entry}
use Rattle.cm_world.specs.Rows.{row_of, is_closed}
use Rattle.cm_world.specs.World.{World, start}
use Rattle.cm_world.specs.End.{changed, set_pending, set_on, set_closing, set_doomed, set_shut, set_decl, end_row, child_rows, rows_by, added_by, ended}
use Rattle.cm_world.specs.Create.{created_row}
use Rattle.cm_world.specs.Marks.{is_dynamic, mark_reply}
use Rattle.cm_world.specs.Begin.{begin_reply}
use Rattle.cm_world.specs.Step.{MayEnd, PicksOn, PicksOff, IsEnabled, Allowed}
use Rattle.cm_world.specs.Expiring.{expired, is_stopped}
use Rattle.cm_world.specs.After.{new_act, with_action, with_end_of, with_end, with_rows, with_row, others_than, moved, after}
use Rattle.cm_world.specs.Legal.{IsStep, Legal, replay}
use Rattle.cm_world.specs.Sound.{IsSound}
use Rattle.cm_world.proofs.lemmas.trees.Finding.{some_same, row_of-inc}
use Rattle.cm_world.proofs.lemmas.examples.Fresh.{starts_sound}
use Rattle.cm_laws.specs.Tasks.{HasRow, IsTasked}
use Rattle.cm_laws.specs.ShutdownsInside.{TreesStaySound}
use Rattle.cm_laws.proofs.lemmas.actions.Tasks.{only_by, tasked_new, tasked_changed, tasked_begun, find_split}
use Rattle.cm_laws.proofs.lemmas.actions.Numbers.{IsCounted, counted_after, counted_history}
use Rattle.cm_laws.proofs.lemmas.actions.Begun.{IsIdle, begun_row}
use Rattle.cm_laws.proofs.lemmas.actions.Ends.{kind_of_resolve, tasked_by}
use Rattle.cm_laws.proofs.lemmas.sound.Rows.{Kept, kept}
use Rattle.cm_laws.proofs.lemmas.sound.Growth.{created_new, sound_created, kid_found, sound_resolved}
use Rattle.cm_laws.proofs.lemmas.sound.Purges.{stood, sound_purged}
use Rattle.cm_laws.proofs.lemmas.sound.Replies.{IsCreating, creating, open_unshut, found_row, marked_dynamic, picked_closing, IsPurging, purging}
use Rattle.cm_laws.proofs.lemmas.sound.Marks.{light_pending, light_on, light_end, sound_light, sound_closing, sound_doomed, sound_shut}
use Rattle.cm_laws.proofs.lemmas.sound.Tasks.{pending_unshut, tasked_more, tasked_purged}
use Rattle.cm_laws.proofs.lemmas.sound.Expiries.{Went, went, went_lasts, tasked_expired, sound_expired}

-- the tree is sound, what is pending at it was begun, and the actions are numbered from 1 on
pub record IsHealthy (w : World) : Type 0 where
  pub sound : IsSound w.rows w.next_inc
  pub tasks : IsTasked w.rows w.acts
  pub counted : IsCounted w

-- a child of a row that isn't shut
pub record IsUnder (rows : List Row) (s : Row) : Type 0 where
  pub parent : ℕ
  pub under : s.parent ≡ Some parent
  pub row : Row
  pub lives : row_of rows parent ≡ Some row
  pub unshut : row.shut ≡ false

-- each row of these lived before, or is a child of a row that isn't shut
pub record Grows (old new : List Row) : Type 0 where
  pub known : (i : ℕ) (s : Row) → row_of new i ≡ Some s → ((r : Row) × (row_of old i ≡ Some r)) ⊎ IsUnder old s

-- what a world with this tree and these actions becomes
pub record Leads (w v : World) : Type 0 where
  pub sound : IsSound v.rows v.next_inc
  pub tasks : IsTasked v.rows v.acts
  pub grows : Grows w.rows v.rows

-- Of rows that are as before each lived before.
grows_not : (rows : List Row) → Grows rows rows
grows_not rows = record { known = λ i s is. inl (s, is) }

-- After a change of one row each row lived before.
grows_changed : (rows : List Row) (i : ℕ) (f : Row → Row) → ((r : Row) → (f r).inc ≡ r.inc) → Grows rows (changed i f rows)
grows_changed rows i f inc = record {
  known = λ j s is. let k : Kept rows i f j s = kept rows i f inc j s is in inl (k.row, k.was);
}

-- a row that takes the place of another below the same parent
under_same : (old : List Row) (j : ℕ) (t s : Row) → s.parent ≡ t.parent → ((r : Row) × (row_of old j ≡ Some r)) ⊎ IsUnder old t → ((r : Row) × (row_of old j ≡ Some r)) ⊎ IsUnder old s
under_same old j t s same (inl was) = inl was
under_same old j t s same (inr u) =
    inr (record { parent = u.parent; under = same ∙ u.under; row = u.row; lives = u.lives; unshut = u.unshut })

-- After an expiry each row lived before or is a child of one that isn't shut, if it did already.
grows_expired : (old rows : List Row) (i : ℕ) → Grows old rows → Grows old (expired i rows)
grows_expired old rows i grows = record {
  known = λ j s is.
      let w : Went rows j s = went rows i j s is in
      under_same old j w.row s (went_lasts rows i j s w).parent (grows.known j w.row w.was);
}

module _ (w : World) (healthy : IsHealthy w) where
  -- ---- rows that expire

  -- What a world becomes is sound and agrees with its actions with an expiry too.
  expired_leads : (v : World) (i : ℕ) → Leads w v → Leads w (with_rows v (expired i v.rows))
  expired_leads v i l = record {
    sound = sound_expired v.rows v.next_inc i l.sound;
    tasks = tasked_expired v.rows i v.acts l.tasks;
    grows = grows_expired w.rows v.rows i l.grows;
  }

  -- What a world becomes is sound and agrees with its actions with an expiry or without one.
  expired_if : (b : Bool) (v : World) (i : ℕ) → Leads w v → Leads w (with_rows v (cond b (expired i v.rows) v.rows))
  expired_if true v i l = expired_leads v i l
  expired_if false v i l = record { sound = l.sound; tasks = l.tasks; grows = l.grows }

  -- ---- one row

  -- a change that leaves what is pending
  changed_leads : (i : ℕ) (f : Row → Row) → ((r : Row) → (f r).inc ≡ r.inc) → ((r : Row) → (f r).pending ≡ r.pending) → ((r : Row) → (f r).decl ≡ r.decl) → IsSound (changed i f w.rows) w.next_inc → Leads w (with_rows w (changed i f w.rows))
  changed_leads i f inc pending decl sound = record {
    sound = sound;
    tasks = tasked_changed w.rows w.acts i f inc pending decl healthy.tasks;
    grows = grows_changed w.rows i f inc;
  }

  -- What a world becomes when a row is off is sound and agrees with its actions.
  off_leads : (i : ℕ) → Leads w (with_rows w (changed i (set_on false) w.rows))
  off_leads i =
      changed_leads i (set_on false) (λ r. refl) (λ r. refl) (λ r. refl)
      (sound_light w.rows w.next_inc i (set_on false) healthy.sound (light_on false) (λ r here shut. (refl, (healthy.sound.shut i r here shut).idle)))

  -- What a world becomes when a row has left by itself is sound and agrees with its actions.
  exited_leads : (i : ℕ) → Leads w (with_rows w (expired i (changed i (set_on false) w.rows)))
  exited_leads i = expired_leads (with_rows w (changed i (set_on false) w.rows)) i (off_leads i)

  -- What a world becomes when a row is marked is sound and agrees with its actions.
  marked_leads : (doom : Bool) (i : ℕ) → reply.Marked ≡ mark_reply w.rows doom i → Leads w (with_rows w (changed i (cond doom set_doomed set_closing) w.rows))
  marked_leads false i it =
      changed_leads i set_closing (λ r. refl) (λ r. refl) (λ r. refl) (sound_closing w.rows w.next_inc i healthy.sound)
  marked_leads true i it =
      let found : (r : Row) × (row_of w.rows i ≡ Some r) × (is_dynamic r ≡ true) = marked_dynamic w.rows i (row_of w.rows i) (sym it) in
      changed_leads i set_doomed (λ r. refl) (λ r. refl) (λ r. refl)
      (sound_doomed w.rows w.next_inc i healthy.sound found.0 found.1 found.2)

  -- What a world becomes when a pick has shut a row is sound and agrees with its actions.
  shut_leads : (t i : ℕ) → PicksOff w.rows t i → Leads w (with_rows w (changed i set_shut w.rows))
  shut_leads t i it =
      changed_leads i set_shut (λ r. refl) (λ r. refl) (λ r. refl)
      (sound_shut w.rows w.next_inc i healthy.sound it.row it.may.row it.off it.may.idle (picked_closing w.rows w.next_inc t i it.row healthy.sound.orderly it.may))

  -- ---- actions

  -- an action begins at a row that isn't shut, where none is pending
  begun_leads : (caller i : ℕ) (kind : ActKind) (r : Row) → row_of w.rows i ≡ Some r → r.pending ≡ None → r.shut ≡ false → (kind ≡ Resolve → r.decl ≡ None) → Leads w (with_action w caller kind i)
  begun_leads caller i kind r lives idle unshut unresolved = record {
    sound =
        sound_light w.rows w.next_inc i (set_pending (Some (kind, w.next_action))) healthy.sound (light_pending (Some (kind, w.next_action)))
        (λ s here shut. absurd (true≢false (sym shut ∙ ap (λ z. z.shut) (some_same s r (sym here ∙ lives)) ∙ unshut)));
    tasks =
        subst (λ n. IsTasked (changed i (set_pending (Some (kind, n))) w.rows) (w.acts ++ new_act n kind i caller ∷ [])) (sym healthy.counted.next)
        (tasked_begun w.rows w.acts kind i caller r healthy.tasks healthy.counted.numbers lives idle unresolved);
    grows = grows_changed w.rows i (set_pending (Some (kind, w.next_action))) (λ s. refl);
  }

  -- What a world becomes when an action has begun is sound and agrees with its actions.
  begin_leads : (caller i : ℕ) (kind : ActKind) (work : Work) → begin_reply w.rows w.next_action kind i ≡ Some (reply.Begun work) → Leads w (with_action w caller kind i)
  begin_leads caller i kind work it =
      let idle : IsIdle w.rows w.next_action kind work (row_of w.rows i) = begun_row w.rows w.next_action i kind work it in
      let unclosed : is_closed w.rows i ≡ false = sym (ap (is_closed w.rows) (row_of-inc w.rows i idle.row idle.lives)) ∙ idle.unclosed in
      begun_leads caller i kind idle.row idle.lives idle.idle (open_unshut w.rows i idle.row idle.lives unclosed) idle.unresolved

  -- What a world becomes when a pick has begun a stop is sound and agrees with its actions.
  stop_leads : (caller t : ℕ) (work : Work) → PicksOn w.rows w.next_action t work → Leads w (with_action w caller Stop work.inc)
  stop_leads caller t work it =
      begun_leads caller work.inc Stop it.row it.may.row it.may.idle it.may.unshut (λ (e : Stop ≡ Resolve). absurd (cc))

  -- an action ends that brings no declaration
  end_row_leads : (caller a : ℕ) (f : Finish) (o : Outcome) → (may : MayEnd w.acts caller a f) → IsTasked (changed may.act.inc (end_row o) w.rows) (ended a o w.acts) → Leads w (record w { rows = changed may.act.inc (end_row o) w.rows; next_inc = w.next_inc + 0; acts = ended a o w.acts })
  end_row_leads caller a f o may tasks =
      let h : HasRow w.rows may.act = healthy.tasks.rows_of a may.act may.there may.pending in
      let unshut : h.row.shut ≡ false = pending_unshut w.rows w.next_inc may.act.inc h.row (may.act.kind, may.act.action) healthy.sound h.lives h.pending in
      let same : w.next_inc ≡ w.next_inc + 0 = omega arith in
      record {
        sound =
            subst (IsSound (changed may.act.inc (end_row o) w.rows)) same
            (sound_light w.rows w.next_inc may.act.inc (end_row o) healthy.sound (light_end o)
            (λ s here shut. absurd (true≢false (sym shut ∙ ap (λ z. z.shut) (some_same s h.row (sym here ∙ h.lives)) ∙ unshut))));
        tasks = tasks;
        grows = grows_changed w.rows may.act.inc (end_row o) (light_end o).inc;
      }

  -- a resolve ends with a declaration
  module _ (caller a : ℕ) (url : List ℕ) (d : Decl) (may : MayEnd w.acts caller a (finish.Resolved url d)) where
    -- The rows of the children in the declaration that a resolve brings.
    abbrev kids : List Row
    kids = child_rows may.act.inc w.next_inc d.children

    -- The row with the declaration that a resolve brings.
    abbrev take : Row → Row
    take r = set_decl url d (set_pending None r)

    -- The action that ends has its row.
    task : HasRow w.rows may.act
    task = healthy.tasks.rows_of a may.act may.there may.pending

    -- The row of the action that ends isn't shut.
    unshut : task.row.shut ≡ false
    unshut = pending_unshut w.rows w.next_inc may.act.inc task.row (may.act.kind, may.act.action) healthy.sound task.lives task.pending

    -- After a resolve each row lived before or is a child of a row that isn't shut.
    grows_by : (j : ℕ) (s : Row) → (row_of (changed may.act.inc take w.rows) j ≡ Some s) ⊎ (row_of kids j ≡ Some s) → ((r : Row) × (row_of w.rows j ≡ Some r)) ⊎ IsUnder w.rows s
    grows_by j s (inl here) =
        (grows_changed w.rows may.act.inc take (λ r. refl)).known j s here
    grows_by j s (inr kid) =
        inr (record { parent = may.act.inc; under = ap (λ z. z.parent) (kid_found may.act.inc w.next_inc d.children j s kid).1.1; row = task.row; lives = task.lives; unshut = unshut })

    -- What a world becomes when a resolve has ended well is sound and agrees with its actions.
    resolved_leads : Leads w (record w { rows = changed may.act.inc take w.rows ++ kids; next_inc = w.next_inc + length d.children; acts = ended a outcome.Resolved w.acts })
    resolved_leads = record {
      sound =
          sound_resolved w.rows w.next_inc may.act.inc url d task.row healthy.sound task.lives unshut
          (task.unresolved (kind_of_resolve may.act.kind url d may.fitting)) may.valid;
      tasks = tasked_by w.rows w.acts caller a w.next_inc (finish.Resolved url d) outcome.Resolved may healthy.tasks;
      grows = record { known = λ j s here. grows_by j s (find_split (λ r. r.inc == j) (changed may.act.inc take w.rows) kids s here) };
    }

  -- What a world becomes by an end, before any expiry, is sound and agrees with its actions.
  ends_leads : (caller a : ℕ) (f : Finish) (o : Outcome) → (may : MayEnd w.acts caller a f) → Leads w (record w { rows = rows_by may.act.inc w.next_inc f o w.rows; next_inc = w.next_inc + added_by f o; acts = ended a o w.acts })
  ends_leads caller a (finish.Other p) o may =
      end_row_leads caller a (finish.Other p) o may (tasked_by w.rows w.acts caller a w.next_inc (finish.Other p) o may healthy.tasks)
  ends_leads caller a (finish.Resolved url d) outcome.Resolved may = resolved_leads caller a url d may
  ends_leads caller a (finish.Resolved url d) o may =
      end_row_leads caller a (finish.Resolved url d) o may (tasked_by w.rows w.acts caller a w.next_inc (finish.Resolved url d) o may healthy.tasks)

  -- What a world becomes by the end of an action is sound and agrees with its actions.
  end_leads : (caller a : ℕ) (f : Finish) (o : Outcome) → MayEnd w.acts caller a f → Leads w (with_end w a f o)
  end_leads caller a f o may =
      subst (λ x. Leads w (with_end_of w a f o x)) (sym may.there)
      (expired_if (is_stopped o)
      (record w { rows = rows_by may.act.inc w.next_inc f o w.rows; next_inc = w.next_inc + added_by f o; acts = ended a o w.acts })
      may.act.inc (ends_leads caller a f o may))

  -- ---- rows that come and go

  -- What a world becomes with a created row is sound and agrees with its actions.
  created_leads : (p : ℕ) (coll name url : List ℕ) (gives : List Give) (i : ℕ) → IsCreating w.rows w.next_inc p coll name gives i → Leads w (with_row w (created_row i p coll name url gives))
  created_leads p coll name url gives i it =
      let row : (r : Row) × (row_of w.rows p ≡ Some r) = found_row w.rows p it.decl it.found in
      let kid : Row = created_row w.next_inc p coll name url gives in
      subst (λ n. Leads w (with_row w (created_row n p coll name url gives))) (sym it.number)
      (record {
        sound = sound_created w.next_inc p coll name url gives w.rows it.decl healthy.sound it.found it.unused it.acyclic;
        tasks = tasked_more w.rows (kid ∷ []) w.acts healthy.tasks (λ j r here. ((created_new w.next_inc p coll name url gives).new j r here).idle);
        grows = record { known = λ j s here. created_known j s kid row.0 row.1 (open_unshut w.rows p row.0 row.1 it.unclosed) refl (find_split (λ r. r.inc == j) w.rows (kid ∷ []) s here) };
      })
    where
      created_known : (j : ℕ) (s kid row : Row) → row_of w.rows p ≡ Some row → row.shut ≡ false → kid.parent ≡ Some p → (row_of w.rows j ≡ Some s) ⊎ (row_of (kid ∷ []) j ≡ Some s) → ((r : Row) × (row_of w.rows j ≡ Some r)) ⊎ IsUnder w.rows s
      created_known j s kid row lives open_yet up (inl old) = inl (s, old)
      created_known j s kid row lives open_yet up (inr new) =
          inr (record { parent = p; under = sym (ap (λ z. z.parent) (only_by (kid.inc == j) kid s new)) ∙ up; row = row; lives = lives; unshut = open_yet })

  -- What a world becomes by a purge is sound and agrees with its actions.
  purged_leads : (i : ℕ) → IsPurging w.rows i → Leads w (with_rows w (others_than w.rows i))
  purged_leads i it = record {
    sound = sound_purged w.rows w.next_inc i healthy.sound it.row it.lives it.doomed;
    tasks = tasked_purged w.rows w.next_inc i w.acts healthy.sound it.shut healthy.tasks;
    grows = record { known = λ j s here. inl (s, (stood w.rows w.next_inc i healthy.sound.orderly j s here).0) };
  }

  -- ---- an entry

  -- A world with the same rows, next incarnation and actions is sound and agrees with those.
  left_leads : (v : World) → v.rows ≡ w.rows → v.next_inc ≡ w.next_inc → v.acts ≡ w.acts → Leads w v
  left_leads v rows next acts = record {
    sound = subst (λ rs. IsSound rs v.next_inc) (sym rows) (subst (IsSound w.rows) (sym next) healthy.sound);
    tasks = subst (λ rs. IsTasked rs v.acts) (sym rows) (subst (IsTasked w.rows) (sym acts) healthy.tasks);
    grows = subst (Grows w.rows) (sym rows) (grows_not w.rows);
  }

  -- What an enabled, allowed event makes of a world is sound and agrees with its actions.
  moved_leads : (caller : ℕ) (e : Event) (r : Reply) → IsEnabled w caller e → Allowed w caller e r → Leads w (moved w caller e r)
  moved_leads caller (Begin kind i) (reply.Begun work) can it = begin_leads caller i kind work it
  moved_leads caller (Begin kind i) (reply.Joined a) can it = left_leads _ refl refl refl
  moved_leads caller (End a f) (reply.Ended o) can it = end_leads caller a f o can
  moved_leads caller (Await a) (reply.Ended o) can it = left_leads _ refl refl refl
  moved_leads caller (Create p child) (reply.Created i) can it =
      created_leads p child.coll child.name child.url child.gives i (creating w.rows w.frame.limits.rows w.next_inc p child.coll child.name child.gives i it)
  moved_leads caller (Mark doom i) reply.Marked can it = marked_leads doom i it
  moved_leads caller (Pick t) (reply.Stopping work) can it = stop_leads caller t work it
  moved_leads caller (Pick t) (reply.ShutDown i) can it = shut_leads t i it
  moved_leads caller (Purge i) (reply.Purged lost) can it = purged_leads i (purging w.rows i lost can it)
  moved_leads caller (Exited i) (reply.Left m) can it = exited_leads i
  moved_leads caller e r can it = left_leads w refl refl refl

-- where the tree grows behind an entry, and it stays healthy
pub leads_after : (w : World) (e : Entry) → IsHealthy w → IsStep w e → Leads w (after w e)
unfolding after
leads_after w e healthy step =
    let l : Leads w (moved w e.caller e.event e.reply) = moved_leads w healthy e.caller e.event e.reply step.enabled step.allowed in
    record { sound = l.sound; tasks = l.tasks; grows = l.grows }

-- A healthy world is healthy behind each entry that it allows.
pub healthy_after : (w : World) (e : Entry) → IsHealthy w → IsStep w e → IsHealthy (after w e)
healthy_after w e healthy step =
    let l : Leads w (after w e) = leads_after w e healthy step in
    record { sound = l.sound; tasks = l.tasks; counted = counted_after w e healthy.counted }

-- A healthy world is healthy behind each history that is legal from there.
pub healthy_replay : (w : World) (es : List Entry) → IsHealthy w → Legal w es → IsHealthy (replay w es)
healthy_replay w [] healthy legal = healthy
healthy_replay w (e ∷ es) healthy legal = healthy_replay (after w e) es (healthy_after w e healthy legal.0) legal.1

-- The world that a legal history leaves is healthy.
pub healthy_history : (f : Frame) (es : List Entry) → Legal (start f) es → IsHealthy (replay (start f) es)
healthy_history f es legal =
    healthy_replay (start f) es (record { sound = starts_sound f; tasks = tasked_new f.root; counted = counted_history f [] }) legal

-- The tree that a legal history leaves is sound.
pub trees_stay_sound : TreesStaySound
trees_stay_sound f es legal = (healthy_history f es legal).sound
