-- What is marked to be shut down or destroyed stays so, and what is shut with all below it stays so.
use Rattle.std.proofs.Common.{◌≡◌, ℕ, ◌+◌, ◌<◌, ◌≤◌, List, [], ◌∷◌, ◌++◌, Bool, true, false, cond, not, ◌&&◌, ◌||◌, true≢false, length, Option, Some, None, is_some, IsTrue, refl, sym, ◌∙◌, ap, subst, arith, inl, inr, ◌⊎◌}
use Rattle.std.specs.Prelude.{Contains}
use Rattle.std.specs.Option.{option_map_or}
use Rattle.cm_decl.specs.declared.rows.Give.{Give}
use Rattle.cm_world.specs.declared.frame.Frame.{Frame}
use Rattle.cm_world.specs.declared.row.Row.{Row}
use Rattle.cm_world.specs.declared.action.Act.{Act}
use Rattle.cm_world.specs.declared.action.ActKind.TheVariants.{Stop}
use Rattle.cm_world.specs.declared.action.Outcome.{Outcome}
use Rattle.cm_world.specs.declared.action.Outcome.TheVariants as outcome
use Rattle.cm_world.specs.declared.action.Finish.{Finish}
use Rattle.cm_world.specs.declared.action.Finish.TheVariants as finish
use Rattle.cm_world.specs.declared.event.Event.{Event}
use Rattle.cm_world.specs.declared.event.Event.TheVariants.{Begin, End, Await, Create, Mark, Pick, Purge, Exited, Reap}
use Rattle.cm_world.specs.declared.reply.Reply.{Reply}
use Rattle.cm_world.specs.declared.reply.Reply.TheVariants as reply
use Rattle.cm_world.specs.declared.reply.Entry.{Entry}
use Rattle.cm_world.specs.Rows.{row_of, at_or_above, is_live, is_gone, is_closing, is_below, is_subtree_shut, has_closing}
use Rattle.cm_world.specs.World.{World, start, act_of}
use Rattle.cm_world.specs.End.{changed, set_pending, set_on, set_closing, set_doomed, set_shut, set_decl, end_row, child_rows, rows_by, added_by, ended}
use Rattle.cm_world.specs.Create.{created_row}
use Rattle.cm_world.specs.Marks.{is_dynamic, mark_reply}
use Rattle.cm_world.specs.Step.{Allowed}
use Rattle.cm_world.specs.Expiring.{expired, is_stopped, reaped}
use Rattle.cm_world.specs.After.{with_end_of, moved, after}
use Rattle.cm_world.specs.Legal.{IsStep, Legal, replay}
use Rattle.cm_world.specs.Sound.{IsOrderly}
use Rattle.cm_world.proofs.lemmas.trees.Finding.{none_some, some_same}
use Rattle.cm_world.proofs.lemmas.trees.Histories.{replay-append, Legal-split}
use Rattle.cm_trees.proofs.rows.Rows.{Becomes, becomes_after, row_of-changed, lives_below}
use Rattle.cm_trees.proofs.trees.Trees.{climb, and_pair, or_left, below_cases, below_lives, below_self, below_up, shut_each, shut_all}
use Rattle.cm_laws.specs.Story.{Story, world_of, IsLegal, entry_of}
use Rattle.cm_laws.specs.Shutdowns.{IsLeaving, IsDying, IsMarked, MarksHold, DoneStaysShut, ShutdownGoesOn}
use Rattle.cm_laws.specs.ShutdownsInside.{MarksMark, MarksStay, ReapsMarked, MarkedMayClose, IsShutBelow, DoneIsOver, OverStays, OverMayPurge, ShutdownsGoOn}
use Rattle.cm_laws.proofs.lemmas.actions.Beginners.{told_world}
use Rattle.cm_laws.proofs.lemmas.sound.Rows.{Lasts, Follows, follows_itself, follows_changed, follows_more, follows_left}
use Rattle.cm_laws.proofs.lemmas.sound.Growth.{created_new, kids_new}
use Rattle.cm_laws.proofs.lemmas.sound.Expiries.{follows_expired}
use Rattle.cm_laws.proofs.lemmas.sound.Reaps.{reaped_row}
use Rattle.cm_laws.proofs.lemmas.sound.Replies.{IsCreating, creating, marked_dynamic}
use Rattle.cm_laws.proofs.lemmas.sound.Marks.{IsLight, light_pending, light_on, light_end, light_lasts, closing_lasting, doomed_lasting, shut_lasting}
use Rattle.cm_laws.proofs.lemmas.sound.Healthy.{IsHealthy, IsUnder, Leads, leads_after, healthy_after, healthy_history}

-- ---- the rows behind an entry

-- what was there lasts, all else is new, and the next incarnation is no lower
pub record Goes (w v : World) : Type 0 where
  pub follows : Follows w.rows v.rows w.next_inc
  pub higher : w.next_inc ≤ v.next_inc

module _ (w : World) where
  -- With the same rows and the same next incarnation what was there lasts.
  same : (v : World) → v.rows ≡ w.rows → v.next_inc ≡ w.next_inc → Goes w v
  same v rows next = record {
    follows = subst (λ rs. Follows w.rows rs w.next_inc) (sym rows) (follows_itself w.rows w.next_inc);
    higher = omega (arith, next);
  }

  -- one row is changed
  changes : (v : World) (i : ℕ) (f : Row → Row) → v.rows ≡ changed i f w.rows → v.next_inc ≡ w.next_inc → ((r : Row) → (f r).inc ≡ r.inc) → ((r : Row) → Lasts r (f r)) → Goes w v
  changes v i f rows next inc lasts = record {
    follows = subst (λ rs. Follows w.rows rs w.next_inc) (sym rows) (follows_changed w.rows i f inc w.next_inc lasts);
    higher = omega (arith, next);
  }

  -- Where a row is changed in whether it is on and what is pending alone, what was there lasts.
  light : (v : World) (i : ℕ) (f : Row → Row) → v.rows ≡ changed i f w.rows → v.next_inc ≡ w.next_inc → IsLight f → Goes w v
  light v i f rows next is = changes v i f rows next is.inc (light_lasts f is)

  -- After the end of an action, before any expiry, what was there lasts.
  ends : (a : ℕ) (f : Finish) (o : Outcome) (x : Act) → Goes w (record w { rows = rows_by x.inc w.next_inc f o w.rows; next_inc = w.next_inc + added_by f o; acts = ended a o w.acts })
  ends a (finish.Other p) o x = light _ x.inc (end_row o) refl (omega arith) (light_end o)
  ends a (finish.Resolved url d) outcome.Resolved x =
      let take : Row → Row = λ r. set_decl url d (set_pending None r) in
      record {
        follows =
            follows_more w.rows (changed x.inc take w.rows) (child_rows x.inc w.next_inc d.children) w.next_inc
            (follows_changed w.rows x.inc take (λ r. refl) w.next_inc (λ r. record { parent = refl; closing = λ h. h; doomed = λ h. h; shut = λ h. h }))
            (λ i r here. let b : Becomes take (row_of (changed x.inc take w.rows) i) r = becomes_after x.inc take (λ s. refl) w.rows i r here in (b.row, b.lives))
            (kids_new x.inc w.next_inc d.children).fresh;
        higher = omega arith;
      }
  ends a (finish.Resolved url d) o x = light _ x.inc (end_row o) refl (omega arith) (light_end o)

  -- rows expire
  expires : (v : World) (i : ℕ) → Goes w v → Goes w (record v { rows = expired i v.rows })
  expires v i g = record { follows = follows_expired v.rows i w.rows w.next_inc g.follows; higher = g.higher }

  -- What was there lasts with an expiry or without one.
  expires_if : (b : Bool) (v : World) (i : ℕ) → Goes w v → Goes w (record v { rows = cond b (expired i v.rows) v.rows })
  expires_if true v i g = expires v i g
  expires_if false v i g = record { follows = g.follows; higher = g.higher }

  -- After the end of an action, whether it was found or not, what was there lasts.
  ends_by : (a : ℕ) (f : Finish) (o : Outcome) (x : Option Act) → Goes w (with_end_of w a f o x)
  ends_by a f o None = same w refl refl
  ends_by a f o (Some x) =
      expires_if (is_stopped o)
      (record w { rows = rows_by x.inc w.next_inc f o w.rows; next_inc = w.next_inc + added_by f o; acts = ended a o w.acts })
      x.inc (ends a f o x)

  -- After an exit what was there lasts.
  exits : (i : ℕ) → Goes w (record w { rows = expired i (changed i (set_on false) w.rows) })
  exits i =
      expires (record w { rows = changed i (set_on false) w.rows }) i (light _ i (set_on false) refl refl (light_on false))

  -- With a created row what was there lasts.
  creates : (p : ℕ) (coll name url : List ℕ) (gives : List Give) (i : ℕ) → IsCreating w.rows w.next_inc p coll name gives i → Goes w (record w { rows = w.rows ++ created_row i p coll name url gives ∷ []; next_inc = w.next_inc + 1 })
  creates p coll name url gives i it =
      subst (λ n. Goes w (record w { rows = w.rows ++ created_row n p coll name url gives ∷ []; next_inc = w.next_inc + 1 })) (sym it.number)
      (record {
        follows =
            follows_more w.rows w.rows (created_row w.next_inc p coll name url gives ∷ []) w.next_inc (follows_itself w.rows w.next_inc) (λ j r here. (r, here))
            (created_new w.next_inc p coll name url gives).fresh;
        higher = omega arith;
      })

  -- After a mark what was there lasts.
  marks : (doom : Bool) (i : ℕ) → Goes w (record w { rows = changed i (cond doom set_doomed set_closing) w.rows })
  marks true i = changes _ i set_doomed refl refl (λ r. refl) doomed_lasting
  marks false i = changes _ i set_closing refl refl (λ r. refl) closing_lasting

  -- After an allowed event what was there lasts.
  moves : (caller : ℕ) (e : Event) (r : Reply) → Allowed w caller e r → Goes w (moved w caller e r)
  moves caller (Begin kind i) (reply.Begun work) it = light _ i (set_pending (Some (kind, w.next_action))) refl refl (light_pending (Some (kind, w.next_action)))
  moves caller (Begin kind i) (reply.Joined a) it = same _ refl refl
  moves caller (End a f) (reply.Ended o) it = ends_by a f o (act_of w.acts a)
  moves caller (Await a) (reply.Ended o) it = same _ refl refl
  moves caller (Create p child) (reply.Created i) it =
      creates p child.coll child.name child.url child.gives i (creating w.rows w.frame.limits.rows w.next_inc p child.coll child.name child.gives i it)
  moves caller (Mark doom i) reply.Marked it = marks doom i
  moves caller (Pick t) (reply.Stopping work) it = light _ work.inc (set_pending (Some (Stop, w.next_action))) refl refl (light_pending (Some (Stop, w.next_action)))
  moves caller (Pick t) (reply.ShutDown i) it = changes _ i set_shut refl refl (λ r. refl) shut_lasting
  moves caller (Purge i) (reply.Purged lost) it = record { follows = follows_left (λ j. not (is_below w.rows i j)) w.rows w.next_inc; higher = omega arith }
  moves caller (Exited i) (reply.Left m) it = exits i
  moves caller e r it = same w refl refl

-- Behind an entry what was there lasts, all else is new, and the next incarnation is no lower.
pub goes_after : (w : World) (e : Entry) → IsStep w e → Goes w (after w e)
unfolding after
goes_after w e step =
    let g : Goes w (moved w e.caller e.event e.reply) = moves w e.caller e.event e.reply step.allowed in
    record { follows = g.follows; higher = g.higher }

-- ---- marks

-- a row that passes a test, if it lives
abbrev pub passes_if : (Row → Bool) → List Row → ℕ → Bool
passes_if t rows i = not (is_live rows i) || option_map_or t (row_of rows i) false

-- a test that lasts is passed by a row that was once there, until it has gone
mark_by : (t : Row → Bool) (w v : World) (i : ℕ) → ((r s : Row) → Lasts r s → IsTrue (t r) → IsTrue (t s)) → Follows w.rows v.rows w.next_inc → i < w.next_inc → (o : Option Row) → row_of v.rows i ≡ o → IsTrue (passes_if t w.rows i) → IsTrue (not (is_some o) || option_map_or t o false)
mark_by t w v i keeps follows known None e marked = refl
mark_by t w v i keeps follows known (Some s) e marked = here (follows.known i s e) where
  here : ((r : Row) × (row_of w.rows i ≡ Some r)) ⊎ (w.next_inc ≤ i) → IsTrue (t s)
  here (inl r) = keeps r.0 s (follows.lasts i r.0 s r.1 e) (subst (λ o. IsTrue (not (is_some o) || option_map_or t o false)) r.1 marked)
  here (inr new) = absurd (omega arith)

-- A row that is leaving is so where what was there has lasted.
leaving_after : (w v : World) (i : ℕ) → Goes w v → IsLeaving w i → IsLeaving v i
leaving_after w v i g was = record {
  known = let low : i < w.next_inc = was.known in let high : w.next_inc ≤ v.next_inc = g.higher in omega arith;
  marked = mark_by (λ r. r.closing) w v i (λ r s l h. l.closing h) g.follows was.known (row_of v.rows i) refl was.marked;
}

-- A row that is dying is so where what was there has lasted.
dying_after : (w v : World) (i : ℕ) → Goes w v → IsDying w i → IsDying v i
dying_after w v i g was = record {
  known = let low : i < w.next_inc = was.known in let high : w.next_inc ≤ v.next_inc = g.higher in omega arith;
  marked = mark_by (λ r. r.doomed) w v i (λ r s l h. l.doomed h) g.follows was.known (row_of v.rows i) refl was.marked;
}

-- What is marked to be shut down or destroyed stays so in every later tree.
pub marks_stay : MarksStay
marks_stay w [] i doom legal marked = marked
marks_stay w (e ∷ es) i doom legal marked =
    let g : Goes w (after w e) = goes_after w e legal.0 in
    marks_stay (after w e) es i doom legal.1
    (leaving_after w (after w e) i g marked.0, λ is. dying_after w (after w e) i g (marked.1 is))

-- A row that is marked to be shut down is closing.
closing_here : (rows : List Row) (i : ℕ) (r : Row) → row_of rows i ≡ Some r → r.closing ≡ true → IsTrue (is_closing rows i)
closing_here [] i r lives closing = absurd (none_some r lives)
closing_here (x ∷ xs) i r lives closing =
    rw (lives, at_or_above) (or_left r.closing (at_or_above (length xs) (λ s. s.closing) (x ∷ xs) r.parent) closing)

-- A row that is not there or is marked to be shut down is not there or closing.
may_close_by : (rows : List Row) (i : ℕ) (o : Option Row) → row_of rows i ≡ o → IsTrue (not (is_some o) || option_map_or (λ r. r.closing) o false) → IsTrue (not (is_some o) || is_closing rows i)
may_close_by rows i None e marked = refl
may_close_by rows i (Some r) e marked = closing_here rows i r e marked

-- A pick may be made for what is marked to be shut down.
pub marked_may_close : MarkedMayClose
marked_may_close w i doom marked = may_close_by w.rows i (row_of w.rows i) refl marked.0.marked

-- ---- behind a mark

-- a living row that is closing, and doomed where that is asked
marked_row : (w : World) (doom : Bool) (i : ℕ) (r : Row) → IsOrderly w.rows w.next_inc → row_of w.rows i ≡ Some r → r.closing ≡ true → (doom ≡ true → r.doomed ≡ true) → IsMarked doom w i
marked_row w doom i r orderly lives closing doomed =
    let low : i < w.next_inc = lives_below w.rows w.next_inc i r orderly.increasing lives in (
      record { known = low; marked = subst (λ o. IsTrue (not (is_some o) || option_map_or (λ z. z.closing) o false)) (sym lives) closing },
      λ is. record { known = low; marked = subst (λ o. IsTrue (not (is_some o) || option_map_or (λ z. z.doomed) o false)) (sym lives) (doomed is) },
    )

-- A row that isn't told as missing is there.
live_by : (rows : List Row) (i : ℕ) (b : Bool) (o : Option Row) → row_of rows i ≡ o → (not (is_some o) || b) ≡ false → (r : Row) × (row_of rows i ≡ Some r)
live_by rows i b None e here = absurd (true≢false here)
live_by rows i b (Some r) e here = (r, e)

-- a row that isn't gone lives
live_row : (rows : List Row) (i : ℕ) → is_gone rows i ≡ false → (r : Row) × (row_of rows i ≡ Some r)
live_row rows i here = live_by rows i _ (row_of rows i) refl here

-- Where a mark was made already, the row isn't gone and is closing.
closed_already : (i : ℕ) (a b : Bool) → cond a (reply.Gone i) (cond b reply.Already reply.Marked) ≡ reply.Already → (a ≡ false) × (b ≡ true)
closed_already i true b e = absurd (cc)
closed_already i false true e = (refl, refl)
closed_already i false false e = absurd (cc)

-- Where a mark is made now, the row isn't gone.
closed_marked : (i : ℕ) (a b : Bool) → cond a (reply.Gone i) (cond b reply.Already reply.Marked) ≡ reply.Marked → a ≡ false
closed_marked i true b e = absurd (cc)
closed_marked i false b e = refl

-- Where a mark to be destroyed was made already, the row is doomed.
doomed_already : (i : ℕ) (a b c : Bool) → cond a reply.Already (cond b (reply.Gone i) (cond c reply.Marked reply.NotDynamic)) ≡ reply.Already → a ≡ true
doomed_already i true b c e = refl
doomed_already i false true c e = absurd (cc)
doomed_already i false false true e = absurd (cc)
doomed_already i false false false e = absurd (cc)

module _ (w : World) (healthy : IsHealthy w) (i : ℕ) where
  -- A row that was marked to be destroyed already is marked so.
  already_doomed : (o : Option Row) → row_of w.rows i ≡ o → elim o as (λ _. Reply) [ None ↦ reply.Gone i | Some r ↦ cond r.doomed reply.Already (cond (is_gone w.rows i) (reply.Gone i) (cond (is_dynamic r) reply.Marked reply.NotDynamic)) ] ≡ reply.Already → IsMarked true w i
  already_doomed None here e = absurd (cc)
  already_doomed (Some r) here e =
      let doomed : r.doomed ≡ true = doomed_already i r.doomed (is_gone w.rows i) (is_dynamic r) e in
      marked_row w true i r healthy.sound.orderly here (healthy.sound.doomed i r here doomed) (λ is. doomed)

  -- where it is so already, it is
  already_marked : (doom : Bool) → mark_reply w.rows doom i ≡ reply.Already → IsMarked doom w i
  already_marked true e = already_doomed (row_of w.rows i) refl e
  already_marked false e =
      let both : (is_gone w.rows i ≡ false) × (has_closing w.rows i ≡ true) = closed_already i (is_gone w.rows i) (has_closing w.rows i) e in
      let row : (r : Row) × (row_of w.rows i ≡ Some r) = live_row w.rows i both.0 in
      marked_row w false i row.0 healthy.sound.orderly row.1 (sym (ap (λ o. option_map_or (λ z. z.closing) o false) row.1) ∙ both.1) (λ is. absurd (true≢false (sym is)))

  -- A row whose mark is made now is marked so in a world with its rows.
  new_mark : (v : World) (doom : Bool) → IsOrderly v.rows v.next_inc → v.rows ≡ changed i (cond doom set_doomed set_closing) w.rows → mark_reply w.rows doom i ≡ reply.Marked → IsMarked doom v i
  new_mark v true orderly rows e =
      let found : (r : Row) × (row_of w.rows i ≡ Some r) × (is_dynamic r ≡ true) = marked_dynamic w.rows i (row_of w.rows i) e in
      marked_row v true i (set_doomed found.0) orderly (ap (λ rs. row_of rs i) rows ∙ row_of-changed i set_doomed (λ r. refl) w.rows found.0 found.1) refl (λ is. refl)
  new_mark v false orderly rows e =
      let row : (r : Row) × (row_of w.rows i ≡ Some r) = live_row w.rows i (closed_marked i (is_gone w.rows i) (has_closing w.rows i) e) in
      marked_row v false i (set_closing row.0) orderly (ap (λ rs. row_of rs i) rows ∙ row_of-changed i set_closing (λ r. refl) w.rows row.0 row.1) refl (λ is. absurd (true≢false (sym is)))

-- The rows after a mark are those with the row marked.
marked_rows : (w : World) (caller i : ℕ) (doom : Bool) → (after w (entry_of caller (Mark doom i) reply.Marked)).rows ≡ changed i (cond doom set_doomed set_closing) w.rows
unfolding after
marked_rows w caller i doom = refl

-- A row whose mark was made, now or already, is marked so after the step.
marked_after : (w : World) (caller i : ℕ) (doom : Bool) (r : Reply) → IsHealthy w → IsStep w (entry_of caller (Mark doom i) r) → (r ≡ reply.Marked) ⊎ (r ≡ reply.Already) → IsMarked doom (after w (entry_of caller (Mark doom i) r)) i
marked_after w caller i doom r healthy step (inl new) =
    let e : Entry = entry_of caller (Mark doom i) r in
    new_mark w healthy i (after w e) doom (healthy_after w e healthy step).sound.orderly
    (ap (λ z. (after w (entry_of caller (Mark doom i) z)).rows) new ∙ marked_rows w caller i doom) (sym step.allowed ∙ new)
marked_after w caller i doom r healthy step (inr old) =
    marks_stay w (entry_of caller (Mark doom i) r ∷ []) i doom (step, tt) (already_marked w healthy i doom (sym step.allowed ∙ old))

-- The tree that a legal history leaves is healthy.
pub healthy_of : (s : Story) → IsLegal s → IsHealthy (world_of s)
unfolding world_of IsLegal
healthy_of s legal = healthy_history s.frame s.entries legal

-- An entry that marks a row, or finds it marked, leaves it marked.
pub marks_mark : MarksMark
marks_mark old new caller i doom r legal tells said =
    subst (λ v. IsMarked doom v i) (sym (told_world old new caller (Mark doom i) r tells))
    (marked_after (world_of old) caller i doom r (healthy_of old legal) tells.step said)

-- In the tree behind a mark that was made, or was there, the row is marked.
marked_by : (w : World) (e : Entry) (i : ℕ) (doom : Bool) → IsHealthy w → IsStep w e → e.event ≡ Mark doom i → (e.reply ≡ reply.Marked) ⊎ (e.reply ≡ reply.Already) → IsMarked doom (after w e) i
unfolding after
marked_by w e i doom healthy step marks said =
    subst (λ x. IsMarked doom (after w (entry_of e.caller x e.reply)) i) (sym marks)
    (marked_after w e.caller i doom e.reply healthy
    (record { enabled = tt; allowed = subst (λ x. Allowed w e.caller x e.reply) marks step.allowed }) said)

-- In a legal history each mark holds until its row has left the tree.
pub marks_hold : (f : Frame) (es : List Entry) → Legal (start f) es → MarksHold f es
marks_hold f es legal prefix mid rest e i doom whole marks said =
    let w : World = replay (start f) prefix in
    let both : Legal (start f) prefix × Legal w (e ∷ (mid ++ rest)) = Legal-split (start f) prefix (e ∷ (mid ++ rest)) (subst (Legal (start f)) whole legal) in
    subst (λ v. IsMarked doom v i) (sym (replay-append (start f) prefix (e ∷ mid)))
    (marks_stay (after w e) mid i doom (Legal-split (after w e) mid rest both.1.1).0
    (marked_by w e i doom (healthy_history f prefix both.0) both.1.0 marks said))

-- ---- behind a reap

-- The incarnations that a reply to a reap names.
reaping_in : Reply → List ℕ
reaping_in (reply.Reaping incs) = incs
reaping_in _ = []

-- The incarnations that the reply to a reap names are those that are reaped.
reaped_by : (rows : List Row) (i : ℕ) (incs : List ℕ) → reply.Reaping incs ≡ reply.Reaping (reaped rows i) → incs ≡ reaped rows i
unfolding reaping_in
reaped_by rows i incs e = ap reaping_in e

-- what it names is marked before it
reap_marked : (w : World) (i c : ℕ) (incs : List ℕ) → IsHealthy w → reply.Reaping incs ≡ reply.Reaping (reaped w.rows i) → Contains incs c → IsMarked true w c
reap_marked w i c incs healthy said there =
    let found : (r : Row) × (row_of w.rows c ≡ Some r) × (r.doomed ≡ true) = reaped_row w.rows w.next_inc healthy.sound.orderly i c (subst (λ xs. Contains xs c) (reaped_by w.rows i incs said) there) in
    marked_row w true c found.0 healthy.sound.orderly found.1 (healthy.sound.doomed c found.0 found.1 found.2) (λ is. found.2)

-- The law `ReapsMarked`: what a reap tells of is marked to be destroyed.
pub reaps_marked : ReapsMarked
reaps_marked old new caller i c incs legal tells there =
    let w : World = world_of old in
    let e : Entry = entry_of caller (Reap i) (reply.Reaping incs) in
    subst (λ v. IsMarked true v c) (sym (told_world old new caller (Reap i) (reply.Reaping incs) tells))
    (marks_stay w (e ∷ []) c true (tells.step, tt) (reap_marked w i c incs (healthy_of old legal) tells.step.allowed there))

-- ---- what is shut with all below it

-- A leaving row whose subtree is shut is so after a pick that says that all is done.
over_done : (w : World) (caller i : ℕ) → IsLeaving w i → IsTrue (is_subtree_shut w.rows i) → IsShutBelow (after w (entry_of caller (Pick i) reply.Done)) i
unfolding after
over_done w caller i leaving shut = record { leaving = record { known = leaving.known; marked = leaving.marked }; shut = shut }

-- Where a pick is answered that all is done, all at and below its target is shut.
pub done_is_over : DoneIsOver
done_is_over old new caller i leaving tells =
    subst (λ v. IsShutBelow v i) (sym (told_world old new caller (Pick i) reply.Done tells))
    (over_done (world_of old) caller i leaving tells.step.allowed)

module _ (w v : World) (i : ℕ) (healthy : IsHealthy w) (goes : Goes w v) (leads : Leads w v) (known : i < w.next_inc) (shut : IsTrue (is_subtree_shut w.rows i)) where
  -- a row below it was there, and below it
  below_by : (p j : ℕ) (s : Row) → row_of v.rows j ≡ Some s → s.parent ≡ Some p → IsTrue (is_below w.rows i p) → ((r : Row) × (row_of w.rows j ≡ Some r)) ⊎ IsUnder w.rows s → IsTrue (is_below w.rows i j)
  below_by p j s lives up below (inl r) =
      let parent : r.0.parent ≡ Some p = sym (goes.follows.lasts j r.0 s r.1 lives).parent ∙ up in
      below_up w.rows w.next_inc healthy.sound.orderly i j p r.0 r.1 parent below
  below_by p j s lives up below (inr u) =
      let parent : u.parent ≡ p = some_same u.parent p (sym u.under ∙ up) in
      let closed : u.row.shut ≡ true = shut_each w.rows w.next_inc healthy.sound.orderly i p u.row shut (sym (ap (row_of w.rows) parent) ∙ u.lives) below in
      absurd (true≢false (sym closed ∙ u.unshut))

  -- A row that is the top, and was there or is new, was at or below the top.
  top_by : (j : ℕ) → j ≡ i → ((r : Row) × (row_of w.rows j ≡ Some r)) ⊎ (w.next_inc ≤ j) → IsTrue (is_below w.rows i j)
  top_by j same (inl r) =
      subst (λ t. IsTrue (is_below w.rows t j)) same (below_self w.rows w.next_inc healthy.sound.orderly j r.0 r.1)
  top_by j same (inr high) = absurd (omega arith)

  -- A row at or below the top was so before, where its parent was.
  step : (j : ℕ) (s : Row) → row_of v.rows j ≡ Some s → ((p : ℕ) → s.parent ≡ Some p → IsTrue (is_below v.rows i p) → IsTrue (is_below w.rows i p)) → IsTrue (is_below v.rows i j) → IsTrue (is_below w.rows i j)
  step j s lives up below = elim (below_cases v.rows v.next_inc leads.sound.orderly i j s lives below) [
    | inl same ↦ top_by j same (goes.follows.known j s lives)
    | inr above ↦ below_by above.0 j s lives above.1 (up above.0 above.1 above.2) (leads.grows.known j s lives)
  ]

  -- A row at or below the top was so before.
  was_below : (j : ℕ) (s : Row) → row_of v.rows j ≡ Some s → IsTrue (is_below v.rows i j) → IsTrue (is_below w.rows i j)
  was_below j s lives below =
      climb v.rows v.next_inc leads.sound.orderly (λ j. IsTrue (is_below v.rows i j) → IsTrue (is_below w.rows i j)) step j s lives below

  -- Each row at or below the top is shut.
  each_shut : (j : ℕ) (s : Row) → row_of v.rows j ≡ Some s → IsTrue (is_below v.rows i j) → IsTrue s.shut
  each_shut j s lives below =
      let was : IsTrue (is_below w.rows i j) = was_below j s lives below in
      let r : (r : Row) × (row_of w.rows j ≡ Some r) = below_lives w.rows w.next_inc healthy.sound.orderly i j was in
      (goes.follows.lasts j r.0 s r.1 lives).shut (shut_each w.rows w.next_inc healthy.sound.orderly i j r.0 shut r.1 was)

  -- The top is still below the next incarnation.
  still_known : i < v.next_inc
  still_known = let high : w.next_inc ≤ v.next_inc = goes.higher in omega arith

  -- The subtree of the top is still shut.
  still_shut : IsTrue (is_subtree_shut v.rows i)
  still_shut = shut_all v.rows v.next_inc leads.sound.orderly i each_shut

-- all rows at and below one that was once there stay shut
shut_replay : (w : World) (es : List Entry) (i : ℕ) → IsHealthy w → Legal w es → i < w.next_inc → IsTrue (is_subtree_shut w.rows i) → IsTrue (is_subtree_shut (replay w es).rows i)
shut_replay w [] i healthy legal known shut = shut
shut_replay w (e ∷ es) i healthy legal known shut =
    let goes : Goes w (after w e) = goes_after w e legal.0 in
    let leads : Leads w (after w e) = leads_after w e healthy legal.0 in
    shut_replay (after w e) es i (healthy_after w e healthy legal.0) legal.1
    (still_known w (after w e) i healthy goes leads known shut) (still_shut w (after w e) i healthy goes leads known shut)

-- A row that is leaving and shut with all below is so behind legal entries.
over_replay : (w : World) (es : List Entry) (i : ℕ) → IsHealthy w → Legal w es → IsShutBelow w i → IsShutBelow (replay w es) i
over_replay w es i healthy legal over = record {
  leaving = (marks_stay w es i false legal (over.leaving, λ is. absurd (true≢false (sym is)))).0;
  shut = shut_replay w es i healthy legal over.leaving.known over.shut;
}

-- What is shut with all below it stays so in every later tree.
pub over_stays : OverStays
over_stays f es fs i legal over =
    let both : Legal (start f) es × Legal (replay (start f) es) fs = Legal-split (start f) es fs legal in
    subst (λ v. IsShutBelow v i) (sym (replay-append (start f) es fs))
    (over_replay (replay (start f) es) fs i (healthy_history f es both.0) both.1 over)

-- A row that isn't there, or is doomed, may be purged where its subtree is shut.
may_purge_by : (o : Option Row) (shut : Bool) → IsTrue (not (is_some o) || option_map_or (λ r. r.doomed) o false) → IsTrue shut → IsTrue (not (is_some o) || (option_map_or (λ r. r.doomed) o false && shut))
may_purge_by None shut marked all = refl
may_purge_by (Some r) shut marked all = and_pair r.doomed shut marked all

-- What is marked to be destroyed may be removed once all at and below it is shut.
pub over_may_purge : OverMayPurge
over_may_purge w i marked over =
    may_purge_by (row_of w.rows i) (is_subtree_shut w.rows i) (marked.1 refl).marked over.shut

-- In a tree whose pick answers that all is done, all at and below its target is shut.
done_shut : (w : World) (e : Entry) (t : ℕ) → IsStep w e → e.event ≡ Pick t → e.reply ≡ reply.Done → IsTrue (is_subtree_shut w.rows t)
done_shut w e t step picks done =
    subst (λ r. Allowed w e.caller (Pick t) r) done (subst (λ x. Allowed w e.caller x e.reply) picks step.allowed)

-- In a legal history, what a pick found done stays shut with all below it.
pub done_stays_shut : (f : Frame) (es : List Entry) → Legal (start f) es → DoneStaysShut f es
done_stays_shut f es legal prefix mid rest e t whole picks done known =
    let both : Legal (start f) prefix × Legal (replay (start f) prefix) (e ∷ (mid ++ rest)) = Legal-split (start f) prefix (e ∷ (mid ++ rest)) (subst (Legal (start f)) whole legal) in
    let later : Legal (replay (start f) prefix) (e ∷ mid) = (Legal-split (replay (start f) prefix) (e ∷ mid) rest both.1).0 in
    subst (λ v. IsTrue (is_subtree_shut v.rows t)) (sym (replay-append (start f) prefix (e ∷ mid)))
    (shut_replay (replay (start f) prefix) (e ∷ mid) t (healthy_history f prefix both.0) later known
    (done_shut (replay (start f) prefix) e t both.1.0 picks done))

-- ---- no dead end

-- a law of each tree that a legal history leaves is one of each tree on its way
pub goes_on : ShutdownsGoOn → (f : Frame) (es : List Entry) → Legal (start f) es → ShutdownGoesOn f es
goes_on law f es legal prefix rest i r whole =
    law f prefix i r (Legal-split (start f) prefix rest (subst (Legal (start f)) whole legal)).0
