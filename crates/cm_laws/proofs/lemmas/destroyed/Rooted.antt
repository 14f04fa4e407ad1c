-- The root stands in every tree that a legal history leaves.
use Rattle.std.proofs.Common.{◌≡◌, ℕ, ◌<◌, ◌≤◌, List, [], ◌∷◌, ◌++◌, Bool, true, false, cond, true≢false, Option, Some, None, is_some, IsTrue, refl, sym, ◌∙◌, ap, subst, arith, inl, inr, ◌⊎◌}
use Rattle.std.specs.Option.{option_map_or}
use Rattle.cm_names.specs.declared.child.ChildName.{ChildName}
use Rattle.cm_facts.proofs.Booleans.{true_and_false}
use Rattle.cm_world.specs.declared.row.Row.{Row}
use Rattle.cm_world.specs.declared.frame.Frame.{Frame}
use Rattle.cm_world.specs.declared.action.Act.{Act}
use Rattle.cm_world.specs.declared.action.ActKind.TheVariants.{Stop}
use Rattle.cm_world.specs.declared.action.Outcome.{Outcome}
use Rattle.cm_world.specs.declared.action.Outcome.TheVariants as outcome
use Rattle.cm_world.specs.declared.action.Finish.{Finish}
use Rattle.cm_world.specs.declared.action.Finish.TheVariants as finish
use Rattle.cm_world.specs.declared.event.Event.{Event}
use Rattle.cm_world.specs.declared.event.Event.TheVariants.{Begin, End, Await, Create, Mark, Pick, Purge, Exited}
use Rattle.cm_world.specs.declared.reply.Reply.{Reply}
use Rattle.cm_world.specs.declared.reply.Reply.TheVariants as reply
use Rattle.cm_world.specs.declared.reply.Entry.{Entry}
use Rattle.cm_world.specs.Rows.{row_of, is_below}
use Rattle.cm_world.specs.World.{World, start, act_of}
use Rattle.cm_world.specs.End.{changed, set_pending, set_on, set_closing, set_doomed, set_shut, set_decl, end_row, child_rows, rows_by}
use Rattle.cm_world.specs.Create.{created_row}
use Rattle.cm_world.specs.Marks.{is_dynamic, mark_reply}
use Rattle.cm_world.specs.Step.{IsEnabled, Allowed}
use Rattle.cm_world.specs.Expiring.{expired, is_stopped}
use Rattle.cm_world.specs.After.{with_end_of, others_than, moved, after}
use Rattle.cm_world.specs.Legal.{IsStep, Legal, replay}
use Rattle.cm_world.specs.Sound.{IsOrderly, IsParent}
use Rattle.cm_world.proofs.lemmas.trees.Finding.{some_same}
use Rattle.cm_trees.proofs.rows.Rows.{Becomes, becomes_after, lives_left}
use Rattle.cm_trees.proofs.trees.Trees.{not_true, below_least}
use Rattle.cm_laws.proofs.lemmas.actions.Tasks.{by_test, edit_other}
use Rattle.cm_laws.proofs.lemmas.sound.Above.{above_cases}
use Rattle.cm_laws.proofs.lemmas.sound.Marks.{IsLight, light_pending, light_on, light_end}
use Rattle.cm_laws.proofs.lemmas.sound.Expiries.{Went, went, there_still}
use Rattle.cm_laws.proofs.lemmas.sound.Purges.{stands as left_standing}
use Rattle.cm_laws.proofs.lemmas.sound.Replies.{marked_dynamic, IsPurging, purging}
use Rattle.cm_laws.proofs.lemmas.sound.Healthy.{IsHealthy, healthy_after, healthy_history}
use Rattle.cm_laws.proofs.lemmas.destroyed.Standing.{stands, is_doomed, standing}

-- the root is there, has no name, and isn't doomed
pub record IsRooted (rows : List Row) : Type 0 where
  pub row : Row
  pub lives : row_of rows 0 ≡ Some row
  pub unnamed : row.name ≡ None
  pub undoomed : row.doomed ≡ false

-- The root stands with more rows behind.
rooted_more : (rows kids : List Row) → IsRooted rows → IsRooted (rows ++ kids)
rooted_more rows kids it = record {
  row = it.row;
  lives = lives_left rows kids 0 it.row it.lives;
  unnamed = it.unnamed;
  undoomed = it.undoomed;
}

-- what has no name is in no collection
named_dynamic : (r : Row) → r.name ≡ None → is_dynamic r ≡ true → ⊥
named_dynamic r unnamed dynamic =
    true≢false (sym dynamic ∙ ap (λ o. option_map_or (λ (c : ChildName). is_some c.coll) o false) unnamed)

-- ---- behind a change

module _ (rows : List Row) (rooted : IsRooted rows) where
  -- The root, as before or changed, has no name and isn't doomed, where the change leaves both.
  changed_by : (f : Row → Row) (s : Row) → ((r : Row) → (f r).name ≡ r.name) → ((r : Row) → (f r).doomed ≡ r.doomed) → row_of rows 0 ≡ Some rooted.row → (s ≡ rooted.row) ⊎ (s ≡ f rooted.row) → (s.name ≡ None) × (s.doomed ≡ false)
  changed_by f s names dooms lives (inl same) =
      (ap (λ z. z.name) same ∙ rooted.unnamed, ap (λ z. z.doomed) same ∙ rooted.undoomed)
  changed_by f s names dooms lives (inr new) = (
    ap (λ z. z.name) new ∙ names rooted.row ∙ rooted.unnamed,
    ap (λ z. z.doomed) new ∙ dooms rooted.row ∙ rooted.undoomed,
  )

  -- The root stays without a name and undoomed behind a change that keeps both.
  pub rooted_changed : (i : ℕ) (f : Row → Row) → ((r : Row) → (f r).inc ≡ r.inc) → ((r : Row) → (f r).name ≡ r.name) → ((r : Row) → (f r).doomed ≡ r.doomed) → IsRooted (changed i f rows)
  rooted_changed i f inc names dooms =
      let b : Becomes f (row_of (changed i f rows) 0) rooted.row = becomes_after i f inc rows 0 rooted.row rooted.lives in
      let both : (b.row.name ≡ None) × (b.row.doomed ≡ false) = changed_by f b.row names dooms rooted.lives b.is in
      record { row = b.row; lives = b.lives; unnamed = both.0; undoomed = both.1 }

  -- The root stays without a name and undoomed behind a change of what is on or pending.
  pub rooted_light : (i : ℕ) (f : Row → Row) → IsLight f → IsRooted (changed i f rows)
  rooted_light i f light = rooted_changed i f light.inc light.name light.doomed

  -- only a child in a collection is doomed
  pub rooted_doomed : (i : ℕ) (r : Row) → row_of rows i ≡ Some r → is_dynamic r ≡ true → IsRooted (changed i set_doomed rows)
  rooted_doomed i r lives dynamic =
      by_test 0 i
      (λ same. let one : r ≡ rooted.row = some_same r rooted.row (sym lives ∙ ap (row_of rows) (sym same) ∙ rooted.lives) in
      absurd (named_dynamic rooted.row rooted.unnamed (sym (ap is_dynamic one) ∙ dynamic)))
      (λ differ. record {
        row = rooted.row;
        lives = edit_other (λ z. z.inc) i set_doomed (λ r. refl) 0 rows differ ∙ rooted.lives;
        unnamed = rooted.unnamed;
        undoomed = rooted.undoomed;
      })

  -- The root after an expiry is as before, as it is in no collection.
  stays_as : (i : ℕ) (s : Row) → row_of (expired i rows) 0 ≡ Some s → (s ≡ rooted.row) ⊎ ((is_dynamic rooted.row ≡ true) × (s ≡ set_doomed rooted.row)) → IsRooted (expired i rows)
  stays_as i s lives (inl same) = record {
    row = s;
    lives = lives;
    unnamed = ap (λ z. z.name) same ∙ rooted.unnamed;
    undoomed = ap (λ z. z.doomed) same ∙ rooted.undoomed;
  }
  stays_as i s lives (inr own) = absurd (named_dynamic rooted.row rooted.unnamed own.0)

  -- The root stays without a name and undoomed where rows go with one that stops.
  pub rooted_expired : (i : ℕ) → IsRooted (expired i rows)
  rooted_expired i =
      let s : (s : Row) × (row_of (expired i rows) 0 ≡ Some s) = there_still rows i 0 rooted.row rooted.lives in
      let w : Went rows 0 s.0 = went rows i 0 s.0 s.1 in
      let same : w.row ≡ rooted.row = some_same w.row rooted.row (sym w.was ∙ rooted.lives) in
      stays_as i s.0 s.1 (subst (λ z. (s.0 ≡ z) ⊎ ((is_dynamic z ≡ true) × (s.0 ≡ set_doomed z))) same w.is)

module _ (rows : List Row) (next : ℕ) (orderly : IsOrderly rows next) (rooted : IsRooted rows) where
  -- The root isn't doomed.
  no_mark : IsTrue (is_doomed rows 0) → ⊥
  no_mark above = elim (above_cases (λ s. s.doomed) rows next orderly 0 rooted.row rooted.lives above) [
    | inl here ↦ true_and_false rooted.row.doomed here rooted.undoomed
    | inr higher ↦
        let parent : IsParent rows higher.0 0 = (orderly.parents 0 higher.0 rooted.row rooted.lives higher.1).0 in
        let lower : higher.0 < 0 = parent.lower in
        absurd (omega arith)
  ]

  -- The root stands in orderly rows in which it is there and isn't doomed.
  pub root_stands : IsTrue (stands rows 0)
  root_stands = standing rows next orderly 0 rooted.row rooted.lives (not_true (is_doomed rows 0) no_mark)

  -- only a doomed row is purged
  rooted_purged : (top : ℕ) → IsPurging rows top → IsRooted (others_than rows top)
  rooted_purged top it = record {
    row = rooted.row;
    lives = left_standing rows next top orderly 0 rooted.row rooted.lives (not_true (is_below rows top 0) outside);
    unnamed = rooted.unnamed;
    undoomed = rooted.undoomed;
  } where
    outside : IsTrue (is_below rows top 0) → ⊥
    outside below =
        let least : top ≤ 0 = below_least rows next orderly top 0 below in
        let same : top ≡ 0 = omega arith in
        let one : it.row ≡ rooted.row = some_same it.row rooted.row (sym it.lives ∙ ap (row_of rows) same ∙ rooted.lives) in
        true≢false (sym it.doomed ∙ ap (λ z. z.doomed) one ∙ rooted.undoomed)

-- ---- behind an entry

module _ (w : World) (orderly : IsOrderly w.rows w.next_inc) (rooted : IsRooted w.rows) where
  -- The root stands after a change of whether a row is on and what is pending.
  light : (i : ℕ) (f : Row → Row) → IsLight f → IsRooted (changed i f w.rows)
  light i f is = rooted_light w.rows rooted i f is

  -- The root stands after the end of an action, before any expiry.
  ends : (i : ℕ) (f : Finish) (o : Outcome) → IsRooted (rows_by i w.next_inc f o w.rows)
  ends i (finish.Other p) o = light i (end_row o) (light_end o)
  ends i (finish.Resolved url d) outcome.Resolved =
      rooted_more (changed i (λ r. set_decl url d (set_pending None r)) w.rows) (child_rows i w.next_inc d.children)
      (rooted_changed w.rows rooted i (λ r. set_decl url d (set_pending None r)) (λ r. refl) (λ r. refl) (λ r. refl))
  ends i (finish.Resolved url d) o = light i (end_row o) (light_end o)

  -- The root stands, whether there was an expiry or not.
  expires_if : (b : Bool) (i : ℕ) (rows : List Row) → IsRooted rows → IsRooted (cond b (expired i rows) rows)
  expires_if true i rows it = rooted_expired rows it i
  expires_if false i rows it = it

  -- The root stands after the end of an action, whether it was found or not.
  ends_by : (a : ℕ) (f : Finish) (o : Outcome) (x : Option Act) → IsRooted (with_end_of w a f o x).rows
  ends_by a f o None = rooted
  ends_by a f o (Some x) = expires_if (is_stopped o) x.inc (rows_by x.inc w.next_inc f o w.rows) (ends x.inc f o)

  -- The root stands after a mark that was made.
  marks : (doom : Bool) (i : ℕ) → reply.Marked ≡ mark_reply w.rows doom i → IsRooted (changed i (cond doom set_doomed set_closing) w.rows)
  marks true i it =
      let found : (r : Row) × (row_of w.rows i ≡ Some r) × (is_dynamic r ≡ true) = marked_dynamic w.rows i (row_of w.rows i) (sym it) in
      rooted_doomed w.rows rooted i found.0 found.1 found.2
  marks false i it = rooted_changed w.rows rooted i set_closing (λ r. refl) (λ r. refl) (λ r. refl)

  -- The root stands after an enabled event with an allowed reply.
  moves : (caller : ℕ) (e : Event) (r : Reply) → IsEnabled w caller e → Allowed w caller e r → IsRooted (moved w caller e r).rows
  moves caller (Begin kind i) (reply.Begun work) can it =
      light i (set_pending (Some (kind, w.next_action))) (light_pending (Some (kind, w.next_action)))
  moves caller (Begin kind i) (reply.Joined a) can it = rooted
  moves caller (End a f) (reply.Ended o) can it = ends_by a f o (act_of w.acts a)
  moves caller (Await a) (reply.Ended o) can it = rooted
  moves caller (Create p child) (reply.Created i) can it =
      rooted_more w.rows (created_row i p child.coll child.name child.url child.gives ∷ []) rooted
  moves caller (Mark doom i) reply.Marked can it = marks doom i it
  moves caller (Pick t) (reply.Stopping work) can it =
      light work.inc (set_pending (Some (Stop, w.next_action))) (light_pending (Some (Stop, w.next_action)))
  moves caller (Pick t) (reply.ShutDown i) can it =
      rooted_changed w.rows rooted i set_shut (λ r. refl) (λ r. refl) (λ r. refl)
  moves caller (Purge i) (reply.Purged lost) can it = rooted_purged w.rows w.next_inc orderly rooted i (purging w.rows i lost can it)
  moves caller (Exited i) (reply.Left m) can it =
      rooted_expired (changed i (set_on false) w.rows) (light i (set_on false) (light_on false)) i
  moves caller e r can it = rooted

-- The root stands after a step.
rooted_after : (w : World) (e : Entry) → IsHealthy w → IsStep w e → IsRooted w.rows → IsRooted (after w e).rows
unfolding after
rooted_after w e healthy step rooted = moves w healthy.sound.orderly rooted e.caller e.event e.reply step.enabled step.allowed

-- The root stands after all legal entries.
rooted_replay : (w : World) (es : List Entry) → IsHealthy w → Legal w es → IsRooted w.rows → IsRooted (replay w es).rows
rooted_replay w [] healthy legal rooted = rooted
rooted_replay w (e ∷ es) healthy legal rooted =
    rooted_replay (after w e) es (healthy_after w e healthy legal.0) legal.1 (rooted_after w e healthy legal.0 rooted)

-- a legal history leaves the root where it is
pub root_stays : (f : Frame) (es : List Entry) → Legal (start f) es → IsTrue (stands (replay (start f) es).rows 0)
root_stays f es legal =
    root_stands (replay (start f) es).rows (replay (start f) es).next_inc (healthy_history f es legal).sound.orderly
    (rooted_replay (start f) es (healthy_history f [] tt) legal (record { row = _; lives = refl; unnamed = refl; undoomed = refl }))
