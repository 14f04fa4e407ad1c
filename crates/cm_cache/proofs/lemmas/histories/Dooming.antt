-- Which entries doom an instance.
use Rattle.std.proofs.Common.{◌≡◌, ℕ, List, [], ◌∷◌, Bool, true, false, cond, not, ◌&&◌, ◌||◌, true≢false, Option, Some, None, map, option_map, refl, sym, ◌∙◌, ap}
use Rattle.std.specs.List.{list_any}
use Rattle.std.specs.Option.{option_map_or}
use Rattle.cm_world.specs.declared.row.Row.{Row}
use Rattle.cm_world.specs.declared.action.ActKind.TheVariants.{Stop}
use Rattle.cm_world.specs.declared.action.Finish.{Finish}
use Rattle.cm_world.specs.declared.action.Finish.TheVariants.{Resolved, Other}
use Rattle.cm_world.specs.declared.action.Outcome.{Outcome}
use Rattle.cm_world.specs.declared.action.Outcome.TheVariants as outcome
use Rattle.cm_world.specs.declared.event.Event.{Event}
use Rattle.cm_world.specs.declared.event.Event.TheVariants.{Begin, End, Await, Create, Mark, Pick, Purge, Exited}
use Rattle.cm_world.specs.declared.reply.Reply.{Reply}
use Rattle.cm_world.specs.declared.reply.Reply.TheVariants as reply
use Rattle.cm_world.specs.Rows.{row_of, has_doomed, is_gone}
use Rattle.cm_world.specs.World.{World, act_of}
use Rattle.cm_world.specs.End.{changed, end_row, set_pending, set_on, set_closing, set_doomed, set_shut, rows_by}
use Rattle.cm_world.specs.Expiring.{goes_with, expired, expired_by, is_stopped}
use Rattle.cm_world.specs.Marks.{is_dynamic}
use Rattle.cm_world.specs.After.{after, with_end_of}
use Rattle.cm_world.specs.Sound.{IncarnationsIncrease}
use Rattle.cm_cache.specs.Keeping.{resolves, comes_or_goes}
use Rattle.cm_cache.specs.Right.{bare}
use Rattle.cm_cache.specs.Beside.{IsReported, goes_some, goes_some_by}
use Rattle.cm_cache.specs.Steps.{may_doom, OthersDoomNone, MarksDoom, ExitsDoom, EndsDoom}
use Rattle.cm_cache.proofs.lemmas.trees.Staying.{read_changed, increasing_changed, AllLive, all_live, goes, going, row_of-going, end_bare, was_doomed_by}
use Rattle.cm_trees.proofs.rows.Dooming.{doom_inc}

-- whether a row is newly doomed
abbrev newly : List Row → List Row → ℕ → Bool
newly old new j = not (has_doomed old j) && has_doomed new j

-- whether one of the rows behind is
abbrev some_newly : List Row → List Row → Bool
some_newly old new = list_any (λ r. newly old new r.inc) new

-- ---- none is

-- A test and its denial don't both hold.
not_self : (b : Bool) → (not b && b) ≡ false
not_self true = refl
not_self false = refl

-- Where the same rows are doomed as before, none of these is newly doomed.
none_of : (old new : List Row) → ((j : ℕ) → has_doomed new j ≡ has_doomed old j) → (xs : List Row) → list_any (λ r. newly old new r.inc) xs ≡ false
none_of old new same [] = refl
none_of old new same (x ∷ xs) =
    let here : newly old new x.inc ≡ false = ap (λ b. not (has_doomed old x.inc) && b) (same x.inc) ∙ not_self (has_doomed old x.inc) in
    ap (λ b. b || list_any (λ r. newly old new r.inc) xs) here ∙ none_of old new same xs

-- Where all rows are as before, none is newly doomed.
none_still : (rows : List Row) → some_newly rows rows ≡ false
none_still rows = none_of rows rows (λ j. refl) rows

-- Where one row is changed in anything but its incarnation and its mark, none is newly doomed.
none_changed : (f : Row → Row) → ((r : Row) → (f r).inc ≡ r.inc) → ((r : Row) → (f r).doomed ≡ r.doomed) → (i : ℕ) (rows : List Row) → some_newly rows (changed i f rows) ≡ false
none_changed f inc doomed i rows =
    none_of rows (changed i f rows) (λ j. read_changed f inc (λ r. r.doomed) doomed i j rows) (changed i f rows)

-- ---- those that go with a row

-- A row that wasn't doomed is newly so exactly where it goes.
going_doomed : (g d : Bool) (x : Row) → x.doomed ≡ d → (not d && (cond (g && not d) (set_doomed x) x).doomed) ≡ (g && not d)
going_doomed true true x is = refl
going_doomed false true x is = refl
going_doomed true false x is = refl
going_doomed false false x is = is

module _ (rows : List Row) (i : ℕ) (old : List Row) (was : (j : ℕ) → has_doomed rows j ≡ has_doomed old j) where
  -- A row is newly doomed by an expiry exactly where it goes with the stopped one.
  newly_goes : (x : Row) → row_of rows x.inc ≡ Some x → newly old (expired i rows) x.inc ≡ goes rows i x
  newly_goes x lives =
      let before : has_doomed old x.inc ≡ x.doomed = sym (was x.inc) ∙ ap (λ o. option_map_or (λ r. r.doomed) o false) lives in
      let now : row_of (expired i rows) x.inc ≡ Some (going rows i x) = row_of-going rows i rows x.inc ∙ ap (option_map (going rows i)) lives in
      ap (λ t. not t && has_doomed (expired i rows) x.inc) before
      ∙ ap (λ o. not x.doomed && option_map_or (λ r. r.doomed) o false) now
      ∙ going_doomed (goes_with rows i x) x.doomed x refl

  -- Some row is newly doomed by an expiry exactly where some row goes.
  each_goes : (xs : List Row) → AllLive rows xs → list_any (λ r. newly old (expired i rows) r.inc) (map (going rows i) xs) ≡ list_any (goes rows i) xs
  unfolding AllLive
  each_goes [] live = refl
  each_goes (x ∷ xs) live =
      ap (λ n. newly old (expired i rows) n || list_any (λ r. newly old (expired i rows) r.inc) (map (going rows i) xs)) (doom_inc (goes rows i x) x)
      ∙ ap (λ t. t || list_any (λ r. newly old (expired i rows) r.inc) (map (going rows i) xs)) (newly_goes x live.0)
      ∙ ap (λ t. goes rows i x || t) (each_goes xs live.1)

  -- some row is newly doomed where some row goes
  some_goes : (next : ℕ) → IncarnationsIncrease next rows → some_newly old (expired i rows) ≡ goes_some rows i
  some_goes next up = each_goes rows (all_live next rows up)

module _ (f : Row → Row) (bares : (r : Row) → bare (f r) ≡ bare r) where
  -- A row keeps its incarnation in the change.
  inc_kept : (r : Row) → (f r).inc ≡ r.inc
  inc_kept r = ap (λ x. x.inc) (bares r)

  -- A row is doomed after the change exactly where it was before.
  doomed_kept : (r : Row) → (f r).doomed ≡ r.doomed
  doomed_kept r = ap (λ x. x.doomed) (bares r)

  -- behind a change of the row with which they go
  changed_goes : (next i : ℕ) (rows : List Row) → IncarnationsIncrease next rows → some_newly rows (expired i (changed i f rows)) ≡ goes_some (changed i f rows) i
  changed_goes next i rows up =
      some_goes (changed i f rows) i rows (λ j. read_changed f inc_kept (λ r. r.doomed) doomed_kept i j rows) next
      (increasing_changed f inc_kept next i rows up)

  -- which may have stopped, or not
  stopped_goes : (t : Bool) (next i : ℕ) (rows : List Row) → IncarnationsIncrease next rows → some_newly rows (cond t (expired i (changed i f rows)) (changed i f rows)) ≡ (t && goes_some (changed i f rows) i)
  stopped_goes true next i rows up = changed_goes next i rows up
  stopped_goes false next i rows up = none_changed f inc_kept doomed_kept i rows

-- ---- marks

-- Whether a reply says that a row is marked now.
abbrev is_marked : Reply → Bool
is_marked reply.Marked = true
is_marked _ = false

-- a row that is marked to be destroyed lives, and wasn't doomed before
undoomed_by : (t : Bool) (rows : List Row) (i : ℕ) (r : Row) → cond t reply.Already (cond (is_gone rows i) (reply.Gone i) (cond (is_dynamic r) reply.Marked reply.NotDynamic)) ≡ reply.Marked → t ≡ false
undoomed_by true rows i r e = absurd (true≢false (sym (ap is_marked e)))
undoomed_by false rows i r e = refl

-- Where a mark is answered by that it is made now, the row is there and wasn't doomed.
marked_row : (o : Option Row) (rows : List Row) (i : ℕ) → row_of rows i ≡ o → elim o as (λ _. Reply) [ None ↦ reply.Gone i | Some r ↦ cond r.doomed reply.Already (cond (is_gone rows i) (reply.Gone i) (cond (is_dynamic r) reply.Marked reply.NotDynamic)) ] ≡ reply.Marked → (r : Row) × (row_of rows i ≡ Some r) × (r.doomed ≡ false)
marked_row None rows i lives e = absurd (true≢false (sym (ap is_marked e)))
marked_row (Some r) rows i lives e = (r, lives, undoomed_by r.doomed rows i r e)

-- A mark of a row that wasn't doomed newly dooms some row.
newly_by : (b : Bool) (rows : List Row) (i : ℕ) (r : Row) → row_of rows i ≡ Some r → r.doomed ≡ false → some_newly rows (changed i set_doomed rows) ≡ b → true ≡ b
newly_by true rows i r lives was is = refl
newly_by false rows i r lives was is = absurd (true≢false (sym (was_doomed_by rows i false r was lives is)))

-- A mark dooms an instance exactly where it is one to destroy.
pub marks_doom : MarksDoom
unfolding after
marks_doom w caller i false marked = sym (none_changed set_closing (λ r. refl) (λ r. refl) i w.rows)
marks_doom w caller i true marked =
    let found : (r : Row) × (row_of w.rows i ≡ Some r) × (r.doomed ≡ false) = marked_row (row_of w.rows i) w.rows i refl marked in
    newly_by (some_newly w.rows (changed i set_doomed w.rows)) w.rows i found.0 found.1 found.2 refl

-- ---- exits and ends

-- An exit dooms an instance exactly where some row goes with the one whose program has ended.
pub exits_doom : ExitsDoom
unfolding after
exits_doom w caller i m up = sym (changed_goes (set_on false) (λ r. refl) w.next_inc i w.rows up)

-- An end that resolves nothing newly dooms some row exactly where one goes with the stopped one.
ended_goes : (w : World) (a i : ℕ) (finish : Finish) (o : Outcome) → IncarnationsIncrease w.next_inc w.rows → resolves (End a finish) (reply.Ended o) ≡ false → some_newly w.rows (expired_by o i (rows_by i w.next_inc finish o w.rows)) ≡ goes_some_by o (rows_by i w.next_inc finish o w.rows) i
ended_goes w a i (Resolved url d) outcome.Resolved up stays = absurd (true≢false stays)
ended_goes w a i (Resolved url d) o up stays = stopped_goes (end_row o) (end_bare o) (is_stopped o) w.next_inc i w.rows up
ended_goes w a i (Other f) o up stays = stopped_goes (end_row o) (end_bare o) (is_stopped o) w.next_inc i w.rows up

-- Of three tests the last counts only where the first fails.
told_if : (t c d e : Bool) → (t ≡ false → e ≡ d) → (t || c || d) ≡ (t || c || e)
told_if true c d e same = refl
told_if false c d e same = ap (λ b. c || b) (sym (same refl))

-- An end dooms an instance exactly where it stopped its row and some row goes with that.
pub ends_doom : EndsDoom
unfolding after
ends_doom w caller a finish o x up there =
    told_if (resolves (End a finish) (reply.Ended o)) false (goes_some_by o (rows_by x.inc w.next_inc finish o w.rows) x.inc)
    (some_newly w.rows (with_end_of w a finish o (act_of w.acts a)).rows)
    (λ stays. ap (λ y. some_newly w.rows (with_end_of w a finish o y).rows) there ∙ ended_goes w a x.inc finish o up stays)

-- ---- all others

-- Of an entry that can doom nothing it is rightly told that it dooms nothing.
others_told : (w : World) (caller : ℕ) (event : Event) (r : Reply) → may_doom event r ≡ false → IsReported w (record { caller = caller; event = event; reply = r }) false
unfolding after
others_told w caller (Begin kind i) (reply.Begun work) may =
    sym (none_changed (set_pending (Some (kind, w.next_action))) (λ r. refl) (λ r. refl) i w.rows)
others_told w caller (Begin kind i) (reply.Joined a) may = sym (none_still w.rows)
others_told w caller (End a finish) (reply.Ended o) may = absurd (true≢false may)
others_told w caller (Await a) (reply.Ended o) may = sym (none_still w.rows)
others_told w caller (Create p child) (reply.Created i) may = refl
others_told w caller (Mark doom i) reply.Marked may = absurd (true≢false may)
others_told w caller (Pick t) (reply.Stopping work) may =
    sym (none_changed (set_pending (Some (Stop, w.next_action))) (λ r. refl) (λ r. refl) work.inc w.rows)
others_told w caller (Pick t) (reply.ShutDown i) may = sym (none_changed set_shut (λ r. refl) (λ r. refl) i w.rows)
others_told w caller (Purge i) (reply.Purged lost) may = refl
others_told w caller (Exited i) (reply.Left m) may = absurd (true≢false may)
others_told w caller event r may = ap (λ t. resolves event r || comes_or_goes r || t) (sym (none_still w.rows))

-- An entry that is no mark, end or exit may be told as dooming none.
pub others_doom_none : OthersDoomNone
others_doom_none w e may = others_told w e.caller e.event e.reply may
