-- A step that changes rows alone.
use Rattle.std.proofs.Common.{◌≡◌, ℕ, ◌+◌, ◌-◌, List, [], ◌∷◌, ◌++◌, length, Bool, None, sym, ◌∙◌, ap, subst, arith}
use Rattle.std.specs.List.{count_by}
use Rattle.cm_book.specs.History.{History}
use Rattle.cm_table.specs.Tree.{Tree}
use Rattle.cm_world.specs.declared.frame.Frame.{Frame}
use Rattle.cm_world.specs.declared.row.Row.{Row}
use Rattle.cm_world.specs.declared.action.Act.{Act}
use Rattle.cm_world.specs.declared.action.Join.{Join}
use Rattle.cm_world.specs.declared.reply.Entry.{Entry}
use Rattle.cm_world.specs.World.{World, owed}
use Rattle.cm_world.specs.After.{moved, counted, after}
use Rattle.cm_world.specs.Legal.{IsStep}
use Rattle.cm_world.specs.Sound.{IsSound}
use Rattle.cm_laws.specs.Story.{world_of, IsLegal}
use Rattle.cm_laws.specs.ShutdownsInside.{TreesStaySound}
use Rattle.cm_laws.specs.Tasks.{IsNumbered, IsTasked}
use Rattle.cm_steps.specs.Tasks.{is_open_resolve}
use Rattle.cm_steps.specs.Inside.{story_of, world_in, IsRealmInvariant}
use Rattle.cm_steps.specs.declared.realm.Realm.TheInside.{Inside}
use Rattle.cm_cache.specs.Keeping.{asked_by}
use Rattle.cm_cache.specs.Beside.{is_emptied, followed, IsReported, IsBeside}
use Rattle.cm_steps.proofs.lemmas.steps.Going.{goes_on, one_longer}
use Rattle.cm_steps.specs.Planned.{IsPlannedBy}
use Rattle.cm_steps.specs.LastTold.{nothing_told}
use Rattle.cm_steps.proofs.lemmas.asked.Keepers.{goes_beside}
use Rattle.cm_steps.proofs.lemmas.Planning.{planned_after}
use Rattle.cm_steps.proofs.lemmas.steps.Telling.{told_none}

-- An entry pushed into room that was reserved just before leaves what was reserved as it was.
pub one_pushed : (old mid new : History) (e : Entry) → mid ≡ record old { reserved = old.reserved + 1 } → new ≡ record mid { entries = mid.entries ++ e ∷ []; reserved = mid.reserved - 1 } → new ≡ record old { entries = old.entries ++ e ∷ [] }
one_pushed old mid new e reserved pushed =
    let back : old.reserved + 1 - 1 ≡ old.reserved = omega arith in
    pushed
    ∙ ap (λ (h : History). record h { entries = h.entries ++ e ∷ []; reserved = h.reserved - 1 }) reserved
    ∙ ap (λ n. record old { entries = old.entries ++ e ∷ []; reserved = n }) back

-- these are the rows behind it, the incarnation that the next one gets, and its entry
pub record IsRowStep (old new : Inside) (e : Entry) (rows : List Row) (next : ℕ) : Type 0 where
  pub frame : new.frame ≡ old.frame
  pub table : new.table ≡ record old.table { rows = rows; next_inc = next }
  pub acts : new.acts.items ≡ old.acts.items
  pub resolves : new.resolves ≡ old.resolves
  pub joins : new.joins.items ≡ old.joins.items
  pub book : new.records.book ≡ record old.records.book { entries = old.records.book.entries ++ e ∷ [] }
  pub doomed : Bool
  pub unasked : asked_by (world_in old) e.event ≡ None
  pub told : IsReported (world_in old) e doomed
  pub keeper : new.records.keeper ≡ followed e.event e.reply doomed old.records.keeper
  pub plan : IsPlannedBy (is_emptied e.event e.reply doomed) old.records.plan new.records.plan
  pub last : new.records.last ≡ nothing_told

-- where the entry changes just these, the fields are the tree that it leaves
world_stepped : (old new : Inside) (e : Entry) (rows : List Row) (next : ℕ) → moved (world_in old) e.caller e.event e.reply ≡ record (world_in old) { rows = rows; next_inc = next } → IsRowStep old new e rows next → after (world_in old) e ≡ world_in new
unfolding after
world_stepped old new e rows next moves s =
    let w : World = world_in old in
    let made : Tree → List Act → List Join → ℕ → Frame → World =
    λ t xs js n fr. record { frame = fr; rows = t.rows; next_inc = t.next_inc; next_action = length xs + 1; acts = xs; joins = js; entries = n } in
    ap counted moves
    ∙ ap (λ t. made t w.acts w.joins (w.entries + 1) w.frame) (sym s.table)
    ∙ ap (λ xs. made new.table xs w.joins (w.entries + 1) w.frame) (sym s.acts)
    ∙ ap (λ js. made new.table new.acts.items js (w.entries + 1) w.frame) (sym s.joins)
    ∙ ap (λ n. made new.table new.acts.items new.joins.items n w.frame) (one_longer _ _ e (ap (λ (h : History). h.entries) s.book))
    ∙ ap (made new.table new.acts.items new.joins.items (length new.records.book.entries)) (sym s.frame)

-- Behind a step that changes rows what a realm keeps is right, with the answers that are kept.
pub kept_rows : (old new : Inside) (e : Entry) (rows : List Row) (next : ℕ) → IsRealmInvariant old → IsStep (world_in old) e → moved (world_in old) e.caller e.event e.reply ≡ record (world_in old) { rows = rows; next_inc = next } → IsTasked rows old.acts.items → IsRowStep old new e rows next → IsRealmInvariant new
kept_rows old new e rows next kept step moves tasked s = record {
  stands =
      goes_on (story_of old) (story_of new) (world_in old) (world_in new) e kept.stands s.frame (ap (λ (h : History). h.entries) s.book) step
      (world_stepped old new e rows next moves s);
  owes =
      ap (λ (h : History). h.reserved) s.book
      ∙ kept.owes
      ∙ ap (λ xs. owed xs old.joins.items) (sym s.acts)
      ∙ ap (owed new.acts.items) (sym s.joins);
  counted = s.resolves ∙ kept.counted ∙ ap (count_by is_open_resolve) (sym s.acts);
  spare =
      let same = ap (count_by is_open_resolve) s.acts in
      let was = kept.spare in
      let left = ap (λ (t : Tree). t.spare) s.table in
      omega arith;
  rows = ap (λ (t : Tree). t.limit) s.table ∙ kept.rows ∙ ap (λ (fr : Frame). fr.limits.rows) (sym s.frame);
  entries = ap (λ (h : History). h.limit) s.book ∙ kept.entries ∙ ap (λ (fr : Frame). fr.limits.entries) (sym s.frame);
  builtins = ap (λ (t : Tree). t.builtins) s.table ∙ kept.builtins ∙ ap (λ (fr : Frame). fr.builtins) (sym s.frame);
  numbers = subst (IsNumbered 1) (sym s.acts) kept.numbers;
  tasks = subst (IsTasked new.table.rows) (sym s.acts) (subst (λ (t : Tree). IsTasked t.rows old.acts.items) (sym s.table) tasked);
  beside =
      subst (λ (fr : Frame). IsBeside fr new.records.book.entries new.records.keeper) (sym s.frame)
      (goes_beside old e s.doomed new.records.book.entries new.records.keeper kept.stands kept.beside (ap (λ (h : History). h.entries) s.book) s.unasked s.told s.keeper);
  planned =
      planned_after old e s.doomed new.table.rows new.records.plan kept.stands step (ap (λ (w : World). w.rows) (world_stepped old new e rows next moves s)) s.told kept.planned s.plan;
  told = told_none new.table.rows new.records.last s.last;
}

-- the tree that the fields are is sound, as that of every legal history is
pub sound_in : TreesStaySound → (a : Inside) → IsRealmInvariant a → IsSound a.table.rows a.table.next_inc
unfolding world_of IsLegal
sound_in law a kept =
    subst (λ (w : World). IsSound w.rows w.next_inc) kept.stands.world (law a.frame a.records.book.entries kept.stands.legal)
