-- What the end of an action needs, and what it leaves.
use Rattle.std.proofs.Common.{◌≡◌, ℕ, ◌+◌, ◌-◌, ◌≤◌, ◌==◌, List, [], ◌∷◌, ◌++◌, Bool, true, false, length, Some, is_some, option_and_then, refl, sym, ◌∙◌, ap, subst, arith}
use Rattle.std.specs.Option.{option_map_or}
use Rattle.std.specs.List.{count_by}
use Rattle.cm_facts.proofs.Booleans.{and_false}
use Rattle.cm_world.specs.declared.row.Row.{Row}
use Rattle.cm_world.specs.declared.frame.Frame.{Frame}
use Rattle.cm_world.specs.declared.action.Act.{Act}
use Rattle.cm_world.specs.declared.action.Join.{Join}
use Rattle.cm_world.specs.declared.action.ActKind.TheVariants.{Resolve}
use Rattle.cm_world.specs.declared.action.Outcome.{Outcome}
use Rattle.cm_world.specs.declared.action.Outcome.TheVariants as outcome
use Rattle.cm_world.specs.declared.action.Finish.{Finish}
use Rattle.cm_world.specs.declared.action.Finish.TheVariants as finish
use Rattle.cm_world.specs.declared.event.Event.TheVariants.{End}
use Rattle.cm_world.specs.declared.reply.Reply.TheVariants.{Ended}
use Rattle.cm_world.specs.Rows.{row_of}
use Rattle.cm_world.specs.World.{World, act_of, is_open}
use Rattle.cm_world.specs.Begin.{same_act}
use Rattle.cm_world.specs.End.{rows_by, added_by, put_outcome, ended, outcome_by}
use Rattle.cm_world.specs.Step.{MayEnd}
use Rattle.cm_world.specs.Expiring.{expired_by}
use Rattle.cm_world.specs.After.{with_end_of, counted, after}
use Rattle.cm_table.specs.Tree.{Tree}
use Rattle.cm_trees.proofs.rows.Edits.{length-edit_first}
use Rattle.cm_steps.specs.declared.realm.Realm.TheInside.{Inside}
use Rattle.cm_steps.specs.declared.ending.Ending.{Ending}
use Rattle.cm_steps.specs.declared.ending.Ending.TheVariants as ending
use Rattle.cm_laws.specs.Story.{entry_of}
use Rattle.cm_laws.specs.Tasks.{IsNumbered, HasRow, IsTasked}
use Rattle.cm_steps.specs.Tasks.{is_open_resolve}
use Rattle.cm_steps.specs.Inside.{story_of, world_in, IsRealmInvariant}
use Rattle.cm_steps.specs.Ends.{inc_of, finish_of, takes_of, CanTakeEnd}
use Rattle.cm_steps.proofs.lemmas.steps.Counts.{open_less, resolve_less, count_le, count_one, count_same}
use Rattle.cm_laws.proofs.lemmas.actions.Tasks.{numbered_ended}
use Rattle.cm_laws.proofs.lemmas.actions.Ends.{kind_of_resolve, tasked_by}
use Rattle.cm_laws.proofs.lemmas.sound.Expiries.{tasked_expired_by}
use Rattle.cm_cache.specs.Beside.{is_emptied, followed, IsReported, IsBeside}
use Rattle.cm_steps.proofs.lemmas.steps.Going.{goes_on, one_longer}
use Rattle.cm_steps.specs.Planned.{IsPlannedBy}
use Rattle.cm_steps.proofs.lemmas.asked.Keepers.{goes_beside}
use Rattle.cm_steps.proofs.lemmas.Planning.{planned_after}
use Rattle.cm_steps.specs.LastTold.{nothing_told}
use Rattle.cm_steps.proofs.lemmas.steps.Telling.{told_none}

-- ---- what it leaves

-- The tree behind an end has its rows, its incarnations, its actions and one entry more as the end says.
pub after-ended : (w : World) (caller a : ℕ) (f : Finish) (o : Outcome) (x : Act) → act_of w.acts a ≡ Some x → after w (entry_of caller (End a f) (Ended o)) ≡ record w { rows = expired_by o x.inc (rows_by x.inc w.next_inc f o w.rows); next_inc = w.next_inc + added_by f o; acts = ended a o w.acts; entries = w.entries + 1 }
unfolding after
after-ended w caller a f o x there =
    ap (λ r. counted (with_end_of w a f o r)) there

-- The row of an action that may be ended is the one that it was begun at.
pub inc-ended : (acts : List Act) (caller a : ℕ) (f : Finish) → (may : MayEnd acts caller a f) → inc_of acts a ≡ may.act.inc
inc-ended acts caller a f may = ap (λ o. option_map_or (λ x. x.inc) o 0) may.there

-- ---- what the end of an action needs

-- one open resolve less where it was one, whatever becomes of it
pub one_left : (acts : List Act) (a : ℕ) (o : Outcome) → option_map_or is_open_resolve (act_of acts a) false ≡ true → count_by is_open_resolve (ended a o acts) + 1 ≡ count_by is_open_resolve acts
one_left acts a o h = count_one (λ (x : Act). x.action == a) is_open_resolve (put_outcome o) acts (λ x. and_false (same_act x.kind Resolve)) h

-- Where the action that ends was no open resolve, as many of these are left as there were.
pub same_left : (acts : List Act) (a : ℕ) (o : Outcome) → option_map_or is_open_resolve (act_of acts a) false ≡ false → count_by is_open_resolve (ended a o acts) ≡ count_by is_open_resolve acts
same_left acts a o h = count_same (λ (x : Act). x.action == a) is_open_resolve (put_outcome o) acts (λ x. and_false (same_act x.kind Resolve)) h

-- where a resolve has ended, there is one less that is open
pub resolves_left : (acts : List Act) (caller a : ℕ) (f : Finish) (o : Outcome) → MayEnd acts caller a f → count_by is_open_resolve (ended a o acts) + takes_of f ≤ count_by is_open_resolve acts
resolves_left acts caller a (finish.Resolved url d) o may =
    let less = resolve_less acts caller a url d o may in omega arith
resolves_left acts caller a (finish.Other p) o may =
    let less = count_le (λ (x : Act). x.action == a) is_open_resolve (put_outcome o) acts (λ x. and_false (same_act x.kind Resolve)) in omega arith

-- the row of an open resolve can take a declaration over, in memory that is kept
pub can_take : (t : Tree) (acts : List Act) (caller a i : ℕ) (e : Ending) → (may : MayEnd acts caller a (finish_of e)) → i ≡ may.act.inc → IsTasked t.rows acts → count_by is_open_resolve acts ≤ t.spare → CanTakeEnd t i e
can_take t acts caller a i (ending.Other o) may here tasked spare = tt
can_take t acts caller a i (ending.Resolved p) may here tasked spare =
    let task : HasRow t.rows may.act = tasked.rows_of a may.act may.there may.pending in
    let found : row_of t.rows i ≡ Some task.row = ap (row_of t.rows) here ∙ task.lives in
    let less = resolve_less acts caller a p.absolute p.decl outcome.Full may in
    record {
      lives = ap is_some found;
      unresolved =
          ap (option_and_then (λ r. r.decl)) found
          ∙ task.unresolved (kind_of_resolve may.act.kind p.absolute p.decl may.fitting);
      spare = omega arith;
    }

-- ---- the fields behind it

-- each field is changed as the end of an action at row i changes it
pub record IsEnded (old new : Inside) (caller a i : ℕ) (f : Finish) (o : Outcome) : Type 0 where
  pub frame : new.frame ≡ old.frame
  pub rows : new.table.rows ≡ expired_by o i (rows_by i old.table.next_inc f o old.table.rows)
  pub next : new.table.next_inc ≡ old.table.next_inc + added_by f o
  pub spare : old.table.spare ≤ new.table.spare + takes_of f
  pub limit : new.table.limit ≡ old.table.limit
  pub builtins : new.table.builtins ≡ old.table.builtins
  pub acts : new.acts.items ≡ ended a o old.acts.items
  pub resolves : new.resolves ≡ count_by is_open_resolve (ended a o old.acts.items)
  pub joins : new.joins.items ≡ old.joins.items
  pub entries : new.records.book.entries ≡ old.records.book.entries ++ entry_of caller (End a f) (Ended o) ∷ []
  pub reserved : new.records.book.reserved ≡ old.records.book.reserved - 1
  pub most : new.records.book.limit ≡ old.records.book.limit
  pub doomed : Bool
  pub told : IsReported (world_in old) (entry_of caller (End a f) (Ended o)) doomed
  pub keeper : new.records.keeper ≡ followed (End a f) (Ended o) doomed old.records.keeper
  pub plan : IsPlannedBy (is_emptied (End a f) (Ended o) doomed) old.records.plan new.records.plan
  pub last : new.records.last ≡ nothing_told

-- The rows and actions behind an end are those of the tree that the end leaves.
world_ended : (old new : Inside) (caller a : ℕ) (f : Finish) (o : Outcome) (x : Act) → act_of old.acts.items a ≡ Some x → IsEnded old new caller a x.inc f o → after (world_in old) (entry_of caller (End a f) (Ended o)) ≡ world_in new
world_ended old new caller a f o x there e =
    let w : World = world_in old in
    let acts : List Act = ended a o w.acts in
    let rows : List Row = expired_by o x.inc (rows_by x.inc w.next_inc f o w.rows) in
    let made : List Row → ℕ → ℕ → List Act → List Join → ℕ → Frame → World =
    λ rs m k xs js n fr. record { frame = fr; rows = rs; next_inc = m; next_action = k + 1; acts = xs; joins = js; entries = n } in
    after-ended w caller a f o x there
    ∙ ap (λ k. made rows (w.next_inc + added_by f o) k acts w.joins (w.entries + 1) w.frame)
    (sym (length-edit_first (λ y. y.action == a) (put_outcome o) w.acts))
    ∙ ap (λ rs. made rs (w.next_inc + added_by f o) (length acts) acts w.joins (w.entries + 1) w.frame) (sym e.rows)
    ∙ ap (λ m. made new.table.rows m (length acts) acts w.joins (w.entries + 1) w.frame) (sym e.next)
    ∙ ap (λ xs. made new.table.rows new.table.next_inc (length xs) xs w.joins (w.entries + 1) w.frame) (sym e.acts)
    ∙ ap (λ js. made new.table.rows new.table.next_inc (length new.acts.items) new.acts.items js (w.entries + 1) w.frame) (sym e.joins)
    ∙ ap (λ n. made new.table.rows new.table.next_inc (length new.acts.items) new.acts.items new.joins.items n w.frame) (one_longer _ _ _ e.entries)
    ∙ ap (made new.table.rows new.table.next_inc (length new.acts.items) new.acts.items new.joins.items (length new.records.book.entries)) (sym e.frame)

-- Behind an end what a realm keeps is right, with the answers that are kept.
pub kept_ended : (old new : Inside) (caller a : ℕ) (f : Finish) (o : Outcome) → (may : MayEnd old.acts.items caller a f) → o ≡ outcome_by old.frame.limits.rows old.table.rows old.table.next_inc f → IsRealmInvariant old → IsEnded old new caller a may.act.inc f o → IsRealmInvariant new
kept_ended old new caller a f o may named kept e = record {
  stands =
      goes_on (story_of old) (story_of new) (world_in old) (world_in new) (entry_of caller (End a f) (Ended o)) kept.stands e.frame e.entries
      (record { enabled = may; allowed = ap Ended named })
      (world_ended old new caller a f o may.act may.there e);
  owes =
      let less = open_less old.acts.items caller a f o may in
      let same = ap (count_by is_open) e.acts in
      let long = ap length e.joins in
      let was = kept.owes in
      let left = e.reserved in
      omega arith;
  counted = e.resolves ∙ ap (count_by is_open_resolve) (sym e.acts);
  spare =
      let less = resolves_left old.acts.items caller a f o may in
      let same = ap (count_by is_open_resolve) e.acts in
      let was = kept.spare in
      let left = e.spare in
      omega arith;
  rows = e.limit ∙ kept.rows ∙ ap (λ (fr : Frame). fr.limits.rows) (sym e.frame);
  entries = e.most ∙ kept.entries ∙ ap (λ (fr : Frame). fr.limits.entries) (sym e.frame);
  builtins = e.builtins ∙ kept.builtins ∙ ap (λ (fr : Frame). fr.builtins) (sym e.frame);
  numbers = subst (IsNumbered 1) (sym e.acts) (numbered_ended 1 a o old.acts.items kept.numbers);
  tasks =
      subst (IsTasked new.table.rows) (sym e.acts)
      (subst (λ rs. IsTasked rs (ended a o old.acts.items)) (sym e.rows)
      (tasked_expired_by o may.act.inc (rows_by may.act.inc old.table.next_inc f o old.table.rows) (ended a o old.acts.items)
      (tasked_by old.table.rows old.acts.items caller a old.table.next_inc f o may kept.tasks)));
  beside =
      subst (λ (fr : Frame). IsBeside fr new.records.book.entries new.records.keeper) (sym e.frame)
      (goes_beside old (entry_of caller (End a f) (Ended o)) e.doomed new.records.book.entries new.records.keeper kept.stands kept.beside e.entries refl e.told e.keeper);
  planned =
      planned_after old (entry_of caller (End a f) (Ended o)) e.doomed new.table.rows new.records.plan kept.stands
      (record { enabled = may; allowed = ap Ended named })
      (ap (λ (w : World). w.rows) (world_ended old new caller a f o may.act may.there e)) e.told kept.planned e.plan;
  told = told_none new.table.rows new.records.last e.last;
}
