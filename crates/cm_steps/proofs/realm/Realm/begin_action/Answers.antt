use Rattle.std.proofs.Common.{◌≡◌, false, None, ℕ, ◌+◌, ◌-◌, ◌++◌, ◌∷◌, [], List, cond, refl, ap, sym, ◌∙◌, subst, arith, length, length-append, Some}
use Rattle.std.specs.List.{count_by}
use Rattle.cm_book.specs.History.{History}
use Rattle.cm_table.specs.Tree.{Tree}
use Rattle.cm_table.specs.Change.{with_changed}
use Rattle.cm_world.specs.declared.action.Act.{Act}
use Rattle.cm_world.specs.declared.reply.Entry.{Entry}
use Rattle.cm_world.specs.declared.reply.Reply.{Reply}
use Rattle.cm_world.specs.World.{World, is_open}
use Rattle.cm_world.specs.End.{set_pending}
use Rattle.cm_world.specs.After.{new_act, with_action, moved, counted, after}
use Rattle.cm_world.specs.Legal.{IsStep}
use Rattle.cm_laws.specs.Story.{world_of, entry_of}
use Rattle.cm_laws.specs.Tasks.{IsNumbered, IsTasked}
use Rattle.cm_steps.specs.Tasks.{is_open_resolve, IsIdleAt}
use Rattle.cm_steps.specs.Inside.{world_in}
use Rattle.cm_steps.proofs.lemmas.steps.Counts.{count_more}
use Rattle.cm_steps.proofs.lemmas.steps.Going.{goes_on, one_longer}
use Rattle.cm_steps.proofs.lemmas.actions.Begun.{new_resolve}
use Rattle.cm_laws.proofs.lemmas.actions.Tasks.{numbered_more, tasked_begun}
use Rattle.cm_cache.specs.Keeping.{asked_by}
use Rattle.cm_cache.specs.Beside.{is_emptied, followed}
use Rattle.cm_steps.specs.Planned.{IsPlannedBy}
use Rattle.cm_cache.proofs.lemmas.histories.Dooming.{others_doom_none}
use Rattle.cm_steps.proofs.lemmas.asked.Keepers.{goes_beside}
use Rattle.cm_steps.proofs.lemmas.Planning.{planned_after}
use Rattle.cm_steps.proofs.lemmas.steps.Telling.{told_none}
use Rattle.cm_steps.proofs.realm.Realm.begin_action.Goals as goal

pub invariant_of-self : goal.invariant_of-self
unfolding after
invariant_of-self c =
    let w : World = world_in c.self.inside in
    let xs : List Act = c.self.inside.acts.items in
    let next : ℕ = length xs + 1 in
    let e : Entry = entry_of c.args.caller c.args.event c.args.reply in
    let act : ℕ → Act = λ n. new_act n c.args.kind c.args.inc c.args.caller in
    let all : List Act = xs ++ act next ∷ [] in
    let same : c.in-Ok.kept ≡ c.args.reply = c.in-Ok.ensures in
    let pushed : Reply → History → History = λ r t. record { entries = t.entries ++ entry_of c.args.caller c.args.event r ∷ []; reserved = t.reserved - 1; limit = t.limit } in
    let book = c.put_down.ensures.book ∙ ap (λ r. pushed r c.make_room-room.new.book) same ∙ ap (pushed c.args.reply) c.in-Ok-room.ensures.book in
    let more = ap (λ (t : History). t.entries) book in
    let number : c.next_action-action.result ≡ next = c.next_action-action.ensures ∙ ap (λ ys. length ys + 1) (c.as_slice.ensures.value ∙ c.make_room-room.ensures.acts) in
    let pended : ℕ → Tree → Tree = λ n t. with_changed c.args.inc (set_pending (Some (c.args.kind, n))) t in
    let table = c.set_pending.ensures ∙ ap (λ n. pended n c.make_room-room.new.table) number ∙ ap (pended next) c.make_room-room.ensures.table in
    let acts : c.push_reserved.new.self.items ≡ all = c.push_reserved.ensures.items ∙ ap (λ n. c.make_room-room.new.acts.items ++ act n ∷ []) number ∙ ap (λ ys. ys ++ act next ∷ []) c.make_room-room.ensures.acts in
    let left : Tree → List Act → ℕ → World = λ t ys n. record w { rows = t.rows; next_inc = t.next_inc; next_action = length ys + 1; acts = ys; entries = n } in
    let roomy : Tree = record c.self.inside.table { spare = c.make_room-room.new.table.spare } in
    let long : next ≡ length all = sym (length-append xs (act next ∷ [])) in
    let here : world_of c.args.self.now ≡ w = ap world_of (sym c.self.view_is) ∙ c.self.invariant.stands.world in
    let begins = subst (λ (v : World). moved v c.args.caller c.args.event c.args.reply ≡ with_action v c.args.caller c.args.kind c.args.inc) here c.requires.begins in
    let idle : IsIdleAt w.rows c.args.kind c.args.inc = subst (λ (v : World). IsIdleAt v.rows c.args.kind c.args.inc) here c.requires.idle in
    let step : IsStep w e = subst (λ v. IsStep v e) here c.requires.step in
    let behind : after w e ≡ left c.set_pending.new.self c.push_reserved.new.self.items (length c.put_down.new.self.book.entries) =
    ap counted begins
    ∙ ap (λ n. record (left (pended next roomy) all (length c.self.inside.records.book.entries + 1)) { next_action = n + 1 }) long
    ∙ ap (λ t. left t all (length c.self.inside.records.book.entries + 1)) (sym table)
    ∙ ap (λ ys. left c.set_pending.new.self ys (length c.self.inside.records.book.entries + 1)) (sym acts)
    ∙ ap (left c.set_pending.new.self c.push_reserved.new.self.items) (one_longer _ _ _ more) in
    record {
      stands = goes_on _ _ w _ e c.self.invariant.stands refl more step behind;
      owes =
          let r = ap (λ (t : History). t.reserved) book in
          let one = count_more is_open xs (act next) in
          let same = ap (count_by is_open) acts in
          let was = c.self.invariant.owes in
          omega arith;
      counted =
          let one = count_more is_open_resolve xs (act next) in
          let same = ap (count_by is_open_resolve) acts in
          let kind = ap (λ b. cond {A = ℕ} b 1 0) (new_resolve next c.args.inc c.args.caller c.args.kind) in
          let begun = c.in-Ok-room.ensures.count in
          let was = c.self.invariant.counted in
          omega arith;
      spare =
          let kept = ap (λ (t : Tree). t.spare) table in
          let one = count_more is_open_resolve xs (act next) in
          let same = ap (count_by is_open_resolve) acts in
          let kind = ap (λ b. cond {A = ℕ} b 1 0) (new_resolve next c.args.inc c.args.caller c.args.kind) in
          let begun = c.in-Ok-room.ensures.count in
          let was = c.self.invariant.counted in
          let room = c.in-Ok-room.ensures.spare in
          omega arith;
      rows = ap (λ (t : Tree). t.limit) table ∙ c.self.invariant.rows;
      entries = ap (λ (t : History). t.limit) book ∙ c.self.invariant.entries;
      builtins = ap (λ (t : Tree). t.builtins) table ∙ c.self.invariant.builtins;
      numbers = subst (IsNumbered 1) (sym acts) (numbered_more 1 xs (act next) c.self.invariant.numbers (omega arith));
      tasks =
          subst (IsTasked c.set_pending.new.self.rows) (sym acts)
          (subst (λ (t : Tree). IsTasked t.rows all) (sym table)
          (tasked_begun w.rows xs c.args.kind c.args.inc c.args.caller idle.row c.self.invariant.tasks c.self.invariant.numbers idle.lives idle.idle idle.unresolved));
      beside =
          goes_beside c.self.inside e false _ _ c.self.invariant.stands c.self.invariant.beside more
          (subst (λ (v : World). asked_by v c.args.event ≡ None) here c.requires.unasked)
          (others_doom_none w e c.requires.undoomed)
          (c.put_down.ensures.keeper ∙ ap (λ r. followed c.args.event r false c.self.inside.records.keeper) same);
      planned =
          planned_after c.self.inside e false c.set_pending.new.self.rows c.put_down.new.self.plan c.self.invariant.stands step (ap (λ (v : World). v.rows) behind)
          (others_doom_none w e c.requires.undoomed) c.self.invariant.planned
          (subst (λ r. IsPlannedBy (is_emptied c.args.event r false) c.self.inside.records.plan c.put_down.new.self.plan) same c.put_down.ensures.plan);
      told = told_none c.set_pending.new.self.rows c.put_down.new.self.last c.put_down.ensures.last;
    }
