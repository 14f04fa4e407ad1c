use Rattle.std.proofs.Common.{◌≡◌, ◌+◌, ◌≤◌, ◌++◌, ◌∷◌, [], IsTrue, refl, ap, sym, ◌∙◌, subst, arith}
use Rattle.std.specs.List.{count_by}
use Rattle.cm_book.specs.History.{History}
use Rattle.cm_world.specs.declared.event.Event.TheVariants.{End}
use Rattle.cm_world.specs.declared.reply.Reply.TheVariants.{Ended}
use Rattle.cm_world.specs.World.{World}
use Rattle.cm_world.specs.End.{rows_by, outcome_by, ended}
use Rattle.cm_world.specs.Step.{MayEnd}
use Rattle.cm_world.specs.Rows.{is_closed}
use Rattle.cm_world.specs.Expiring.{expired_by}
use Rattle.cm_table.specs.Tree.{Tree}
use Rattle.cm_steps.specs.Ends.{inc_of, finish_of, takes_of}
use Rattle.cm_steps.specs.Tasks.{is_open_resolve}
use Rattle.cm_laws.specs.Story.{world_of, entry_of}
use Rattle.cm_laws.specs.Tasks.{IsNumbered}
use Rattle.cm_steps.proofs.lemmas.steps.Counts.{open_less}
use Rattle.cm_steps.proofs.lemmas.actions.Ends.{inc-ended, can_take, kept_ended}
use Rattle.cm_cache.specs.Beside.{is_emptied, followed, IsReported, goes_some_by}
use Rattle.cm_steps.specs.Planned.{IsPlannedBy}
use Rattle.cm_cache.proofs.lemmas.histories.Dooming.{ends_doom}
use Rattle.cm_steps.specs.Inside.{world_in}
use Rattle.cm_steps.proofs.lemmas.asked.Keepers.{increasing_in}
use Rattle.cm_steps.proofs.lemmas.expiries.Closing.{orderly_in, still_closed}
use Rattle.cm_steps.proofs.realm.Realm.end.Goals as goal

pub inc_at-inc-requires : goal.inc_at-inc-requires
inc_at-inc-requires c = subst (IsNumbered 1) (sym c.as_slice.ensures.value) c.self.invariant.numbers

pub resolves_left-self-inside-requires-clause-numbers : goal.resolves_left-self-inside-requires-clause-numbers
resolves_left-self-inside-requires-clause-numbers c = subst (IsNumbered 1) (sym c.as_slice-2.ensures.value) c.self.invariant.numbers

pub resolves_left-self-inside-requires-clause-count : goal.resolves_left-self-inside-requires-clause-count
resolves_left-self-inside-requires-clause-count c = c.self.invariant.counted ∙ ap (count_by is_open_resolve) (sym c.as_slice-2.ensures.value)

pub end_at-finish-requires : goal.end_at-finish-requires
end_at-finish-requires c =
    let f = finish_of c.args.ending in
    let acts = c.self.inside.acts.items in
    let may : MayEnd acts c.args.caller c.args.action f = subst (λ (w : World). MayEnd w.acts c.args.caller c.args.action f) (ap world_of (sym c.self.view_is) ∙ c.self.invariant.stands.world) c.requires.may in
    let here : c.inc_at-inc.result ≡ may.act.inc = c.inc_at-inc.ensures ∙ ap (λ xs. inc_of xs c.args.action) c.as_slice.ensures.value ∙ inc-ended acts c.args.caller c.args.action f may in
    can_take c.self.inside.table acts c.args.caller c.args.action c.inc_at-inc.result c.args.ending may here c.self.invariant.tasks c.self.invariant.spare

pub expire_by-doomed-requires : goal.expire_by-doomed-requires
expire_by-doomed-requires c = λ closing stopped.
    let t = c.self.inside.table in
    subst (λ rs. IsTrue (is_closed rs c.inc_at-inc.result)) (sym c.end_at-finish.ensures.rows)
    (still_closed t.limit t.next_inc c.inc_at-inc.result (finish_of c.args.ending) c.end_at-finish.result.outcome t.rows (orderly_in c.self.inside c.self.invariant.stands) c.end_at-finish.ensures.outcome stopped (c.closes-closing.ensures closing))

pub put_down-requires : goal.put_down-requires
put_down-requires c =
    let f = finish_of c.args.ending in
    let may : MayEnd c.self.inside.acts.items c.args.caller c.args.action f = subst (λ (w : World). MayEnd w.acts c.args.caller c.args.action f) (ap world_of (sym c.self.view_is) ∙ c.self.invariant.stands.world) c.requires.may in
    let less = open_less c.self.inside.acts.items c.args.caller c.args.action f c.end_at-finish.result.outcome may in
    let was = c.self.invariant.owes in
    omega arith

pub invariant_of-self : goal.invariant_of-self
invariant_of-self c =
    let f = finish_of c.args.ending in
    let acts = c.self.inside.acts.items in
    let t = c.self.inside.table in
    let o = c.end_at-finish.result.outcome in
    let may : MayEnd acts c.args.caller c.args.action f = subst (λ (w : World). MayEnd w.acts c.args.caller c.args.action f) (ap world_of (sym c.self.view_is) ∙ c.self.invariant.stands.world) c.requires.may in
    let here : c.inc_at-inc.result ≡ may.act.inc = c.inc_at-inc.ensures ∙ ap (λ xs. inc_of xs c.args.action) c.as_slice.ensures.value ∙ inc-ended acts c.args.caller c.args.action f may in
    kept_ended c.self.inside _ c.args.caller c.args.action f o may (c.end_at-finish.ensures.outcome ∙ ap (λ n. outcome_by n t.rows t.next_inc f) c.self.invariant.rows) c.self.invariant
    (record {
      frame = refl;
      rows =
          ap (λ (t : Tree). t.rows) c.expire_by-doomed.ensures.rows
          ∙ ap (expired_by o c.inc_at-inc.result) c.end_at-finish.ensures.rows
          ∙ ap (λ i. expired_by o i (rows_by i t.next_inc f o t.rows)) here;
      next = ap (λ (t : Tree). t.next_inc) c.expire_by-doomed.ensures.rows ∙ c.end_at-finish.ensures.next;
      spare =
          subst (λ n. t.spare ≤ n + takes_of f) (sym (ap (λ (t : Tree). t.spare) c.expire_by-doomed.ensures.rows))
          c.end_at-finish.ensures.spare;
      limit = ap (λ (t : Tree). t.limit) c.expire_by-doomed.ensures.rows ∙ c.end_at-finish.ensures.limit;
      builtins = ap (λ (t : Tree). t.builtins) c.expire_by-doomed.ensures.rows ∙ c.end_at-finish.ensures.builtins;
      acts = c.settle.ensures;
      resolves = c.resolves_left-self-inside.ensures o ∙ ap (λ xs. count_by is_open_resolve (ended c.args.action o xs)) c.as_slice-2.ensures.value;
      joins = refl;
      entries =
          ap (λ (h : History). h.entries) c.put_down.ensures.book
          ∙ ap (λ g. c.self.inside.records.book.entries ++ entry_of c.args.caller (End c.args.action g) (Ended o) ∷ []) c.end_at-finish.ensures.finish;
      reserved = ap (λ (h : History). h.reserved) c.put_down.ensures.book;
      most = ap (λ (h : History). h.limit) c.put_down.ensures.book;
      doomed = c.expire_by-doomed.result;
      told =
          subst (IsReported (world_in c.self.inside) (entry_of c.args.caller (End c.args.action f) (Ended o)))
          (sym (
          c.expire_by-doomed.ensures.goes
          ∙ ap (λ rs. goes_some_by o rs c.inc_at-inc.result) c.end_at-finish.ensures.rows
          ∙ ap (λ i. goes_some_by o (rows_by i t.next_inc f o t.rows) i) here))
          (ends_doom (world_in c.self.inside) c.args.caller c.args.action f o may.act (increasing_in c.self.inside c.self.invariant.stands) may.there);
      keeper =
          c.put_down.ensures.keeper
          ∙ ap (λ g. followed (End c.args.action g) (Ended o) c.expire_by-doomed.result c.self.inside.records.keeper) c.end_at-finish.ensures.finish;
      plan =
          subst (λ g. IsPlannedBy (is_emptied (End c.args.action g) (Ended o) c.expire_by-doomed.result) c.self.inside.records.plan c.put_down.new.self.plan)
          c.end_at-finish.ensures.finish c.put_down.ensures.plan;
      last = c.put_down.ensures.last;
    })
