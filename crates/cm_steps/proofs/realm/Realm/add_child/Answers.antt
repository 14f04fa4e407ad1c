use Rattle.std.proofs.Common.{◌≡◌, false, ◌+◌, ◌++◌, ◌∷◌, [], true, refl, sym, ◌∙◌, ap, subst}
use Rattle.cm_world.specs.declared.row.Row.{Row}
use Rattle.cm_world.specs.declared.reply.Entry.{Entry}
use Rattle.cm_world.specs.declared.event.Event.TheVariants as event
use Rattle.cm_world.specs.declared.event.NewChild.{NewChild}
use Rattle.cm_world.specs.declared.reply.Reply.TheVariants as reply
use Rattle.cm_world.specs.World.{World, rows_fit}
use Rattle.cm_world.specs.Create.{IsCreateReply, created_row}
use Rattle.cm_world.specs.After.{with_row}
use Rattle.cm_dynamic.specs.Laws.{CanTakeChild}
use Rattle.cm_laws.specs.Story.{world_of, entry_of}
use Rattle.cm_steps.specs.Inside.{world_in}
use Rattle.cm_steps.proofs.lemmas.steps.Stepping.{one_pushed, kept_rows}
use Rattle.cm_steps.proofs.lemmas.expiries.Removing.{tasked_added}
use Rattle.cm_steps.proofs.lemmas.read.Creations.{created_fits}
use Rattle.cm_table.specs.Change.{with_row as row_added}
use Rattle.cm_cache.proofs.lemmas.histories.Dooming.{others_doom_none}
use Rattle.cm_steps.proofs.realm.Realm.add_child.Goals as goal

pub add_row-requires-clause-room : goal.add_row-requires-clause-room
add_row-requires-clause-room c =
    let old : World = world_of c.args.self.now in
    let w : World = world_in c.self.inside in
    let here : old ≡ w = ap world_of (sym c.self.view_is) ∙ c.self.invariant.stands.world in
    let fits : rows_fit old.frame.limits.rows old.rows old.next_inc 1 ≡ true =
    created_fits old.rows old.frame.limits.rows old.next_inc c.args.parent c.args.child.coll c.args.child.name c.args.child.gives old.next_inc c.requires.creates in
    subst (λ n. rows_fit n w.rows w.next_inc 1 ≡ true) (sym c.self.invariant.rows)
    (subst (λ (v : World). rows_fit v.frame.limits.rows v.rows v.next_inc 1 ≡ true) here fits)

pub add_row-requires-clause-takes : goal.add_row-requires-clause-takes
add_row-requires-clause-takes c =
    subst (λ (child : NewChild). CanTakeChild c.self.inside.table.rows c.args.parent child.coll child.name) (sym c.get.ensures)
    (subst (λ (v : World). CanTakeChild v.rows c.args.parent c.args.child.coll c.args.child.name) (ap world_of (sym c.self.view_is) ∙ c.self.invariant.stands.world) c.requires.takes)

pub invariant_of-self-2 : goal.invariant_of-self-2
invariant_of-self-2 c =
    let w : World = world_in c.self.inside in
    let here : world_of c.args.self.now ≡ w = ap world_of (sym c.self.view_is) ∙ c.self.invariant.stands.world in
    let inc : c.in_ok-inc.inc ≡ w.next_inc = c.in_ok-inc.ensures.inc in
    let e : Entry = entry_of c.args.caller (event.Create c.args.parent c.args.child) (reply.Created c.in_ok-inc.inc) in
    let row : Row = created_row w.next_inc c.args.parent c.args.child.coll c.args.child.name c.args.child.url c.args.child.gives in
    let creates =
    subst (λ (v : World). IsCreateReply v.frame.limits.rows v.rows v.next_inc c.args.parent c.args.child.coll c.args.child.name c.args.child.gives (reply.Created v.next_inc)) here c.requires.creates in
    kept_rows c.self.inside _ e (w.rows ++ row ∷ []) (w.next_inc + 1) c.self.invariant
    (record {
      enabled = tt;
      allowed = subst (λ i. IsCreateReply w.frame.limits.rows w.rows w.next_inc c.args.parent c.args.child.coll c.args.child.name c.args.child.gives (reply.Created i)) (sym inc) creates;
    })
    (ap (λ i. with_row w (created_row i c.args.parent c.args.child.coll c.args.child.name c.args.child.url c.args.child.gives)) inc)
    (tasked_added w.rows w.acts row refl c.self.invariant.tasks)
    (record {
      frame = refl;
      table = subst (λ (child : NewChild). c.add_row.new.table ≡ row_added (created_row c.self.inside.table.next_inc c.args.parent child.coll child.name child.url child.gives) c.self.inside.table) c.get.ensures c.in_ok-inc.ensures.table;
      acts = refl;
      resolves = refl;
      joins = refl;
      book = one_pushed _ _ _ e c.in_ok-inc.ensures.book c.put_down.ensures.book;
      doomed = false;
      unasked = refl;
      told = others_doom_none w e refl;
      keeper = c.put_down.ensures.keeper;
      plan = c.put_down.ensures.plan;
      last = c.put_down.ensures.last;
    })
