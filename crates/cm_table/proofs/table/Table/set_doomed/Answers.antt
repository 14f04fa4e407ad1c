use Rattle.std.proofs.Common.{◌≡◌, ◌==◌, ◌∙◌, List, false, ap, sym, subst, length, arith, refl}
use Rattle.cm_world.specs.declared.row.Row.{Row}
use Rattle.cm_world.specs.End.{changed, set_doomed}
use Rattle.cm_world.specs.Sound.{IsOrderly}
use Rattle.cm_table.specs.declared.slot.Slot.{Slot}
use Rattle.cm_table.specs.declared.change.Change.TheVariants as change
use Rattle.cm_table.specs.declared.marks.MarkKind.TheVariants.{Closing}
use Rattle.cm_table.specs.Tree.{Tree}
use Rattle.cm_table.specs.Links.{IsUnlinked}
use Rattle.cm_table.specs.Marking.{AreIndexed}
use Rattle.cm_table.specs.Slots.{flat, rows_in, with_row_by, inc_of}
use Rattle.cm_table.specs.Change.{with_changed}
use Rattle.cm_trees.proofs.rows.Edits.{length-edit_first}
use Rattle.cm_trees.proofs.rows.Orderly.{orderly_changed}
use Rattle.cm_table.proofs.lemmas.tree.Changes.{keeping}
use Rattle.cm_table.proofs.lemmas.lists.Editing.{edited}
use Rattle.cm_table.proofs.lemmas.slots.Rowed.{rows_changed, rows_length, unlinked_rows, unlinked_rise}
use Rattle.cm_table.proofs.lemmas.flags.Flagging.{rows_alike, indexed_alike}
use Rattle.cm_table.proofs.lemmas.flags.Keeping.{down, down_still, flags_doomed}
use Rattle.cm_table.proofs.lemmas.monikers.Standing.{standing_marked, standing_zipped, standing_changed}
use Rattle.cm_table.proofs.lemmas.indexes.Indexing.{all_doomed, each_at}
use Rattle.cm_table.proofs.lemmas.tree.Wanting.{known_changed}
use Rattle.cm_table.proofs.table.Table.set_doomed.Goals as goal

pub mark_below-requires-clause-indexed : goal.mark_below-requires-clause-indexed
mark_below-requires-clause-indexed c = record { fits = c.self.invariant.fits; orderly = c.self.invariant.orderly; indexed = c.self.invariant.indexed }

pub mark_below-requires-clause-down : goal.mark_below-requires-clause-down
mark_below-requires-clause-down c = down Closing (flat c.self.inside.blocks.items) c.self.inside.next_inc c.self.invariant.orderly c.self.invariant.flagged

pub mark_below-requires-2-clause-indexed : goal.mark_below-requires-2-clause-indexed
mark_below-requires-2-clause-indexed c =
    indexed_alike (flat c.self.inside.blocks.items) (flat c.mark_below.new.blocks.items) c.self.inside.next_inc c.mark_below.ensures.marks.same
    (record { fits = c.self.invariant.fits; orderly = c.self.invariant.orderly; indexed = c.self.invariant.indexed })

pub mark_below-requires-2-clause-down : goal.mark_below-requires-2-clause-down
mark_below-requires-2-clause-down c =
    down_still (flat c.self.inside.blocks.items) (flat c.mark_below.new.blocks.items) c.self.inside.next_inc c.args.inc c.mark_below.ensures.marks c.self.invariant.orderly c.self.invariant.flagged

pub unlink-requires-clause-orderly : goal.unlink-requires-clause-orderly
unlink-requires-clause-orderly c =
    let a : AreIndexed c.self.inside.next_inc (flat c.mark_below-2.new.blocks.items) =
    indexed_alike (flat c.self.inside.blocks.items) (flat c.mark_below-2.new.blocks.items) c.self.inside.next_inc (c.mark_below-2.ensures.marks.same ∙ c.mark_below.ensures.marks.same)
    (record { fits = c.self.invariant.fits; orderly = c.self.invariant.orderly; indexed = c.self.invariant.indexed }) in
    record { next = c.self.inside.next_inc; orderly = a.orderly; indexed = a.indexed }

pub change_in-requires-clause-increasing : goal.change_in-requires-clause-increasing
change_in-requires-clause-increasing c =
    let a : AreIndexed c.self.inside.next_inc (flat c.mark_below-2.new.blocks.items) =
    indexed_alike (flat c.self.inside.blocks.items) (flat c.mark_below-2.new.blocks.items) c.self.inside.next_inc (c.mark_below-2.ensures.marks.same ∙ c.mark_below.ensures.marks.same)
    (record { fits = c.self.invariant.fits; orderly = c.self.invariant.orderly; indexed = c.self.invariant.indexed }) in
    unlinked_rise false c.args.inc c.self.inside.next_inc (flat c.mark_below-2.new.blocks.items) (flat c.unlink.new.blocks.items) a.orderly.increasing c.unlink.ensures.links

pub invariant_of-self : goal.invariant_of-self
invariant_of-self c =
    let ss : List Slot = flat c.self.inside.blocks.items in
    let ms : List Slot = flat c.mark_below-2.new.blocks.items in
    let mid : List Slot = flat c.unlink.new.blocks.items in
    let ts : List Slot = flat c.change_in.new.blocks.items in
    let next = c.self.inside.next_inc in
    let alike = c.mark_below-2.ensures.marks.same ∙ c.mark_below.ensures.marks.same in
    let rows : rows_in ms ≡ rows_in ss = rows_alike ss ms alike in
    let a : AreIndexed next ms = indexed_alike ss ms next alike (record { fits = c.self.invariant.fits; orderly = c.self.invariant.orderly; indexed = c.self.invariant.indexed }) in
    let same : rows_in mid ≡ rows_in ms = unlinked_rows false c.args.inc ms mid c.unlink.ensures.links in
    let after : rows_in ts ≡ changed c.args.inc set_doomed (rows_in ms) = ap rows_in c.change_in.ensures.slots ∙ rows_changed c.args.inc set_doomed mid ∙ ap (changed c.args.inc set_doomed) same in
    let to : rows_in ts ≡ changed c.args.inc set_doomed (rows_in ss) = after ∙ ap (changed c.args.inc set_doomed) rows in
    let long : length ts ≡ length ss =
    ap length c.change_in.ensures.slots ∙ length-edit_first (λ (s : Slot). s.row.inc == c.args.inc) (with_row_by set_doomed) mid
    ∙ sym (rows_length mid) ∙ ap length (same ∙ rows) ∙ rows_length ss in
    let on : IsOrderly (changed c.args.inc set_doomed (rows_in ss)) next = orderly_changed set_doomed (keeping change.Doomed tt) c.args.inc next (rows_in ss) c.self.invariant.orderly in
    record {
      room = omega (arith, c.self.invariant.room, c.change_in.ensures.len, c.change_in.ensures.capacity, c.unlink.ensures.len, c.unlink.ensures.capacity, c.mark_below-2.ensures.len, c.mark_below-2.ensures.capacity, c.mark_below.ensures.len, c.mark_below.ensures.capacity);
      fits = c.self.invariant.fits;
      filled = c.change_in.ensures.filled;
      count = c.self.invariant.count ∙ sym long;
      orderly = subst (λ l. IsOrderly l next) (sym to) on;
      indexed = each_at (changed c.args.inc set_doomed (rows_in ms)) (rows_in ts) next (edited inc_of c.args.inc (with_row_by set_doomed) mid) ts after c.change_in.ensures.slots
          (all_doomed c.args.inc next ms mid a.orderly c.unlink.ensures.links a.indexed);
      flagged = flags_doomed ss next c.args.inc c.self.invariant.orderly c.self.invariant.flagged (flat c.mark_below.new.blocks.items) ms mid ts on c.mark_below.ensures.marks c.mark_below-2.ensures.marks c.unlink.ensures.links c.change_in.ensures.slots to;
      wanted = known_changed c.self.inside.wanted c.args.inc set_doomed (λ r. refl) (rows_in ss) (rows_in ts) to c.self.invariant.wanted;
      standing = standing_changed set_doomed mid ts next c.args.inc (keeping change.Doomed tt) (subst (λ l. IsOrderly l next) (sym same) a.orderly) c.change_in.ensures.slots
          (standing_zipped (IsUnlinked c.args.inc false) (λ s t u. u.row) (λ s t u. u.moniker) ms mid c.unlink.ensures.links (standing_marked ss ms alike c.self.invariant.standing));
    }

pub returns : goal.returns
returns c =
    let ss : List Slot = flat c.self.inside.blocks.items in
    let ms : List Slot = flat c.mark_below-2.new.blocks.items in
    let mid : List Slot = flat c.unlink.new.blocks.items in
    let same : rows_in mid ≡ rows_in ss = unlinked_rows false c.args.inc ms mid c.unlink.ensures.links ∙ rows_alike ss ms (c.mark_below-2.ensures.marks.same ∙ c.mark_below.ensures.marks.same) in
    let to : rows_in (flat c.change_in.new.blocks.items) ≡ changed c.args.inc set_doomed (rows_in ss) = ap rows_in c.change_in.ensures.slots ∙ rows_changed c.args.inc set_doomed mid ∙ ap (changed c.args.inc set_doomed) same in
    let made : List Row → Tree = λ rs. record { rows = rs; next_inc = c.self.inside.next_inc; builtins = c.self.inside.builtins; limit = c.self.inside.limit; spare = c.self.inside.spare } in
    ap made to ∙ ap (with_changed c.args.inc set_doomed) c.self.view_is
