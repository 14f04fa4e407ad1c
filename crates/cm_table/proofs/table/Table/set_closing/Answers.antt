use Rattle.std.proofs.Common.{◌≡◌, ◌==◌, ◌∙◌, List, ap, sym, subst, length, arith, refl}
use Rattle.cm_world.specs.declared.row.Row.{Row}
use Rattle.cm_world.specs.End.{changed, set_closing}
use Rattle.cm_world.specs.Sound.{IncarnationsIncrease, IsOrderly}
use Rattle.cm_table.specs.declared.slot.Slot.{Slot}
use Rattle.cm_table.specs.declared.change.Change.TheVariants as change
use Rattle.cm_table.specs.declared.marks.MarkKind.TheVariants.{Closing}
use Rattle.cm_table.specs.Tree.{Tree}
use Rattle.cm_table.specs.Slots.{flat, rows_in, with_row_by, inc_of}
use Rattle.cm_table.specs.Change.{with_changed}
use Rattle.cm_trees.proofs.rows.Edits.{length-edit_first}
use Rattle.cm_trees.proofs.rows.Orderly.{orderly_changed}
use Rattle.cm_table.proofs.lemmas.tree.Changes.{keeping, spares_closing}
use Rattle.cm_table.proofs.lemmas.lists.Editing.{edited}
use Rattle.cm_table.proofs.lemmas.slots.Rowed.{rows_changed, rows_length, slots_rise}
use Rattle.cm_table.proofs.lemmas.flags.Flagging.{rows_alike, index_alike}
use Rattle.cm_table.proofs.lemmas.flags.Keeping.{down, flags_closed}
use Rattle.cm_table.proofs.lemmas.monikers.Standing.{standing_marked, standing_changed}
use Rattle.cm_table.proofs.lemmas.indexes.Indexing.{all_changed, each_at}
use Rattle.cm_table.proofs.lemmas.tree.Wanting.{known_changed}
use Rattle.cm_table.proofs.table.Table.set_closing.Goals as goal

pub mark_below-requires-clause-indexed : goal.mark_below-requires-clause-indexed
mark_below-requires-clause-indexed c = record { fits = c.self.invariant.fits; orderly = c.self.invariant.orderly; indexed = c.self.invariant.indexed }

pub mark_below-requires-clause-down : goal.mark_below-requires-clause-down
mark_below-requires-clause-down c = down Closing (flat c.self.inside.blocks.items) c.self.inside.next_inc c.self.invariant.orderly c.self.invariant.flagged

pub change_in-requires-clause-increasing : goal.change_in-requires-clause-increasing
change_in-requires-clause-increasing c =
    let ss : List Slot = flat c.self.inside.blocks.items in
    let ms : List Slot = flat c.mark_below.new.blocks.items in
    slots_rise c.self.inside.next_inc ms (subst (λ l. IncarnationsIncrease c.self.inside.next_inc l) (sym (rows_alike ss ms c.mark_below.ensures.marks.same)) c.self.invariant.orderly.increasing)

pub invariant_of-self : goal.invariant_of-self
invariant_of-self c =
    let ss : List Slot = flat c.self.inside.blocks.items in
    let ms : List Slot = flat c.mark_below.new.blocks.items in
    let ts : List Slot = flat c.change_in.new.blocks.items in
    let next = c.self.inside.next_inc in
    let same : rows_in ms ≡ rows_in ss = rows_alike ss ms c.mark_below.ensures.marks.same in
    let to : rows_in ts ≡ changed c.args.inc set_closing (rows_in ss) = ap rows_in c.change_in.ensures.slots ∙ rows_changed c.args.inc set_closing ms ∙ ap (changed c.args.inc set_closing) same in
    let long : length ts ≡ length ss =
    ap length c.change_in.ensures.slots ∙ length-edit_first (λ (s : Slot). s.row.inc == c.args.inc) (with_row_by set_closing) ms
    ∙ sym (rows_length ms) ∙ ap length same ∙ rows_length ss in
    let on : IsOrderly (changed c.args.inc set_closing (rows_in ss)) next = orderly_changed set_closing (keeping change.Closing tt) c.args.inc next (rows_in ss) c.self.invariant.orderly in
    record {
      room = omega (arith, c.self.invariant.room, c.change_in.ensures.len, c.change_in.ensures.capacity, c.mark_below.ensures.len, c.mark_below.ensures.capacity);
      fits = c.self.invariant.fits;
      filled = c.change_in.ensures.filled;
      count = c.self.invariant.count ∙ sym long;
      orderly = subst (λ rows. IsOrderly rows next) (sym to) on;
      indexed = each_at (changed c.args.inc set_closing (rows_in ss)) (rows_in ts) next (edited inc_of c.args.inc (with_row_by set_closing) ms) ts to c.change_in.ensures.slots
          (all_changed c.args.inc set_closing spares_closing (rows_in ss) next ms (index_alike (rows_in ss) next ss ms c.mark_below.ensures.marks.same c.self.invariant.indexed));
      flagged = flags_closed ss next c.args.inc c.self.invariant.orderly c.self.invariant.flagged ms ts on c.mark_below.ensures.marks c.change_in.ensures.slots to;
      wanted = known_changed c.self.inside.wanted c.args.inc set_closing (λ r. refl) (rows_in ss) (rows_in ts) to c.self.invariant.wanted;
      standing = standing_changed set_closing ms ts next c.args.inc (keeping change.Closing tt) (subst (λ l. IsOrderly l next) (sym same) c.self.invariant.orderly) c.change_in.ensures.slots
          (standing_marked ss ms c.mark_below.ensures.marks.same c.self.invariant.standing);
    }

pub returns : goal.returns
returns c =
    let ss : List Slot = flat c.self.inside.blocks.items in
    let ms : List Slot = flat c.mark_below.new.blocks.items in
    let to : rows_in (flat c.change_in.new.blocks.items) ≡ changed c.args.inc set_closing (rows_in ss) = ap rows_in c.change_in.ensures.slots ∙ rows_changed c.args.inc set_closing ms ∙ ap (changed c.args.inc set_closing) (rows_alike ss ms c.mark_below.ensures.marks.same) in
    let made : List Row → Tree = λ rs. record { rows = rs; next_inc = c.self.inside.next_inc; builtins = c.self.inside.builtins; limit = c.self.inside.limit; spare = c.self.inside.spare } in
    ap made to ∙ ap (with_changed c.args.inc set_closing) c.self.view_is
