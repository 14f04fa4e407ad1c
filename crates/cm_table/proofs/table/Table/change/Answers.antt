use Rattle.std.proofs.Common.{◌≡◌, ◌==◌, ◌∙◌, List, ap, sym, subst, length}
use Rattle.cm_world.specs.declared.row.Row.{Row}
use Rattle.cm_world.specs.End.{changed}
use Rattle.cm_world.specs.Sound.{IsOrderly}
use Rattle.cm_table.specs.declared.slot.Slot.{Slot}
use Rattle.cm_table.specs.Tree.{Tree}
use Rattle.cm_table.specs.Slots.{flat, rows_in, with_row_by, inc_of}
use Rattle.cm_table.specs.Change.{change_row, with_changed}
use Rattle.cm_trees.proofs.rows.Edits.{length-edit_first}
use Rattle.cm_trees.proofs.rows.Orderly.{orderly_changed}
use Rattle.cm_table.proofs.lemmas.tree.Changes.{keeping, spares}
use Rattle.cm_table.proofs.lemmas.lists.Editing.{edited}
use Rattle.cm_table.proofs.lemmas.slots.Rowed.{rows_changed, slots_rise}
use Rattle.cm_table.proofs.lemmas.flags.Keeping.{unmarking, flags_changed}
use Rattle.cm_table.proofs.lemmas.monikers.Standing.{standing_changed}
use Rattle.cm_table.proofs.lemmas.indexes.Indexing.{all_changed, each_at}
use Rattle.cm_table.proofs.lemmas.tree.Wanting.{gives_changed, known_changed}
use Rattle.cm_table.proofs.table.Table.change.Goals as goal

pub change_in-requires-clause-increasing : goal.change_in-requires-clause-increasing
change_in-requires-clause-increasing c = slots_rise c.self.inside.next_inc (flat c.self.inside.blocks.items) c.self.invariant.orderly.increasing

pub invariant_of-self : goal.invariant_of-self
invariant_of-self c =
    let ss : List Slot = flat c.self.inside.blocks.items in
    let ts : List Slot = flat c.change_in.new.blocks.items in
    let to : rows_in ts ≡ changed c.args.inc (change_row c.args.change) (rows_in ss) = ap rows_in c.change_in.ensures.slots ∙ rows_changed c.args.inc (change_row c.args.change) ss in
    record {
      room = rw (c.change_in.ensures.len, c.change_in.ensures.capacity) c.self.invariant.room;
      fits = c.self.invariant.fits;
      filled = c.change_in.ensures.filled;
      count = c.self.invariant.count ∙ sym (ap length c.change_in.ensures.slots ∙ length-edit_first (λ (s : Slot). s.row.inc == c.args.inc) (with_row_by (change_row c.args.change)) ss);
      orderly = subst (λ rows. IsOrderly rows c.self.inside.next_inc) (sym to)
          (orderly_changed (change_row c.args.change) (keeping c.args.change c.requires.safe) c.args.inc c.self.inside.next_inc (rows_in ss) c.self.invariant.orderly);
      indexed = each_at (changed c.args.inc (change_row c.args.change) (rows_in ss)) (rows_in ts) c.self.inside.next_inc (edited inc_of c.args.inc (with_row_by (change_row c.args.change)) ss) ts to c.change_in.ensures.slots
          (all_changed c.args.inc (change_row c.args.change) (spares c.args.change c.requires.sparing) (rows_in ss) c.self.inside.next_inc ss c.self.invariant.indexed);
      flagged = flags_changed (change_row c.args.change) ss ts c.self.inside.next_inc c.args.inc (unmarking c.args.change c.requires.sparing) c.self.invariant.orderly
          (orderly_changed (change_row c.args.change) (keeping c.args.change c.requires.safe) c.args.inc c.self.inside.next_inc (rows_in ss) c.self.invariant.orderly) c.change_in.ensures.slots c.self.invariant.flagged;
      wanted = known_changed c.self.inside.wanted c.args.inc (change_row c.args.change) (gives_changed c.args.change) (rows_in ss) (rows_in ts) to c.self.invariant.wanted;
      standing = standing_changed (change_row c.args.change) ss ts c.self.inside.next_inc c.args.inc (keeping c.args.change c.requires.safe) c.self.invariant.orderly c.change_in.ensures.slots c.self.invariant.standing;
    }

pub returns : goal.returns
returns c =
    let ss : List Slot = flat c.self.inside.blocks.items in
    let to : rows_in (flat c.change_in.new.blocks.items) ≡ changed c.args.inc (change_row c.args.change) (rows_in ss) = ap rows_in c.change_in.ensures.slots ∙ rows_changed c.args.inc (change_row c.args.change) ss in
    let made : List Row → Tree = λ rs. record { rows = rs; next_inc = c.self.inside.next_inc; builtins = c.self.inside.builtins; limit = c.self.inside.limit; spare = c.self.inside.spare } in
    ap made to ∙ ap (with_changed c.args.inc (change_row c.args.change)) c.self.view_is
