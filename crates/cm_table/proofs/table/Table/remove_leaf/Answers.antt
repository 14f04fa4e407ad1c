use Rattle.std.proofs.Common.{◌≡◌, ◌+◌, ◌==◌, true, List, ◌∙◌, ap, sym, subst, arith, length}
use Rattle.std.specs.Prelude.{option_and_then}
use Rattle.cm_world.specs.Rows.{row_of}
use Rattle.cm_world.specs.Sound.{IsOrderly}
use Rattle.cm_table.specs.declared.slot.Slot.{Slot}
use Rattle.cm_table.specs.Tree.{Tree}
use Rattle.cm_table.specs.Keys.{Increasing}
use Rattle.cm_table.specs.Slots.{inc_of, flat, rows_in, slot_of}
use Rattle.cm_table.specs.Leaf.{IsLeaf}
use Rattle.cm_table.proofs.lemmas.lists.Drops.{length-drop_first}
use Rattle.cm_table.proofs.lemmas.tree.Leaves.{without, orderly_without}
use Rattle.cm_table.proofs.lemmas.lists.Editing.{dropped}
use Rattle.cm_table.proofs.lemmas.slots.Rowed.{row_of-slots, rows_dropped, rows_length, slots_rise, unlinked_rows, unlinked_rise}
use Rattle.cm_table.proofs.lemmas.flags.Keeping.{flags_left}
use Rattle.cm_table.proofs.lemmas.monikers.Standing.{standing_left}
use Rattle.cm_table.proofs.lemmas.indexes.Indexing.{all_gone, each_at}
use Rattle.cm_table.proofs.lemmas.tree.Removing.{parent_by_slots}
use Rattle.cm_table.proofs.lemmas.tree.Wanting.{known_without}
use Rattle.cm_table.proofs.table.Table.remove_leaf.Goals as goal

pub parent_in-parent-requires-clause-increasing : goal.parent_in-parent-requires-clause-increasing
parent_in-parent-requires-clause-increasing c =
    subst (λ l. Increasing inc_of (flat l)) (sym c.as_slice.ensures.value) (slots_rise c.self.inside.next_inc (flat c.self.inside.blocks.items) c.self.invariant.orderly.increasing)

pub unlink-requires-clause-orderly : goal.unlink-requires-clause-orderly
unlink-requires-clause-orderly c = record { next = c.self.inside.next_inc; orderly = c.self.invariant.orderly; indexed = c.self.invariant.indexed }

pub remove_in-requires-clause-increasing : goal.remove_in-requires-clause-increasing
remove_in-requires-clause-increasing c = unlinked_rise true c.args.leaf c.self.inside.next_inc (flat c.self.inside.blocks.items) (flat c.unlink.new.blocks.items) c.self.invariant.orderly.increasing c.unlink.ensures.links

pub invariant_of-self : goal.invariant_of-self
invariant_of-self c =
    let ss : List Slot = flat c.self.inside.blocks.items in
    let mid : List Slot = flat c.unlink.new.blocks.items in
    let ts : List Slot = flat c.remove_in.new.blocks.items in
    let same : rows_in mid ≡ rows_in ss = unlinked_rows true c.args.leaf ss mid c.unlink.ensures.links in
    let to : rows_in ts ≡ without c.args.leaf (rows_in ss) = ap rows_in c.remove_in.ensures.slots ∙ rows_dropped c.args.leaf mid ∙ ap (without c.args.leaf) same in
    let leaf : IsLeaf (rows_in ss) c.args.top c.args.leaf = subst (λ (t : Tree). IsLeaf t.rows c.args.top c.args.leaf) (sym c.self.view_is) c.requires in
    let one : length (without c.args.leaf (rows_in ss)) + 1 ≡ length (rows_in ss) = length-drop_first (λ r. r.inc == c.args.leaf) (rows_in ss) leaf.lives in
    let left : length ts ≡ length (without c.args.leaf (rows_in ss)) = sym (rows_length ts) ∙ ap length to in
    let all : length (rows_in ss) ≡ length ss = rows_length ss in
    record {
      room = omega (arith, c.self.invariant.room, c.remove_in.ensures.len, c.remove_in.ensures.capacity, c.unlink.ensures.len, c.unlink.ensures.capacity);
      fits = c.self.invariant.fits;
      filled = c.remove_in.ensures.filled;
      count = omega (arith, c.self.invariant.count, one, left, all);
      orderly = subst (λ rs. IsOrderly rs c.self.inside.next_inc) (sym to) (orderly_without (rows_in ss) c.self.inside.next_inc c.args.leaf c.self.invariant.orderly leaf.childless);
      indexed = each_at (without c.args.leaf (rows_in ss)) (rows_in ts) c.self.inside.next_inc (dropped inc_of c.args.leaf mid) ts to c.remove_in.ensures.slots
          (all_gone c.args.leaf c.self.inside.next_inc ss mid c.self.invariant.orderly c.unlink.ensures.links c.self.invariant.indexed);
      flagged = flags_left ss mid ts c.self.inside.next_inc c.args.leaf c.self.invariant.orderly leaf.childless c.unlink.ensures.links c.remove_in.ensures.slots to c.self.invariant.flagged;
      wanted = known_without c.self.inside.wanted c.args.leaf (rows_in ss) (rows_in ts) to c.self.invariant.wanted;
      standing = standing_left ss mid ts c.self.inside.next_inc c.args.leaf c.self.invariant.orderly leaf.childless c.unlink.ensures.links c.remove_in.ensures.slots to c.self.invariant.standing;
    }

pub returns-clause-parent : goal.returns-clause-parent
returns-clause-parent c =
    c.parent_in-parent.ensures ∙ ap (λ l. option_and_then (λ s. s.row.parent) (slot_of (flat l) c.args.leaf)) c.as_slice.ensures.value
    ∙ parent_by_slots (slot_of (flat c.self.inside.blocks.items) c.args.leaf)
    ∙ ap (option_and_then (λ r. r.parent)) (sym (row_of-slots (flat c.self.inside.blocks.items) c.args.leaf))
    ∙ ap (λ (t : Tree). option_and_then (λ r. r.parent) (row_of t.rows c.args.leaf)) c.self.view_is

pub returns-clause-rows : goal.returns-clause-rows
returns-clause-rows c =
    let ss : List Slot = flat c.self.inside.blocks.items in
    let mid : List Slot = flat c.unlink.new.blocks.items in
    ap rows_in c.remove_in.ensures.slots ∙ rows_dropped c.args.leaf mid
    ∙ ap (without c.args.leaf) (unlinked_rows true c.args.leaf ss mid c.unlink.ensures.links)
    ∙ ap (λ (t : Tree). without c.args.leaf t.rows) c.self.view_is
