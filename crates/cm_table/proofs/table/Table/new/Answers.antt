use Rattle.std.proofs.Common.{◌≡◌, ◌∷◌, ◌++◌, [], ◌<◌, List, ◌∙◌, ap, sym, subst, arith, length, refl, Some}
use Rattle.cm_world.specs.declared.row.Row.{Row}
use Rattle.cm_world.specs.World.{root_row}
use Rattle.cm_world.specs.Sound.{IsOrderly}
use Rattle.cm_table.specs.declared.slot.Slot.{Slot}
use Rattle.cm_table.specs.declared.block.RowBlock.{RowBlock}
use Rattle.cm_table.specs.Keys.{EachItem, Filled}
use Rattle.cm_table.specs.Slots.{flat, rows_in, slots_in, IsIndexed}
use Rattle.cm_table.specs.Flags.{AreFlagged, no_flags}
use Rattle.cm_table.specs.Monikers.{StandWhereKept}
use Rattle.cm_table.specs.Numbering.{bare_slot}
use Rattle.cm_table.proofs.lemmas.tree.First.{flat_first, orderly_first, indexed_first, flagged_first, root_kept, standing_first}
use Rattle.cm_table.specs.Wanted.{KnowsWanted}
use Rattle.cm_table.proofs.table.Table.new.Goals as goal

pub invariant_of-result : goal.invariant_of-result
invariant_of-result c =
    let b : RowBlock = record { slots = c.in_ok-slots.slots } in
    let bs : List RowBlock = c.push.new.self.items in
    let first : Slot = bare_slot (root_row c.args.url) no_flags root_kept in
    let one : bs ≡ b ∷ [] = c.in_ok-push.ensures.items ∙ ap (λ l. l ++ b ∷ []) c.new-blocks.ensures.items in
    let own : slots_in b ≡ first ∷ [] = c.in_ok-slots.ensures ∙ ap (λ (r : Row). bare_slot r c.none.result (Some c.root.result) ∷ []) c.root-2.ensures ∙ ap (λ m. bare_slot (root_row c.args.url) m (Some c.root.result) ∷ []) c.none.ensures ∙ ap (λ m. bare_slot (root_row c.args.url) no_flags (Some m) ∷ []) c.root.ensures in
    let to : flat bs ≡ first ∷ [] = flat_first bs b (root_row c.args.url) one own in
    record {
      room = search (arith);
      fits = omega arith;
      filled = subst (Filled slots_in) (sym one) (subst (λ (l : List Slot). 0 < length l) (sym own) (omega arith), tt);
      count = sym (ap length to);
      orderly = subst (λ (l : List Slot). IsOrderly (rows_in l) 1) (sym to) (orderly_first c.args.url);
      indexed = subst (λ (l : List Slot). EachItem (IsIndexed (rows_in l) 1) l) (sym to) (indexed_first c.args.url);
      flagged = subst AreFlagged (sym to) (flagged_first c.args.url);
      wanted = subst (λ (l : List Slot). KnowsWanted (rows_in l) c.new.result) (sym to) (record { none = λ name lacks. refl });
      standing = subst StandWhereKept (sym to) (standing_first c.args.url);
    }
