-- These types hold monikers, and may go to other threads or be shared with them.
use denote.Builtin as machine
use denote.Param.Send as send
use denote.Param.Send.{IsSend}
use denote.Struct.Declared as struct
use Rattle.std.proofs.Crossing.{Vec-send}
use Rattle.cm_names.proofs.lemmas.Crossing.{moniker_send}
use Rattle.cm_names.proofs.list.List.TheSendSync as list
use Rattle.cm_names.specs.contracts.moniker.Moniker
use Rattle.cm_table.proofs.marks.MarksAbove.TheSendSync as marks_above
use Rattle.cm_table.proofs.ordered.OrderedRow.TheSendSync as ordered_row
use Rattle.cm_table.proofs.slot.ChildIndex.TheSendSync as child_index
use Rattle.cm_table.specs.contracts.block.RowBlock
use Rattle.cm_table.specs.contracts.slot.ChildIndex
use Rattle.cm_table.specs.contracts.slot.Slot
use Rattle.cm_table.specs.contracts.table.Table
use Rattle.cm_table.specs.contracts.table.Table.TheInside as TableInside
use Rattle.cm_world.proofs.frame.Builtin.TheSendSync as builtin
use Rattle.cm_world.specs.contracts.frame.Builtin
use Rattle.std.below.std_heap.proofs.GlobalAllocator.TheSendSync as heap
use Rattle.std.proofs.alloc.Global.TheSendSync as global
use Rattle.std.proofs.collections.BTreeSet.TheSendSync as set
use Rattle.std.proofs.option.Option.TheSendSync as option
use Rattle.std.specs.contracts.alloc.Global
use Rattle.std.specs.contracts.collections.BTreeSet
use Rattle.std.specs.contracts.impls.GlobalAllocator.TheImpl as heap_impl
use Rattle.std.specs.contracts.prelude.U64Ord.TheImpl as number_order
use Rattle.std.specs.contracts.prelude.U64PartialEq.TheImpl as number_equality
use Rattle.std.specs.contracts.prelude.U64PartialOrd.TheImpl as number_partial_order

-- A slot may go to other threads, as a field.
pub slot_field_send : IsSend (Slot.the_field).row
slot_field_send = send.struct_send (struct.shape Slot.the_type) (
  ordered_row.the_send,
  (
    option.the_field_send ChildIndex.the_row child_index.the_send,
    (
      marks_above.the_field_send,
      (option.the_field_send Moniker.the_row moniker_send, tt),
    ),
  ),
)

-- A slot may go to other threads.
pub slot_send : IsSend Slot.the_row
slot_send = send.recorded_send (Slot.the_field).row _ _ (Slot.the_type).to_one slot_field_send

-- A block of rows may go to other threads, as a field.
pub row_block_field_send : IsSend (RowBlock.the_field).row
row_block_field_send = send.struct_send (struct.shape RowBlock.the_type) (Vec-send _ slot_send, tt)

-- A block of rows may go to other threads.
pub row_block_send : IsSend RowBlock.the_row
row_block_send = send.recorded_send (RowBlock.the_field).row _ _ (RowBlock.the_type).to_one
    row_block_field_send

-- A set of child names may go to another thread.
wanted_send : IsSend (BTreeSet.the_row machine.u64 Global.the_row number_order.ghosts number_equality.ghosts number_partial_order.ghosts heap_impl.ghosts)
wanted_send = set.the_send machine.u64 Global.the_row number_order.ghosts number_equality.ghosts
    number_partial_order.ghosts heap_impl.ghosts (send.plain_send _ _ _ _ _) global.the_send heap.the_frees

-- A table may go to other threads.
pub table_send : IsSend Table.the_row
table_send = send.view_send TableInside.the_row _ _ _ _ (send.recorded_send (TableInside.the_field).row _ _
    (TableInside.the_type).to_one (send.struct_send (struct.shape TableInside.the_type) (
      Vec-send _
          row_block_send,
      (
        list.the_send Builtin.the_row builtin.the_send,
        (
          send.plain_send _ _ _ _ _,
          (
            send.plain_send _ _ _ _ _,
            (
              send.plain_send _ _ _ _ _,
              (
                send.plain_send _ _ _ _ _,
                (
                  wanted_send,
                  tt,
                ),
              ),
            ),
          ),
        ),
      ),
    )))
