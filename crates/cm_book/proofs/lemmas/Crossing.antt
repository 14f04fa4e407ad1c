-- These types hold monikers, and may go to other threads or be shared with them.
use denote.Param.Send as send
use denote.Param.Send.{IsSend}
use denote.Struct.Declared as struct
use Rattle.std.proofs.Crossing.{Vec-send}
use Rattle.cm_world.proofs.lemmas.Crossing.{entry_send}
use Rattle.cm_book.specs.contracts.book.Book
use Rattle.cm_book.specs.contracts.book.Book.TheInside as BookInside

-- A book may go to another thread.
pub book_send : IsSend Book.the_row
book_send = send.view_send BookInside.the_row _ _ _ _ (send.recorded_send (BookInside.the_field).row _ _
    (BookInside.the_type).to_one (send.struct_send (struct.shape BookInside.the_type) (
      Vec-send _ entry_send,
      (send.plain_send _ _ _ _ _, (send.plain_send _ _ _ _ _, tt)),
    )))
