-- Monikers may go to other threads, and be shared with them. A type that reaches itself, as linked names do, and
-- each type above it has no such facts of its own, so they are stated here and in the crates above.
use denote.Param.Send.{IsSend, IsSync, enum_send, enum_sync, struct_send, struct_sync, recorded_send, recorded_sync, view_send, view_sync, plain_send, plain_sync}
use denote.Enum.Declared as declared_enum
use denote.Struct.Declared as declared_struct
use Rattle.std.proofs.Crossing.{Arc-send, Arc-sync}
use Rattle.cm_names.proofs.link.NameLink.TheLaws.TheKnot.{both_send-NameLink, both_sync-NameLink}
use Rattle.cm_names.proofs.child.ChildName.TheSendSync as child
use Rattle.cm_names.proofs.list.List.TheSendSync as list
use Rattle.cm_names.proofs.shared.Shared.TheSendSync as shared
use Rattle.cm_names.specs.contracts.chain.Chain
use Rattle.cm_names.specs.contracts.chain.Chain.TheInside
use Rattle.cm_names.specs.contracts.chain.Kept
use Rattle.cm_names.specs.contracts.child.ChildName
use Rattle.cm_names.specs.contracts.link.NameLink
use Rattle.cm_names.specs.contracts.list.List
use Rattle.cm_names.specs.contracts.moniker.Moniker
use Rattle.cm_names.specs.contracts.shared.Shared

-- The field of a name's link may go to another thread.
link_send : IsSend (NameLink.the_field).row
link_send = both_send-NameLink Arc-send Arc-sync (shared.the_send ChildName.the_row child.the_send
    child.the_sync) (shared.the_sync ChildName.the_row child.the_send child.the_sync) (plain_send _ _ _ _ _)
    (plain_sync _ _ _ _ _)

-- The field of a name's link may be shared with other threads.
link_sync : IsSync (NameLink.the_field).row
link_sync = both_sync-NameLink Arc-send Arc-sync (shared.the_send ChildName.the_row child.the_send
    child.the_sync) (shared.the_sync ChildName.the_row child.the_send child.the_sync) (plain_send _ _ _ _ _)
    (plain_sync _ _ _ _ _)

-- The field of a kept name may go to another thread.
kept_send : IsSend (Kept.the_field).row
kept_send = enum_send (declared_enum.shape Kept.the_type) (
  (
    shared.the_send (List.the_row ChildName.the_row) (list.the_send ChildName.the_row child.the_send)
        (list.the_sync ChildName.the_row child.the_sync),
    tt,
  ),
  ((link_send, tt), tt),
)

-- The field of a kept name may be shared with other threads.
kept_sync : IsSync (Kept.the_field).row
kept_sync = enum_sync (declared_enum.shape Kept.the_type) (
  (
    shared.the_sync (List.the_row ChildName.the_row) (list.the_send ChildName.the_row child.the_send)
        (list.the_sync ChildName.the_row child.the_sync),
    tt,
  ),
  ((link_sync, tt), tt),
)

-- The parts of a chain of names may go to another thread.
chain_send : IsSend Chain.the_row
chain_send = view_send TheInside.the_row _ _ _ _ (recorded_send (TheInside.the_field).row _ _
    (TheInside.the_type).to_one (struct_send (declared_struct.shape TheInside.the_type) (kept_send, tt)))

-- The parts of a chain of names may be shared with other threads.
chain_sync : IsSync Chain.the_row
chain_sync = view_sync TheInside.the_row _ _ _ _ (recorded_sync (TheInside.the_field).row _ _
    (TheInside.the_type).to_one (struct_sync (declared_struct.shape TheInside.the_type) (kept_sync, tt)))

-- A moniker as a field of another type may go to other threads.
pub moniker_field_send : IsSend (Moniker.the_field).row
moniker_field_send = struct_send (declared_struct.shape Moniker.the_type) (chain_send, tt)

-- A moniker as a field of another type may be shared with other threads.
pub moniker_field_sync : IsSync (Moniker.the_field).row
moniker_field_sync = struct_sync (declared_struct.shape Moniker.the_type) (chain_sync, tt)

-- A moniker may go to other threads.
pub moniker_send : IsSend Moniker.the_row
moniker_send = recorded_send (Moniker.the_field).row _ _ (Moniker.the_type).to_one moniker_field_send

-- A moniker may be shared with other threads.
pub moniker_sync : IsSync Moniker.the_row
moniker_sync = recorded_sync (Moniker.the_field).row _ _ (Moniker.the_type).to_one moniker_field_sync
