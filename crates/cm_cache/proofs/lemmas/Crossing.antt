-- These types hold monikers, and may go to other threads or be shared with them.
use denote.Param.Send as send
use denote.Param.Send.{IsSend}
use denote.Struct.Declared as struct
use Rattle.std.proofs.Crossing.{Box-send, Vec-send}
use Rattle.cm_world.proofs.lemmas.Crossing.{walked_field_send}
use Rattle.cm_cache.specs.contracts.answer.CachedAnswer
use Rattle.cm_cache.specs.contracts.cache.Cache
use Rattle.cm_cache.specs.contracts.cache.Cache.TheInside as CacheInside
use Rattle.cm_cache.specs.contracts.keeper.Keeper
use Rattle.cm_cache.specs.contracts.keeper.Keeper.TheInside as KeeperInside
use Rattle.cm_cache.specs.contracts.keeper.KeeperParts
use Rattle.cm_cache.specs.contracts.places.Paths
use Rattle.cm_names.proofs.path.CapPath.TheSendSync as cap_path
use Rattle.cm_names.specs.contracts.path.CapPath
use Rattle.cm_names.specs.contracts.path.CapPathOrd.TheImpl as path_order
use Rattle.cm_names.specs.contracts.path.CapPathPartialEq.TheImpl as path_equality
use Rattle.cm_names.specs.contracts.path.CapPathPartialOrd.TheImpl as path_partial_order
use Rattle.std.below.std_heap.proofs.GlobalAllocator.TheSendSync as heap
use Rattle.std.proofs.alloc.Global.TheSendSync as global
use Rattle.std.proofs.collections.BTreeMap.TheSendSync as map
use Rattle.std.specs.contracts.alloc.Global
use Rattle.std.specs.contracts.collections.BTreeMap
use Rattle.std.specs.contracts.impls.GlobalAllocator.TheImpl as heap_impl
use Rattle.std.specs.contracts.prelude.U64Ord.TheImpl as number_order
use Rattle.std.specs.contracts.prelude.U64PartialEq.TheImpl as number_equality
use Rattle.std.specs.contracts.prelude.U64PartialOrd.TheImpl as number_partial_order
use denote.Builtin
use denote.RattleType.{RattleType}

-- The fields of a cached answer may go to another thread.
pub cached_answer_field_send : IsSend (CachedAnswer.the_field).row
cached_answer_field_send = send.struct_send (struct.shape CachedAnswer.the_type) (
  send.plain_send _ _ _ _ _,
  (cap_path.the_send, (walked_field_send, tt)),
)

-- A cached answer may go to another thread.
pub cached_answer_send : IsSend CachedAnswer.the_row
cached_answer_send = send.recorded_send (CachedAnswer.the_field).row _ _ (CachedAnswer.the_type).to_one
    cached_answer_field_send

-- what the other paths of an instance lead to
abbrev others : RattleType
others = BTreeMap.the_row CapPath.the_row Builtin.usize Global.the_row path_order.ghosts path_equality.ghosts
    path_partial_order.ghosts heap_impl.ghosts

-- The index of an instance's other paths may go to another thread.
others_send : IsSend others
others_send = map.the_send CapPath.the_row Builtin.usize Global.the_row path_order.ghosts path_equality.ghosts
    path_partial_order.ghosts heap_impl.ghosts cap_path.the_send (send.plain_send _ _ _ _ _) global.the_send heap.the_frees

-- The numbers of one instance's paths may go to another thread.
paths_send : IsSend Paths.the_row
paths_send = send.recorded_send (Paths.the_field).row _ _ (Paths.the_type).to_one
    (send.struct_send (struct.shape Paths.the_type) (cap_path.the_send, (send.plain_send _ _ _ _ _, (others_send, tt))))

-- The index of the places of all instances may go to another thread.
places_send : IsSend (BTreeMap.the_row Builtin.u64 Paths.the_row Global.the_row number_order.ghosts number_equality.ghosts number_partial_order.ghosts heap_impl.ghosts)
places_send = map.the_send Builtin.u64 Paths.the_row Global.the_row number_order.ghosts number_equality.ghosts
    number_partial_order.ghosts heap_impl.ghosts (send.plain_send _ _ _ _ _) paths_send global.the_send heap.the_frees

-- A cache may go to another thread.
pub cache_send : IsSend Cache.the_row
cache_send = send.view_send CacheInside.the_row _ _ _ _ (send.recorded_send (CacheInside.the_field).row _ _
    (CacheInside.the_type).to_one (send.struct_send (struct.shape CacheInside.the_type) (
      global.the_field_send,
      (
        Vec-send _ cached_answer_send,
        (places_send, tt),
      ),
    )))

-- The fields of a keeper's parts may go to another thread.
pub keeper_parts_field_send : IsSend (KeeperParts.the_field).row
keeper_parts_field_send = send.struct_send (struct.shape KeeperParts.the_type) (
  cache_send,
  (
    send.plain_send
        _ _ _ _ _,
    tt,
  ),
)

-- The parts of a keeper may go to another thread.
pub keeper_parts_send : IsSend KeeperParts.the_row
keeper_parts_send = send.recorded_send (KeeperParts.the_field).row _ _ (KeeperParts.the_type).to_one
    keeper_parts_field_send

-- A keeper may go to another thread.
pub keeper_send : IsSend Keeper.the_row
keeper_send = send.view_send KeeperInside.the_row _ _ _ _ (send.recorded_send (KeeperInside.the_field).row _
    _ (KeeperInside.the_type).to_one (send.struct_send (struct.shape KeeperInside.the_type) (
      Box-send _
          keeper_parts_send,
      tt,
    )))
