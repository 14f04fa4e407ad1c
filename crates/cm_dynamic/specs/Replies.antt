-- Inside.
-- The replies that the answers of this crate mean.
use Rattle.std.specs.Prelude.{◌≡◌, ◌≤◌, ◌↔◌, ℕ, List, IsTrue, Option, option_map}
use Rattle.cm_decl.specs.declared.decl.Decl.{Decl}
use Rattle.cm_decl.specs.declared.node.DynChild.{DynChild}
use Rattle.cm_decl.specs.declared.rows.Give.{Give}
use Rattle.cm_world.specs.declared.row.Row.{Row}
use Rattle.cm_world.specs.declared.reply.Reply.{Reply}
use Rattle.cm_world.specs.declared.reply.Reply.TheVariants as reply
use Rattle.cm_world.specs.World.{rows_fit}
use Rattle.cm_world.specs.Create.{Creates, IsCreateReply}
use Rattle.cm_dynamic.specs.declared.create.MayCreate.{MayCreate}
use Rattle.cm_dynamic.specs.declared.create.MayCreate.TheVariants as create
use Rattle.cm_dynamic.specs.declared.destroy.MayDestroy.{MayDestroy}
use Rattle.cm_dynamic.specs.declared.destroy.MayDestroy.TheVariants as destroy

-- ---- creating

-- the reply to a create that an answer means; next is the incarnation that the new child gets
abbrev pub create_reply : ℕ → MayCreate → Reply
create_reply next create.Yes = reply.Created next
create_reply next (create.Gone i) = reply.Gone i
create_reply next (create.Closing i) = reply.Closing i
create_reply next (create.Need i) = reply.Need i
create_reply next create.NoCollection = reply.NoCollection
create_reply next (create.Exists i) = reply.Exists i
create_reply next create.OffersRefused = reply.OffersRefused
create_reply next (create.BadOffer index number) = reply.BadOffer index number
create_reply next (create.Cycle nodes) = reply.Cycle nodes
create_reply next create.Full = reply.Full

-- the number of free rows tells whether one more fits in the limit
abbrev pub TellsRoom : ℕ → List Row → ℕ → ℕ → Type 0
TellsRoom limit rows next free = IsTrue (rows_fit limit rows next 1) ↔ (1 ≤ free)

-- an answer means the defined reply to a create, in every limit with so many free rows
abbrev pub AnswersCreate : List Row → ℕ → ℕ → List ℕ → List ℕ → List Give → MayCreate → Type 0
AnswersCreate rows free p coll name gives answer =
    (limit next : ℕ) → TellsRoom limit rows next free
    → IsCreateReply limit rows next p coll name gives (create_reply next answer)

-- an answer means the defined reply to a create whose names and offers are right, so that only the realm
-- graph and the room are left to decide; `by_graph` and `by_room` of `create.rt` promise it
abbrev pub AnswersGraph : Decl → List DynChild → ℕ → MayCreate → Type 0
AnswersGraph d dynamic free answer =
    (limit next : ℕ) (rows : List Row) → TellsRoom limit rows next free
    → Creates limit rows next d dynamic (create_reply next answer)

-- an answer that refuses means the defined refusal, if there is one
abbrev pub RefusesChange : Option MayCreate → Option Reply → Type 0
RefusesChange answer refusal = (next : ℕ) → option_map (create_reply next) answer ≡ refusal

-- ---- destroying

-- the reply to a mark to be destroyed that an answer means
abbrev pub destroy_reply : MayDestroy → Reply
destroy_reply destroy.Yes = reply.Marked
destroy_reply (destroy.Gone i) = reply.Gone i
destroy_reply destroy.Already = reply.Already
destroy_reply destroy.NotDynamic = reply.NotDynamic
