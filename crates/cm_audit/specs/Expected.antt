-- Promised.
-- What is expected in the place of the reply of a journal's entry that isn't legal.
use Rattle.std.specs.Prelude.{◌≡◌, ℕ, ◌++◌, codes, decimal}
use Rattle.cm_world.specs.declared.event.Event.{Event}
use Rattle.cm_world.specs.declared.event.Event.TheVariants.{Pick}
use Rattle.cm_world.specs.declared.reply.Reply.{Reply}
use Rattle.cm_world.specs.World.{World}
use Rattle.cm_world.specs.Step.{IsEnabled, Allowed}
use Rattle.cm_world.specs.Laws.{IsPick}
use Rattle.cm_reply.specs.Lists.{TextBytes}
use Rattle.cm_reply.specs.Replies.{replied_text}

-- this text is that of no reply that the event may get
abbrev pub IsOther : World → ℕ → Event → TextBytes → Type 0
IsOther w caller e given = (r : Reply) → Allowed w caller e r → given ≡ replied_text r → ⊥

-- what is expected where an entry has another number than this, the next
abbrev pub number_text : ℕ → TextBytes
number_text next = codes "number " ++ decimal next

-- what is expected where the caller can't make the event then
abbrev pub no_step_text : TextBytes
no_step_text = codes "no-such-step"

-- what is expected where a pick chose what may not be picked
abbrev pub other_pick_text : TextBytes
other_pick_text = codes "another-pick"

-- what is expected at an entry of that number, caller, event and reply text, where the next number is
-- `next`: the first of these that applies
pub data Expects (w : World) (next : ℕ) : ℕ → ℕ → Event → TextBytes → TextBytes → Type 0 where
  number : {n caller : ℕ} {e : Event} {given : TextBytes}
      → (n ≡ next → ⊥)
      → Expects w next n caller e given (number_text next)
  no_step : {caller : ℕ} {e : Event} {given : TextBytes}
      → (IsEnabled w caller e → ⊥)
      → Expects w next next caller e given no_step_text
  other_pick : {caller i : ℕ} {given : TextBytes}
      → IsEnabled w caller (Pick i)
      → IsOther w caller (Pick i) given
      → Expects w next next caller (Pick i) given other_pick_text
  -- every other event gets one reply
  reply : {caller : ℕ} {e : Event} {given : TextBytes} (r : Reply)
      → (IsPick e → ⊥)
      → IsEnabled w caller e
      → Allowed w caller e r
      → IsOther w caller e given
      → Expects w next next caller e given (replied_text r)
