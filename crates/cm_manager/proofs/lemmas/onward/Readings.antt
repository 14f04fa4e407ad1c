-- What replies and outcomes are read as, where no arm before takes them.
use Rattle.std.proofs.Common.{◌≡◌, ◌≢◌, ℕ, None, refl}
use Rattle.cm_world.specs.declared.reply.Reply.{Reply}
use Rattle.cm_world.specs.declared.reply.Reply.TheVariants as reply
use Rattle.cm_manager.specs.Runs.{needed}

-- a reply that asks for no action
pub needs_nothing : (r : Reply) → ((j : ℕ) → r ≢ reply.Need j) → ((s : ℕ) → r ≢ reply.NeedStart s) → needed r ≡ None
needs_nothing (reply.Need j) resolve start = absurd (resolve j refl)
needs_nothing (reply.NeedStart s) resolve start = absurd (start s refl)
needs_nothing _ resolve start = refl
