-- The worked examples of actions.
use Rattle.std.proofs.Common.{◌∷◌, [], refl, true≢false, sym}
use Rattle.cm_world.specs.declared.action.ActKind.TheVariants.{Stop}
use Rattle.cm_world.specs.declared.event.Event.TheVariants.{Begin, Await}
use Rattle.cm_world.specs.declared.route.Walked.TheVariants as walked
use Rattle.cm_world.specs.World.{World, start}
use Rattle.cm_world.specs.Stations.{end_station}
use Rattle.cm_world.specs.Step.{IsEnabled}
use Rattle.cm_world.specs.After.{after}
use Rattle.cm_world.specs.Legal.{Legal, replay}
use Rattle.cm_world.specs.Examples.{frame, resolving_entries, whole_route, capability_hop, s_path}
use Rattle.cm_world.specs.ActionExamples.{joined_entries, failed_entries, opened_entries}
use Rattle.cm_world.proofs.lemmas.examples.Routes.{offering, exposing}

-- where the root, the logger and the client are resolved
abbrev resolved : World
resolved = replay (start frame) resolving_entries

-- It is legal that a caller begins a start of the logger, and another one joins it.
pub joined_is_legal : Legal resolved joined_entries
unfolding after
joined_is_legal = (record { enabled = refl; allowed = refl }, (record { enabled = refl; allowed = refl }, tt))

-- It is legal then that the start that both callers share fails, and that the other awaits that.
pub failed_is_legal : Legal (replay resolved joined_entries) failed_entries
unfolding after
failed_is_legal = (
  record { enabled = record { act = _; there = refl; pending = refl; own = refl; fitting = refl; valid = tt }; allowed = refl },
  (record { enabled = record { joined = refl; ended = refl }; allowed = refl }, tt),
)

-- In the example an await isn't enabled while the action is open.
pub await_waits : IsEnabled (replay resolved joined_entries) 1 (Await 4) → ⊥
unfolding after
await_waits may = true≢false (sym may.ended)

-- In the example an outcome that was awaited isn't awaited again.
pub awaited_once : IsEnabled (replay (replay resolved joined_entries) failed_entries) 1 (Await 4) → ⊥
unfolding after
awaited_once may = true≢false (sym may.joined)

-- a stop has to wait for the start
pub stop_waits : IsEnabled (replay resolved joined_entries) 1 (Begin Stop 1) → ⊥
unfolding after
stop_waits begins = true≢false (sym begins)

-- It is legal that the client opens what the logger provides, and that the logger ends by itself.
pub opened_is_legal : Legal resolved opened_entries
unfolding after
opened_is_legal = (
  record { enabled = refl; allowed = refl },
  (
    record { enabled = record { act = _; there = refl; pending = refl; own = refl; fitting = refl; valid = tt }; allowed = refl },
    (
      record { enabled = tt; allowed = (walked.Given whole_route, record { rest = offering ∷ exposing ∷ end_station capability_hop s_path ∷ []; chain = (refl, (refl, (refl, tt))); decided = (refl, (refl, (refl, refl))) }, refl) },
      (
        record { enabled = refl; allowed = refl },
        (
          record { enabled = record { act = _; there = refl; pending = refl; own = refl; fitting = refl; valid = tt }; allowed = refl },
          (
            record { enabled = tt; allowed = (walked.Given whole_route, record { rest = offering ∷ exposing ∷ end_station capability_hop s_path ∷ []; chain = (refl, (refl, (refl, tt))); decided = (refl, (refl, (refl, refl))) }, refl) },
            (
              record { enabled = refl; allowed = refl },
              (
                record { enabled = refl; allowed = refl },
                (record { enabled = refl; allowed = refl }, tt),
              ),
            ),
          ),
        ),
      ),
    ),
  ),
)
