-- Inside.
-- Histories that worked examples speak of in which instances go with one that stops.
use Rattle.std.specs.Prelude.{ℕ, List, [], ◌∷◌, false, None}
use Rattle.cm_decl.specs.declared.decl.Decl.{Decl}
use Rattle.cm_decl.specs.declared.rows.Durability.{Durability}
use Rattle.cm_decl.specs.declared.rows.Durability.TheVariants.{Transient, SingleRun}
use Rattle.cm_decl.specs.Examples.{no_decl}
use Rattle.cm_world.specs.declared.action.ActKind.TheVariants.{Resolve, Start, Stop}
use Rattle.cm_world.specs.declared.action.Outcome.TheVariants as outcome
use Rattle.cm_world.specs.declared.action.Finish.TheVariants.{Resolved, Other}
use Rattle.cm_world.specs.declared.action.Work.{Work}
use Rattle.cm_world.specs.declared.event.Event.TheVariants.{Find, Begin, End, Mark, Create, Listing}
use Rattle.cm_world.specs.declared.event.Event.TheVariants.{Exited, Reap}
use Rattle.cm_world.specs.declared.reply.Reply.TheVariants as reply
use Rattle.cm_world.specs.declared.reply.Entry.{Entry}
use Rattle.cm_world.specs.Create.{child_with}
use Rattle.cm_world.specs.Examples.{x, entry, entry_of, at_root, root_url, resolving}
use Rattle.cm_world.specs.ShutdownExamples.{k, at_x, working}

-- a declaration with the collection k
abbrev pub collecting_decl : Durability → Decl
collecting_decl durability = record no_decl {
  collections =
      record { name = k; durability = durability; dynamic_offers = false; environment = None } ∷ [];
}

-- the work of a start or a stop of the root
abbrev pub root_work : ℕ → Work
root_work action = resolving action 0 at_root [] root_url

-- the root is resolved and started, the child 1 of the collection is created, and a stop of the root begins
abbrev pub stopping_entries : List Entry
stopping_entries =
    entry (Begin Resolve 0) (reply.Begun (resolving 1 0 at_root [] (114 ∷ [])))
    ∷ entry (End 1 (Resolved root_url (collecting_decl Transient))) (reply.Ended outcome.Resolved)
    ∷ entry (Begin Start 0) (reply.Begun (root_work 2))
    ∷ entry (End 2 (Other outcome.Started)) (reply.Ended outcome.Started)
    ∷ entry (Create 0 (child_with k x (35 ∷ x) [])) (reply.Created 1)
    ∷ entry (Begin Stop 0) (reply.Begun (root_work 3))
    ∷ []

-- the stop ends: the child is gone, and is to be removed
abbrev pub expired_entries : List Entry
expired_entries =
    entry (End 3 (Other outcome.Stopped)) (reply.Ended outcome.Stopped)
    ∷ entry (Begin Start 1) (reply.Gone 1)
    ∷ entry (Listing 0 k) (reply.Listed [])
    ∷ entry (Reap 0) (reply.Reaping (1 ∷ []))
    ∷ entry (Reap 1) (reply.Reaping (1 ∷ []))
    ∷ []

-- the root is to be shut down before its stop ends: nothing goes with it
abbrev pub closed_entries : List Entry
closed_entries =
    entry_of 1 (Mark false 0) reply.Marked
    ∷ entry (End 3 (Other outcome.Killed)) (reply.Ended outcome.Killed)
    ∷ entry (Reap 0) (reply.Reaping [])
    ∷ entry (Listing 0 k) (reply.Listed (record { name = x; inc = 1 } ∷ []))
    ∷ []

-- the child 1 runs once: it is created, resolved and started, ends by itself, and is gone
abbrev pub once_entries : List Entry
once_entries =
    entry (Begin Resolve 0) (reply.Begun (resolving 1 0 at_root [] (114 ∷ [])))
    ∷ entry (End 1 (Resolved root_url (collecting_decl SingleRun))) (reply.Ended outcome.Resolved)
    ∷ entry (Create 0 (child_with k x (35 ∷ x) [])) (reply.Created 1)
    ∷ entry (Begin Resolve 1) (reply.Begun (resolving 2 1 at_x root_url (35 ∷ x)))
    ∷ entry (End 2 (Resolved x no_decl)) (reply.Ended outcome.Resolved)
    ∷ entry (Begin Start 1) (reply.Begun (working 3))
    ∷ entry (End 3 (Other outcome.Started)) (reply.Ended outcome.Started)
    ∷ entry (Exited 1) (reply.Left at_x)
    ∷ entry (Find at_x) (reply.NotFound at_root)
    ∷ entry (Reap 1) (reply.Reaping (1 ∷ []))
    ∷ entry (Reap 9) (reply.Reaping [])
    ∷ []
