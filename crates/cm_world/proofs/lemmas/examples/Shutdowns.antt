-- The worked examples of a shutdown.
use Rattle.std.proofs.Common.{◌≡◌, ℕ, [], ◌∷◌, ◌++◌, true, false, Some, None, take, refl, true≢false, sym, subst, inl, inr}
use Rattle.std.specs.Cmp.{unsigned_Decides}
use Rattle.cm_decl.specs.declared.node.Node.{Node}
use Rattle.cm_decl.specs.declared.node.Node.TheVariants.{Own, Child}
use Rattle.cm_decl.specs.Same.{same_child}
use Rattle.cm_decl.specs.Graph.{StrongOn, sources_of}
use Rattle.cm_decl.specs.Reach.{NoCycle}
use Rattle.cm_decl.specs.Examples.{no_decl}
use Rattle.cm_world.specs.declared.row.Row.{Row}
use Rattle.cm_world.specs.declared.event.Event.TheVariants.{Pick}
use Rattle.cm_world.specs.World.{World, start}
use Rattle.cm_world.specs.Stopping.{MayStop, MayPick, IsFree, AllFree, line_up_to}
use Rattle.cm_world.specs.Step.{IsEnabled}
use Rattle.cm_world.specs.After.{after}
use Rattle.cm_world.specs.Legal.{Legal, replay}
use Rattle.cm_world.specs.Examples.{frame, x}
use Rattle.cm_world.specs.ShutdownExamples.{k_decl, x_name, doomed_entries, purged_entries, chain_rows}
use Rattle.cm_world.proofs.lemmas.examples.Declarations.{acyclic_alone, k_valid, no_decl_valid, new_child, no_gives}
use Rattle.cm_world.proofs.lemmas.trees.Levels.{lone_free, own_level, unneeded_free}
use Rattle.cm_world.proofs.lemmas.trees.Finding.{some_same}
use Rattle.cm_world.proofs.lemmas.examples.Picks.{stuck_pick}

-- ---- a doomed child

-- No node of the example with its new child has a source.
no_sources : (n : Node) → sources_of k_decl (new_child ∷ []) n ≡ []
no_sources Own = refl
no_sources (Child n) = rw (no_gives (same_child x_name n)) refl

-- The example with its new child has no cycle of strong edges.
dynamic_acyclic : NoCycle (StrongOn k_decl (new_child ∷ []))
dynamic_acyclic = acyclic_alone k_decl (new_child ∷ []) no_sources

-- the child is created, resolved and begun, and doomed meanwhile
pub doomed_is_legal : Legal (start frame) doomed_entries
unfolding after
doomed_is_legal = (
  record { enabled = refl; allowed = refl },
  (
    record { enabled = record { act = _; there = refl; pending = refl; own = refl; fitting = refl; valid = k_valid }; allowed = refl },
    (
      record { enabled = tt; allowed = (dynamic_acyclic, refl, refl) },
      (
        record { enabled = refl; allowed = refl },
        (
          record { enabled = record { act = _; there = refl; pending = refl; own = refl; fitting = refl; valid = no_decl_valid }; allowed = refl },
          (
            record { enabled = refl; allowed = refl },
            (
              record { enabled = tt; allowed = refl },
              tt,
            ),
          ),
        ),
      ),
    ),
  ),
)

-- the world that the dooming and n more entries leave
abbrev world_at : ℕ → World
world_at n = replay (start frame) (doomed_entries ++ take n purged_entries)

-- The doomed child is free at its own level, one entry behind its dooming.
free_at_one : IsFree (world_at 1).rows 1 1
unfolding after
free_at_one = lone_free (world_at 1).rows 1 1 refl (own_level (world_at 1).rows 1 no_decl refl refl)

-- The doomed child is free at its own level, three entries behind its dooming.
free_at_three : IsFree (world_at 3).rows 1 1
unfolding after
free_at_three = lone_free (world_at 3).rows 1 1 refl (own_level (world_at 3).rows 1 no_decl refl refl)

-- The doomed row while its program is still running.
abbrev running_row : Row
running_row = record {
  inc = 1;
  parent = Some 0;
  name = Some x_name;
  url = 35 ∷ x;
  absolute = Some x;
  decl = Some no_decl;
  on = true;
  pending = None;
  closing = true;
  doomed = true;
  shut = false;
  gives = [];
}

-- The doomed row when its program has stopped.
abbrev stopped_row : Row
stopped_row = record running_row { on = false }

-- The running row may be picked, one entry behind its dooming.
may_stop_now : MayPick (world_at 1).rows 1 1 running_row
unfolding after
may_stop_now = record {
  row = refl;
  top = 1;
  outermost = refl;
  below = refl;
  unshut = refl;
  idle = refl;
  may_stop = record { top = 1; outermost = refl; free = (free_at_one, tt) };
}

-- The stopped row may be picked, three entries behind its dooming.
may_shut_now : MayPick (world_at 3).rows 1 1 stopped_row
unfolding after
may_shut_now = record {
  row = refl;
  top = 1;
  outermost = refl;
  below = refl;
  unshut = refl;
  idle = refl;
  may_stop = record { top = 1; outermost = refl; free = (free_at_three, tt) };
}

-- the child's start ends, it is stopped, shut and purged, and is gone
pub purged_is_legal : Legal (replay (start frame) doomed_entries) purged_entries
unfolding after
purged_is_legal = (
  record { enabled = record { act = _; there = refl; pending = refl; own = refl; fitting = refl; valid = tt }; allowed = refl },
  (
    record { enabled = (refl, inr (record { inc = 1; row = running_row; may = may_stop_now })); allowed = record { undone = refl; row = running_row; may = may_stop_now; on = refl; same = refl } },
    (
      record { enabled = record { act = _; there = refl; pending = refl; own = refl; fitting = refl; valid = tt }; allowed = refl },
      (
        record { enabled = (refl, inr (record { inc = 1; row = stopped_row; may = may_shut_now })); allowed = record { undone = refl; row = stopped_row; may = may_shut_now; off = refl } },
        (
          record { enabled = (refl, inl refl); allowed = refl },
          (
            record { enabled = refl; allowed = refl },
            (
              record { enabled = refl; allowed = refl },
              tt,
            ),
          ),
        ),
      ),
    ),
  ),
)

-- while the start of the doomed child is pending, its pick has to wait
pub pick_waits : IsEnabled (replay (start frame) doomed_entries) 1 (Pick 1) → ⊥
unfolding after
pick_waits (there, inl done) = true≢false (sym done)
pick_waits (there, inr can) = stuck_pick (world_at 0).rows 1 1 refl refl can

-- ---- a chain of clients

-- while the client runs, mid may not stop
pub mid_waits : MayStop (chain_rows false false false) 3 → ⊥
mid_waits may =
    let one : may.top ≡ 0 = some_same may.top 0 (sym may.outermost) in
    let free : AllFree (chain_rows false false false) 3 (line_up_to (chain_rows false false false) 0 3) = subst (λ t. AllFree (chain_rows false false false) 3 (line_up_to (chain_rows false false false) t 3)) one may.free in
    true≢false (sym (free.1.0 2 ([], inl refl)))

-- the client may stop at once: nothing at its own level or at the root's depends on it
pub client_may_stop : MayStop (chain_rows false false false) 2
client_may_stop = record {
  top = 0;
  outermost = refl;
  free = (
    lone_free (chain_rows false false false) 2 2 refl (own_level (chain_rows false false false) 2 no_decl refl refl),
    (
      unneeded_free (chain_rows false false false) 0 2 (λ e. true≢false (sym ((unsigned_Decides 2 0).1 e))) refl,
      tt,
    ),
  );
}
