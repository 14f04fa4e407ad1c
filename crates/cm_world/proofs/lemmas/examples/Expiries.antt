-- The worked examples of instances that go with one that stops.
use Rattle.std.proofs.Common.{◌≡◌, [], ◌∷◌, refl}
use Rattle.cm_decl.specs.declared.node.Node.{Node}
use Rattle.cm_decl.specs.declared.node.Node.TheVariants.{Own, Child}
use Rattle.cm_decl.specs.declared.rows.Durability.{Durability}
use Rattle.cm_decl.specs.declared.rows.Durability.TheVariants.{Transient, SingleRun}
use Rattle.cm_decl.specs.Same.{same_child}
use Rattle.cm_decl.specs.Graph.{StrongOn, sources_of}
use Rattle.cm_decl.specs.Reach.{NoCycle}
use Rattle.cm_decl.specs.Valid.{IsValid}
use Rattle.cm_world.specs.World.{start}
use Rattle.cm_world.specs.After.{after}
use Rattle.cm_world.specs.Legal.{Legal, replay}
use Rattle.cm_world.specs.Examples.{frame}
use Rattle.cm_world.specs.ShutdownExamples.{x_name}
use Rattle.cm_world.specs.ExpiringExamples.{collecting_decl, stopping_entries, expired_entries, closed_entries, once_entries}
use Rattle.cm_world.proofs.lemmas.examples.Declarations.{acyclic_alone, valid_alone, no_decl_valid, new_child, no_gives}

-- The declaration with a collection of either durability is valid.
valid : (d : Durability) → IsValid (collecting_decl d)
valid Transient = valid_alone (collecting_decl Transient) refl refl refl (λ n. refl)
valid SingleRun = valid_alone (collecting_decl SingleRun) refl refl refl (λ n. refl)

-- No node of the collecting component with its new child has a source.
no_sources : (d : Durability) (n : Node) → sources_of (collecting_decl d) (new_child ∷ []) n ≡ []
no_sources d Own = refl
no_sources d (Child n) = rw (no_gives (same_child x_name n)) refl

-- The collecting component with its new child has no cycle of strong edges.
no_cycle : (d : Durability) → NoCycle (StrongOn (collecting_decl d) (new_child ∷ []))
no_cycle d = acyclic_alone (collecting_decl d) (new_child ∷ []) (no_sources d)

-- It is legal that a running root gets a child in its collection, and that a stop of it begins.
pub stopping_is_legal : Legal (start frame) stopping_entries
unfolding after
stopping_is_legal = (
  record { enabled = refl; allowed = refl },
  (
    record { enabled = record { act = _; there = refl; pending = refl; own = refl; fitting = refl; valid = (valid Transient) }; allowed = refl },
    (
      record { enabled = refl; allowed = refl },
      (
        record { enabled = record { act = _; there = refl; pending = refl; own = refl; fitting = refl; valid = tt }; allowed = refl },
        (
          record { enabled = tt; allowed = (no_cycle Transient, refl, refl) },
          (
            record { enabled = refl; allowed = refl },
            tt,
          ),
        ),
      ),
    ),
  ),
)

-- It is legal that the stop of the root ends then, and the child goes with it and is removed.
pub expired_is_legal : Legal (replay (start frame) stopping_entries) expired_entries
unfolding after
expired_is_legal = (
  record { enabled = record { act = _; there = refl; pending = refl; own = refl; fitting = refl; valid = tt }; allowed = refl },
  (
    record { enabled = refl; allowed = refl },
    (
      record { enabled = tt; allowed = refl },
      (
        record { enabled = tt; allowed = refl },
        (
          record { enabled = tt; allowed = refl },
          tt,
        ),
      ),
    ),
  ),
)

-- It is legal that the root is to be shut down before its stop ends, so that nothing goes with it.
pub closed_is_legal : Legal (replay (start frame) stopping_entries) closed_entries
unfolding after
closed_is_legal = (
  record { enabled = tt; allowed = refl },
  (
    record { enabled = record { act = _; there = refl; pending = refl; own = refl; fitting = refl; valid = tt }; allowed = refl },
    (
      record { enabled = tt; allowed = refl },
      (
        record { enabled = tt; allowed = refl },
        tt,
      ),
    ),
  ),
)

-- It is legal that a child that runs once ends by itself, and is gone then.
pub once_is_legal : Legal (start frame) once_entries
unfolding after
once_is_legal = (
  record { enabled = refl; allowed = refl },
  (
    record { enabled = record { act = _; there = refl; pending = refl; own = refl; fitting = refl; valid = (valid SingleRun) }; allowed = refl },
    (
      record { enabled = tt; allowed = (no_cycle SingleRun, refl, refl) },
      (
        record { enabled = refl; allowed = refl },
        (
          record { enabled = record { act = _; there = refl; pending = refl; own = refl; fitting = refl; valid = no_decl_valid }; allowed = refl },
          (
            record { enabled = refl; allowed = refl },
            (
              record { enabled = record { act = _; there = refl; pending = refl; own = refl; fitting = refl; valid = tt }; allowed = refl },
              (
                record { enabled = refl; allowed = refl },
                (
                  record { enabled = tt; allowed = refl },
                  (
                    record { enabled = tt; allowed = refl },
                    (
                      record { enabled = tt; allowed = refl },
                      tt,
                    ),
                  ),
                ),
              ),
            ),
          ),
        ),
      ),
    ),
  ),
)
