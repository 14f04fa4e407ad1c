use Rattle.std.proofs.Common.{◌≡◌, ℕ, List, take, bytes_eq, ◌&&◌}
use Rattle.std.specs.List.{list_any}
use Rattle.cm_decl.specs.Same.{same_kind}
use Rattle.cm_valid.specs.Lookup.{has}
use Rattle.cm_valid.proofs.names.capability_names.Given as goal

abbrev pub invariant-loop-capability : goal.invariant-loop-capability
invariant-loop-capability l = (name : List ℕ) → has l.names name ≡ list_any (λ c. same_kind c.kind l.kind && bytes_eq c.name name) (take l.capability-index l.capabilities)
