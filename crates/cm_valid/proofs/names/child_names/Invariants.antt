use Rattle.std.proofs.Common.{◌≡◌, ℕ, List, take, bytes_eq}
use Rattle.std.specs.List.{list_any}
use Rattle.cm_valid.specs.Lookup.{has}
use Rattle.cm_valid.proofs.names.child_names.Given as goal

abbrev pub invariant-loop-child : goal.invariant-loop-child
invariant-loop-child l = (name : List ℕ) → has l.names name ≡ list_any (λ k. bytes_eq k.name name) (take l.child-index l.children)
