use Rattle.std.proofs.Common.{◌≡◌, ℕ, List, take, bytes_eq}
use Rattle.std.specs.List.{list_any}
use Rattle.cm_valid.specs.Lookup.{has}
use Rattle.cm_valid.proofs.names.collection_names.Given as goal

abbrev pub invariant-loop-collection : goal.invariant-loop-collection
invariant-loop-collection l = (name : List ℕ) → has l.names name ≡ list_any (λ k. bytes_eq k.name name) (take l.collection-index l.collections)
