use Rattle.std.proofs.Common.{◌≡◌, ℕ, zero, suc, ◌<◌, List, [], ◌∷◌, length, arith, Less}
use Rattle.std.specs.List.{AllByRecursion}
use Rattle.std.specs.List.Sorted.{IsStrictlySortedBy}
use Rattle.std.proofs.lemmas.Map.Keys.{sorted_head, sorted_tail}
use Rattle.cm_decl.specs.declared.node.Node.{Node}
use Rattle.cm_decl.specs.NodeOrder.{node_cmp}
use Rattle.cm_deps.proofs.lemmas.numbers.Numbering.{at}

-- What holds of each node of a list holds of that at a number within it.
all_at : (P : Node → Type 0) (xs : List Node) → AllByRecursion P xs → (k : ℕ) → k < length xs → P (at xs k)
all_at P [] all k low = absurd (omega arith)
all_at P (x ∷ xs) all zero low = all.0
all_at P (x ∷ xs) all (suc k) low = all_at P xs all.1 k (omega arith)

-- the keys of a tree rise
pub increasing_keys : (nodes : List Node) → IsStrictlySortedBy node_cmp nodes → (i j : ℕ) → i < j → j < length nodes → node_cmp (at nodes i) (at nodes j) ≡ Less
increasing_keys [] sorted i j low high = absurd (omega arith)
increasing_keys (x ∷ xs) sorted i zero low high = absurd (omega arith)
increasing_keys (x ∷ xs) sorted zero (suc j) low high = all_at (λ y. node_cmp x y ≡ Less) xs (sorted_head node_cmp x xs sorted) j (omega arith)
increasing_keys (x ∷ xs) sorted (suc i) (suc j) low high = increasing_keys xs (sorted_tail node_cmp x xs sorted) i j (omega arith) (omega arith)
