use Rattle.std.proofs.Common.{◌≡◌, ℕ, List, true, false, ◌&&◌, true≢false, Option, Some, None, refl, sym, ◌∙◌, ap, IsTrue, bytes_eq}
use Rattle.std.specs.Option.{option_eq}
use Rattle.std.specs.Cmp.Lexicographic.{bytes_decides}
use Rattle.std.specs.Cmp.{first_so, second_so}
use Rattle.cm_names.specs.declared.child.ChildName.{ChildName}
use Rattle.cm_decl.specs.declared.node.Node.{Node}
use Rattle.cm_decl.specs.declared.node.Node.TheVariants.{Own, Child}
use Rattle.cm_decl.specs.Same.{same_child, same_node}

-- Anything follows where false is true.
pub never : {A : Type 0} → IsTrue false → A
never h = absurd (true≢false (sym h))

-- A child's name, of its collection or none, is the same as itself.
same_parts : (coll : Option (List ℕ)) (name : List ℕ) → IsTrue (option_eq bytes_eq coll coll && bytes_eq name name)
same_parts None name = (bytes_decides name name).1 refl
same_parts (Some coll) name = rw ((bytes_decides coll coll).1 refl) ((bytes_decides name name).1 refl)

-- a node is the same as itself
pub same_node-refl : (x : Node) → IsTrue (same_node x x)
same_node-refl Own = refl
same_node-refl (Child n) = same_parts n.coll n.name

-- The name of a child: that of its collection, if it is in one, and its own.
unfoldable pub named : Option (List ℕ) → List ℕ → ChildName
named coll name = record { coll = coll; name = name }

-- Where collections, or none, and names are equal in bytes, the children's names are the same.
parts_same : (c d : Option (List ℕ)) (m n : List ℕ) → IsTrue (option_eq bytes_eq c d && bytes_eq m n) → named c m ≡ named d n
unfolding named
parts_same None None m n h = ap (named None) ((bytes_decides m n).0 h)
parts_same None (Some d) m n h = never h
parts_same (Some c) None m n h = never h
parts_same (Some c) (Some d) m n h =
    let colls : c ≡ d = (bytes_decides c d).0 (first_so (bytes_eq c d) (bytes_eq m n) h) in
    let names : m ≡ n = (bytes_decides m n).0 (second_so (bytes_eq c d) (bytes_eq m n) h) in
    ap (λ z. named (Some z) m) colls ∙ ap (named (Some d)) names

-- what passes the test of sameness is the same
pub same_child_exact : (a b : ChildName) → IsTrue (same_child a b) → a ≡ b
unfolding named
same_child_exact a b h = parts_same a.coll b.coll a.name b.name h

-- Nodes that the test of sameness passes are equal.
pub same_node_exact : (x y : Node) → IsTrue (same_node x y) → x ≡ y
same_node_exact Own Own h = refl
same_node_exact Own (Child b) h = never h
same_node_exact (Child a) Own h = never h
same_node_exact (Child a) (Child b) h = ap Child (same_child_exact a b h)
