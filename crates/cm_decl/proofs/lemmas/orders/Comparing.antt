use Rattle.std.proofs.Common.{◌≡◌, ℕ, List, [], ◌∷◌, ◌++◌, length, true≢false, Option, Some, None, refl, sym, ◌∙◌, ap, IsTrue, arith, nat_cmp, Ordering, Less, Equal, Greater, is_eq, is_lt}
use Rattle.std.specs.Ordering.{ordering_reverse, ordering_then, is_le}
use Rattle.std.specs.Cmp.{unsigned_ties, unsigned_Decides}
use Rattle.cm_names.specs.Child.{child_text}
use Rattle.cm_facts.proofs.Orders.{slice_cmp_equal}
use Rattle.cm_decl.specs.declared.node.Node.{Node}
use Rattle.cm_decl.specs.declared.node.Node.TheVariants.{Own, Child}
use Rattle.cm_decl.specs.NodeOrder.{coll_length, text_cmp, node_cmp, node_at_most}
use Rattle.cm_decl.specs.NodeOrderInside.{node_cmp_total}
use Rattle.cm_decl.proofs.lemmas.Sameness.{named}

-- Of two comparisons one after the other that come out equal, both do.
both_equal : (r s : Ordering) → ordering_then r s ≡ Equal → (r ≡ Equal) × (s ≡ Equal)
both_equal Less s e = absurd (true≢false (sym (ap is_eq e)))
both_equal Equal s e = (refl, e)
both_equal Greater s e = absurd (true≢false (sym (ap is_eq e)))

-- Numbers that compare as equal are the same.
same_numbers : (m n : ℕ) → nat_cmp m n ≡ Equal → m ≡ n
same_numbers m n e = (unsigned_Decides m n).0 (unsigned_ties m n ∙ ap is_eq e)

-- The first item of a list, or a default where it is empty.
head_or : ℕ → List ℕ → ℕ
head_or d [] = d
head_or d (x ∷ xs) = x

-- The list without its first item.
tail_of : List ℕ → List ℕ
tail_of [] = []
tail_of (x ∷ xs) = xs

-- texts that are cut at the same place are the same in both parts
cut : (a c b d : List ℕ) → length a ≡ length c → a ++ b ≡ c ++ d → (a ≡ c) × (b ≡ d)
unfolding head_or tail_of
cut [] [] b d e same = (refl, same)
cut [] (y ∷ ys) b d e same = absurd (omega arith)
cut (x ∷ xs) [] b d e same = absurd (omega arith)
cut (x ∷ xs) (y ∷ ys) b d e same =
    let shorter : length xs ≡ length ys = omega arith in
    let first : x ≡ y = ap (head_or x) same in
    let rest : (xs ≡ ys) × (b ≡ d) = cut xs ys b d shorter (ap tail_of same) in
    (ap (λ z. z ∷ xs) first ∙ ap (λ l. y ∷ l) rest.0, rest.1)

-- a child's name is told by its text and the length of its collection
parts : (c d : Option (List ℕ)) (m n : List ℕ) → child_text (named c m) ≡ child_text (named d n) → coll_length c ≡ coll_length d → named c m ≡ named d n
unfolding named tail_of
parts None None m n text long = ap (named None) text
parts None (Some d) m n text long = absurd (omega arith)
parts (Some c) None m n text long = absurd (omega arith)
parts (Some c) (Some d) m n text long =
    let shorter : length c ≡ length d = omega arith in
    let both : (c ≡ d) × (58 ∷ m ≡ 58 ∷ n) = cut c d (58 ∷ m) (58 ∷ n) shorter text in
    ap (λ z. named (Some z) m) both.0 ∙ ap (λ z. named (Some d) z) (ap tail_of both.1)

-- nodes that the order doesn't tell apart are the same
pub node_cmp_exact : (x y : Node) → node_cmp x y ≡ Equal → x ≡ y
unfolding named
node_cmp_exact Own Own e = refl
node_cmp_exact Own (Child b) e = absurd (true≢false (sym (ap is_eq e)))
node_cmp_exact (Child a) Own e = absurd (true≢false (sym (ap is_eq e)))
node_cmp_exact (Child a) (Child b) e =
    let both : (text_cmp (Child a) (Child b) ≡ Equal) × (nat_cmp (coll_length a.coll) (coll_length b.coll) ≡ Equal) = both_equal (text_cmp (Child a) (Child b)) (nat_cmp (coll_length a.coll) (coll_length b.coll)) e in
    ap Child (parts a.coll b.coll a.name b.name (slice_cmp_equal (child_text a) (child_text b) both.0) (same_numbers (coll_length a.coll) (coll_length b.coll) both.1))

-- Where each of two orderings is the other reversed, and both say at most, both say equal.
tied : (r s : Ordering) → r ≡ ordering_reverse s → IsTrue (is_le r) → IsTrue (is_le s) → r ≡ Equal
tied Less Less e h g = absurd (true≢false (ap is_lt e))
tied Less Equal e h g = absurd (true≢false (sym (ap is_eq e)))
tied Less Greater e h g = absurd (true≢false (sym g))
tied Equal s e h g = refl
tied Greater s e h g = absurd (true≢false (sym h))

-- the order of nodes tells them apart
pub nodes_strict : (x y : Node) → IsTrue (node_at_most x y) → IsTrue (node_at_most y x) → x ≡ y
nodes_strict x y h g =
    node_cmp_exact x y (tied (node_cmp x y) (node_cmp y x) (node_cmp_total.antisymm x y) h g)
