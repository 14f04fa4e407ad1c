use Rattle.std.proofs.Common.{◌≡◌, List, [], ◌∷◌, ◌++◌, Bool, false, ◌||◌, true≢false, refl, sym, ◌∙◌, ap, subst, IsTrue, inl, inr, ◌⊎◌}
use Rattle.std.specs.List.{list_any, list_all}
use Rattle.std.proofs.lemmas.Bool.{or_parts}
use Rattle.std.specs.Cmp.{first_so, second_so}
use Rattle.cm_decl.specs.declared.node.Node.{Node}
use Rattle.cm_decl.specs.Same.{same_node}
use Rattle.cm_decl.specs.NodeOrder.{node_at_most}
use Rattle.cm_decl.specs.Cycle.{InCore, IsLeast, NextInCore, IsPickedCycle}
use Rattle.cm_decl.specs.Reach.{DependencyPath, Reaches}
use Rattle.cm_decl.proofs.lemmas.Sameness.{same_node-refl}

-- the order of nodes tells them apart
abbrev pub IsStrict : Type 0
IsStrict = (x y : Node) → IsTrue (node_at_most x y) → IsTrue (node_at_most y x) → x ≡ y

-- a least node is the only one
pub least_once : IsStrict → (P : Node → Type 0) (x y : Node) → IsLeast P x → IsLeast P y → x ≡ y
least_once strict P x y first second = strict x y (first.1 y second.0) (second.1 x first.0)

-- One node depends directly on another, by the graph's test.
abbrev On : (Node → Node → Bool) → Node → Node → Type 0
On edge = NextInCore edge

-- In the core one node at most follows a node, where the order of nodes tells them apart.
pub follows_once : IsStrict → (edge : Node → Node → Bool) (x y z : Node) → NextInCore edge x y → NextInCore edge x z → y ≡ z
follows_once strict edge x y z first second = least_once strict (λ v. InCore edge v × IsTrue (edge x v)) y z first second

-- Where all nodes of a list pass a test, the first does, and all of the rest do.
head_passes : (p : Node → Bool) (x : Node) (xs : List Node) → IsTrue (list_all p (x ∷ xs)) → IsTrue (p x) × IsTrue (list_all p xs)
head_passes p x xs h = (first_so (p x) (list_all p xs) h, second_so (p x) (list_all p xs) h)

-- A way of dependencies from a node is one from a node that is the same.
move_start : (edge : Node → Node → Bool) (x y : Node) (ys : List Node) (u : Node) → x ≡ y → DependencyPath (On edge) x ys u → DependencyPath (On edge) y ys u
move_start edge x y ys u e way = subst (λ z. DependencyPath (On edge) z ys u) e way

-- what is reached from a place on a loop passes what the whole loop passes, and the loop's head is reached from it
round : IsStrict → (edge : Node → Node → Bool) (head : Node) (others : List Node) → DependencyPath (On edge) head others head → (p : Node → Bool) → IsTrue (p head) → IsTrue (list_all p others) → (x : Node) (xs : List Node) → DependencyPath (On edge) x xs head → IsTrue (list_all p xs) → (ys : List Node) (u : Node) → DependencyPath (On edge) x ys u → IsTrue (p u) × Reaches (On edge) u head
round strict edge head others loop p top all x [] on rest [] u step =
    let same : head ≡ u = follows_once strict edge x head u on step in
    (subst (λ z. IsTrue (p z)) same top, subst (λ z. Reaches (On edge) z head) same (others, loop))
round strict edge head others loop p top all x [] on rest (y ∷ ys) u way =
    let same : y ≡ head = follows_once strict edge x y head way.0 on in
    round strict edge head others loop p top all head others loop all ys u (move_start edge y head ys u same way.1)
round strict edge head others loop p top all x (z ∷ zs) on rest [] u step =
    let same : z ≡ u = follows_once strict edge x z u on.0 step in
    (subst (λ v. IsTrue (p v)) same (head_passes p z zs rest).0, subst (λ v. Reaches (On edge) v head) same (zs, on.1))
round strict edge head others loop p top all x (z ∷ zs) on rest (y ∷ ys) u way =
    let same : y ≡ z = follows_once strict edge x y z way.0 on.0 in
    round strict edge head others loop p top all z zs on.1 (head_passes p z zs rest).1 ys u (move_start edge y z ys u same way.1)

-- the last step of a way leads to its end, which is therefore at most itself
own_least : (edge : Node → Node → Bool) (x : Node) (xs : List Node) (y : Node) → DependencyPath (On edge) x xs y → IsTrue (node_at_most y y)
own_least edge x [] y on = on.1 y on.0
own_least edge x (z ∷ zs) y way = own_least edge z zs y way.1

-- two ways from one node: the same end, or one end is reached from the other
fork : IsStrict → (edge : Node → Node → Bool) (s : Node) (xs ys : List Node) (a b : Node) → DependencyPath (On edge) s xs a → DependencyPath (On edge) s ys b → (a ≡ b) ⊎ (Reaches (On edge) a b ⊎ Reaches (On edge) b a)
fork strict edge s [] [] a b on to = inl (follows_once strict edge s a b on to)
fork strict edge s [] (y ∷ ys) a b on to =
    inr (inl (ys, move_start edge y a ys b (follows_once strict edge s y a to.0 on) to.1))
fork strict edge s (x ∷ xs) [] a b on to =
    inr (inr (xs, move_start edge x b xs a (follows_once strict edge s x b on.0 to) on.1))
fork strict edge s (x ∷ xs) (y ∷ ys) a b on to =
    fork strict edge x xs ys a b on.1 (move_start edge y x ys b (follows_once strict edge s y x to.0 on.0) to.1)

-- A node isn't missing from a list that it begins.
left_missing : (h y : Node) (ys : List Node) → y ≡ h → list_any (same_node h) (y ∷ ys) ≡ false → ⊥
left_missing h y ys e none =
    let here : IsTrue (same_node h y) = subst (λ z. IsTrue (same_node h z)) (sym e) (same_node-refl h) in
    true≢false (sym (ap (λ b. b || list_any (same_node h) ys) here) ∙ none)

-- two loops to one head that don't pass it before are one
loop_once : IsStrict → (edge : Node → Node → Bool) (head x : Node) (xs ys : List Node) → DependencyPath (On edge) x xs head → DependencyPath (On edge) x ys head → list_any (same_node head) xs ≡ false → list_any (same_node head) ys ≡ false → xs ≡ ys
loop_once strict edge head x [] [] on to one two = refl
loop_once strict edge head x [] (y ∷ ys) on to one two =
    absurd (left_missing head y ys (follows_once strict edge x y head to.0 on) two)
loop_once strict edge head x (z ∷ zs) [] on to one two =
    absurd (left_missing head z zs (follows_once strict edge x z head on.0 to) one)
loop_once strict edge head x (z ∷ zs) (y ∷ ys) on to one two =
    let same : y ≡ z = follows_once strict edge x y z to.0 on.0 in
    let rest : zs ≡ ys = loop_once strict edge head z zs ys on.1 (move_start edge y z ys head same to.1) (or_parts (same_node head z) (list_any (same_node head) zs) one).1 (or_parts (same_node head y) (list_any (same_node head) ys) two).1 in
    ap (λ l. z ∷ l) rest ∙ ap (λ v. v ∷ ys) (sym same)

-- a loop's head is at most each node that is reached from it, and is reached from there
from_head : IsStrict → (edge : Node → Node → Bool) (c : List Node) (picked : IsPickedCycle edge c) (u : Node) → Reaches (On edge) picked.head u → IsTrue (node_at_most picked.head u) × Reaches (On edge) u picked.head
from_head strict edge c picked u way =
    round strict edge picked.head picked.others picked.loop (node_at_most picked.head)
    (own_least edge picked.head picked.others picked.head picked.loop) picked.least
    picked.head picked.others picked.loop picked.least way.0 u way.1

-- Where the order of nodes is strict, picked cycles that reach one another's heads have one head.
heads_by : IsStrict → (edge : Node → Node → Bool) (c d : List Node) (one : IsPickedCycle edge c) (two : IsPickedCycle edge d) → Reaches (On edge) one.head two.head → one.head ≡ two.head
heads_by strict edge c d one two way =
    let there : IsTrue (node_at_most one.head two.head) × Reaches (On edge) two.head one.head = from_head strict edge c one two.head way in
    let back : IsTrue (node_at_most two.head one.head) × Reaches (On edge) one.head two.head = from_head strict edge d two one.head there.1 in
    strict one.head two.head there.0 back.0

-- Where the order of nodes is strict, all cycles picked from a graph have the same head.
heads_once : IsStrict → (edge : Node → Node → Bool) (c d : List Node) (one : IsPickedCycle edge c) (two : IsPickedCycle edge d) → one.head ≡ two.head
heads_once strict edge c d one two =
    let same : one.start ≡ two.start = least_once strict (InCore edge) one.start two.start one.least_of_core two.least_of_core in
    elim one.reached as (λ _. one.head ≡ two.head) [
      | inl e ↦ elim two.reached as (λ _. one.head ≡ two.head) [
        | inl f ↦ sym e ∙ same ∙ f
        | inr f ↦ heads_by strict edge c d one two (subst (λ z. Reaches (On edge) z two.head) (sym same ∙ e) f)
      ]
      | inr e ↦ elim two.reached as (λ _. one.head ≡ two.head) [
        | inl f ↦ sym (heads_by strict edge d c two one (subst (λ z. Reaches (On edge) z one.head) (same ∙ f) e))
        | inr f ↦
            elim (fork strict edge two.start e.0 f.0 one.head two.head (move_start edge one.start two.start e.0 one.head same e.1) f.1) as (λ _. one.head ≡ two.head) [
              | inl g ↦ g
              | inr (inl g) ↦ heads_by strict edge c d one two g
              | inr (inr g) ↦ sym (heads_by strict edge d c two one g)
            ]
      ]
    ]

-- a graph has at most one picked cycle
pub picked_once : IsStrict → (edge : Node → Node → Bool) (c d : List Node) → IsPickedCycle edge c → IsPickedCycle edge d → c ≡ d
picked_once strict edge c d one two =
    let heads : one.head ≡ two.head = heads_once strict edge c d one two in
    let loop : DependencyPath (On edge) one.head two.others one.head = subst (λ h. DependencyPath (On edge) h two.others h) (sym heads) two.loop in
    let once : list_any (same_node one.head) two.others ≡ false = subst (λ h. list_any (same_node h) two.others ≡ false) (sym heads) two.once in
    let others : one.others ≡ two.others = loop_once strict edge one.head one.head one.others two.others one.loop loop one.once once in
    one.whole ∙ ap (λ l. one.head ∷ l ++ one.head ∷ []) others ∙ ap (λ h. h ∷ two.others ++ h ∷ []) heads ∙ sym two.whole
