use Rattle.std.proofs.Common.{◌≡◌, ℕ, ◌+◌, ◌<◌, ◌≤◌, List, [], ◌∷◌, ◌++◌, length, take, Bool, true, false, ◌&&◌, ◌||◌, true≢false, refl, sym, ◌∙◌, ap, subst, IsTrue, inl, inr, arith, get_or, nat_eq, Some, bytes_eq, append-nil, append_assoc, set, ◌≢◌}
use Rattle.std.specs.Prelude.{map, filter, flat_map, nat_lt, if◌then◌else◌}
use Rattle.std.specs.List.{list_any}
use Rattle.std.specs.Option.{option_eq}
use Rattle.std.specs.Cmp.{both_ways, first_so, second_so}
use Rattle.std.proofs.Math.Bool.{and-false, or-false, or_assoc, and-or_distrib_left}
use Rattle.std.proofs.lemmas.Bool.{cases_lt}
use Rattle.std.proofs.lemmas.List.{take_all, take_more, get_or_append_left, length-set}
use Rattle.std.proofs.lemmas.List.Folds.{list_any_more, list_any-append}
use Rattle.std.proofs.lemmas.List.Elements.{filter-append}
use Rattle.std.proofs.lemmas.Grind.{flat_map-append}
use Rattle.std.proofs.Common.{get_or-set_same, get_or-set_other}
use Rattle.std.proofs.Math.Seq.{get_or-append_seam}
use borrow.Author.Tests.{ltb-true, lt-ltb}
use Rattle.std.proofs.lemmas.Bool.{and_from as and_pair, and_right}
use Rattle.cm_names.specs.declared.child.ChildName.{ChildName}
use Rattle.cm_decl.specs.declared.decl.Decl.{Decl}
use Rattle.cm_decl.specs.declared.rows.Give.{Give}
use Rattle.cm_decl.specs.declared.rows.Offer.{Offer}
use Rattle.cm_decl.specs.declared.node.Node.{Node}
use Rattle.cm_decl.specs.declared.node.Node.TheVariants.{Own, Child}
use Rattle.cm_decl.specs.declared.node.DynChild.{DynChild}
use Rattle.cm_decl.specs.declared.origin.Origin.{Origin}
use Rattle.cm_decl.specs.Same.{same_node, same_child}
use Rattle.cm_decl.specs.Graph.{node_of, is_from_node, is_strong, sources_of, child_sources, gives_of, offers_to, target_of}
use Rattle.cm_decl.proofs.lemmas.Sameness.{same_node-refl, same_node_exact, same_child_exact}
use Rattle.cm_deps.specs.Edges.{holds, row}
use Rattle.cm_deps.specs.Nodes.{at, IsIncreasing, IsNodeNumber}
use Rattle.cm_deps.specs.Sources.{is_source, Lists, ListsMore, IsEdges, strong_sources, offers_of}
use Rattle.cm_deps.proofs.lemmas.listed.Listing.{same_nat, nat_eq-refl, holds_push}
use Rattle.cm_deps.proofs.lemmas.numbers.Numbering.{number_once}
use Rattle.cm_deps.proofs.lemmas.numbers.Increasing.{increasing_keys}
use Rattle.cm_deps.proofs.lemmas.numbers.Placing.{at_found}

-- ---- one source

-- A number is that of a source, whose node is told, exactly where it is within the nodes and has this node.
pub source_node : (nodes : List Node) (source : Origin) (x : Node) → node_of source ≡ Some x → (j : ℕ) → is_source nodes (source ∷ []) j ≡ (nat_lt j (length nodes) && same_node x (at nodes j))
source_node nodes source x some j =
    ap (λ o. nat_lt j (length nodes) && (option_eq same_node o (Some (at nodes j)) || false)) some ∙ ap (λ v. nat_lt j (length nodes) && v) (or-false (same_node x (at nodes j)))

-- a node that isn't one of these has no number among them
pub source_absent : (nodes : List Node) (source : Origin) (x : Node) → node_of source ≡ Some x → list_any (same_node x) nodes ≡ false → (j : ℕ) → is_source nodes (source ∷ []) j ≡ false
source_absent nodes source x some absent j = source_node nodes source x some j ∙ by (nat_lt j (length nodes) && same_node x (at nodes j)) refl
  where
    by : (b : Bool) → (nat_lt j (length nodes) && same_node x (at nodes j)) ≡ b → b ≡ false
    by true h =
        let low : j < length nodes = ltb-true j (length nodes) (first_so (nat_lt j (length nodes)) (same_node x (at nodes j)) h) in
        let same : x ≡ at nodes j = same_node_exact x (at nodes j) (second_so (nat_lt j (length nodes)) (same_node x (at nodes j)) h) in
        absurd (true≢false (sym (at_found x nodes j low (sym same)) ∙ absent))
    by false h = refl

-- Where nodes increase, a number is that of a source exactly where it is the number of its node.
pub source_number : (nodes : List Node) (source : Origin) (x : Node) (i : ℕ) → IsIncreasing nodes → node_of source ≡ Some x → IsNodeNumber nodes x i → (j : ℕ) → nat_eq j i ≡ is_source nodes (source ∷ []) j
source_number nodes source x i increasing some is j = both_ways (nat_eq j i) (nat_lt j (length nodes) && same_node x (at nodes j))
    (λ h. subst (λ k. IsTrue (nat_lt k (length nodes) && same_node x (at nodes k))) (sym (same_nat j i h))
    (and_pair (nat_lt i (length nodes)) (same_node x (at nodes i)) (lt-ltb i (length nodes) is.inside) (subst (λ v. IsTrue (same_node x v)) (sym is.there) (same_node-refl x))))
    (λ h. (let low : j < length nodes = ltb-true j (length nodes) (first_so (nat_lt j (length nodes)) (same_node x (at nodes j)) h) in
    let same : x ≡ at nodes j = same_node_exact x (at nodes j) (second_so (nat_lt j (length nodes)) (same_node x (at nodes j)) h) in
    let one : j ≡ i = number_once nodes (increasing_keys nodes increasing) j i low is.inside (sym same ∙ sym is.there) in
    subst (λ k. IsTrue (nat_eq j k)) one (nat_eq-refl j))) ∙ sym (source_node nodes source x some j)

-- A source that stands for no node adds no number to the list.
pub added_none : (nodes : List Node) (source : Origin) (old : List ℕ) → ((j : ℕ) → is_source nodes (source ∷ []) j ≡ false) → ListsMore nodes (source ∷ []) old old
added_none nodes source old none j = sym (or-false (holds old j)) ∙ ap (λ v. holds old j || v) (sym (none j))

-- A source that stands for a node adds just that node's number to the list.
pub added_number : (nodes : List Node) (source : Origin) (x : Node) (i : ℕ) (old new : List ℕ) → IsIncreasing nodes → node_of source ≡ Some x → IsNodeNumber nodes x i → new ≡ old ++ i ∷ [] → ListsMore nodes (source ∷ []) old new
added_number nodes source x i old new increasing some is pushed j =
    ap (λ l. holds l j) pushed ∙ holds_push old i j ∙ ap (λ v. holds old j || v) (source_number nodes source x i increasing some is j)

-- ---- the sources of rows

-- A number is that of a source of two lists exactly where it is that of a source of one of them.
pub source_append : (nodes : List Node) (xs ys : List Origin) (j : ℕ) → is_source nodes (xs ++ ys) j ≡ (is_source nodes xs j || is_source nodes ys j)
source_append nodes xs ys j =
    ap (λ v. nat_lt j (length nodes) && v) (list_any-append (is_from_node (at nodes j)) xs ys) ∙ and-or_distrib_left (nat_lt j (length nodes)) (list_any (is_from_node (at nodes j)) xs) (list_any (is_from_node (at nodes j)) ys)

-- the sources of the rows that pass
abbrev pub passing : {A : Type 0} → (A → Bool) → (A → Origin) → List A → List Origin
passing passes source rows = map source (filter passes rows)

-- Some source of the rows that pass satisfies a test exactly where a passing row's source does.
pub passing_any : {A : Type 0} (passes : A → Bool) (source : A → Origin) (test : Origin → Bool) (rows : List A) → list_any test (passing passes source rows) ≡ list_any (λ r. passes r && test (source r)) rows
passing_any passes source test [] = refl
passing_any passes source test (r ∷ rs) = by (passes r) refl (passing_any passes source test rs)
  where
    by : (b : Bool) → passes r ≡ b → list_any test (passing passes source rs) ≡ list_any (λ r. passes r && test (source r)) rs → list_any test (passing passes source (r ∷ rs)) ≡ ((passes r && test (source r)) || list_any (λ r. passes r && test (source r)) rs)
    by true e later = rw e (ap (λ v. test (source r) || v) later)
    by false e later = rw e later

-- With one row more, the sources of the rows that pass have its source too, where it passes.
passing_more : {A : Type 0} (passes : A → Bool) (source : A → Origin) (nodes : List Node) (rows : List A) (i : ℕ) (r : A) → i < length rows → r ≡ get_or rows i r → (j : ℕ) → is_source nodes (passing passes source (take (i + 1) rows)) j ≡ (is_source nodes (passing passes source (take i rows)) j || (nat_lt j (length nodes) && (passes r && is_from_node (at nodes j) (source r))))
passing_more passes source nodes rows i r low here j =
    ap (λ v. nat_lt j (length nodes) && v) (
    passing_any passes source (is_from_node (at nodes j)) (take (i + 1) rows) ∙
    list_any_more (λ r. passes r && is_from_node (at nodes j) (source r)) rows i r low ∙
    ap (λ x. list_any (λ r. passes r && is_from_node (at nodes j) (source r)) (take i rows) || (passes x && is_from_node (at nodes j) (source x))) (sym here) ∙
    ap (λ v. v || (passes r && is_from_node (at nodes j) (source r))) (sym (passing_any passes source (is_from_node (at nodes j)) (take i rows)))
    ) ∙ and-or_distrib_left (nat_lt j (length nodes)) (list_any (is_from_node (at nodes j)) (passing passes source (take i rows))) (passes r && is_from_node (at nodes j) (source r))

-- A next row that passes adds the number of its source to those of the rows before it.
pub more_passes : {A : Type 0} (passes : A → Bool) (source : A → Origin) (nodes : List Node) (rows : List A) (i : ℕ) (r : A) (first old new : List ℕ) → i < length rows → r ≡ get_or rows i r → passes r ≡ true → ListsMore nodes (passing passes source (take i rows)) first old → ListsMore nodes (source r ∷ []) old new → ListsMore nodes (passing passes source (take (i + 1) rows)) first new
more_passes passes source nodes rows i r first old new low here pass so_far step j =
    step j ∙ ap (λ v. v || is_source nodes (source r ∷ []) j) (so_far j) ∙ or_assoc (holds first j) (is_source nodes (passing passes source (take i rows)) j) (is_source nodes (source r ∷ []) j) ∙
    ap (λ v. holds first j || v) (
    ap (λ v. is_source nodes (passing passes source (take i rows)) j || (nat_lt j (length nodes) && v)) (or-false (is_from_node (at nodes j) (source r)) ∙ ap (λ b. b && is_from_node (at nodes j) (source r)) (sym pass)) ∙
    sym (passing_more passes source nodes rows i r low here j)
    )

-- A next row that doesn't pass adds no number to those of the rows before it.
pub more_fails : {A : Type 0} (passes : A → Bool) (source : A → Origin) (nodes : List Node) (rows : List A) (i : ℕ) (r : A) (first old : List ℕ) → i < length rows → r ≡ get_or rows i r → passes r ≡ false → ListsMore nodes (passing passes source (take i rows)) first old → ListsMore nodes (passing passes source (take (i + 1) rows)) first old
more_fails passes source nodes rows i r first old low here fail so_far j =
    so_far j ∙ ap (λ v. holds first j || v) (
    sym (or-false (is_source nodes (passing passes source (take i rows)) j)) ∙
    ap (λ v. is_source nodes (passing passes source (take i rows)) j || v) (sym (and-false (nat_lt j (length nodes))) ∙ ap (λ b. nat_lt j (length nodes) && (b && is_from_node (at nodes j) (source r))) (sym fail)) ∙
    sym (passing_more passes source nodes rows i r low here j)
    )

-- No sources at all add no number to the list.
pub more_none : (nodes : List Node) (first : List ℕ) → ListsMore nodes [] first first
more_none nodes first j = sym (or-false (holds first j)) ∙ ap (λ v. holds first j || v) (sym (and-false (nat_lt j (length nodes))))

-- Once all rows are gone through, the numbers of the sources of all that pass were added.
pub more_all : {A : Type 0} (passes : A → Bool) (source : A → Origin) (nodes : List Node) (rows : List A) (i : ℕ) (first new : List ℕ) → length rows ≤ i → ListsMore nodes (passing passes source (take i rows)) first new → ListsMore nodes (passing passes source rows) first new
more_all passes source nodes rows i first new low so_far = subst (λ l. ListsMore nodes (passing passes source l) first new) (take_all i rows low) so_far

-- ---- results

-- What holds of each row, and of a new one at the end, holds of each row of the longer list.
pub rows_more : (P : ℕ → List ℕ → Type 0) (rows : List (List ℕ)) (n : ℕ) (new : List ℕ) → length rows ≡ n → ((i : ℕ) → i < n → P i (row rows i)) → P n new → (i : ℕ) → i < n + 1 → P i (row (rows ++ new ∷ []) i)
rows_more P rows n new size so_far last i low = elim (cases_lt i n) as (λ _. P i (row (rows ++ new ∷ []) i)) [
  | inl before ↦ subst (P i) (sym (get_or_append_left rows (new ∷ []) [] i (omega (arith, size)))) (so_far i before)
  | inr from ↦ (let here : n ≡ i = omega arith in
      let there : row (rows ++ new ∷ []) i ≡ new = ap (λ k. row (rows ++ new ∷ []) k) (sym (size ∙ here)) ∙ get_or-append_seam rows new [] [] in
      subst (P i) (sym there) (subst (λ k. P k new) here last))
]

-- ---- what a child depends on

-- The strong sources of the offers to a name are those of all offers that are to it and strong.
pub offers_passing : (offers : List Offer) (name : List ℕ) → strong_sources (offers_of offers name) ≡ passing (λ o. bytes_eq o.to name && is_strong o.give.dependency) (λ o. o.give.from) offers
offers_passing [] name = refl
offers_passing (o ∷ os) name = by (bytes_eq o.to name) refl (is_strong o.give.dependency) refl (offers_passing os name)
  where
    by : (b : Bool) → bytes_eq o.to name ≡ b → (s : Bool) → is_strong o.give.dependency ≡ s → strong_sources (offers_of os name) ≡ passing (λ o. bytes_eq o.to name && is_strong o.give.dependency) (λ o. o.give.from) os → strong_sources (offers_of (o ∷ os) name) ≡ passing (λ o. bytes_eq o.to name && is_strong o.give.dependency) (λ o. o.give.from) (o ∷ os)
    by true e true f later = rw (e, f) (ap (λ l. o.give.from ∷ l) later)
    by true e false f later = rw (e, f) later
    by false e s f later = rw e later

-- The strong sources of two lists of gives are those of the first and then those of the second.
pub sources_append : (gives more : List Give) → strong_sources (gives ++ more) ≡ strong_sources gives ++ strong_sources more
sources_append [] more = refl
sources_append (g ∷ gs) more = by (is_strong g.dependency) refl (sources_append gs more)
  where
    by : (s : Bool) → is_strong g.dependency ≡ s → strong_sources (gs ++ more) ≡ strong_sources gs ++ strong_sources more → strong_sources ((g ∷ gs) ++ more) ≡ strong_sources (g ∷ gs) ++ strong_sources more
    by true e later = rw e (ap (λ l. g.from ∷ l) later)
    by false e later = rw e later

-- Numbers that list the sources of the offers to a child are its sources, where no child is dynamic.
pub child_declared : (nodes : List Node) (d : Decl) (c : ChildName) (numbers : List ℕ) → Lists nodes (strong_sources (offers_of d.offers (target_of c))) numbers → Lists nodes (sources_of d [] (Child c)) numbers
child_declared nodes d c numbers lists = subst (λ l. Lists nodes (strong_sources l) numbers) (sym (append-nil (offers_to d c))) lists

-- ---- what is offered to a name

-- one strong offer more: at its target the list has the number of its source more, and elsewhere it is as before
pub offered_strong : (nodes : List Node) (offers : List Offer) (i : ℕ) (o : Offer) (name : List ℕ) (old new : List ℕ) → i < length offers → o ≡ get_or offers i o → is_strong o.give.dependency ≡ true → Lists nodes (passing (λ (o : Offer). bytes_eq o.to name && is_strong o.give.dependency) (λ (o : Offer). o.give.from) (take i offers)) old → (bytes_eq o.to name ≡ true → ListsMore nodes (o.give.from ∷ []) old new) → (bytes_eq o.to name ≡ false → new ≡ old) → Lists nodes (passing (λ (o : Offer). bytes_eq o.to name && is_strong o.give.dependency) (λ (o : Offer). o.give.from) (take (i + 1) offers)) new
offered_strong nodes offers i o name old new low here strong so_far there elsewhere = by (bytes_eq o.to name) refl
  where
    by : (b : Bool) → bytes_eq o.to name ≡ b → Lists nodes (passing (λ (o : Offer). bytes_eq o.to name && is_strong o.give.dependency) (λ (o : Offer). o.give.from) (take (i + 1) offers)) new
    by true e =
        let passes : (bytes_eq o.to name && is_strong o.give.dependency) ≡ true = rw (e, strong) refl in
        more_passes (λ (o : Offer). bytes_eq o.to name && is_strong o.give.dependency) (λ (o : Offer). o.give.from) nodes offers i o [] old new low here passes so_far (there e)
    by false e =
        let fails : (bytes_eq o.to name && is_strong o.give.dependency) ≡ false = rw e refl in
        subst (λ l. Lists nodes (passing (λ (o : Offer). bytes_eq o.to name && is_strong o.give.dependency) (λ (o : Offer). o.give.from) (take (i + 1) offers)) l) (sym (elsewhere e))
        (more_fails (λ (o : Offer). bytes_eq o.to name && is_strong o.give.dependency) (λ (o : Offer). o.give.from) nodes offers i o [] old low here fails so_far)

-- A next offer that isn't strong leaves the numbers of what a name is strongly offered as they are.
pub offered_weak : (nodes : List Node) (offers : List Offer) (i : ℕ) (o : Offer) (name : List ℕ) (old : List ℕ) → i < length offers → o ≡ get_or offers i o → is_strong o.give.dependency ≡ false → Lists nodes (passing (λ (o : Offer). bytes_eq o.to name && is_strong o.give.dependency) (λ (o : Offer). o.give.from) (take i offers)) old → Lists nodes (passing (λ (o : Offer). bytes_eq o.to name && is_strong o.give.dependency) (λ (o : Offer). o.give.from) (take (i + 1) offers)) old
offered_weak nodes offers i o name old low here weak so_far =
    more_fails (λ (o : Offer). bytes_eq o.to name && is_strong o.give.dependency) (λ (o : Offer). o.give.from) nodes offers i o [] old low here (and_right (bytes_eq o.to name) (is_strong o.give.dependency) weak) so_far

-- Once all offers are gone through, the numbers are those of the strong sources for the name.
pub offered_all : (nodes : List Node) (offers : List Offer) (i : ℕ) (name : List ℕ) (numbers : List ℕ) → length offers ≤ i → Lists nodes (passing (λ (o : Offer). bytes_eq o.to name && is_strong o.give.dependency) (λ (o : Offer). o.give.from) (take i offers)) numbers → Lists nodes (strong_sources (offers_of offers name)) numbers
offered_all nodes offers i name numbers low so_far =
    subst (λ l. Lists nodes l numbers) (sym (offers_passing offers name))
    (more_all (λ (o : Offer). bytes_eq o.to name && is_strong o.give.dependency) (λ (o : Offer). o.give.from) nodes offers i [] numbers low so_far)

-- ---- what a child of a collection was given besides

-- The numbers listed for sources are those listed for the same sources.
same_lists : (nodes : List Node) (xs ys : List Origin) (row : List ℕ) → xs ≡ ys → Lists nodes xs row → Lists nodes ys row
same_lists nodes xs ys row same lists = subst (λ l. Lists nodes l row) same lists

-- With one dynamic child more, of another name, a node's sources are what they were.
pub given_other : (d : Decl) (before : List DynChild) (k : DynChild) (x : Node) → (x ≡ Child k.name → ⊥) → sources_of d (before ++ k ∷ []) x ≡ sources_of d before x
given_other d before k Own apart = refl
given_other d before k (Child c) apart = by (same_child k.name c) refl
  where
    by : (b : Bool) → same_child k.name c ≡ b → sources_of d (before ++ k ∷ []) (Child c) ≡ sources_of d before (Child c)
    by true e = absurd (apart (ap Child (sym (same_child_exact k.name c e))))
    by false e =
        let kept : filter (λ h. same_child h.name c) (before ++ k ∷ []) ≡ filter (λ h. same_child h.name c) before = filter-append (λ (h : DynChild). same_child h.name c) before (k ∷ []) ∙ ap (λ b. filter (λ h. same_child h.name c) before ++ (if b then k ∷ [] else [])) e ∙ append-nil (filter (λ h. same_child h.name c) before) in
        ap (λ l. child_sources d c (flat_map (λ h. h.gives) l)) kept

-- The sources of a dynamic child are those of its name before, and those of its strong gives.
pub given_same : (d : Decl) (before : List DynChild) (k : DynChild) → sources_of d (before ++ k ∷ []) (Child k.name) ≡ sources_of d before (Child k.name) ++ strong_sources k.gives
given_same d before k =
    let self : same_child k.name k.name ≡ true = same_node-refl (Child k.name) in
    let kept : filter (λ h. same_child h.name k.name) (before ++ k ∷ []) ≡ filter (λ h. same_child h.name k.name) before ++ k ∷ [] = filter-append (λ (h : DynChild). same_child h.name k.name) before (k ∷ []) ∙ ap (λ b. filter (λ h. same_child h.name k.name) before ++ (if b then k ∷ [] else [])) self in
    let gives : gives_of (before ++ k ∷ []) k.name ≡ gives_of before k.name ++ k.gives = ap (λ l. flat_map (λ h. h.gives) l) kept ∙ flat_map-append (λ (h : DynChild). h.gives) (filter (λ h. same_child h.name k.name) before) (k ∷ []) ∙ ap (λ l. gives_of before k.name ++ l) (append-nil k.gives) in
    ap (λ l. strong_sources (offers_to d k.name ++ l)) gives ∙ ap strong_sources (sym (append_assoc (offers_to d k.name) (gives_of before k.name) k.gives)) ∙ sources_append (offers_to d k.name ++ gives_of before k.name) k.gives

-- the row of its node has the sources of what it was given more
pub given_more : (d : Decl) (nodes : List Node) (dynamic : List DynChild) (n : ℕ) (k : DynChild) (rows : List (List ℕ)) (place : ℕ) (new : List ℕ) → IsIncreasing nodes → n < length dynamic → k ≡ get_or dynamic n k → IsNodeNumber nodes (Child k.name) place → IsEdges d (take n dynamic) nodes rows → ListsMore nodes (strong_sources k.gives) (row rows place) new → IsEdges d (take (n + 1) dynamic) nodes (set rows place new)
given_more d nodes dynamic n k rows place new increasing low here is edges more = record {
  size = length-set rows place new ∙ edges.size;
  sources = λ i inside. subst (λ l. Lists nodes (sources_of d l (at nodes i)) (row (set rows place new) i)) (sym whole) (by i inside (nat_eq i place) refl);
}
  where
    whole : take (n + 1) dynamic ≡ take n dynamic ++ k ∷ []
    whole = take_more dynamic n k low ∙ ap (λ x. take n dynamic ++ x ∷ []) (sym here)

    by : (i : ℕ) → i < length nodes → (b : Bool) → nat_eq i place ≡ b → Lists nodes (sources_of d (take n dynamic ++ k ∷ []) (at nodes i)) (row (set rows place new) i)
    by i inside true e =
        let same : place ≡ i = sym (same_nat i place e) in
        subst (λ v. Lists nodes (sources_of d (take n dynamic ++ k ∷ []) (at nodes v)) (row (set rows place new) v)) same
        (subst (λ x. Lists nodes (sources_of d (take n dynamic ++ k ∷ []) x) (row (set rows place new) place)) (sym is.there)
        (subst (λ l. Lists nodes (sources_of d (take n dynamic ++ k ∷ []) (Child k.name)) l) (sym (get_or-set_same rows place new [] (omega (arith, is.inside, edges.size))))
        (same_lists nodes (sources_of d (take n dynamic) (Child k.name) ++ strong_sources k.gives) (sources_of d (take n dynamic ++ k ∷ []) (Child k.name)) new (sym (given_same d (take n dynamic) k))
        (λ j. more j ∙ ap (λ v. v || is_source nodes (strong_sources k.gives) j) (subst (λ x. Lists nodes (sources_of d (take n dynamic) x) (row rows place)) is.there (edges.sources place is.inside) j) ∙
        sym (source_append nodes (sources_of d (take n dynamic) (Child k.name)) (strong_sources k.gives) j)))))
    by i inside false e =
        let apart : at nodes i ≡ Child k.name → ⊥ = λ one. true≢false (sym (subst (λ v. IsTrue (nat_eq i v)) (number_once nodes (increasing_keys nodes increasing) i place inside is.inside (one ∙ sym is.there)) (nat_eq-refl i)) ∙ e) in
        let ne : i ≢ place = λ one. true≢false (sym (subst (λ v. IsTrue (nat_eq i v)) one (nat_eq-refl i)) ∙ e) in
        subst (λ l. Lists nodes (sources_of d (take n dynamic ++ k ∷ []) (at nodes i)) l) (sym (get_or-set_other rows place i new [] ne))
        (same_lists nodes (sources_of d (take n dynamic) (at nodes i)) (sources_of d (take n dynamic ++ k ∷ []) (at nodes i)) (row rows i) (sym (given_other d (take n dynamic) k (at nodes i) apart)) (edges.sources i inside))

-- a child that isn't among the nodes
pub given_none : (d : Decl) (nodes : List Node) (dynamic : List DynChild) (n : ℕ) (k : DynChild) (rows : List (List ℕ)) → n < length dynamic → k ≡ get_or dynamic n k → list_any (same_node (Child k.name)) nodes ≡ false → IsEdges d (take n dynamic) nodes rows → IsEdges d (take (n + 1) dynamic) nodes rows
given_none d nodes dynamic n k rows low here absent edges = record {
  size = edges.size;
  sources = λ i inside.
      (let apart : at nodes i ≡ Child k.name → ⊥ = λ one. true≢false (sym (at_found (Child k.name) nodes i inside one) ∙ absent) in
      subst (λ l. Lists nodes (sources_of d l (at nodes i)) (row rows i)) (sym (take_more dynamic n k low ∙ ap (λ x. take n dynamic ++ x ∷ []) (sym here)))
      (same_lists nodes (sources_of d (take n dynamic) (at nodes i)) (sources_of d (take n dynamic ++ k ∷ []) (at nodes i)) (row rows i) (sym (given_other d (take n dynamic) k (at nodes i) apart)) (edges.sources i inside)));
}
