-- Where an instance may stop, its clients at and below its outermost closing row are shut.
use Rattle.std.proofs.Common.{◌≡◌, ℕ, ◌<◌, ◌≤◌, List, [], false, cond, Some, IsTrue, sym, ◌∙◌, ap, subst, inl, inr, ◌⊎◌, arith}
use Rattle.std.specs.Option.{option_map_or}
use Rattle.std.specs.Cmp.{unsigned_Decides}
use Rattle.cm_world.specs.declared.row.Row.{Row}
use Rattle.cm_world.specs.declared.frame.Builtin.{Builtin}
use Rattle.cm_world.specs.Rows.{row_of, is_below, is_shut, is_subtree_shut}
use Rattle.cm_world.specs.Level.{LevelStrong}
use Rattle.cm_world.specs.Sound.{IsOrderly, IsSound}
use Rattle.cm_world.specs.Stopping.{is_wholly_shut, IsFree, AllFree, line_up_to, MayStop}
use Rattle.cm_world.specs.Clients.{IsClient}
use Rattle.cm_world.proofs.lemmas.trees.Finding.{some_same}
use Rattle.cm_trees.specs.Kids.{IsKid}
use Rattle.cm_trees.proofs.trees.Trees.{climb, below_cases, below_lives, below_least, below_trans, kid_higher, kid_below, shut_each, below_self}
use Rattle.cm_trees.proofs.names.Naming.{kid_not_own}
use Rattle.cm_trees.proofs.trees.Paths.{path_top, path}
use Rattle.cm_trees.proofs.trees.Tops.{IsTop, top_of}
use Rattle.cm_laws.proofs.lemmas.clients.Met.{LeadsTo, IsMet, met}

module _ (rows : List Row) (next : ℕ) (sound : IsSound rows next) where
  -- The rows are orderly.
  abbrev orderly : IsOrderly rows next
  orderly = sound.orderly

  -- ---- what stands above one row

  -- at a row both at or below a and at or below b, where it holds at its parent
  both_step : (a b i : ℕ) (r : Row) → row_of rows i ≡ Some r → ((p : ℕ) → r.parent ≡ Some p → IsTrue (is_below rows a p) → IsTrue (is_below rows b p) → IsTrue (is_below rows a b) ⊎ IsTrue (is_below rows b a)) → IsTrue (is_below rows a i) → IsTrue (is_below rows b i) → IsTrue (is_below rows a b) ⊎ IsTrue (is_below rows b a)
  both_step a b i r lives up first second = by (below_cases rows next orderly a i r lives first) (below_cases rows next orderly b i r lives second) where
    by : (i ≡ a) ⊎ ((p : ℕ) × (r.parent ≡ Some p) × IsTrue (is_below rows a p)) → (i ≡ b) ⊎ ((p : ℕ) × (r.parent ≡ Some p) × IsTrue (is_below rows b p)) → IsTrue (is_below rows a b) ⊎ IsTrue (is_below rows b a)
    by (inl same) other = inr (subst (λ z. IsTrue (is_below rows b z)) same second)
    by (inr above) (inl same) = inl (subst (λ z. IsTrue (is_below rows a z)) same first)
    by (inr above) (inr other) = up above.0 above.1 above.2 (subst (λ z. IsTrue (is_below rows b z)) (some_same other.0 above.0 (sym other.1 ∙ above.1)) other.2)

  -- of two rows above one, one stands above the other
  either_above : (a b i : ℕ) → IsTrue (is_below rows a i) → IsTrue (is_below rows b i) → IsTrue (is_below rows a b) ⊎ IsTrue (is_below rows b a)
  either_above a b i first second =
      let row : (r : Row) × (row_of rows i ≡ Some r) = below_lives rows next orderly a i first in
      climb rows next orderly (λ i. IsTrue (is_below rows a i) → IsTrue (is_below rows b i) → IsTrue (is_below rows a b) ⊎ IsTrue (is_below rows b a)) (both_step a b) i row.0 row.1 first second

  -- a child doesn't stand above its parent
  not_above : {A : Type 0} (p n : ℕ) → IsKid rows p n → IsTrue (is_below rows n p) → A
  not_above p n kid below =
      let higher : p < n = kid_higher rows next orderly p n kid in
      let least : n ≤ p = below_least rows next orderly n p below in
      let never : ⊥ = absurd (omega arith) in absurd never

  -- a child that stands at or below a row is that one, or its parent stands there
  kid_cases : (a p n : ℕ) → IsKid rows p n → IsTrue (is_below rows a n) → (n ≡ a) ⊎ IsTrue (is_below rows a p)
  kid_cases a p n kid below = elim (below_cases rows next orderly a n kid.row kid.lives below) [
    | inl same ↦ inl same
    | inr above ↦ inr (subst (λ z. IsTrue (is_below rows a z)) (some_same above.0 p (sym above.1 ∙ kid.parent)) above.2)
  ]

  -- a child that stands at or below another child is that one
  same_by : (p a b : ℕ) → IsKid rows p a → IsKid rows p b → IsTrue (is_below rows a b) → b ≡ a
  same_by p a b one other below = elim (kid_cases a p b other below) [
    | inl same ↦ same
    | inr above ↦ not_above p a one above
  ]

  -- only one child of a row stands at or above another row
  one_kid : (p a b i : ℕ) → IsKid rows p a → IsKid rows p b → IsTrue (is_below rows a i) → IsTrue (is_below rows b i) → b ≡ a
  one_kid p a b i one other first second = elim (either_above a b i first second) [
    | inl below ↦ same_by p a b one other below
    | inr below ↦ sym (same_by p b a other one below)
  ]

  -- ---- the level stands at or below the top

  -- a child that depends on what leads to a row doesn't lead there itself
  leads_apart : {A : Type 0} (p n m y : ℕ) → IsKid rows p n → LevelStrong rows p n m → LeadsTo rows p m y → IsTrue (is_below rows n y) → A
  leads_apart p n m y kid edge (inl own) below = not_above p n kid (subst (λ z. IsTrue (is_below rows n z)) own.1 below)
  leads_apart p n m y kid edge (inr other) below =
      let same : m ≡ n = one_kid p n m y kid other.0 below other.1 in
      absurd (sound.acyclic p (n, ([], subst (LevelStrong rows p n) same edge)))

  -- the level at which a client depends on its provider stands at or below what both stand at or below
  top_above : (top p n m x y : ℕ) → LevelStrong rows p n m → LeadsTo rows p n x → LeadsTo rows p m y → IsTrue (is_below rows top x) → IsTrue (is_below rows top y) → IsTrue (is_below rows top p)
  top_above top p n m x y edge (inl own) to_source client source = subst (λ z. IsTrue (is_below rows top z)) own.1 client
  top_above top p n m x y edge (inr kid) to_source client source = by (either_above top n x client kid.1) where
    up : (n ≡ top) ⊎ IsTrue (is_below rows top p) → IsTrue (is_below rows top p)
    up (inl same) = leads_apart p n m y kid.0 edge to_source (subst (λ z. IsTrue (is_below rows z y)) (sym same) source)
    up (inr above) = above

    by : IsTrue (is_below rows top n) ⊎ IsTrue (is_below rows n top) → IsTrue (is_below rows top p)
    by (inl below) = up (kid_cases top p n kid.0 below)
    by (inr below) = leads_apart p n m y kid.0 edge to_source (below_trans rows next orderly n top y below source)

  -- ---- freedom at a level

  -- where all levels up to a row are free, those up to a lower one are
  free_below : (top y p : ℕ) → AllFree rows y (line_up_to rows top y) → IsTrue (is_below rows top p) → IsTrue (is_below rows p y) → AllFree rows y (line_up_to rows p y)
  free_below top y p free upper below =
      let row : (r : Row) × (row_of rows p ≡ Some r) = below_lives rows next orderly top p upper in
      climb rows next orderly (λ p. IsTrue (is_below rows top p) → IsTrue (is_below rows p y) → AllFree rows y (line_up_to rows p y)) step p row.0 row.1 upper below
    where
      step : (p : ℕ) (r : Row) → row_of rows p ≡ Some r → ((q : ℕ) → r.parent ≡ Some q → IsTrue (is_below rows top q) → IsTrue (is_below rows q y) → AllFree rows y (line_up_to rows q y)) → IsTrue (is_below rows top p) → IsTrue (is_below rows p y) → AllFree rows y (line_up_to rows p y)
      step p r lives up upper below = elim (below_cases rows next orderly top p r lives upper) [
        | inl same ↦ subst (λ z. AllFree rows y (line_up_to rows z y)) (sym same) free
        | inr above ↦
            let kid : IsKid rows above.0 p = record { row = r; lives = lives; parent = above.1 } in
            let longer : AllFree rows y (line_up_to rows above.0 y) = up above.0 above.1 above.2 (below_trans rows next orderly above.0 p y (kid_below rows next orderly above.0 p kid) below) in
            ((path rows next orderly above.0 p y kid below).less y longer).0
      ]

  -- at the level of a row up to which all are free, the node that leads on is
  free_at : (top y p m : ℕ) (r : Row) → row_of rows y ≡ Some r → AllFree rows y (line_up_to rows top y) → IsTrue (is_below rows top p) → LeadsTo rows p m y → IsFree rows p m
  free_at top y p m r lives free upper (inl own) =
      let below : IsTrue (is_below rows top y) = subst (λ z. IsTrue (is_below rows top z)) (sym own.1) upper in
      let all : AllFree rows y (line_up_to rows y y) = free_below top y y free below (below_self rows next orderly y r lives) in
      let here : IsFree rows y y × Unit {0} = subst (AllFree rows y) (path_top rows next orderly y r lives) all in
      subst (λ z. IsFree rows p z) (sym own.0) (subst (λ z. IsFree rows z z) own.1 here.0)
  free_at top y p m r lives free upper (inr kid) =
      let all : AllFree rows y (line_up_to rows p y) = free_below top y p free upper (below_trans rows next orderly p m y (kid_below rows next orderly p m kid.0) kid.1) in
      ((path rows next orderly p m y kid.0 kid.1).less y all).1

  -- ---- the client is shut

  -- a row that lives, by its own mark
  shut_row : (x : ℕ) (r : Row) → row_of rows x ≡ Some r → IsTrue r.shut → IsTrue (is_shut rows x)
  shut_row x r lives shut = ap (λ o. option_map_or (λ r. r.shut) o false) lives ∙ shut

  -- where the node that leads to a row is wholly shut, the row is shut
  wholly_by : (p n x : ℕ) → LeadsTo rows p n x → IsTrue (is_wholly_shut rows p n) → IsTrue (is_shut rows x)
  wholly_by p n x (inl own) shut =
      let here : IsTrue (is_shut rows n) = sym (ap (λ b. cond b (is_shut rows n) (is_subtree_shut rows n)) ((unsigned_Decides n p).1 own.0)) ∙ shut in
      subst (λ z. IsTrue (is_shut rows z)) (own.0 ∙ sym own.1) here
  wholly_by p n x (inr kid) shut =
      let all : IsTrue (is_subtree_shut rows n) = sym (ap (λ b. cond b (is_shut rows n) (is_subtree_shut rows n)) (kid_not_own rows next orderly p n kid.0)) ∙ shut in
      let row : (r : Row) × (row_of rows x ≡ Some r) = below_lives rows next orderly n x kid.1 in
      shut_row x row.0 row.1 (shut_each rows next orderly n x row.0 all row.1 kid.1)

  -- what depends on a row that may stop is shut, at and below its top
  met_shut : (x y : ℕ) (may : MayStop rows y) → IsTop rows may.top y → (r : Row) → row_of rows y ≡ Some r → IsMet rows x y → IsTrue (is_below rows may.top x) → IsTrue (is_shut rows x)
  met_shut x y may top r lives meets below =
      let upper : IsTrue (is_below rows may.top meets.level) = top_above may.top meets.level meets.client meets.source x y meets.edge meets.to_client meets.to_source below top.below in
      let free : IsFree rows meets.level meets.source = free_at may.top y meets.level meets.source r lives may.free upper meets.to_source in
      wholly_by meets.level meets.client x meets.to_client (free meets.client ([], inl meets.edge))

  -- each client of a row that may stop is shut, if it stands at or below the row's outermost closing row
  pub client_shut : (builtins : List Builtin) (x y : ℕ) (may : MayStop rows y) → IsClient rows builtins x y → IsTrue (is_below rows may.top x) → IsTrue (is_shut rows x)
  client_shut builtins x y may client below =
      let top : IsTop rows may.top y = top_of rows next orderly y may.top may.outermost in
      let row : (r : Row) × (row_of rows y ≡ Some r) = below_lives rows next orderly may.top y top.below in
      met_shut x y may top row.0 row.1 (met rows builtins next orderly x y client) below
