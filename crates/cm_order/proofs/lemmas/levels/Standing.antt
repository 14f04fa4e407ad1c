-- How a child stands at its level, by the lists of the level.
use Rattle.std.proofs.Common.{◌≡◌, ◌≢◌, ℕ, ◌+◌, ◌<◌, ◌≤◌, List, [], ◌∷◌, ◌++◌, length, filter, Bool, true, false, not, cond, ◌&&◌, ◌==◌, true≢false, Some, IsTrue, refl, sym, ◌∙◌, ap, subst, inl, inr, ◌⊎◌, arith}
use Rattle.std.specs.Prelude.{◌↔◌}
use Rattle.std.specs.List.{list_any}
use Rattle.std.specs.Cmp.{unsigned_Decides}
use Rattle.std.specs.Ordering.{nat_cmp}
use Rattle.std.specs.BTreeSet.{BTreeSet}
use Rattle.std.specs.BTreeMap.{is_at}
use Rattle.std.proofs.lemmas.Bool.{or_cases}
use Rattle.std.proofs.lemmas.List.{length-append}
use Rattle.cm_facts.proofs.Booleans.{true_and_false}
use Rattle.cm_facts.proofs.Lists.{length_cons_zero}
use Rattle.cm_decl.specs.Reach.{DependencyPath, Reaches}
use Rattle.cm_decl.specs.RealmGraph.{Depends}
use Rattle.cm_decl.proofs.lemmas.Sameness.{never}
use Rattle.cm_world.specs.declared.row.Row.{Row}
use Rattle.cm_world.specs.Rows.{row_of, is_subtree_shut}
use Rattle.cm_world.specs.Level.{level, LevelStrong}
use Rattle.cm_world.specs.LevelInside.{LevelOn}
use Rattle.cm_world.specs.Sound.{IsSound}
use Rattle.cm_world.specs.Stopping.{is_wholly_shut, IsFree}
use Rattle.cm_world.proofs.lemmas.trees.Finding.{none_some, some_same, row_of-inc}
use Rattle.cm_order.specs.declared.dependents.Dependents.{Dependents}
use Rattle.cm_order.specs.declared.standing.ClientLook.{ClientLook}
use Rattle.cm_order.specs.declared.standing.ClientLook.TheVariants as look
use Rattle.cm_trees.specs.Kids.{IsKid}
use Rattle.cm_order.specs.Levels.{EachOfList}
use Rattle.cm_order.specs.Glances.{is_in_list, is_in_set, is_client, KnowsDependents}
use Rattle.cm_order.specs.Standing.{HasNoClient, IsFreeByLists, IsBoundBy, IsOwnLeft, IsKidAbove, IsByOwn, BeginsWith, Pairwise, IsOnClimb, IsClimb, IsClientLeft, IsSeen, IsLook, effort}
use Rattle.cm_trees.proofs.trees.Trees.{kid_higher, not_true}
use Rattle.cm_order.proofs.lemmas.searches.Turns.{each_join, each_split}
use Rattle.cm_trees.proofs.levels.Nodes.{node_kid}
use Rattle.cm_world.proofs.lemmas.trees.Levels.{edge_node}
use Rattle.cm_order.proofs.lemmas.levels.Glancing.{free_unlisted}
use Rattle.cm_order.proofs.lemmas.levels.Lists.{listed_more, listed_last, listed_parts, same_number}
use Rattle.cm_order.proofs.lemmas.levels.Clearing.{set_on}

-- ---- lists

-- What holds of each item of a list holds of a row that is in it.
each_in : (P : ℕ → Type 0) (xs : List ℕ) (x : ℕ) → EachOfList P xs → IsTrue (is_in_list xs x) → P x
each_in P [] x all there = never there
each_in P (y ∷ ys) x all there = elim (or_cases (y == x) (is_in_list ys x) there) [
  | inl same ↦ subst P ((unsigned_Decides y x).0 same) all.0
  | inr later ↦ each_in P ys x all.1 later
]

-- Where each item has a property that brings another, each has the other.
each_to : (P Q : ℕ → Type 0) → ((x : ℕ) → P x → Q x) → (xs : List ℕ) → EachOfList P xs → EachOfList Q xs
each_to P Q f [] all = tt
each_to P Q f (x ∷ xs) all = (f x all.0, each_to P Q f xs all.1)

module _ (R : ℕ → ℕ → Type 0) where
  -- In a list that is ordered in pairs, what comes before the last is, and each of it stands to the last.
  pub pairs_split : (xs : List ℕ) (y : ℕ) → Pairwise R (xs ++ y ∷ []) → Pairwise R xs × EachOfList (λ x. R x y) xs
  pairs_split [] y all = (tt, tt)
  pairs_split (x ∷ xs) y all =
      let rest : Pairwise R xs × EachOfList (λ z. R z y) xs = pairs_split xs y all.1 in
      let own : EachOfList (R x) xs × EachOfList (R x) (y ∷ []) = each_split (R x) xs (y ∷ []) all.0 in
      ((own.0, rest.0), (own.1.0, rest.1))

  -- A list that is ordered in pairs stays so with one more item to which each stands.
  pub pairs_join : (xs : List ℕ) (y : ℕ) → Pairwise R xs → EachOfList (λ x. R x y) xs → Pairwise R (xs ++ y ∷ [])
  pairs_join [] y all each = (tt, tt)
  pairs_join (x ∷ xs) y all each = (each_join (R x) xs (y ∷ []) all.0 (each.0, tt), pairs_join xs y all.1 each.1)

-- What begins a list begins it with more at its end.
begins_more : (c : ℕ) (xs ys : List ℕ) → BeginsWith c xs → BeginsWith c (xs ++ ys)
begins_more c [] ys it = absurd it
begins_more c (x ∷ xs) ys it = it

-- What begins a list with a last item begins what is before that, where something is.
begins_left : (c : ℕ) (xs : List ℕ) (y : ℕ) (b : Bool) → IsTrue b ↔ (xs ≡ []) → b ≡ false → BeginsWith c (xs ++ y ∷ []) → BeginsWith c xs
begins_left c [] y b answers none it = absurd (true_and_false b (answers.1 refl) none)
begins_left c (x ∷ xs) y b answers none it = it

-- What holds of each item holds of the one that begins the list.
begins_first : (P : ℕ → Type 0) (c : ℕ) (xs : List ℕ) → BeginsWith c xs → EachOfList P xs → P c
begins_first P c [] it all = absurd it
begins_first P c (x ∷ xs) it all = subst P it all.0

-- A list whose length is told to be zero is empty, and an empty one's is.
pub none_told : (xs : List ℕ) (n : ℕ) (b : Bool) → n ≡ length xs → b ≡ (n == 0) → IsTrue b ↔ (xs ≡ [])
none_told [] n b long is = (λ told. refl, λ same. is ∙ ap (λ k. k == 0) long)
none_told (x ∷ xs) n b long is = (
  λ told. absurd (true≢false (sym told ∙ is ∙ ap (λ k. k == 0) long ∙ length_cons_zero x xs)),
  λ same. never (subst (λ l. IsTrue (list_any (λ y. true) l)) same refl),
)

-- ---- how many pass

-- Where each row that passes one test passes another, no more pass the first.
counted_le : (q t : Row → Bool) (rows : List Row) → ((s : Row) → IsTrue (q s) → IsTrue (t s)) → length (filter q rows) ≤ length (filter t rows)
counted_le q t [] more = omega arith
counted_le q t (x ∷ xs) more = by (q x) (t x) refl refl (counted_le q t xs more) where
  by : (b c : Bool) → q x ≡ b → t x ≡ c → length (filter q xs) ≤ length (filter t xs) → length (filter q (x ∷ xs)) ≤ length (filter t (x ∷ xs))
  by true true e f rest = rw (e, f) (omega arith)
  by true false e f rest = absurd (true≢false (sym (more x e) ∙ f))
  by false true e f rest = rw (e, f) (omega arith)
  by false false e f rest = rw (e, f) rest

-- Where besides one row passes the second test alone, fewer pass the first.
counted_less : (q t : Row → Bool) (rows : List Row) (i : ℕ) (r : Row) → ((s : Row) → IsTrue (q s) → IsTrue (t s)) → row_of rows i ≡ Some r → q r ≡ false → IsTrue (t r) → length (filter q rows) < length (filter t rows)
counted_less q t [] i r more lives out in_it = absurd (none_some r lives)
counted_less q t (x ∷ xs) i r more lives out in_it = by (x.inc == i) (q x) (t x) refl refl refl (λ later. counted_less q t xs i r more later out in_it) where
  by : (a b c : Bool) → (x.inc == i) ≡ a → q x ≡ b → t x ≡ c → (row_of xs i ≡ Some r → length (filter q xs) < length (filter t xs)) → length (filter q (x ∷ xs)) < length (filter t (x ∷ xs))
  by true b c is e f rest =
      let same : x ≡ r = some_same x r (rw is at lives) in
      let out_here : q x ≡ false = ap q same ∙ out in
      let in_here : t x ≡ true = ap t same ∙ in_it in
      let fewer : length (filter q xs) ≤ length (filter t xs) = counted_le q t xs more in
      rw (out_here, in_here) (omega arith)
  by false true true is e f rest = let fewer : length (filter q xs) < length (filter t xs) = rest (rw is at lives) in rw (e, f) (omega arith)
  by false true false is e f rest = absurd (true≢false (sym (more x e) ∙ f))
  by false false true is e f rest = let fewer : length (filter q xs) < length (filter t xs) = rest (rw is at lives) in rw (e, f) (omega arith)
  by false false false is e f rest = rw (e, f) (rest (rw is at lives))

-- Two flags that are both unset are neither.
neither : (a b : Bool) → a ≡ false → b ≡ false → IsTrue (not a && not b)
neither false false e f = refl
neither true b e f = absurd (true≢false e)
neither false true e f = absurd (true≢false f)

-- Where neither flag is set, the first isn't.
not_first : (a b : Bool) → IsTrue (not a && not b) → a ≡ false
not_first false b h = refl
not_first true b h = never h

-- Where neither flag is set, the second isn't.
not_second : (a b : Bool) → IsTrue (not a && not b) → b ≡ false
not_second false false h = refl
not_second false true h = never h
not_second true b h = never h

-- Where the second flag is set, not neither is.
either_out : (a b : Bool) → IsTrue b → (not a && not b) ≡ false
either_out true b e = refl
either_out false true e = refl
either_out false false e = absurd (true≢false (sym e))

-- One fewer counted twice is less than one more on the way.
up_less : (l k n m : ℕ) → l < k → m ≡ n + 1 → l + l + m < k + k + n
up_less l k n m less long = omega arith

-- One less on the way is less, where no more are counted.
back_less : (l k n m : ℕ) → l ≤ k → n ≡ m + 1 → l + l + m < k + k + n
back_less l k n m less long = omega arith

-- ---- a way up

module _ (rows : List Row) (next : ℕ) (sound : IsSound rows next) (p : ℕ) where
  -- A path of strong edges is one of edges of the level.
  on_way : (x : ℕ) (xs : List ℕ) (y : ℕ) → DependencyPath (LevelStrong rows p) x xs y → DependencyPath (LevelOn rows p) x xs y
  on_way x [] y on = inl on
  on_way x (z ∷ zs) y way = (inl way.0, on_way z zs y way.1)

  -- what strongly depends on a row depends on it
  pub strong_way : (x y : ℕ) → Reaches (LevelStrong rows p) x y → Depends (level rows p) x y
  strong_way x y way = (way.0, on_way x way.0 y way.1)

  -- What strongly depends on a row of the way strongly depends on the child, if through others.
  step_up : (z x c : ℕ) → LevelStrong rows p z x → (x ≡ c) ⊎ (Reaches (LevelStrong rows p) x c × IsTrue (is_wholly_shut rows p x)) → Reaches (LevelStrong rows p) z c
  step_up z x c strong (inl same) = ([], subst (LevelStrong rows p z) same strong)
  step_up z x c strong (inr up) = (x ∷ up.0.0, (strong, up.0.1))

  -- The last row of a way is one that may stand there.
  pub climb_last : (c : ℕ) (ws : List ℕ) (x : ℕ) → IsClimb rows p c (ws ++ x ∷ []) → IsOnClimb rows p c x
  climb_last c ws x climb = (each_split (IsOnClimb rows p c) ws (x ∷ []) climb.each).1.0

  -- a child is bound by what isn't shut
  pub climb_bound : (c : ℕ) (ws : List ℕ) (x : ℕ) → IsClimb rows p c (ws ++ x ∷ []) → IsBoundBy rows p x → IsFree rows p c → ⊥
  climb_bound c ws x climb by free =
      true_and_false (is_wholly_shut rows p by.inc) (free by.inc (strong_way by.inc c (step_up by.inc x c by.strong (climb_last c ws x climb).up))) by.unshut

  -- or p depends on it
  pub climb_own : (c : ℕ) (ws : List ℕ) (x : ℕ) (known : Dependents) → IsClimb rows p c (ws ++ x ∷ []) → IsOwnLeft rows p x known → IsByOwn rows p c known
  climb_own c ws x known climb own = record {
    way = step_up p x c own.strong (climb_last c ws x climb).up;
    shut = own.shut;
    left = own.left;
  }

  -- A child of a row isn't that row.
  kid_apart : (c : ℕ) → IsKid rows p c → c ≢ p
  kid_apart c kid = λ same. let higher : p < c = kid_higher rows next sound.orderly p c kid in absurd (omega arith)

  -- a row without clients that aren't cleared is free
  pub free_told : (known : Dependents) → KnowsDependents rows p known → (c : ℕ) → IsKid rows p c → HasNoClient known c → IsFreeByLists rows p c known
  free_told known is c kid none = record {
    free = (free_unlisted rows next sound p known is c kid none).free;
    clients = λ z strong. elim (is.clients z c (kid_apart c kid) strong) [
      | inl there ↦ absurd (true_and_false (is_client known.edges.clients c z) there (none z))
      | inr out ↦ out
    ];
  }

  -- Where the child alone is on the way and has no client, it is free.
  pub climb_free : (known : Dependents) (c : ℕ) (ws : List ℕ) (x : ℕ) → KnowsDependents rows p known → IsClimb rows p c (ws ++ x ∷ []) → ws ≡ [] → HasNoClient known x → IsFreeByLists rows p c known
  climb_free known c ws x is climb alone none =
      let same : x ≡ c = subst (λ l. BeginsWith c (l ++ x ∷ [])) alone climb.begins in
      subst (λ y. IsFreeByLists rows p y known) same (free_told known is x (climb_last c ws x climb).kid none)

  -- ---- one up

  -- What strongly depends on the last row of a way leads to each row of it.
  climb_out : (c : ℕ) (ws : List ℕ) (x z : ℕ) → IsClimb rows p c (ws ++ x ∷ []) → LevelStrong rows p z x → EachOfList (λ w. Reaches (LevelStrong rows p) z w) (ws ++ x ∷ [])
  climb_out c ws x z climb strong =
      each_join (λ w. Reaches (LevelStrong rows p) z w) ws (x ∷ [])
      (each_to (λ w. Reaches (LevelStrong rows p) x w) (λ w. Reaches (LevelStrong rows p) z w) (λ w way. (x ∷ way.0, (strong, way.1))) ws (pairs_split (λ x y. Reaches (LevelStrong rows p) y x) ws x climb.order).1)
      (([], strong), tt)

  -- A wholly shut child that strongly depends on the last row of a way goes on it.
  pub climb_up : (c : ℕ) (ws : List ℕ) (x z : ℕ) (known : Dependents) → IsClimb rows p c (ws ++ x ∷ []) → IsKidAbove rows p x z known → IsClimb rows p c ((ws ++ x ∷ []) ++ z ∷ [])
  climb_up c ws x z known climb above = record {
    begins = begins_more c (ws ++ x ∷ []) (z ∷ []) climb.begins;
    each = each_join (IsOnClimb rows p c) (ws ++ x ∷ []) (z ∷ []) climb.each
        (record { kid = above.kid; up = inr (step_up z x c above.strong (climb_last c ws x climb).up, above.shut) }, tt);
    order = pairs_join (λ x y. Reaches (LevelStrong rows p) y x) (ws ++ x ∷ []) z climb.order (climb_out c ws x z climb above.strong);
  }

  -- With one more child on the way there is less to do.
  pub up_falls : (c : ℕ) (ws : List ℕ) (x z : ℕ) (known : Dependents) → IsClimb rows p c (ws ++ x ∷ []) → IsKidAbove rows p x z known → effort rows known.cleared ((ws ++ x ∷ []) ++ z ∷ []) < effort rows known.cleared (ws ++ x ∷ [])
  up_falls c ws x z known climb above =
      let old : List ℕ = ws ++ x ∷ [] in
      let inc : above.kid.row.inc ≡ z = row_of-inc rows z above.kid.row above.kid.lives in
      let out : is_in_list old z ≡ false = not_true (is_in_list old z) (λ there. sound.acyclic p (z, each_in (λ w. Reaches (LevelStrong rows p) z w) old z (climb_out c ws x z climb above.strong) there)) in
      let less : length (filter (λ r. not (is_in_set known.cleared r.inc) && not (is_in_list (old ++ z ∷ []) r.inc)) rows) < length (filter (λ r. not (is_in_set known.cleared r.inc) && not (is_in_list old r.inc)) rows) =
      counted_less (λ r. not (is_in_set known.cleared r.inc) && not (is_in_list (old ++ z ∷ []) r.inc)) (λ r. not (is_in_set known.cleared r.inc) && not (is_in_list old r.inc)) rows z above.kid.row
      (λ s passes. neither (is_in_set known.cleared s.inc) (is_in_list old s.inc) (not_first (is_in_set known.cleared s.inc) (is_in_list (old ++ z ∷ []) s.inc) passes)
      (not_true (is_in_list old s.inc) (λ there. true_and_false (is_in_list (old ++ z ∷ []) s.inc) (listed_more old z s.inc there) (not_second (is_in_set known.cleared s.inc) (is_in_list (old ++ z ∷ []) s.inc) passes))))
      above.kid.lives
      (either_out (is_in_set known.cleared above.kid.row.inc) (is_in_list (old ++ z ∷ []) above.kid.row.inc) (subst (λ i. IsTrue (is_in_list (old ++ z ∷ []) i)) (sym inc) (listed_last old z)))
      (subst (λ i. IsTrue (not (is_in_set known.cleared i) && not (is_in_list old i))) (sym inc) (neither (is_in_set known.cleared z) (is_in_list old z) above.left out)) in
      up_less (length (filter (λ r. not (is_in_set known.cleared r.inc) && not (is_in_list (old ++ z ∷ []) r.inc)) rows)) (length (filter (λ r. not (is_in_set known.cleared r.inc) && not (is_in_list old r.inc)) rows)) (length old) (length (old ++ z ∷ [])) less (length-append old (z ∷ []))

  -- ---- one back

  -- what is on the way above the child is shut
  pub climb_shut : (c : ℕ) (ws : List ℕ) (x : ℕ) (b : Bool) → IsClimb rows p c (ws ++ x ∷ []) → IsTrue b ↔ (ws ≡ []) → b ≡ false → IsTrue (is_wholly_shut rows p x)
  climb_shut c ws x b climb answers some = elim (climb_last c ws x climb).up [
    | inl same ↦ absurd (sound.acyclic p (
      c,
      subst (λ y. Reaches (LevelStrong rows p) y c) same
          (begins_first (λ w. Reaches (LevelStrong rows p) x w) c ws (begins_left c ws x b answers some climb.begins) (pairs_split (λ x y. Reaches (LevelStrong rows p) y x) ws x climb.order).1),
    ))
    | inr up ↦ up.1
  ]

  -- A way without its last row is a way, where something is left.
  pub climb_back : (c : ℕ) (ws : List ℕ) (x : ℕ) (b : Bool) → IsClimb rows p c (ws ++ x ∷ []) → IsTrue b ↔ (ws ≡ []) → b ≡ false → IsClimb rows p c ws
  climb_back c ws x b climb answers some = record {
    begins = begins_left c ws x b answers some climb.begins;
    each = (each_split (IsOnClimb rows p c) ws (x ∷ []) climb.each).0;
    order = (pairs_split (λ x y. Reaches (LevelStrong rows p) y x) ws x climb.order).0;
  }

  -- A way begins as the child alone.
  pub climb_first : (c : ℕ) (ws : List ℕ) → IsKid rows p c → ws ≡ c ∷ [] → IsClimb rows p c ws
  climb_first c ws kid same = subst (IsClimb rows p c) (sym same) (record {
    begins = refl;
    each = (record { kid = kid; up = inl refl }, tt);
    order = (tt, tt);
  })

-- With the last row of the way taken and cleared there is less to do.
pub back_falls : (rows : List Row) (ws : List ℕ) (x : ℕ) (old new : BTreeSet ℕ) → IsTrue (is_in_set new x) → ((z : ℕ) → is_in_set new z ≡ cond (is_at (nat_cmp x) z) true (is_in_set old z)) → effort rows new ws < effort rows old (ws ++ x ∷ [])
back_falls rows ws x old new here more =
    let fewer : length (filter (λ r. not (is_in_set new r.inc) && not (is_in_list ws r.inc)) rows) ≤ length (filter (λ r. not (is_in_set old r.inc) && not (is_in_list (ws ++ x ∷ []) r.inc)) rows) =
    counted_le (λ r. not (is_in_set new r.inc) && not (is_in_list ws r.inc)) (λ r. not (is_in_set old r.inc) && not (is_in_list (ws ++ x ∷ []) r.inc)) rows
    (λ s passes.
    let uncleared : is_in_set new s.inc ≡ false = not_first (is_in_set new s.inc) (is_in_list ws s.inc) passes in
    neither (is_in_set old s.inc) (is_in_list (ws ++ x ∷ []) s.inc)
    (not_true (is_in_set old s.inc) (λ there. true_and_false (is_in_set new s.inc) (more s.inc ∙ set_on (is_at (nat_cmp x) s.inc) (is_in_set old s.inc) there) uncleared))
    (not_true (is_in_list (ws ++ x ∷ []) s.inc) (λ there. elim (listed_parts ws x s.inc there) [
      | inl before ↦ true_and_false (is_in_list ws s.inc) before (not_second (is_in_set new s.inc) (is_in_list ws s.inc) passes)
      | inr same ↦ true_and_false (is_in_set new s.inc) (subst (λ y. IsTrue (is_in_set new y)) (sym same) here) uncleared
    ]))) in
    back_less (length (filter (λ r. not (is_in_set new r.inc) && not (is_in_list ws r.inc)) rows)) (length (filter (λ r. not (is_in_set old r.inc) && not (is_in_list (ws ++ x ∷ []) r.inc)) rows)) (length (ws ++ x ∷ [])) (length ws) fewer (length-append ws (x ∷ []))

-- ---- one look

-- What strongly depends on a row and isn't p itself is a child.
seen_node : (rows : List Row) (p z x : ℕ) → LevelStrong rows p z x → (z ≡ p → ⊥) → IsKid rows p z
seen_node rows p z x strong apart = elim (node_kid rows p z (edge_node rows p z x strong)) [
  | inl own ↦ absurd (apart own)
  | inr kid ↦ kid
]

-- What is seen of the last client of a row is what the list of the row says.
pub look_told : (rows : List Row) (p x z : ℕ) (known : Dependents) (look : ClientLook) → KnowsDependents rows p known → IsClientLeft known x (Some z) → IsSeen rows p z look → IsLook rows p x known look
look_told rows p x z known look.NoClient is client seen = absurd seen
look_told rows p x z known look.Unshut is client seen = record { inc = z; strong = is.strong x z client.0; unshut = seen }
look_told rows p x z known look.Own is client seen = record {
  strong = subst (λ y. LevelStrong rows p y x) seen.0 (is.strong x z client.0);
  shut = seen.1;
  left = subst (λ y. is_in_set known.cleared y ≡ false) seen.0 client.1;
}
look_told rows p x z known (look.Shut y) is client seen = subst (λ y. IsKidAbove rows p x y known) (sym seen.0) (record {
  kid = seen_node rows p z x (is.strong x z client.0) seen.1;
  strong = is.strong x z client.0;
  shut = seen.2;
  left = client.1;
})

-- A row that isn't p is wholly shut where it is shut with all below it.
pub kid_wholly : (rows : List Row) (p z : ℕ) → z ≢ p → is_wholly_shut rows p z ≡ is_subtree_shut rows z
kid_wholly rows p z apart = rw (not_true (z == p) (λ same. apart ((unsigned_Decides z p).0 same))) refl

-- a way isn't empty
pub climb_ends : (rows : List Row) (p c : ℕ) (ws : List ℕ) → ws ≡ [] → IsClimb rows p c ws → ⊥
climb_ends rows p c ws none climb = subst (BeginsWith c) none climb.begins

-- what is said of p stays, where a child is cleared
pub other_same : (rows : List Row) (next : ℕ) → IsSound rows next → (p x : ℕ) (old new : BTreeSet ℕ) → IsKid rows p x → ((z : ℕ) → is_in_set new z ≡ cond (is_at (nat_cmp x) z) true (is_in_set old z)) → is_in_set new p ≡ is_in_set old p
other_same rows next sound p x old new kid more = by (is_at (nat_cmp x) p) refl where
  by : (b : Bool) → is_at (nat_cmp x) p ≡ b → is_in_set new p ≡ is_in_set old p
  by true at = absurd (kid_apart rows next sound p x kid (same_number x p at))
  by false at = more p ∙ ap (λ b. cond b true (is_in_set old p)) at
