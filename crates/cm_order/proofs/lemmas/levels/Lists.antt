-- Lists of rows that a map has for its keys.
use Rattle.std.proofs.Common.{◌≡◌, ℕ, ◌+◌, ◌<◌, ◌≤◌, List, [], ◌∷◌, ◌++◌, length, take, get_or, Bool, true, false, cond, ◌==◌, Option, Some, IsTrue, refl, sym, ◌∙◌, subst, inl, inr, ◌⊎◌}
use Rattle.std.specs.Prelude.{unwrap_or}
use Rattle.std.specs.List.{list_any}
use Rattle.std.specs.declared.cmp.Ordering.{Ordering}
use Rattle.std.specs.declared.cmp.Ordering.TheVariants.{Less, Equal, Greater}
use Rattle.std.specs.Ordering.{is_eq, nat_cmp}
use Rattle.std.specs.Cmp.{unsigned_Decides}
use Rattle.std.specs.Cmp.Lexicographic.{slice_cmp, bytes_decides}
use Rattle.std.specs.BTreeMap.{BTreeMap, get, is_at}
use Rattle.std.proofs.lemmas.Map.Lookups.{exact_unsigned}
use Rattle.std.proofs.lemmas.Map.Text.{is_eq-slice_cmp}
use Rattle.std.proofs.lemmas.List.{take_all}
use Rattle.std.proofs.lemmas.List.Folds.{list_any_more, list_any-append}
use Rattle.std.proofs.lemmas.Bool.{or_cases}
use Rattle.cm_facts.proofs.Numbers.{eq_self}
use Rattle.cm_decl.proofs.lemmas.Sameness.{never}
use Rattle.cm_world.specs.declared.row.Row.{Row}
use Rattle.cm_world.specs.Level.{LevelStrong}
use Rattle.cm_order.specs.Glances.{is_in_list, is_client, ClientsGrow, AreClients, is_offered}
use Rattle.cm_trees.proofs.trees.Trees.{or_left, or_right}

-- ---- a list

-- A row that is in a list is in it with one more item at its end.
pub listed_more : (list : List ℕ) (item z : ℕ) → IsTrue (is_in_list list z) → IsTrue (is_in_list (list ++ item ∷ []) z)
listed_more list item z there = list_any-append (λ y. y == z) list (item ∷ []) ∙ or_left (is_in_list list z) (is_in_list (item ∷ []) z) there

-- The item that is added at the end of a list is in it.
pub listed_last : (list : List ℕ) (item : ℕ) → IsTrue (is_in_list (list ++ item ∷ []) item)
listed_last list item =
    list_any-append (λ y. y == item) list (item ∷ []) ∙ or_right (is_in_list list item) (is_in_list (item ∷ []) item) (or_left (item == item) false (eq_self item))

-- what is in a list is there before its last item, or is that
pub listed_parts : (list : List ℕ) (item z : ℕ) → IsTrue (is_in_list (list ++ item ∷ []) z) → IsTrue (is_in_list list z) ⊎ (z ≡ item)
listed_parts list item z there = elim (or_cases (is_in_list list z) (is_in_list (item ∷ []) z) (sym (list_any-append (λ y. y == z) list (item ∷ [])) ∙ there)) [
  | inl before ↦ inl before
  | inr last ↦ (elim (or_cases (item == z) false last) [
    | inl same ↦ inr (sym ((unsigned_Decides item z).0 same))
    | inr none ↦ never none
  ])
]

-- ---- keys

-- An order that tests as equal is the equal one.
equal_by : (o : Ordering) → IsTrue (is_eq o) → o ≡ Equal
equal_by Less e = never e
equal_by Equal e = refl
equal_by Greater e = never e

-- Two numbers of which neither comes before the other are the same.
pub same_number : (k q : ℕ) → IsTrue (is_at (nat_cmp k) q) → k ≡ q
same_number k q at = exact_unsigned k q (equal_by (nat_cmp k q) at)

-- Two names of which neither comes before the other are the same.
pub same_name : (k q : List ℕ) → IsTrue (is_at (slice_cmp nat_cmp k) q) → k ≡ q
same_name k q at = (bytes_decides k q).0 (sym (is_eq-slice_cmp k q) ∙ at)

-- ---- a map

-- Where a condition was asked once, asking it again in its else part changes nothing.
pub cond_on : {A : Type 0} (b : Bool) (x y z : A) → cond b x (cond b y z) ≡ cond b x z
cond_on true x y z = refl
cond_on false x y z = refl

module _ {K : Type 0} (cmp : K → K → Ordering) where
  -- What was in the old list of a key is in the list that is taken now, or was left out.
  left_by : (C : ℕ → Type 0) (b : Bool) (o p : Option (List ℕ)) (z : ℕ) → (IsTrue b → IsTrue (is_in_list (unwrap_or p []) z) → IsTrue (is_in_list (unwrap_or o []) z) ⊎ C z) → IsTrue (is_in_list (unwrap_or p []) z) → IsTrue (is_in_list (unwrap_or (cond b o p) []) z) ⊎ C z
  left_by C true o p z more there = more refl there
  left_by C false o p z more there = inl there

  -- where one list is changed, each has what it had, but for what the changed one left out
  pub lists_left : ((k q : K) → IsTrue (is_at (cmp k) q) → k ≡ q) → (C : ℕ → Type 0) (old new : BTreeMap K (List ℕ)) (key : K) (o : Option (List ℕ)) → ((q : K) → get cmp new q ≡ cond (is_at (cmp key) q) o (get cmp old q)) → ((z : ℕ) → IsTrue (is_in_list (unwrap_or (get cmp old key) []) z) → IsTrue (is_in_list (unwrap_or o []) z) ⊎ C z) → (x : K) (z : ℕ) → IsTrue (is_in_list (unwrap_or (get cmp old x) []) z) → IsTrue (is_in_list (unwrap_or (get cmp new x) []) z) ⊎ C z
  lists_left exact C old new key o is more x z there =
      subst (λ l. IsTrue (is_in_list (unwrap_or l []) z) ⊎ C z) (sym (is x))
      (left_by C (is_at (cmp key) x) o (get cmp old x) z (λ same here. more z (subst (λ k. IsTrue (is_in_list (unwrap_or (get cmp old k) []) z)) (sym (exact key x same)) here)) there)

  -- where nothing is left out, all is there
  pub lists_grow : ((k q : K) → IsTrue (is_at (cmp k) q) → k ≡ q) → (old new : BTreeMap K (List ℕ)) (key : K) (list : List ℕ) → ((q : K) → get cmp new q ≡ cond (is_at (cmp key) q) (Some list) (get cmp old q)) → ((z : ℕ) → IsTrue (is_in_list (unwrap_or (get cmp old key) []) z) → IsTrue (is_in_list list z)) → (x : K) (z : ℕ) → IsTrue (is_in_list (unwrap_or (get cmp old x) []) z) → IsTrue (is_in_list (unwrap_or (get cmp new x) []) z)
  lists_grow exact old new key list is more x z there = elim (lists_left exact (λ _. ⊥) old new key (Some list) is (λ z here. inl (more z here)) x z there) [
    | inl on ↦ on
    | inr out ↦ absurd out
  ]

  -- where one list is changed, what is in one is in the changed one, or was there
  pub lists_only : (old new : BTreeMap K (List ℕ)) (key : K) (list : List ℕ) → ((q : K) → get cmp new q ≡ cond (is_at (cmp key) q) (Some list) (get cmp old q)) → (x : K) (z : ℕ) → IsTrue (is_in_list (unwrap_or (get cmp new x) []) z) → (IsTrue (is_at (cmp key) x) × IsTrue (is_in_list list z)) ⊎ IsTrue (is_in_list (unwrap_or (get cmp old x) []) z)
  lists_only old new key list is x z there = by (is_at (cmp key) x) refl (subst (λ o. IsTrue (is_in_list (unwrap_or o []) z)) (is x) there) where
    by : (b : Bool) → is_at (cmp key) x ≡ b → IsTrue (is_in_list (unwrap_or (cond b (Some list) (get cmp old x)) []) z) → (IsTrue (is_at (cmp key) x) × IsTrue (is_in_list list z)) ⊎ IsTrue (is_in_list (unwrap_or (get cmp old x) []) z)
    by true at here = inl (at, here)
    by false at here = inr here

-- a row more is in the list of another on which it strongly depends
pub clients_more : (rows : List Row) (p : ℕ) (old new : BTreeMap ℕ (List ℕ)) (key item : ℕ) (was : List ℕ) → ((q : ℕ) → get nat_cmp new q ≡ cond (is_at (nat_cmp key) q) (Some (was ++ item ∷ [])) (get nat_cmp old q)) → ((z : ℕ) → IsTrue (is_in_list was z) → IsTrue (is_client old key z)) → LevelStrong rows p item key → AreClients rows p old → AreClients rows p new
clients_more rows p old new key item was is more strong are x z there = elim (lists_only nat_cmp old new key (was ++ item ∷ []) is x z there) [
  | inl here ↦ (elim (listed_parts was item z here.1) [
    | inl before ↦ subst (LevelStrong rows p z) (same_number key x here.0) (are key z (more z before))
    | inr same ↦ subst (λ w. LevelStrong rows p w x) (sym same) (subst (LevelStrong rows p item) (same_number key x here.0) strong)
  ])
  | inr before ↦ are x z before
]

-- a row more is in the list of a name
pub names_more : (old new : BTreeMap (List ℕ) (List ℕ)) (key : List ℕ) (item : ℕ) (was : List ℕ) → ((q : List ℕ) → get (slice_cmp nat_cmp) new q ≡ cond (is_at (slice_cmp nat_cmp key) q) (Some (was ++ item ∷ [])) (get (slice_cmp nat_cmp) old q)) → ((z : ℕ) → IsTrue (is_in_list was z) → IsTrue (is_offered old key z)) → (name : List ℕ) (x : ℕ) → IsTrue (is_offered new name x) → IsTrue (is_offered old name x) ⊎ ((key ≡ name) × (item ≡ x))
names_more old new key item was is more name x there = elim (lists_only (slice_cmp nat_cmp) old new key (was ++ item ∷ []) is name x there) [
  | inl here ↦ (elim (listed_parts was item x here.1) [
    | inl before ↦ inl (subst (λ k. IsTrue (is_offered old k x)) (same_name key name here.0) (more x before))
    | inr same ↦ inr (same_name key name here.0, sym same)
  ])
  | inr before ↦ inl before
]

-- ---- item after item

-- a row is in the list of each of these, and nothing was taken out
pub record AreListed (w : ℕ) (xs : List ℕ) (old new : BTreeMap ℕ (List ℕ)) : Type 0 where
  pub all : (x : ℕ) → IsTrue (is_in_list xs x) → IsTrue (is_client new x w)
  pub kept : ClientsGrow old new
  pub real : (rows : List Row) (p : ℕ) → ((x : ℕ) → IsTrue (is_in_list xs x) → LevelStrong rows p w x) → AreClients rows p old → AreClients rows p new

module _ (w : ℕ) (xs : List ℕ) where
  -- Before any item is looked at a row is in the lists of all that were, and nothing is taken out.
  pub listing_first : (old : BTreeMap ℕ (List ℕ)) → AreListed w (take 0 xs) old old
  listing_first old = record { all = λ x there. never there; kept = λ x z there. there; real = λ rows p strong are. are }

  -- A row that is put into the list of the next item is in the lists of one item more.
  pub listing_more : (i : ℕ) (first old new : BTreeMap ℕ (List ℕ)) → i < length xs → AreListed w (take i xs) first old → ClientsGrow old new → IsTrue (is_client new (get_or xs i 0) w) → ((rows : List Row) (p : ℕ) → LevelStrong rows p w (get_or xs i 0) → AreClients rows p old → AreClients rows p new) → AreListed w (take (i + 1) xs) first new
  listing_more i first old new low so_far kept here real = record {
    all = λ x there. elim (or_cases (list_any (λ y. y == x) (take i xs)) (get_or xs i 0 == x) (sym (list_any_more (λ y. y == x) xs i 0 low) ∙ there)) [
      | inl before ↦ kept x w (so_far.all x before)
      | inr last ↦ subst (λ z. IsTrue (is_client new z w)) ((unsigned_Decides (get_or xs i 0) x).0 last) here
    ];
    kept = λ x z there. kept x z (so_far.kept x z there);
    real = λ rows p strong are. real rows p
        (strong (get_or xs i 0) (list_any_more (λ y. y == get_or xs i 0) xs i 0 low ∙ or_right (list_any (λ y. y == get_or xs i 0) (take i xs)) (get_or xs i 0 == get_or xs i 0) (eq_self (get_or xs i 0))))
        (so_far.real rows p (λ x there. strong x (list_any_more (λ y. y == x) xs i 0 low ∙ or_left (list_any (λ y. y == x) (take i xs)) (get_or xs i 0 == x) there)) are);
  }

  -- Where all items were looked at, the row is in the list of each.
  pub listing_ends : (i : ℕ) (first new : BTreeMap ℕ (List ℕ)) → length xs ≤ i → AreListed w (take i xs) first new → AreListed w xs first new
  listing_ends i first new long so_far = subst (λ l. AreListed w l first new) (take_all i xs long) so_far
