-- What is known of a level, as it changes.
use Rattle.std.proofs.Common.{◌≡◌, ℕ, List, [], Bool, true, false, cond, Option, Some, None, IsTrue, option_map, refl, sym, ◌∙◌, ap, subst, inl, inr, ◌⊎◌}
use Rattle.std.specs.Prelude.{unwrap_or, IfSome}
use Rattle.std.specs.Ordering.{nat_cmp}
use Rattle.std.specs.BTreeMap.{BTreeMap, get, is_at}
use Rattle.std.specs.Map.{lookup}
use Rattle.cm_world.specs.declared.row.Row.{Row}
use Rattle.cm_world.specs.declared.view.Facts.{Facts}
use Rattle.cm_world.specs.Rows.{row_of}
use Rattle.cm_world.specs.RowsInside.{facts_of}
use Rattle.cm_world.proofs.lemmas.trees.Finding.{none_some, some_same}
use Rattle.cm_order.specs.declared.dependents.Dependents.{Dependents}
use Rattle.cm_trees.specs.Kids.{IsKid}
use Rattle.cm_facts.proofs.Booleans.{true_and_false}
use Rattle.cm_order.specs.Glances.{is_in_list, is_in_set, is_client, IsCleared, KnowsDependents}
use Rattle.cm_order.specs.Standing.{HasNoClient, IsLastLeft, IsClientLeft}
use Rattle.cm_order.specs.Plans.{AreKnown}
use Rattle.cm_order.proofs.lemmas.levels.Lists.{same_number, cond_on, lists_left, lists_only}

-- ---- a child

-- A row whose facts tell a parent is a child of that parent.
kid_by : (rows : List Row) (p c : ℕ) (f : Facts) (o : Option Row) → row_of rows c ≡ o → Some f ≡ option_map facts_of o → f.parent ≡ Some p → IsKid rows p c
kid_by rows p c f None lives told parent = absurd (none_some f (sym told))
kid_by rows p c f (Some r) lives told parent = record { row = r; lives = lives; parent = sym (ap (λ g. g.parent) (some_same f (facts_of r) told)) ∙ parent }

-- A row that has a parent by the facts that are told of it is a child of that parent.
pub kid_told : (rows : List Row) (p c : ℕ) (f : Facts) → Some f ≡ option_map facts_of (row_of rows c) → f.parent ≡ Some p → IsKid rows p c
kid_told rows p c f told parent = kid_by rows p c f (row_of rows c) refl told parent

-- ---- what is cleared

-- A flag that holds was set now or held before.
set_by : (b : Bool) (c : Bool) → cond b true c ≡ true → IsTrue b ⊎ IsTrue c
set_by true c there = inl refl
set_by false c there = inr there

-- A flag that holds still holds where it may be set.
pub set_on : (b c : Bool) → IsTrue c → cond b true c ≡ true
set_on true c there = refl
set_on false c there = there

-- a node more is cleared, that waits for nothing
pub known_more : (rows : List Row) (p node : ℕ) (a b : Dependents) → KnowsDependents rows p a → IsCleared rows p node → (node ≡ p) ⊎ HasNoClient a node → b.edges.clients ≡ a.edges.clients → ((q : ℕ) → is_in_set b.cleared q ≡ cond (is_at (nat_cmp node) q) true (is_in_set a.cleared q)) → KnowsDependents rows p b
known_more rows p node a b is cleared alone same more = record {
  clients = λ z x other strong. elim (is.clients z x other strong) [
    | inl there ↦ inl (subst (λ m. IsTrue (is_in_list (unwrap_or (get nat_cmp m x) []) z)) (sym same) there)
    | inr out ↦ inr (more z ∙ set_on (is_at (nat_cmp node) z) (is_in_set a.cleared z) out)
  ];
  strong = λ x z there. is.strong x z (subst (λ m. IsTrue (is_in_list (unwrap_or (get nat_cmp m x) []) z)) same there);
  closed = λ z x other strong there. more z ∙ set_on (is_at (nat_cmp node) z) (is_in_set a.cleared z) (elim (set_by (is_at (nat_cmp node) x) (is_in_set a.cleared x) (sym (more x) ∙ there)) [
    | inl here ↦ (elim alone [
      | inl own ↦ absurd (other (sym (same_number node x here) ∙ own))
      | inr none ↦ (elim (is.clients z x other strong) [
        | inl listed ↦ absurd (true_and_false (is_client a.edges.clients x z) listed (subst (λ y. is_client a.edges.clients y z ≡ false) (same_number node x here) (none z)))
        | inr out ↦ out
      ])
    ])
    | inr before ↦ is.closed z x other strong before
  ]);
  cleared = λ z there. elim (set_by (is_at (nat_cmp node) z) (is_in_set a.cleared z) (sym (more z) ∙ there)) [
    | inl here ↦ subst (IsCleared rows p) (same_number node z here) cleared
    | inr before ↦ is.cleared z before
  ];
}

-- a list lost some that are cleared
pub known_left : (rows : List Row) (p child : ℕ) (a b : Dependents) (was list : List ℕ) → KnowsDependents rows p a → b.cleared ≡ a.cleared → get nat_cmp a.edges.clients child ≡ Some was → ((q : ℕ) → get nat_cmp b.edges.clients q ≡ cond (is_at (nat_cmp child) q) (Some list) (get nat_cmp a.edges.clients q)) → ((z : ℕ) → IsTrue (is_in_list was z) → IsTrue (is_in_list list z) ⊎ IsTrue (is_in_set a.cleared z)) → ((z : ℕ) → IsTrue (is_in_list list z) → IsTrue (is_in_list was z)) → KnowsDependents rows p b
known_left rows p child a b was list is same found changed more only = record {
  clients = λ z x other strong. elim (is.clients z x other strong) [
    | inl there ↦ (elim (lists_left nat_cmp same_number (λ z. IsTrue (is_in_set a.cleared z)) a.edges.clients b.edges.clients child (Some list) changed (λ z here. more z (subst (λ o. IsTrue (is_in_list (unwrap_or o []) z)) found here)) x z there) [
      | inl on ↦ inl on
      | inr out ↦ inr (subst (λ s. IsTrue (is_in_set s z)) (sym same) out)
    ])
    | inr out ↦ inr (subst (λ s. IsTrue (is_in_set s z)) (sym same) out)
  ];
  strong = λ x z there. elim (lists_only nat_cmp a.edges.clients b.edges.clients child list changed x z there) [
    | inl here ↦ is.strong x z (subst (λ y. IsTrue (is_client a.edges.clients y z)) (same_number child x here.0) (subst (λ o. IsTrue (is_in_list (unwrap_or o []) z)) (sym found) (only z here.1)))
    | inr before ↦ is.strong x z before
  ];
  closed = λ z x other strong there. subst (λ s. IsTrue (is_in_set s z)) (sym same) (is.closed z x other strong (subst (λ s. IsTrue (is_in_set s x)) same there));
  cleared = λ z there. is.cleared z (subst (λ s. IsTrue (is_in_set s z)) same there);
}

-- what is left of the list of a row
pub left_told : (known : Dependents) (child : ℕ) (list : List ℕ) (o : Option ℕ) → get nat_cmp known.edges.clients child ≡ Some list → IsLastLeft known.cleared list o → IsClientLeft known child o
left_told known child list None found empty = λ z.
    ap (λ o. is_in_list (unwrap_or o []) z) found ∙ ap (λ l. is_in_list l z) empty
left_told known child list (Some v) found last = (subst (λ o. IsTrue (is_in_list (unwrap_or o []) v)) (sym found) last.0, last.1)

-- where the edges and what is cleared are as they were
pub known_same : (rows : List Row) (p : ℕ) (a b : Dependents) → b.edges ≡ a.edges → b.cleared ≡ a.cleared → KnowsDependents rows p a → KnowsDependents rows p b
known_same rows p a b edges cleared is = record {
  clients = λ z x other strong. elim (is.clients z x other strong) [
    | inl there ↦ inl (subst (λ e. IsTrue (is_in_list (unwrap_or (get nat_cmp e.clients x) []) z)) (sym edges) there)
    | inr out ↦ inr (subst (λ s. IsTrue (is_in_set s z)) (sym cleared) out)
  ];
  strong = λ x z there. is.strong x z (subst (λ e. IsTrue (is_in_list (unwrap_or (get nat_cmp e.clients x) []) z)) edges there);
  closed = λ z x other strong there. subst (λ s. IsTrue (is_in_set s z)) (sym cleared) (is.closed z x other strong (subst (λ s. IsTrue (is_in_set s x)) cleared there));
  cleared = λ z there. is.cleared z (subst (λ s. IsTrue (is_in_set s z)) cleared there);
}

-- ---- what is kept of levels

-- What holds of the new value and of the old one holds of the one that is taken.
some_by : (P : Dependents → Type 0) (b : Bool) (o p : Option Dependents) → (IsTrue b → IfSome o P) → IfSome p P → IfSome (cond b o p) P
some_by P true o p here there = here refl
some_by P false o p here there = there

-- that of one level is taken out, or put in
pub levels_changed : (rows : List Row) (key : ℕ) (o : Option Dependents) (old new : BTreeMap ℕ Dependents) → ((q : ℕ) → get nat_cmp new q ≡ cond (is_at (nat_cmp key) q) o (get nat_cmp old q)) → IfSome o (KnowsDependents rows key) → AreKnown rows old → AreKnown rows new
levels_changed rows key o old new changed here are p =
    subst (λ m. IfSome m (KnowsDependents rows p)) (sym (changed p))
    (some_by (KnowsDependents rows p) (is_at (nat_cmp key) p) o (get nat_cmp old p) (λ same. subst (λ k. IfSome o (KnowsDependents rows k)) (same_number key p same) here) (are p))

-- one that was changed in place is taken out
pub level_dropped : (rows : List Row) (key : ℕ) (w : Dependents) (old mid new : BTreeMap ℕ Dependents) → ((q : ℕ) → get nat_cmp mid q ≡ cond (is_at (nat_cmp key) q) (Some w) (get nat_cmp old q)) → ((q : ℕ) → get nat_cmp new q ≡ cond (is_at (nat_cmp key) q) None (get nat_cmp mid q)) → AreKnown rows old → AreKnown rows new
level_dropped rows key w old mid new put taken are =
    levels_changed rows key None old new (λ q. subst (λ o. get nat_cmp new q ≡ cond (is_at (nat_cmp key) q) None o) (put q) (taken q) ∙ cond_on (is_at (nat_cmp key) q) None (Some w) (get nat_cmp old q)) tt are

-- where nothing was put in, all is as it was
pub levels_same : (rows : List Row) (old new : BTreeMap ℕ Dependents) → new.entries ≡ old.entries → AreKnown rows old → AreKnown rows new
levels_same rows old new same are p = subst (λ es. IfSome (lookup (is_at (nat_cmp p)) es) (KnowsDependents rows p)) (sym same) (are p)

-- What is kept of one level holds of it, where what is kept of all levels does.
pub level_told : (rows : List Row) (levels : BTreeMap ℕ Dependents) (p : ℕ) (known : Dependents) → Some known ≡ get nat_cmp levels p → AreKnown rows levels → KnowsDependents rows p known
level_told rows levels p known told are = subst (λ o. IfSome o (KnowsDependents rows p)) (sym told) (are p)
