-- Trees that agree on the line of a row register the same for it.
use Rattle.std.proofs.Common.{◌≡◌, ℕ, zero, suc, ◌<◌, List, [], ◌∷◌, Bool, ◌==◌, Option, Some, None, IsTrue, IsSome, length, drop, find, option_and_then, refl, sym, ◌∙◌, ap, subst, arith}
use Rattle.std.specs.List.{list_any}
use Rattle.std.specs.Str.{bytes_eq}
use Rattle.std.specs.Cmp.{unsigned_Decides}
use Rattle.std.proofs.lemmas.Bool.{or_left, or_right}
use Rattle.cm_names.specs.declared.child.ChildName.{ChildName}
use Rattle.cm_facts.proofs.Numbers.{lt_of_lt_suc}
use Rattle.cm_facts.proofs.Options.{is_some_true}
use Rattle.cm_facts.proofs.Lists.{cons_first}
use Rattle.cm_decl.specs.declared.decl.Decl.{Decl}
use Rattle.cm_world.specs.declared.row.Row.{Row}
use Rattle.cm_world.specs.Rows.{row_of, is_live, decl_of, line_from, line_of}
use Rattle.cm_world.specs.RowsInside.{name_of}
use Rattle.cm_world.specs.Sound.{Lives, IsOrderly, IsParent}
use Rattle.cm_world.proofs.lemmas.trees.Climbing.{rank, rank-less, rank-within, line_of-step, line_root}
use Rattle.cm_world.proofs.lemmas.trees.Finding.{some_same, none_some}
use Rattle.cm_env.specs.declared.scope.Which.{Which}
use Rattle.cm_env.specs.Scope.{Scope, scope_named, scope_below, scope_to, scope_of, registered}
use Rattle.cm_env.specs.Agreeing.{AgreeAbove, IsAtOrAbove, IsAbove, AgreeingRegister}

-- ---- lists

-- Where an item behind the first one passes a test, an item of the list passes it.
any_tail : (p : ℕ → Bool) (xs : List ℕ) → IsTrue (list_any p (drop 1 xs)) → IsTrue (list_any p xs)
any_tail p [] h = h
any_tail p (x ∷ xs) h = or_right (p x) (list_any p xs) h

-- Lists that are the same with an item before each are the same without them.
same_tail : (x y : ℕ) (xs ys : List ℕ) → x ∷ xs ≡ y ∷ ys → xs ≡ ys
same_tail x y xs ys e = cc

-- ---- lines

-- In orderly rows, the row that a living row has as its parent is its parent.
parent_of : (rows : List Row) (next i p : ℕ) (r : Row) → IsOrderly rows next → Lives rows i r → r.parent ≡ Some p → IsParent rows p i
parent_of rows next i p r orderly here above = (orderly.parents i p r here above).0

-- the line of a row is the row, and the line of its parent
line_up : (rows : List Row) (next i p : ℕ) (r : Row) → IsOrderly rows next → Lives rows i r → r.parent ≡ Some p → line_of rows i ≡ i ∷ line_of rows p
line_up rows next i p r orderly here above =
    line_of-step rows next i r orderly here ∙ ap (λ o. i ∷ line_from (length rows) rows o) above

-- The line of the root is the root alone.
line_top : (rows : List Row) (next i : ℕ) (r : Row) → IsOrderly rows next → Lives rows i r → r.parent ≡ None → line_of rows i ≡ i ∷ []
line_top rows next i r orderly here above =
    line_of-step rows next i r orderly here ∙ ap (λ o. i ∷ line_from (length rows) rows o) above
    ∙ ap (λ l. i ∷ l) (line_root (length rows) rows)

-- ---- what agrees further up

-- A row that lives in two orderly trees and has the same line in both has the same parent.
same_parents : (rows others : List Row) (next later i : ℕ) (r s : Row) (o q : Option ℕ) → IsOrderly rows next → IsOrderly others later → Lives rows i r → Lives others i s → r.parent ≡ o → s.parent ≡ q → line_of rows i ≡ line_of others i → o ≡ q
same_parents rows others next later i r s None None orderly well here there above over same = refl
same_parents rows others next later i r s None (Some q) orderly well here there above over same =
    let parent : IsParent others q i = parent_of others later i q s well there over in
    let low : i ∷ [] ≡ i ∷ line_of others q = sym (line_top rows next i r orderly here above) ∙ same ∙ line_up others later i q s well there over in
    let high : line_of others q ≡ q ∷ line_from (length others) others parent.row.parent = line_of-step others later q parent.row well parent.lives in
    absurd cc
same_parents rows others next later i r s (Some p) None orderly well here there above over same =
    let parent : IsParent rows p i = parent_of rows next i p r orderly here above in
    let low : i ∷ line_of rows p ≡ i ∷ [] = sym (line_up rows next i p r orderly here above) ∙ same ∙ line_top others later i s well there over in
    let high : line_of rows p ≡ p ∷ line_from (length rows) rows parent.row.parent = line_of-step rows next p parent.row orderly parent.lives in
    absurd cc
same_parents rows others next later i r s (Some p) (Some q) orderly well here there above over same =
    let one : IsParent rows p i = parent_of rows next i p r orderly here above in
    let other : IsParent others q i = parent_of others later i q s well there over in
    let lines : line_of rows p ≡ line_of others q =
    same_tail i i (line_of rows p) (line_of others q)
    (sym (line_up rows next i p r orderly here above) ∙ same ∙ line_up others later i q s well there over) in
    ap Some
    (cons_first p q (line_from (length rows) rows one.row.parent) (line_from (length others) others other.row.parent)
    (sym (line_of-step rows next p one.row orderly one.lives) ∙ lines ∙ line_of-step others later q other.row well other.lives))

-- Trees that agree above a row agree above its parent, where it has the same one in both.
agree_up : (rows others : List Row) (next later i p : ℕ) (r s : Row) → IsOrderly rows next → IsOrderly others later → Lives rows i r → Lives others i s → r.parent ≡ Some p → s.parent ≡ Some p → AgreeAbove rows others i → AgreeAbove rows others p
agree_up rows others next later i p r s orderly well here there above over agree =
    let prefix : line_of rows i ≡ i ∷ line_of rows p = line_up rows next i p r orderly here above in
    let back : line_of others i ≡ i ∷ line_of others p = line_up others later i p s well there over in
    record {
      line = same_tail i i (line_of rows p) (line_of others p) (sym prefix ∙ agree.line ∙ back);
      names = λ j at. agree.names j (subst (λ l. IsTrue (list_any (λ k. k == j) l)) (sym prefix) (or_right (i == j) (list_any (λ k. k == j) (line_of rows p)) at));
      decls = λ j at. agree.decls j (subst (λ l. IsTrue (list_any (λ k. k == j) (drop 1 l))) (sym prefix) (any_tail (λ k. k == j) (line_of rows p) at));
    }

-- The parent of a row in an orderly tree is above it.
parent_above : (rows : List Row) (next i p : ℕ) (r : Row) → IsOrderly rows next → Lives rows i r → r.parent ≡ Some p → IsAbove rows i p
parent_above rows next i p r orderly here above =
    let parent : IsParent rows p i = parent_of rows next i p r orderly here above in
    let prefix : line_of rows i ≡ i ∷ line_of rows p = line_up rows next i p r orderly here above in
    let own : line_of rows p ≡ p ∷ line_from (length rows) rows parent.row.parent = line_of-step rows next p parent.row orderly parent.lives in
    subst (λ l. IsTrue (list_any (λ k. k == p) (drop 1 l))) (sym prefix)
    (subst (λ l. IsTrue (list_any (λ k. k == p) l)) (sym own)
    (or_left (p == p) (list_any (λ k. k == p) (line_from (length rows) rows parent.row.parent)) ((unsigned_Decides p p).1 refl)))

-- A row that lives in orderly rows is at or above itself.
row_at : (rows : List Row) (next i : ℕ) (r : Row) → IsOrderly rows next → Lives rows i r → IsAtOrAbove rows i i
row_at rows next i r orderly here =
    subst (λ l. IsTrue (list_any (λ k. k == i) l)) (sym (line_of-step rows next i r orderly here))
    (or_left (i == i) (list_any (λ k. k == i) (line_from (length rows) rows r.parent)) ((unsigned_Decides i i).1 refl))

-- Trees that agree above a row give it the same name.
same_names : (rows others : List Row) (next i : ℕ) (r s : Row) → IsOrderly rows next → Lives rows i r → Lives others i s → AgreeAbove rows others i → r.name ≡ s.name
same_names rows others next i r s orderly here there agree =
    sym (ap (option_and_then (λ (x : Row). x.name)) here) ∙ agree.names i (row_at rows next i r orderly here) ∙ ap (option_and_then (λ (x : Row). x.name)) there

-- ---- scopes

-- What a row finds is the same in two trees, where name, parent's declaration and scope are.
below_by : (which : Which) (rows others : List Row) (r s : Row) (above over : Scope) (p : ℕ) → r.parent ≡ Some p → s.parent ≡ Some p → r.name ≡ s.name → decl_of rows p ≡ decl_of others p → above ≡ over → scope_below which rows r above ≡ scope_below which others s over
below_by which rows others r s above over p e f names decls scopes =
    ap (λ o. elim o as (λ _. Scope) [ None ↦ [] | Some q ↦ scope_named which q above (decl_of rows q) r.name ]) e
    ∙ ap (λ a. scope_named which p a (decl_of rows p) r.name) scopes
    ∙ ap (λ d. scope_named which p over d r.name) decls
    ∙ ap (λ n. scope_named which p over (decl_of others p) n) names
    ∙ sym (ap (λ o. elim o as (λ _. Scope) [ None ↦ [] | Some q ↦ scope_named which q over (decl_of others q) s.name ]) f)

-- A row without a parent finds nothing registered.
top_by : (which : Which) (rows : List Row) (r : Row) (above : Scope) → r.parent ≡ None → scope_below which rows r above ≡ []
top_by which rows r above e = ap (λ o. elim o as (λ _. Scope) [ None ↦ [] | Some q ↦ scope_named which q above (decl_of rows q) r.name ]) e

-- What a row that lives finds, by some rows upwards, is by what its parent finds by one row less.
pub opened : (which : Which) (rows : List Row) (n i : ℕ) (r : Row) → Lives rows i r → scope_to (suc n) which rows (Some i) ≡ scope_below which rows r (scope_to n which rows r.parent)
opened which rows n i r here =
    ap (λ o. elim o as (λ _. Scope) [ None ↦ [] | Some x ↦ scope_below which rows x (scope_to n which rows x.parent) ]) here

-- the rest of a proof by fewer rows
abbrev pub Fewer : Which → List Row → List Row → ℕ → ℕ → Type 0
Fewer which rows others n m =
    (p : ℕ) (r s : Row) → Lives rows p r → Lives others p s → rank rows p < n → rank others p < m → AgreeAbove rows others p
    → scope_to n which rows (Some p) ≡ scope_to m which others (Some p)

-- Trees that agree above a row let it find the same, where they do so for fewer rows.
scope_by : (which : Which) (rows others : List Row) (next later n m i : ℕ) (r s : Row) → IsOrderly rows next → IsOrderly others later → Lives rows i r → Lives others i s → rank rows i < suc n → rank others i < suc m → AgreeAbove rows others i → Fewer which rows others n m → (o : Option ℕ) → r.parent ≡ o → scope_below which rows r (scope_to n which rows r.parent) ≡ scope_below which others s (scope_to m which others s.parent)
scope_by which rows others next later n m i r s orderly well here there low high agree rest None e =
    let f : s.parent ≡ None = sym (same_parents rows others next later i r s None s.parent orderly well here there e refl agree.line) in
    top_by which rows r (scope_to n which rows r.parent) e ∙ sym (top_by which others s (scope_to m which others s.parent) f)
scope_by which rows others next later n m i r s orderly well here there low high agree rest (Some p) e =
    let f : s.parent ≡ Some p = sym (same_parents rows others next later i r s (Some p) s.parent orderly well here there e refl agree.line) in
    let one : IsParent rows p i = parent_of rows next i p r orderly here e in
    let other : IsParent others p i = parent_of others later i p s well there f in
    let above : scope_to n which rows (Some p) ≡ scope_to m which others (Some p) =
    rest p one.row other.row one.lives other.lives
    (lt_of_lt_suc (rank rows p) (rank rows i) n (rank-less rows p i one.row one.lower one.lives) low)
    (lt_of_lt_suc (rank others p) (rank others i) m (rank-less others p i other.row other.lower other.lives) high)
    (agree_up rows others next later i p r s orderly well here there e f agree) in
    below_by which rows others r s (scope_to n which rows r.parent) (scope_to m which others s.parent) p e f
    (same_names rows others next i r s orderly here there agree)
    (agree.decls p (parent_above rows next i p r orderly here e))
    (ap (scope_to n which rows) e ∙ above ∙ sym (ap (scope_to m which others) f))

-- Rows find the same by their lines in trees that agree on all above them.
pub scope_same : (which : Which) (rows others : List Row) (next later n m : ℕ) → IsOrderly rows next → IsOrderly others later → Fewer which rows others n m
scope_same which rows others next later zero m orderly well i r s here there low high agree = absurd (omega arith)
scope_same which rows others next later (suc n) zero orderly well i r s here there low high agree = absurd (omega arith)
scope_same which rows others next later (suc n) (suc m) orderly well i r s here there low high agree =
    opened which rows n i r here
    ∙ scope_by which rows others next later n m i r s orderly well here there low high agree (scope_same which rows others next later n m orderly well) r.parent refl
    ∙ sym (opened which others m i s there)

-- In trees that agree on all above a row, it finds the same registered.
pub agreeing : AgreeingRegister
agreeing rows others next later i which name orderly well live lives agree =
    let here : (r : Row) × (row_of rows i ≡ Some r) = is_some_true (row_of rows i) live in
    let there : (s : Row) × (row_of others i ≡ Some s) = is_some_true (row_of others i) lives in
    ap (find (λ s. bytes_eq s.1.target name))
    (scope_same which rows others next later (length rows) (length others) orderly well i here.0 there.0 here.1 there.1
    (rank-within rows i here.0 here.1) (rank-within others i there.0 there.1) agree)
