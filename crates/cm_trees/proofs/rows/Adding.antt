-- A child that is added.
use Rattle.std.proofs.Common.{◌≡◌, ℕ, ◌+◌, List, [], ◌∷◌, ◌++◌, Bool, true, false, cond, not, ◌&&◌, ◌==◌, nat_eq, true≢false, Option, Some, None, IsSome, IsTrue, find, is_some, refl, sym, ◌∙◌, ap, subst}
use Rattle.std.specs.Prelude.{option_and_then}
use Rattle.std.specs.Option.{option_eq}
use Rattle.std.specs.Cmp.{unsigned_Decides}
use Rattle.cm_names.specs.declared.child.ChildName.{ChildName}
use Rattle.cm_facts.proofs.Options.{option_map_none}
use Rattle.cm_decl.specs.declared.rows.Give.{Give}
use Rattle.cm_decl.specs.declared.node.Node.TheVariants.{Child}
use Rattle.cm_decl.specs.Same.{same_child}
use Rattle.cm_decl.proofs.lemmas.Sameness.{same_node-refl}
use Rattle.cm_world.specs.declared.row.Row.{Row}
use Rattle.cm_world.specs.Rows.{row_of, is_resolved, child_of}
use Rattle.cm_world.specs.World.{new_row}
use Rattle.cm_world.specs.Sound.{IsOrderly}
use Rattle.cm_world.proofs.lemmas.trees.Finding.{some_same, none_some}
use Rattle.cm_trees.proofs.rows.Growth.{Joins, orderly_push}
use Rattle.cm_trees.specs.Reading.{is_there}

-- Where a declaration is read of a row, that row is there and has one.
pub resolved_by : (o : Option Row) → is_some (option_and_then (λ r. r.decl) o) ≡ true → (q : Row) × (o ≡ Some q) × IsSome q.decl
resolved_by None h = absurd (true≢false (sym h))
resolved_by (Some q) h = (q, refl, h)

-- What is found by another test fails one that finds nothing, if so in the rest.
missed_by : (t u : Bool) (p q : Row → Bool) (x s : Row) (o r : Option Row) → p x ≡ t → (o ≡ None → r ≡ Some s → p s ≡ false) → cond t (Some x) o ≡ None → cond u (Some x) r ≡ Some s → p s ≡ false
missed_by true u p q x s o r here later none e = absurd (none_some x (sym none))
missed_by false true p q x s o r here later none e = subst (λ z. p z ≡ false) (some_same x s e) here
missed_by false false p q x s o r here later none e = later none e

-- what is found by another test fails one that finds nothing
pub missed : (p q : Row → Bool) (xs : List Row) (s : Row) → find p xs ≡ None → find q xs ≡ Some s → p s ≡ false
missed p q [] s none e = absurd (none_some s e)
missed p q (x ∷ xs) s none e = missed_by (p x) (q x) p q x s (find p xs) (find q xs) refl (missed p q xs s) none e

-- A row that passes two tests and isn't doomed passes all three.
tests_by : (a b : Bool) → a ≡ true → b ≡ true → (a && b && not false) ≡ true
tests_by true true x y = refl
tests_by true false x y = y
tests_by false b x y = x

-- Whether a row is a child of that parent and name, and isn't doomed, told by its parts.
there_by : ℕ → ChildName → Option ℕ → Option ChildName → Bool → Bool
there_by p c parent name doomed = option_eq nat_eq parent (Some p) && option_eq same_child name (Some c) && not doomed

-- a row with that parent and that name which isn't doomed is the child of that name
is_there_by : (p : ℕ) (c : ChildName) (s : Row) → s.doomed ≡ false → s.parent ≡ Some p → s.name ≡ Some c → is_there p c s ≡ true
unfolding there_by
is_there_by p c s doomed up named =
    ap (λ o. there_by p c o s.name s.doomed) up
    ∙ ap (λ o. there_by p c (Some p) o s.doomed) named
    ∙ ap (λ b. there_by p c (Some p) (Some c) b) doomed
    ∙ tests_by (nat_eq p p) (same_child c c) ((unsigned_Decides p p).1 refl) (same_node-refl (Child c))

-- A new row under a resolved one, with a name that no other has there, may join the rows.
pub added_joins : (rows : List Row) (next p : ℕ) (c : ChildName) (url : List ℕ) (gives : List Give) → IsTrue (is_resolved rows p) → child_of rows p c ≡ None → Joins rows next (new_row next (Some p) (Some c) url gives)
added_joins rows next p c url gives resolved unused =
    let q : (q : Row) × (row_of rows p ≡ Some q) × IsSome q.decl = resolved_by (row_of rows p) resolved in
    let none : find (is_there p c) rows ≡ None = option_map_none (λ (r : Row). r.inc) (find (is_there p c) rows) unused in
    record {
      parent = p;
      under = refl;
      row = q.0;
      lives = q.1;
      resolved = q.2;
      named = refl;
      undeclared = refl;
      unused = λ j s here doomed up same. true≢false (sym (is_there_by p c s doomed up same) ∙ missed (is_there p c) (λ r. r.inc == j) rows s none here);
      number = refl;
    }

-- rows stay orderly with the new child behind them
pub orderly_added : (rows : List Row) (next p : ℕ) (c : ChildName) (url : List ℕ) (gives : List Give) → IsOrderly rows next → IsTrue (is_resolved rows p) → child_of rows p c ≡ None → IsOrderly (rows ++ new_row next (Some p) (Some c) url gives ∷ []) (next + 1)
orderly_added rows next p c url gives o resolved unused =
    orderly_push rows next (new_row next (Some p) (Some c) url gives) o (added_joins rows next p c url gives resolved unused)
