-- What a child strongly depends on, by what it was given and by what is offered to its name.
use Rattle.std.proofs.Common.{◌≡◌, ℕ, List, [], ◌∷◌, ◌++◌, Bool, true, false, ◌&&◌, Some, IsTrue, filter, map, option_and_then, refl, sym, ◌∙◌, ap, inl, inr}
use Rattle.std.specs.List.{list_any}
use Rattle.std.specs.Str.{bytes_eq}
use Rattle.std.proofs.lemmas.List.Folds.{list_any-append}
use Rattle.std.specs.Cmp.{first_so, second_so}
use Rattle.std.proofs.lemmas.Bool.{or_cases}
use Rattle.cm_names.specs.declared.child.ChildName.{ChildName}
use Rattle.cm_facts.proofs.Booleans.{true_and_false}
use Rattle.cm_decl.specs.declared.decl.Decl.{Decl}
use Rattle.cm_decl.specs.declared.rows.Give.{Give}
use Rattle.cm_decl.specs.declared.rows.Offer.{Offer}
use Rattle.cm_decl.specs.Graph.{is_strong, target_of, child_sources, offers_to}
use Rattle.cm_decl.proofs.lemmas.Sameness.{never}
use Rattle.cm_world.specs.declared.row.Row.{Row}
use Rattle.cm_world.specs.Rows.{decl_of}
use Rattle.cm_world.specs.RowsInside.{name_of}
use Rattle.cm_world.specs.Level.{is_level_node, row_sources, level_sources, is_from_row, LevelStrong}
use Rattle.cm_world.specs.Sound.{IsSound}
use Rattle.cm_trees.specs.Kids.{IsKid}
use Rattle.cm_order.specs.Glances.{is_given_from, is_offered_from}
use Rattle.cm_trees.proofs.trees.Trees.{or_left, or_right, and_pair}
use Rattle.cm_order.proofs.lemmas.names.Sources.{kid_all}
use Rattle.cm_trees.proofs.levels.Nodes.{kid_node}

-- what passes one test passes another, once it was kept and changed
pub any_to : {A B : Type 0} (q : B → Bool) (f : A → B) (t s : A → Bool) → ((x : A) → IsTrue (s x) → IsTrue (t x) × IsTrue (q (f x))) → (xs : List A) → IsTrue (list_any s xs) → IsTrue (list_any q (map f (filter t xs)))
any_to q f t s more [] h = never h
any_to q f t s more (x ∷ xs) h = by (t x) refl (λ later. any_to q f t s more xs later) where
  by : (b : Bool) → t x ≡ b → (IsTrue (list_any s xs) → IsTrue (list_any q (map f (filter t xs)))) → IsTrue (list_any q (map f (filter t (x ∷ xs))))
  by true e rest = rw e (elim (or_cases (s x) (list_any s xs) h) [
    | inl here ↦ or_left (q (f x)) (list_any q (map f (filter t xs))) (more x here).1
    | inr later ↦ or_right (q (f x)) (list_any q (map f (filter t xs))) (rest later)
  ])
  by false e rest = rw e (elim (or_cases (s x) (list_any s xs) h) [
    | inl here ↦ absurd (true_and_false (t x) (more x here).0 e)
    | inr later ↦ rest later
  ])

module _ (rows : List Row) (next : ℕ) (sound : IsSound rows next) (p : ℕ) where
  -- what is given to a child, or offered to its name, is a source of it
  from_strong : (d : Decl) (c : ChildName) (gives : List Give) (x : ℕ) → IsTrue (list_any (is_given_from rows p x) (offers_to d c ++ gives)) → IsTrue (list_any (is_from_row rows p x) (child_sources d c gives))
  from_strong d c gives x any =
      any_to (is_from_row rows p x) (λ (g : Give). g.from) (λ g. is_strong g.dependency) (is_given_from rows p x)
      (λ g comes. (first_so (is_strong g.dependency) (is_from_row rows p x g.from) comes, second_so (is_strong g.dependency) (is_from_row rows p x g.from) comes)) (offers_to d c ++ gives) any

  -- A child that was given what comes from a row has that row among its sources.
  pub from_given : (d : Decl) (c : ChildName) (gives : List Give) (x : ℕ) → IsTrue (list_any (is_given_from rows p x) gives) → IsTrue (list_any (is_from_row rows p x) (child_sources d c gives))
  from_given d c gives x any =
      from_strong d c gives x (list_any-append (is_given_from rows p x) (offers_to d c) gives ∙ or_right (list_any (is_given_from rows p x) (offers_to d c)) (list_any (is_given_from rows p x) gives) any)

  -- A child that is offered what comes from a row has that row among its sources.
  pub from_offered : (d : Decl) (c : ChildName) (gives : List Give) (x : ℕ) → IsTrue (list_any (is_offered_from rows p (target_of c) x) d.offers) → IsTrue (list_any (is_from_row rows p x) (child_sources d c gives))
  from_offered d c gives x any =
      let offers : IsTrue (list_any (is_given_from rows p x) (offers_to d c)) =
      any_to (is_given_from rows p x) (λ (o : Offer). o.give) (λ o. bytes_eq o.to (target_of c)) (is_offered_from rows p (target_of c) x)
      (λ o comes. (first_so (bytes_eq o.to (target_of c)) (is_given_from rows p x o.give) comes, second_so (bytes_eq o.to (target_of c)) (is_given_from rows p x o.give) comes)) d.offers any in
      from_strong d c gives x (list_any-append (is_given_from rows p x) (offers_to d c) gives ∙ or_left (list_any (is_given_from rows p x) (offers_to d c)) (list_any (is_given_from rows p x) gives) offers)

  -- A row with a name has the sources that the child of that name has.
  row_from : (d : Decl) (r : Row) (c : ChildName) (x : ℕ) → r.name ≡ Some c → IsTrue (list_any (is_from_row rows p x) (child_sources d c r.gives)) → IsTrue (list_any (is_from_row rows p x) (row_sources d r))
  row_from d r c x name any = rw name any

  -- A child that has a child row among its sources strongly depends on that row.
  pub strong_edge : (d : Decl) (c : ChildName) (z x : ℕ) (first : IsKid rows p z) → IsTrue (is_level_node rows p x) → Some d ≡ decl_of rows p → Some c ≡ name_of rows z → IsTrue (list_any (is_from_row rows p x) (child_sources d c first.row.gives)) → LevelStrong rows p z x
  strong_edge d c z x first second found named any =
      let name : first.row.name ≡ Some c = sym (named ∙ ap (option_and_then (λ r. r.name)) first.lives) in
      let from : IsTrue (list_any (is_from_row rows p x) (level_sources rows p z)) =
      ap (list_any (is_from_row rows p x)) (kid_all rows next sound p d (sym found) z first) ∙ row_from d first.row c x name any in
      and_pair (list_any (is_from_row rows p x) (level_sources rows p z) && is_level_node rows p z) (is_level_node rows p x)
      (and_pair (list_any (is_from_row rows p x) (level_sources rows p z)) (is_level_node rows p z) from (kid_node rows p z first)) second
