-- What is known of the names that strong gives name, behind each change of the rows.
use Rattle.std.proofs.Common.{◌≡◌, ℕ, ◌+◌, ◌<◌, ◌≤◌, List, [], ◌∷◌, ◌++◌, Bool, true, false, cond, ◌==◌, ◌&&◌, not, true≢false, Option, Some, None, IsTrue, take, length, get_or, is_eq, refl, sym, ap, ◌∙◌, subst}
use Rattle.std.specs.List.{list_all}
use Rattle.std.specs.Ordering.{nat_cmp}
use Rattle.std.specs.BTreeSet.{BTreeSet, contains}
use Rattle.std.proofs.lemmas.Bool.{and_from as and_pair}
use Rattle.std.proofs.lemmas.List.{take_all}
use Rattle.std.proofs.lemmas.List.Folds.{list_all-append, list_all_more}
use Rattle.std.specs.Cmp.{first_so, second_so}
use Rattle.cm_names.specs.declared.child.ChildName.{ChildName}
use Rattle.cm_decl.specs.declared.rows.Child.{Child as DeclaredChild}
use Rattle.cm_decl.specs.declared.rows.Give.{Give}
use Rattle.cm_decl.specs.Same.{same_child}
use Rattle.cm_world.specs.declared.row.Row.{Row}
use Rattle.cm_world.specs.declared.action.Outcome.{Outcome}
use Rattle.cm_world.specs.declared.action.Outcome.TheVariants.{Started, Stopped, Killed}
use Rattle.cm_world.specs.End.{changed, end_row, child_rows}
use Rattle.cm_world.specs.RowsInside.{comes_from, wants_none, IsUnwanted}
use Rattle.cm_table.specs.declared.change.Change.{Change}
use Rattle.cm_table.specs.declared.change.Change.TheVariants.{On, Pending, Closing, Doomed, Shut, End, Resolve}
use Rattle.cm_table.specs.Change.{change_row}
use Rattle.cm_table.specs.ByName.{word_of}
use Rattle.cm_table.specs.Wanted.{has_name, HasNamesOf, HasSourcesOf, KnowsWanted}
use Rattle.cm_table.proofs.lemmas.tree.Leaves.{without}
use Rattle.cm_table.proofs.lemmas.indexes.Words.{apart}

-- Whether what was given to a row wants nothing of this child's name.
abbrev plain : ChildName → Row → Bool
plain c r = wants_none c r.gives

-- ---- single rows

-- The end of an action leaves what was given to a row.
gives_end : (o : Outcome) (r : Row) → (end_row o r).gives ≡ r.gives
gives_end Started r = refl
gives_end Stopped r = refl
gives_end Killed r = refl
gives_end _ r = refl

-- no change changes what a row was given
pub gives_changed : (c : Change) (r : Row) → (change_row c r).gives ≡ r.gives
gives_changed (On on) r = refl
gives_changed (Pending pending) r = refl
gives_changed Closing r = refl
gives_changed Doomed r = refl
gives_changed Shut r = refl
gives_changed (End o) r = gives_end o r
gives_changed (Resolve absolute d) r = refl

-- ---- all rows

-- All rows want nothing of a name behind a change that keeps what was given, if so in the rest.
plain_by : (t : Bool) (c : ChildName) (f : Row → Row) (x : Row) (xs ys : List Row) → (f x).gives ≡ x.gives → list_all (plain c) ys ≡ list_all (plain c) xs → list_all (plain c) (cond t (f x ∷ xs) (x ∷ ys)) ≡ list_all (plain c) (x ∷ xs)
plain_by true c f x xs ys same later = ap (λ gs. wants_none c gs && list_all (plain c) xs) same
plain_by false c f x xs ys same later = ap (λ b. plain c x && b) later

-- Rows want nothing of a name behind a change that keeps what was given exactly as before.
plain_changed : (c : ChildName) (i : ℕ) (f : Row → Row) → ((r : Row) → (f r).gives ≡ r.gives) → (rows : List Row) → list_all (plain c) (changed i f rows) ≡ list_all (plain c) rows
plain_changed c i f same [] = refl
plain_changed c i f same (x ∷ xs) = plain_by (x.inc == i) c f x xs (changed i f xs) (same x) (plain_changed c i f same xs)

-- Where all rows want nothing of a name, all do without one of them.
plain_without : (c : ChildName) (i : ℕ) (rows : List Row) → IsTrue (list_all (plain c) rows) → IsTrue (list_all (plain c) (without i rows))
plain_without c i [] h = h
plain_without c i (x ∷ xs) h = by (x.inc == i) (plain_without c i xs (second_so (plain c x) (list_all (plain c) xs) h)) where
  by : (t : Bool) → IsTrue (list_all (plain c) (without i xs)) → IsTrue (list_all (plain c) (cond t xs (x ∷ without i xs)))
  by true later = second_so (plain c x) (list_all (plain c) xs) h
  by false later = and_pair (plain c x) (list_all (plain c) (without i xs)) (first_so (plain c x) (list_all (plain c) xs) h) later

-- The rows of declared children want nothing of any name.
plain_children : (c : ChildName) (p next : ℕ) (ks : List DeclaredChild) → IsTrue (list_all (plain c) (child_rows p next ks))
plain_children c p next [] = refl
plain_children c p next (k ∷ ks) = plain_children c p (next + 1) ks

-- Where two lists of rows want nothing of a name, both together do.
plain_more : (c : ChildName) (xs ys : List Row) → IsTrue (list_all (plain c) xs) → IsTrue (list_all (plain c) ys) → IsTrue (list_all (plain c) (xs ++ ys))
plain_more c xs ys first second = list_all-append (plain c) xs ys ∙ and_pair (list_all (plain c) xs) (list_all (plain c) ys) first second

-- ---- what is known

-- A set knows what rows want still, where a row is changed, but not in what it was given.
pub known_changed : (set : BTreeSet ℕ) (i : ℕ) (f : Row → Row) → ((r : Row) → (f r).gives ≡ r.gives) → (rows new : List Row) → new ≡ changed i f rows → KnowsWanted rows set → KnowsWanted new set
known_changed set i f same rows new is known = record {
  none = λ c lacks. subst (λ rs. IsUnwanted rs c) (sym is) (plain_changed c i f same rows ∙ known.none c lacks);
}

-- A set knows what rows want still, where a row is taken away.
pub known_without : (set : BTreeSet ℕ) (i : ℕ) (rows new : List Row) → new ≡ without i rows → KnowsWanted rows set → KnowsWanted new set
known_without set i rows new is known = record {
  none = λ c lacks. subst (λ rs. IsUnwanted rs c) (sym is) (plain_without c i rows (known.none c lacks));
}

-- With declared children, which are given nothing, what is known of names is still right.
pub known_grown : (set : BTreeSet ℕ) (i p next : ℕ) (ks : List DeclaredChild) (f : Row → Row) → ((r : Row) → (f r).gives ≡ r.gives) → (rows new : List Row) → new ≡ changed i f rows ++ child_rows p next ks → KnowsWanted rows set → KnowsWanted new set
known_grown set i p next ks f same rows new is known = record {
  none = λ c lacks. subst (λ rs. IsUnwanted rs c) (sym is)
      (plain_more c (changed i f rows) (child_rows p next ks) (plain_changed c i f same rows ∙ known.none c lacks) (plain_children c p next ks));
}

-- With more names in the set, what is known of names is still right.
pub known_wider : (old set : BTreeSet ℕ) (rows new : List Row) → new ≡ rows → HasNamesOf old set → KnowsWanted rows old → KnowsWanted new set
known_wider old set rows new is wider known = record {
  none = λ c lacks. subst (λ rs. IsUnwanted rs c) (sym is) (known.none c (wider c lacks));
}

-- With one row more, whose sources the set has, what is known of names is still right.
pub known_added : (old set : BTreeSet ℕ) (rows new : List Row) (r : Row) (gives : List Give) → new ≡ rows ++ r ∷ [] → r.gives ≡ gives → HasNamesOf old set → HasSourcesOf gives set → KnowsWanted rows old → KnowsWanted new set
known_added old set rows new r gives is own wider sources known = record {
  none = λ c lacks. subst (λ rs. IsUnwanted rs c) (sym is)
      (plain_more c rows (r ∷ []) (known.none c (wider c lacks))
      (and_pair (plain c r) true (subst (λ gs. IsTrue (wants_none c gs)) (sym own) (sources c lacks)) refl));
}

-- ---- sets of names

-- Where neither of two tests passes, the first fails and the second fails.
true_or : (b c : Bool) → cond b true c ≡ false → (b ≡ false) × (c ≡ false)
true_or true c e = absurd (true≢false e)
true_or false c e = (refl, e)

-- a word more
pub put_keeps : (old new : BTreeSet ℕ) (word : ℕ) → ((q : ℕ) → contains nat_cmp new q ≡ cond (is_eq (nat_cmp word q)) true (contains nat_cmp old q)) → HasNamesOf old new
put_keeps old new word puts c lacks = (true_or (is_eq (nat_cmp word (word_of c))) (has_name old c) (sym (puts (word_of c)) ∙ lacks)).1

-- A name that a set doesn't have once a name was put in isn't that one.
pub put_own : (old new : BTreeSet ℕ) (name : ChildName) → ((q : ℕ) → contains nat_cmp new q ≡ cond (is_eq (nat_cmp (word_of name) q)) true (contains nat_cmp old q)) → (c : ChildName) → has_name new c ≡ false → same_child name c ≡ false
put_own old new name puts c lacks = apart name c ((true_or (is_eq (nat_cmp (word_of name) (word_of c))) (has_name old c) (sym (puts (word_of c)) ∙ lacks)).0)

-- A set with the same keys has the names of the other.
pub same_keys : (old new : BTreeSet ℕ) → new.keys ≡ old.keys → HasNamesOf old new
same_keys old new same c lacks = ap (λ ks. has_name (record { keys = ks }) c) (sym same) ∙ lacks

-- ---- the loop over gives

-- New names keep all old ones, and have those of all sources of what is given.
pub record IsWanting (old new : BTreeSet ℕ) (gives : List Give) : Type 0 where
  pub keeps : HasNamesOf old new
  pub sources : HasSourcesOf gives new

-- With the name that the next give comes from, a set has the names that one give more comes from.
pub wanting_more : (old mid new : BTreeSet ℕ) (gives : List Give) (i : ℕ) (g : Give) → i < length gives → g ≡ get_or gives i g → IsWanting old mid (take i gives) → HasNamesOf mid new → ((c : ChildName) → has_name new c ≡ false → comes_from c g ≡ false) → IsWanting old new (take (i + 1) gives)
wanting_more old mid new gives i g low is so_far wider source = record {
  keeps = λ c lacks. so_far.keeps c (wider c lacks);
  sources = λ c lacks.
      list_all_more (λ x. not (comes_from c x)) gives i g low
      ∙ and_pair (wants_none c (take i gives)) (not (comes_from c (get_or gives i g))) (so_far.sources c (wider c lacks))
      (ap not (ap (comes_from c) (sym is) ∙ source c lacks));
}

-- A set that has the names for all gives has those of all children that they strongly come from.
pub wanting_ends : (old new : BTreeSet ℕ) (gives : List Give) (i : ℕ) → length gives ≤ i → IsWanting old new (take i gives) → HasSourcesOf gives new
wanting_ends old new gives i long so_far = subst (λ gs. HasSourcesOf gs new) (take_all i gives long) so_far.sources
