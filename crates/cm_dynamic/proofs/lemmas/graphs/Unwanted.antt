-- A new child that nothing was given from comes from no child of its name.
use Rattle.std.proofs.Common.{◌≡◌, ℕ, List, [], ◌∷◌, Bool, true, false, cond, ◌==◌, not, ◌&&◌, ◌||◌, true≢false, Option, Some, None, IsTrue, is_some, is_eq, map, find, nat_cmp, Equal, refl, sym, ◌∙◌, ap, subst}
use Rattle.std.specs.Prelude.{option_map}
use Rattle.std.specs.Cmp.{nat_cmp_is, first_so, second_so}
use Rattle.std.specs.List.{list_all}
use Rattle.std.specs.Option.{option_map_or}
use Rattle.std.specs.BTreeSet.{BTreeSet}
use Rattle.std.proofs.lemmas.Bool.{and_from as and_pair, or_left, or_right}
use Rattle.cm_names.specs.declared.child.ChildName.{ChildName}
use Rattle.cm_decl.specs.declared.origin.Origin.{Origin}
use Rattle.cm_decl.specs.declared.origin.Origin.TheVariants as origin
use Rattle.cm_decl.specs.declared.rows.Give.{Give}
use Rattle.cm_decl.specs.Graph.{is_strong}
use Rattle.cm_decl.specs.Same.{same_child}
use Rattle.cm_world.specs.declared.row.Row.{Row}
use Rattle.cm_world.specs.Rows.{row_of, child_of}
use Rattle.cm_world.specs.RowsInside.{comes_from, is_child_named, wants_none, IsUnwanted}
use Rattle.cm_world.proofs.lemmas.trees.Finding.{some_same, none_some}
use Rattle.cm_walk.specs.Ahead.{is_in_set}
use Rattle.cm_dynamic.specs.Apart.{is_from_created, binds_created}
use Rattle.cm_dynamic.specs.Onward.{is_past, is_past_from, leads_past, RowLeadsPast, IsOnward}

-- the incarnations of all rows
abbrev all_of : List Row → BTreeSet ℕ
all_of rows = record { keys = map (λ r. r.inc) rows }

-- A number compares as equal to itself.
itself : (n : ℕ) → IsTrue (is_eq (nat_cmp n n))
itself n = sym (ap is_eq (nat_cmp_is n n Equal refl))

-- An incarnation that is found is among those of all rows, row by row.
found_by : (t : Bool) (x : Row) (xs : List Row) (o : Option Row) (i : ℕ) → (option_map (λ r. r.inc) o ≡ Some i → IsTrue (is_in_set (all_of xs) i)) → option_map (λ r. r.inc) (cond t (Some x) o) ≡ Some i → IsTrue (is_in_set (all_of (x ∷ xs)) i)
found_by true x xs o i later e =
    or_left (is_eq (nat_cmp i x.inc)) (is_in_set (all_of xs) i) (subst (λ n. IsTrue (is_eq (nat_cmp i n))) (sym (some_same x.inc i e)) (itself i))
found_by false x xs o i later e = or_right (is_eq (nat_cmp i x.inc)) (is_in_set (all_of xs) i) (later e)

-- a row that is found has an incarnation
in_all : (q : Row → Bool) (rows : List Row) (i : ℕ) → option_map (λ r. r.inc) (find q rows) ≡ Some i → IsTrue (is_in_set (all_of rows) i)
in_all q [] i e = absurd (none_some i e)
in_all q (x ∷ xs) i e = found_by (q x) x xs (find q xs) i (in_all q xs i) e

-- A row that is found passes, row by row.
passes_by : (t : Bool) (q : Row → Bool) (x : Row) (o : Option Row) (r : Row) → IsTrue (q x) → (o ≡ Some r → IsTrue (q r)) → cond t (Some x) o ≡ Some r → IsTrue (q r)
passes_by true q x o r own later e = subst (λ z. IsTrue (q z)) (some_same x r e) own
passes_by false q x o r own later e = later e

-- a row that lives passes what all rows pass
passes : (q : Row → Bool) (rows : List Row) (i : ℕ) (r : Row) → IsTrue (list_all q rows) → row_of rows i ≡ Some r → IsTrue (q r)
passes q [] i r all e = absurd (none_some r e)
passes q (x ∷ xs) i r all e =
    passes_by (x.inc == i) q x (row_of xs i) r (first_so (q x) (list_all q xs) all) (passes q xs i r (second_so (q x) (list_all q xs) all)) e

module _ (rows : List Row) (p : ℕ) (new : ChildName) where
  -- The child of a name, if there is one, is among all rows.
  there : (c : ChildName) (o : Option ℕ) → child_of rows p c ≡ o → IsTrue (option_map_or (is_in_set (all_of rows)) o true)
  there c None e = refl
  there c (Some i) e = in_all _ rows i e

  -- A name that isn't the new one finds what is among all rows and isn't the new one.
  past : (c : ChildName) → IsTrue (not (same_child c new)) → IsTrue (is_past rows p new (all_of rows) c)
  past c other = and_pair (not (same_child c new)) (option_map_or (is_in_set (all_of rows)) (child_of rows p c) true) other (there c (child_of rows p c) refl)

  -- What isn't strong and the same at once leads past, where what isn't the same does.
  leads_by : (s m same later : Bool) → IsTrue (not (s && same)) → (IsTrue (not same) → IsTrue later) → IsTrue (not (s && m) || later)
  leads_by false m same later other rest = refl
  leads_by true true same later other rest = rest other
  leads_by true false same later other rest = refl

  -- A give that doesn't come strongly from the new name leads past it, by its source.
  leads : (g : Give) (o : Origin) → IsTrue (not (is_strong g.dependency && is_child_named new o)) → IsTrue (not (is_strong g.dependency && is_from_created o) || is_past_from rows p new (all_of rows) o)
  leads g (origin.Child c) other = leads_by (is_strong g.dependency) (is_some c.coll) (same_child c new) (is_past rows p new (all_of rows) c) other (past c)
  leads g origin.Own other = or_right (not (is_strong g.dependency && false)) true refl
  leads g origin.Parent other = or_right (not (is_strong g.dependency && false)) true refl
  leads g origin.Framework other = or_right (not (is_strong g.dependency && false)) true refl
  leads g origin.Void other = or_right (not (is_strong g.dependency && false)) true refl

  -- Where no give comes from the new name, all of them lead past it.
  all_lead : (gs : List Give) → IsTrue (wants_none new gs) → IsTrue (list_all (leads_past rows p new (all_of rows)) gs)
  all_lead [] all = refl
  all_lead (g ∷ gs) all =
      and_pair (leads_past rows p new (all_of rows) g) (list_all (leads_past rows p new (all_of rows)) gs)
      (leads g g.from (first_so (not (comes_from new g)) (wants_none new gs) all))
      (all_lead gs (second_so (not (comes_from new g)) (wants_none new gs) all))

  -- where nothing that was given comes from a child of the new name, all rows lead past it
  pub unwanted_onward : (gives : List Give) → IsTrue (wants_none new gives) → IsUnwanted rows new → IsOnward rows p new gives
  unwanted_onward gives own unwanted = (
    all_of rows,
    record {
      own = all_lead gives own;
      each = λ i there r lives. all_lead r.gives (passes (λ x. wants_none new x.gives) rows i r unwanted lives);
    },
  )
