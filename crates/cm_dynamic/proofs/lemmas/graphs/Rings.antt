-- What comes strongly from no child of a collection.
use Rattle.std.proofs.Common.{◌≡◌, ℕ, List, [], ◌∷◌, ◌++◌, Bool, true, false, not, ◌&&◌, true≢false, Option, Some, None, IsTrue, is_some, is_none, filter, map, refl, subst, inl, inr}
use Rattle.std.specs.List.{list_any, list_all}
use Rattle.std.specs.Option.{option_eq}
use Rattle.std.specs.Str.{bytes_eq}
use Rattle.std.proofs.lemmas.Bool.{and_from as and_pair, or_cases}
use Rattle.std.specs.Cmp.{first_so, second_so}
use Rattle.cm_names.specs.declared.child.ChildName.{ChildName}
use Rattle.cm_decl.specs.declared.decl.Decl.{Decl}
use Rattle.cm_decl.specs.declared.origin.Origin.{Origin}
use Rattle.cm_decl.specs.declared.origin.Origin.TheVariants as origin
use Rattle.cm_decl.specs.declared.rows.Usage.{Usage}
use Rattle.cm_decl.specs.declared.node.DynChild.{DynChild}
use Rattle.cm_decl.specs.declared.node.Node.{Node}
use Rattle.cm_decl.specs.declared.node.Node.TheVariants.{Own, Child}
use Rattle.cm_decl.specs.Same.{same_node}
use Rattle.cm_decl.specs.Graph.{is_strong, is_from_child, is_from_node, target_of, offers_to, own_sources}
use Rattle.cm_decl.proofs.lemmas.Sameness.{never, same_node_exact}
use Rattle.cm_dynamic.specs.Apart.{is_from_created, is_plain_give, is_plain_use, NoneOfKind}

-- ---- lists

-- Where the items of two lists all pass a test, those of both lists together do.
pub all_join : {A : Type 0} (p : A → Bool) (xs ys : List A) → IsTrue (list_all p xs) → IsTrue (list_all p ys) → IsTrue (list_all p (xs ++ ys))
all_join p [] ys first second = second
all_join p (x ∷ xs) ys first second =
    and_pair (p x) (list_all p (xs ++ ys)) (first_so (p x) (list_all p xs) first) (all_join p xs ys (second_so (p x) (list_all p xs) first) second)

-- what all pass, those that are kept pass
all_kept : {A B : Type 0} (p : B → Bool) (f : A → B) (t : A → Bool) (xs : List A) → IsTrue (list_all (λ x. p (f x)) xs) → IsTrue (list_all p (map f (filter t xs)))
all_kept p f t [] all = refl
all_kept p f t (x ∷ xs) all = by (t x) refl (all_kept p f t xs (second_so (p (f x)) (list_all (λ x. p (f x)) xs) all)) where
  by : (b : Bool) → t x ≡ b → IsTrue (list_all p (map f (filter t xs))) → IsTrue (list_all p (map f (filter t (x ∷ xs))))
  by true e rest = rw e (and_pair (p (f x)) (list_all p (map f (filter t xs))) (first_so (p (f x)) (list_all (λ x. p (f x)) xs) all) rest)
  by false e rest = rw e rest

-- one that is kept, and what all pass of it
pub record IsKept {A B : Type 0} (q : B → Bool) (f : A → B) (t s : A → Bool) : Type 0 where
  pub item : A
  pub here : IsTrue (q (f item))
  pub passes : IsTrue (t item)
  pub all : IsTrue (s item)

-- Where a kept item passes one test and all items pass another, there is an item that passes both.
pub one_kept : {A B : Type 0} (q : B → Bool) (f : A → B) (t s : A → Bool) (xs : List A) → IsTrue (list_any q (map f (filter t xs))) → IsTrue (list_all s xs) → IsKept q f t s
one_kept q f t s [] any all = never any
one_kept q f t s (x ∷ xs) any all = by (t x) refl (λ later. one_kept q f t s xs later (second_so (s x) (list_all s xs) all)) where
  by : (b : Bool) → t x ≡ b → (IsTrue (list_any q (map f (filter t xs))) → IsKept q f t s) → IsKept q f t s
  by true e rest = elim (or_cases (q (f x)) (list_any q (map f (filter t xs))) (rw e at any)) [
    | inl here ↦ record { item = x; here = here; passes = e; all = first_so (s x) (list_all s xs) all }
    | inr later ↦ rest later
  ]
  by false e rest = rest (rw e at any)

-- ---- nodes that aren't children of collections

-- Whether a node is no child in a collection.
abbrev pub is_static : Node → Bool
is_static Own = true
is_static (Child c) = is_none c.coll

-- What isn't there is none.
none_of : (o : Option (List ℕ)) → is_some o ≡ false → IsTrue (is_none o)
none_of None e = refl
none_of (Some x) e = absurd (true≢false e)

-- No value is both there and not there.
pub some_not_none : {A : Type 0} (o : Option (List ℕ)) → IsTrue (is_some o) → IsTrue (is_none o) → A
some_not_none None some none = never some
some_not_none (Some x) some none = never none

-- Two nodes that compare as the same are the same.
some_node : (n y : Node) → IsTrue (option_eq same_node (Some n) (Some y)) → n ≡ y
some_node n y same = same_node_exact n y same

-- What is strong, and isn't both strong and from such a child, isn't from such a child.
pub unbound : (s : Bool) (from : Bool) → IsTrue s → IsTrue (not (s && from)) → from ≡ false
unbound true true strong plain = never plain
unbound true false strong plain = refl
unbound false from strong plain = never strong

-- A node that a source stands for is no child in a collection, where the source is none.
pub static_source : (y : Node) (from : Origin) → IsTrue (is_from_node y from) → is_from_created from ≡ false → IsTrue (is_static y)
static_source y origin.Own is plain = subst (λ n. IsTrue (is_static n)) (some_node Own y is) refl
static_source y (origin.Child c) is plain = subst (λ n. IsTrue (is_static n)) (some_node (Child c) y is) (none_of c.coll plain)
static_source y origin.Parent is plain = never is
static_source y origin.Framework is plain = never is
static_source y origin.Void is plain = never is

module _ (d : Decl) (dynamic : List DynChild) (apart : NoneOfKind d dynamic) where
  -- What is offered to a child doesn't come strongly from a child in a collection, where nothing does.
  pub plain_offers : (c : ChildName) → IsTrue (list_all is_plain_give (offers_to d c))
  plain_offers c = all_kept is_plain_give (λ o. o.give) (λ o. bytes_eq o.to (target_of c)) d.offers apart.offers

  -- What the component itself strongly uses is from no child in a collection, where nothing is.
  pub own_static : (y : Node) → IsTrue (list_any (is_from_node y) (own_sources d)) → IsTrue (is_static y)
  own_static y any =
      let one : IsKept (is_from_node y) (λ (u : Usage). u.from) (λ u. is_strong u.dependency && is_from_child u.from) is_plain_use =
      one_kept (is_from_node y) (λ u. u.from) (λ u. is_strong u.dependency && is_from_child u.from) is_plain_use d.uses any apart.usages in
      static_source y one.item.from one.here (unbound (is_strong one.item.dependency) (is_from_created one.item.from) (first_so (is_strong one.item.dependency) (is_from_child one.item.from) one.passes) one.all)
