-- Inside.
-- What a quick look at a level comes to. It asks only for what nothing that isn't shut depends on by
-- strong edges, and where it says nothing the whole search decides. `p` is the instance whose level it
-- is.
use Rattle.std.specs.Prelude.{◌≡◌, ◌≢◌, ◌==◌, ℕ, List, Bool, false, ◌&&◌, Option, Some, None, IsTrue}
use Rattle.std.specs.Prelude.{◌⊎◌, [], unwrap_or}
use Rattle.std.specs.List.{list_any}
use Rattle.std.specs.Str.{bytes_eq}
use Rattle.std.specs.Ordering.{nat_cmp}
use Rattle.std.specs.Cmp.Lexicographic.{slice_cmp}
use Rattle.std.specs.BTreeMap.{BTreeMap, get}
use Rattle.std.specs.BTreeSet.{BTreeSet, contains}
use Rattle.cm_names.specs.declared.child.ChildName.{ChildName}
use Rattle.cm_names.specs.declared.dependency.Dependency.{Dependency}
use Rattle.cm_decl.specs.declared.decl.Decl.{Decl}
use Rattle.cm_decl.specs.declared.origin.Origin.{Origin}
use Rattle.cm_decl.specs.declared.rows.Give.{Give}
use Rattle.cm_decl.specs.declared.rows.Offer.{Offer}
use Rattle.cm_decl.specs.declared.rows.Usage.{Usage}
use Rattle.cm_decl.specs.Graph.{is_strong, is_from_child, target_of}
use Rattle.cm_world.specs.declared.row.Row.{Row}
use Rattle.cm_world.specs.Rows.{decl_of, is_subtree_shut}
use Rattle.cm_world.specs.Level.{is_from_row, LevelStrong}
use Rattle.cm_world.specs.Stopping.{is_wholly_shut, IsFree}
use Rattle.cm_order.specs.declared.dependents.Dependents.{Dependents}
use Rattle.cm_order.specs.declared.search.SearchGoal.TheVariants.{Idle}
use Rattle.cm_order.specs.declared.search.VisitResult.{VisitResult}
use Rattle.cm_order.specs.declared.search.VisitResult.TheVariants.{Here, Below}
use Rattle.cm_trees.specs.Kids.{IsKid}
use Rattle.cm_order.specs.Search.{IsHere, IsFound}

-- ---- sets and lists of rows

-- whether a row is in a set
abbrev pub is_in_set : BTreeSet ℕ → ℕ → Bool
is_in_set set x = contains nat_cmp set x

-- whether a row is in a list
abbrev pub is_in_list : List ℕ → ℕ → Bool
is_in_list list x = list_any (λ y. y == x) list

-- whether a row is in the list that a map has for another
abbrev pub is_client : BTreeMap ℕ (List ℕ) → ℕ → ℕ → Bool
is_client clients x z = is_in_list (unwrap_or (get nat_cmp clients x) []) z

-- nothing was taken out of the lists of a map
abbrev pub ClientsGrow : BTreeMap ℕ (List ℕ) → BTreeMap ℕ (List ℕ) → Type 0
ClientsGrow old new = (x z : ℕ) → IsTrue (is_client old x z) → IsTrue (is_client new x z)

-- whether a row is in the list that a map has for a name
abbrev pub is_offered : BTreeMap (List ℕ) (List ℕ) → List ℕ → ℕ → Bool
is_offered offered name x = is_in_list (unwrap_or (get (slice_cmp nat_cmp) offered name) []) x

-- nothing was taken out of the lists that a map has for names
abbrev pub OfferedGrow : BTreeMap (List ℕ) (List ℕ) → BTreeMap (List ℕ) (List ℕ) → Type 0
OfferedGrow old new =
    (name : List ℕ) (x : ℕ) → IsTrue (is_offered old name x) → IsTrue (is_offered new name x)

-- ---- what strong edges lead to

-- whether something with this dependency and source comes strongly from row x of p's level
abbrev pub is_strong_from : List Row → ℕ → ℕ → Dependency → Origin → Bool
is_strong_from rows p x dependency from = is_strong dependency && is_from_row rows p x from

-- whether a give comes strongly from row x of p's level
abbrev pub is_given_from : List Row → ℕ → ℕ → Give → Bool
is_given_from rows p x g = is_strong_from rows p x g.dependency g.from

-- whether an offer is to this name and comes strongly from row x of p's level
abbrev pub is_offered_from : List Row → ℕ → List ℕ → ℕ → Offer → Bool
is_offered_from rows p name x o = bytes_eq o.to name && is_given_from rows p x o.give

-- whether a use comes strongly from row x of p's level
abbrev pub is_used_from : List Row → ℕ → ℕ → Usage → Bool
is_used_from rows p x u = is_strong_from rows p x u.dependency u.from

-- whether a use comes strongly from row x of p's level, a child row
abbrev pub is_used_of : List Row → ℕ → ℕ → Usage → Bool
is_used_of rows p x u = is_from_child u.from && is_used_from rows p x u

-- each row but p from which one of these comes is put
abbrev pub HasSources : {A : Type 0} → ℕ → (ℕ → A → Bool) → List A → (ℕ → Bool) → Type 0
HasSources p comes_from xs is_put =
    (x : ℕ) → x ≢ p → IsTrue (list_any (comes_from x) xs) → IsTrue (is_put x)

-- a map has for each name each row but p from which an offer to it strongly comes
abbrev pub HasOffered : List Row → ℕ → List Offer → BTreeMap (List ℕ) (List ℕ) → Type 0
HasOffered rows p offers offered =
    (name : List ℕ) → HasSources p (is_offered_from rows p name) offers (is_offered offered name)

-- row w is in the list of each row but p on which it strongly depends
abbrev pub HasNext : List Row → ℕ → BTreeMap ℕ (List ℕ) → ℕ → Type 0
HasNext rows p clients w = (x : ℕ) → x ≢ p → LevelStrong rows p w x → IsTrue (is_client clients x w)

-- what a child depends on, by what it was given and by the offers to its name, has it in its list
pub record IsPut (rows : List Row) (p : ℕ) (offered : BTreeMap (List ℕ) (List ℕ))
    (clients : BTreeMap ℕ (List ℕ)) (c : ℕ) (r : Row) : Type 0 where
  pub given : HasSources p (is_given_from rows p) r.gives (λ x. is_client clients x c)
  pub offers : (name : ChildName) (x : ℕ) → r.name ≡ Some name
      → IsTrue (is_offered offered (target_of name) x) → IsTrue (is_client clients x c)

-- row w strongly depends on each row from which one of these comes
abbrev pub AreStrong : {A : Type 0} → List Row → ℕ → (ℕ → A → Bool) → List A → ℕ → Type 0
AreStrong rows p comes_from xs w = (x : ℕ) → IsTrue (list_any (comes_from x) xs) → LevelStrong rows p w x

-- each row in the list of another strongly depends on it
abbrev pub AreClients : List Row → ℕ → BTreeMap ℕ (List ℕ) → Type 0
AreClients rows p clients = (x z : ℕ) → IsTrue (is_client clients x z) → LevelStrong rows p z x

-- a map has for a name only rows from which an offer of p to that name strongly comes
abbrev pub AreOffered : List Row → ℕ → BTreeMap (List ℕ) (List ℕ) → Type 0
AreOffered rows p offered = (name : List ℕ) (x : ℕ) → IsTrue (is_offered offered name x)
    → (d : Decl) → decl_of rows p ≡ Some d → IsTrue (list_any (is_offered_from rows p name x) d.offers)

-- ---- what is known of a level

-- row z is wholly shut, and so is all that depends on it
pub record IsCleared (rows : List Row) (p z : ℕ) : Type 0 where
  pub free : IsFree rows p z
  pub shut : IsTrue (is_wholly_shut rows p z)

-- what strongly depends on a row other than p is in its list, unless it is cleared
abbrev pub HasClients : List Row → ℕ → Dependents → Type 0
HasClients rows p known =
    (z x : ℕ) → x ≢ p → LevelStrong rows p z x
    → IsTrue (is_client known.edges.clients x z) ⊎ IsTrue (is_in_set known.cleared z)

-- what strongly depends on a cleared row other than p is cleared
abbrev pub HasClearedClients : List Row → ℕ → Dependents → Type 0
HasClearedClients rows p known =
    (z x : ℕ) → x ≢ p → LevelStrong rows p z x → IsTrue (is_in_set known.cleared x)
    → IsTrue (is_in_set known.cleared z)

-- the lists have all clients that aren't cleared, and no other row; what is said to be cleared is, and so
-- are its clients
pub record KnowsDependents (rows : List Row) (p : ℕ) (known : Dependents) : Type 0 where
  pub clients : HasClients rows p known
  pub strong : AreClients rows p known.edges.clients
  pub closed : HasClearedClients rows p known
  pub cleared : (z : ℕ) → IsTrue (is_in_set known.cleared z) → IsCleared rows p z

-- ---- one look

-- a child row that is free at the level of p
pub record IsFreeKid (rows : List Row) (p c : ℕ) : Type 0 where
  pub kid : IsKid rows p c
  pub free : IsFree rows p c

-- the look chose a child that is free, or says nothing
abbrev pub IsChosen : List Row → ℕ → Option ℕ → Type 0
IsChosen rows p None = Unit {0}
IsChosen rows p (Some c) = IsFreeKid rows p c

-- each child row of p is shut with all below it
abbrev pub AreKidsShut : List Row → ℕ → Type 0
AreKidsShut rows p = (c : ℕ) → IsKid rows p c → IsTrue (is_subtree_shut rows c)

-- some child row of p isn't shut with all below it
pub record HasKidLeft (rows : List Row) (p : ℕ) : Type 0 where
  pub child : ℕ
  pub kid : IsKid rows p child
  pub unshut : is_subtree_shut rows child ≡ false

-- what a look at the level of p comes to: p itself may stop, or a child is free, or nothing is said
abbrev pub IsGlance : List Row → ℕ → VisitResult → Type 0
IsGlance rows p Here = IsHere rows Idle (record { inc = p; behind = None })
IsGlance rows p (Below child) = IsChosen rows p child

-- ---- the way down

-- what quick looks on the way down come to: a row below the top that may be picked, or nothing is said
abbrev pub IsQuick : List Row → ℕ → Option ℕ → Type 0
IsQuick rows top None = Unit {0}
IsQuick rows top (Some y) = IsFound rows top Idle y
