-- Inside.
-- Whether something still needs a child, by the lists of its level. `p` is the instance whose level it is.
use Rattle.std.specs.Prelude.{◌≡◌, ℕ, ◌+◌, ◌<◌, List, [], ◌∷◌, length, filter, Bool, true, false, not, ◌&&◌}
use Rattle.std.specs.Prelude.{Option, Some, None, IsTrue, ◌⊎◌}
use Rattle.std.specs.BTreeSet.{BTreeSet}
use Rattle.cm_decl.specs.Reach.{Reaches}
use Rattle.cm_decl.specs.RealmGraph.{Depends}
use Rattle.cm_world.specs.declared.row.Row.{Row}
use Rattle.cm_world.specs.Rows.{is_shut}
use Rattle.cm_world.specs.Level.{level, LevelStrong}
use Rattle.cm_world.specs.Stopping.{is_wholly_shut, IsFree}
use Rattle.cm_order.specs.declared.dependents.Dependents.{Dependents}
use Rattle.cm_order.specs.declared.clearing.ListEnd.{ListEnd}
use Rattle.cm_order.specs.declared.standing.ChildStanding.{ChildStanding}
use Rattle.cm_order.specs.declared.standing.ChildStanding.TheVariants.{Free, Bound, ByOwn}
use Rattle.cm_order.specs.declared.standing.ClientLook.{ClientLook}
use Rattle.cm_order.specs.declared.standing.ClientLook.TheVariants as look
use Rattle.cm_trees.specs.Kids.{IsKid}
use Rattle.cm_order.specs.Levels.{EachOfList}
use Rattle.cm_order.specs.Search.{IsFreeAt}
use Rattle.cm_order.specs.Glances.{is_in_list, is_in_set, is_client}

-- ---- one list

-- no row is in the list of this one
abbrev pub HasNoClient : Dependents → ℕ → Type 0
HasNoClient known x = (z : ℕ) → is_client known.edges.clients x z ≡ false

-- what is left at the end of a list: nothing at all, or a row that isn't cleared
abbrev pub IsLastLeft : BTreeSet ℕ → List ℕ → Option ℕ → Type 0
IsLastLeft cleared list None = list ≡ []
IsLastLeft cleared list (Some z) = IsTrue (is_in_list list z) × (is_in_set cleared z ≡ false)

-- what is left of a list once what is cleared at its end is taken out
pub record IsListEnd (cleared : BTreeSet ℕ) (old : List ℕ) (end : ListEnd) : Type 0 where
  pub last : IsLastLeft cleared end.list end.last
  pub left : (z : ℕ) → IsTrue (is_in_list old z)
      → IsTrue (is_in_list end.list z) ⊎ IsTrue (is_in_set cleared z)
  pub only : (z : ℕ) → IsTrue (is_in_list end.list z) → IsTrue (is_in_list old z)

-- the same of the list of a row
abbrev pub IsClientLeft : Dependents → ℕ → Option ℕ → Type 0
IsClientLeft known x None = HasNoClient known x
IsClientLeft known x (Some z) =
    IsTrue (is_client known.edges.clients x z) × (is_in_set known.cleared z ≡ false)

-- ---- how a child stands

-- p strongly depends on row x, directly or through others, and is shut, but isn't known to be cleared
pub record IsByOwn (rows : List Row) (p x : ℕ) (known : Dependents) : Type 0 where
  pub way : Reaches (LevelStrong rows p) p x
  pub shut : IsTrue (is_shut rows p)
  pub left : is_in_set known.cleared p ≡ false

-- row x is free, and what strongly depends on it is known to be cleared
pub record IsFreeByLists (rows : List Row) (p x : ℕ) (known : Dependents) : Type 0 where
  pub free : IsFree rows p x
  pub clients : (z : ℕ) → LevelStrong rows p z x → IsTrue (is_in_set known.cleared z)

-- what each standing says of child x: it is free, it isn't, or it waits for p itself
abbrev pub IsChildStanding : List Row → ℕ → ℕ → Dependents → ChildStanding → Type 0
IsChildStanding rows p x known Free = IsFreeByLists rows p x known
IsChildStanding rows p x known Bound = IsFree rows p x → ⊥
IsChildStanding rows p x known ByOwn = IsByOwn rows p x known

-- ---- one look

-- a row that strongly depends on row x and isn't wholly shut
pub record IsBoundBy (rows : List Row) (p x : ℕ) : Type 0 where
  pub inc : ℕ
  pub strong : LevelStrong rows p inc x
  pub unshut : is_wholly_shut rows p inc ≡ false

-- p strongly depends on row x and is shut, but isn't known to be cleared
pub record IsOwnLeft (rows : List Row) (p x : ℕ) (known : Dependents) : Type 0 where
  pub strong : LevelStrong rows p p x
  pub shut : IsTrue (is_shut rows p)
  pub left : is_in_set known.cleared p ≡ false

-- a child that strongly depends on row x and is wholly shut, but isn't known to be cleared
pub record IsKidAbove (rows : List Row) (p x z : ℕ) (known : Dependents) : Type 0 where
  pub kid : IsKid rows p z
  pub strong : LevelStrong rows p z x
  pub shut : IsTrue (is_wholly_shut rows p z)
  pub left : is_in_set known.cleared z ≡ false

-- what each look at the list of row x says: nobody is in it, or this one that isn't known to be cleared
abbrev pub IsLook : List Row → ℕ → ℕ → Dependents → ClientLook → Type 0
IsLook rows p x known look.NoClient = HasNoClient known x
IsLook rows p x known look.Unshut = IsBoundBy rows p x
IsLook rows p x known look.Own = IsOwnLeft rows p x known
IsLook rows p x known (look.Shut z) = IsKidAbove rows p x z known

-- ---- the way up from a child, each row of which strongly depends on the one before

-- the first item of a list is c
abbrev pub BeginsWith : ℕ → List ℕ → Type 0
BeginsWith c [] = ⊥
BeginsWith c (x ∷ xs) = x ≡ c

-- R holds of each item and each later one
abbrev pub Pairwise : (ℕ → ℕ → Type 0) → List ℕ → Type 0
Pairwise R [] = Unit {0}
Pairwise R (x ∷ xs) = EachOfList (R x) xs × Pairwise R xs

-- a row of the way: the child itself, or one that is wholly shut and strongly depends on it
pub record IsOnClimb (rows : List Row) (p c x : ℕ) : Type 0 where
  pub kid : IsKid rows p x
  pub up : (x ≡ c) ⊎ (Reaches (LevelStrong rows p) x c × IsTrue (is_wholly_shut rows p x))

-- a way up from child c: it begins there, all its rows are such, and each strongly depends on all before it
pub record IsClimb (rows : List Row) (p c : ℕ) (way : List ℕ) : Type 0 where
  pub begins : BeginsWith c way
  pub each : EachOfList (IsOnClimb rows p c) way
  pub order : Pairwise (λ x y. Reaches (LevelStrong rows p) y x) way

-- how much there is to do at most: the rows that aren't cleared and not on the way, twice, and the way
abbrev pub effort : List Row → BTreeSet ℕ → List ℕ → ℕ
effort rows cleared way =
    length (filter (λ r. not (is_in_set cleared r.inc) && not (is_in_list way r.inc)) rows)
    + length (filter (λ r. not (is_in_set cleared r.inc) && not (is_in_list way r.inc)) rows) + length way

-- one step of the way: how the child stands, or a way on which there is less to do
abbrev pub IsClimbed : List Row → ℕ → ℕ → BTreeSet ℕ → List ℕ → Dependents → List ℕ
    → Option ChildStanding → Type 0
IsClimbed rows p c cleared old known new None =
    IsClimb rows p c new × (effort rows known.cleared new < effort rows cleared old)
IsClimbed rows p c cleared old known new (Some standing) = IsChildStanding rows p c known standing

-- what is seen of a row that is in a list: how it is shut, and whether it is p itself
abbrev pub IsSeen : List Row → ℕ → ℕ → ClientLook → Type 0
IsSeen rows p z look.NoClient = ⊥
IsSeen rows p z look.Unshut = is_wholly_shut rows p z ≡ false
IsSeen rows p z look.Own = (z ≡ p) × IsTrue (is_shut rows p)
IsSeen rows p z (look.Shut y) = (y ≡ z) × ((z ≡ p) → ⊥) × IsTrue (is_wholly_shut rows p z)

-- a child that isn't wholly shut keeps p from being free; or it doesn't depend on p, is bound, or is shut
abbrev pub IsOwnBinding : List Row → ℕ → ℕ → Bool → Type 0
IsOwnBinding rows p c true = IsFree rows p p → ⊥
IsOwnBinding rows p c false = Depends (level rows p) c p → IsFreeAt rows p c → ⊥
