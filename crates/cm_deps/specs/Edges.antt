-- Inside.
-- Graphs of numbered nodes, as lists: the n-th list holds the nodes that node n directly depends on.
-- With it what a topological sort (Kahn's algorithm) and a search have in hand.
use Rattle.std.specs.Prelude.{◌≡◌, ℕ, ◌+◌, ◌<◌, List, [], ◌++◌, length, take, slice_get, get_or, count_by}
use Rattle.std.specs.Prelude.{Bool, false, not, nat_eq, Some, IsTrue, ◌⊎◌}
use Rattle.std.specs.List.{list_any}
use Rattle.cm_decl.specs.Reach.{Reaches}

-- whether a node is in a list of nodes
abbrev pub holds : List ℕ → ℕ → Bool
holds nodes x = list_any (nat_eq x) nodes

-- whether a node's flag is set; a node without one counts as not set
abbrev pub is_set : List Bool → ℕ → Bool
is_set flags x = get_or flags x false

-- the list of a node; empty for a node that the graph doesn't have
abbrev pub row : List (List ℕ) → ℕ → List ℕ
row rows x = get_or rows x []

-- all nodes that the lists name are below n
abbrev pub IsBelow : List (List ℕ) → ℕ → Type 0
IsBelow rows n = (x y : ℕ) → IsTrue (holds (row rows x) y) → y < n

-- the lists of before hold the graph turned around: each node's list has at least the nodes that
-- depend on it
abbrev pub Covers : List (List ℕ) → List (List ℕ) → Type 0
Covers before after = (x y : ℕ) → IsTrue (holds (row after x) y) → IsTrue (holds (row before y) x)

-- a topological sort may take node x next: it isn't listed yet, and all that it depends on is
pub record IsNext (after : List (List ℕ)) (prefix : List ℕ) (x : ℕ) : Type 0 where
  pub inside : x < length after
  pub new : holds prefix x ≡ false
  pub ready : (y : ℕ) → IsTrue (holds (row after x) y) → IsTrue (holds prefix y)

-- each node of the list comes after all that it depends on
abbrev pub IsReverseTopological : List (List ℕ) → List ℕ → Type 0
IsReverseTopological after order = (k x : ℕ) → slice_get order k ≡ Some x → IsNext after (take k order) x

-- a node depends on one that isn't in the list
abbrev pub Waits : List (List ℕ) → List ℕ → ℕ → Type 0
Waits after prefix x = (y : ℕ) × IsTrue (holds (row after x) y) × (holds prefix y ≡ false)

-- the list of a topological sort that ended: each node after all that it depends on, and as many as
-- can be listed so, since each other node depends on one that isn't listed
pub record IsToposorted (after : List (List ℕ)) (order : List ℕ) : Type 0 where
  pub grown : IsReverseTopological after order
  pub rest : (x : ℕ) → x < length after → holds order x ≡ false → Waits after order x

-- a topological sort that is under way: queued flags the nodes that are listed, done some of those
pub record IsListing (after : List (List ℕ)) (order : List ℕ) (queued done : List Bool) : Type 0 where
  pub queued_size : length queued ≡ length after
  pub grown : IsReverseTopological after order
  pub listed : (x : ℕ) → is_set queued x ≡ holds order x
  pub known : (x : ℕ) → IsTrue (is_set done x) → IsTrue (holds order x)
  pub counted : count_by not queued + length order ≡ length after

-- a node that needs no more work in a sort that is under way: it is listed, or depends on one that
-- isn't done
abbrev pub IsSettled : List (List ℕ) → List ℕ → List Bool → ℕ → Type 0
IsSettled after order done x =
    IsTrue (holds order x) ⊎ ((y : ℕ) × IsTrue (holds (row after x) y) × (is_set done y ≡ false))

-- the new list is the old one with further nodes at its end
abbrev pub Extends : List ℕ → List ℕ → Type 0
Extends old new = (more : List ℕ) × (new ≡ old ++ more)

-- node x directly depends on node y
abbrev pub On : List (List ℕ) → ℕ → ℕ → Type 0
On after x y = IsTrue (holds (row after x) y)

-- these are exactly the nodes that a node depends on, directly or through others
pub record IsReach (after : List (List ℕ)) (start : ℕ) (found : List ℕ) : Type 0 where
  pub all : (y : ℕ) → Reaches (On after) start y → IsTrue (holds found y)
  pub only : (y : ℕ) → IsTrue (holds found y) → Reaches (On after) start y

-- a search's flags tell which nodes it has found, each once
pub record IsVisited (seen : List Bool) (found : List ℕ) : Type 0 where
  pub listed : (x : ℕ) → is_set seen x ≡ holds found x
  pub counted : count_by not seen + length found ≡ length seen

-- these nodes, and no others, were added to the list
pub record IsAdded (nodes : List ℕ) (old new : List ℕ) : Type 0 where
  pub added : (y : ℕ) → IsTrue (holds nodes y) → IsTrue (holds new y)
  pub only : (y : ℕ) → IsTrue (holds new y) → holds old y ≡ false → IsTrue (holds nodes y)
  pub longer : Extends old new
