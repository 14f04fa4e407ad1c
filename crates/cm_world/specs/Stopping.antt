-- Promised.
-- Which instances may stop now, and which of them a pick may choose.
use Rattle.std.specs.Prelude.{◌≡◌, ℕ, List, [], ◌∷◌, Bool, false, Option, Some, None, find, filter, reverse}
use Rattle.std.specs.Prelude.{if◌then◌else◌, IsTrue, ◌==◌}
use Rattle.cm_decl.specs.RealmGraph.{Depends}
use Rattle.cm_world.specs.declared.row.Row.{Row}
use Rattle.cm_world.specs.Rows.{row_of, has_closing, is_below, is_shut, is_subtree_shut, line_of}
use Rattle.cm_world.specs.Level.{level}

-- whether a node of p's level is shut with all that stands for it: p itself alone, a child with all
-- below it
abbrev pub is_wholly_shut : List Row → ℕ → ℕ → Bool
is_wholly_shut rows p x = if x == p then is_shut rows x else is_subtree_shut rows x

-- nothing at the level of p still needs node x: all that depends on it, directly or through others, is
-- wholly shut
abbrev pub IsFree : List Row → ℕ → ℕ → Type 0
IsFree rows p x = (z : ℕ) → Depends (level rows p) z x → IsTrue (is_wholly_shut rows p z)

-- among a row and its ancestors the one nearest the root that is marked to be shut down
abbrev pub outermost : List Row → ℕ → Option ℕ
outermost rows y = find (λ i. has_closing rows i) (reverse (line_of rows y))

-- the incarnations from a row up to this ancestor
abbrev pub line_up_to : List Row → ℕ → ℕ → List ℕ
line_up_to rows top y = filter (λ i. is_below rows top i) (line_of rows y)

-- on the way up from x along these rows each node is free at the level of the row above it
abbrev pub AllFree : List Row → ℕ → List ℕ → Type 0
AllFree rows x [] = Unit {0}
AllFree rows x (p ∷ ps) = IsFree rows p x × AllFree rows p ps

-- row y may stop: from the outermost row that is being shut down down to y, all that depends on the
-- node that leads to y is wholly shut, at every level
pub record MayStop (rows : List Row) (y : ℕ) : Type 0 where
  pub top : ℕ
  pub outermost : outermost rows y ≡ Some top
  pub free : AllFree rows y (line_up_to rows top y)

-- a pick in the shutdown of a target may choose row y: it is at or below the target's outermost
-- closing row, isn't shut yet, has no pending action, and may stop
pub record MayPick (rows : List Row) (target : ℕ) (y : ℕ) (r : Row) : Type 0 where
  pub row : row_of rows y ≡ Some r
  pub top : ℕ
  pub outermost : outermost rows target ≡ Some top
  pub below : IsTrue (is_below rows top y)
  pub unshut : r.shut ≡ false
  pub idle : r.pending ≡ None
  pub may_stop : MayStop rows y

-- a pick in the shutdown of this target has some row to choose
pub record CanPick (rows : List Row) (target : ℕ) : Type 0 where
  pub inc : ℕ
  pub row : Row
  pub may : MayPick rows target inc row
