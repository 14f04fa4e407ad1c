-- Inside.
-- The level of an instance: which of it and its children depends on which. It is the realm graph of its
-- declaration, made of rows: of the instance itself and of its children that live, doomed ones too.
use Rattle.std.specs.Prelude.{ℕ, List}
use Rattle.cm_decl.specs.RealmGraph.{Directly}
use Rattle.cm_world.specs.declared.row.Row.{Row}
use Rattle.cm_world.specs.Level.{level}

-- x depends on y at the level of p directly, by a strong edge or by one that the tree itself implies
abbrev pub LevelOn : List Row → ℕ → ℕ → ℕ → Type 0
LevelOn rows p x y = Directly (level rows p) x y
