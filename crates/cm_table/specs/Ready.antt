-- Inside.
-- What contracts see of a prepared declaration.
use Rattle.std.specs.Prelude.{ℕ, List}
use Rattle.cm_decl.specs.declared.decl.Decl.{Decl}

-- a declaration that was prepared for a resolve: its absolute URL, and what was declared there
pub record Ready : Type 0 where
  pub absolute : List ℕ
  pub decl : Decl
