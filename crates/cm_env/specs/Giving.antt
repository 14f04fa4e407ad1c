-- Inside.
-- Which environment a declaration gives each of its children.
use Rattle.std.specs.Prelude.{◌≡◌, List, Option, Some, None}
use Rattle.cm_decl.specs.declared.decl.Decl.{Decl}
use Rattle.cm_decl.specs.declared.environment.Environment.{Environment}
use Rattle.cm_decl.specs.declared.rows.Child.{Child}
use Rattle.cm_decl.specs.declared.rows.Collection.{Collection}
use Rattle.cm_env.specs.declared.giver.GivenEnvironment.{GivenEnvironment}
use Rattle.cm_env.specs.declared.giver.GivenEnvironment.TheVariants.{Realm, Undeclared, In}

-- the environment that a child is given: none, so it has its parent's; one that isn't declared; or
-- this one
abbrev pub told_given : GivenEnvironment → Option (Option Environment)
told_given Realm = None
told_given Undeclared = Some None
told_given (In e) = Some (Some e.now)

-- these are the children, collections and environments of a declaration
pub record HasRows (d : Decl) (ks : List Child) (cs : List Collection) (es : List Environment) : Type 0 where
  pub children : ks ≡ d.children
  pub collections : cs ≡ d.collections
  pub environments : es ≡ d.environments
