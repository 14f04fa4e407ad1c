-- Promised.
-- Which instance is a client of which.
use Rattle.std.specs.Prelude.{◌≡◌, ◌≢◌, ℕ, List, ◌∷◌, IsTrue}
use Rattle.std.specs.List.{list_all}
use Rattle.cm_world.specs.declared.row.Row.{Row}
use Rattle.cm_world.specs.declared.frame.Builtin.{Builtin}
use Rattle.cm_world.specs.declared.route.Provider.TheVariants.{Instance}
use Rattle.cm_world.specs.declared.route.Start.TheVariants.{UseAt}
use Rattle.cm_world.specs.Rows.{moniker_of}
use Rattle.cm_world.specs.Stations.{Station}
use Rattle.cm_world.specs.Route.{IsRoute, last_of, provider_of}

-- instance x is a client of instance y, another one: some use of x has a route of strong hops that
-- ends at y. Whether the route would be given to x doesn't matter. The clients of y stop before y does
pub record IsClient (rows : List Row) (builtins : List Builtin) (x y : ℕ) : Type 0 where
  pub differ : x ≢ y
  pub path : List ℕ
  pub first : Station
  pub rest : List Station
  pub route : IsRoute rows builtins (UseAt x path) first rest
  pub strong : IsTrue (list_all (λ s. s.hop.strong) (first ∷ rest))
  pub provider : provider_of (last_of first rest).hop ≡ Instance y (moniker_of rows y)
