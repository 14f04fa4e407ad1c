-- Walks along routes, station by station.
use Rattle.std.proofs.Common.{◌≡◌, List, [], ◌∷◌, ◌++◌, sym, ◌∙◌, ap, subst}
use Rattle.std.proofs.lemmas.Option.{same_Some, none-some}
use Rattle.cm_world.specs.declared.row.Row.{Row}
use Rattle.cm_world.specs.declared.frame.Builtin.{Builtin}
use Rattle.cm_world.specs.declared.route.Walked.{Walked}
use Rattle.cm_world.specs.Stations.{Station}
use Rattle.cm_world.specs.NextStation.{NextStation, To}
use Rattle.cm_world.specs.Route.{Named, First, NoUse, NoneExposed, named_by, IsChain, IsDecided, IsWalkedFrom}
use Rattle.cm_world.specs.LawsInside.{WalksOnce}

-- the station behind a next, or the given one
station_of : Station → NextStation → Station
station_of d (To s) = s
station_of d _ = d

-- What goes on to one station and to another goes on to the same.
pub same_station : (s t : Station) → To s ≡ To t → s ≡ t
unfolding station_of
same_station s t e = ap (station_of s) e

-- what is decided from a station behind a prefix is decided only once
pub decided_once : (rows : List Row) (builtins : List Builtin) (prefix : List Station) (s : Station) (xs ys : List Station) (v w : Walked) → IsChain rows builtins s xs → IsChain rows builtins s ys → IsDecided rows builtins prefix s xs v → IsDecided rows builtins prefix s ys w → v ≡ w
decided_once rows builtins prefix s [] [] v w on to first second = same_Some v w (sym first ∙ second)
decided_once rows builtins prefix s [] (y ∷ ys) v w on to first second = absurd (none-some v (sym second.0 ∙ first))
decided_once rows builtins prefix s (x ∷ xs) [] v w on to first second = absurd (none-some w (sym first.0 ∙ second))
decided_once rows builtins prefix s (x ∷ xs) (y ∷ ys) v w on to first second =
    let same : y ≡ x = same_station y x (sym to.0 ∙ on.0) in
    decided_once rows builtins (prefix ++ s ∷ []) x xs ys v w on.1
    (subst (λ z. IsChain rows builtins z ys) same to.1) first.1
    (subst (λ z. IsDecided rows builtins (prefix ++ s ∷ []) z ys w) same second.1)

-- Walks from what a start names come to one verdict at most.
walked_from_once : (rows : List Row) (builtins : List Builtin) (n : Named) (v w : Walked) → IsWalkedFrom rows builtins n v → IsWalkedFrom rows builtins n w → v ≡ w
walked_from_once rows builtins (First s) v w first second =
    decided_once rows builtins [] s first.rest second.rest v w first.chain second.chain first.decided second.decided
walked_from_once rows builtins NoUse v w first second = first ∙ sym second
walked_from_once rows builtins (NoneExposed hop) v w first second = first ∙ sym second

-- a walk comes to one answer
pub walked_once : WalksOnce
walked_once rows builtins begin v w first second = walked_from_once rows builtins (named_by rows begin) v w first second
