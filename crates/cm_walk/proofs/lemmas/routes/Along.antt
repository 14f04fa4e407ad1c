-- One station of a walk, and the whole of it.
use Rattle.std.proofs.Common.{◌≡◌, ℕ, ◌<◌, List, [], ◌∷◌, ◌++◌, true, false, true≢false, Option, Some, None, option_map, refl, sym, ◌∙◌, ap}
use Rattle.cm_decl.specs.Clashes.{or_else}
use Rattle.cm_world.specs.declared.row.Row.{Row}
use Rattle.cm_world.specs.declared.frame.Builtin.{Builtin}
use Rattle.cm_world.specs.declared.route.Hop.{Hop}
use Rattle.cm_world.specs.declared.route.Why.{Why}
use Rattle.cm_world.specs.declared.route.Why.TheVariants.{NoInstance}
use Rattle.cm_world.specs.declared.route.Walked.{Walked}
use Rattle.cm_world.specs.declared.route.Walked.TheVariants.{Failed}
use Rattle.cm_world.specs.Stations as world
use Rattle.cm_world.specs.NextStation.{NextStation, To, Ends, Needs, FromVoid, NoChild, Misses, next_of}
use Rattle.cm_world.specs.Route.{IsChain, IsDecided, IsRouteVerdict, trial, trial_by, said_by, weak_availability, weak_rights}
use Rattle.cm_world.specs.Sound.{IsOrderly}
use Rattle.cm_world.specs.Ending.{steps_left, KeepsDown}
use Rattle.cm_world.proofs.lemmas.trees.Walks.{steps_fall}
use Rattle.cm_walk.specs.declared.station.HopStation.{HopStation}
use Rattle.cm_walk.specs.declared.trail.Trail.{Trail}
use Rattle.cm_walk.specs.declared.next.NextOnWalk.{NextOnWalk}
use Rattle.cm_walk.specs.declared.next.NextOnWalk.TheVariants as on_walk
use Rattle.cm_walk.specs.Walking.{as_station, as_next, is_no_child, IsBehind, IsHopPlaced, refused}
use Rattle.cm_walk.proofs.lemmas.ways.Placed.{next_placed}

-- ---- what is decided at a station

-- Of three answers the first that there is is the same however they are grouped.
grouped : (a b c : Option Walked) → or_else a (or_else b c) ≡ or_else (or_else a b) c
grouped None b c = refl
grouped (Some v) b c = refl

-- what refuses a station comes before what its next says
tried_by : (prefix : List world.Station) (s : world.Station) (n : NextStation) → trial_by prefix s n ≡ or_else (refused prefix s n) (said_by prefix s n)
tried_by prefix s NoChild = refl
tried_by prefix s (To t) = grouped (weak_availability prefix s) (weak_rights prefix s) _
tried_by prefix s Ends = grouped (weak_availability prefix s) (weak_rights prefix s) _
tried_by prefix s (Needs j) = grouped (weak_availability prefix s) (weak_rights prefix s) _
tried_by prefix s FromVoid = grouped (weak_availability prefix s) (weak_rights prefix s) _
tried_by prefix s (Misses hop why) = grouped (weak_availability prefix s) (weak_rights prefix s) _

-- a child that isn't there refuses it
pub refused_child : (prefix : List world.Station) (s : world.Station) (n : NextStation) → is_no_child n ≡ true → Some (Failed s.hop NoInstance) ≡ refused prefix s n
refused_child prefix s NoChild e = refl
refused_child prefix s (To t) e = absurd (true≢false (sym e))
refused_child prefix s Ends e = absurd (true≢false (sym e))
refused_child prefix s (Needs j) e = absurd (true≢false (sym e))
refused_child prefix s FromVoid e = absurd (true≢false (sym e))
refused_child prefix s (Misses hop why) e = absurd (true≢false (sym e))

-- else its hop, where that is too weak
pub refused_weak : (prefix : List world.Station) (s : world.Station) (n : NextStation) → is_no_child n ≡ false → or_else (weak_availability prefix s) (weak_rights prefix s) ≡ refused prefix s n
refused_weak prefix s NoChild e = absurd (true≢false e)
refused_weak prefix s (To t) e = refl
refused_weak prefix s Ends e = refl
refused_weak prefix s (Needs j) e = refl
refused_weak prefix s FromVoid e = refl
refused_weak prefix s (Misses hop why) e = refl

-- What a walk comes to at a station is what refuses it, or else what is said there.
tried_is : (prefix : List world.Station) (s : world.Station) (n : NextStation) (weak : Option Walked) → weak ≡ refused prefix s n → trial_by prefix s n ≡ or_else weak (said_by prefix s n)
tried_is prefix s n weak is = tried_by prefix s n ∙ ap (λ o. or_else o (said_by prefix s n)) (sym is)

-- a station that is refused
at_refused : (prefix : List world.Station) (s : world.Station) (n : NextStation) (why : Why) → Some (Failed s.hop why) ≡ refused prefix s n → trial_by prefix s n ≡ Some (Failed s.hop why)
at_refused prefix s n why is = tried_is prefix s n (Some (Failed s.hop why)) is

-- one that isn't
at_fitting : (prefix : List world.Station) (s : world.Station) (n : NextStation) → None ≡ refused prefix s n → trial_by prefix s n ≡ said_by prefix s n
at_fitting prefix s n is = tried_is prefix s n None is

-- ---- the whole walk

-- a verdict on the stations from one on, behind a prefix
pub record IsEnd (rows : List Row) (builtins : List Builtin) (prefix : List world.Station) (s : world.Station) (v : Walked) : Type 0 where
  pub rest : List world.Station
  pub chain : IsChain rows builtins s rest
  pub decided : IsDecided rows builtins prefix s rest v

-- where the walk is: behind it stands a prefix, and what is decided from here on is the verdict of the whole
pub record IsOnWay (rows : List Row) (builtins : List Builtin) (first : world.Station) (t : Trail) (here : HopStation) : Type 0 where
  pub prefix : List world.Station
  pub behind : IsBehind prefix (as_station here) t
  pub down : KeepsDown (as_station here)
  pub placed : IsHopPlaced rows here.hop
  pub whole : (v : Walked) → IsEnd rows builtins prefix (as_station here) v → IsRouteVerdict rows builtins first v

-- it begins at its first station
pub begins_way : (rows : List Row) (builtins : List Builtin) (t : Trail) (here : HopStation) → IsBehind [] (as_station here) t → KeepsDown (as_station here) → IsHopPlaced rows here.hop → IsOnWay rows builtins (as_station here) t here
begins_way rows builtins t here behind down placed = record {
  prefix = [];
  behind = behind;
  down = down;
  placed = placed;
  whole = λ v end. record { rest = end.rest; chain = end.chain; decided = end.decided };
}

-- what a walk is told of a hop behind the trail: this refuses it, with what follows its station
abbrev pub Refuses : Hop → Trail → NextStation → Option Why → Type 0
Refuses hop t n why =
    (prefix : List world.Station) (s : world.Station) → s.hop ≡ hop → IsBehind prefix s t
    → option_map (Failed hop) why ≡ refused prefix s n

module _ (rows : List Row) (next : ℕ) (builtins : List Builtin) (first : world.Station) (t : Trail) (here : HopStation) (way : IsOnWay rows builtins first t here) where
  -- A walk goes on from a station that isn't refused to the one that follows it.
  onward : (there : HopStation) (n : NextOnWalk) → as_next n ≡ next_of rows builtins (as_station here) → n ≡ on_walk.To there → Refuses here.hop t (as_next n) None → (next_of rows builtins (as_station here) ≡ To (as_station there)) × (trial rows builtins way.prefix (as_station here) ≡ None)
  onward there n follows to refuses =
      let on : To (as_station there) ≡ next_of rows builtins (as_station here) = ap as_next (sym to) ∙ follows in (
        sym on,
        ap (trial_by way.prefix (as_station here)) (sym follows)
            ∙ at_fitting way.prefix (as_station here) (as_next n) (refuses way.prefix (as_station here) refl way.behind)
            ∙ ap (said_by way.prefix (as_station here)) (ap as_next to),
      )

  -- it goes on to the next station
  pub goes_way : (there : HopStation) (n : NextOnWalk) (u : Trail) → IsOrderly rows next → as_next n ≡ next_of rows builtins (as_station here) → n ≡ on_walk.To there → Refuses here.hop t (as_next n) None → ((prefix : List world.Station) (s : world.Station) → IsBehind prefix (as_station here) t → s.hop ≡ there.hop → IsBehind (prefix ++ as_station here ∷ []) s u) → IsOnWay rows builtins first u there
  goes_way there n u orderly follows to refuses pushed =
      let on = onward there n follows to refuses in
      record {
        prefix = way.prefix ++ as_station here ∷ [];
        behind = pushed way.prefix (as_station there) way.behind refl;
        down = (steps_fall rows next builtins (as_station here) (as_station there) orderly way.down on.0).1;
        placed = next_placed rows builtins (as_station here) (as_station there) on.0;
        whole = λ v end. way.whole v (record { rest = as_station there ∷ end.rest; chain = (on.0, end.chain); decided = (on.1, end.decided) });
      }

  -- from where fewer steps are left
  pub falls_way : (there : HopStation) (n : NextOnWalk) → IsOrderly rows next → as_next n ≡ next_of rows builtins (as_station here) → n ≡ on_walk.To there → Refuses here.hop t (as_next n) None → steps_left next (as_station there) < steps_left next (as_station here)
  falls_way there n orderly follows to refuses =
      (steps_fall rows next builtins (as_station here) (as_station there) orderly way.down (onward there n follows to refuses).0).0

  -- What is decided here is the verdict of the whole.
  ends_at : (n : NextStation) (v : Walked) → n ≡ next_of rows builtins (as_station here) → trial_by way.prefix (as_station here) n ≡ Some v → IsRouteVerdict rows builtins first v
  ends_at n v follows decided =
      way.whole v (record { rest = []; chain = tt; decided = ap (trial_by way.prefix (as_station here)) (sym follows) ∙ decided })

  -- it ends at a hop that is refused
  pub refused_way : (n : NextStation) (why : Why) (v : Walked) → n ≡ next_of rows builtins (as_station here) → Refuses here.hop t n (Some why) → v ≡ Failed here.hop why → IsRouteVerdict rows builtins first v
  refused_way n why v follows refuses is =
      ends_at n v follows (at_refused way.prefix (as_station here) n why (refuses way.prefix (as_station here) refl way.behind) ∙ ap Some (sym is))

  -- and else where what follows decides
  pub ends_way : (n : NextStation) (v : Walked) → n ≡ next_of rows builtins (as_station here) → Refuses here.hop t n None → Some v ≡ said_by way.prefix (as_station here) n → IsRouteVerdict rows builtins first v
  ends_way n v follows refuses said =
      ends_at n v follows (at_fitting way.prefix (as_station here) n (refuses way.prefix (as_station here) refl way.behind) ∙ sym said)
