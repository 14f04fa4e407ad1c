-- What the door that comes back says of its links.
use Rattle.std.proofs.Common.{◌≡◌, ℕ, ◌+◌, ◌<◌, ◌≤◌, Bool, true, false, List, All, length, Some, sym, ap, ◌∙◌, subst, arith}
use Rattle.std.specs.List.{slice_get}
use Rattle.std.proofs.lemmas.Option.{slice_get_within}
use Rattle.cm_facts.proofs.Lists.{slice_get_some, All_slice_get}
use Rattle.cm_turn.specs.History.{StartsWith}
use Rattle.cm_turn.specs.Passes.{HasCaller}
use Rattle.cm_session.specs.declared.doorway.Accepted.{Accepted}
use Rattle.cm_session.specs.declared.doorway.Opening.{Opening}
use Rattle.cm_io.specs.Doors.{DoorPlace}
use Rattle.cm_io.specs.declared.door.DoorCounts.{DoorCounts}
use Rattle.cm_session.specs.declared.served.Back.{Back}
use Rattle.cm_session.specs.declared.served.Cause.{Cause}
use Rattle.cm_session.specs.Closing.{ClosesDoor, CountsLinks, cause_of, links_from}
use Rattle.cm_session.specs.Doorway.{DoorPass, IsCounted, failures_of, links_of, sessions_in, sessions_of}
use Rattle.cm_session.specs.PoolParts.{Links}
use Rattle.cm_session.proofs.lemmas.links.Spreading.{by_worker, count_from, gathered, spread}

-- a pass that the closed state bears out
abbrev pub KnownBy : Opening → List Accepted → DoorPass → Type 0
KnownBy o entries p = (p.frame ≡ Some o) × StartsWith entries p.seen × (by_worker p.caller entries ≡ p.mine)

module _ {L : Type 0} (passes : List DoorPass) (links : List (Links L)) (room : ℕ) (counts : CountsLinks passes links room) (o : Opening) (entries : List Accepted) (known : All (KnownBy o entries) passes) (callers : All (λ (e : Accepted). HasCaller passes e.worker) entries) where
  -- each entry is of one of the sixteen
  all_sixteen : All (λ (e : Accepted). e.worker < 16) entries
  all_sixteen k d lt =
      let has = callers k d lt in
      let is : has.1.caller ≡ has.0 = counts.callers has.0 has.1 has.2 in
      let within : has.0 < length passes = slice_get_within passes has.0 has.1 has.2 in
      grind (arith, is, within, counts.count, has.3)

  -- the links of one worker are as many as its entries with a link
  each_as_many : (k : ℕ) (r : Links L) → slice_get links k ≡ Some r → length r.items ≡ links_of (by_worker (0 + k) entries)
  each_as_many k r there =
      let p = slice_get_some passes k (grind (arith, counts.count, counts.long, slice_get_within links k r there)) in
      let here : KnownBy o entries p.0 = All_slice_get (KnownBy o entries) passes k p.0 known p.1 in
      let caller : p.0.caller ≡ 0 + k = counts.callers k p.0 p.1 ∙ none_more k in
      sym (counts.each k p.0 r p.1 there) ∙ ap links_of (sym here.2) ∙ ap (λ (n : ℕ). links_of (by_worker n entries)) caller where
        none_more : (k : ℕ) → k ≡ 0 + k
        none_more k = grind arith

  -- all links are as many as the entries with a link
  pub all_counted : length (links_from 0 links) ≡ links_of entries
  all_counted = gathered 0 links entries each_as_many ∙ ap (λ (n : ℕ). count_from 0 n entries) counts.long ∙ sym (spread 16 entries all_sixteen)

  -- and there is room for them
  pub all_fit : links_of entries ≤ o.sessions → length (links_from 0 links) ≤ room
  all_fit few =
      let p = slice_get_some passes 0 (grind (arith, counts.count)) in
      let here : KnownBy o entries p.0 = All_slice_get (KnownBy o entries) passes 0 p.0 known p.1 in
      let sessions : sessions_of p.0 ≡ o.sessions = ap sessions_in here.0 in
      let fits : sessions_of p.0 ≤ room = All_slice_get (λ (p : DoorPass). sessions_of p ≤ room) passes 0 p.0 counts.room p.1 in
      grind (arith, few, sessions, fits, all_counted)

  -- all that the closed door says
  pub closes_door : (now : DoorCounts) (place_now : DoorPlace) (all : List (Back L)) (lost failed : Bool) (why : Cause) → IsCounted o.counts now entries → place_now ≡ o.place → links_of entries ≤ o.sessions → all ≡ links_from 0 links → (failed ≡ true → 0 < failures_of entries) → (failed ≡ false → failures_of entries ≡ 0) → why ≡ cause_of lost failed → ClosesDoor passes now place_now (length all) lost why
  closes_door now place_now all lost failed why counted place few all_is failure no_failure why_is = record {
    opening = o;
    entries = entries;
    opened = λ k d lt. (known k d lt).0;
    seen = λ k d lt. (known k d lt).1;
    counted = counted;
    place = place;
    links_are = ap (λ (l : List (Back L)). length l) all_is ∙ all_counted;
    few = few;
    failed = failed;
    failure = failure;
    no_failure = no_failure;
    why_is = why_is;
  }

-- by the list that was closed
module _ {L : Type 0} (passes closed : List DoorPass) (same : closed ≡ passes) (links : List (Links L)) (room : ℕ) (counts : CountsLinks passes links room) (o : Opening) (entries : List Accepted) (known : All (KnownBy o entries) closed) (callers : All (λ (e : Accepted). HasCaller closed e.worker) entries) where
  -- The passes are borne out as the closed ones are, which are the same.
  known_here : All (KnownBy o entries) passes
  known_here = subst (All (KnownBy o entries)) same known

  -- The worker of each entry has a pass here, as it has among the closed ones.
  callers_here : All (λ (e : Accepted). HasCaller passes e.worker) entries
  callers_here = subst (λ (l : List DoorPass). All (λ (e : Accepted). HasCaller l e.worker) entries) same callers

  -- There is room for all links that come back, where no more came than were asked for.
  pub fit_closed : links_of entries ≤ o.sessions → length (links_from 0 links) ≤ room
  fit_closed few = all_fit passes links room counts o entries known_here callers_here few

  -- A door comes back closed, where its counts, its place and its links are what its accepts say.
  pub closed_door : (now : DoorCounts) (place_now : DoorPlace) (all : List (Back L)) (lost failed : Bool) (why : Cause) → IsCounted o.counts now entries → place_now ≡ o.place → links_of entries ≤ o.sessions → all ≡ links_from 0 links → (failed ≡ true → 0 < failures_of entries) → (failed ≡ false → failures_of entries ≡ 0) → why ≡ cause_of lost failed → ClosesDoor passes now place_now (length all) lost why
  closed_door now place_now all lost failed why counted place few all_is failure no_failure why_is = closes_door passes links room counts o entries known_here callers_here now place_now all lost failed why counted place few all_is failure no_failure why_is
