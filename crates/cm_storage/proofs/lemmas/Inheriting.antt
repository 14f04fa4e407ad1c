-- A storage that a row has from its parent, by what the parent has handed on.
use Rattle.std.proofs.Common.{◌≡◌, ◌≢◌, ℕ, ◌-◌, List, Option, Some, length, sym, ◌∙◌, ap, subst}
use Rattle.std.specs.Prelude.{All, slice_get}
use Rattle.std.proofs.lemmas.List.Elements.{All-get_or}
use Rattle.std.proofs.lemmas.Option.{slice_get_within, get_or_from_slice_get}
use Rattle.cm_names.specs.declared.child.ChildName.{ChildName}
use Rattle.cm_decl.specs.declared.storage.StorageOffer.{StorageOffer}
use Rattle.cm_world.specs.declared.row.Row.{Row}
use Rattle.cm_world.specs.declared.frame.Builtin.{Builtin}
use Rattle.cm_storage.specs.declared.known.KnownPlace.{KnownPlace}
use Rattle.cm_storage.specs.declared.standing.ParentAtHand.{ParentAtHand}
use Rattle.cm_storage.specs.KnownPlace.{known_below}
use Rattle.cm_storage.specs.ParentAtHand.{IsToldChildOf, IsKnown, IsStanding, AreStanding, kept_by}
use Rattle.cm_storage.specs.Way.{On, onward, by_parent, by_offer, by_source, storage_offer_of}
use Rattle.cm_storage.proofs.lemmas.Knowing.{known_onward}
use Rattle.cm_storage.proofs.lemmas.Lines.{kept_by_known}

-- what all have, the last one has
pub last_standing : (rows : List Row) (builtins : List Builtin) (all : List ParentAtHand) (s : ParentAtHand) → AreStanding rows builtins all → Some s ≡ slice_get all (length all - 1) → IsStanding rows builtins s
last_standing rows builtins all s standing at =
    subst (IsStanding rows builtins) (get_or_from_slice_get all (length all - 1) s s (sym at))
    (All-get_or (IsStanding rows builtins) all (length all - 1) s (slice_get_within all (length all - 1) s (sym at)) standing)

-- the way of a child goes on by the offer that its parent makes to it
way_on : (rows : List Row) (builtins : List Builtin) (i : ℕ) (c : ChildName) (name : List ℕ) (s : ParentAtHand) (o : StorageOffer) → IsStanding rows builtins s → IsToldChildOf rows i s.inc c → Some o ≡ storage_offer_of s.offers c name → onward rows i name ≡ by_source rows s.inc s.offers o.source_name o.from
way_on rows builtins i c name s o standing child offered =
    child.way name
    ∙ ap (λ d. by_parent rows s.inc name d (Some c)) standing.decl
    ∙ ap (by_offer rows s.inc s.offers) (sym offered)

-- What is kept below a child by its parent's offer is right, where what the parent keeps is.
pub inherits : (rows : List Row) (builtins : List Builtin) (i p : ℕ) (c : ChildName) (name : List ℕ) (s : ParentAtHand) (o : StorageOffer) (known : KnownPlace) → IsStanding rows builtins s → s.inc ≡ p → IsToldChildOf rows i p c → Some o ≡ storage_offer_of s.offers c name → Some known ≡ kept_by s.handed.items o.from o.source_name → IsKnown rows builtins i (On i name) (known_below known c)
inherits rows builtins i p c name s o known standing at child offered kept =
    let below : IsToldChildOf rows i s.inc c = subst (λ x. IsToldChildOf rows i x c) (sym at) child in
    known_onward rows builtins i s.inc c name (by_source rows s.inc s.offers o.source_name o.from) known below
    (way_on rows builtins i c name s o standing below offered)
    (kept_by_known rows builtins s.inc s.offers s.handed.items o.from o.source_name known standing.handed kept)
