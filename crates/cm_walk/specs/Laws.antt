-- Inside.
-- Laws of walks, as statements. Functions of this crate promise them, and nothing is assumed.
use Rattle.std.specs.Prelude.{◌≡◌, ◌↔◌, ℕ, ◌<◌, List, [], None, find, take, length, slice_get}
use Rattle.std.specs.Prelude.{option_and_then, if◌then◌else◌}
use Rattle.std.specs.Str.{bytes_eq}
use Rattle.cm_names.specs.declared.child.ChildName.{ChildName}
use Rattle.cm_world.specs.declared.row.Row.{Row}
use Rattle.cm_world.specs.declared.frame.Builtin.{Builtin}
use Rattle.cm_world.specs.declared.route.Start.{Start}
use Rattle.cm_world.specs.declared.route.Start.TheVariants.{UseAt, ExposeAt, OfferAt}
use Rattle.cm_world.specs.declared.route.Walked.{Walked}
use Rattle.cm_world.specs.declared.route.Walked.TheVariants.{NoSuchUse}
use Rattle.cm_world.specs.declared.store.Located.{Located}
use Rattle.cm_world.specs.declared.store.Located.TheVariants as located
use Rattle.cm_world.specs.declared.reply.Reply.{Reply}
use Rattle.cm_world.specs.declared.reply.Reply.TheVariants as reply
use Rattle.cm_world.specs.Rows.{decl_of, is_closed}
use Rattle.cm_world.specs.Find.{found_from}
use Rattle.cm_world.specs.Located.{located_from}
use Rattle.cm_world.specs.Offering.{told_index}
use Rattle.cm_world.specs.Route.{IsWalked}

-- the start of a walk names a use or an offer that isn't there; one at an expose has none to look for
abbrev pub HasNoUse : List Row → Start → Type 0
HasNoUse rows (UseAt i path) =
    option_and_then (λ d. find (λ u. bytes_eq u.path path) d.uses) (decl_of rows i) ≡ None
HasNoUse rows (ExposeAt i name) = ⊥
HasNoUse rows (OfferAt i k) = option_and_then (λ d. slice_get d.offers k) (decl_of rows i) ≡ None

-- a walk says that there is no such use exactly where there is none
abbrev pub SaysNoUse : Type 0
SaysNoUse =
    (rows : List Row) (builtins : List Builtin) (begin : Start) (v : Walked)
    → IsWalked rows builtins begin v → (v ≡ NoSuchUse) ↔ HasNoUse rows begin

-- the reply to a find of these names, by where they lead; where one is missing, it is told with those
-- before it, even if they are more than can be told
abbrev pub IsFindReply : List Row → List ChildName → Located → Reply → Type 0
IsFindReply rows names (located.Found i) r = r ≡ reply.Found i
IsFindReply rows names (located.Unresolved i) r =
    r ≡ (if is_closed rows i then reply.Shut i else reply.Need i)
IsFindReply rows names (located.Missing k) r =
    (n : ℕ) × (told_index n ≡ k) × (n < length names) × (r ≡ reply.NotFound (record { parts = take n names }))

-- a find replies as its moniker leads
abbrev pub FindsAsLocated : Type 0
FindsAsLocated =
    (rows : List Row) (names : List ChildName)
    → IsFindReply rows names (located_from rows 0 0 names) (found_from rows 0 [] names)
