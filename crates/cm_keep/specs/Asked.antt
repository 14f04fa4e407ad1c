-- Inside.
-- What a place of files is asked for the keeping of a journal, call by call.
use Rattle.std.specs.Prelude.{◌≡◌, ◌⊎◌, ℕ, List, [], ◌∷◌, ◌++◌, true, false, Option, Some, None}
use Rattle.cm_reply.specs.Lists.{TextBytes}
use Rattle.cm_keep.specs.Files.{SaysWhere, beside_name}
use Rattle.cm_keep.specs.declared.place.PlaceCall.{PlaceCall}
use Rattle.cm_keep.specs.declared.place.PlaceCall.TheVariants as call
use Rattle.cm_keep.specs.declared.service.Unkept.{Unkept}
use Rattle.cm_keep.specs.declared.service.Unkept.TheVariants as unkept

-- ---- logs

-- a place was asked these calls more and nothing else, where it tells what it was asked
abbrev pub Asks : Option (List PlaceCall) → Option (List PlaceCall) → List PlaceCall → Type 0
Asks None new calls = Unit {0}
Asks (Some old) new calls = new ≡ Some (old ++ calls)

-- the same for the calls of one of these lists
abbrev pub AsksOneOf : Option (List PlaceCall) → Option (List PlaceCall) → List (List PlaceCall) → Type 0
AsksOneOf old new [] = ⊥
AsksOneOf old new (calls ∷ others) = Asks old new calls ⊎ AsksOneOf old new others

-- ---- the calls of a keeping

-- the names that a text is written under: first that of a new file beside its place, then the place itself
pub record FileNames : Type 0 where
  pub beside : TextBytes
  pub place : TextBytes

-- those of a journal, by the number of the process
abbrev pub names_at : TextBytes → ℕ → FileNames
names_at place number = record { beside = beside_name place number; place = place }

-- the text, which was written, is put into its place
abbrev pub placing : FileNames → List PlaceCall
placing n = call.Sync true ∷ call.Rename n.beside n.place true ∷ []

-- it is given up
abbrev pub giving_up : FileNames → List PlaceCall
giving_up n = call.Remove n.beside ∷ []

-- it didn't reach the disk, and is given up
abbrev pub failed_sync : FileNames → List PlaceCall
failed_sync n = call.Sync false ∷ call.Remove n.beside ∷ []

-- it isn't put into its place: it didn't reach the disk, and is given up; or the renaming failed
abbrev pub failed_placing : FileNames → List (List PlaceCall)
failed_placing n = failed_sync n ∷ (call.Sync true ∷ call.Rename n.beside n.place false ∷ []) ∷ []

-- a keeper fails: the text is given up before it is whole, or isn't put into its place
abbrev pub failed_keeping : FileNames → List (List PlaceCall)
failed_keeping n = giving_up n ∷ failed_placing n

-- a keeper fails, and nothing of the text is left
abbrev pub letting_go : FileNames → List (List PlaceCall)
letting_go n = giving_up n ∷ failed_sync n ∷ []

-- ---- all calls of a service

-- a new file is made, for a place that may have one
abbrev pub making : FileNames → List PlaceCall
making n = call.Check n.place true ∷ call.Create n.beside true ∷ []

-- a new file is refused: its place can't have one, or it can't be made
abbrev pub refusing : FileNames → List (List PlaceCall)
refusing n =
    (call.Check n.place false ∷ [])
    ∷ (call.Check n.place true ∷ call.Create n.beside false ∷ [])
    ∷ []

-- no new file is made: it isn't asked for, or refused
abbrev pub unmade : FileNames → List (List PlaceCall)
unmade n = (call.Check n.place true ∷ []) ∷ refusing n

-- a new file is made, and is taken away again
abbrev pub trying : FileNames → List PlaceCall
trying n = making n ++ giving_up n

-- a journal is kept: a new file is made beside its place, reaches the disk and is renamed to the place
abbrev pub keeping : FileNames → List PlaceCall
keeping n = making n ++ placing n

-- a new file is made, and given up before or behind its way to the disk
abbrev pub making_and_letting_go : FileNames → List (List PlaceCall)
making_and_letting_go n = (making n ++ giving_up n) ∷ (making n ++ failed_sync n) ∷ []

-- a journal isn't kept, and nothing of it is left: no new file is made; or one is, and is given up before
-- or behind its way to the disk
abbrev pub leaving_nothing : FileNames → List (List PlaceCall)
leaving_nothing n = unmade n ++ making_and_letting_go n

-- the renaming fails, which comes last, and all of a journal is left
abbrev pub failing_last : FileNames → List PlaceCall
failing_last n = making n ++ (call.Sync true ∷ call.Rename n.beside n.place false ∷ [])

-- a journal isn't kept: nothing of it is left; or the renaming fails, which comes last, and all of it is
abbrev pub failing : FileNames → List (List PlaceCall)
failing n = leaving_nothing n ++ failing_last n ∷ []

-- the same, but no file is made only where one is refused
abbrev pub faulting : FileNames → List (List PlaceCall)
faulting n = refusing n ++ (making_and_letting_go n ++ failing_last n ∷ [])

-- why a journal isn't kept: memory ran out; or what a line says, and then the place of files was asked the
-- calls of one of these lists
abbrev pub WasRefused : Option (List PlaceCall) → Option (List PlaceCall) → List (List PlaceCall) → Unkept
    → Type 0
WasRefused old new calls unkept.Memory = Unit {0}
WasRefused old new calls (unkept.Said line) = AsksOneOf old new calls

-- of a journal that isn't kept nothing is left, by what the place of files was asked; or why it isn't kept
-- says where it stands
abbrev pub IsGoneOrSaysWhere : Option (List PlaceCall) → Option (List PlaceCall) → FileNames → Unkept
    → Type 0
IsGoneOrSaysWhere old new n why = AsksOneOf old new (leaving_nothing n) ⊎ SaysWhere n.place n.beside why
