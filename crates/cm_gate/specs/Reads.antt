-- Inside.
-- What was read of a folder's files, as manifests are fetched.
use Rattle.std.specs.Prelude.{◌≡◌, ◌≢◌, ◌⊎◌, ℕ, List, take, Option, Some, None}
use Rattle.std.specs.declared.io.ErrorKind.{ErrorKind}
use Rattle.std.specs.declared.io.ErrorKind.TheVariants.{NotFound, NotADirectory, OutOfMemory}
use Rattle.cm_gate.specs.Places.{place_of_fetch}
use Rattle.cm_gate.specs.declared.asked.Fetch.{Fetch}
use Rattle.cm_gate.specs.declared.asked.Fetched.{Fetched}
use Rattle.cm_gate.specs.declared.asked.Fetched.TheVariants as fetched

-- these are the bytes that were left, up to a limit; nothing is said where it isn't known what was
-- left
abbrev pub IsPrefix : ℕ → Option (List ℕ) → List ℕ → Type 0
IsPrefix limit None bytes = Unit {0}
IsPrefix limit (Some left) bytes = bytes ≡ take limit left

-- an open file was read and broke, for another reason than that memory ran out
pub record IsUnread {File : Type 0} (broken : File → ErrorKind → Type 0) (file : File) : Type 0 where
  pub kind : ErrorKind
  pub breaks : broken file kind
  pub other : kind ≢ OutOfMemory

-- what a fetch found in an open file: what was read of it, or a failure where it broke, but never that
-- there is none
abbrev pub FindsIn : {File : Type 0} → (File → Option (List ℕ)) → (File → ErrorKind → Type 0) → File →
    Fetched → Type 0
FindsIn left broken file (fetched.Found bytes) = IsPrefix 1048577 (left file) bytes
FindsIn left broken file fetched.Absent = ⊥
FindsIn left broken file fetched.Failed = IsUnread broken file
FindsIn left broken file fetched.Memory = Unit {0}

-- a file was opened at this place of the folder, and these bytes were read of it
pub record IsReadAt {F File : Type 0} (opened : F → List ℕ → File → Type 0)
    (left : File → Option (List ℕ)) (folder : F) (place bytes : List ℕ) : Type 0 where
  pub file : File
  pub opens : opened folder place file
  pub prefix : IsPrefix 1048577 (left file) bytes

-- the error says that there is no such file
abbrev pub IsMissing : ErrorKind → Type 0
IsMissing kind = (kind ≡ NotFound) ⊎ (kind ≡ NotADirectory)

-- no file could be opened at this place of the folder, since there is none
pub record IsMissedAt {F : Type 0} (refused : F → List ℕ → ErrorKind → Type 0) (folder : F) (place : List ℕ)
    : Type 0 where
  pub kind : ErrorKind
  pub refuses : refused folder place kind
  pub missing : IsMissing kind

-- looking at a place of a folder failed: no file was opened there, for another reason than that there is
-- none or that memory ran out; or one was opened, and broke as it was read
pub data FailsAt {F File : Type 0} (opened : F → List ℕ → File → Type 0)
    (refused : F → List ℕ → ErrorKind → Type 0) (broken : File → ErrorKind → Type 0)
    (folder : F) (place : List ℕ) : Type 0 where
  not_opened : (kind : ErrorKind) → refused folder place kind → (IsMissing kind → ⊥) → kind ≢ OutOfMemory
      → FailsAt opened refused broken folder place
  not_read : (file : File) → opened folder place file → IsUnread broken file
      → FailsAt opened refused broken folder place

-- this holds of the place where the manifest of a fetch is looked for
pub record AtPlaceOf (what : Fetch) (There : List ℕ → Type 0) : Type 0 where
  pub place : List ℕ
  pub looks : place_of_fetch what ≡ Some place
  pub there : There place

-- what was found at a place of a folder is what was read of the file that was opened there, nothing is there
-- only where the opening told so, and looking there fails only where the opening failed or the file broke
abbrev pub FindsAt : {F File : Type 0} → (F → List ℕ → File → Type 0) → (F → List ℕ → ErrorKind → Type 0) →
    (File → Option (List ℕ)) → (File → ErrorKind → Type 0) → F → List ℕ → Fetched → Type 0
FindsAt opened refused left broken folder place (fetched.Found bytes) =
    IsReadAt opened left folder place bytes
FindsAt opened refused left broken folder place fetched.Absent = IsMissedAt refused folder place
FindsAt opened refused left broken folder place fetched.Failed = FailsAt opened refused broken folder place
FindsAt opened refused left broken folder place fetched.Memory = Unit {0}

-- what a fetch found in a folder: the same at the place of its URL; there is nothing where the URL has
-- no place
abbrev pub FindsFile : {F File : Type 0} → (F → List ℕ → File → Type 0) → (F → List ℕ → ErrorKind → Type 0) →
    (File → Option (List ℕ)) → (File → ErrorKind → Type 0) → F → Fetch → Fetched → Type 0
FindsFile opened refused left broken folder what (fetched.Found bytes) =
    AtPlaceOf what (λ place. IsReadAt opened left folder place bytes)
FindsFile opened refused left broken folder what fetched.Absent =
    (place_of_fetch what ≡ None) ⊎ AtPlaceOf what (λ place. IsMissedAt refused folder place)
FindsFile opened refused left broken folder what fetched.Failed =
    AtPlaceOf what (λ place. FailsAt opened refused broken folder place)
FindsFile opened refused left broken folder what fetched.Memory = Unit {0}
