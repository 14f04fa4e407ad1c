-- Inside.
-- What it means that a journal stands in a file.
use Rattle.std.specs.Prelude.{◌≡◌, ◌≢◌, ℕ, List, [], ◌++◌, codes, decimal, Option}
use Rattle.std.specs.Io.KnownBytes.{Appends}
use Rattle.cm_world.specs.declared.reply.Entry.{Entry}
use Rattle.cm_reply.specs.Lists.{TextBytes}
use Rattle.cm_keep.specs.declared.service.Unkept.{Unkept}
use Rattle.cm_keep.specs.declared.service.Unkept.TheVariants as unkept

-- a file may have this name, as far as the name tells: it isn't empty, and doesn't end in a slash
abbrev pub MayNameFile : TextBytes → Type 0
MayNameFile name = (name ≢ []) × ((folder : TextBytes) → name ≢ folder ++ codes "/")

-- the name of the new file of a journal: its place, the number of the process and `.new`, with dots between
abbrev pub beside_name : TextBytes → ℕ → TextBytes
beside_name place number = place ++ (codes "." ++ (decimal number ++ codes ".new"))

-- all bytes of a text were written into a new file of the first name, which reached the disk and got the
-- second one then
pub record StandsAt {D : Type 0} (contents : D → Option TextBytes) (created : TextBytes → D → Type 0)
    (synced : D → Type 0) (renamed : TextBytes → TextBytes → Type 0) (beside name text : TextBytes)
    : Type 0 where
  pub empty : D
  pub whole : D
  pub creates : created beside empty
  pub writes : Appends (contents empty) (contents whole) text
  pub syncs : synced whole
  pub renames : renamed beside name

-- a service failed before anything happened in it: so there is nothing to keep
abbrev pub NeverBegan : ℕ → List Entry → Type 0
NeverBegan status history = (status ≢ 0) × (history ≡ [])

-- a new file of this name was made, and it was asked for that nothing has that name any more
abbrev pub IsTried : {D : Type 0} → (TextBytes → D → Type 0) → (TextBytes → Type 0) → TextBytes → Type 0
IsTried {D} created unnamed beside = (file : D) × created beside file × unnamed beside

-- ---- what is told where none stands there

-- the line tells of a fault with the journal at this path, and more, as why
abbrev pub IsFaultLine : TextBytes → TextBytes → Type 0
IsFaultLine place line =
    (told : TextBytes) × (line ≡ codes "journal fault: " ++ (place ++ (told ++ codes "\n")))

-- the line tells at its end under which name the whole journal stands, which couldn't get its own
abbrev pub TellsWhere : TextBytes → TextBytes → TextBytes → Type 0
TellsWhere place beside line = (why : TextBytes) × (line
    ≡ codes "journal fault: " ++ (place ++ ((why ++ (codes "; it stands in " ++ beside)) ++ codes "\n")))

-- why there is no journal at this path: lack of memory, or what such a line says
abbrev pub SaysWhyUnkept : TextBytes → Unkept → Type 0
SaysWhyUnkept place unkept.Memory = Unit {0}
SaysWhyUnkept place (unkept.Said line) = IsFaultLine place line

-- why there is no journal at this path though the whole of it stands under the other name: lack of memory,
-- or what a line says that names both
abbrev pub SaysWhere : TextBytes → TextBytes → Unkept → Type 0
SaysWhere place beside unkept.Memory = Unit {0}
SaysWhere place beside (unkept.Said line) = TellsWhere place beside line
