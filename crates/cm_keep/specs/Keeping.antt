-- Inside.
-- The journal of a realm that `serve` keeps in a file, and what it means that it is kept.
use Rattle.std.specs.Prelude.{◌≡◌, ◌⊎◌, ℕ, List, [], ◌∷◌, ◌++◌, Bool, true, false}
use Rattle.std.specs.Prelude.{Option, Some, None, Result, Ok, Err}
use Rattle.std.specs.Io.KnownBytes.{Appends}
use Rattle.cm_io.specs.Outside.{Rose}
use Rattle.cm_world.specs.declared.frame.Frame.{Frame}
use Rattle.cm_world.specs.declared.reply.Entry.{Entry}
use Rattle.cm_reply.specs.Lists.{TextBytes}
use Rattle.cm_reply.specs.Journal.{journal_text}
use Rattle.cm_keep.specs.declared.keep.KeepFault.{KeepFault}
use Rattle.cm_keep.specs.declared.keep.KeepFault.TheVariants as fault

-- ---- the text

-- what a realm with this root and without builtins is made with; a journal tells no limits, so they
-- are 0
abbrev pub rooted : TextBytes → Frame
rooted root = record { root = root; builtins = []; limits = record { rows = 0; entries = 0 } }

-- the journal of a realm with this root and this history
abbrev pub kept_text : TextBytes → List Entry → TextBytes
kept_text root history = journal_text (rooted root) history

-- the journal of a realm without builtins is this, whatever its limits are
abbrev pub LimitsAreUntold : Type 0
LimitsAreUntold =
    (f : Frame) (history : List Entry) → f.builtins ≡ [] → journal_text f history ≡ kept_text f.root history

-- ---- its place

-- a text was put into the journal's place, after those that were put there before, where these are
-- known
abbrev pub PutsUp : Option TextBytes → Option (List TextBytes) → Option (List TextBytes) → Type 0
PutsUp None old new = Unit {0}
PutsUp (Some text) None new = Unit {0}
PutsUp (Some text) (Some texts) new = new ≡ Some (texts ++ text ∷ [])

-- this text was added to what had been handed over, and all of that was put into the journal's place, where
-- it stands
abbrev pub IsKept : Option TextBytes → Option (List TextBytes) → Option (List TextBytes) →
    (Option TextBytes → Type 0) → TextBytes → Type 0
IsKept draft old new Stands text =
    (whole : Option TextBytes) × Appends draft whole text × PutsUp whole old new × Stands whole

-- what is held after the keeping of a text: nothing; or, where the keeper failed, all of it, which couldn't
-- be put into the place
abbrev pub IsLeft : Type 0 → Option TextBytes → Option TextBytes → TextBytes → Result (Unit {0}) KeepFault
    → Type 0
IsLeft cleared old new text result = cleared ⊎ ((result ≡ Err fault.Failed) × Appends old new text)

-- ---- its pieces

-- a text was added to what is held back; a first part of both was handed over, and the rest is held
-- back
pub record Passes (old new : Option TextBytes) (held_old held_new text : TextBytes) : Type 0 where
  pub given : TextBytes
  pub handed : Appends old new given
  pub all : given ++ held_new ≡ held_old ++ text

-- ---- faults

-- a count of faults rose where a call failed, and else stayed
abbrev pub Counted : ℕ → ℕ → Bool → Type 0
Counted before now true = now ≡ before
Counted before now false = Rose before now

-- the count rose where the keeper failed, and else stayed
abbrev pub Caused : ℕ → ℕ → Result (Unit {0}) KeepFault → Type 0
Caused before now (Ok done) = now ≡ before
Caused before now (Err fault.Failed) = Rose before now
Caused before now (Err fault.Memory) = now ≡ before
