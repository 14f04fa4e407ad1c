-- Inside.
-- Gates that let callers meet, which tests use, as contracts see them.
use Rattle.std.specs.Prelude.{ℕ, List}
use Rattle.cm_gate.specs.declared.asked.Fetched.{Fetched}
use Rattle.cm_gate.specs.declared.asked.Fetched.TheVariants as fetched
use Rattle.cm_gate.specs.declared.manifests.Manifest.{Manifest}

-- one caller's gates: the word that it raises and the one that it looks at, what it knows, and how often its
-- gates failed
pub record MeetingView (W : Type 0) : Type 0 where
  pub own : W
  pub other : W
  pub manifests : List Manifest
  pub faults : ℕ

-- an answer of a fetch, but that it failed or that memory ran out, comes only where the two met
abbrev pub FindsMet : Type 0 → Fetched → Type 0
FindsMet met (fetched.Found bytes) = met
FindsMet met fetched.Absent = met
FindsMet met fetched.Failed = Unit {0}
FindsMet met fetched.Memory = Unit {0}
