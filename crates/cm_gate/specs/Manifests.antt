-- Inside.
-- Manifests that are kept in memory, by their URLs.
use Rattle.std.specs.Prelude.{ℕ, List, find, Option, Some, None}
use Rattle.std.specs.Str.{bytes_eq}
use Rattle.cm_gate.specs.declared.asked.Fetched.{Fetched}
use Rattle.cm_gate.specs.declared.asked.Fetched.TheVariants as fetched
use Rattle.cm_gate.specs.declared.manifests.Manifest.{Manifest}

-- what a fetch gives, by the manifest that was looked up
abbrev pub found : Option Manifest → Fetched
found None = fetched.Absent
found (Some m) = fetched.Found m.bytes

-- what a fetch of this URL gives: the bytes of the first manifest that has it
abbrev pub manifest_at : List ℕ → List Manifest → Fetched
manifest_at url manifests = found (find (λ m. bytes_eq m.url url) manifests)
