-- Promised.
-- What a text is seen as, wherever its bytes stand.
use Rattle.std.specs.Prelude.{ℕ, List, string_bytes}
use Rattle.cm_names.specs.declared.text.Stored.{Stored}
use Rattle.std.specs.Arc.{arc_value}
use Rattle.cm_names.specs.declared.text.Stored.TheVariants.{Inline, Small, Large}

-- the bytes of a text, wherever they are kept: in place, or shared
abbrev pub stored_bytes : Stored → List ℕ
stored_bytes (Inline short) = short.bytes
stored_bytes (Small shared) = (arc_value shared).bytes
stored_bytes (Large shared) = string_bytes (arc_value shared)
