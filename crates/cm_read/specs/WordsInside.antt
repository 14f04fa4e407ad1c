-- Inside.
-- Readers of fields that several fields share: those that say one of two words, as `startup` says `lazy` or
-- `eager`, and those that say `parent` alone.
use Rattle.std.specs.Prelude.{ℕ, List, Bool, true, false, Option, Some, None}
use Rattle.std.specs.Prelude.{if◌then◌else◌}
use Rattle.std.specs.Str.{bytes_eq}
use Rattle.serde_json.specs.Data.{Data}
use Rattle.serde_json.specs.Find.{get}
use Rattle.cm_read.specs.declared.fault.ItemPlace.{ItemPlace}
use Rattle.cm_read.specs.Reading.{ReadResult}
use Rattle.cm_read.specs.Fields.{or_default, listed_at}
use Rattle.cm_read.specs.Words.{expose_target_named}

-- which of two words the text is: false for the first, true for the second, none for any other text
abbrev pub flag_named : List ℕ → List ℕ → List ℕ → Option Bool
flag_named off on t =
    if bytes_eq t off then Some false
    else if bytes_eq t on then Some true
    else None

-- a field with one of two words; the first is the default
abbrev pub flag_at : List ℕ → List ℕ → List ℕ → ItemPlace → Data → ReadResult Bool
flag_at key off on at d = or_default (get key d) false (listed_at (flag_named off on) at key)

-- a field that may say `parent` alone, which is the default
abbrev pub parent_alone : List ℕ → ItemPlace → Data → ReadResult (Unit {0})
parent_alone key at d = or_default (get key d) tt (listed_at expose_target_named at key)
