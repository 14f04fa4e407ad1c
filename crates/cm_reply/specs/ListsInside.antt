-- Inside.
-- What writers of lists promise, and the text of a moniker.
use Rattle.std.specs.Prelude.{◌≡◌, List, [], ◌∷◌, ◌++◌, codes}
use Rattle.std.specs.Prelude.{String, string_bytes}
use Rattle.cm_names.specs.declared.child.ChildName.{ChildName}
use Rattle.cm_names.specs.Child.{child_text}
use Rattle.cm_reply.specs.Lists.{TextBytes, each_behind}

-- the string has grown by that text
abbrev pub GainsText : {Z : Type 0} → String Z → String Z → TextBytes → Type 0
GainsText old new text = string_bytes new ≡ string_bytes old ++ text

-- a moniker's names with slashes between them; a dot where it has none
abbrev pub parts_text : List ChildName → TextBytes
parts_text [] = codes "."
parts_text (part ∷ parts) = child_text part ++ each_behind (codes "/") child_text parts
