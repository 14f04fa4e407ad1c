-- Promised.
-- Lists of names that share their prefixes.
use Rattle.std.specs.Prelude.{◌≡◌, ◌+◌, List, [], ◌∷◌, ◌++◌, length}
use Rattle.cm_names.specs.declared.child.ChildName.{ChildName}
use Rattle.cm_names.specs.declared.link.NameLink.{NameLink, Root, Below'}
use Rattle.cm_names.specs.declared.chain.Kept.{Kept}
use Rattle.cm_names.specs.declared.chain.Kept.TheVariants as kept

-- the names up to a link
abbrev pub names_of : NameLink → List ChildName
names_of Root = []
names_of (Below' p above name depth) = names_of above ++ name ∷ []

-- each link says how many names there are up to it
abbrev pub IsDeep : NameLink → Type 0
IsDeep Root = Unit {0}
IsDeep (Below' p above name depth) = IsDeep above × (depth ≡ length (names_of above) + 1)

-- the names of a chain, however they are kept
abbrev pub names_kept : Kept → List ChildName
names_kept (kept.Listed names) = names
names_kept (kept.Linked link) = names_of link

-- each link of a chain says how many names there are up to it
abbrev pub IsKeptDeep : Kept → Type 0
IsKeptDeep (kept.Listed names) = Unit {0}
IsKeptDeep (kept.Linked link) = IsDeep link
