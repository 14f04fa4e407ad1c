-- Inside.
-- What a report keeps of a storage for all children of one row: the text of their places, but for the
-- child's own name.
use Rattle.std.specs.Prelude.{ℕ, List, ◌++◌, codes, flat_map}
use Rattle.cm_names.specs.declared.child.ChildName.{ChildName}
use Rattle.cm_names.specs.Child.{child_text}
use Rattle.cm_world.specs.declared.route.Provider.{Provider}
use Rattle.cm_reply.specs.Lists.{TextBytes}
use Rattle.cm_reply.specs.Routes.{source_text}
use Rattle.cm_storage.specs.declared.fault.StorageFault.{StorageFault}
use Rattle.cm_storage.specs.declared.known.KnownPlace.{KnownPlace}
use Rattle.cm_storage.specs.declared.known.KnownPlace.TheVariants.{Refused, Stands}
use Rattle.cm_storage.specs.declared.places.Place.{Place}
use Rattle.cm_storage.specs.Report.{fault_text}

-- the folders of these names: each name's, and the one in it for its children
abbrev pub folders_text : List ChildName → TextBytes
folders_text names = flat_map (λ c. child_text c ++ codes "/children/") names

-- the text of a place up to the child's own folder
abbrev pub head_of : TextBytes → List ChildName → TextBytes
head_of base names = codes " at " ++ (base ++ (codes "/" ++ folders_text names))

-- the text of a place after the child's folder: what provides the directory
abbrev pub tail_of : Provider → TextBytes
tail_of provider = codes " in " ++ source_text provider

-- no child of the row has a place, by this fault
abbrev pub refused : StorageFault → KnownPlace
refused e = Refused (codes " refused " ++ fault_text e)

-- children of the row have places beside this one; the row is below the owner by these names
abbrev pub stands : Place → List ChildName → KnownPlace
stands place names = Stands (head_of place.base names) (tail_of place.provider)

-- what is told of the child of this name
abbrev pub told_below : KnownPlace → ChildName → TextBytes
told_below (Refused words) c = words
told_below (Stands head tail) c = head ++ (child_text c ++ (codes "/data" ++ tail))

-- what is kept for the children of the child with this name
abbrev pub known_below : KnownPlace → ChildName → KnownPlace
known_below (Refused words) c = Refused words
known_below (Stands head tail) c = Stands (head ++ (child_text c ++ codes "/children/")) tail
