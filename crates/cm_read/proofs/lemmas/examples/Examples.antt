-- Rows, computed from the definition.
use Rattle.std.proofs.Common.{◌≡◌, codes, Ok, Err, Some, None, true, false, [], ◌∷◌, refl, replicate, ◌++◌, ℕ, List, length, nat_lt, nat_le}
use Rattle.cm_decl.specs.Examples.{no_decl}
use Rattle.cm_decl.specs.declared.section.Section.TheVariants as section
use Rattle.cm_decl.specs.declared.kind.Kind.TheVariants as kind
use Rattle.cm_decl.specs.declared.origin.Origin.TheVariants as origin
use Rattle.cm_names.specs.declared.dependency.Dependency.TheVariants as dependency
use Rattle.cm_names.specs.declared.availability.Availability.TheVariants as availability
use Rattle.cm_names.specs.Rights.{reading}
use Rattle.cm_read.specs.Sections.{rows_at, section_at}
use Rattle.cm_read.specs.Reading.{ReadResult, bad, start}
use Rattle.serde_json.specs.Data.{Data, Items, array}
use Rattle.cm_decl.specs.declared.section.Section.{Section}
use Rattle.cm_read.specs.declared.fault.ItemPlace.{ItemPlace}
use Rattle.cm_read.specs.Manifest.{decl_of_text, decl_of_bytes}
use Rattle.cm_read.proofs.lemmas.examples.OnLiterals.{read_on_literals}

-- A text that ends within an array is no JSON (fault 31).
pub unclosed_row : decl_of_text (codes "{\"children\":[") ≡ Err (bad (record { section = section.Manifest; index = 0 }) 31 [])
unfolding read_on_literals
unclosed_row = refl

-- A child with a field `colour`, which children don't have, has fault 33 for it.
pub colour_row : decl_of_text (codes "{\"children\":[{\"name\":\"a\",\"url\":\"#meta/a.cm\",\"colour\":\"red\"}]}") ≡ Err (bad (record { section = section.Children; index = 0 }) 33 (codes "colour"))
unfolding read_on_literals
colour_row = refl

-- A text with a stray slash behind its object is no JSON (fault 31).
pub stray_row : decl_of_text (codes "{a:1}/") ≡ Err (bad (record { section = section.Manifest; index = 0 }) 31 [])
unfolding read_on_literals
stray_row = refl

-- A manifest that is an array is no object (fault 32).
pub list_row : decl_of_text (codes "[]") ≡ Err (bad (record { section = section.Manifest; index = 0 }) 32 [])
unfolding read_on_literals
list_row = refl

-- Of two unknown sections the first in byte order is told (fault 33), and `facets` is known.
pub section_row : decl_of_text (codes "{zzz:1,nope:2,facets:3}") ≡ Err (bad (record { section = section.Manifest; index = 0 }) 33 (codes "nope"))
unfolding read_on_literals
section_row = refl

-- A `program` that is an array has fault 35.
pub program_row : decl_of_text (codes "{program:[]}") ≡ Err (bad (record { section = section.Program; index = 0 }) 35 [])
unfolding read_on_literals
program_row = refl

-- A program without a runner has fault 34, which is told before a fault in `children`.
pub runner_row : decl_of_text (codes "{program:{binary:\"b\"},children:3}") ≡ Err (bad (record { section = section.Program; index = 0 }) 34 (codes "runner"))
unfolding read_on_literals
runner_row = refl

-- A runner whose name begins with a hyphen has fault 36.
pub runner_name_row : decl_of_text (codes "{program:{runner:\"-x\"}}") ≡ Err (bad (record { section = section.Program; index = 0 }) 36 (codes "runner"))
unfolding read_on_literals
runner_name_row = refl

-- A `children` that is an object has fault 35, which is told before a fault in `use`.
pub section_type_row : decl_of_text (codes "{children:{},use:3}") ≡ Err (bad (record { section = section.Children; index = 0 }) 35 [])
unfolding read_on_literals
section_type_row = refl

-- An item of `children` that is a number has fault 35 at its index.
pub item_row : decl_of_text (codes "{children:[{name:\"a\",url:\"u\"},3]}") ≡ Err (bad (record { section = section.Children; index = 1 }) 35 [])
unfolding read_on_literals
item_row = refl

-- A child without a name has fault 34.
pub missing_row : decl_of_text (codes "{children:[{url:\"u\"}]}") ≡ Err (bad (record { section = section.Children; index = 0 }) 34 (codes "name"))
unfolding read_on_literals
missing_row = refl

-- Of a repeated field the last value counts, so an empty name behind a good one has fault 36.
pub last_key_row : decl_of_text (codes "{children:[{name:\"a\",name:\"\",url:\"u\"}]}") ≡ Err (bad (record { section = section.Children; index = 0 }) 36 (codes "name"))
unfolding read_on_literals
last_key_row = refl

-- A child whose URL has a space in it has fault 36.
pub url_row : decl_of_text (codes "{children:[{name:\"a\",url:\"a b\"}]}") ≡ Err (bad (record { section = section.Children; index = 0 }) 36 (codes "url"))
unfolding read_on_literals
url_row = refl

-- A child whose `startup` is an unknown word has fault 39.
pub startup_row : decl_of_text (codes "{children:[{name:\"a\",url:\"u\",startup:\"soon\"}]}") ≡ Err (bad (record { section = section.Children; index = 0 }) 39 (codes "startup"))
unfolding read_on_literals
startup_row = refl

-- A collection without `durability` has fault 34, which is told before a fault in `allowed_offers`.
pub durability_row : decl_of_text (codes "{collections:[{name:\"a\",allowed_offers:1}]}") ≡ Err (bad (record { section = section.Collections; index = 0 }) 34 (codes "durability"))
unfolding read_on_literals
durability_row = refl

-- A capability that is both a protocol and a directory has fault 40, before an unknown field.
pub kind_row : decl_of_text (codes "{capabilities:[{protocol:\"p\",directory:\"q\",zz:1}]}") ≡ Err (bad (record { section = section.Capabilities; index = 0 }) 40 [])
unfolding read_on_literals
kind_row = refl

-- A use that tells no kind has fault 40, which is told before that of an unknown field.
pub no_kind_row : decl_of_text (codes "{use:[{zz:1}]}") ≡ Err (bad (record { section = section.Uses; index = 0 }) 40 [])
unfolding read_on_literals
no_kind_row = refl

-- A protocol with rights has fault 33, since protocols have no such field.
pub protocol_rights_row : decl_of_text (codes "{capabilities:[{protocol:\"p\",rights:[\"r*\"]}]}") ≡ Err (bad (record { section = section.Capabilities; index = 0 }) 33 (codes "rights"))
unfolding read_on_literals
protocol_rights_row = refl

-- A protocol whose path has a part of two dots has fault 37.
pub path_row : decl_of_text (codes "{capabilities:[{protocol:\"p\",path:\"/a/../b\"}]}") ≡ Err (bad (record { section = section.Capabilities; index = 0 }) 37 (codes "path"))
unfolding read_on_literals
path_row = refl

-- A path beside several protocols has fault 42.
pub many_row : decl_of_text (codes "{capabilities:[{protocol:[\"p\",\"q\"],path:\"/a\"}]}") ≡ Err (bad (record { section = section.Capabilities; index = 0 }) 42 (codes "path"))
unfolding read_on_literals
many_row = refl

-- A path beside several protocols that isn't one has fault 37 rather than 42.
pub bad_many_row : decl_of_text (codes "{capabilities:[{protocol:[\"p\",\"q\"],path:\"a\"}]}") ≡ Err (bad (record { section = section.Capabilities; index = 0 }) 37 (codes "path"))
unfolding read_on_literals
bad_many_row = refl

-- Rights that are a text and no list have fault 35.
pub rights_type_row : decl_of_text (codes "{capabilities:[{directory:\"d\",path:\"/d\",rights:\"r*\"}]}") ≡ Err (bad (record { section = section.Capabilities; index = 0 }) 35 (codes "rights"))
unfolding read_on_literals
rights_type_row = refl

-- An empty list of rights has fault 38.
pub no_rights_row : decl_of_text (codes "{capabilities:[{directory:\"d\",path:\"/d\",rights:[]}]}") ≡ Err (bad (record { section = section.Capabilities; index = 0 }) 38 (codes "rights"))
unfolding read_on_literals
no_rights_row = refl

-- Rights whose words name the same right twice have fault 38.
pub twice_rights_row : decl_of_text (codes "{capabilities:[{directory:\"d\",path:\"/d\",rights:[\"r*\",\"connect\",\"r*\"]}]}") ≡ Err (bad (record { section = section.Capabilities; index = 0 }) 38 (codes "rights"))
unfolding read_on_literals
twice_rights_row = refl

-- An empty list of protocols has fault 35.
pub no_names_row : decl_of_text (codes "{use:[{protocol:[]}]}") ≡ Err (bad (record { section = section.Uses; index = 0 }) 35 (codes "protocol"))
unfolding read_on_literals
no_names_row = refl

-- In a list of names one of another type is told (fault 35) before one that is no name.
pub type_first_row : decl_of_text (codes "{use:[{protocol:[\"-\",3]}]}") ≡ Err (bad (record { section = section.Uses; index = 0 }) 35 (codes "protocol"))
unfolding read_on_literals
type_first_row = refl

-- A subdirectory that begins with a slash has fault 37.
pub subdir_row : decl_of_text (codes "{use:[{directory:\"d\",path:\"/d\",rights:[\"rw*\"],subdir:\"/x\"}]}") ≡ Err (bad (record { section = section.Uses; index = 0 }) 37 (codes "subdir"))
unfolding read_on_literals
subdir_row = refl

-- A use from `void` has fault 39, since uses don't allow that source.
pub void_row : decl_of_text (codes "{use:[{protocol:\"p\",from:\"void\"}]}") ≡ Err (bad (record { section = section.Uses; index = 0 }) 39 (codes "from"))
unfolding read_on_literals
void_row = refl

-- An offer from `#` alone has fault 36, since no name follows the mark.
pub from_row : decl_of_text (codes "{offer:[{protocol:\"p\",to:\"#a\",from:\"#\"}]}") ≡ Err (bad (record { section = section.Offers; index = 0 }) 36 (codes "from"))
unfolding read_on_literals
from_row = refl

-- Of two targets with faults that of the first is told: `#-` has no name (fault 36).
pub first_target_row : decl_of_text (codes "{offer:[{protocol:\"p\",from:\"self\",to:[\"#-\",\"x\"]}]}") ≡ Err (bad (record { section = section.Offers; index = 0 }) 36 (codes "to"))
unfolding read_on_literals
first_target_row = refl

-- A target without its mark has fault 39, before a later target's fault and that of `as`.
pub word_target_row : decl_of_text (codes "{offer:[{protocol:[\"p\",\"q\"],from:\"self\",to:[\"x\",\"#-\"],as:\"b\"}]}") ≡ Err (bad (record { section = section.Offers; index = 0 }) 39 (codes "to"))
unfolding read_on_literals
word_target_row = refl

-- A target name `as` beside several protocols has fault 42.
pub as_row : decl_of_text (codes "{offer:[{protocol:[\"p\",\"q\"],from:\"self\",to:[\"#x\"],as:\"b\"}]}") ≡ Err (bad (record { section = section.Offers; index = 0 }) 42 (codes "as"))
unfolding read_on_literals
as_row = refl

-- An expose to a child has fault 39, since exposes go to the parent alone.
pub expose_to_row : decl_of_text (codes "{expose:[{protocol:\"p\",from:\"self\",to:\"#x\"}]}") ≡ Err (bad (record { section = section.Exposes; index = 0 }) 39 (codes "to"))
unfolding read_on_literals
expose_to_row = refl

-- An expose from the parent has fault 39.
pub expose_from_row : decl_of_text (codes "{expose:[{protocol:\"p\",from:\"parent\"}]}") ≡ Err (bad (record { section = section.Exposes; index = 0 }) 39 (codes "from"))
unfolding read_on_literals
expose_from_row = refl

-- An expose with a dependency has fault 33, since exposes have no such field.
pub expose_dependency_row : decl_of_text (codes "{expose:[{protocol:\"p\",from:\"self\",dependency:\"weak\"}]}") ≡ Err (bad (record { section = section.Exposes; index = 0 }) 33 (codes "dependency"))
unfolding read_on_literals
expose_dependency_row = refl

-- A text with single quotes, trailing commas and a comment is read as its child.
pub relaxed_row : decl_of_text (codes "{children:[{name:'a',url:'#meta/a.cm'},],/* one */}") ≡ Ok (record no_decl { children = record { name = codes "a"; url = codes "#meta/a.cm"; eager = false; environment = None } ∷ [] })
unfolding read_on_literals
relaxed_row = refl

-- A manifest with `facets` alone is read as one that declares nothing.
pub empty_row : decl_of_text (codes "{facets:{x:[1]},}") ≡ Ok no_decl
unfolding read_on_literals
empty_row = refl

-- An offer of two protocols to two children is read as all four offers.
pub product_row : decl_of_text (codes "{offer:[{protocol:['p','q'],from:'#c',to:['#a','#b']}]}") ≡ Ok (record no_decl { offers = record { to = codes "a"; give = record { kind = kind.Protocol; source_name = codes "p"; from = origin.Child (record { coll = None; name = codes "c" }); target_name = codes "p"; rights = None; subdir = None; dependency = dependency.Strong; availability = availability.Required } } ∷ record { to = codes "b"; give = record { kind = kind.Protocol; source_name = codes "p"; from = origin.Child (record { coll = None; name = codes "c" }); target_name = codes "p"; rights = None; subdir = None; dependency = dependency.Strong; availability = availability.Required } } ∷ record { to = codes "a"; give = record { kind = kind.Protocol; source_name = codes "q"; from = origin.Child (record { coll = None; name = codes "c" }); target_name = codes "q"; rights = None; subdir = None; dependency = dependency.Strong; availability = availability.Required } } ∷ record { to = codes "b"; give = record { kind = kind.Protocol; source_name = codes "q"; from = origin.Child (record { coll = None; name = codes "c" }); target_name = codes "q"; rights = None; subdir = None; dependency = dependency.Strong; availability = availability.Required } } ∷ [] })
unfolding read_on_literals
product_row = refl

-- A use of a directory and an expose are read with all of their fields.
pub directory_row : decl_of_text (codes "{use:[{directory:'d',path:'/d',rights:['r*','execute'],subdir:'x/y',dependency:'weak'}],expose:[{protocol:'p',from:'framework',as:'q',to:'parent'}]}") ≡ Ok (record no_decl { uses = record { kind = kind.Directory; name = codes "d"; from = origin.Parent; path = codes "/d"; rights = Some (record reading { execute = true }); subdir = Some (codes "x/y"); dependency = dependency.Weak; availability = availability.Required } ∷ []; exposes = record { kind = kind.Protocol; source_name = codes "p"; from = origin.Framework; target_name = codes "q"; rights = None; subdir = None; dependency = dependency.Strong; availability = availability.Required } ∷ [] })
unfolding read_on_literals
directory_row = refl

-- Protocols without a path get the one that their names have by default.
pub default_path_row : decl_of_text (codes "{program:{runner:'elf',binary:3},capabilities:[{protocol:['p','q']}]}") ≡ Ok (record no_decl { runner = Some (codes "elf"); capabilities = record { kind = kind.Protocol; name = codes "p"; path = codes "/svc/p"; rights = None } ∷ record { kind = kind.Protocol; name = codes "q"; path = codes "/svc/q"; rights = None } ∷ [] })
unfolding read_on_literals
default_path_row = refl

-- a name of 255 letters is one, and one of 256 isn't
pub long_name_row : decl_of_text (codes "{children:[{url:'u',name:'" ++ (replicate 256 97 ++ codes "'}]}")) ≡ Err (bad (record { section = section.Children; index = 0 }) 36 (codes "name"))
unfolding read_on_literals
long_name_row = refl

-- A name of 255 bytes is read as a child's name.
pub name_row : decl_of_text (codes "{children:[{url:'u',name:'" ++ (replicate 255 97 ++ codes "'}]}")) ≡ Ok (record no_decl { children = record { name = replicate 255 97; url = codes "u"; eager = false; environment = None } ∷ [] })
unfolding read_on_literals
name_row = refl

-- bytes that are no text, and bytes that are one
pub bytes_row : decl_of_bytes (123 ∷ 255 ∷ []) ≡ Err (bad (start section.Manifest) 30 [])
unfolding read_on_literals
bytes_row = refl

-- Bytes that are UTF-8 beyond ASCII are read as a manifest.
pub text_row : decl_of_bytes (codes "{facets:'" ++ (195 ∷ 169 ∷ codes "'}")) ≡ Ok no_decl
unfolding read_on_literals
text_row = refl

-- A manifest with too many bytes has fault 41.
pub is_too_large : (bytes : List ℕ) → nat_lt 1048576 (length bytes) ≡ true → decl_of_bytes bytes ≡ Err (bad (start section.Manifest) 41 [])
is_too_large bytes h = rw h refl

-- A section with too many rows has fault 43.
pub has_too_many_rows : {A : Type 0} (read : ItemPlace → Data → ReadResult (List A)) (s : Section) (items : Items) (rows : List A) → rows_at read (start s) items ≡ Ok rows → nat_le (length rows) 16384 ≡ false → section_at read s (Some (array items)) ≡ Err (bad (start s) 43 [])
has_too_many_rows read s items rows e h = rw e (rw h refl)
