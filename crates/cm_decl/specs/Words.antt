-- Promised.
-- How kinds, sections and nodes are written.
use Rattle.std.specs.Prelude.{ℕ, List, codes}
use Rattle.cm_names.specs.Child.{child_text}
use Rattle.cm_decl.specs.declared.kind.Kind.{Kind}
use Rattle.cm_decl.specs.declared.kind.Kind.TheVariants.{Protocol, Directory}
use Rattle.cm_decl.specs.declared.section.Section.{Section}
use Rattle.cm_decl.specs.declared.section.Section.TheVariants as section
use Rattle.cm_decl.specs.declared.node.Node.{Node}
use Rattle.cm_decl.specs.declared.node.Node.TheVariants.{Own, Child}

-- the word for a kind, as manifests and commands write it
abbrev pub kind_word : Kind → List ℕ
kind_word Protocol = codes "protocol"
kind_word Directory = codes "directory"

-- the word for a section, as faults tell it; the whole manifest and the realm graph have words of
-- their own
abbrev pub section_word : Section → List ℕ
section_word section.Manifest = codes "manifest"
section_word section.Program = codes "program"
section_word section.Children = codes "children"
section_word section.Collections = codes "collections"
section_word section.Capabilities = codes "capabilities"
section_word section.Uses = codes "use"
section_word section.Offers = codes "offer"
section_word section.Exposes = codes "expose"
section_word section.Environments = codes "environments"
section_word section.Graph = codes "graph"

-- how a node is written: `self`, or the name of the child
abbrev pub node_text : Node → List ℕ
node_text Own = codes "self"
node_text (Child name) = child_text name
