-- Inside.
-- The keys that an object of a manifest may have.
use Rattle.std.specs.Prelude.{ℕ, List}
use Rattle.cm_read.specs.declared.known.Object.{Object}
use Rattle.cm_read.specs.declared.known.Object.TheVariants as object
use Rattle.cm_read.specs.Manifest.{section_names}
use Rattle.cm_read.specs.Items.{child_fields, collection_fields, capability_fields, use_fields, offer_fields}
use Rattle.cm_read.specs.Items.{expose_fields}
use Rattle.cm_read.specs.Environments.{registration_fields, environment_fields}

-- the keys that are known in an object: the sections of the manifest, or the fields of an item
abbrev pub keys_of : Object → List (List ℕ)
keys_of object.Manifest = section_names
keys_of object.Child = child_fields
keys_of object.Collection = collection_fields
keys_of (object.Capability sort) = capability_fields sort
keys_of (object.Use sort) = use_fields sort
keys_of (object.Offer sort) = offer_fields sort
keys_of (object.Expose kind) = expose_fields kind
keys_of object.Environment = environment_fields
keys_of (object.Registration which) = registration_fields which
