-- Inside.
-- Parts of what is read of offers, exposes and declarations, for the functions that read in steps.
use Rattle.std.specs.Prelude.{ℕ, List, ◌++◌, filter_map, codes, Ok, Option, Bool}
use Rattle.serde_json.specs.Data.{Data}
use Rattle.cm_names.specs.Rights.{RightSet}
use Rattle.cm_names.specs.declared.dependency.Dependency.{Dependency}
use Rattle.cm_names.specs.declared.availability.Availability.{Availability}
use Rattle.cm_decl.specs.declared.kind.Kind.{Kind}
use Rattle.cm_decl.specs.declared.origin.Origin.{Origin}
use Rattle.cm_decl.specs.declared.rows.Child.{Child}
use Rattle.cm_decl.specs.declared.decl.Decl.{Decl}
use Rattle.cm_read.specs.declared.fault.ItemPlace.{ItemPlace}
use Rattle.cm_read.specs.declared.rows.AskedTerms.{AskedTerms}
use Rattle.cm_read.specs.declared.rows.Terms.{Terms}
use Rattle.cm_read.specs.declared.rows.CapabilityRow.{CapabilityRow}
use Rattle.cm_read.specs.declared.rows.UseRow.{UseRow}
use Rattle.cm_read.specs.declared.rows.OfferRow.{OfferRow}
use Rattle.cm_names.specs.Steps.{◌>>=◌}
use Rattle.cm_read.specs.Reading.{ReadResult}
use Rattle.cm_read.specs.ReadingInside.{GivesReading}
use Rattle.cm_read.specs.Fields.{subdir_at}
use Rattle.cm_read.specs.Words.{given_availability_at, source_unknown_at, settled}
use Rattle.cm_read.specs.Items.{as_at, given_rights_at}
use Rattle.cm_read.specs.Items.{capability_in, storage_in, usage_in, debug_use_in, storage_use_in, offer_in}
use Rattle.cm_read.specs.Items.{storage_offer_in}

-- ---- offers and exposes

-- the terms of an offer or an expose, of their parts
abbrev pub asked_with : Option (List ℕ) → Option RightSet → Option (List ℕ) → Dependency → Availability
    → Bool → AskedTerms
asked_with target rights subdir dependency availability unknown = record {
  target = target;
  rights = rights;
  subdir = subdir;
  dependency = dependency;
  availability = availability;
  unknown = unknown;
}

-- the terms of an offer or an expose: all of its fields but the names, the source and the targets; the
-- dependency was read before
unfoldable pub asked_at : ReadResult Dependency → ItemPlace → List (List ℕ) → Data → ReadResult AskedTerms
asked_at dependency at names d = do
  target ← as_at at names d
  rights ← given_rights_at at d
  subdir ← subdir_at at (codes "subdir") d
  dependency ← dependency
  availability ← given_availability_at at d
  unknown ← source_unknown_at at d
  Ok (asked_with target rights subdir dependency availability unknown)

-- what a function read as the terms is right wherever the dependency was read rightly
abbrev pub GivesAsked : ReadResult Dependency → ItemPlace → List (List ℕ) → Data → ReadResult AskedTerms
    → Type 0
GivesAsked dependency at names d result =
    (wanted : ReadResult Dependency) → GivesReading dependency wanted
    → GivesReading result (asked_at wanted at names d)

-- the terms of an item of this kind and source, where a source that may be missing is settled by the
-- declared children
abbrev pub terms_by : Kind → List Child → Origin → AskedTerms → Terms
terms_by k children from asked = record {
  kind = k;
  from = settled children asked.unknown from;
  target = asked.target;
  rights = asked.rights;
  subdir = asked.subdir;
  dependency = asked.dependency;
  availability = asked.availability;
}

-- ---- declarations

-- the declaration with these rows at the ends of its lists
abbrev pub with_rows : Decl → List CapabilityRow → List UseRow → List OfferRow → Decl
with_rows decl capabilities uses offers = record decl {
  capabilities = decl.capabilities ++ filter_map capability_in capabilities;
  storages = decl.storages ++ filter_map storage_in capabilities;
  uses = decl.uses ++ filter_map usage_in uses;
  debug_uses = decl.debug_uses ++ filter_map debug_use_in uses;
  storage_uses = decl.storage_uses ++ filter_map storage_use_in uses;
  offers = decl.offers ++ filter_map offer_in offers;
  storage_offers = decl.storage_offers ++ filter_map storage_offer_in offers;
}
