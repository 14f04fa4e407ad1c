-- What an answer unfolds to compute a manifest on a literal.
use Rattle.std.specs.Prelude.{⊤}
use Rattle.serde_json.proofs.OnLiterals.{serde_json_on_literals}
use Rattle.cm_text.proofs.lemmas.OnLiterals.{text_on_literals}
use Rattle.std.specs.Str.{is_utf8, chars}
use Rattle.cm_names.specs.Rights.{rights_of_word, rights_of}
use Rattle.cm_read.specs.Fields.{name_in_at, name_at, url_at, path_in_at, path_at, subdir_in_at, subdir_at}
use Rattle.cm_read.specs.Fields.{texts_at, names_at, references_at, rights_in_at, rights_at}
use Rattle.cm_read.specs.Words.{startup_named, durability_named, offers_named, dependency_named}
use Rattle.cm_read.specs.Words.{availability_named, given_availability_named, source_named}
use Rattle.cm_read.specs.Words.{use_origin_named, expose_origin_named, offer_origin_named}
use Rattle.cm_read.specs.Words.{static_origin_named, storage_origin_named, extends_named, storage_id_named}
use Rattle.cm_read.specs.Words.{expose_target_named, startup_at, durability_at, allowed_offers_at}
use Rattle.cm_read.specs.Words.{dependency_at, availability_at, given_availability_at, source_unknown_at}
use Rattle.cm_read.specs.Words.{expose_to_at, use_from_in_at, offer_from_in_at, expose_from_in_at}
use Rattle.cm_read.specs.Words.{use_from_at, offer_from_at, expose_from_at, use_source_in_at, use_source_at}
use Rattle.cm_read.specs.Words.{static_from_in_at, static_from_at, storage_from_at, storage_use_from_at}
use Rattle.cm_read.specs.Words.{extends_at, storage_id_at, environment_in_at, environment_at}
use Rattle.cm_read.specs.Items.{storage_name_at, backing_at}
use Rattle.cm_read.specs.Items.{child_at, collection_at, kind_at, sort_at, directory_name_at, item_names_at}
use Rattle.cm_read.specs.Items.{storage_names_at, protocol_path_in_at, protocol_path_at}
use Rattle.cm_read.specs.Items.{protocol_capability_at, directory_capability_at, storage_at, capability_at}
use Rattle.cm_read.specs.Items.{protocol_use_at, directory_use_at, storage_use_at, use_at, as_in_at, as_at}
use Rattle.cm_read.specs.Items.{given_rights_at, targets_at, routed_offer_at, storage_offer_at, offer_at}
use Rattle.cm_read.specs.Items.{child_row_at, collection_row_at, protocols_used_at, offered_at}
use Rattle.cm_read.specs.Items.{storages_offered_at, exposed_at, expose_at}
use Rattle.cm_read.specs.Environments.{runner_names_at, registration_at, registry_in_at, registry_at}
use Rattle.cm_read.specs.Environments.{registered_at, environment_row_at, environment_item_at}
use Rattle.cm_read.specs.Manifest.{program_at, runner_at, sections_at, children_at, section_rows_at}
use Rattle.cm_read.specs.Manifest.{decl_at}

-- What is unfolded so that what a literal manifest is read as can be computed.
unfoldable pub read_on_literals : ⊤
unfolding serde_json_on_literals text_on_literals is_utf8 chars rights_of_word rights_of name_in_at name_at url_at path_in_at path_at subdir_in_at subdir_at texts_at names_at references_at rights_in_at rights_at startup_named durability_named offers_named dependency_named availability_named given_availability_named source_named use_origin_named expose_origin_named offer_origin_named static_origin_named storage_origin_named extends_named storage_id_named expose_target_named startup_at durability_at allowed_offers_at dependency_at availability_at given_availability_at source_unknown_at expose_to_at use_from_in_at offer_from_in_at expose_from_in_at use_from_at offer_from_at expose_from_at use_source_in_at use_source_at static_from_in_at static_from_at storage_from_at storage_use_from_at extends_at storage_id_at environment_in_at environment_at child_row_at child_at collection_row_at collection_at kind_at sort_at directory_name_at item_names_at storage_name_at backing_at storage_names_at protocol_path_in_at protocol_path_at protocol_capability_at directory_capability_at storage_at capability_at protocols_used_at protocol_use_at directory_use_at storage_use_at use_at as_in_at as_at given_rights_at targets_at offered_at routed_offer_at storages_offered_at storage_offer_at offer_at exposed_at expose_at runner_names_at registered_at registration_at registry_in_at registry_at environment_row_at environment_item_at program_at runner_at sections_at children_at section_rows_at decl_at
read_on_literals = tt
