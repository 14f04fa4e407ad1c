-- What is read in a field: names, paths, rights and origins.
use Rattle.std.proofs.Common.{◌≡◌, ℕ, List, [], ◌∷◌, codes, Bool, true, false, Option, Some, None, option_map, Result, Ok, Err, IsTrue, refl, sym, ap, ◌∙◌, true≢false}
use Rattle.std.specs.Prelude.{IfSome, All, ok_or}
use Rattle.std.specs.Str.{bytes_eq}
use Rattle.serde_json.specs.Data.{Data}
use Rattle.serde_json.specs.Find.{get, as_array}
use Rattle.cm_names.specs.Name.{IsName, name_fault}
use Rattle.cm_names.specs.Path.{is_path, path_fault, subdir_fault}
use Rattle.cm_names.specs.Rights.{RightSet, no_rights, has, union, only, reading, writing, executing, right_named, rights_of_word, rights_of, rights_behind, with_word, with_rights}
use Rattle.cm_names.specs.declared.rights.Right.{Right}
use Rattle.cm_names.specs.declared.rights.Right.TheVariants.{Connect, Enumerate, Execute, GetAttributes, ModifyDirectory, ReadBytes, Traverse, UpdateAttributes, WriteBytes}
use Rattle.cm_names.specs.declared.rights.RightsFault.{RightsFault}
use Rattle.cm_names.proofs.lemmas.texts.Name.{faultless_name}
use Rattle.cm_names.proofs.lemmas.texts.Path.{faultless_path, faultless_subdir}
use Rattle.cm_decl.specs.declared.origin.Origin.{Origin}
use Rattle.cm_decl.specs.declared.origin.Origin.TheVariants as origin
use Rattle.cm_read.specs.declared.fault.ItemPlace.{ItemPlace}
use Rattle.cm_read.specs.Numbers.{wrong_type, bad_name, bad_path, unknown_word}
use Rattle.cm_names.specs.Steps.{◌>>=◌}
use Rattle.cm_read.specs.Reading.{bad}
use Rattle.cm_read.specs.Fields.{needed_at, text_at, name_from, name_in_at, name_at, url_at, path_in_at, path_at, subdir_in_at, subdir_at, texts_in_at, texts_at, names_at, behind_mark, reference_from, references_at, rights_from, rights_in_at, rights_at}
use Rattle.std.specs.Prelude.{◌≢◌, not, ◌&&◌, if◌then◌else◌}
use Rattle.cm_names.specs.declared.availability.Availability.TheVariants.{Required, Optional, Transitional}
use Rattle.cm_names.specs.declared.availability.Availability.TheVariants.{SameAsTarget}
use Rattle.cm_names.specs.Urls.{is_url_text}
use Rattle.cm_facts.proofs.Rights.{has_only, has_union}
use Rattle.cm_decl.specs.declared.rows.Child.{Child}
use Rattle.cm_read.specs.declared.rows.UseSource.{UseSource}
use Rattle.cm_read.specs.declared.rows.UseSource.TheVariants as source
use Rattle.cm_read.specs.Words.{use_origin_named, expose_origin_named, offer_origin_named, origin_from}
use Rattle.cm_read.specs.Words.{use_from_in_at, offer_from_in_at, expose_from_in_at, use_from_at, offer_from_at}
use Rattle.cm_read.specs.Words.{expose_from_at, static_origin_named, static_from_in_at, static_from_at}
use Rattle.cm_read.specs.Words.{storage_origin_named, storage_from_at, source_from, use_source_in_at}
use Rattle.cm_read.specs.Words.{use_source_at, environment_from, environment_in_at, environment_at}
use Rattle.cm_read.specs.Words.{availability_named, availability_at, child_origin, is_declared, settled}
use Rattle.cm_read.specs.Readable.{AreRights, IsSubDir, IsOriginRow, IsStaticSource, IsStorageSource, ForSomeOf}
use Rattle.cm_read.proofs.lemmas.reading.Read.{Reads, fails, gives, any, next, tested, defaulted, given, unless, Means}
use Rattle.cm_read.proofs.lemmas.reading.Read.{means, means_nothing, listed_reads, each_reads}

-- ---- names, URLs and paths

-- What is read of a text as a name is a name.
pub name_from_reads : (at : ItemPlace) (key text : List ℕ) → Reads IsName (name_from at key text)
name_from_reads at key text = unless (name_fault text) (bad at bad_name key) text (faultless_name text)

-- What is read of a value as a name is a name.
pub name_in_reads : (at : ItemPlace) (key : List ℕ) (d : Data) → Reads IsName (name_in_at at key d)
unfolding name_in_at
name_in_reads at key d = next (any (text_at at key d)) (λ text _. name_from_reads at key text)

-- What is read in a field as a name is a name.
pub name_reads : (at : ItemPlace) (key : List ℕ) (d : Data) → Reads IsName (name_at at key d)
unfolding name_at
name_reads at key d = next (any (needed_at at key d)) (λ value _. name_in_reads at key value)

-- A text that is a URL.
abbrev pub IsUrl : List ℕ → Type 0
IsUrl t = IsTrue (is_url_text t)

-- What is read in a field as a URL is one.
pub url_reads : (at : ItemPlace) (key : List ℕ) (d : Data) → Reads IsUrl (url_at at key d)
unfolding url_at
url_reads at key d =
    next (any (needed_at at key d)) (λ value _. next (any (text_at at key value)) (λ text _. tested (is_url_text text) text (bad at bad_name key) (λ e. e)))

-- A text that is a path.
abbrev pub IsPath : List ℕ → Type 0
IsPath t = IsTrue (is_path t)

-- What is read of a value as a path is one.
pub path_in_reads : (at : ItemPlace) (key : List ℕ) (d : Data) → Reads IsPath (path_in_at at key d)
unfolding path_in_at
path_in_reads at key d =
    next (any (text_at at key d)) (λ text _. unless (path_fault text) (bad at bad_path key) text (faultless_path text))

-- What is read in a field as a path is one.
pub path_reads : (at : ItemPlace) (key : List ℕ) (d : Data) → Reads IsPath (path_at at key d)
unfolding path_at
path_reads at key d = next (any (needed_at at key d)) (λ value _. path_in_reads at key value)

-- What is read of a value as a subdirectory is one.
pub subdir_in_reads : (at : ItemPlace) (key : List ℕ) (d : Data) → Reads IsSubDir (subdir_in_at at key d)
unfolding subdir_in_at
subdir_in_reads at key d =
    next (any (text_at at key d)) (λ text _. unless (subdir_fault text) (bad at bad_path key) text (faultless_subdir text))

-- What is read in a field as a subdirectory, if it is there, is one.
pub subdir_reads : (at : ItemPlace) (key : List ℕ) (d : Data) → Reads (λ o. ForSomeOf o IsSubDir) (subdir_at at key d)
unfolding subdir_at
subdir_reads at key d = given (get key d) (subdir_in_at at key) (subdir_in_reads at key)

-- ---- names and references

-- What is read as a list of names has names alone.
pub names_reads : (at : ItemPlace) (key : List ℕ) (d : Data) → Reads (All IsName) (names_at at key d)
unfolding names_at
names_reads at key d =
    next (any (texts_at at key d)) (λ texts _. each_reads IsName (name_from at key) texts (name_from_reads at key))

-- A text that refers to something is read as the name that it refers to.
reference_from_reads : (at : ItemPlace) (key text : List ℕ) → Reads IsName (reference_from at key text)
reference_from_reads at key text =
    next (any (ok_or (behind_mark text) (bad at unknown_word key))) (λ name _. name_from_reads at key name)

-- What is read as a list of references has names alone.
pub references_reads : (at : ItemPlace) (key : List ℕ) (d : Data) → Reads (All IsName) (references_at at key d)
unfolding references_at
references_reads at key d =
    next (any (texts_at at key d)) (λ texts _. each_reads IsName (reference_from at key) texts (reference_from_reads at key))

-- ---- rights

-- some right is in the set
pub record HasRight (r : RightSet) : Type 0 where
  pub right : Right
  pub here : has r right ≡ true

-- A right that a word names, if it names one, is a set with some right.
named_means : (o : Option Right) → Means HasRight (option_map only o)
named_means None = means_nothing
named_means (Some x) = record { value = record { right = x; here = has_only x } }

-- A set with the right to connect has some right.
connects : (r : RightSet) → r.connect ≡ true → HasRight r
connects r e = record { right = Connect; here = e }

-- A word for rights, if it is one, stands for a set with some right.
word_means : (w : List ℕ) → Means HasRight (rights_of_word w)
unfolding rights_of_word
word_means w =
    means (bytes_eq w (codes "r*")) reading (connects reading refl)
    (means (bytes_eq w (codes "w*")) writing (connects writing refl)
    (means (bytes_eq w (codes "x*")) executing (connects executing refl)
    (means (bytes_eq w (codes "rw*")) (union reading writing) (connects (union reading writing) refl)
    (means (bytes_eq w (codes "rx*")) (union reading executing) (connects (union reading executing) refl)
    (named_means (right_named w))))))

-- The set of no rights doesn't have a right.
none_has : (x : Right) → has no_rights x ≡ true → ⊥
none_has Connect e = true≢false (sym e)
none_has Enumerate e = true≢false (sym e)
none_has Execute e = true≢false (sym e)
none_has GetAttributes e = true≢false (sym e)
none_has ModifyDirectory e = true≢false (sym e)
none_has ReadBytes e = true≢false (sym e)
none_has Traverse e = true≢false (sym e)
none_has UpdateAttributes e = true≢false (sym e)
none_has WriteBytes e = true≢false (sym e)

-- A set that has some right isn't the empty one.
some_rights : (r : RightSet) → HasRight r → AreRights r
some_rights r h e = none_has h.right (ap (λ s. has s h.right) (sym e) ∙ h.here)

-- Rights with some right added to others are read as rights, unless there is a fault.
with_reads : (at : ItemPlace) (key : List ℕ) (s : RightSet) (others : Result RightSet RightsFault) → HasRight s → Reads AreRights (rights_from at key (with_rights s others))
with_reads at key s (Ok q) h = gives (some_rights (union s q) (record { right = h.right; here = has_union h.right s q h.here }))
with_reads at key s (Err e) h = fails _

-- The rights of a first word and others are read as rights, unless there is a fault.
first_reads : (at : ItemPlace) (key w : List ℕ) (o : Option RightSet) (others : Result RightSet RightsFault) → IfSome o HasRight → Reads AreRights (rights_from at key (with_word [] w o others))
first_reads at key w None others h = fails _
first_reads at key w (Some s) others h = with_reads at key s others h

-- Words are read as rights, of which there is at least one.
rights_from_reads : (at : ItemPlace) (key : List ℕ) (words : List (List ℕ)) → Reads AreRights (rights_from at key (rights_of words))
unfolding rights_of
rights_from_reads at key [] = fails _
rights_from_reads at key (w ∷ ws) = first_reads at key w (rights_of_word w) (rights_behind (w ∷ []) ws) (word_means w).value

-- The rights that are read of a value are at least one.
pub rights_in_reads : (at : ItemPlace) (key : List ℕ) (d : Data) → Reads AreRights (rights_in_at at key d)
unfolding rights_in_at
rights_in_reads at key d =
    next (any (ok_or (as_array d) (bad at wrong_type key))) (λ items _. next (any (texts_in_at at key items)) (λ words _. rights_from_reads at key words))

-- The rights that are read in a field are at least one.
pub rights_reads : (at : ItemPlace) (key : List ℕ) (d : Data) → Reads AreRights (rights_at at key d)
unfolding rights_at
rights_reads at key d = next (any (needed_at at key d)) (λ value _. rights_in_reads at key value)

-- ---- origins

-- A text that names the source of a use names one that such a section allows.
use_named : (t : List ℕ) → Means (IsOriginRow true false) (use_origin_named t)
unfolding use_origin_named
use_named t =
    means (bytes_eq t (codes "parent")) origin.Parent refl
    (means (bytes_eq t (codes "self")) origin.Own tt
    (means (bytes_eq t (codes "framework")) origin.Framework tt
    means_nothing))

-- A text that names the source of an expose names one that the section allows.
expose_named : (parent : Bool) (t : List ℕ) → Means (IsOriginRow parent true) (expose_origin_named t)
unfolding expose_origin_named
expose_named parent t =
    means (bytes_eq t (codes "self")) origin.Own tt
    (means (bytes_eq t (codes "framework")) origin.Framework tt
    (means (bytes_eq t (codes "void")) origin.Void refl
    means_nothing))

-- A text that names the source of an offer names one that offers allow.
offer_named : (t : List ℕ) → Means (IsOriginRow true true) (offer_origin_named t)
unfolding offer_origin_named
offer_named t = means (bytes_eq t (codes "parent")) origin.Parent refl (expose_named true t)

-- A source by a fixed name or a child's is read as one with the property that both have.
origin_reads : (P : Origin → Type 0) (at : ItemPlace) (named : Option Origin) (name : Option (List ℕ))
    → ((n : List ℕ) → IsName n → P (child_origin n)) → IfSome named P → Reads P (origin_from at named name)
origin_reads P at named (Some name) c h = next (name_from_reads at (codes "from") name) (λ child n. gives (c child n))
origin_reads P at None None c h = fails _
origin_reads P at (Some o) None c h = gives h

-- A child of a name, in no collection, is a source that each section allows.
a_child : (parent void : Bool) (n : List ℕ) → IsName n → IsOriginRow parent void (child_origin n)
a_child parent void n h = (refl, h)

-- The source of a use is read as one that uses allow, which the void isn't.
use_from_in_reads : (at : ItemPlace) (d : Data) → Reads (IsOriginRow true false) (use_from_in_at at d)
unfolding use_from_in_at
use_from_in_reads at d =
    next (any (text_at at (codes "from") d)) (λ text _. origin_reads (IsOriginRow true false) at (use_origin_named text) (behind_mark text) (a_child true false) (use_named text).value)

-- The source of an offer is read as one that offers allow.
offer_from_in_reads : (at : ItemPlace) (d : Data) → Reads (IsOriginRow true true) (offer_from_in_at at d)
unfolding offer_from_in_at
offer_from_in_reads at d =
    next (any (text_at at (codes "from") d)) (λ text _. origin_reads (IsOriginRow true true) at (offer_origin_named text) (behind_mark text) (a_child true true) (offer_named text).value)

-- The source of an expose is read as one that exposes allow.
expose_from_in_reads : (at : ItemPlace) (d : Data) → Reads (IsOriginRow false true) (expose_from_in_at at d)
unfolding expose_from_in_at
expose_from_in_reads at d =
    next (any (text_at at (codes "from") d)) (λ text _. origin_reads (IsOriginRow false true) at (expose_origin_named text) (behind_mark text) (a_child false true) (expose_named false text).value)

-- The source that is read for a use is one that uses allow.
pub use_from_reads : (at : ItemPlace) (d : Data) → Reads (IsOriginRow true false) (use_from_at at d)
unfolding use_from_at
use_from_reads at d = defaulted (get (codes "from") d) origin.Parent (use_from_in_at at) refl (use_from_in_reads at)

-- The source that is read for an offer is one that offers allow.
pub offer_from_reads : (at : ItemPlace) (d : Data) → Reads (IsOriginRow true true) (offer_from_at at d)
unfolding offer_from_at
offer_from_reads at d = next (any (needed_at at (codes "from") d)) (λ value _. offer_from_in_reads at value)

-- The source that is read for an expose is one that exposes allow.
pub expose_from_reads : (at : ItemPlace) (d : Data) → Reads (IsOriginRow false true) (expose_from_at at d)
unfolding expose_from_at
expose_from_reads at d = next (any (needed_at at (codes "from") d)) (λ value _. expose_from_in_reads at value)

-- where a protocol that is used comes from
abbrev pub IsUseSource : UseSource → Type 0
IsUseSource (source.From o) = IsOriginRow true false o
IsUseSource source.Debug = Unit {0}

-- A text is read as the source of a use, which may be a debug one.
source_reads : (at : ItemPlace) (text : List ℕ) → Reads IsUseSource (source_from at text)
source_reads at text = by (bytes_eq text (codes "debug"))
  where
    by : (b : Bool) → Reads IsUseSource (if b then Ok source.Debug else (origin_from at (use_origin_named text) (behind_mark text) >>= λ from. Ok (source.From from)))
    by true = gives tt
    by false =
        next (origin_reads (IsOriginRow true false) at (use_origin_named text) (behind_mark text) (a_child true false) (use_named text).value)
        (λ from f. gives f)

-- The source in a use is read as one that is right.
use_source_in_reads : (at : ItemPlace) (d : Data) → Reads IsUseSource (use_source_in_at at d)
unfolding use_source_in_at
use_source_in_reads at d = next (any (text_at at (codes "from") d)) (λ text _. source_reads at text)

-- Where a used protocol is read to come from is the debug registry or a source that uses allow.
pub use_source_reads : (at : ItemPlace) (d : Data) → Reads IsUseSource (use_source_at at d)
unfolding use_source_at
use_source_reads at d =
    defaulted (get (codes "from") d) (source.From origin.Parent) (use_source_in_at at) refl (use_source_in_reads at)

-- A text that names a static source names one.
static_named : (t : List ℕ) → Means IsStaticSource (static_origin_named t)
unfolding static_origin_named
static_named t =
    means (bytes_eq t (codes "parent")) origin.Parent tt
    (means (bytes_eq t (codes "self")) origin.Own tt
    means_nothing)

-- The source of a registration is read as a static one.
static_from_in_reads : (at : ItemPlace) (d : Data) → Reads IsStaticSource (static_from_in_at at d)
unfolding static_from_in_at
static_from_in_reads at d =
    next (any (text_at at (codes "from") d)) (λ text _.
    origin_reads IsStaticSource at (static_origin_named text) (behind_mark text) (λ n h. (refl, h)) (static_named text).value)

-- The source that is read for a registration or a storage is one that these allow.
pub static_from_reads : (at : ItemPlace) (d : Data) → Reads IsStaticSource (static_from_at at d)
unfolding static_from_at
static_from_reads at d = next (any (needed_at at (codes "from") d)) (λ value _. static_from_in_reads at value)

-- the two words without a child
bare_named : (t : List ℕ) → Means IsStorageSource (static_origin_named t)
unfolding static_origin_named
bare_named t =
    means (bytes_eq t (codes "parent")) origin.Parent tt
    (means (bytes_eq t (codes "self")) origin.Own tt
    means_nothing)

-- A text that names the source of an offered storage names one.
storage_named : (t : List ℕ) → Means IsStorageSource (storage_origin_named t)
unfolding storage_origin_named
storage_named t = means (bytes_eq t (codes "void")) origin.Void tt (bare_named t)

-- The source that is read for an offer of a storage is one that such offers allow.
pub storage_from_reads : (at : ItemPlace) (d : Data) → Reads IsStorageSource (storage_from_at at d)
unfolding storage_from_at
storage_from_reads at d =
    next (any (needed_at at (codes "from") d)) (λ value _. listed_reads storage_origin_named at (codes "from") value storage_named)

-- where the source may be missing, void may stand in its place
pub settled_is : (parent : Bool) (children : List Child) (unknown : Bool) (o : Origin) → IsOriginRow parent true o
    → IsOriginRow parent true (settled children unknown o)
settled_is parent children unknown origin.Parent h = h
settled_is parent children unknown origin.Own h = h
settled_is parent children unknown origin.Framework h = h
settled_is parent children unknown origin.Void h = h
settled_is parent children unknown (origin.Child c) h = by (unknown && not (is_declared children c))
  where
    by : (b : Bool) → IsOriginRow parent true (if b then origin.Void else origin.Child c)
    by true = refl
    by false = h

-- ---- availability

-- The availability `required` isn't that of the target.
required_is_stated : Required ≢ SameAsTarget
required_is_stated e = cc

-- The availability `optional` isn't that of the target.
optional_is_stated : Optional ≢ SameAsTarget
optional_is_stated e = cc

-- The availability `transitional` isn't that of the target.
transitional_is_stated : Transitional ≢ SameAsTarget
transitional_is_stated e = cc

-- A text that names a stated availability names one that isn't that of the target.
stated_named : (t : List ℕ) → Means (λ a. a ≢ SameAsTarget) (availability_named t)
unfolding availability_named
stated_named t =
    means (bytes_eq t (codes "required")) Required required_is_stated
    (means (bytes_eq t (codes "optional")) Optional optional_is_stated
    (means (bytes_eq t (codes "transitional")) Transitional transitional_is_stated
    means_nothing))

-- no word of a use takes over what its target says
pub availability_reads : (at : ItemPlace) (d : Data) → Reads (λ a. a ≢ SameAsTarget) (availability_at at d)
unfolding availability_at
availability_reads at d =
    defaulted (get (codes "availability") d) Required _ required_is_stated
    (λ value. listed_reads availability_named at (codes "availability") value stated_named)

-- ---- environments

-- What refers to an environment is read as a name.
environment_from_reads : (at : ItemPlace) (o : Option (List ℕ)) → Reads IsName (environment_from at o)
environment_from_reads at None = fails _
environment_from_reads at (Some name) = name_from_reads at (codes "environment") name

-- The environment in an item is read as a name.
environment_in_reads : (at : ItemPlace) (d : Data) → Reads IsName (environment_in_at at d)
unfolding environment_in_at
environment_in_reads at d =
    next (any (text_at at (codes "environment") d)) (λ text _. environment_from_reads at (behind_mark text))

-- The environment that is read of a row, if there is one, has a name.
pub environment_reads : (at : ItemPlace) (d : Data) → Reads (λ o. ForSomeOf o IsName) (environment_at at d)
unfolding environment_at
environment_reads at d = given (get (codes "environment") d) (environment_in_at at) (environment_in_reads at)
