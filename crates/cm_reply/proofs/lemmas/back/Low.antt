-- Texts of ASCII: names, URLs, paths, subdirectories and words.
use Rattle.std.proofs.Common.{◌≡◌, ℕ, suc, ◌+◌, ◌<◌, ◌≤◌, List, [], ◌∷◌, ◌++◌, length, codes, map, Bool, true, false, not, ◌&&◌, ◌||◌, ◌==◌, nat_lt, nat_le, filter, Option, Some, None, IsTrue, IsUtf8, All, refl, sym, ap, subst, ◌∙◌, arith, rules, ltb-true, eqb-true}
use Rattle.std.specs.Prelude.{IfSome}
use Rattle.std.specs.List.{list_all, slice_split, join_with_byte}
use Rattle.std.proofs.lemmas.Bool.{and_parts}
use Rattle.std.proofs.lemmas.Str.{IsUtf8-from_ascii}
use Rattle.std.proofs.lemmas.Str.Ascii.{IsAscii-from_all}
use Rattle.std.proofs.lemmas.List.Elements.{All-cons, All-nil, All-append}
use Rattle.std.proofs.lemmas.List.Splits.{join_with_byte-slice_split}
use Rattle.cm_names.specs.declared.child.ChildName.{ChildName}
use Rattle.cm_names.specs.declared.rights.Right.{Right}
use Rattle.cm_names.specs.declared.rights.Right.TheVariants.{Connect, Enumerate, Execute, GetAttributes, ModifyDirectory, ReadBytes, Traverse, UpdateAttributes, WriteBytes}
use Rattle.cm_names.specs.Name.{IsName, continues_name}
use Rattle.cm_names.specs.Path.{is_path, is_subdir, is_relative, is_part, is_part_byte, is_slash, is_dots}
use Rattle.cm_names.specs.Child.{child_text, in_collection}
use Rattle.cm_names.specs.Moniker.{IsChildName}
use Rattle.cm_names.specs.Rights.{word_of}
use Rattle.cm_names.specs.Urls.{is_url_byte, is_url_text}
use Rattle.cm_names.proofs.lemmas.texts.Name.{begins_continues}
use Rattle.cm_facts.proofs.Rights.{url_byte_low, part_byte_low}

-- A text of ASCII.
abbrev pub Low : List ℕ → Type 0
Low t = All (λ b. b < 128) t

-- A text of ASCII is UTF-8.
pub low_utf8 : (t : List ℕ) → Low t → IsUtf8 t
low_utf8 t h = IsUtf8-from_ascii t (IsAscii-from_all t h)

-- all bytes pass a test that only such bytes pass
pub low_if : (q : ℕ → Bool) → ((b : ℕ) → q b ≡ true → b < 128) → (t : List ℕ) → list_all q t ≡ true → Low t
low_if q small [] e = All-nil (λ b. b < 128)
low_if q small (b ∷ bs) e =
    let both = and_parts (q b) (list_all q bs) e in
    All-cons (λ c. c < 128) b bs (small b both.0) (low_if q small bs both.1)

-- a text that is written out
pub low_by : (t : List ℕ) → list_all (λ b. nat_lt b 128) t ≡ true → Low t
low_by t e = low_if (λ b. nat_lt b 128) (λ b h. ltb-true b 128 h) t e

-- Two texts of ASCII, one behind the other, are a text of ASCII.
pub low_both : (s t : List ℕ) → Low s → Low t → Low (s ++ t)
low_both s t h k = All-append (λ b. b < 128) s t h k

-- ---- names

-- A byte that continues names is below 128.
continues_low : (b : ℕ) → continues_name b ≡ true → b < 128
continues_low b h = grind (arith, rules)

-- A name is a text of ASCII.
pub name_low : (t : List ℕ) → IsName t → Low t
name_low [] h = absurd h
name_low (b ∷ bs) h =
    All-cons (λ c. c < 128) b bs (continues_low b (begins_continues b h.1)) (λ i d lt. continues_low _ (h.2 i d lt))

-- A name, with or without a collection's, is a text of ASCII.
collected : (coll : Option (List ℕ)) (name : List ℕ) → IsName name → IfSome coll IsName → Low (in_collection coll name)
collected None name h k = name_low name h
collected (Some coll) name h k =
    low_both coll (codes ":" ++ name) (name_low coll k) (low_both (codes ":") name (low_by (codes ":") refl) (name_low name h))

-- The text of a child's proper name is a text of ASCII.
pub child_low : (c : ChildName) → IsChildName c → Low (child_text c)
child_low c h = collected c.coll c.name h.0 h.1

-- ---- URLs, paths and subdirectories

-- A URL is a text of ASCII.
pub url_low : (t : List ℕ) → IsTrue (is_url_text t) → Low t
url_low t h =
    low_if is_url_byte url_byte_low t (and_parts (not (length t == 0) && nat_le (length t) 4096) (list_all is_url_byte t) h).1

-- All of these texts are of ASCII.
abbrev AllLow : List (List ℕ) → Type 0
AllLow [] = Unit {0}
AllLow (p ∷ ps) = Low p × AllLow ps

-- Texts that are parts of paths are of ASCII.
parts_low : (ps : List (List ℕ)) → list_all is_part ps ≡ true → AllLow ps
parts_low [] h = tt
parts_low (p ∷ ps) h =
    let both = and_parts (is_part p) (list_all is_part ps) h in
    let inside = and_parts (not (length p == 0) && not (is_dots p)) (list_all is_part_byte p) both.0 in
    (low_if is_part_byte part_byte_low p inside.1, parts_low ps both.1)

-- Texts of ASCII joined by slashes are a text of ASCII.
joined_low : (ps : List (List ℕ)) → AllLow ps → Low (join_with_byte 47 ps)
joined_low [] h = All-nil (λ b. b < 128)
joined_low (p ∷ []) h = h.0
joined_low (p ∷ q ∷ qs) h =
    low_both p (47 ∷ join_with_byte 47 (q ∷ qs)) h.0
    (All-cons (λ b. b < 128) 47 (join_with_byte 47 (q ∷ qs)) (omega arith) (joined_low (q ∷ qs) h.1))

-- A relative path is a text of ASCII.
relative_low : (t : List ℕ) → is_relative t ≡ true → Low t
relative_low t h =
    subst Low (join_with_byte-slice_split 47 t)
    (joined_low (slice_split (λ b. b == 47) t) (parts_low (slice_split (λ b. b == 47) t) h))

-- A path is a text of ASCII.
pub path_low : (t : List ℕ) → IsTrue (is_path t) → Low t
path_low [] h = All-nil (λ b. b < 128)
path_low (b ∷ bs) h =
    let both = and_parts (nat_le (length (b ∷ bs)) 4096 && is_slash b) (is_relative bs) h in
    let prefix = and_parts (nat_le (length (b ∷ bs)) 4096) (is_slash b) both.0 in
    let slash : b ≡ 47 = eqb-true b 47 prefix.1 in
    All-cons (λ c. c < 128) b bs (omega arith) (relative_low bs both.1)

-- A subdirectory is a text of ASCII.
pub subdir_low : (t : List ℕ) → IsTrue (is_subdir t) → Low t
subdir_low t h = relative_low t (and_parts (nat_le (length t) 4096) (is_relative t) h).1

-- The word of a right is a text of ASCII.
pub right_low : (r : Right) → Low (word_of r)
right_low Connect = low_by (word_of Connect) refl
right_low Enumerate = low_by (word_of Enumerate) refl
right_low Execute = low_by (word_of Execute) refl
right_low GetAttributes = low_by (word_of GetAttributes) refl
right_low ModifyDirectory = low_by (word_of ModifyDirectory) refl
right_low ReadBytes = low_by (word_of ReadBytes) refl
right_low Traverse = low_by (word_of Traverse) refl
right_low UpdateAttributes = low_by (word_of UpdateAttributes) refl
right_low WriteBytes = low_by (word_of WriteBytes) refl
