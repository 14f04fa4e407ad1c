-- Paths print, and have no spaces.
use Rattle.std.proofs.Common.{◌≡◌, ℕ, List, [], ◌∷◌, ◌++◌, length, flat_map, true, false, not, ◌==◌, ◌&&◌, nat_le, Option, Some, None, All, IsTrue, refl, sym, ap, subst, ◌∙◌, arith, rules, eqb-true, codes}
use Rattle.std.specs.List.{slice_split, join_with_byte, list_all}
use Rattle.std.proofs.lemmas.Bool.{and_parts, and_from}
use Rattle.std.proofs.lemmas.List.Folds.{list_all-append}
use Rattle.std.proofs.lemmas.List.Splits.{join_with_byte-slice_split}
use Rattle.std.proofs.lemmas.List.Elements.{All-tail}
use Rattle.cm_names.specs.Name.{IsName, begins_name, continues_name}
use Rattle.cm_names.specs.Path.{is_path, is_subdir, is_relative, is_part, is_part_byte, is_slash, is_dots, service_path, joined_text, slash_and_text}
use Rattle.cm_names.specs.Urls.{is_url_byte}
use Rattle.cm_reply.specs.LegibleInside.{IsLongPath}
use Rattle.cm_legible.proofs.lemmas.Lists.{head}

-- A byte that a part of a path may have may stand in a URL.
part_byte : (b : ℕ) → is_part_byte b ≡ true → is_url_byte b ≡ true
part_byte b h = grind (arith, rules)

-- A byte that continues names may stand in a URL.
name_byte : (b : ℕ) → continues_name b ≡ true → is_url_byte b ≡ true
name_byte b h = grind (arith, rules)

-- A byte that begins names may stand in a URL.
first_byte : (b : ℕ) → begins_name b ≡ true → is_url_byte b ≡ true
first_byte b h = grind (arith, rules)

-- A text of bytes that a part of a path may have has only bytes that may stand in a URL.
part_prints : (p : List ℕ) → list_all is_part_byte p ≡ true → list_all is_url_byte p ≡ true
part_prints [] h = refl
part_prints (b ∷ bs) h =
    let both = and_parts (is_part_byte b) (list_all is_part_byte bs) h in
    and_from (is_url_byte b) (list_all is_url_byte bs) (part_byte b both.0) (part_prints bs both.1)

-- Parts of paths joined by slashes have only bytes that may stand in a URL.
parts_print : (ps : List (List ℕ)) → list_all is_part ps ≡ true → list_all is_url_byte (join_with_byte 47 ps) ≡ true
parts_print [] h = refl
parts_print (p ∷ []) h =
    let both = and_parts (is_part p) true h in
    part_prints p (and_parts (not (length p == 0) && not (is_dots p)) (list_all is_part_byte p) both.0).1
parts_print (p ∷ q ∷ qs) h =
    let both = and_parts (is_part p) (list_all is_part (q ∷ qs)) h in
    list_all-append is_url_byte p (47 ∷ join_with_byte 47 (q ∷ qs))
    ∙ and_from (list_all is_url_byte p) (list_all is_url_byte (join_with_byte 47 (q ∷ qs)))
    (part_prints p (and_parts (not (length p == 0) && not (is_dots p)) (list_all is_part_byte p) both.0).1) (parts_print (q ∷ qs) both.1)

-- All bytes of the parts of a path are bytes of URLs.
pub relative_prints : (t : List ℕ) → is_relative t ≡ true → list_all is_url_byte t ≡ true
relative_prints t h =
    subst (λ x. list_all is_url_byte x ≡ true) (join_with_byte-slice_split 47 t) (parts_print (slice_split (λ b. b == 47) t) h)

-- A path is a slash and bytes of URLs.
pub path_is_long : (t : List ℕ) → IsTrue (is_path t) → IsLongPath t
path_is_long (b ∷ bs) h =
    let both = and_parts (nat_le (length (b ∷ bs)) 4096 && is_slash b) (is_relative bs) h in
    let prefix = and_parts (nat_le (length (b ∷ bs)) 4096) (is_slash b) both.0 in
    (bs, ap (λ c. c ∷ bs) (eqb-true b 47 prefix.1), relative_prints bs both.1)
path_is_long [] h = absurd (Rattle.std.proofs.Common.true≢false (sym h))

-- All bytes of a subdirectory are bytes of URLs.
pub subdir_prints : (t : List ℕ) → IsTrue (is_subdir t) → list_all is_url_byte t ≡ true
subdir_prints t h = relative_prints t (and_parts (nat_le (length t) 4096) (is_relative t) h).1

-- All bytes of a name are bytes of URLs.
pub name_prints : (t : List ℕ) → IsName t → list_all is_url_byte t ≡ true
name_prints [] h = absurd h
name_prints (b ∷ bs) h = and_from (is_url_byte b) (list_all is_url_byte bs) (first_byte b h.1) (rest bs h.2)
  where
    rest : (cs : List ℕ) → All (λ c. IsTrue (continues_name c)) cs → list_all is_url_byte cs ≡ true
    rest [] k = refl
    rest (c ∷ cs) k = and_from (is_url_byte c) (list_all is_url_byte cs) (name_byte c (head (λ c. IsTrue (continues_name c)) c cs k)) (rest cs (All-tail (λ c. IsTrue (continues_name c)) c cs k))

-- The path that a protocol has by default is a slash and bytes of URLs.
pub service_is_long : (t : List ℕ) → IsName t → IsLongPath (service_path t)
service_is_long t h = (codes "svc/" ++ t, refl, list_all-append is_url_byte (codes "svc/") t ∙ and_from true (list_all is_url_byte t) refl (name_prints t h))

-- Subdirectories, each behind a slash, have only bytes that may stand in a URL.
subdirs_print : (ss : List (List ℕ)) → All (λ s. IsTrue (is_subdir s)) ss → list_all is_url_byte (flat_map slash_and_text ss) ≡ true
subdirs_print [] h = refl
subdirs_print (s ∷ ss) h =
    and_from true (list_all is_url_byte (s ++ flat_map slash_and_text ss)) refl
    (list_all-append is_url_byte s (flat_map slash_and_text ss)
    ∙ and_from (list_all is_url_byte s) (list_all is_url_byte (flat_map slash_and_text ss)) (subdir_prints s (head (λ s. IsTrue (is_subdir s)) s ss h)) (subdirs_print ss (All-tail (λ s. IsTrue (is_subdir s)) s ss h)))

-- A slash and bytes of URLs, with subdirectories behind them, are a slash and bytes of URLs.
pub joined_is_long : (t : List ℕ) (ss : List (List ℕ)) → IsLongPath t → All (λ s. IsTrue (is_subdir s)) ss → IsLongPath (joined_text t ss)
joined_is_long t ss h k = (
  h.0 ++ flat_map slash_and_text ss,
  ap (λ x. x ++ flat_map slash_and_text ss) h.1,
  list_all-append is_url_byte h.0 (flat_map slash_and_text ss) ∙ and_from (list_all is_url_byte h.0) (list_all is_url_byte (flat_map slash_and_text ss)) h.2 (subdirs_print ss k),
)
