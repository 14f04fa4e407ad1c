-- The parts of a path, cut at the slashes, and their faults.
use Rattle.std.proofs.Common.{◌≡◌, ℕ, zero, suc, get_or, ◌+◌, ◌<◌, ◌≤◌, List, [], ◌∷◌, length, take, drop, Bool, true, false, cond, not, ◌&&◌, Option, Some, None, refl, sym, ap, subst, true≢false, ◌∙◌, arith, nat_lt, nat_le, rules, ◌==◌}
use Rattle.std.specs.List.{list_all, slice_split, position_or_len, onto_first, filter_map, All}
use Rattle.std.specs.Option.{option_or, is_none}
use Rattle.std.specs.Prelude.{position, option_map, slice_get, IsTrue}
use Rattle.std.proofs.Math.Bool.{and_assoc}
use Rattle.std.proofs.lemmas.List.{length-take-le, length-drop}
use Rattle.std.proofs.lemmas.List.Quantifiers.{position-Some}
use Rattle.std.proofs.lemmas.List.Sums.{position_or_len_is}
use Rattle.std.proofs.lemmas.List.Splits.{slice_split_first, slice_split_none}
use Rattle.cm_names.specs.Path.{is_slash, is_dots, is_part, is_part_byte, is_relative, is_path, is_subdir, parts_of, part_fault, parts_with_places, parts_fault, path_fault, subdir_fault, service_path}
use Rattle.cm_names.proofs.lemmas.texts.Name.{none_fails, not_empty, not_dot, begins_continues}
use Rattle.cm_names.specs.Name.{IsName, begins_name, continues_name}
use Rattle.cm_names.specs.declared.path.PathFault.{PathFault}
use Rattle.cm_names.specs.declared.path.PathFault.TheVariants.{TooLong, BadByte, NotAbsolute, NotRelative, EmptyPart, DotPart}

-- ---- the parts, one after another

-- the first fault of parts with their places
abbrev first_of : List (ℕ × List ℕ) → Option PathFault
first_of parts = slice_get (filter_map (λ p. part_fault p.0 p.1) parts) 0

-- The first fault of parts is that of the first part, or else the first of the rest.
first_of_more : (place : ℕ) (part : List ℕ) (more : List (ℕ × List ℕ)) (fault : Option PathFault) → fault ≡ part_fault place part → first_of ((place, part) ∷ more) ≡ option_or fault (first_of more)
first_of_more place part more None e = rw (← e) refl
first_of_more place part more (Some x) e = rw (← e) refl

-- the first part ends at the first slash
parts_at : (xs : List ℕ) (i : ℕ) → position is_slash xs ≡ Some i → parts_of xs ≡ take i xs ∷ parts_of (drop (i + 1) xs)
parts_at xs i e =
    let f = position-Some is_slash xs i 0 e in
    let lt : i < length xs = f.0 in
    let q : position_or_len is_slash xs ≡ i = position_or_len_is is_slash xs i 0 (omega arith) (λ k h. f.2 k h) (λ _. f.1) in
    let lt' : position_or_len is_slash xs < length xs = rw q lt in
    subst (λ n. slice_split is_slash xs ≡ take n xs ∷ slice_split is_slash (drop (n + 1) xs)) q (slice_split_first is_slash xs 0 lt')

-- Up to the place of the first slash a text has as many bytes as that place says.
part_length : (xs : List ℕ) (i : ℕ) → position is_slash xs ≡ Some i → length (take i xs) ≡ i
part_length xs i e =
    let f = position-Some is_slash xs i 0 e in
    length-take-le i xs (omega (arith, f.0))

-- one part, and the others behind a slash
more_parts : (place : ℕ) (xs : List ℕ) (i : ℕ) (fault : Option PathFault) → position is_slash xs ≡ Some i → fault ≡ part_fault place (take i xs) → parts_fault place xs ≡ option_or fault (parts_fault (place + i + 1) (drop (i + 1) xs))
more_parts place xs i fault e f =
    let at : parts_of xs ≡ take i xs ∷ parts_of (drop (i + 1) xs) = parts_at xs i e in
    let n : length (take i xs) ≡ i = part_length xs i e in
    ap (λ ps. first_of (parts_with_places place ps)) at ∙ first_of_more place (take i xs) (parts_with_places (place + length (take i xs) + 1) (parts_of (drop (i + 1) xs))) fault f ∙ ap (λ m. option_or fault (first_of (parts_with_places (place + m + 1) (parts_of (drop (i + 1) xs))))) n

-- a part with a fault ends the search
pub faulty_part : (place : ℕ) (xs : List ℕ) (i : ℕ) (e : PathFault) → position is_slash xs ≡ Some i → Some e ≡ part_fault place (take i xs) → parts_fault place xs ≡ Some e
faulty_part place xs i e at f = more_parts place xs i (Some e) at f

-- a part without a fault leaves those behind it
pub good_part : (place : ℕ) (xs : List ℕ) (i : ℕ) → position is_slash xs ≡ Some i → None ≡ part_fault place (take i xs) → parts_fault place xs ≡ parts_fault (place + i + 1) (drop (i + 1) xs)
good_part place xs i at f = more_parts place xs i None at f

-- The place behind a byte is what the whole is without what stands behind it.
pub behind : (place whole i : ℕ) (xs : List ℕ) → i < length xs → place + length xs ≡ whole → place + i + 1 + length (drop (i + 1) xs) ≡ whole
behind place whole i xs lt e = rw (length-drop (i + 1) xs) (omega arith)

-- A fault or else none is that fault.
or_none : (fault : Option PathFault) → option_or fault None ≡ fault
or_none None = refl
or_none (Some e) = refl

-- a text without a slash is one part
pub last_part : (place : ℕ) (xs : List ℕ) → All (λ c. is_slash c ≡ false) xs → parts_fault place xs ≡ part_fault place xs
last_part place xs h = ap (λ ps. first_of (parts_with_places place ps)) (slice_split_none is_slash xs h) ∙ first_of_more place xs [] (part_fault place xs) refl ∙ or_none (part_fault place xs)

-- ---- a text without a fault

-- There is none of two faults exactly where the first is none and the second is none.
none_or : (x y : Option PathFault) → is_none (option_or x y) ≡ (is_none x && is_none y)
none_or None y = refl
none_or (Some e) y = refl

-- The fault at a place that is told where a test passes is none exactly where it doesn't.
none_where_false : (b : Bool) (i : ℕ) (fault : ℕ → PathFault) → is_none (option_map fault (cond b (Some i) None)) ≡ not b
none_where_false true i fault = refl
none_where_false false i fault = refl

-- A fault where a test passes, and else another, is none where neither is there.
if_some : (b : Bool) (e : PathFault) (more : Option PathFault) → is_none (cond b (Some e) more) ≡ (not b && is_none more)
if_some true e more = refl
if_some false e more = refl

-- The fault at the first byte of a part that may not stand in one, if there is such a byte.
abbrev bytes_fault : ℕ → List ℕ → Option PathFault
bytes_fault place part = option_map (λ i. BadByte (place + i)) (position (λ b. not (is_part_byte b)) part)

-- A part has no fault by its bytes exactly where all of them may stand in a part.
faultless_bytes : (place : ℕ) (part : List ℕ) → is_none (bytes_fault place part) ≡ list_all is_part_byte part
faultless_bytes place part = none_where_false (nat_lt (position_or_len (λ b. not (is_part_byte b)) part) (length part)) (position_or_len (λ b. not (is_part_byte b)) part) (λ i. BadByte (place + i)) ∙ none_fails is_part_byte part

-- A text has no fault as a part of a path exactly where it is a part.
faultless_part : (place : ℕ) (part : List ℕ) → is_none (part_fault place part) ≡ is_part part
faultless_part place part =
    if_some (length part == 0) (EmptyPart place) (cond (is_dots part) (Some (DotPart place)) (bytes_fault place part)) ∙ ap (λ b. not (length part == 0) && b) (if_some (is_dots part) (DotPart place) (bytes_fault place part) ∙ ap (λ b. not (is_dots part) && b) (faultless_bytes place part)) ∙ sym (and_assoc (not (length part == 0)) (not (is_dots part)) (list_all is_part_byte part))

-- Texts with their places have no first fault exactly where all of them are parts.
faultless_parts : (place : ℕ) (parts : List (List ℕ)) → is_none (first_of (parts_with_places place parts)) ≡ list_all is_part parts
faultless_parts place [] = refl
faultless_parts place (part ∷ parts) =
    let more : List (ℕ × List ℕ) = parts_with_places (place + length part + 1) parts in
    ap is_none (first_of_more place part more (part_fault place part) refl) ∙ none_or (part_fault place part) (first_of more) ∙ ap (λ b. b && is_none (first_of more)) (faultless_part place part) ∙ ap (λ b. is_part part && b) (faultless_parts (place + length part + 1) parts)

-- A length isn't above 4096 exactly where it is at most that.
short : (n : ℕ) → not (nat_lt 4096 n) ≡ nat_le n 4096
short n = grind (arith, rules)

-- A fault, or that of no leading slash, is none exactly where the slash is there and no other fault.
slash_needed : (b : Bool) (fault : Option PathFault) → is_none (cond b fault (Some NotAbsolute)) ≡ (b && is_none fault)
slash_needed true fault = refl
slash_needed false fault = refl

-- A text has no fault as a path exactly where it is a path.
path_without_fault : (t : List ℕ) → is_none (path_fault t) ≡ is_path t
path_without_fault [] = refl
path_without_fault (b ∷ bs) =
    let n : ℕ = length (b ∷ bs) in
    if_some (nat_lt 4096 n) TooLong (cond (is_slash b) (parts_fault 1 bs) (Some NotAbsolute)) ∙ ap (λ ok. ok && is_none (cond (is_slash b) (parts_fault 1 bs) (Some NotAbsolute))) (short n) ∙ ap (λ ok. nat_le n 4096 && ok) (slash_needed (is_slash b) (parts_fault 1 bs) ∙ ap (λ ok. is_slash b && ok) (faultless_parts 1 (parts_of bs))) ∙ sym (and_assoc (nat_le n 4096) (is_slash b) (is_relative bs))

-- a slash at the start leaves an empty first part
empty_first : (b : Bool) (parts others : List (List ℕ)) → (not b && list_all is_part (cond b ([] ∷ parts) others)) ≡ list_all is_part (cond b ([] ∷ parts) others)
empty_first true parts others = refl
empty_first false parts others = refl

-- A text has no fault as a subdirectory exactly where it is one.
subdir_without_fault : (t : List ℕ) → is_none (subdir_fault t) ≡ is_subdir t
subdir_without_fault [] = refl
subdir_without_fault (b ∷ bs) =
    let n : ℕ = length (b ∷ bs) in
    let fault : Option PathFault = cond (is_slash b) (Some NotRelative) (parts_fault 0 (b ∷ bs)) in
    if_some (nat_lt 4096 n) TooLong fault ∙ ap (λ ok. ok && is_none fault) (short n) ∙ ap (λ ok. nat_le n 4096 && ok) (if_some (is_slash b) NotRelative (parts_fault 0 (b ∷ bs)) ∙ ap (λ ok. not (is_slash b) && ok) (faultless_parts 0 (parts_of (b ∷ bs))) ∙ empty_first (is_slash b) (parts_of bs) (onto_first b (parts_of bs)))

-- A fault that isn't there is none.
some_none : (x : Option PathFault) → IsTrue (is_none x) → x ≡ None
some_none None h = refl
some_none (Some e) h = absurd (true≢false (sym h))

-- A text without a fault of a path is a path.
pub faultless_path : (t : List ℕ) → path_fault t ≡ None → IsTrue (is_path t)
faultless_path t h = sym (path_without_fault t) ∙ ap is_none h

-- A path is a text without a fault of a path.
pub path_faultless : (t : List ℕ) → IsTrue (is_path t) → path_fault t ≡ None
path_faultless t h = some_none (path_fault t) (path_without_fault t ∙ h)

-- A text without a fault of a subdirectory is a subdirectory.
pub faultless_subdir : (t : List ℕ) → subdir_fault t ≡ None → IsTrue (is_subdir t)
faultless_subdir t h = sym (subdir_without_fault t) ∙ ap is_none h

-- A subdirectory is a text without a fault of a subdirectory.
pub subdir_faultless : (t : List ℕ) → IsTrue (is_subdir t) → subdir_fault t ≡ None
subdir_faultless t h = some_none (subdir_fault t) (subdir_without_fault t ∙ h)

-- ---- a name is a part

-- A byte that continues names is no slash.
no_slash : (c : ℕ) → IsTrue (continues_name c) → is_slash c ≡ false
no_slash c h = grind (arith, rules)

-- A byte that continues names may stand in a part of a path.
is_byte : (c : ℕ) → IsTrue (continues_name c) → is_part_byte c ≡ true
is_byte c h = grind (arith, rules)

-- A byte that continues names, before bytes that all do, makes bytes that all do.
all_cons : (b : ℕ) (bs : List ℕ) → IsTrue (continues_name b) → All (λ c. IsTrue (continues_name c)) bs → All (λ c. IsTrue (continues_name c)) (b ∷ bs)
all_cons b bs first rest zero d lt = first
all_cons b bs first rest (suc k) d lt = rest k d (omega arith)

-- Bytes that all continue names all may stand in a part of a path.
all_bytes : (cs : List ℕ) → All (λ c. IsTrue (continues_name c)) cs → list_all is_part_byte cs ≡ true
all_bytes [] h = refl
all_bytes (c ∷ cs) h = rw (is_byte c (h 0 0 (omega arith))) (all_bytes cs (λ k d lt. h (suc k) d (omega arith)))

-- Of bytes that all continue names none is a slash.
no_slashes : (cs : List ℕ) → All (λ c. IsTrue (continues_name c)) cs → All (λ c. is_slash c ≡ false) cs
no_slashes cs h k d lt = no_slash (get_or cs k d) (h k d lt)

-- What begins with a byte that begins names is neither one dot nor two.
no_dots : (b : ℕ) (bs : List ℕ) → IsTrue (begins_name b) → is_dots (b ∷ bs) ≡ false
no_dots b bs h = rw (not_dot b h) refl

-- The path of a service whose name has at most 255 bytes has at most 4096.
short_path : (name : List ℕ) → length name ≤ 255 → nat_le (length (service_path name)) 4096 ≡ true
short_path name h = grind (arith, rules)

-- The path that a protocol has by default is a path, where its name is a proper one.
pub service_is_path : (name : List ℕ) → IsName name → IsTrue (is_path (service_path name))
service_is_path [] h = absurd h
service_is_path (b ∷ bs) h =
    let begins : IsTrue (begins_name b) = h.1 in
    let continues : All (λ c. IsTrue (continues_name c)) (b ∷ bs) = all_cons b bs (begins_continues b begins) h.2 in
    let whole : slice_split is_slash (b ∷ bs) ≡ (b ∷ bs) ∷ [] = slice_split_none is_slash (b ∷ bs) (no_slashes (b ∷ bs) continues) in
    let part : is_part (b ∷ bs) ≡ true = rw (not_empty b bs) (rw (no_dots b bs begins) (all_bytes (b ∷ bs) continues)) in
    let parts : list_all is_part (slice_split is_slash (b ∷ bs)) ≡ true = ap (list_all is_part) whole ∙ ap (λ t. t && true) part in
    let short : nat_le (length (service_path (b ∷ bs))) 4096 ≡ true = short_path (b ∷ bs) h.0 in
    rw short parts
