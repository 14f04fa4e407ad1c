-- Promised.
-- Which texts are paths and subdirectories, and the first fault of a text that is none.
-- ---- the grammar
use Rattle.std.specs.Prelude.{ℕ, ◌+◌, List, [], ◌∷◌, ◌++◌, length, codes, Bool, false, not, ◌&&◌, ◌||◌}
use Rattle.std.specs.Prelude.{◌==◌, nat_le, nat_lt, if◌then◌else◌, Option, Some, option_map, position}
use Rattle.std.specs.Prelude.{slice_get}
use Rattle.std.specs.List.{list_all, slice_split, filter_map, flat_map}
use Rattle.std.specs.Str.{bytes_eq}
use Rattle.cm_names.specs.declared.path.PathFault.{PathFault}
use Rattle.cm_names.specs.declared.path.PathFault.TheVariants.{Empty, TooLong, BadByte, NotAbsolute}
use Rattle.cm_names.specs.declared.path.PathFault.TheVariants.{NotRelative, EmptyPart, DotPart}

-- whether a byte is a slash, which stands between two parts of a path
abbrev pub is_slash : ℕ → Bool
is_slash b = b == 47

-- whether a part of a path may have this byte: printing ASCII, but no space and no slash
abbrev pub is_part_byte : ℕ → Bool
is_part_byte b = nat_le 33 b && nat_le b 126 && not (is_slash b)

-- whether a part is `.` or `..`, which paths may not have
abbrev pub is_dots : List ℕ → Bool
is_dots part = bytes_eq part (codes ".") || bytes_eq part (codes "..")

-- whether a text may be a part of a path: one or more such bytes, and not dots alone
abbrev pub is_part : List ℕ → Bool
is_part part = not (length part == 0) && not (is_dots part) && list_all is_part_byte part

-- the parts of a text: what stands between its slashes
abbrev pub parts_of : List ℕ → List (List ℕ)
parts_of t = slice_split is_slash t

-- whether a text is parts joined by slashes
abbrev pub is_relative : List ℕ → Bool
is_relative t = list_all is_part (parts_of t)

-- whether a text is a path: a slash, and parts joined by slashes, in at most 4,096 bytes
abbrev pub is_path : List ℕ → Bool
is_path [] = false
is_path (b ∷ bs) = nat_le (length (b ∷ bs)) 4096 && is_slash b && is_relative bs

-- whether a text is a subdirectory: parts joined by slashes, in at most 4,096 bytes
abbrev pub is_subdir : List ℕ → Bool
is_subdir t = nat_le (length t) 4096 && is_relative t

-- ---- the faults

-- the fault of a part that begins at this place of the text, if it has one
abbrev pub part_fault : ℕ → List ℕ → Option PathFault
part_fault place part =
    if length part == 0 then Some (EmptyPart place)
    else if is_dots part then Some (DotPart place)
    else option_map (λ i. BadByte (place + i)) (position (λ b. not (is_part_byte b)) part)

-- the parts, each with the place of its first byte
abbrev pub parts_with_places : ℕ → List (List ℕ) → List (ℕ × List ℕ)
parts_with_places place [] = []
parts_with_places place (part ∷ parts) = (place, part) ∷ parts_with_places (place + length part + 1) parts

-- the first fault of the parts of a text that begins at this place, if there is one
abbrev pub parts_fault : ℕ → List ℕ → Option PathFault
parts_fault place t =
    slice_get (filter_map (λ p. part_fault p.0 p.1) (parts_with_places place (parts_of t))) 0

-- the first fault of a text that is to be a path
abbrev pub path_fault : List ℕ → Option PathFault
path_fault [] = Some Empty
path_fault (b ∷ bs) =
    if nat_lt 4096 (length (b ∷ bs)) then Some TooLong
    else if is_slash b then parts_fault 1 bs
    else Some NotAbsolute

-- the first fault of a text that is to be a subdirectory
abbrev pub subdir_fault : List ℕ → Option PathFault
subdir_fault [] = Some Empty
subdir_fault (b ∷ bs) =
    if nat_lt 4096 (length (b ∷ bs)) then Some TooLong
    else if is_slash b then Some NotRelative
    else parts_fault 0 (b ∷ bs)

-- ---- what is made of paths

-- the path that a protocol has by default: /svc/ and its name
abbrev pub service_path : List ℕ → List ℕ
service_path name = codes "/svc/" ++ name

-- a slash and a subdirectory
abbrev pub slash_and_text : List ℕ → List ℕ
slash_and_text subdir = codes "/" ++ subdir

-- a path with these subdirectories after it
abbrev pub joined_text : List ℕ → List (List ℕ) → List ℕ
joined_text path subdirs = path ++ flat_map slash_and_text subdirs
