-- Promised.
-- The numbers of the faults of manifests that can't be read, and the limits of manifests.
use Rattle.std.specs.Prelude.{ℕ}

-- ---- faults of the whole manifest

-- the fault of bytes that are no UTF-8
abbrev pub not_utf8 : ℕ
not_utf8 = 30

-- the fault of a text that is no JSON
abbrev pub not_json : ℕ
not_json = 31

-- the fault of JSON that is no object
abbrev pub not_object : ℕ
not_object = 32

-- the fault of a manifest with too many bytes
abbrev pub too_large : ℕ
too_large = 41

-- ---- faults of sections, items and fields

-- the fault of a field that items of its kind don't have
abbrev pub unknown_field : ℕ
unknown_field = 33

-- the fault of an item without a field that it has to have
abbrev pub missing : ℕ
missing = 34

-- the fault of a value of another type, or of an empty list of names or references
abbrev pub wrong_type : ℕ
wrong_type = 35

-- the fault of a text that is to be a name, a reference or a URL, and isn't one
abbrev pub bad_name : ℕ
bad_name = 36

-- the fault of a text that is to be a path or a subdirectory, and isn't one
abbrev pub bad_path : ℕ
bad_path = 37

-- the fault of words that stand for no rights
abbrev pub bad_rights : ℕ
bad_rights = 38

-- the fault of a word that isn't one of its field's
abbrev pub unknown_word : ℕ
unknown_word = 39

-- the fault of an item without exactly one of the fields that tell its kind
abbrev pub kind_count : ℕ
kind_count = 40

-- the fault of a field that may not stand beside several names
abbrev pub not_with_many : ℕ
not_with_many = 42

-- the fault of a section that gives too many rows
abbrev pub too_many_rows : ℕ
too_many_rows = 43

-- ---- limits

-- the most bytes of a manifest
abbrev pub max_bytes : ℕ
max_bytes = 1048576

-- the most rows of a section
abbrev pub max_rows : ℕ
max_rows = 16384
