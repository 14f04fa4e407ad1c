-- Promised.
-- The text of a URL, as manifests and commands have it.
use Rattle.std.specs.Prelude.{ℕ, Bool, not, ◌&&◌, List, length, nat_le, ◌==◌}
use Rattle.std.specs.List.{list_all}

-- whether a URL may have this byte: printing ASCII but the space
abbrev pub is_url_byte : ℕ → Bool
is_url_byte b = nat_le 33 b && nat_le b 126

-- whether a text may be a URL: 1 to 4,096 of these bytes
abbrev pub is_url_text : List ℕ → Bool
is_url_text text = not (length text == 0) && nat_le (length text) 4096 && list_all is_url_byte text
