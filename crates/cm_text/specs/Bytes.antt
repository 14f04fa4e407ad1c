-- Promised.
-- Classes of bytes in the relaxed spelling of JSON, in which manifests are written.
use Rattle.std.specs.Prelude.{ℕ, List, [], ◌∷◌, Bool, false, not, ◌||◌, ◌&&◌, ◌==◌, nat_le}

-- whether a byte is one of the marks { } [ ] : ,
abbrev pub is_mark : ℕ → Bool
is_mark b = (b == 123) || (b == 125) || (b == 91) || (b == 93) || (b == 58) || (b == 44)

-- whether a byte is a space, a tab, a line feed or a carriage return
abbrev pub is_space : ℕ → Bool
is_space b = (b == 32) || (b == 9) || (b == 10) || (b == 13)

-- whether a byte doesn't end a line
abbrev pub is_in_line : ℕ → Bool
is_in_line b = not (b == 10)

-- whether a byte is one of the quotes " and '
abbrev pub is_quote : ℕ → Bool
is_quote b = (b == 34) || (b == 39)

-- whether a byte is an ASCII letter
abbrev pub is_letter : ℕ → Bool
is_letter b = (nat_le 65 b && nat_le b 90) || (nat_le 97 b && nat_le b 122)

-- whether a byte is an ASCII digit
abbrev pub is_digit : ℕ → Bool
is_digit b = nat_le 48 b && nat_le b 57

-- whether a key without quotes may begin with this byte: a letter, _ or $
abbrev pub begins_key : ℕ → Bool
begins_key b = is_letter b || (b == 95) || (b == 36)

-- whether a key without quotes may have this byte: one of those, or a digit
abbrev pub continues_key : ℕ → Bool
continues_key b = begins_key b || is_digit b

-- whether a word may have this byte: a letter, a digit, or one of _ $ + - .
abbrev pub is_word_byte : ℕ → Bool
is_word_byte b = continues_key b || (b == 43) || (b == 45) || (b == 46)

-- whether a text's first byte passes the test
abbrev pub begins_with : (ℕ → Bool) → List ℕ → Bool
begins_with p [] = false
begins_with p (b ∷ bs) = p b

-- whether a text begins with a star and a slash
abbrev pub closes_comment : List ℕ → Bool
closes_comment [] = false
closes_comment (b ∷ bs) = (b == 42) && begins_with (λ c. c == 47) bs
