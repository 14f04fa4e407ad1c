-- The classes of bytes, of which each byte has one.
use Rattle.std.proofs.Common.{◌≡◌, ℕ, true, false, ◌==◌, refl, arith, rules}
use Rattle.cm_text.specs.Bytes.{is_mark, is_space, is_quote, is_word_byte}
use Rattle.cm_text.specs.Pieces.{mark_byte, space_byte, quote_byte, word_byte, class}

-- ---- bytes

-- A byte that is a mark is of the class of marks.
pub mark_class : (b : ℕ) → is_mark b ≡ true → class b ≡ mark_byte
mark_class b h = rw h refl

-- A byte that is a space isn't a mark.
pub space_no_mark : (b : ℕ) → is_space b ≡ true → is_mark b ≡ false
space_no_mark b h = grind (arith, rules)

-- A byte that is a space is of the class of spaces.
pub space_class : (b : ℕ) → is_space b ≡ true → class b ≡ space_byte
space_class b h = rw (space_no_mark b h) (rw h refl)

-- A byte that is a quote isn't a mark.
pub quote_no_mark : (b : ℕ) → is_quote b ≡ true → is_mark b ≡ false
quote_no_mark b h = grind (arith, rules)

-- A byte that is a quote isn't a space.
pub quote_no_space : (b : ℕ) → is_quote b ≡ true → is_space b ≡ false
quote_no_space b h = grind (arith, rules)

-- A byte that is a quote is of the class of quotes.
pub quote_class : (b : ℕ) → is_quote b ≡ true → class b ≡ quote_byte
quote_class b h = rw (quote_no_mark b h) (rw (quote_no_space b h) (rw h refl))

-- A byte that a word may have isn't a mark.
pub word_no_mark : (b : ℕ) → is_word_byte b ≡ true → is_mark b ≡ false
word_no_mark b h = grind (arith, rules)

-- A byte that a word may have isn't a space.
pub word_no_space : (b : ℕ) → is_word_byte b ≡ true → is_space b ≡ false
word_no_space b h = grind (arith, rules)

-- A byte that a word may have isn't a quote.
pub word_no_quote : (b : ℕ) → is_word_byte b ≡ true → is_quote b ≡ false
word_no_quote b h = grind (arith, rules)

-- A byte that a word may have is of the class of words' bytes.
pub word_class : (b : ℕ) → is_word_byte b ≡ true → class b ≡ word_byte
word_class b h = rw (word_no_mark b h) (rw (word_no_space b h) (rw (word_no_quote b h) (rw h refl)))

-- A backslash isn't a quote.
pub slash_no_quote : (q : ℕ) → is_quote q ≡ true → (92 == q) ≡ false
slash_no_quote q h = grind (arith, rules)
