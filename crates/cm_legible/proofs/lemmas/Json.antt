-- No text of a declaration has a line feed in it.
use Rattle.std.proofs.Common.{◌≡◌, ℕ, zero, suc, ◌/◌, ◌%◌, ◌<◌, List, [], ◌∷◌, ◌++◌, Bool, true, false, cond, not, ◌==◌, nat_lt, ℤ, pos, negsuc, refl, ◌∙◌, arith, rules}
use Rattle.std.specs.List.{list_all}
use Rattle.std.specs.Char.{digit_char}
use Rattle.std.specs.Fmt.{digit_glyph, digits_onto, digits, decimal, signed_decimal}
use Rattle.std.proofs.lemmas.List.Folds.{list_all-append}
use Rattle.json.specs.Token.{Token}
use Rattle.json.specs.Print.{escape_letter, escape_byte, escape, quoted, token_text}
use Rattle.serde_json.specs.Data.{Num, unsigned, negative, float, Data, null, boolean, number, string, array, object, Items, no_items, item, Members, no_members, member}
use Rattle.serde_json.specs.Written.{number_text, comma_if, compact_text, items_text, members_text}
use Rattle.std.proofs.lemmas.Bool.{and_from}

-- no line feed
abbrev pub is_inner : ℕ → Bool
is_inner b = not (b == 10)

-- The text has no line feed.
abbrev pub OneLine : List ℕ → Type 0
OneLine t = list_all is_inner t ≡ true

-- Two texts without a line feed make one without a line feed.
pub one_line-append : (s t : List ℕ) → OneLine s → OneLine t → OneLine (s ++ t)
one_line-append s t h k = list_all-append is_inner s t ∙ and_from (list_all is_inner s) (list_all is_inner t) h k

-- A byte that is no line feed, and a text without one behind it, are without a line feed.
pub one_line-cons : (b : ℕ) (t : List ℕ) → is_inner b ≡ true → OneLine t → OneLine (b ∷ t)
one_line-cons b t h k = and_from (is_inner b) (list_all is_inner t) h k

-- Either of two texts without a line feed, as a test chooses, has none.
either : (b : Bool) (s t : List ℕ) → OneLine s → OneLine t → OneLine (cond b s t)
either true s t h k = h
either false s t h k = k

-- The text that a test chooses has no line feed, where each has none if it is chosen.
unless : (b : Bool) (s t : List ℕ) → (b ≡ true → OneLine s) → (b ≡ false → OneLine t) → OneLine (cond b s t)
unless true s t h k = h refl
unless false s t h k = k refl

-- ---- numbers

-- The digit of a number below ten is no line feed.
glyph : (d : ℕ) → d < 10 → is_inner (digit_glyph false d) ≡ true
glyph d h = grind (arith, rules)

-- Digits put before a text without a line feed have none with it.
onto : (k n : ℕ) (acc : List ℕ) → OneLine acc → OneLine (digits_onto k 10 false n acc)
onto zero n acc h = h
onto (suc k) n acc h =
    let here : OneLine (digit_glyph false (n % 10) ∷ acc) = one_line-cons (digit_glyph false (n % 10)) acc (glyph (n % 10) (omega arith)) h in
    either (n / 10 == 0) _ _ here (onto k (n / 10) (digit_glyph false (n % 10) ∷ acc) here)

-- A decimal number has no line feed.
pub decimal_line : (n : ℕ) → OneLine (decimal n)
unfolding digits
decimal_line n = onto 64 n [] refl

-- A signed number in decimal has no line feed.
signed_line : (z : ℤ) → OneLine (signed_decimal z)
signed_line (pos n) = decimal_line n
signed_line (negsuc n) = one_line-cons 45 (decimal (suc n)) refl (decimal_line (suc n))

-- The text of a number has no line feed.
number_line : (n : Num) → OneLine (number_text n)
number_line (unsigned n) = decimal_line n
number_line (negative z) = signed_line z
number_line (float x) = refl

-- ---- strings

-- A hexadecimal digit is no line feed.
hex : (d : ℕ) → is_inner (digit_char d) ≡ true
hex d = grind (arith, rules)

-- The letter of an escape, where there is one, is no line feed.
letter : (x : ℕ) → nat_lt 0 (escape_letter x) ≡ true → is_inner (escape_letter x) ≡ true
letter x h = grind (arith, rules)

-- A byte from 32 on is no line feed.
plain : (x : ℕ) → nat_lt x 32 ≡ false → is_inner x ≡ true
plain x h = grind (arith, rules)

-- An escaped byte has no line feed.
byte_line : (x : ℕ) → OneLine (escape_byte x)
unfolding escape_byte
byte_line x =
    unless (nat_lt 0 (escape_letter x)) _ _ (λ e. one_line-cons 92 (escape_letter x ∷ []) refl (one_line-cons (escape_letter x) [] (letter x e) refl))
    (λ f. unless (nat_lt x 32) _ _ (λ e. one_line-cons (digit_char (x / 16)) (digit_char (x % 16) ∷ []) (hex (x / 16)) (one_line-cons (digit_char (x % 16)) [] (hex (x % 16)) refl)) (λ e. one_line-cons x [] (plain x e) refl))

-- An escaped text has no line feed.
escape_line : (s : List ℕ) → OneLine (escape s)
escape_line [] = refl
escape_line (x ∷ xs) = one_line-append (escape_byte x) (escape xs) (byte_line x) (escape_line xs)

-- A quoted text has no line feed.
quoted_line : (s : List ℕ) → OneLine (quoted s)
quoted_line s = one_line-append (escape s) (34 ∷ []) (escape_line s) refl

-- ---- values

-- The comma before an item, where there is one, has no line feed.
comma_line : (b : Bool) → OneLine (comma_if b)
comma_line true = refl
comma_line false = refl

-- The text of a truth value has no line feed.
word_line : (b : Bool) → OneLine (token_text (Token.boolean b))
word_line true = refl
word_line false = refl

mutual
  -- The compact text of data has no line feed.
  pub compact_line : (d : Data) → OneLine (compact_text d)
  compact_line null = refl
  compact_line (boolean b) = word_line b
  compact_line (number n) = number_line n
  compact_line (string s) = quoted_line s
  compact_line (array ds) = items_line false ds
  compact_line (object ms) = members_line false ms

  -- The text of items has no line feed.
  items_line : (b : Bool) (ds : Items) → OneLine (items_text b ds)
  items_line b no_items = refl
  items_line b (item d ds) =
      one_line-append (comma_if b) (compact_text d ++ items_text true ds) (comma_line b) (one_line-append (compact_text d) (items_text true ds) (compact_line d) (items_line true ds))

  -- The text of members has no line feed.
  members_line : (b : Bool) (ms : Members) → OneLine (members_text b ms)
  members_line b no_members = refl
  members_line b (member k d ms) =
      one_line-append (comma_if b) (quoted k ++ 58 ∷ (compact_text d ++ members_text true ms)) (comma_line b)
      (one_line-append (quoted k) (58 ∷ (compact_text d ++ members_text true ms)) (quoted_line k)
      (one_line-append (compact_text d) (members_text true ms) (compact_line d) (members_line true ms)))
