-- Texts that print on one line, in which no word is the arrow.
use Rattle.std.proofs.Common.{◌≡◌, ℕ, zero, suc, ◌/◌, ◌%◌, ◌<◌, List, [], ◌∷◌, ◌++◌, map, filter, Bool, true, false, cond, not, ◌&&◌, ◌==◌, nat_le, Option, Some, None, All, IsTrue, refl, sym, ap, subst, ◌∙◌, arith, rules, codes, true≢false}
use Rattle.std.specs.Prelude.{IfSome}
use Rattle.std.specs.List.{list_all, slice_split, onto_first, join_with_byte}
use Rattle.std.specs.Fmt.{digit_glyph, digits_onto, digits, decimal}
use Rattle.std.proofs.lemmas.Bool.{and_parts, and_from}
use Rattle.std.proofs.lemmas.List.Elements.{All-cons, All-append, All-tail, All-nil}
use Rattle.std.proofs.lemmas.List.Splits.{slice_split_none}
use Rattle.std.proofs.lemmas.List.Folds.{list_all-append}
use Rattle.cm_names.specs.declared.child.ChildName.{ChildName}
use Rattle.cm_names.specs.declared.moniker.Moniker.{Moniker}
use Rattle.cm_names.specs.declared.rights.Right.{Right}
use Rattle.cm_names.specs.declared.rights.Right.TheVariants.{Connect, Enumerate, Execute, GetAttributes, ModifyDirectory, ReadBytes, Traverse, UpdateAttributes, WriteBytes}
use Rattle.cm_names.specs.Child.{child_text}
use Rattle.cm_names.specs.Moniker.{IsChildName, moniker_text, text_of_parts}
use Rattle.cm_names.specs.Name.{IsName, begins_name, continues_name}
use Rattle.cm_names.specs.Rights.{RightSet, text_of, word_of, has, all_rights}
use Rattle.cm_names.specs.Urls.{is_url_byte}
use Rattle.cm_facts.proofs.Rights.{url_byte_no_space}
use Rattle.cm_reply.specs.LegibleInside.{IsLongPath, IsOfNames}
use Rattle.cm_legible.proofs.lemmas.Lists.{head}
use Rattle.cm_legible.proofs.lemmas.Json.{OneLine, is_inner}

-- a byte that prints and is no `>`
abbrev pub is_clean : ℕ → Bool
is_clean b = nat_le 32 b && nat_le b 126 && not (b == 62)

-- A text all of whose bytes print, and none of which is `>`.
abbrev pub Clean : List ℕ → Type 0
Clean t = list_all is_clean t ≡ true

-- Two clean texts, one behind the other, are clean.
pub clean-append : (s t : List ℕ) → Clean s → Clean t → Clean (s ++ t)
clean-append s t h k = list_all-append is_clean s t ∙ and_from (list_all is_clean s) (list_all is_clean t) h k

-- A clean text with one more clean byte before it is clean.
pub clean-cons : (b : ℕ) (t : List ℕ) → is_clean b ≡ true → Clean t → Clean (b ∷ t)
clean-cons b t h k = and_from (is_clean b) (list_all is_clean t) h k

-- Either of two texts that print without `>`, as a test chooses, does so.
either : (b : Bool) (s t : List ℕ) → Clean s → Clean t → Clean (cond b s t)
either true s t h k = h
either false s t h k = k

-- ---- numbers, names and monikers

-- The digit of a number below ten prints and is no `>`.
glyph : (d : ℕ) → d < 10 → is_clean (digit_glyph false d) ≡ true
glyph d h = grind (arith, rules)

-- Digits put before a text that prints without `>` print so with it.
onto : (k n : ℕ) (acc : List ℕ) → Clean acc → Clean (digits_onto k 10 false n acc)
onto zero n acc h = h
onto (suc k) n acc h =
    let here : Clean (digit_glyph false (n % 10) ∷ acc) = clean-cons (digit_glyph false (n % 10)) acc (glyph (n % 10) (omega arith)) h in
    either (n / 10 == 0) _ _ here (onto k (n / 10) (digit_glyph false (n % 10) ∷ acc) here)

-- The decimal text of a number is clean.
pub decimal_clean : (n : ℕ) → Clean (decimal n)
unfolding digits
decimal_clean n = onto 64 n [] refl

-- A byte that continues names prints and is no `>`.
name_byte : (b : ℕ) → continues_name b ≡ true → is_clean b ≡ true
name_byte b h = grind (arith, rules)

-- A byte that begins names prints and is no `>`.
first_byte : (b : ℕ) → begins_name b ≡ true → is_clean b ≡ true
first_byte b h = grind (arith, rules)

-- A text of bytes that continue names prints without `>`.
rest_clean : (cs : List ℕ) → All (λ c. IsTrue (continues_name c)) cs → Clean cs
rest_clean [] k = refl
rest_clean (c ∷ cs) k = clean-cons c cs (name_byte c (head (λ c. IsTrue (continues_name c)) c cs k)) (rest_clean cs (All-tail (λ c. IsTrue (continues_name c)) c cs k))

-- A name is a clean text.
pub name_clean : (t : List ℕ) → IsName t → Clean t
name_clean [] h = absurd h
name_clean (b ∷ bs) h = clean-cons b bs (first_byte b h.1) (rest_clean bs h.2)

-- A name, with or without a collection's, prints without `>`.
in_clean : (coll : Option (List ℕ)) (name : List ℕ) → IfSome coll IsName → IsName name → Clean (Rattle.cm_names.specs.Child.in_collection coll name)
in_clean None name h k = name_clean name k
in_clean (Some coll) name h k = clean-append coll (codes ":" ++ name) (name_clean coll h) (clean-cons 58 name refl (name_clean name k))

-- The text of a child's proper name is clean.
pub child_clean : (c : ChildName) → IsChildName c → Clean (child_text c)
child_clean c h = in_clean c.coll c.name h.1 h.0

-- The texts of children, one or more, joined by slashes, print without `>`.
joined_clean : (c : ChildName) (cs : List ChildName) → All IsChildName (c ∷ cs) → Clean (join_with_byte 47 (map child_text (c ∷ cs)))
joined_clean c [] h = child_clean c (head IsChildName c [] h)
joined_clean c (d ∷ ds) h =
    clean-append (child_text c) (47 ∷ join_with_byte 47 (map child_text (d ∷ ds))) (child_clean c (head IsChildName c (d ∷ ds) h))
    (clean-cons 47 (join_with_byte 47 (map child_text (d ∷ ds))) refl (joined_clean d ds (All-tail IsChildName c (d ∷ ds) h)))

-- The text of a moniker's parts prints without `>`.
parts_clean : (cs : List ChildName) → All IsChildName cs → Clean (text_of_parts cs)
parts_clean [] h = refl
parts_clean (c ∷ cs) h = joined_clean c cs h

-- The text of a moniker of proper names is clean.
pub moniker_clean : (m : Moniker) → IsOfNames m → Clean (moniker_text m)
moniker_clean m h = parts_clean m.parts h

-- The word of a right prints without `>`.
right_clean : (r : Right) → Clean (word_of r)
right_clean Connect = refl
right_clean Enumerate = refl
right_clean Execute = refl
right_clean GetAttributes = refl
right_clean ModifyDirectory = refl
right_clean ReadBytes = refl
right_clean Traverse = refl
right_clean UpdateAttributes = refl
right_clean WriteBytes = refl

-- The words of rights joined by commas print without `>`.
rights_joined : (rs : List Right) → Clean (join_with_byte 44 (map word_of rs))
rights_joined [] = refl
rights_joined (r ∷ []) = right_clean r
rights_joined (r ∷ s ∷ ss) = clean-append (word_of r) (44 ∷ join_with_byte 44 (map word_of (s ∷ ss))) (right_clean r) (clean-cons 44 (join_with_byte 44 (map word_of (s ∷ ss))) refl (rights_joined (s ∷ ss)))

-- The text of a set of rights is clean.
pub rights_clean : (r : RightSet) → Clean (text_of r)
rights_clean r = rights_joined (filter (has r) all_rights)

-- ---- one line

-- A byte that prints and is no `>` is no line feed.
inner_byte : (b : ℕ) → is_clean b ≡ true → is_inner b ≡ true
inner_byte b h = grind (arith, rules)

-- A clean text is on one line.
pub clean_line : (t : List ℕ) → Clean t → OneLine t
clean_line [] h = refl
clean_line (b ∷ bs) h =
    let both = and_parts (is_clean b) (list_all is_clean bs) h in and_from (is_inner b) (list_all is_inner bs) (inner_byte b both.0) (clean_line bs both.1)

-- A byte that may stand in a URL is no line feed.
url_inner : (b : ℕ) → is_url_byte b ≡ true → is_inner b ≡ true
url_inner b h = grind (arith, rules)

-- A text of bytes that a URL may have is on one line.
pub url_line : (t : List ℕ) → list_all is_url_byte t ≡ true → OneLine t
url_line [] h = refl
url_line (b ∷ bs) h =
    let both = and_parts (is_url_byte b) (list_all is_url_byte bs) h in and_from (is_inner b) (list_all is_inner bs) (url_inner b both.0) (url_line bs both.1)

-- ---- words

-- The words of a text: what stands between its spaces.
abbrev pub words : List ℕ → List (List ℕ)
words t = slice_split (λ b. b == 32) t

-- A word is not the arrow.
abbrev pub NoArrow : List ℕ → Type 0
NoArrow w = w ≡ 61 ∷ 62 ∷ [] → ⊥

-- no word of it is the arrow
abbrev pub Arrowless : List ℕ → Type 0
Arrowless t = All NoArrow (words t)

-- A byte put before the first of some words leaves the words behind them as they are.
onto_more : (x : ℕ) (xs ys : List (List ℕ)) → (xs ≡ [] → ⊥) → onto_first x (xs ++ ys) ≡ onto_first x xs ++ ys
onto_more x [] ys h = absurd (h refl)
onto_more x (w ∷ ws) ys h = refl

-- Every text has at least one word, be it empty.
pub some_words : (t : List ℕ) → words t ≡ [] → ⊥
some_words [] e = absurd (cc e)
some_words (b ∷ bs) e = by (b == 32) (words bs) e
  where
    by : (c : Bool) (ws : List (List ℕ)) → cond c ([] ∷ ws) (onto_first b ws) ≡ [] → ⊥
    by true ws e = absurd (cc e)
    by false [] e = absurd (cc e)
    by false (w ∷ ws) e = absurd (cc e)

-- The words of two texts with a space between them are those of the first, then those of the second.
pub words-append : (s t : List ℕ) → words (s ++ 32 ∷ t) ≡ words s ++ words t
words-append [] t = refl
words-append (b ∷ bs) t = by (b == 32) (words-append bs t)
  where
    by : (c : Bool) → words (bs ++ 32 ∷ t) ≡ words bs ++ words t → cond c ([] ∷ words (bs ++ 32 ∷ t)) (onto_first b (words (bs ++ 32 ∷ t))) ≡ cond c ([] ∷ words bs) (onto_first b (words bs)) ++ words t
    by true e = ap (λ ws. [] ∷ ws) e
    by false e = ap (onto_first b) e ∙ onto_more b (words bs) (words t) (some_words bs)

-- Whether a byte is no `>`.
is_tame : ℕ → Bool
is_tame b = not (b == 62)

-- No byte of the text is a `>`.
abbrev Tame : List ℕ → Type 0
Tame w = list_all is_tame w ≡ true

-- A byte that prints and is no `>` is, in particular, no `>`.
tame_byte : (b : ℕ) → is_clean b ≡ true → is_tame b ≡ true
unfolding is_tame
tame_byte b h = grind (arith, rules)

-- Words without `>` stay so with a byte that is none put before the first.
tame_more : (b : ℕ) (ws : List (List ℕ)) → is_tame b ≡ true → All Tame ws → All Tame (onto_first b ws)
tame_more b [] h k = All-cons Tame (b ∷ []) [] (and_from (is_tame b) true h refl) (All-nil Tame)
tame_more b (w ∷ ws) h k = All-cons Tame (b ∷ w) ws (and_from (is_tame b) (list_all is_tame w) h (head Tame w ws k)) (All-tail Tame w ws k)

-- Words without `>` stay so with a byte that is none, whether it cuts them or not.
tame_by : (c : Bool) (b : ℕ) (ws : List (List ℕ)) → is_tame b ≡ true → All Tame ws → All Tame (cond c ([] ∷ ws) (onto_first b ws))
tame_by true b ws h k = All-cons Tame [] ws refl k
tame_by false b ws h k = tame_more b ws h k

-- The words of a text that prints without `>` have none.
tame_words : (t : List ℕ) → Clean t → All Tame (words t)
tame_words [] h = All-cons Tame [] [] refl (All-nil Tame)
tame_words (b ∷ bs) h =
    let both = and_parts (is_clean b) (list_all is_clean bs) h in tame_by (b == 32) b (words bs) (tame_byte b both.0) (tame_words bs both.1)

-- A word without `>` isn't the arrow.
tame_word : (w : List ℕ) → Tame w → NoArrow w
unfolding is_tame
tame_word w h e = absurd (true≢false (sym (sym (ap (list_all is_tame) e) ∙ h)))

-- No word of a clean text is the arrow.
pub clean_arrowless : (t : List ℕ) → Clean t → Arrowless t
clean_arrowless t h = λ k d lt. tame_word _ (tame_words t h k d lt)

-- A text of bytes that may stand in a URL has no space.
spaceless : (t : List ℕ) → list_all is_url_byte t ≡ true → All (λ b. (b == 32) ≡ false) t
spaceless [] h = All-nil (λ b. (b == 32) ≡ false)
spaceless (b ∷ bs) h =
    let both = and_parts (is_url_byte b) (list_all is_url_byte bs) h in All-cons (λ b. (b == 32) ≡ false) b bs (url_byte_no_space b both.0) (spaceless bs both.1)

-- A word that begins with a slash isn't the arrow.
no_path : (rest : List ℕ) → NoArrow (47 ∷ rest)
no_path rest e = absurd (cc e)

-- No word of a path, however long, is the arrow.
pub path_arrowless : (t : List ℕ) → IsLongPath t → Arrowless t
path_arrowless t h =
    subst Arrowless (sym h.1)
    (subst (All NoArrow) (sym (slice_split_none (λ b. b == 32) (47 ∷ h.0) (All-cons (λ b. (b == 32) ≡ false) 47 h.0 refl (spaceless h.0 h.2))))
    (All-cons NoArrow (47 ∷ h.0) [] (no_path h.0) (All-nil NoArrow)))

-- A path, however long, is on one line.
pub path_line : (t : List ℕ) → IsLongPath t → OneLine t
path_line t h = subst OneLine (sym h.1) (and_from true (list_all is_inner h.0) refl (url_line h.0 h.2))

-- Two texts without an arrow among their words have none with a space between them.
pub arrowless-append : (s t : List ℕ) → Arrowless s → Arrowless t → Arrowless (s ++ 32 ∷ t)
arrowless-append s t h k = subst (All NoArrow) (sym (words-append s t)) (All-append NoArrow (words s) (words t) h k)
