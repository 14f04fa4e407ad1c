-- The lengths that the code finds, and what they say of the definition's pieces.
use Rattle.std.proofs.Common.{◌≡◌, ℕ, suc, ◌+◌, ◌-◌, ◌<◌, ◌≤◌, List, ◌∷◌, length, Bool, true, false, ◌==◌, Option, Some, None, option_map, refl, sym, ap, ◌∙◌, arith, eqb-true, get_or, drop, take, add-zero, zero-add}
use Rattle.std.proofs.lemmas.List.{drop_more, drop_all, take_rest}
use Rattle.std.proofs.lemmas.Bool.{false_from_ne_true}
use Rattle.cm_text.specs.Bytes.{closes_comment}
use Rattle.cm_text.specs.Pieces.{comment}
use Rattle.cm_text.proofs.lemmas.pieces.Piece.{comment_here, comment_later}
use Rattle.cm_text.specs.Scan.{close_place}

-- ---- one byte further

-- A place that is one further, told behind so many bytes, is that place behind one byte more.
further : (i : ℕ) (o : Option ℕ) → option_map (λ n. i + n) (option_map suc o) ≡ option_map (λ n. i + 1 + n) o
further i None = refl
further i (Some n) = ap (λ m. Some m) (omega arith)

-- ---- strings

-- Behind a backslash the closing quote is sought from the next byte on, one place further.
close_taken : (q b : ℕ) (bs : List ℕ) (e : Bool) → e ≡ true → close_place q e (b ∷ bs) ≡ option_map suc (close_place q false bs)
close_taken q b bs e h = rw h refl

-- Behind a byte that isn't the quote, the closing quote is one further than in the rest.
close_plain : (q b : ℕ) (bs : List ℕ) (e : Bool) → e ≡ false → (b == q) ≡ false → close_place q e (b ∷ bs) ≡ option_map suc (close_place q (b == 92) bs)
close_plain q b bs e h f = rw h (rw (close_place, f) refl)

-- Past a byte behind a backslash the same closing quote is found.
pub past_taken : (o : Option ℕ) (q i : ℕ) (xs : List ℕ) (e f : Bool) → i < length xs → e ≡ true → f ≡ false → o ≡ option_map (λ n. i + n) (close_place q e (drop i xs)) → o ≡ option_map (λ n. i + 1 + n) (close_place q f (drop (i + 1) xs))
past_taken o q i xs e f h behind after before =
    before
    ∙ ap (λ bs. option_map (λ n. i + n) (close_place q e bs)) (drop_more xs i 0 h)
    ∙ ap (option_map (λ n. i + n)) (close_taken q (get_or xs i 0) (drop (i + 1) xs) e behind)
    ∙ further i (close_place q false (drop (i + 1) xs))
    ∙ ap (λ g. option_map (λ n. i + 1 + n) (close_place q g (drop (i + 1) xs))) (sym after)

-- Past a byte that is neither the quote nor behind a backslash the same closing quote is found.
pub past_plain : (o : Option ℕ) (q i : ℕ) (xs : List ℕ) (e f : Bool) → i < length xs → e ≡ false → (get_or xs i 0 ≡ q → ⊥) → f ≡ (get_or xs i 0 == 92) → o ≡ option_map (λ n. i + n) (close_place q e (drop i xs)) → o ≡ option_map (λ n. i + 1 + n) (close_place q f (drop (i + 1) xs))
past_plain o q i xs e f h behind other after before =
    let differs : (get_or xs i 0 == q) ≡ false = false_from_ne_true (get_or xs i 0 == q) (λ same. other (eqb-true (get_or xs i 0) q same)) in
    before
    ∙ ap (λ bs. option_map (λ n. i + n) (close_place q e bs)) (drop_more xs i 0 h)
    ∙ ap (option_map (λ n. i + n)) (close_plain q (get_or xs i 0) (drop (i + 1) xs) e behind differs)
    ∙ further i (close_place q (get_or xs i 0 == 92) (drop (i + 1) xs))
    ∙ ap (λ g. option_map (λ n. i + 1 + n) (close_place q g (drop (i + 1) xs))) (sym after)

-- ---- comments

-- A text with a byte in front, if there is one, is one byte longer.
lengths : (b : ℕ) (o : Option (List ℕ)) → option_map length (option_map (λ cs. b ∷ cs) o) ≡ option_map suc (option_map length o)
lengths b None = refl
lengths b (Some cs) = refl

-- whether the bytes from a place on begin with a star and a slash
closes_at : (xs : List ℕ) (i : ℕ) (r t : Bool) → i < length xs → r ≡ closes_comment (take (length xs - i) (drop i xs)) → r ≡ t → closes_comment (get_or xs i 0 ∷ drop (i + 1) xs) ≡ t
closes_at xs i r t h e f = ap closes_comment (sym (take_rest xs i ∙ drop_more xs i 0 h)) ∙ sym e ∙ f

-- Where a star and a slash stand at a place, the end of the comment is found there.
pub comment_ends : (o : Option ℕ) (i : ℕ) (xs : List ℕ) (r : Bool) → i < length xs → r ≡ closes_comment (take (length xs - i) (drop i xs)) → r ≡ true → o ≡ option_map (λ n. i + n) (option_map length (comment (drop i xs))) → Some i ≡ o
comment_ends o i xs r h e f before =
    sym (before
    ∙ ap (λ bs. option_map (λ n. i + n) (option_map length (comment bs))) (drop_more xs i 0 h)
    ∙ ap (λ c. option_map (λ n. i + n) (option_map length c)) (comment_here (get_or xs i 0) (drop (i + 1) xs) (closes_at xs i r true h e f))
    ∙ ap (λ m. Some m) (add-zero i))

-- Where no star and slash stand at a place, the same end of the comment is found behind it.
pub comment_goes_on : (o : Option ℕ) (i : ℕ) (xs : List ℕ) (r : Bool) → i < length xs → r ≡ closes_comment (take (length xs - i) (drop i xs)) → r ≡ false → o ≡ option_map (λ n. i + n) (option_map length (comment (drop i xs))) → o ≡ option_map (λ n. i + 1 + n) (option_map length (comment (drop (i + 1) xs)))
comment_goes_on o i xs r h e f before =
    before
    ∙ ap (λ bs. option_map (λ n. i + n) (option_map length (comment bs))) (drop_more xs i 0 h)
    ∙ ap (λ c. option_map (λ n. i + n) (option_map length c)) (comment_later (get_or xs i 0) (drop (i + 1) xs) (closes_at xs i r false h e f))
    ∙ ap (option_map (λ n. i + n)) (lengths (get_or xs i 0) (comment (drop (i + 1) xs)))
    ∙ further i (option_map length (comment (drop (i + 1) xs)))

-- Where no bytes are left, no end of the comment is found.
pub comment_never : (o : Option ℕ) (i : ℕ) (xs : List ℕ) → length xs ≤ i → o ≡ option_map (λ n. i + n) (option_map length (comment (drop i xs))) → None ≡ o
unfolding comment
comment_never o i xs h before = sym (before ∙ ap (λ bs. option_map (λ n. i + n) (option_map length (comment bs))) (drop_all i xs h))

-- From the first place on, the end of a comment is found at its length.
pub comment_begins : (o : Option (List ℕ)) → option_map length o ≡ option_map (λ n. 0 + n) (option_map length o)
comment_begins None = refl
comment_begins (Some cs) = ap (λ m. Some m) (sym (zero-add (length cs)))
