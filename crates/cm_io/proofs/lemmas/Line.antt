-- Lemmas on the lines of bytes, and on what a line reader has passed over.
use Rattle.std.proofs.Common.{map, ◌≡◌, ◌≢◌, ◌≤◌, ◌<◌, ◌==◌, ◌⊎◌, inl, inr, ℕ, suc, length-append, ◌+◌, ◌-◌, cond, nat_lt, Bool, true, false, List, [], ◌∷◌, ◌++◌, length, get_or, take, drop, Option, None, Some, refl, ap, sym, ◌∙◌, subst, append_assoc, append-nil, drop-cons, add-one, arith}
use mathlib.Core.Bool.{true≢false}
use Rattle.std.specs.List.{Contains, position, position_or_len}
use Rattle.std.proofs.lemmas.Grind.{common_steps}
use Rattle.std.proofs.lemmas.Bool.Decides.{nat_tests, leb_tells}
use Rattle.std.proofs.lemmas.List.{take-append-drop, drop-drop, drop-take, length-take}
use Rattle.std.proofs.lemmas.List.Elements.{All-append, All-from_get_or}
use Rattle.std.proofs.lemmas.List.Quantifiers.{position-Some}
use Rattle.std.proofs.lemmas.List.Sums.{fails_before_first}
use Rattle.std.specs.Io.KnownBytes.{Consumes, IsAtEnd, Keeps, prepend_known}
use Rattle.std.proofs.KnownBytes.{Appends-trans, Consumes-trans, Consumes-kept, Appends-kept}
use Rattle.cm_io.specs.declared.lines.Next.{Next}
use Rattle.cm_io.specs.declared.lines.Next.TheVariants as next
use Rattle.cm_io.specs.Outside.{AsSource}
use Rattle.cm_io.proofs.lemmas.Ordering.{came-trans, joined-more}
use Rattle.cm_io.specs.Orders.{MovesCame, Move, joined, gave as gave_move}
use Rattle.cm_io.specs.OrdersInside.{Pulled, ReadsUnbroken}
use Rattle.cm_io.specs.Lines.{Moves, lines, in_prefix}
use Rattle.cm_io.specs.LinesInside.{EndsOnce, IsUnbroken, IsFirstLine, LineGrows, Reader, TakesPart, TakesLine, TellsLine}

-- Whether a byte ends a line: whether it is the line feed.
abbrev ends_line : ℕ → Bool
ends_line byte = byte == 10

-- A byte that ends a line is the line feed.
is_end : (b : ℕ) → ends_line b ≡ true → b ≡ 10
is_end b e = grind (arith, nat_tests)

-- A byte that ends no line isn't the line feed.
is_no_end : (b : ℕ) → ends_line b ≡ false → b ≢ 10
is_no_end b e = grind (arith, nat_tests)

-- Where the lesser of two isn't told, the second is at most the first.
past : (a b : ℕ) → None ≡ cond (nat_lt a b) (Some a) None → b ≤ a
past a b e = grind (arith, nat_tests)

-- where no line end is found, there is none
pub unbroken-None : (bytes : List ℕ) → None ≡ position ends_line bytes → IsUnbroken bytes
unbroken-None bytes e =
    let whole = past (position_or_len ends_line bytes) (length bytes) e in
    All-from_get_or (λ b. b ≢ 10) bytes 0 (λ i lt. is_no_end _ (fails_before_first ends_line bytes i 0 (omega (arith, whole, lt))))

-- what stands before the first line end is unbroken
pub unbroken-Some : (bytes : List ℕ) (n : ℕ) → Some n ≡ position ends_line bytes → IsUnbroken (take n bytes)
unbroken-Some bytes n e =
    let at = position-Some ends_line bytes n 0 (sym e) in
    All-from_get_or (λ b. b ≢ 10) (take n bytes) 0
    (λ i lt.
    let less : i < n = omega (arith, lt, length-take n bytes) in
    let same : get_or (take n bytes) i 0 ≡ get_or bytes i 0 = grind (arith, common_steps) in
    subst (λ (b : ℕ). b ≢ 10) (sym same) (is_no_end _ (at.2 i less)))

-- the first line end parts the bytes
pub parted-Some : (bytes : List ℕ) (n : ℕ) → Some n ≡ position ends_line bytes → (n < length bytes) × (bytes ≡ take n bytes ++ 10 ∷ drop (n + 1) bytes)
parted-Some bytes n e =
    let at = position-Some ends_line bytes n 0 (sym e) in
    let here : get_or bytes n 0 ≡ 10 = is_end _ at.1 in
    let within : n < length bytes = at.0 in
    let rest : drop n bytes ≡ 10 ∷ drop (n + 1) bytes = rw add-one (drop-cons bytes n 0 within ∙ ap (λ (b : ℕ). b ∷ drop (suc n) bytes) here) in
    (within, sym (take-append-drop n bytes) ∙ ap (λ (l : List ℕ). take n bytes ++ l) rest)

-- what a reader holds after its first k bytes went
pub drop-held : (xs : List ℕ) (start end k : ℕ) → start + k ≤ end → drop k (take (end - start) (drop start xs)) ≡ take (end - (start + k)) (drop (start + k) xs)
drop-held xs start end k h =
    let m = end - (start + k) in
    let e : end - start ≡ k + m = omega arith in
    ap (λ (n : ℕ). drop k (take n (drop start xs))) e ∙ drop-take k m (drop start xs) ∙ ap (take m) (drop-drop k start xs)

-- the bytes of a piece that are held
abbrev pub held_of : List ℕ → ℕ → ℕ → List ℕ
held_of xs start end = take (end - start) (drop start xs)

-- Where a line feed is held, the line grows by what is before it, and what is behind it stays held.
pub takes-Some : (xs : List ℕ) (start end n : ℕ) (old new : List ℕ) → start ≤ end → end ≤ length xs → Some n ≡ position ends_line (held_of xs start end)
    → LineGrows old new (take n (held_of xs start end)) → TakesPart (held_of xs start end) (held_of xs (start + (n + 1)) end) old new true
takes-Some xs start end n old new h k e grows =
    let held = held_of xs start end in
    let parted = parted-Some held n e in
    let fits : start + (n + 1) ≤ end = omega (arith, parted.0, length-take (end - start) (drop start xs)) in
    (take n held, unbroken-Some held n e, parted.1 ∙ ap (λ (l : List ℕ). take n held ++ 10 ∷ l) (drop-held xs start end (n + 1) fits), grows)

-- Where no line feed is held, the line grows by all that is held, and nothing stays held.
pub takes-None : (xs : List ℕ) (start end : ℕ) (old new : List ℕ) → None ≡ position ends_line (held_of xs start end)
    → LineGrows old new (held_of xs start end) → TakesPart (held_of xs start end) (held_of xs end end) old new false
takes-None xs start end old new e grows =
    let none : end - end ≡ 0 = omega arith in
    (unbroken-None (held_of xs start end) e, ap (λ (n : ℕ). take n (drop end xs)) none, grows)

-- unbroken bytes hold no line end
pub unheld : (held : List ℕ) → IsUnbroken held → Contains held 10 → ⊥
unheld held unbroken (k, lt, e) = unbroken k 10 lt e

-- ---- the lines of all bytes

-- a byte that ends no line goes before the first line
lines-in_prefix : (byte : ℕ) (bytes : List ℕ) → byte ≢ 10 → lines (byte ∷ bytes) ≡ in_prefix byte (lines bytes)
unfolding lines
lines-in_prefix byte bytes h = grind (arith, nat_tests)

-- A line feed before bytes makes an empty line before their lines.
lines-ended : (bytes : List ℕ) → lines (10 ∷ bytes) ≡ [] ∷ lines bytes
unfolding lines
lines-ended bytes = refl

-- Where there are no bytes, there are no lines.
pub lines-nil : lines [] ≡ []
unfolding lines
lines-nil = refl

-- Without their first byte, bytes without a line feed have none either.
pub unbroken-tail : (byte : ℕ) (bytes : List ℕ) → IsUnbroken (byte ∷ bytes) → IsUnbroken bytes
unbroken-tail byte bytes h = λ k d lt. h (suc k) d (omega arith)

-- The first of bytes without a line feed is none.
pub unbroken-head : (byte : ℕ) (bytes : List ℕ) → IsUnbroken (byte ∷ bytes) → byte ≢ 10
unbroken-head byte bytes h = h 0 0 (omega arith)

-- an ended line is the first line
pub lines-first : (line rest : List ℕ) → IsUnbroken line → lines (line ++ 10 ∷ rest) ≡ line ∷ lines rest
lines-first [] rest h = lines-ended rest
lines-first (byte ∷ line) rest h =
    lines-in_prefix byte (line ++ 10 ∷ rest) (unbroken-head byte line h) ∙ ap (in_prefix byte) (lines-first line rest (unbroken-tail byte line h))

-- bytes with no line end are one line, where there are some
pub lines-last : (line : List ℕ) → IsUnbroken line → 0 < length line → lines line ≡ line ∷ []
lines-last [] h lt = absurd (omega arith)
lines-last (byte ∷ []) h lt = lines-in_prefix byte [] (unbroken-head byte [] h) ∙ ap (in_prefix byte) lines-nil
lines-last (byte ∷ next ∷ line) h lt =
    lines-in_prefix byte (next ∷ line) (unbroken-head byte (next ∷ line) h)
    ∙ ap (in_prefix byte) (lines-last (next ∷ line) (unbroken-tail byte (next ∷ line) h) (omega arith))

-- ---- one call

-- `line` is the bytes `gone`, or both are too long
abbrev pub Carries : List ℕ → List ℕ → Type 0
Carries line gone = (line ≡ gone) ⊎ ((65536 < length line) × (65536 < length gone))

-- ---- the order of reads

-- The moves that gave pieces, with one more, are those of the pieces and one of that piece.
moves-more : (pieces : List (List ℕ)) (piece : List ℕ) → map gave_move (pieces ++ piece ∷ []) ≡ map gave_move pieces ++ gave_move piece ∷ []
moves-more [] piece = refl
moves-more (p ∷ pieces) piece = ap (λ (l : List Move). gave_move p ∷ l) (moves-more pieces piece)

-- Reads without a line feed so far are such with one piece more, where all bytes have none.
reads-more : (taken piece : List ℕ) (pieces : List (List ℕ)) → ReadsUnbroken taken pieces → IsUnbroken (taken ++ joined pieces) → ReadsUnbroken taken (pieces ++ piece ∷ [])
reads-more taken piece [] reads unbroken = (subst IsUnbroken (append-nil taken) unbroken, tt)
reads-more taken piece (p ∷ pieces) reads unbroken =
    (reads.0, reads-more (taken ++ p) piece pieces reads.1 (subst IsUnbroken (sym (append_assoc taken p (joined pieces))) unbroken))

-- Where nothing was read yet, what is held is what was held.
pub pulled-none : (o : Option (List Move)) (held : List ℕ) → MovesCame o o [] → Pulled o o held []
pulled-none o held came = record { pieces = []; all = refl; came = came; no_further = tt }

-- one read more, while no line ends in what is there
pulled-more : (first o then : Option (List Move)) (held given piece : List ℕ) → Pulled first o held given → IsUnbroken (held ++ given)
    → MovesCame o then (gave_move piece ∷ []) → Pulled first then held (given ++ piece)
pulled-more first o then held given piece p unbroken came = record {
  pieces = p.pieces ++ piece ∷ [];
  all = ap (λ (l : List ℕ). l ++ piece) p.all ∙ sym (joined-more p.pieces piece);
  came = subst (MovesCame first then) (sym (moves-more p.pieces piece)) (came-trans first o then (map gave_move p.pieces) (gave_move piece ∷ []) p.came came);
  no_further = reads-more held piece p.pieces p.no_further (subst (λ (l : List ℕ). IsUnbroken (held ++ l)) p.all unbroken);
}

-- what a call has passed over so far: `gone`, of the `held` bytes and of those that the source gave
pub record Passed (old now : AsSource) (first o : Option (List Move)) (over : Bool) (held kept line : List ℕ) : Type 0 where
  pub given : List ℕ
  pub gone : List ℕ
  pub gave : Moves old now given
  pub still : over ≡ true → (given ≡ []) × (now ≡ old)
  pub moved : held ++ given ≡ gone ++ kept
  pub unbroken : IsUnbroken gone
  pub carried : Carries line gone
  pub pulled : Pulled first o held given

-- Where a line stands for the bytes gone, it does with a part by which both grow.
Carries-grown : (line next gone part : List ℕ) → LineGrows line next part → Carries line gone → Carries next (gone ++ part)
Carries-grown line next gone part grows (inl e) =
    elim (leb_tells (length line) 65536) [
      | inl h ↦ inl (grows.0 h.1 ∙ ap (λ (l : List ℕ). l ++ part) e)
      | inr h ↦ inr (omega (arith, h.1, ap length (grows.1 h.1)), omega (arith, h.1, ap length e, length-append gone part))
    ]
Carries-grown line next gone part grows (inr h) =
    inr (omega (arith, h.0, ap length (grows.1 h.0)), omega (arith, h.1, length-append gone part))

-- no line end stands in what was held, and then the source gave `more`
pub passed-filled : (old now then : AsSource) (first o after : Option (List Move)) (over : Bool) (held kept line next more : List ℕ) → over ≡ false
    → Passed old now first o over held kept line → IsUnbroken kept → LineGrows line next kept
    → Moves now then more → MovesCame o after (gave_move more ∷ []) → Passed old then first after over held more next
passed-filled old now then first o after over held kept line next more not p unbroken grows gave came = record {
  given = p.given ++ more;
  gone = p.gone ++ kept;
  gave = (Consumes-trans old.left now.left then.left p.given more p.gave.0 gave.0, Appends-trans old.given now.given then.given p.given more p.gave.1 gave.1);
  still = λ e. absurd (true≢false (sym e ∙ not));
  moved = sym (append_assoc held p.given more) ∙ ap (λ (l : List ℕ). l ++ more) p.moved;
  unbroken = All-append (λ b. b ≢ 10) p.gone kept p.unbroken unbroken;
  carried = Carries-grown line next p.gone kept grows p.carried;
  pulled = pulled-more first o after held p.given more p.pulled (subst IsUnbroken (sym p.moved) (All-append (λ b. b ≢ 10) p.gone kept p.unbroken unbroken)) came;
}

-- what a call may tell, with the bytes that the source gave in it
abbrev pub Told : AsSource → AsSource → Option (List Move) → Option (List Move) → Reader → Reader → Next → Type 0
Told old now first o before after answer =
    (given : List ℕ) × Moves old now given × EndsOnce before after old now given × TellsLine (before.held ++ given) after answer × Pulled first o before.held given

-- A line that stands for the bytes gone tells the first line, or that it is too long.
tells-line : (taken : List ℕ) (after : Reader) (line gone : List ℕ) (answer : Next) → Carries line gone → IsFirstLine taken after gone
    → (length line ≤ 65536 → answer ≡ next.Line line) → (65536 < length line → answer ≡ next.TooLong) → TellsLine taken after answer
tells-line taken after line gone answer (inl e) first short long =
    elim (leb_tells (length line) 65536) [
      | inl h ↦ subst (TellsLine taken after) (sym (short h.1)) (h.1, subst (IsFirstLine taken after) (sym e) first)
      | inr h ↦ subst (TellsLine taken after) (sym (long h.1)) (gone, omega (arith, h.1, ap length e), first)
    ]
tells-line taken after line gone answer (inr h) first short long = subst (TellsLine taken after) (sym (long h.0)) (gone, h.1, first)

-- a call that leaves the reader as far as it was
same-end : (before after : Reader) (old now : AsSource) (given : List ℕ) → after.over ≡ before.over → (before.over ≡ true → (given ≡ []) × (now ≡ old)) → EndsOnce before after old now given
same-end before after old now given e still = record {
  still = λ over. ((still over).0, e ∙ over, (still over).1);
  comes = λ not there. absurd (true≢false (sym there ∙ e ∙ not));
}

-- Where the line ends in what is held, the call tells that line, or that it is too long.
pub told-whole : (old now : AsSource) (first o : Option (List Move)) (before after : Reader) (kept line grown : List ℕ) (answer : Next) → after.over ≡ before.over
    → Passed old now first o before.over before.held kept line → TakesPart kept after.held line grown true
    → (length grown ≤ 65536 → answer ≡ next.Line grown) → (65536 < length grown → answer ≡ next.TooLong) → Told old now first o before after answer
told-whole old now first o before after kept line grown answer e p (part, unbroken, parted, grows) short long =
    let gone = p.gone ++ part in
    let moved : before.held ++ p.given ≡ gone ++ 10 ∷ after.held =
    p.moved ∙ ap (λ (l : List ℕ). p.gone ++ l) parted ∙ sym (append_assoc p.gone part (10 ∷ after.held)) in (
      p.given,
      p.gave,
      same-end before after old now p.given e p.still,
      tells-line (before.held ++ p.given) after grown gone answer (Carries-grown line grown p.gone part grows p.carried)
          (All-append (λ b. b ≢ 10) p.gone part p.unbroken unbroken, inl moved) short long,
      p.pulled,
    )

-- a line is empty where the bytes are that it stands for
nothing : (line gone : List ℕ) → Carries line gone → length line ≤ 0 → gone ≡ []
nothing [] gone (inl e) h = sym e
nothing (b ∷ line) gone c h = absurd (omega arith)
nothing [] gone (inr c) h = absurd (omega (arith, c.0))

-- Where a line stands for the bytes gone and has some, some are gone.
some : (line gone : List ℕ) → Carries line gone → 0 < length line → 0 < length gone
some line gone (inl e) h = omega (arith, ap length e)
some line gone (inr c) h = omega (arith, c.1)

-- the source is at its end, or was before: all that was held is the last line, if it isn't empty
pub told-last : (old then : AsSource) (first o : Option (List Move)) (before after : Reader) (kept line grown : List ℕ) (answer : Next) → after.held ≡ [] → after.over ≡ true
    → (before.over ≡ false → IsAtEnd then.left) → Passed old then first o before.over before.held kept line → TakesPart kept [] line grown false
    → (length grown ≡ 0 → answer ≡ next.End) → (0 < length grown → length grown ≤ 65536 → answer ≡ next.Line grown)
    → (65536 < length grown → answer ≡ next.TooLong) → Told old then first o before after answer
told-last old then first o before after kept line grown answer held over end p (unbroken, none, grows) empty short long =
    let gone = p.gone ++ kept in
    let carried = Carries-grown line grown p.gone kept grows p.carried in
    let all = All-append (λ b. b ≢ 10) p.gone kept p.unbroken unbroken in (
      p.given,
      p.gave,
      record { still = λ was. ((p.still was).0, over, (p.still was).1); comes = λ not there. end not },
      elim (leb_tells (length grown) 0) [
        | inl h ↦ subst (TellsLine (before.held ++ p.given) after) (sym (empty (omega (arith, h.1)))) (p.moved ∙ nothing grown gone carried h.1, held, over)
        | inr h ↦ tells-line (before.held ++ p.given) after grown gone answer carried (all, inr (p.moved, some grown gone carried h.1, held, over)) (short h.1) long
      ],
      p.pulled,
    )

-- a read that kept the source's bytes gave none
pub passed-kept : (old now then : AsSource) (first o after : Option (List Move)) (over : Bool) (held kept line : List ℕ) → over ≡ false
    → Passed old now first o over held kept line → IsUnbroken kept
    → Keeps now.left then.left → Keeps now.given then.given → MovesCame o after (gave_move [] ∷ []) → Passed old then first after over held kept line
passed-kept old now then first o after over held kept line not p unbroken left given came = record {
  given = p.given;
  gone = p.gone;
  gave = (Consumes-kept old.left now.left then.left p.given p.gave.0 left, Appends-kept old.given now.given then.given p.given p.gave.1 given);
  still = λ e. absurd (true≢false (sym e ∙ not));
  moved = p.moved;
  unbroken = p.unbroken;
  carried = p.carried;
  pulled = subst (Pulled first after held) (append-nil p.given)
      (pulled-more first o after held p.given [] p.pulled (subst IsUnbroken (sym p.moved) (All-append (λ b. b ≢ 10) p.gone kept p.unbroken unbroken)) came);
}

-- Where the line has no end in what is held and a read fails, the call tells that fault.
pub told-fault : (old then : AsSource) (first o : Option (List Move)) (before after : Reader) (kept line grown : List ℕ) → after.held ≡ [] → after.over ≡ before.over
    → Passed old then first o before.over before.held kept line → TakesPart kept [] line grown false → Told old then first o before after next.ReadFault
told-fault old then first o before after kept line grown held over p (unbroken, none, grows) = (
  p.given,
  p.gave,
  same-end before after old then p.given over p.still,
  (subst IsUnbroken (sym p.moved) (All-append (λ b. b ≢ 10) p.gone kept p.unbroken unbroken), held),
  p.pulled,
)

-- The first line of what was taken is the first of all lines, and what is held has the others.
first-lines : (taken left : List ℕ) (after : Reader) (line : List ℕ) → (after.over ≡ true → left ≡ []) → IsFirstLine taken after line
    → lines (taken ++ left) ≡ line ∷ lines (after.held ++ left)
first-lines taken left after line end (unbroken, inl e) =
    ap lines (ap (λ (l : List ℕ). l ++ left) e ∙ append_assoc line (10 ∷ after.held) left) ∙ lines-first line (after.held ++ left) unbroken
first-lines taken left after line end (unbroken, inr (e, some, none, over)) =
    let whole : taken ++ left ≡ line = ap (λ (l : List ℕ). taken ++ l) (end over) ∙ append-nil taken ∙ e in
    let rest : after.held ++ left ≡ [] = ap (λ (l : List ℕ). l ++ left) none ∙ end over in
    ap lines whole ∙ lines-last line unbroken some ∙ ap (λ (ls : List (List ℕ)). line ∷ ls) (sym (ap lines rest ∙ lines-nil))

-- A call that tells a line right takes it from all bytes, where these are known.
takes-known : (held o given n : List ℕ) (after : Reader) (answer : Next) → (after.over ≡ true → n ≡ []) → held ++ o ≡ (held ++ given) ++ n → TellsLine (held ++ given) after answer
    → TakesLine (Some (held ++ o)) (Some (after.held ++ n)) answer
takes-known held o given n after (next.Line line) end e tells = (ap lines e ∙ first-lines (held ++ given) n after line end tells.1, tells.0)
takes-known held o given n after next.TooLong end e tells = (tells.0, ap lines e ∙ first-lines (held ++ given) n after tells.0 end tells.2, tells.1)
takes-known held o given n after next.End end e tells =
    (e ∙ ap (λ (l : List ℕ). l ++ n) tells.0 ∙ end tells.2, ap (λ (l : List ℕ). l ++ n) tells.1 ∙ end tells.2)
takes-known held o given n after next.ReadFault end e tells = tt
takes-known held o given n after next.Memory end e tells = tt

-- A call that tells a line right takes it from what was held and what was to come.
takes-of : (old now : Option (List ℕ)) (before after : Reader) (answer : Next) (given : List ℕ) → Consumes old now given
    → (after.over ≡ true → IsAtEnd now) → TellsLine (before.held ++ given) after answer → TakesLine (prepend_known before.held old) (prepend_known after.held now) answer
takes-of None now before after answer given gave ends tells = tt
takes-of (Some o) None before after answer given gave ends tells = absurd gave
takes-of (Some o) (Some n) before after answer given gave ends tells =
    takes-known before.held o given n after answer ends (ap (λ (l : List ℕ). before.held ++ l) gave ∙ sym (append_assoc before.held given n)) tells

-- where the bytes that the source has left are known, the call took the first of their lines
pub takes-line : (old now : AsSource) (first o : Option (List Move)) (before after : Reader) (answer : Next) → Told old now first o before after answer → before.over ≡ false
    → TakesLine (prepend_known before.held old.left) (prepend_known after.held now.left) answer
takes-line old now first o before after answer (given, gave, ends, tells, pulled) not = takes-of old.left now.left before after answer given gave.0 (ends.comes not) tells
