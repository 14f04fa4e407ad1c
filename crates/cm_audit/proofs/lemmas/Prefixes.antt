-- The verdict on a prefix that passes the limit is the verdict on all.
use Rattle.std.proofs.Common.{◌≡◌, ◌⊎◌, inl, inr, ℕ, ◌+◌, ◌<◌, ◌≤◌, min, List, [], ◌∷◌, ◌++◌, length, Bool, true, false, cond, ◌==◌, refl, sym, ap, subst, ◌∙◌, arith, rules, length-append}
use Rattle.std.proofs.lemmas.List.{append-nil, append_assoc}
use Rattle.cm_command.specs.Scripts.{lines_of, in_prefix}
use Rattle.cm_reply.specs.Lists.{TextBytes}
use Rattle.cm_audit.specs.declared.verdict.Audit.{Audit}
use Rattle.cm_audit.specs.declared.verdict.Audit.TheVariants as audit
use Rattle.cm_audit.specs.Laws.{PrefixesTell}
use Rattle.cm_audit.specs.Journal.{Stage, before, ReadsAll, IsBad}
use Rattle.cm_audit.specs.Verdict.{size_of, bytes_of, journal_limit, Fails, HasIllegal, HasBadText, IsVerdict}
use Rattle.cm_audit.proofs.lemmas.Places.{size_more}

-- ---- the lines of a prefix

-- Lines with a byte more in front have at least one byte more.
in_prefix_size : (b : ℕ) (ts : List TextBytes) → 1 + size_of ts ≤ size_of (in_prefix b ts)
in_prefix_size b [] = grind (arith, rules)
in_prefix_size b (t ∷ ts) = grind (arith, rules)

-- The lines of a text have at least as many bytes together as the text, each with one for its end.
pub lines_size : (bytes : TextBytes) → length bytes ≤ size_of (lines_of bytes)
lines_size [] = omega arith
lines_size (b ∷ bs) = by (b == 10) (lines_size bs) (in_prefix_size b (lines_of bs))
  where
    by : (v : Bool) → length bs ≤ size_of (lines_of bs) → 1 + size_of (lines_of bs) ≤ size_of (in_prefix b (lines_of bs)) → length (b ∷ bs) ≤ size_of (cond v ([] ∷ lines_of bs) (in_prefix b (lines_of bs)))
    by true ih more = grind (arith, rules)
    by false ih more = grind (arith, rules)

-- the second lines go on where the first end
abbrev pub Goes : List TextBytes → List TextBytes → Type 0
Goes [] us = Unit {0}
Goes (t ∷ ts) [] = ⊥
Goes (t ∷ ts) (u ∷ us) = ((t ≡ u) × Goes ts us) ⊎ ((ts ≡ []) × (length t ≤ length u))

-- Lines that go on where others end still do so with a byte more at the start of both.
pub in_prefix_goes : (b : ℕ) (ts us : List TextBytes) → Goes ts us → Goes (in_prefix b ts) (in_prefix b us)
in_prefix_goes b [] [] h = inl (refl, tt)
in_prefix_goes b [] (u ∷ us) h = inr (refl, grind (arith, rules))
in_prefix_goes b (t ∷ ts) [] h = absurd h
in_prefix_goes b (t ∷ ts) (u ∷ us) (inl e) = inl (ap (λ x. b ∷ x) e.0, e.1)
in_prefix_goes b (t ∷ ts) (u ∷ us) (inr e) = inr (e.0, let le : length t ≤ length u = e.1 in grind (arith, rules))

-- The lines of bytes go on where the lines of their first part end.
pub lines_go : (prefix rest : TextBytes) → Goes (lines_of prefix) (lines_of (prefix ++ rest))
lines_go [] rest = tt
lines_go (b ∷ bs) rest = by (b == 10) (lines_go bs rest)
  where
    by : (v : Bool) → Goes (lines_of bs) (lines_of (bs ++ rest)) → Goes (cond v ([] ∷ lines_of bs) (in_prefix b (lines_of bs))) (cond v ([] ∷ lines_of (bs ++ rest)) (in_prefix b (lines_of (bs ++ rest))))
    by true ih = inl (refl, ih)
    by false ih = in_prefix_goes b (lines_of bs) (lines_of (bs ++ rest)) ih

-- lines before a further one are the same
goes_prefix : (a : List TextBytes) (t : TextBytes) (ts us : List TextBytes) → Goes (a ++ t ∷ ts) us → (vs : List TextBytes) × (us ≡ a ++ vs) × Goes (t ∷ ts) vs
goes_prefix [] t ts us h = (us, refl, h)
goes_prefix (x ∷ xs) t ts [] h = absurd h
goes_prefix (x ∷ xs) t ts (u ∷ us) (inl h) =
    let more : (vs : List TextBytes) × (us ≡ xs ++ vs) × Goes (t ∷ ts) vs = goes_prefix xs t ts us h.1 in
    (more.0, ap (λ y. y ∷ us) (sym h.0) ∙ ap (λ l. x ∷ l) more.1, more.2)
goes_prefix (x ∷ xs) t ts (u ∷ us) (inr h) = absurd (some xs h.0)
  where
    some : (l : List TextBytes) → l ++ t ∷ ts ≡ [] → ⊥
    some [] e = absurd (cc e)
    some (y ∷ ys) e = absurd (cc e)

-- ---- verdicts

-- Where the lesser of two sizes is within a limit that the first passes, the second is within it.
within_all : (l s limit : ℕ) → limit < l → min l s ≤ limit → s ≤ limit
within_all l s limit far short = omega (arith, far, short)

module _ (prefix rest : TextBytes) (far : journal_limit < length prefix) where
  -- A prefix is no longer than the whole.
  longer : length prefix ≤ length (prefix ++ rest)
  longer = let both : length (prefix ++ rest) ≡ length prefix + length rest = length-append prefix rest in omega (arith, both)

  -- lines that are all of the prefix pass the limit
  all_pass : {A : Type 0} (ts : List TextBytes) → lines_of prefix ≡ ts → bytes_of prefix ts ≤ journal_limit → A
  all_pass ts is short =
      let size : length prefix ≤ size_of ts = subst (λ ls. length prefix ≤ size_of ls) is (lines_size prefix) in
      absurd (omega (arith, far, size, short))

  -- Lines that take no more of a prefix than the limit take no more of the whole.
  stays_short : (ts : List TextBytes) → bytes_of prefix ts ≤ journal_limit → bytes_of (prefix ++ rest) ts ≤ journal_limit
  stays_short ts short = let small : size_of ts ≤ journal_limit = within_all (length prefix) (size_of ts) journal_limit far short in omega (arith, small)

  -- The first illegal entry of a prefix is that of the whole, where the prefix passes the limit.
  illegal_on : (n : ℕ) (given x : TextBytes) (h : HasIllegal prefix n given x) (ts : List TextBytes) → h.rest ≡ ts → HasIllegal (prefix ++ rest) n given x
  illegal_on n given x h [] is = all_pass (h.prefix ++ h.here ∷ []) (h.lines ∙ ap (λ l. h.prefix ++ h.here ∷ l) is) h.short
  illegal_on n given x h (t ∷ ts) is = by (goes_prefix (h.prefix ++ h.here ∷ []) t ts (lines_of (prefix ++ rest)) (subst (λ l. Goes l (lines_of (prefix ++ rest))) whole (lines_go prefix rest)))
    where
      whole : lines_of prefix ≡ (h.prefix ++ h.here ∷ []) ++ t ∷ ts
      whole = h.lines ∙ ap (λ l. h.prefix ++ h.here ∷ l) is ∙ sym (append_assoc h.prefix (h.here ∷ []) (t ∷ ts))

      by : (vs : List TextBytes) × (lines_of (prefix ++ rest) ≡ (h.prefix ++ h.here ∷ []) ++ vs) × Goes (t ∷ ts) vs → HasIllegal (prefix ++ rest) n given x
      by more = record {
        prefix = h.prefix;
        here = h.here;
        rest = more.0;
        lines = more.1 ∙ append_assoc h.prefix (h.here ∷ []) more.0;
        short = stays_short (h.prefix ++ h.here ∷ []) h.short;
        frame = h.frame;
        entries = h.entries;
        reads = h.reads;
        caller = h.caller;
        event = h.event;
        line = h.line;
        expects = h.expects;
      }

  -- what fails in the prefix fails in the whole
  fails_on : (fr : List TextBytes) (s : Stage) (t : TextBytes) (ts vs : List TextBytes) → lines_of prefix ≡ fr ++ t ∷ ts → Goes (t ∷ ts) vs → Fails prefix fr s (t ∷ ts) → Fails (prefix ++ rest) fr s vs
  fails_on fr s t ts [] whole goes fails = absurd goes
  fails_on fr s t ts (u ∷ us) whole goes (inl over) =
      let small : size_of (fr ++ t ∷ []) ≡ size_of fr + (length t + 1) = size_more fr t in
      let large : size_of (fr ++ u ∷ []) ≡ size_of fr + (length u + 1) = size_more fr u in
      let more : length t ≤ length u = no_shorter t u ts us goes in
      let whole' : length prefix ≤ length (prefix ++ rest) = longer in
      inl (omega (arith, far, over, small, large, more, whole'))
    where
      no_shorter : (t u : TextBytes) (ts us : List TextBytes) → Goes (t ∷ ts) (u ∷ us) → length t ≤ length u
      no_shorter t u ts us (inl e) = let same : length t ≡ length u = ap length e.0 in omega (arith, same)
      no_shorter t u ts us (inr e) = e.1
  fails_on fr s t ts (u ∷ us) whole (inl same) (inr bad) = inr (subst (IsBad s) same.0 bad)
  fails_on fr s t ts (u ∷ us) whole (inr cut) (inr bad) =
      let all : lines_of prefix ≡ fr ++ t ∷ [] = whole ∙ ap (λ l. fr ++ t ∷ l) cut.0 in
      let size : length prefix ≤ size_of (fr ++ t ∷ []) = subst (λ ls. length prefix ≤ size_of ls) all (lines_size prefix) in
      let small : size_of (fr ++ t ∷ []) ≡ size_of fr + (length t + 1) = size_more fr t in
      let large : size_of (fr ++ u ∷ []) ≡ size_of fr + (length u + 1) = size_more fr u in
      let more : length t ≤ length u = cut.1 in
      let whole' : length prefix ≤ length (prefix ++ rest) = longer in
      inl (omega (arith, far, size, small, large, more, whole'))

  -- A prefix's first line outside the grammar is the whole's, where the prefix passes the limit.
  bad_on : (n : ℕ) (fr ts : List TextBytes) (s : Stage) → lines_of prefix ≡ fr ++ ts → bytes_of prefix fr ≤ journal_limit → ReadsAll before fr s → Fails prefix fr s ts → n ≡ length fr + 1 → HasBadText (prefix ++ rest) n
  bad_on n fr [] s lines short reads fails is = all_pass fr (lines ∙ append-nil fr) short
  bad_on n fr (t ∷ ts) s lines short reads fails is = by (goes_prefix fr t ts (lines_of (prefix ++ rest)) (subst (λ l. Goes l (lines_of (prefix ++ rest))) lines (lines_go prefix rest)))
    where
      by : (vs : List TextBytes) × (lines_of (prefix ++ rest) ≡ fr ++ vs) × Goes (t ∷ ts) vs → HasBadText (prefix ++ rest) n
      by more = record {
        prefix = fr;
        rest = more.0;
        lines = more.1;
        short = stays_short fr short;
        stage = s;
        reads = reads;
        fails = fails_on fr s t ts more.0 lines more.2 fails;
        number_is = is;
      }

-- Once the bytes pass the limit, what follows doesn't change the verdict.
pub prefixes_tell : PrefixesTell
prefixes_tell prefix rest (audit.Legal n) far h = absurd (let short : length prefix ≤ journal_limit = h.short in omega (arith, far, short))
prefixes_tell prefix rest (audit.Illegal n given x) far h = illegal_on prefix rest far n given x h h.rest refl
prefixes_tell prefix rest (audit.BadText n) far h = bad_on prefix rest far n h.prefix h.rest h.stage h.lines h.short h.reads h.fails h.number_is
