-- The lines of a session, by the bytes of its link.
use Rattle.std.proofs.Common.{◌≡◌, ◌≢◌, ◌⊎◌, inl, inr, ℕ, zero, suc, ◌+◌, ◌<◌, ◌≤◌, Bool, true, false, cond, nat_eq, List, [], ◌∷◌, ◌++◌, All, Contains, Option, take, take_all, length, length-append, refl, sym, ap, ◌∙◌, subst, append_assoc, append-nil, arith}
use lib.Seq.{take-append_seam}
use Rattle.std.specs.Str.{bytes_eq}
use Rattle.std.specs.Io.KnownBytes.{IsAtEnd}
use Rattle.std.proofs.lemmas.Slice.Eq.{bytes_eq-Decides}
use Rattle.std.proofs.lemmas.List.Elements.{All-head, All-tail, Contains-append_right}
use Rattle.std.proofs.lemmas.Bool.{cases_Bool}
use Rattle.cm_io.specs.Lines.{in_prefix, lines}
use Rattle.cm_reply.specs.Lists.{TextBytes}
use Rattle.cm_session.specs.Links.{BeginsWithBytes, in_prefix_of_some, whole_lines}
use Rattle.cm_session.specs.Session.{AreEnded, most_lines, quit}
use Rattle.cm_program.specs.Sessions.{before_quit, session_lines, whole_session_lines}
use Rattle.cm_program.proofs.lemmas.lanes.Sixteen.{all_prefix}

-- ---- up to the first `quit`

-- A line that isn't `quit` compares as different from it.
not_quit : (t : TextBytes) → t ≢ quit → bytes_eq t quit ≡ false
not_quit t other =
    elim (cases_Bool (bytes_eq t quit)) [
      | inl is ↦ absurd (other ((bytes_eq-Decides t quit).0 is))
      | inr apart ↦ apart
    ]

-- The lines before `quit`, where the first one isn't `quit`, are it and those of the rest.
before_other : (t : TextBytes) (ts : List TextBytes) → t ≢ quit → before_quit (t ∷ ts) ≡ t ∷ before_quit ts
before_other t ts other = ap (λ (b : Bool). cond b [] (t ∷ before_quit ts)) (not_quit t other)

-- lines of which none is `quit` stay
before_prefix : (xs ys : List TextBytes) → All (λ (t : TextBytes). t ≢ quit) xs → before_quit (xs ++ ys) ≡ xs ++ before_quit ys
before_prefix [] ys none = refl
before_prefix (x ∷ xs) ys none =
    before_other x (xs ++ ys) (All-head (λ (t : TextBytes). t ≢ quit) x xs none)
    ∙ ap (λ (l : List TextBytes). x ∷ l) (before_prefix xs ys (All-tail (λ (t : TextBytes). t ≢ quit) x xs none))

-- Lines none of which is `quit` are all before `quit`.
before_all : (xs : List TextBytes) → All (λ (t : TextBytes). t ≢ quit) xs → before_quit xs ≡ xs
before_all [] none = refl
before_all (x ∷ xs) none =
    before_other x xs (All-head (λ (t : TextBytes). t ≢ quit) x xs none)
    ∙ ap (λ (l : List TextBytes). x ∷ l) (before_all xs (All-tail (λ (t : TextBytes). t ≢ quit) x xs none))

-- Of lines that begin with `quit` none is before it.
before_quitted : (rest : List TextBytes) → before_quit (quit ∷ rest) ≡ []
before_quitted rest = ap (λ (b : Bool). cond b [] (quit ∷ before_quit rest)) ((bytes_eq-Decides quit quit).1 refl)

-- ---- prefixes

-- A prefix of lines stays one where a test drops all or puts a line in front.
quit_or_more : (b : Bool) (x : TextBytes) (all prefix : List TextBytes) → BeginsWithBytes all prefix → BeginsWithBytes (cond b [] (x ∷ all)) (cond b [] (x ∷ prefix))
quit_or_more true x all prefix begins = ([], refl)
quit_or_more false x all prefix begins = (begins.0, ap (λ (l : List TextBytes). x ∷ l) begins.1)

-- The lines before `quit` of a prefix are a prefix of those of the whole.
before_begins : (prefix rest : List TextBytes) → BeginsWithBytes (before_quit (prefix ++ rest)) (before_quit prefix)
before_begins [] rest = (before_quit rest, refl)
before_begins (x ∷ xs) rest = quit_or_more (bytes_eq x quit) x (before_quit (xs ++ rest)) (before_quit xs) (before_begins xs rest)

-- The first lines of a prefix, up to a number, are a prefix of the first lines of the whole.
take_begins : (n : ℕ) (prefix rest : List TextBytes) → BeginsWithBytes (take n (prefix ++ rest)) (take n prefix)
take_begins zero prefix rest = ([], refl)
take_begins (suc n) [] rest = (take (suc n) rest, refl)
take_begins (suc n) (x ∷ xs) rest = (let more = take_begins n xs rest in (more.0, ap (λ (l : List TextBytes). x ∷ l) more.1))

-- The first lines of a whole, up to a number that is enough, begin with its first part.
take_prefix : (n : ℕ) (xs ys : List TextBytes) → length xs ≤ n → BeginsWithBytes (take n (xs ++ ys)) xs
take_prefix n [] ys le = (take n ys, refl)
take_prefix zero (x ∷ xs) ys le = absurd (omega (arith, le))
take_prefix (suc n) (x ∷ xs) ys le = (let more = take_prefix n xs ys (omega (arith, le)) in (more.0, ap (λ (l : List TextBytes). x ∷ l) more.1))

-- A prefix of lines stays one where a byte is put before the first of both.
prefix_begins : (byte : ℕ) (all prefix : List TextBytes) → BeginsWithBytes all prefix → BeginsWithBytes (in_prefix byte all) (in_prefix_of_some byte prefix)
prefix_begins byte all [] begins = (in_prefix byte all, refl)
prefix_begins byte all (w ∷ ws) begins = (begins.0, ap (in_prefix byte) begins.1)

-- A prefix of lines stays one where a byte or a line feed is put in front of both.
line_or_more : (b : Bool) (byte : ℕ) (all prefix : List TextBytes) → BeginsWithBytes all prefix → BeginsWithBytes (cond b ([] ∷ all) (in_prefix byte all)) (cond b ([] ∷ prefix) (in_prefix_of_some byte prefix))
line_or_more true byte all prefix begins = (begins.0, ap (λ (l : List TextBytes). [] ∷ l) begins.1)
line_or_more false byte all prefix begins = prefix_begins byte all prefix begins

-- the lines that a line feed ends are the first ones
whole_begins : (bytes : TextBytes) → BeginsWithBytes (lines bytes) (whole_lines bytes)
unfolding lines whole_lines
whole_begins [] = ([], refl)
whole_begins (byte ∷ bytes) = line_or_more (nat_eq byte 10) byte (lines bytes) (whole_lines bytes) (whole_begins bytes)

-- ---- the lines that a session served

module _ (bytes : TextBytes) (done : List TextBytes) (none : All (λ (t : TextBytes). t ≢ quit) done) where
  -- as many as a session may have, at most
  pub first_lines : BeginsWithBytes (lines bytes) done → length done ≤ most_lines → BeginsWithBytes (session_lines bytes) done
  first_lines begins few =
      let prefix = take_prefix most_lines done (before_quit begins.0) few in
      (prefix.0, ap (λ (l : List TextBytes). take most_lines (before_quit l)) begins.1 ∙ ap (take most_lines) (before_prefix done begins.0 none) ∙ prefix.1)

  -- all of them
  pub all_lines : lines bytes ≡ done → length done < most_lines → done ≡ session_lines bytes
  all_lines is few =
      sym (ap (λ (l : List TextBytes). take most_lines (before_quit l)) is ∙ ap (take most_lines) (before_all done none) ∙ take_all most_lines done (omega (arith, few)))

  -- up to a `quit`
  pub lines_to_quit : (rest : List TextBytes) → lines bytes ≡ done ++ quit ∷ rest → length done < most_lines → done ≡ session_lines bytes
  lines_to_quit rest is few =
      sym (ap (λ (l : List TextBytes). take most_lines (before_quit l)) is
      ∙ ap (take most_lines) (before_prefix done (quit ∷ rest) none ∙ ap (λ (l : List TextBytes). done ++ l) (before_quitted rest) ∙ append-nil done)
      ∙ take_all most_lines done (omega (arith, few)))

  -- as many as a session may have
  pub lines_spent : BeginsWithBytes (lines bytes) done → length done ≡ most_lines → done ≡ session_lines bytes
  lines_spent begins many =
      sym (ap (λ (l : List TextBytes). take most_lines (before_quit l)) begins.1
      ∙ ap (take most_lines) (before_prefix done begins.0 none)
      ∙ ap (λ (n : ℕ). take n (done ++ before_quit begins.0)) (sym many)
      ∙ take-append_seam done (before_quit begins.0))

  -- where all were served, those that a line feed ends were
  pub whole_served : done ≡ session_lines bytes → BeginsWithBytes done (whole_session_lines bytes)
  whole_served is =
      let whole = whole_begins bytes in
      let before = before_begins (whole_lines bytes) whole.0 in
      let prefix = take_begins most_lines (before_quit (whole_lines bytes)) before.0 in
      (prefix.0, is ∙ ap (λ (l : List TextBytes). take most_lines (before_quit l)) whole.1 ∙ ap (take most_lines) before.1 ∙ prefix.1)

  -- those that a line feed ends were served
  pub whole_read : BeginsWithBytes done (whole_lines bytes) → length done ≤ most_lines → BeginsWithBytes done (whole_session_lines bytes)
  whole_read begins few =
      let whole : List TextBytes = whole_lines bytes in
      let others : All (λ (t : TextBytes). t ≢ quit) whole = all_prefix (λ (t : TextBytes). t ≢ quit) whole begins.0 (subst (All (λ (t : TextBytes). t ≢ quit)) begins.1 none) in
      let count : length done ≡ length whole + length begins.0 = ap (λ (l : List TextBytes). length l) begins.1 ∙ length-append whole begins.0 in
      let all : take most_lines (before_quit whole) ≡ whole = ap (take most_lines) (before_all whole others) ∙ take_all most_lines whole (omega (arith, few, count)) in
      (begins.0, begins.1 ∙ ap (λ (l : List TextBytes). l ++ begins.0) (sym all))

-- a whole line `quit` was given, or nothing is left
pub quit_given : (bytes : TextBytes) (done : List TextBytes) (left : Option TextBytes) → AreEnded bytes (done ++ quit ∷ []) left → IsAtEnd left ⊎ Contains (whole_lines bytes) quit
quit_given bytes done left (inl begins) =
    inr (subst (λ (l : List TextBytes). Contains l quit) (sym (begins.1 ∙ append_assoc done (quit ∷ []) begins.0)) (Contains-append_right done (quit ∷ begins.0) quit (0, omega arith, refl)))
quit_given bytes done left (inr end) = inl end
