-- A text has one verdict at most.
use Rattle.std.proofs.Common.{◌≡◌, ◌⊎◌, inl, inr, ℕ, ◌+◌, ◌<◌, ◌≤◌, List, [], ◌∷◌, ◌++◌, length, refl, sym, ap, subst, ◌∙◌, arith, codes}
use Rattle.std.proofs.lemmas.List.{append_cancel_left, append-nil, append_assoc}
use Rattle.cm_world.specs.declared.event.Event.{Event}
use Rattle.cm_world.specs.declared.event.Event.TheVariants as event
use Rattle.cm_world.specs.declared.frame.Builtin.{Builtin}
use Rattle.cm_world.specs.declared.frame.Frame.{Frame}
use Rattle.cm_world.specs.declared.reply.Entry.{Entry}
use Rattle.cm_world.specs.declared.reply.Reply.{Reply}
use Rattle.cm_world.specs.Laws.{IsPick}
use Rattle.cm_world.specs.Step.{IsEnabled, Allowed}
use Rattle.cm_world.specs.World.{World, start}
use Rattle.cm_world.specs.Legal.{IsStep, Legal, replay}
use Rattle.cm_world.proofs.lemmas.trees.Histories.{Legal-push}
use Rattle.cm_world.proofs.lemmas.trees.Once.{replies_once}
use Rattle.cm_command.specs.Scripts.{lines_of}
use Rattle.cm_command.specs.Words.{IsUrlText}
use Rattle.cm_reply.specs.Journal.{builtin_text}
use Rattle.cm_reply.specs.Legible.{IsLegibleBuiltin}
use Rattle.cm_reply.specs.Lines.{IsEntryLine}
use Rattle.cm_reply.specs.LinesInside.{AreSame, EntriesReadOneWay}
use Rattle.cm_reply.specs.Lists.{TextBytes}
use Rattle.cm_reply.specs.Replies.{replied_text}
use Rattle.cm_audit.specs.declared.verdict.Audit.{Audit}
use Rattle.cm_audit.specs.declared.verdict.Audit.TheVariants as audit
use Rattle.cm_audit.specs.Expected.{Expects, number_text, no_step_text, other_pick_text}
use Rattle.cm_audit.specs.Journal.{Stage, before, head, told, Reads, ReadsAll, IsBad, HasNoRoot, frame_of, journal_line, root_text}
use Rattle.cm_audit.specs.Verdict.{bytes_of, size_of, journal_limit, IsLegalJournal, HasIllegal, HasBadText, Fails, IsVerdict}
use Rattle.cm_audit.proofs.lemmas.Telling.{texts_tell_replies}

-- ---- a line leads one way

-- what a line leads on to, by the stage
abbrev As : Stage → TextBytes → Stage → Type 0
As before t m = ((t ≡ journal_line) × (m ≡ head [])) ⊎ ((t ≡ journal_line → ⊥) × (m ≡ before))
As (head bs) t m =
    ((b : Builtin) × IsLegibleBuiltin b × (t ≡ builtin_text b) × (m ≡ head (bs ++ b ∷ [])))
    ⊎ ((url : TextBytes) × IsUrlText url × (t ≡ root_text url) × (m ≡ told (frame_of bs url) []))
As (told f es) t m =
    (e : Entry) × IsEntryLine t (length es + 1) e.caller e.event (replied_text e.reply)
    × IsStep (replay (start f) es) e × (m ≡ told f (es ++ e ∷ []))

-- A line that leads from one stage to another leads there as the first stage says.
to_as : {s m : Stage} {t : TextBytes} → Reads s t m → As s t m
to_as (Reads.skips non) = inr (non, refl)
to_as Reads.begins = inl (refl, refl)
to_as (Reads.builtin b legible) = inl (b, legible, refl, refl)
to_as (Reads.root {url = url} legible) = inr (url, legible, refl, refl)
to_as (Reads.entry e line step) = (e, line, step, refl)

-- the entries that were read are legal
abbrev IsReached : Stage → Type 0
IsReached (told f es) = Legal (start f) es
IsReached _ = Unit {0}

-- A line that leads on from a stage whose entries are legal leads to one whose entries are.
reached_next : (s m : Stage) (t : TextBytes) → IsReached s → As s t m → IsReached m
reached_next before m t legal (inl a) = subst IsReached (sym a.1) tt
reached_next before m t legal (inr a) = subst IsReached (sym a.1) tt
reached_next (head bs) m t legal (inl a) = subst IsReached (sym a.3) tt
reached_next (head bs) m t legal (inr a) = subst IsReached (sym a.3) tt
reached_next (told f es) m t legal a = subst IsReached (sym a.3) (Legal-push (start f) es a.0 legal a.2)

-- Lines that lead on from a stage whose entries are legal lead to one whose entries are.
reached_all : (ts : List TextBytes) (s m : Stage) → IsReached s → ReadsAll s ts m → IsReached m
reached_all [] s m legal all = subst IsReached all legal
reached_all (t ∷ ts) s m legal all = reached_all ts all.0 m (reached_next s all.0 t legal (to_as all.1)) all.2

-- The first byte of a text; zero where it is empty.
abbrev first : TextBytes → ℕ
first [] = 0
first (b ∷ bs) = b

-- what is expected, by cases
abbrev Finds : World → ℕ → ℕ → ℕ → Event → TextBytes → TextBytes → Type 0
Finds w next n caller e given x =
    ((n ≡ next → ⊥) × (x ≡ number_text next))
    ⊎ ((n ≡ next) × (((IsEnabled w caller e → ⊥) × (x ≡ no_step_text))
    ⊎ (IsEnabled w caller e × ((IsPick e × (x ≡ other_pick_text))
    ⊎ ((r : Reply) × (IsPick e → ⊥) × Allowed w caller e r × (x ≡ replied_text r))))))

-- What is expected at an entry is found by cases.
to_finds : {w : World} {next n caller : ℕ} {e : Event} {given x : TextBytes} → Expects w next n caller e given x → Finds w next n caller e given x
to_finds (Expects.number non) = inl (non, refl)
to_finds (Expects.no_step non) = inr (refl, inl (non, refl))
to_finds (Expects.other_pick can other) = inr (refl, inr (can, inl (tt, refl)))
to_finds (Expects.reply r none can allowed other) = inr (refl, inr (can, inr (r, none, allowed, refl)))

-- Of one entry no two different texts are expected.
one_found : (w : World) (next n caller : ℕ) (e : Event) (given x y : TextBytes) → Finds w next n caller e given x → Finds w next n caller e given y → x ≡ y
one_found w next n caller e given x y (inl a) (inl b) = a.1 ∙ sym b.1
one_found w next n caller e given x y (inl a) (inr b) = absurd (a.0 b.0)
one_found w next n caller e given x y (inr a) (inl b) = absurd (b.0 a.0)
one_found w next n caller e given x y (inr (s, inl a)) (inr (t, inl b)) = a.1 ∙ sym b.1
one_found w next n caller e given x y (inr (s, inl a)) (inr (t, inr b)) = absurd (a.0 b.0)
one_found w next n caller e given x y (inr (s, inr a)) (inr (t, inl b)) = absurd (b.0 a.0)
one_found w next n caller e given x y (inr (s, inr (c, inl a))) (inr (t, inr (d, inl b))) = a.1 ∙ sym b.1
one_found w next n caller e given x y (inr (s, inr (c, inl a))) (inr (t, inr (d, inr b))) = absurd (b.1 a.0)
one_found w next n caller e given x y (inr (s, inr (c, inr a))) (inr (t, inr (d, inl b))) = absurd (a.1 b.0)
one_found w next n caller e given x y (inr (s, inr (c, inr a))) (inr (t, inr (d, inr b))) =
    a.3 ∙ ap replied_text (replies_once w caller e a.0 b.0 a.1 a.2 b.2) ∙ sym b.3

-- At an entry one text at most is expected.
one_expected : (w : World) (next n caller : ℕ) (e : Event) (given x y : TextBytes) → Expects w next n caller e given x → Expects w next n caller e given y → x ≡ y
one_expected w next n caller e given x y a b = one_found w next n caller e given x y (to_finds a) (to_finds b)

-- an entry that is legal has nothing expected in its place
no_expected : (w : World) (next n caller : ℕ) (e : Event) (given x : TextBytes) (r : Reply) → n ≡ next → IsEnabled w caller e → Allowed w caller e r → given ≡ replied_text r → Expects w next n caller e given x → ⊥
no_expected w next n caller e given x r same can allowed is (Expects.number non) = non same
no_expected w next n caller e given x r same can allowed is (Expects.no_step non) = non can
no_expected w next n caller e given x r same can allowed is (Expects.other_pick too other) = other r allowed is
no_expected w next n caller e given x r same can allowed is (Expects.reply q none too allowed' other) = other r allowed is

-- ---- where the reading ends

-- The stage is one behind the root, with this many entries.
abbrev IsToldBy : Stage → ℕ → Type 0
IsToldBy (told f es) n = n ≡ length es
IsToldBy _ n = ⊥

-- What is expected at a stage in place of a line that tells of an entry which isn't legal there.
abbrev IsWrong : Stage → TextBytes → ℕ → TextBytes → TextBytes → Type 0
IsWrong (told f es) t n given x =
    (caller : ℕ) × (e : Event) × IsEntryLine t n caller e given × Expects (replay (start f) es) (length es + 1) n caller e given x
IsWrong _ t n given x = ⊥

-- the verdict that is found behind a prefix
abbrev Ends : TextBytes → List TextBytes → Stage → List TextBytes → Audit → Type 0
Ends bytes prefix s [] (audit.Legal n) = IsToldBy s n
Ends bytes prefix s [] (audit.Illegal n given x) = ⊥
Ends bytes prefix s [] (audit.BadText k) = HasNoRoot s × (k ≡ length prefix + 1)
Ends bytes prefix s (t ∷ ts) (audit.Legal n) = ⊥
Ends bytes prefix s (t ∷ ts) (audit.Illegal n given x) = (bytes_of bytes (prefix ++ t ∷ []) ≤ journal_limit) × IsWrong s t n given x
Ends bytes prefix s (t ∷ ts) (audit.BadText k) = ((journal_limit < bytes_of bytes (prefix ++ t ∷ [])) ⊎ IsBad s t) × (k ≡ length prefix + 1)

-- A verdict that is found behind a prefix of the lines, which is within the limit.
record Ended (bytes : TextBytes) (v : Audit) : Type 0 where
  prefix : List TextBytes
  rest : List TextBytes
  stage : Stage
  lines : lines_of bytes ≡ prefix ++ rest
  reads : ReadsAll before prefix stage
  short : bytes_of bytes prefix ≤ journal_limit
  ends : Ends bytes prefix stage rest v

-- A journal that fails behind a prefix ends with the number of the line there, as a bad text.
bad_ends : (bytes : TextBytes) (k : ℕ) (prefix rest : List TextBytes) (s : Stage) → lines_of bytes ≡ prefix ++ rest → ReadsAll before prefix s → bytes_of bytes prefix ≤ journal_limit → Fails bytes prefix s rest → k ≡ length prefix + 1 → Ended bytes (audit.BadText k)
bad_ends bytes k prefix [] s lines reads short fails is = record { prefix = prefix; rest = []; stage = s; lines = lines; reads = reads; short = short; ends = (fails, is) }
bad_ends bytes k prefix (t ∷ ts) s lines reads short fails is = record { prefix = prefix; rest = t ∷ ts; stage = s; lines = lines; reads = reads; short = short; ends = (fails, is) }

-- a prefix of lines takes non more than the lines do
size_prefix : (a b : List TextBytes) → size_of a ≤ size_of (a ++ b)
size_prefix [] b = omega arith
size_prefix (t ∷ ts) b = let more : size_of ts ≤ size_of (ts ++ b) = size_prefix ts b in omega (arith, more)

-- Lines that are within a limit are so without the last of them.
prefix_short : (bytes : TextBytes) (a b : List TextBytes) (limit : ℕ) → bytes_of bytes (a ++ b) ≤ limit → bytes_of bytes a ≤ limit
prefix_short bytes a b limit short = let less : size_of a ≤ size_of (a ++ b) = size_prefix a b in omega (arith, short, less)

-- Each verdict on a text is found behind a prefix of its lines.
to_end : (bytes : TextBytes) (v : Audit) → IsVerdict bytes v → Ended bytes v
to_end bytes (audit.Legal n) h = record {
  prefix = lines_of bytes;
  rest = [];
  stage = told h.frame h.entries;
  lines = sym (append-nil (lines_of bytes));
  reads = h.reads;
  short = let all : length bytes ≤ journal_limit = h.short in omega (arith, all);
  ends = h.counts;
}
to_end bytes (audit.Illegal n given x) h = record {
  prefix = h.prefix;
  rest = h.here ∷ h.rest;
  stage = told h.frame h.entries;
  lines = h.lines;
  reads = h.reads;
  short = prefix_short bytes h.prefix (h.here ∷ []) journal_limit h.short;
  ends = (h.short, (h.caller, h.event, h.line, h.expects));
}
to_end bytes (audit.BadText k) h = bad_ends bytes k h.prefix h.rest h.stage h.lines h.reads h.short h.fails h.number_is

-- ---- two verdicts

-- of two prefixes of one list one is the other and more
prefixes : (a b xs ys : List TextBytes) → a ++ xs ≡ b ++ ys → ((d : List TextBytes) × (b ≡ a ++ d) × (xs ≡ d ++ ys)) ⊎ ((d : List TextBytes) × (a ≡ b ++ d) × (ys ≡ d ++ xs))
prefixes [] b xs ys e = inl (b, refl, e)
prefixes (t ∷ ts) [] xs ys e = inr (t ∷ ts, refl, sym e)
prefixes (t ∷ ts) (u ∷ us) xs ys e = by (prefixes ts us xs ys (cc e))
  where
    here : t ≡ u
    here = cc e

    by : ((d : List TextBytes) × (us ≡ ts ++ d) × (xs ≡ d ++ ys)) ⊎ ((d : List TextBytes) × (ts ≡ us ++ d) × (ys ≡ d ++ xs)) → ((d : List TextBytes) × (u ∷ us ≡ (t ∷ ts) ++ d) × (xs ≡ d ++ ys)) ⊎ ((d : List TextBytes) × (t ∷ ts ≡ (u ∷ us) ++ d) × (ys ≡ d ++ xs))
    by (inl h) = inl (h.0, ap (λ x. x ∷ us) (sym here) ∙ ap (λ l. t ∷ l) h.1, h.2)
    by (inr h) = inr (h.0, ap (λ x. x ∷ ts) here ∙ ap (λ l. u ∷ l) h.1, h.2)

-- Lines that lead to a stage lead by the first of them to one from which the others lead on.
reads_split : (a b : List TextBytes) (s m : Stage) → ReadsAll s (a ++ b) m → (mid : Stage) × ReadsAll s a mid × ReadsAll mid b m
reads_split [] b s m all = (s, refl, all)
reads_split (t ∷ ts) b s m all =
    let more : (mid : Stage) × ReadsAll all.0 ts mid × ReadsAll mid b m = reads_split ts b all.0 m all.2 in
    (more.0, (all.0, all.1, more.1), more.2)

module _ (one_builtin : (b c : Builtin) → IsLegibleBuiltin b → IsLegibleBuiltin c → builtin_text b ≡ builtin_text c → b ≡ c) (one_entry : EntriesReadOneWay) where
  -- From a stage whose entries are legal, a line leads to one stage only.
  one_stage : (s : Stage) → IsReached s → (t : TextBytes) (m n : Stage) → As s t m → As s t n → m ≡ n
  one_stage before legal t m n (inl a) (inl b) = a.1 ∙ sym b.1
  one_stage before legal t m n (inl a) (inr b) = absurd (b.0 a.0)
  one_stage before legal t m n (inr a) (inl b) = absurd (a.0 b.0)
  one_stage before legal t m n (inr a) (inr b) = a.1 ∙ sym b.1
  one_stage (head bs) legal t m n (inl a) (inl b) = a.3 ∙ ap (λ x. head (bs ++ x ∷ [])) (one_builtin a.0 b.0 a.1 b.1 (sym a.2 ∙ b.2)) ∙ sym b.3
  one_stage (head bs) legal t m n (inl a) (inr b) = absurd (let one : 98 ≡ 114 = ap first (sym a.2 ∙ b.2) in omega (arith, one))
  one_stage (head bs) legal t m n (inr a) (inl b) = absurd (let one : 114 ≡ 98 = ap first (sym a.2 ∙ b.2) in omega (arith, one))
  one_stage (head bs) legal t m n (inr a) (inr b) =
      a.3 ∙ ap (λ x. told (frame_of bs x) []) (append_cancel_left (codes "root ") a.0 b.0 (sym a.2 ∙ b.2)) ∙ sym b.3
  one_stage (told f es) legal t m n a b =
      let same = one_entry t _ _ _ _ _ _ _ _ a.1 b.1 in
      a.3 ∙ ap (λ x. told f (es ++ x ∷ [])) (one_step a.0 b.0 same.callers same.events same.replies a.2.allowed b.2.allowed) ∙ sym b.3
    where
      one_step : (e g : Entry) → e.caller ≡ g.caller → e.event ≡ g.event → replied_text e.reply ≡ replied_text g.reply → Allowed (replay (start f) es) e.caller e.event e.reply → Allowed (replay (start f) es) g.caller g.event g.reply → e ≡ g
      one_step e g callers events texts x y =
          let there : Allowed (replay (start f) es) e.caller e.event g.reply = subst (λ c. Allowed (replay (start f) es) c e.event g.reply) (sym callers) (subst (λ v. Allowed (replay (start f) es) g.caller v g.reply) (sym events) y) in
          let replies : e.reply ≡ g.reply = texts_tell_replies f es e.caller e.event e.reply g.reply legal x there texts in
          ap (λ c. record { caller = c; event = e.event; reply = e.reply }) callers
          ∙ ap (λ v. record { caller = g.caller; event = v; reply = e.reply }) events
          ∙ ap (λ r. record { caller = g.caller; event = g.event; reply = r }) replies

  -- From a stage whose entries are legal, lines lead to one stage only.
  one_all : (ts : List TextBytes) (s m n : Stage) → IsReached s → ReadsAll s ts m → ReadsAll s ts n → m ≡ n
  one_all [] s m n legal a b = sym a ∙ b
  one_all (t ∷ ts) s m n legal a b =
      let same : a.0 ≡ b.0 = one_stage s legal t a.0 b.0 (to_as a.1) (to_as b.1) in
      one_all ts a.0 m n (reached_next s a.0 t legal (to_as a.1)) a.2 (subst (λ x. ReadsAll x ts n) (sym same) b.2)

  -- a line that isn't in the grammar doesn't lead on
  bad_no : (s m : Stage) (t : TextBytes) → IsBad s t → As s t m → ⊥
  bad_no before m t bad a = absurd bad
  bad_no (head bs) m t bad (inl a) = bad.0 a.0 a.1 a.2
  bad_no (head bs) m t bad (inr a) = bad.1 a.0 a.1 a.2
  bad_no (told f es) m t bad a = bad _ _ _ _ a.1

  -- nor does an entry that isn't legal
  wrong_no : (s m : Stage) (t : TextBytes) (n : ℕ) (given x : TextBytes) → IsWrong s t n given x → As s t m → ⊥
  wrong_no before m t n given x wrong a = absurd wrong
  wrong_no (head bs) m t n given x wrong a = absurd wrong
  wrong_no (told f es) m t n given x wrong a =
      let same = one_entry t _ _ _ _ _ _ _ _ wrong.2 a.1 in
      let w : World = replay (start f) es in
      let allowed : Allowed w wrong.0 wrong.1 a.0.reply = subst (λ c. Allowed w c wrong.1 a.0.reply) (sym same.callers) (subst (λ v. Allowed w a.0.caller v a.0.reply) (sym same.events) a.2.allowed) in
      let enabled : IsEnabled w wrong.0 wrong.1 = subst (λ c. IsEnabled w c wrong.1) (sym same.callers) (subst (λ v. IsEnabled w a.0.caller v) (sym same.events) a.2.enabled) in
      no_expected w (length es + 1) n wrong.0 wrong.1 given x a.0.reply same.numbers enabled allowed same.replies wrong.3

  -- where one reading ends the other doesn't go on
  no_further : (bytes : TextBytes) (prefix : List TextBytes) (s m : Stage) (t : TextBytes) (ts : List TextBytes) (v : Audit) → Ends bytes prefix s (t ∷ ts) v → bytes_of bytes (prefix ++ t ∷ []) ≤ journal_limit → As s t m → ⊥
  no_further bytes prefix s m t ts (audit.Legal n) ends short a = absurd ends
  no_further bytes prefix s m t ts (audit.Illegal n given x) ends short a = wrong_no s m t n given x ends.1 a
  no_further bytes prefix s m t ts (audit.BadText k) (inl over, is) short a = omega (arith, over, short)
  no_further bytes prefix s m t ts (audit.BadText k) (inr bad, is) short a = bad_no s m t bad a

  -- A line within the limit that passes it, or isn't in the grammar, isn't an illegal entry.
  no_wrong : (bytes : TextBytes) (prefix : List TextBytes) (s : Stage) (t : TextBytes) → (journal_limit < bytes_of bytes (prefix ++ t ∷ [])) ⊎ IsBad s t → bytes_of bytes (prefix ++ t ∷ []) ≤ journal_limit → (n : ℕ) (given x : TextBytes) → IsWrong s t n given x → ⊥
  no_wrong bytes prefix s t (inl over) short n given x wrong = omega (arith, over, short)
  no_wrong bytes prefix before t (inr bad) short n given x wrong = absurd wrong
  no_wrong bytes prefix (head bs) t (inr bad) short n given x wrong = absurd wrong
  no_wrong bytes prefix (told f es) t (inr bad) short n given x wrong = bad n wrong.0 wrong.1 given wrong.2

  -- A line at a stage is illegal in one way only: by its number, its reply and what is expected.
  one_wrong : (s : Stage) (t : TextBytes) (n m : ℕ) (given taken x y : TextBytes) → IsWrong s t n given x → IsWrong s t m taken y → audit.Illegal n given x ≡ audit.Illegal m taken y
  one_wrong before t n m given taken x y a b = absurd a
  one_wrong (head bs) t n m given taken x y a b = absurd a
  one_wrong (told f es) t n m given taken x y a b =
      let same = one_entry t _ _ _ _ _ _ _ _ a.2 b.2 in
      let w : World = replay (start f) es in
      let c : Expects w (length es + 1) n b.0 b.1 taken y = subst (λ k. Expects w (length es + 1) k b.0 b.1 taken y) (sym same.numbers) b.3 in
      let d : Expects w (length es + 1) n a.0 b.1 taken y = subst (λ k. Expects w (length es + 1) n k b.1 taken y) (sym same.callers) c in
      let g : Expects w (length es + 1) n a.0 a.1 taken y = subst (λ v. Expects w (length es + 1) n a.0 v taken y) (sym same.events) d in
      let h : Expects w (length es + 1) n a.0 a.1 given y = subst (λ r. Expects w (length es + 1) n a.0 a.1 r y) (sym same.replies) g in
      let texts : x ≡ y = one_expected w (length es + 1) n a.0 a.1 given x y a.3 h in
      ap (λ k. audit.Illegal k given x) same.numbers ∙ ap (λ r. audit.Illegal m r x) same.replies ∙ ap (λ z. audit.Illegal m taken z) texts

  -- in one place there is one verdict
  one_end : (bytes : TextBytes) (prefix : List TextBytes) (s : Stage) (rest : List TextBytes) (v u : Audit) → Ends bytes prefix s rest v → Ends bytes prefix s rest u → v ≡ u
  one_end bytes prefix (told f es) [] (audit.Legal n) (audit.Legal m) a b = ap audit.Legal (a ∙ sym b)
  one_end bytes prefix before [] (audit.Legal n) u a b = absurd a
  one_end bytes prefix (head bs) [] (audit.Legal n) u a b = absurd a
  one_end bytes prefix (told f es) [] (audit.Legal n) (audit.BadText k) a b = absurd b.0
  one_end bytes prefix (told f es) [] (audit.Legal n) (audit.Illegal m given x) a b = absurd b
  one_end bytes prefix s [] (audit.Illegal n given x) u a b = absurd a
  one_end bytes prefix s [] (audit.BadText k) (audit.BadText l) a b = ap audit.BadText (a.1 ∙ sym b.1)
  one_end bytes prefix s [] (audit.BadText k) (audit.Illegal n given x) a b = absurd b
  one_end bytes prefix before [] (audit.BadText k) (audit.Legal n) a b = absurd b
  one_end bytes prefix (head bs) [] (audit.BadText k) (audit.Legal n) a b = absurd b
  one_end bytes prefix (told f es) [] (audit.BadText k) (audit.Legal n) a b = absurd a.0
  one_end bytes prefix s (t ∷ ts) (audit.Legal n) u a b = absurd a
  one_end bytes prefix s (t ∷ ts) v (audit.Legal n) a b = absurd b
  one_end bytes prefix s (t ∷ ts) (audit.BadText k) (audit.BadText l) a b = ap audit.BadText (a.1 ∙ sym b.1)
  one_end bytes prefix s (t ∷ ts) (audit.BadText k) (audit.Illegal n given x) a b = absurd (no_wrong bytes prefix s t a.0 b.0 n given x b.1)
  one_end bytes prefix s (t ∷ ts) (audit.Illegal n given x) (audit.BadText k) a b = absurd (no_wrong bytes prefix s t b.0 a.0 n given x a.1)
  one_end bytes prefix s (t ∷ ts) (audit.Illegal n given x) (audit.Illegal m taken y) a b = one_wrong s t n m given taken x y a.1 b.1

  -- one reading goes non further than the other
  goes_no_further : (bytes : TextBytes) (v u : Audit) (a : Ended bytes v) (b : Ended bytes u) (d : List TextBytes) → b.prefix ≡ a.prefix ++ d → a.rest ≡ d ++ b.rest → v ≡ u
  goes_no_further bytes v u a b [] longer rest =
      let prefix : b.prefix ≡ a.prefix = longer ∙ append-nil a.prefix in
      let reads : ReadsAll before a.prefix b.stage = subst (λ ls. ReadsAll before ls b.stage) prefix b.reads in
      let stage : a.stage ≡ b.stage = one_all a.prefix before a.stage b.stage tt a.reads reads in
      one_end bytes b.prefix b.stage b.rest v u
      (subst (λ ls. Ends bytes ls b.stage b.rest v) (sym prefix) (subst (λ s. Ends bytes a.prefix s b.rest v) stage (subst (λ ls. Ends bytes a.prefix a.stage ls v) rest a.ends)))
      b.ends
  goes_no_further bytes v u a b (t ∷ ts) longer rest =
      let reads : ReadsAll before (a.prefix ++ t ∷ ts) b.stage = subst (λ ls. ReadsAll before ls b.stage) longer b.reads in
      let split = reads_split a.prefix (t ∷ ts) before b.stage reads in
      let stage : split.0 ≡ a.stage = one_all a.prefix before split.0 a.stage tt split.1 a.reads in
      let short : bytes_of bytes ((a.prefix ++ t ∷ []) ++ ts) ≤ journal_limit = subst (λ ls. bytes_of bytes ls ≤ journal_limit) (longer ∙ sym (append_assoc a.prefix (t ∷ []) ts)) b.short in
      absurd (no_further bytes a.prefix a.stage split.2.0 t (ts ++ b.rest) v (subst (λ ls. Ends bytes a.prefix a.stage ls v) rest a.ends)
      (prefix_short bytes (a.prefix ++ t ∷ []) ts journal_limit short) (subst (λ s. As s t split.2.0) stage (to_as split.2.1)))

  -- The same bytes have one verdict at most.
  pub one_verdict : (bytes : TextBytes) (v u : Audit) → IsVerdict bytes v → IsVerdict bytes u → v ≡ u
  one_verdict bytes v u h k = by (to_end bytes v h) (to_end bytes u k)
    where
      by : Ended bytes v → Ended bytes u → v ≡ u
      by a b = from (prefixes a.prefix b.prefix a.rest b.rest (sym a.lines ∙ b.lines))
        where
          from : ((d : List TextBytes) × (b.prefix ≡ a.prefix ++ d) × (a.rest ≡ d ++ b.rest)) ⊎ ((d : List TextBytes) × (a.prefix ≡ b.prefix ++ d) × (b.rest ≡ d ++ a.rest)) → v ≡ u
          from (inl h) = goes_no_further bytes v u a b h.0 h.1 h.2
          from (inr h) = sym (goes_no_further bytes u v b a h.0 h.1 h.2)
