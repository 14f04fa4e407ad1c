-- What lanes answer is written in whole lines, none of which is `journal`.
use Rattle.std.proofs.Common.{◌≡◌, ℕ, zero, suc, ◌/◌, ◌%◌, ◌<◌, ◌≤◌, List, [], ◌∷◌, ◌++◌, map, flat_map, length, Bool, true, false, cond, not, ◌==◌, nat_le, Option, Some, None, Result, Ok, Err, All, IsTrue, refl, sym, ap, subst, ◌∙◌, arith, rules, codes, append_assoc, append-nil}
use Rattle.std.specs.Fmt.{digit_glyph, digits_onto, digits, decimal}
use Rattle.std.specs.List.{list_all}
use Rattle.std.specs.Prelude.{IfSome}
use Rattle.std.proofs.lemmas.Bool.{and_parts, and_from}
use Rattle.std.proofs.lemmas.Grind.{flat_map-append}
use Rattle.std.proofs.lemmas.List.Elements.{All-cons, All-append, All-head, All-tail, All-nil}
use Rattle.cm_names.specs.Name.{IsName}
use Rattle.cm_names.specs.Path.{is_path}
use Rattle.cm_names.specs.Urls.{is_url_byte}
use Rattle.cm_facts.proofs.Lists.{All_map}
use Rattle.cm_decl.specs.Words.{node_text}
use Rattle.cm_world.specs.declared.answer.Answer.{Answer}
use Rattle.cm_world.specs.declared.answer.Answer.TheVariants as answer
use Rattle.cm_world.specs.declared.answer.Checked.{Checked}
use Rattle.cm_world.specs.declared.answer.Refusal.{Refusal}
use Rattle.cm_world.specs.declared.answer.Refusal.TheVariants as refusal
use Rattle.cm_world.specs.declared.event.Target.{Target}
use Rattle.cm_world.specs.declared.event.Target.TheVariants as target
use Rattle.cm_world.specs.declared.happening.HappenKind.{HappenKind}
use Rattle.cm_world.specs.declared.happening.HappenKind.TheVariants as happen
use Rattle.cm_world.specs.declared.happening.Happening.{Happening}
use Rattle.cm_world.specs.declared.report.Kid.{Kid}
use Rattle.cm_world.specs.declared.route.Hop.{Hop}
use Rattle.cm_world.specs.declared.route.Route.{Route}
use Rattle.cm_command.specs.declared.command.Command.{Command}
use Rattle.cm_command.specs.declared.command.Command.TheVariants as command
use Rattle.cm_command.specs.Written.{IsTarget, target_text}
use Rattle.cm_command.specs.WrittenInside.{IsWritable}
use Rattle.cm_reply.specs.Lists.{TextBytes, further_lines, when}
use Rattle.cm_reply.specs.Routes.{hop_text, place_text, route_text}
use Rattle.cm_reply.specs.States.{outcome_text, happen_word, happening_text, incarnation_text, survey_text, kid_text}
use Rattle.cm_reply.specs.Refusals.{refusal_words, refusal_text}
use Rattle.cm_reply.specs.Answers.{target_of, child_of, collection_of, of_target, done_by, found_text, checked_words, checked_text, counted, answer_text, reply_text}
use Rattle.cm_reply.specs.Journal.{line}
use Rattle.cm_reply.specs.LegibleInside.{IsOfNames, IsOfName, IsLegibleRoute, IsLegibleSurvey}
use Rattle.cm_lanes.specs.Script.{AnsweredLine}
use Rattle.cm_audit.specs.Laws.{IsInPrefix}
use Rattle.cm_legible.proofs.lemmas.Json.{OneLine, is_inner, one_line-append, decimal_line}
use Rattle.cm_legible.proofs.lemmas.Words.{clean_line, name_clean, path_line, url_line}
use Rattle.cm_legible.proofs.lemmas.Texts.{Clear, outcome_raw, named, hop_clear, rights_if, source_clear, node_clear, behind_clear, joined_clear, look_clear, inc_clear, survey_clear, kid_clear, failure_clear, void_clear}
use Rattle.cm_legible.proofs.lemmas.Texts.{lit as clear}
use Rattle.cm_legible.proofs.lemmas.Events.{Line, lit, join, num, path}
use Rattle.cm_legible.proofs.lemmas.Journals.{lacks}
use Rattle.cm_journal.specs.Said.{IsLegibleRefusal, IsLegibleFound, IsLegibleChecked, IsLegibleAnswer, IsLegibleResult}
use Rattle.cm_journal.specs.Prefix.{answer_line, said_text, SaidIsInPrefix}

-- A text that prints without `>` stands on one line.
plain : {t : TextBytes} → Clear t → Line t
plain {t} h = lit t (clean_line t h.bytes)

-- A space stands on one line.
space : Line (codes " ")
space = lit (codes " ") refl

-- ---- refusals

-- The text of an outcome stands on one line.
outcome_line : (o : _) → Line (outcome_text o)
outcome_line o = lit (outcome_text o) (clean_line (outcome_text o) (outcome_raw o))

-- A word without a line feed and an incarnation behind it stand on one line.
inc_line : (w : TextBytes) (i : ℕ) → OneLine w → Line (w ++ incarnation_text i)
inc_line w i h = join (lit w h) (plain (inc_clear i))

-- The words of a legible refusal stand on one line.
refusal_line : (x : Refusal) → IsLegibleRefusal x → Line (refusal_words x)
refusal_line refusal.CollectionNotFound h = lit (codes "60 collection-not-found") refl
refusal_line (refusal.AlreadyExists inc) h = inc_line (codes "61 already-exists") inc refl
refusal_line refusal.DynamicOffersRefused h = lit (codes "62 dynamic-offers-refused") refl
refusal_line (refusal.BadOffer index number) h = join (lit (codes "63 bad-offer ") refl) (join (num index) (join space (num number)))
refusal_line (refusal.OfferCycle nodes) h = join (lit (codes "64 offer-cycle") refl) (plain (behind_clear IsOfName (codes " ") node_text (clear (codes " ") refl) node_clear nodes h))
refusal_line (refusal.ParentClosing inc) h = inc_line (codes "65 parent-closing") inc refl
refusal_line refusal.Full h = lit (codes "67 full") refl
refusal_line refusal.NotDynamic h = lit (codes "68 not-dynamic") refl
refusal_line refusal.HistoryFull h = lit (codes "69 history-full") refl
refusal_line (refusal.NotFound m) h = join (lit (codes "80 not-found in ") refl) (plain (named m h))
refusal_line (refusal.Gone inc) h = inc_line (codes "81 gone") inc refl
refusal_line (refusal.Shut inc) h = inc_line (codes "82 shut") inc refl
refusal_line (refusal.CannotResolve action o) h = join (lit (codes "83 cannot-resolve action ") refl) (join (num action) (join space (outcome_line o)))
refusal_line (refusal.CannotStart action o) h = join (lit (codes "84 cannot-start action ") refl) (join (num action) (join space (outcome_line o)))
refusal_line refusal.ClientOff h = lit (codes "85 client-off") refl
refusal_line refusal.NoSuchUse h = lit (codes "86 no-such-use") refl
refusal_line (refusal.NoRoute hop reason) h = join (lit (codes "87 ") refl) (plain (failure_clear hop reason h))
refusal_line (refusal.VoidSource hop) h = join (lit (codes "88 ") refl) (plain (void_clear hop h))
refusal_line (refusal.SourceShut inc) h = inc_line (codes "89 source-shut") inc refl
refusal_line refusal.Memory h = lit (codes "want-of-memory") refl

-- The text of a legible refusal stands on one line.
refused : (x : Refusal) → IsLegibleRefusal x → Line (refusal_text x)
refused x h = join (lit (codes "refused ") refl) (refusal_line x h)

-- ---- routes and checks

-- The text of a legible route's place stands on one line.
place_line : (r : Route) → IsLegibleRoute r → Line (place_text r)
place_line r h = join (lit r.path (path_line r.path h.path)) (join (lit (codes " at ") refl) (join (plain (source_clear r.provider h.provider)) (plain (rights_if r.rights))))

-- The text of a legible route stands on one line.
route_line : (r : Route) → IsLegibleRoute r → Line (route_text r)
route_line r h =
    join (place_line r h) (join (lit (codes " through ") refl) (plain (joined_clear (λ (x : Hop). IsOfNames x.moniker) (codes ", ") hop_text (clear (codes ", ") refl) hop_clear r.hops h.hops)))

-- The text of a legible result of a route stands on one line.
found_line : (found : Result Route Refusal) → IsLegibleFound found → Line (found_text found)
found_line (Ok route) h = join (lit (codes "route ") refl) (route_line route h)
found_line (Err x) h = refused x h

-- The words of a checked path, if there is one, and its result stand on one line.
words_line : (o : Option TextBytes) (found : Result Route Refusal) → IfSome o (λ p. IsTrue (is_path p)) → IsLegibleFound found → Line (checked_words o found)
words_line None found h k = lit (codes "unresolved") refl
words_line (Some p) found h k = join (path p h) (join space (found_line found k))

-- The text of a legible line of a check stands on one line.
checked_line : (c : Checked) → IsLegibleChecked c → Line (checked_text c)
checked_line c h = join (plain (named c.moniker h.moniker)) (join space (words_line c.path c.result h.path h.result))

-- ---- commands

-- The text of a proper target stands on one line.
target_line : (t : Target) → IsTarget t → Line (target_text t)
target_line (target.Named m) h = plain (named m h.0)
target_line (target.Inc n) h = join (lit (codes "@") refl) (num n)

-- The text of the target of a command that can be written stands on one line.
of_line : (c : Command) → IsWritable c → Line (target_text (target_of c))
of_line (command.Resolve t) w = target_line t w
of_line (command.Start t) w = target_line t w
of_line (command.Stop t) w = target_line t w
of_line (command.Shutdown t) w = target_line t w
of_line (command.Create t coll name url gives) w = target_line t w.0
of_line (command.Destroy t) w = target_line t w
of_line (command.ListChildren t coll) w = target_line t w.0
of_line (command.OpenUse t p) w = target_line t w.0
of_line (command.OpenExposed t name) w = target_line t w.0
of_line (command.RouteOf t p) w = target_line t w.0
of_line (command.Doctor t) w = target_line t w
of_line (command.Show t) w = target_line t w
of_line (command.Survey t) w = target_line t w
of_line (command.Exited t) w = target_line t w
of_line (command.Events t from) w = target_line t w.0

-- A name stands on one line.
name_line : (t : TextBytes) → IsName t → Line t
name_line t h = lit t (clean_line t (name_clean t h))

-- The child that a command that can be written names stands on one line.
child_line : (c : Command) → IsWritable c → Line (child_of c)
child_line (command.Create t coll name url gives) w = join (name_line coll w.1) (join (lit (codes ":") refl) (name_line name w.2))
child_line _ w = lit [] refl

-- The collection that a command that can be written names stands on one line.
collection_line : (c : Command) → IsWritable c → Line (collection_of c)
collection_line (command.ListChildren t coll) w = name_line coll w.1
collection_line _ w = lit [] refl

-- A word and the target of a command are one line, where the command may be written.
to : (w : TextBytes) (c : Command) → OneLine w → IsWritable c → Line (of_target w c)
to w c h k = join (lit w h) (join space (of_line c k))

-- The words for which action did it, if one did, stand on one line.
done_line : (o : Option ℕ) → Line (done_by o)
done_line None = lit (codes " already") refl
done_line (Some a) = join (lit (codes " action ") refl) (num a)

-- A text on one line that is told only in one case stands on one line.
when_line : (b : Bool) {t : TextBytes} → Line t → Line (when b t)
when_line true h = h
when_line false h = lit [] refl

-- ---- answers

-- These texts as further lines, each behind a line feed and two spaces.
abbrev Further : List TextBytes → TextBytes
Further os = flat_map (λ (o : TextBytes). codes "\n  " ++ o) os

-- a line, and further ones that begin with two spaces
record IsSaid (t : TextBytes) : Type 0 where
  pub first : TextBytes
  pub others : List TextBytes
  pub is : t ≡ first ++ Further others
  pub one : OneLine first
  pub more : All OneLine others

-- A text on one line is a line with none further.
alone : {t : TextBytes} → Line t → IsSaid t
alone {t} h = record { first = t; others = []; is = sym (append-nil t); one = h.bytes; more = All-nil OneLine }

-- The further lines of items are those of the items' texts.
items_are : {A : Type 0} (text : A → TextBytes) (xs : List A) → further_lines text xs ≡ Further (map text xs)
items_are text [] = refl
items_are text (x ∷ xs) = ap (λ t. (codes "\n  " ++ text x) ++ t) (items_are text xs)

-- A line with a count of items, and a further line for each, is a line and further ones.
with_items : {A : Type 0} (P : A → Type 0) (text : A → TextBytes) → ((x : A) → P x → Line (text x)) → (xs : List A) → All P xs → {a : TextBytes} → Line a → IsSaid (a ++ counted text xs)
with_items P text each xs h {a} k = record {
  first = a ++ (codes " " ++ decimal (length xs));
  others = map text xs;
  is = ap (λ t. a ++ 32 ∷ (decimal (length xs) ++ t)) (items_are text xs) ∙ sym (append_assoc a (32 ∷ decimal (length xs)) (Further (map text xs)));
  one = (join k (join space (num (length xs)))).bytes;
  more = All_map P OneLine text xs (λ x p. (each x p).bytes) h;
}

-- The word of what happened is one line.
kind_line : (k : HappenKind) → Line (happen_word k)
kind_line happen.Resolved = lit (codes " resolved ") refl
kind_line happen.Started = lit (codes " started ") refl
kind_line happen.Stopped = lit (codes " stopped ") refl
kind_line happen.Destroyed = lit (codes " destroyed ") refl

-- The text of a happening at a moniker of names stands on one line.
happening_line : (x : Happening) → IsOfNames x.moniker → Line (happening_text x)
happening_line x h = join (num x.number) (join (kind_line x.kind) (join (plain (named x.moniker h)) (plain (inc_clear x.inc))))

-- Words, a count, the next place and a text behind them may be grouped either way.
spread : (a d n t : TextBytes) → (a ++ (codes " " ++ (d ++ (codes " next " ++ n)))) ++ t ≡ a ++ (codes " " ++ (d ++ (codes " next " ++ (n ++ t))))
spread a d n t = append_assoc a (32 ∷ (d ++ (codes " next " ++ n))) t ∙ ap (λ u. a ++ 32 ∷ u) (append_assoc d (codes " next " ++ n) t)

-- A line with a count of happenings and the next place, and each happening, is so.
with_happenings : (a : TextBytes) (next : ℕ) (told : List Happening) → Line a → All (λ (x : Happening). IsOfNames x.moniker) told → IsSaid (a ++ (codes " " ++ (decimal (length told) ++ (codes " next " ++ (decimal next ++ further_lines happening_text told)))))
with_happenings a next told k h = record {
  first = a ++ (codes " " ++ (decimal (length told) ++ (codes " next " ++ decimal next)));
  others = map happening_text told;
  is = ap (λ t. a ++ 32 ∷ (decimal (length told) ++ (codes " next " ++ (decimal next ++ t)))) (items_are happening_text told) ∙ sym (spread a (decimal (length told)) (decimal next) (Further (map happening_text told)));
  one = (join k (join space (join (num (length told)) (join (lit (codes " next ") refl) (num next))))).bytes;
  more = All_map (λ (x : Happening). IsOfNames x.moniker) OneLine happening_text told (λ x p. (happening_line x p).bytes) h;
}

-- A legible answer to a command that can be written is a line and perhaps further ones.
answer_said : (c : Command) (a : Answer) → IsWritable c → IsLegibleAnswer a → IsSaid (answer_text c a)
answer_said c (answer.Resolved a) w h = alone (join (to (codes "resolved") c refl w) (done_line a))
answer_said c (answer.Started a) w h = alone (join (to (codes "started") c refl w) (done_line a))
answer_said c (answer.Stopped a forced) w h = alone (join (to (codes "stopped") c refl w) (join (when_line forced (lit (codes " by-force") refl)) (done_line a)))
answer_said c answer.Shut w h = alone (to (codes "shut") c refl w)
answer_said c (answer.Created inc) w h = alone (join (to (codes "created") c refl w) (join space (join (child_line c w) (plain (inc_clear inc)))))
answer_said c answer.Destroyed w h = alone (to (codes "destroyed") c refl w)
answer_said c (answer.Children kids) w h =
    subst IsSaid (append_assoc (of_target (codes "children") c) (32 ∷ collection_of c) (counted kid_text kids))
    (with_items (λ (k : Kid). IsName k.name) kid_text (λ k j. plain (kid_clear k j)) kids h (join (to (codes "children") c refl w) (join space (collection_line c w))))
answer_said c (answer.Opened route) w h = alone (join (lit (codes "opened ") refl) (place_line route h))
answer_said c (answer.Routed route) w h = alone (join (lit (codes "route ") refl) (route_line route h))
answer_said c (answer.Shown look) w h =
    alone (join (to (codes "shown") c refl w) (join (plain (inc_clear look.inc)) (join (lit (codes " url ") refl)
    (join (lit look.url (url_line look.url (and_parts _ (list_all is_url_byte look.url) h).1)) (join space (plain (look_clear look)))))))
answer_said c (answer.Surveyed rows) w h = with_items IsLegibleSurvey survey_text (λ r j. plain (survey_clear r j)) rows h (to (codes "survey") c refl w)
answer_said c (answer.Doctored lines) w h = with_items IsLegibleChecked checked_text checked_line lines h (to (codes "doctor") c refl w)
answer_said c (answer.Left was_on) w h = alone (join (to (codes "exited") c refl w) (when_line (not was_on) (lit (codes " already") refl)))
answer_said c (answer.Streamed next told) w h = with_happenings (of_target (codes "events") c) next told (to (codes "events") c refl w) h

-- A reply with a legible result, to a command that can be written, is a line and perhaps more.
reply_said : (c : Command) (r : Result Answer Refusal) → IsWritable c → IsLegibleResult r → IsSaid (reply_text c r)
reply_said c (Ok a) w h = answer_said c a w h
reply_said c (Err x) w h = alone (refused x h)

-- ---- lines

-- Whether a byte is no higher than the digits.
is_digit : ℕ → Bool
is_digit b = nat_le b 57

-- No byte of the text is higher than the digits.
abbrev Digits : TextBytes → Type 0
Digits t = list_all is_digit t ≡ true

-- The digit of a number below ten is no higher than the digits.
glyph : (d : ℕ) → d < 10 → is_digit (digit_glyph false d) ≡ true
unfolding is_digit
glyph d h = grind (arith, rules)

-- Digits put before a text of no higher bytes are such a text with it.
onto : (k n : ℕ) (acc : TextBytes) → Digits acc → Digits (digits_onto k 10 false n acc)
onto zero n acc h = h
onto (suc k) n acc h =
    let here : Digits (digit_glyph false (n % 10) ∷ acc) = and_from (is_digit (digit_glyph false (n % 10))) (list_all is_digit acc) (glyph (n % 10) (omega arith)) h in
    either (n / 10 == 0) _ _ here (onto k (n / 10) (digit_glyph false (n % 10) ∷ acc) here)
  where
    either : (b : Bool) (s t : TextBytes) → Digits s → Digits t → Digits (cond b s t)
    either true s t h k = h
    either false s t h k = k

-- No byte of a number in decimal is higher than the digits.
decimal_digits : (n : ℕ) → Digits (decimal n)
unfolding digits
decimal_digits n = onto 64 n [] refl

-- The first byte of a text; zero where it is empty.
first_of : TextBytes → ℕ
first_of [] = 0
first_of (b ∷ bs) = b

-- A byte that is no higher than the digits is at most 57.
small_digit : (b : ℕ) → is_digit b ≡ true → b ≤ 57
unfolding is_digit
small_digit b h = grind (arith, rules)

-- A byte that is at most 57 isn't the letter that `journal` begins with.
no_digit : (b : ℕ) → b ≤ 57 → b ≡ 106 → ⊥
no_digit b h e = absurd (omega (arith, h, e))

-- The first byte of a number, a space and a text is at most 57.
first_is : (d first : TextBytes) → Digits d → first_of (d ++ 32 ∷ first) ≤ 57
unfolding first_of
first_is [] first h = omega arith
first_is (b ∷ bs) first h = small_digit b (and_parts (is_digit b) (list_all is_digit bs) h).0

-- The first byte of `journal` is 106.
journal_first : first_of (codes "journal") ≡ 106
unfolding first_of
journal_first = refl

-- A line that begins with a number and a space isn't `journal`.
no_journal : (d first : TextBytes) → Digits d → d ++ 32 ∷ first ≡ codes "journal" → ⊥
no_journal d first h e = no_digit (first_of (d ++ 32 ∷ first)) (first_is d first h) (ap first_of e ∙ journal_first)

-- A text behind two spaces.
more : TextBytes → TextBytes
more o = 32 ∷ 32 ∷ o

-- a text and further lines behind it
shifted : (x : TextBytes) (os : List TextBytes) → line (x ++ Further os) ≡ flat_map line (x ∷ map more os)
unfolding more
shifted x [] = ap line (append-nil x) ∙ sym (append-nil (line x))
shifted x (o ∷ os) =
    append_assoc x (10 ∷ (more o ++ Further os)) (10 ∷ [])
    ∙ ap (λ t. x ++ 10 ∷ t) (shifted (more o) os)
    ∙ sym (append_assoc x (10 ∷ []) (flat_map line (more o ∷ map more os)))

-- The line isn't `journal`.
abbrev IsOther : TextBytes → Type 0
IsOther t = t ≡ codes "journal" → ⊥

-- The text has no line feed.
abbrev IsWhole : TextBytes → Type 0
IsWhole t = All (λ b. (b == 10) ≡ false) t

-- A number before a line and further ones makes whole lines, none of which is `journal`.
line_prefix : (d t : TextBytes) → OneLine d → Digits d → IsSaid t → IsInPrefix (d ++ (codes " " ++ line t))
unfolding more
line_prefix d t h k said = record {
  lines = (d ++ 32 ∷ said.first) ∷ map more said.others;
  whole = ap (λ s. d ++ 32 ∷ line s) said.is ∙ sym (append_assoc d (32 ∷ (said.first ++ Further said.others)) (10 ∷ []))
      ∙ ap line (sym (append_assoc d (32 ∷ said.first) (Further said.others))) ∙ shifted (d ++ 32 ∷ said.first) said.others;
  clean = All-cons IsWhole (d ++ 32 ∷ said.first) (map more said.others)
      (lacks (d ++ 32 ∷ said.first) (one_line-append d (32 ∷ said.first) h (and_from true (list_all is_inner said.first) refl said.one)))
      (All_map OneLine IsWhole more said.others (λ o j. lacks (more o) (and_from true (list_all is_inner (32 ∷ o)) refl (and_from true (list_all is_inner o) refl j))) said.more);
  others = All-cons IsOther (d ++ 32 ∷ said.first) (map more said.others) (no_journal d said.first k)
      (All_map OneLine IsOther more said.others (λ o j e. absurd (cc e)) said.more);
}

-- ---- all lines

-- An empty text is one of whole lines, none of which is `journal`.
none_prefix : IsInPrefix []
none_prefix = record { lines = []; whole = refl; clean = All-nil IsWhole; others = All-nil IsOther }

-- Two texts of whole lines, none of which is `journal`, are so together.
both_prefix : (a b : TextBytes) → IsInPrefix a → IsInPrefix b → IsInPrefix (a ++ b)
both_prefix a b h k = record {
  lines = h.lines ++ k.lines;
  whole = ap (λ t. t ++ b) h.whole ∙ ap (λ t. flat_map line h.lines ++ t) k.whole ∙ sym (flat_map-append line h.lines k.lines);
  clean = All-append IsWhole h.lines k.lines h.clean k.clean;
  others = All-append IsOther h.lines k.lines h.others k.others;
}

-- The command of the answered line can be written.
abbrev Written : AnsweredLine → Type 0
Written a = IsWritable a.line.command

-- The result of the answered line is legible.
abbrev Told : AnsweredLine → Type 0
Told a = IsLegibleResult a.result

-- The answers of a phase are written in whole lines, none of which is `journal`.
phase_prefix : (xs : List AnsweredLine) → All Written xs → All Told xs → IsInPrefix (flat_map answer_line xs)
phase_prefix [] w h = none_prefix
phase_prefix (a ∷ xs) w h =
    both_prefix (answer_line a) (flat_map answer_line xs)
    (line_prefix (decimal a.line.lane) (reply_text a.line.command a.result) (decimal_line a.line.lane) (decimal_digits a.line.lane)
    (reply_said a.line.command a.result (All-head Written a xs w) (All-head Told a xs h)))
    (phase_prefix xs (All-tail Written a xs w) (All-tail Told a xs h))

-- What is written of answers may stand before a journal.
pub said_is_in_prefix : SaidIsInPrefix
said_is_in_prefix [] w h = none_prefix
said_is_in_prefix (xs ∷ others) w h =
    both_prefix (flat_map answer_line xs) (said_text others)
    (phase_prefix xs (All-head (All Written) xs others w) (All-head (All Told) xs others h))
    (said_is_in_prefix others (All-tail (All Written) xs others w) (All-tail (All Told) xs others h))
