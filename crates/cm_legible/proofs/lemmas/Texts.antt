-- The texts of replies print on one line, and no word of one is the arrow.
use Rattle.std.proofs.Common.{◌≡◌, ℕ, zero, suc, ◌<◌, List, [], ◌∷◌, ◌++◌, length, Bool, true, false, ◌&&◌, nat_le, Option, Some, None, All, decimal, refl, sym, ap, subst, ◌∙◌, arith, rules, codes, append_assoc, IsUtf8, IsAscii}
use Rattle.std.specs.List.{list_all}
use Rattle.std.proofs.lemmas.Bool.{and_parts, and_from}
use Rattle.std.proofs.lemmas.List.Folds.{list_all-append}
use Rattle.std.proofs.lemmas.Str.{IsUtf8-from_ascii}
use Rattle.std.proofs.lemmas.List.Elements.{All-tail}
use Rattle.cm_names.specs.Child.{child_text}
use Rattle.cm_names.specs.Moniker.{moniker_text}
use Rattle.cm_names.specs.declared.moniker.Moniker.{Moniker}
use Rattle.cm_names.specs.Name.{IsName}
use Rattle.cm_names.specs.Rights.{RightSet, text_of}
use Rattle.cm_names.specs.Urls.{is_url_byte}
use Rattle.cm_decl.specs.declared.node.Node.{Node}
use Rattle.cm_decl.specs.declared.node.Node.TheVariants as node
use Rattle.cm_decl.specs.declared.section.Section.{Section}
use Rattle.cm_decl.specs.declared.section.Section.TheVariants as section
use Rattle.cm_decl.specs.Words.{section_word, node_text}
use Rattle.cm_world.specs.declared.action.ActKind.{ActKind}
use Rattle.cm_world.specs.declared.action.ActKind.TheVariants as act
use Rattle.cm_world.specs.declared.action.FaultNote.{FaultNote}
use Rattle.cm_world.specs.declared.action.Outcome.{Outcome}
use Rattle.cm_world.specs.declared.action.Outcome.TheVariants as outcome
use Rattle.cm_world.specs.declared.report.Kid.{Kid}
use Rattle.cm_world.specs.declared.report.Look.{Look}
use Rattle.cm_world.specs.declared.report.SurveyRow.{SurveyRow}
use Rattle.cm_world.specs.declared.route.Hop.{Hop}
use Rattle.cm_world.specs.declared.route.StepKind.{StepKind}
use Rattle.cm_world.specs.declared.route.StepKind.TheVariants as step
use Rattle.cm_world.specs.declared.route.Provider.{Provider}
use Rattle.cm_world.specs.declared.route.Provider.TheVariants as provider
use Rattle.cm_world.specs.declared.route.Route.{Route}
use Rattle.cm_world.specs.declared.route.Why.{Why}
use Rattle.cm_world.specs.declared.route.Why.TheVariants as why
use Rattle.cm_world.specs.declared.reply.Reply.{Reply}
use Rattle.cm_world.specs.declared.reply.Reply.TheVariants as reply
use Rattle.cm_reply.specs.Lists.{TextBytes, each_behind, joined_by, bracketed, when, when_some}
use Rattle.cm_reply.specs.Routes.{step_word, hop_text, why_word, source_text, rights_words, route_text, failure_text, void_text}
use Rattle.cm_reply.specs.States.{act_word, note_text, outcome_text, incarnation_text, resolved_word, on_word, pending_words, look_text, survey_text, kid_text}
use Rattle.cm_reply.specs.Replies.{replied_text}
use Rattle.cm_reply.specs.LegibleInside.{IsOfNames, IsOfName, IsLongPath, IsLegibleProvider, IsLegibleRoute, IsLegibleSurvey, IsLegibleReply}
use Rattle.cm_legible.proofs.lemmas.Lists.{head}
use Rattle.cm_legible.proofs.lemmas.Json.{OneLine, is_inner, one_line-append}
use Rattle.cm_legible.proofs.lemmas.Words.{Clean, is_clean, clean-append, decimal_clean, name_clean, child_clean, moniker_clean, rights_clean, clean_line, clean_arrowless, path_line, path_arrowless, Arrowless, arrowless-append}

-- ---- bytes that print

-- Whether a byte prints.
is_print : ℕ → Bool
is_print b = nat_le 32 b && nat_le b 126

-- All bytes of the text print.
abbrev Prints : List ℕ → Type 0
Prints t = list_all is_print t ≡ true

-- A byte that prints and is no `>` prints.
print_byte : (b : ℕ) → is_clean b ≡ true → is_print b ≡ true
unfolding is_print
print_byte b h = grind (arith, rules)

-- A byte that may stand in a URL prints.
url_byte : (b : ℕ) → is_url_byte b ≡ true → is_print b ≡ true
unfolding is_print
url_byte b h = grind (arith, rules)

-- A byte that prints is below 128.
small_byte : (b : ℕ) → is_print b ≡ true → b < 128
unfolding is_print
small_byte b h = grind (arith, rules)

-- A text that prints without `>` prints.
clean_prints : (t : List ℕ) → Clean t → Prints t
clean_prints [] h = refl
clean_prints (b ∷ bs) h = let both = and_parts (is_clean b) (list_all is_clean bs) h in and_from (is_print b) (list_all is_print bs) (print_byte b both.0) (clean_prints bs both.1)

-- A text of bytes that may stand in a URL prints.
url_prints : (t : List ℕ) → list_all is_url_byte t ≡ true → Prints t
url_prints [] h = refl
url_prints (b ∷ bs) h = let both = and_parts (is_url_byte b) (list_all is_url_byte bs) h in and_from (is_print b) (list_all is_print bs) (url_byte b both.0) (url_prints bs both.1)

-- A text that prints is of ASCII.
ascii : (t : List ℕ) → Prints t → IsAscii t
ascii [] h i = omega arith
ascii (b ∷ bs) h zero = small_byte b (and_parts (is_print b) (list_all is_print bs) h).0
ascii (b ∷ bs) h (suc i) = ascii bs (and_parts (is_print b) (list_all is_print bs) h).1 i

-- A path prints.
path_prints : (t : List ℕ) → IsLongPath t → Prints t
path_prints t h = subst Prints (sym h.1) (and_from (is_print 47) (list_all is_print h.0) (url_byte 47 refl) (url_prints h.0 h.2))

-- ---- a text that is told

-- The text is UTF-8 on one line, and no word of it is the arrow.
pub record IsTold (t : TextBytes) : Type 0 where
  pub line : OneLine t
  pub arrowless : Arrowless t
  pub utf8 : IsUtf8 t

-- A clean text is on one line, has no arrow among its words, and is UTF-8.
pub told_raw : (t : TextBytes) → Clean t → IsTold t
told_raw t h = record { line = clean_line t h; arrowless = clean_arrowless t h; utf8 = IsUtf8-from_ascii t (ascii t (clean_prints t h)) }

-- A path between clean texts and spaces is a text that can be told.
told_path : (a p b : TextBytes) → Clean a → IsLongPath p → Clean b → IsTold (a ++ 32 ∷ (p ++ 32 ∷ b))
unfolding is_print
told_path a p b h k j = record {
  line = one_line-append a (32 ∷ (p ++ 32 ∷ b)) (clean_line a h) (and_from true (list_all is_inner (p ++ 32 ∷ b)) refl (one_line-append p (32 ∷ b) (path_line p k) (and_from true (list_all is_inner b) refl (clean_line b j))));
  arrowless = arrowless-append a (p ++ 32 ∷ b) (clean_arrowless a h) (arrowless-append p b (path_arrowless p k) (clean_arrowless b j));
  utf8 = IsUtf8-from_ascii _ (ascii _ (list_all-append is_print a (32 ∷ (p ++ 32 ∷ b)) ∙ and_from (list_all is_print a) _ (clean_prints a h)
      (and_from true _ refl (list_all-append is_print p (32 ∷ b) ∙ and_from (list_all is_print p) _ (path_prints p k) (and_from true (list_all is_print b) refl (clean_prints b j))))));
}

-- A text whose bytes are all clean, as a record that search takes apart.
pub record Clear (t : TextBytes) : Type 0 where
  pub bytes : Clean t

-- A text all of whose bytes are clean counts as clear.
pub lit : (t : TextBytes) → Clean t → Clear t
lit t h = record { bytes = h }

-- Two clear texts, one behind the other, are a clear text.
pub join : {s t : TextBytes} → Clear s → Clear t → Clear (s ++ t)
join {s} {t} h k = record { bytes = clean-append s t h.bytes k.bytes }

-- The decimal text of a number is clear.
pub num : (n : ℕ) → Clear (decimal n)
num n = lit (decimal n) (decimal_clean n)

-- A clear text can be told in a line.
pub told_clean : {t : TextBytes} → Clear t → IsTold t
told_clean {t} h = told_raw t h.bytes

-- ---- parts of replies

-- The word for a section prints without `>`.
section_raw : (s : Section) → Clean (section_word s)
section_raw section.Manifest = refl
section_raw section.Program = refl
section_raw section.Children = refl
section_raw section.Collections = refl
section_raw section.Capabilities = refl
section_raw section.Uses = refl
section_raw section.Offers = refl
section_raw section.Exposes = refl
section_raw section.Environments = refl
section_raw section.Graph = refl

-- The text of a fault's note prints without `>`.
note_clear : (note : FaultNote) → Clear (note_text note)
note_clear note =
    join (lit (codes "invalid ") refl) (join (num note.number) (join (lit (codes " ") refl) (join (lit (section_word note.section) (section_raw note.section))
    (join (lit (codes " ") refl) (join (num note.index) (lit [] refl))))))

-- The text of an outcome is clean.
pub outcome_raw : (o : Outcome) → Clean (outcome_text o)
outcome_raw outcome.Resolved = refl
outcome_raw outcome.Started = refl
outcome_raw outcome.Stopped = refl
outcome_raw outcome.Killed = refl
outcome_raw outcome.Absent = refl
outcome_raw outcome.BadUrl = refl
outcome_raw (outcome.Invalid note) = (note_clear note).bytes
outcome_raw outcome.Declined = refl
outcome_raw outcome.GateFailed = refl
outcome_raw outcome.Full = refl
outcome_raw outcome.NoMemory = refl

-- The word for a step of a route prints without `>`.
step_raw : (s : StepKind) → Clean (step_word s)
step_raw step.UseHop = refl
step_raw step.OfferHop = refl
step_raw step.ExposeHop = refl
step_raw step.CapabilityHop = refl
step_raw step.FrameworkHop = refl
step_raw step.BuiltinHop = refl

-- The word for why a walk failed prints without `>`.
why_raw : (w : Why) → Clean (why_word w)
why_raw why.NoOffer = refl
why_raw why.NoExpose = refl
why_raw why.NoInstance = refl
why_raw why.NoBuiltin = refl
why_raw (why.AvailabilityTooWeak a g) = refl
why_raw (why.RightsTooWeak a g) = refl

-- The text of a moniker of proper names is clear.
pub named : (m : Moniker) → IsOfNames m → Clear (moniker_text m)
named m h = lit (moniker_text m) (moniker_clean m h)

-- The text of a hop is clear, where its moniker is of proper names.
pub hop_clear : (h : Hop) → IsOfNames h.moniker → Clear (hop_text h)
hop_clear h k = join (lit (step_word h.step) (step_raw h.step)) (join (lit (codes " ") refl) (named h.moniker k))

-- The text of a provider that can be told is clear.
pub source_clear : (p : Provider) → IsLegibleProvider p → Clear (source_text p)
source_clear (provider.Instance inc m) h = join (named m h) (join (lit (codes " incarnation ") refl) (num inc))
source_clear provider.Framework h = lit (codes "framework") refl
source_clear provider.Builtin h = lit (codes "builtin") refl

-- The text of a set of rights is clear, also where there is none.
pub rights_if : (o : Option RightSet) → Clear (when_some rights_words o)
rights_if None = lit [] refl
rights_if (Some r) = join (lit (codes " rights ") refl) (lit (text_of r) (rights_clean r))

-- The text of a node of the realm graph with a proper name is clear.
pub node_clear : (n : Node) → IsOfName n → Clear (node_text n)
node_clear node.Own h = lit (codes "self") refl
node_clear (node.Child c) h = lit (child_text c) (child_clean c h)

-- Texts of items, each behind a mark, are clear, where the mark and each item's text are.
pub behind_clear : {A : Type 0} (P : A → Type 0) (mark : TextBytes) (text : A → TextBytes) → Clear mark → ((x : A) → P x → Clear (text x)) → (xs : List A) → All P xs → Clear (each_behind mark text xs)
behind_clear P mark text m each [] h = lit [] refl
behind_clear P mark text m each (x ∷ xs) h = join (join m (each x (head P x xs h))) (behind_clear P mark text m each xs (All-tail P x xs h))

-- Texts of items, joined by a mark, are clear, where the mark and each item's text are.
pub joined_clear : {A : Type 0} (P : A → Type 0) (mark : TextBytes) (text : A → TextBytes) → Clear mark → ((x : A) → P x → Clear (text x)) → (xs : List A) → All P xs → Clear (joined_by mark text xs)
joined_clear P mark text m each [] h = lit [] refl
joined_clear P mark text m each (x ∷ xs) h = join (each x (head P x xs h)) (behind_clear P mark text m each xs (All-tail P x xs h))

-- A list in brackets prints without `>`, where each item's text does.
bracketed_clear : {A : Type 0} (P : A → Type 0) (text : A → TextBytes) → ((x : A) → P x → Clear (text x)) → (xs : List A) → All P xs → Clear (bracketed text xs)
bracketed_clear P text each [] h = lit [] refl
bracketed_clear P text each (x ∷ xs) h = join (join (lit (codes " [") refl) (join (each x (head P x xs h)) (lit (codes "]") refl))) (bracketed_clear P text each xs (All-tail P x xs h))

-- The word for whether a row is resolved prints without `>`.
resolved_raw : (b : Bool) → Clean (resolved_word b)
resolved_raw true = refl
resolved_raw false = refl

-- The word for whether a row runs prints without `>`.
on_raw : (b : Bool) → Clean (on_word b)
on_raw true = refl
on_raw false = refl

-- A text that prints without `>` does so where it is told only in one case.
when_clear : (b : Bool) {t : TextBytes} → Clear t → Clear (when b t)
when_clear true h = h
when_clear false h = lit [] refl

-- The word for a kind of actions prints without `>`.
act_raw : (k : ActKind) → Clean (act_word k)
act_raw act.Resolve = refl
act_raw act.Start = refl
act_raw act.Stop = refl

-- The words for a pending action, where there is one, print without `>`.
pending_clear : (o : Option ActKind) → Clear (when_some pending_words o)
pending_clear None = lit [] refl
pending_clear (Some k) = join (lit (codes " pending ") refl) (lit (act_word k) (act_raw k))

-- The words for a row's state and a text that prints without `>` do so together.
state : (resolved on : Bool) {t : TextBytes} → Clear t → Clear (resolved_word resolved ++ (on_word on ++ t))
state resolved on h = join (lit (resolved_word resolved) (resolved_raw resolved)) (join (lit (on_word on) (on_raw on)) h)

-- The text of a look at a row is clear.
pub look_clear : (l : Look) → Clear (look_text l)
look_clear l = state l.resolved l.on (join (when_clear l.closing (lit (codes " closing") refl)) (join (when_clear l.shut (lit (codes " shut") refl)) (pending_clear l.pending)))

-- The text of an incarnation is clear.
pub inc_clear : (i : ℕ) → Clear (incarnation_text i)
inc_clear i = join (lit (codes " incarnation ") refl) (num i)

-- The text of a survey's row is clear, where the row can be told.
pub survey_clear : (r : SurveyRow) → IsLegibleSurvey r → Clear (survey_text r)
survey_clear r h = join (named r.moniker h.moniker) (join (inc_clear r.inc) (join (lit (codes " ") refl) (state r.resolved r.on (when_clear r.shut (lit (codes " shut") refl)))))

-- The text of a listed child is clear, where its name is a proper one.
pub kid_clear : (k : Kid) → IsName k.name → Clear (kid_text k)
kid_clear k h = join (lit k.name (name_clean k.name h)) (inc_clear k.inc)

-- The text of a failed walk is clear, where the moniker of its hop is of proper names.
pub failure_clear : (h : Hop) (w : Why) → IsOfNames h.moniker → Clear (failure_text h w)
failure_clear h w k = join (lit (why_word w) (why_raw w)) (join (lit (codes " at ") refl) (hop_clear h k))

-- The text of a walk that ended in the void is clear, where its hop's moniker is of proper names.
pub void_clear : (h : Hop) → IsOfNames h.moniker → Clear (void_text h)
void_clear h k = join (lit (codes "void at ") refl) (hop_clear h k)

-- ---- routes

-- what stands behind a route's path
behind_path : Route → TextBytes
behind_path r = codes "at " ++ ((source_text r.provider ++ when_some rights_words r.rights) ++ (codes " through " ++ joined_by (codes ", ") hop_text r.hops))

-- A text with a route behind it is that text, the route's path and what stands behind that.
route_is : (a : TextBytes) (r : Route) → a ++ (codes " " ++ route_text r) ≡ a ++ 32 ∷ (r.path ++ 32 ∷ behind_path r)
unfolding behind_path
route_is a r =
    ap (λ t. a ++ 32 ∷ t) (append_assoc r.path (codes " at " ++ (source_text r.provider ++ when_some rights_words r.rights)) (codes " through " ++ joined_by (codes ", ") hop_text r.hops))

-- What stands behind the path of a legible route prints without `>`.
behind_path_clear : (r : Route) → IsLegibleRoute r → Clear (behind_path r)
unfolding behind_path
behind_path_clear r h =
    join (lit (codes "at ") refl) (join (join (source_clear r.provider h.provider) (rights_if r.rights)) (join (lit (codes " through ") refl) (joined_clear (λ (x : Hop). IsOfNames x.moniker) (codes ", ") hop_text (lit (codes ", ") refl) hop_clear r.hops h.hops)))

-- A text with a legible route behind it is on one line, and no word of it is the arrow.
route_told : (a : TextBytes) (r : Route) → Clean a → IsLegibleRoute r → IsTold (a ++ (codes " " ++ route_text r))
route_told a r h k = subst IsTold (sym (route_is a r)) (told_path a r.path (behind_path r) h k.path (behind_path_clear r k).bytes)

-- A clean word and a number behind it are a text that can be told.
numbered : (w : TextBytes) (n : ℕ) → Clean w → IsTold (w ++ decimal n)
numbered w n h = told_clean (join (lit w h) (num n))

-- ---- replies

-- The text of a reply that can be told is one that is told in a line.
pub reply_told : (r : Reply) → IsLegibleReply r → IsTold (replied_text r)
reply_told (reply.Found i) h = numbered (codes "found ") i refl
reply_told (reply.Need i) h = numbered (codes "need ") i refl
reply_told (reply.Shut i) h = numbered (codes "shut ") i refl
reply_told (reply.Gone i) h = numbered (codes "gone ") i refl
reply_told (reply.NotFound m) h = told_clean (join (lit (codes "not-found ") refl) (named m h))
reply_told (reply.Begun work) h = numbered (codes "begun ") work.action refl
reply_told (reply.Joined a) h = numbered (codes "joined ") a refl
reply_told reply.Already h = told_raw (codes "already") refl
reply_told (reply.Ended o) h = told_clean (join (lit (codes "ended ") refl) (lit (outcome_text o) (outcome_raw o)))
reply_told (reply.Created i) h = numbered (codes "created ") i refl
reply_told (reply.Closing i) h = numbered (codes "closing ") i refl
reply_told reply.NoCollection h = told_raw (codes "no-collection") refl
reply_told (reply.Exists i) h = numbered (codes "exists ") i refl
reply_told reply.OffersRefused h = told_raw (codes "offers-refused") refl
reply_told (reply.BadOffer i n) h = told_clean (join (lit (codes "bad-offer ") refl) (join (num i) (join (lit (codes " ") refl) (num n))))
reply_told (reply.Cycle nodes) h = told_clean (join (lit (codes "cycle") refl) (behind_clear IsOfName (codes " ") node_text (lit (codes " ") refl) node_clear nodes h))
reply_told reply.Full h = told_raw (codes "full") refl
reply_told reply.Marked h = told_raw (codes "marked") refl
reply_told reply.NotDynamic h = told_raw (codes "not-dynamic") refl
reply_told reply.Done h = told_raw (codes "done") refl
reply_told (reply.Stopping work) h = told_clean (join (lit (codes "stopping ") refl) (join (num work.inc) (join (lit (codes " ") refl) (num work.action))))
reply_told (reply.ShutDown i) h = numbered (codes "shutdown ") i refl
reply_told (reply.Purged lost) h = numbered (codes "purged ") (length lost) refl
reply_told reply.PurgedBefore h = told_raw (codes "purged-before") refl
reply_told reply.NoSuchUse h = told_raw (codes "no-such-use") refl
reply_told reply.ClientOff h = told_raw (codes "client-off") refl
reply_told (reply.SourceShut i) h = numbered (codes "source-shut ") i refl
reply_told (reply.NeedStart i) h = numbered (codes "need-start ") i refl
reply_told (reply.Failed hop why) h = told_clean (join (lit (codes "failed ") refl) (failure_clear hop why h))
reply_told (reply.Void hop) h = told_clean (void_clear hop h)
reply_told (reply.Given route) h = route_told (codes "given") route refl h
reply_told (reply.Opened route) h = route_told (codes "opened") route refl h
reply_told (reply.Listed kids) h = told_clean (join (lit (codes "listed ") refl) (join (num (length kids)) (bracketed_clear (λ (k : Kid). IsName k.name) kid_text kid_clear kids h)))
reply_told (reply.Shown look) h = told_clean (join (lit (codes "shown ") refl) (look_clear look))
reply_told (reply.Surveyed rows) h = told_clean (join (lit (codes "surveyed ") refl) (join (num (length rows)) (bracketed_clear IsLegibleSurvey survey_text survey_clear rows h)))
reply_told (reply.Left m) h = told_raw (codes "left") refl
reply_told (reply.Tailed n) h = numbered (codes "tailed ") n refl
reply_told (reply.Reaping incs) h = told_clean (join (lit (codes "reaping") refl) (behind_clear (λ (_ : ℕ). Unit {0}) (codes " ") decimal (lit (codes " ") refl) (λ n _. num n) incs (λ k d lt. tt)))
