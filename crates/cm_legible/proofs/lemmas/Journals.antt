-- The journal of a legal history is legal, whatever lines stand before it.
use Rattle.std.proofs.Common.{◌≡◌, ℕ, ◌+◌, ◌-◌, ◌<◌, ◌≤◌, ◌^◌, List, [], ◌∷◌, ◌++◌, map, flat_map, length, true, false, not, ◌&&◌, ◌==◌, nat_le, Option, Some, None, All, IsTrue, decimal, refl, sym, ap, subst, ◌∙◌, arith, rules, codes, append_assoc, append-nil, length-append}
use Rattle.std.specs.Prelude.{IfSome}
use Rattle.std.specs.List.{list_all}
use Rattle.std.proofs.lemmas.Bool.{and_parts, and_from}
use Rattle.std.proofs.lemmas.List.Elements.{All-cons, All-append, All-tail, All-nil}
use Rattle.cm_names.specs.Name.{IsName}
use Rattle.cm_names.specs.Path.{is_path, service_path}
use Rattle.cm_names.specs.Urls.{is_url_byte, is_url_text}
use Rattle.cm_facts.proofs.Lists.{All_map}
use Rattle.cm_decl.specs.declared.decl.Decl.{Decl}
use Rattle.cm_decl.specs.declared.kind.Kind.{Kind}
use Rattle.cm_decl.specs.declared.kind.Kind.TheVariants as kind
use Rattle.cm_decl.specs.declared.rows.Give.{Give}
use Rattle.cm_read.specs.Readable as readable
use Rattle.cm_read.specs.Readable.{IsReadable, ForSomeOf, MayHave, IsSubDir}
use Rattle.cm_world.specs.declared.action.Finish.TheVariants as finish
use Rattle.cm_world.specs.declared.action.Finish.{Finish}
use Rattle.cm_world.specs.declared.event.Event.{Event}
use Rattle.cm_world.specs.declared.event.Event.TheVariants as event
use Rattle.cm_world.specs.declared.frame.Builtin.{Builtin}
use Rattle.cm_world.specs.declared.frame.Frame.{Frame}
use Rattle.cm_world.specs.declared.reply.Entry.{Entry}
use Rattle.cm_world.specs.World.{start}
use Rattle.cm_world.specs.Legal.{IsStep, Legal, replay}
use Rattle.cm_world.proofs.lemmas.trees.Histories.{Legal-split}
use Rattle.cm_command.specs.Scripts.{lines_of}
use Rattle.cm_command.specs.Words.{IsUrlText}
use Rattle.cm_command.specs.Written.{IsWritableGive, HasParts}
use Rattle.cm_command.proofs.lemmas.bytes.Pieces.{Lacks, lines_at}
use Rattle.cm_reply.specs.Lists.{TextBytes}
use Rattle.cm_reply.specs.Events.{event_text}
use Rattle.cm_reply.specs.Replies.{replied_text}
use Rattle.cm_reply.specs.Journal.{entry_text, builtin_text, builtin_line, line, entries_text, journal_text}
use Rattle.cm_reply.specs.Legible.{IsLegible, IsLegibleFinish, IsLegibleBuiltin, IsLegibleAs}
use Rattle.cm_reply.specs.LegibleInside.{IsLongPath, IsLegibleEntry, IsLegibleFrame}
use Rattle.cm_audit.specs.Journal.{frame_of, Stage, before, head as heads, told, Reads, ReadsAll}
use Rattle.cm_audit.specs.Laws.{IsLegibleHistory, JournalsAreLegal}
use Rattle.cm_legible.specs.Frames.{with_room}
use Rattle.cm_legible.specs.Tellable.{IsTellable, IsTellableDecl, IsTellableGive, IsTellableFinish, IsTellableFrame, IsNamedReply}
use Rattle.cm_legible.proofs.lemmas.Lists.{head}
use Rattle.cm_legible.proofs.lemmas.Paths.{path_is_long, service_is_long}
use Rattle.cm_legible.proofs.lemmas.Json.{OneLine, is_inner, one_line-append, decimal_line}
use Rattle.cm_legible.proofs.lemmas.Texts.{IsTold, reply_told}
use Rattle.cm_legible.proofs.lemmas.Events.{event_line, builtin_one_line, url, url_bytes}
use Rattle.cm_legible.proofs.lemmas.Rooms.{legal_whatever_room}
use Rattle.cm_legible.proofs.lemmas.Replies.{replies_are_named, replies_are_tellable}
use Rattle.cm_legible.proofs.lemmas.Back.{entries_are_read_back}

-- ---- what is legible can be told of

-- A text that is stated as a URL passes as one.
url_is : (t : TextBytes) → IsUrlText t → IsTrue (is_url_text t)
url_is t h =
    and_from (not (length t == 0) && nat_le (length t) 4096) (list_all is_url_byte t)
    (and_from (not (length t == 0)) (nat_le (length t) 4096) (some (length t) h.some) (few (length t) h.short)) (url_bytes t h.bytes)
  where
    some : (n : ℕ) → 1 ≤ n → not (n == 0) ≡ true
    some n e = grind (arith, rules)

    few : (n : ℕ) → n ≤ 4096 → nat_le n 4096 ≡ true
    few n e = grind (arith, rules)

-- A legible builtin capability has a path that is proper.
path_at : (k : Kind) (b : Builtin) → IsName b.name → IsLegibleAs k b → IsLongPath b.path
path_at kind.Protocol b n h = subst IsLongPath (sym h.0) (service_is_long b.name n)
path_at kind.Directory b n h = path_is_long b.path h.0

-- Where a kind may have a subdirectory only if it is proper, one that is there passes as such.
may_subdir : (k : Kind) (o : Option TextBytes) → MayHave k o IsSubDir → IfSome o (λ t. IsTrue (Rattle.cm_names.specs.Path.is_subdir t))
may_subdir kind.Protocol o h = subst (λ x. IfSome x (λ t. IsTrue (Rattle.cm_names.specs.Path.is_subdir t))) (sym h) tt
may_subdir kind.Directory None h = tt
may_subdir kind.Directory (Some t) h = h

-- A declaration that can be read back can be told of.
decl_is : (d : Decl) → IsReadable d → IsTellableDecl d
decl_is d h = record {
  children = λ k x lt. (let c : readable.IsChildRow _ = h.children.each k x lt in record { name = c.name; url = c.url });
  capabilities = λ k x lt. (let c : readable.IsCapability _ = h.capabilities.each k x lt in c.path);
  uses = λ k x lt. (let u : readable.IsUsage _ = h.uses.each k x lt in record { name = u.name; path = u.path; subdir = may_subdir _ _ u.subdir });
  offers = λ k x lt. (let o : readable.IsOffer _ = h.offers.each k x lt in record { name = o.give.source_name; subdir = may_subdir _ _ o.give.subdir });
  exposes = λ k x lt. (let o : readable.IsExpose _ = h.exposes.each k x lt in record { name = o.give.source_name; subdir = may_subdir _ _ o.give.subdir });
}

-- A subdirectory that may be stated for a kind passes as one, where it is there.
parts_subdir : (k : Kind) (r : Option _) (s : Option TextBytes) → HasParts k r s → IfSome s (λ t. IsTrue (Rattle.cm_names.specs.Path.is_subdir t))
parts_subdir kind.Protocol r s h = subst (λ o. IfSome o (λ t. IsTrue (Rattle.cm_names.specs.Path.is_subdir t))) (sym h.1) tt
parts_subdir kind.Directory r s h = h.1

-- An offer that can be written can be told of.
give_is : (g : Give) → IsWritableGive g → IsTellableGive g
give_is g h = record { name = h.source_name; subdir = parts_subdir g.kind g.rights g.subdir h.parts }

-- A legible finish of an action can be told of.
finish_is : (f : Finish) → IsLegibleFinish f → IsTellableFinish f
finish_is (finish.Resolved u d) h = decl_is d h.1
finish_is (finish.Other o) h = tt

-- A legible event can be told of.
event_is : (e : Event) → IsLegible e → IsTellable e
event_is (event.Find m) h = h.0
event_is (event.End a f) h = finish_is f h.1
event_is (event.Create i child) h = (h.1, h.2, url_is child.url h.3, λ k x lt. give_is _ (h.4 k x lt))
event_is _ h = tt

-- A legible frame can be told of.
frame_is : (f : Frame) → IsLegibleFrame f → IsTellableFrame f
frame_is f h = record { root = url_is f.root h.root; builtins = λ k x lt. (let b : IsLegibleBuiltin _ = h.builtins k x lt in path_at _ _ b.name b.stands) }

-- ---- lines

-- No byte is a line feed in a text that a test finds to be without one.
pub lacks : (t : TextBytes) → OneLine t → Lacks 10 t
lacks [] h = All-nil (λ b. (b == 10) ≡ false)
lacks (b ∷ bs) h =
    let both = and_parts (is_inner b) (list_all is_inner bs) h in All-cons (λ b. (b == 10) ≡ false) b bs (byte b both.0) (lacks bs both.1)
  where
    byte : (b : ℕ) → is_inner b ≡ true → (b == 10) ≡ false
    byte b h = grind (arith, rules)

-- Lines without a line feed are got back from their text.
lines_back : (ts : List TextBytes) → All (Lacks 10) ts → lines_of (flat_map line ts) ≡ ts
lines_back [] h = refl
lines_back (t ∷ ts) h =
    ap lines_of (append_assoc t (10 ∷ []) (flat_map line ts)) ∙ lines_at t (flat_map line ts) (head (Lacks 10) t ts h) ∙ ap (λ xs. t ∷ xs) (lines_back ts (All-tail (Lacks 10) t ts h))

-- The lines of entries, numbered from a first number on.
entry_lines : ℕ → List Entry → List TextBytes
entry_lines n [] = []
entry_lines n (e ∷ es) = entry_text n e ∷ entry_lines (n + 1) es

-- the lines of a journal
journal_lines : Frame → List Entry → List TextBytes
journal_lines f es = codes "journal" ∷ (map builtin_text f.builtins ++ (codes "root " ++ f.root) ∷ entry_lines 1 es)

-- The text of entries is that of their lines.
entries_by_lines : (n : ℕ) (es : List Entry) → entries_text n es ≡ flat_map line (entry_lines n es)
unfolding entry_lines
entries_by_lines n [] = refl
entries_by_lines n (e ∷ es) = ap (λ t. line (entry_text n e) ++ t) (entries_by_lines (n + 1) es)

-- The text of lines and more lines is the text of the first and that of the others.
flat_map-append : (xs ys : List TextBytes) → flat_map line (xs ++ ys) ≡ flat_map line xs ++ flat_map line ys
flat_map-append [] ys = refl
flat_map-append (x ∷ xs) ys = ap (λ t. line x ++ t) (flat_map-append xs ys) ∙ sym (append_assoc (line x) (flat_map line xs) (flat_map line ys))

-- The text of builtin capabilities is that of their lines.
builtins_by_lines : (bs : List Builtin) → flat_map builtin_line bs ≡ flat_map line (map builtin_text bs)
builtins_by_lines [] = refl
builtins_by_lines (b ∷ bs) = ap (λ t. builtin_line b ++ t) (builtins_by_lines bs)

-- The text of a journal is that of its lines.
journal_by_lines : (f : Frame) (es : List Entry) → journal_text f es ≡ flat_map line (journal_lines f es)
unfolding journal_lines
journal_by_lines f es =
    let root : TextBytes = codes "root " ++ f.root in
    let rest : flat_map line (map builtin_text f.builtins ++ root ∷ entry_lines 1 es) ≡ flat_map builtin_line f.builtins ++ (line root ++ entries_text 1 es) =
    flat_map-append (map builtin_text f.builtins) (root ∷ entry_lines 1 es) ∙ ap (λ t. t ++ flat_map line (root ∷ entry_lines 1 es)) (sym (builtins_by_lines f.builtins)) ∙ ap (λ t. flat_map builtin_line f.builtins ++ (line root ++ t)) (sym (entries_by_lines 1 es)) in
    append_assoc (line (codes "journal")) (flat_map builtin_line f.builtins ++ line root) (entries_text 1 es)
    ∙ ap (λ t. line (codes "journal") ++ t) (append_assoc (flat_map builtin_line f.builtins) (line root) (entries_text 1 es) ∙ sym rest)

-- ---- reading

-- Lines that lead to a stage, and more that lead on from it, lead on together.
reads-append : (s m u : Stage) (xs ys : List TextBytes) → ReadsAll s xs m → ReadsAll m ys u → ReadsAll s (xs ++ ys) u
reads-append s m u [] ys h k = subst (λ z. ReadsAll z ys u) (sym h) k
reads-append s m u (x ∷ xs) ys h k = (h.0, h.1, reads-append h.0 m u xs ys h.2 k)

-- Lines none of which is `journal` leave the reading before that line.
skipped : (ts : List TextBytes) → All (λ (t : TextBytes). t ≡ codes "journal" → ⊥) ts → ReadsAll before ts before
skipped [] h = refl
skipped (t ∷ ts) h = (before, Reads.skips (head (λ (t : TextBytes). t ≡ codes "journal" → ⊥) t ts h), skipped ts (All-tail (λ (t : TextBytes). t ≡ codes "journal" → ⊥) t ts h))

-- The lines of legible builtin capabilities are read behind `journal`, one after the other.
builtins_read : (done bs : List Builtin) → All IsLegibleBuiltin bs → ReadsAll (heads done) (map builtin_text bs) (heads (done ++ bs))
builtins_read done [] h = ap heads (sym (append-nil done))
builtins_read done (b ∷ bs) h = (
  heads (done ++ b ∷ []),
  Reads.builtin b (head IsLegibleBuiltin b bs h),
  subst (λ x. ReadsAll (heads (done ++ b ∷ [])) (map builtin_text bs) (heads x)) (append_assoc done (b ∷ []) bs) (builtins_read (done ++ b ∷ []) bs (All-tail IsLegibleBuiltin b bs h)),
)

-- The lines of legible entries that go on a legal history are read behind the root.
entries_read : (f : Frame) (done es : List Entry) → Legal (start f) (done ++ es) → All IsLegibleEntry es → length (done ++ es) < 2 ^ 64 → ReadsAll (told f done) (entry_lines (length done + 1) es) (told f (done ++ es))
unfolding entry_lines
entries_read f done [] legal h few = ap (told f) (sym (append-nil done))
entries_read f done (e ∷ es) legal h few =
    let step : IsStep (replay (start f) done) e = (Legal-split (start f) done (e ∷ es) legal).1.0 in
    let same : (done ++ e ∷ []) ++ es ≡ done ++ e ∷ es = append_assoc done (e ∷ []) es in
    let small : length done + 1 < 2 ^ 64 = omega (arith, few, length-append done (e ∷ es)) in
    let next : length (done ++ e ∷ []) + 1 ≡ length done + 1 + 1 = omega (arith, length-append done (e ∷ [])) in (
      told f (done ++ e ∷ []),
      Reads.entry e (entries_are_read_back (length done + 1) e small (head IsLegibleEntry e es h)) step,
      subst (λ x. ReadsAll (told f (done ++ e ∷ [])) (entry_lines (length done + 1 + 1) es) (told f x)) same
          (subst (λ n. ReadsAll (told f (done ++ e ∷ [])) (entry_lines n es) (told f ((done ++ e ∷ []) ++ es))) next
          (entries_read f (done ++ e ∷ []) es (subst (Legal (start f)) (sym same) legal) (All-tail IsLegibleEntry e es h) (subst (λ (x : List Entry). length x < 2 ^ 64) (sym same) few))),
    )

-- ---- the whole

-- No line of a legible entry has a line feed.
entries_lack : (n : ℕ) (es : List Entry) → All IsLegibleEntry es → All (Lacks 10) (entry_lines n es)
unfolding entry_lines
entries_lack n [] h = All-nil (Lacks 10)
entries_lack n (e ∷ es) h =
    let here : IsLegibleEntry e = head IsLegibleEntry e es h in
    let said : IsTold (replied_text e.reply) = reply_told e.reply here.reply in
    All-cons (Lacks 10) (entry_text n e) (entry_lines (n + 1) es)
    (lacks (entry_text n e)
    (one_line-append (decimal n) _ (decimal_line n) (and_from true _ refl (one_line-append (decimal e.caller) _ (decimal_line e.caller) (and_from true _ refl
    (one_line-append (event_text e.event) _ (event_line e.event here.event).bytes (one_line-append (codes " => ") (replied_text e.reply) refl said.line)))))))
    (entries_lack (n + 1) es (All-tail IsLegibleEntry e es h))

-- No line of a journal has a line feed, where its frame and its entries are legible.
journal_lacks : (f : Frame) (es : List Entry) → IsLegibleFrame f → All IsLegibleEntry es → All (Lacks 10) (journal_lines f es)
unfolding journal_lines
journal_lacks f es h k =
    All-cons (Lacks 10) (codes "journal") _ (lacks (codes "journal") refl)
    (All-append (Lacks 10) (map builtin_text f.builtins) _
    (All_map IsLegibleBuiltin (Lacks 10) builtin_text f.builtins (λ b j. lacks (builtin_text b) (builtin_one_line b j).bytes) h.builtins)
    (All-cons (Lacks 10) (codes "root " ++ f.root) (entry_lines 1 es) (lacks (codes "root " ++ f.root) (one_line-append (codes "root ") f.root refl (url f.root h.root).bytes)) (entries_lack 1 es k)))

-- All entries are legible of a legal history of which a journal can tell.
pub all_legible : (f : Frame) (es : List Entry) → IsLegibleFrame f → Legal (start f) es → IsLegibleHistory es → All IsLegibleEntry es
all_legible f es h legal k = λ i x lt. record {
  caller = k.callers i x lt;
  event = k.events i x lt;
  reply = replies_are_tellable f es (frame_is f h) legal (λ j y le. event_is _ (k.events j y le)) i x lt;
}

-- In a legal and legible history all replies have names alone.
pub all_named : (f : Frame) (es : List Entry) → IsLegibleFrame f → Legal (start f) es → IsLegibleHistory es → All (λ (e : Entry). IsNamedReply e.reply) es
all_named f es h legal k = replies_are_named f es (frame_is f h) legal (λ j y le. event_is _ (k.events j y le))

-- The lines of a journal of a legal history are read from before `journal` to their end.
reads_journal : (f : Frame) (es : List Entry) → IsLegibleFrame f → Legal (start (frame_of f.builtins f.root)) es → All IsLegibleEntry es → length es < 2 ^ 64 → ReadsAll before (journal_lines f es) (told (frame_of f.builtins f.root) es)
unfolding journal_lines
reads_journal f es h legal k few =
    let g : Frame = frame_of f.builtins f.root in (
      heads [],
      Reads.begins,
      reads-append (heads []) (heads f.builtins) (told g es) (map builtin_text f.builtins) ((codes "root " ++ f.root) ∷ entry_lines 1 es) (builtins_read [] f.builtins h.builtins)
          (told g [], Reads.root h.root, entries_read g [] es legal k few),
    )

-- A legible frame with the most room is the frame of its builtins and its root.
same_frame : (f : Frame) → IsLegibleFrame f → with_room (2 ^ 64 - 1) f ≡ frame_of f.builtins f.root
same_frame f h = ap (λ (n : ℕ). let g : Frame = record { root = f.root; builtins = f.builtins; limits = record { rows = n; entries = 2 ^ 64 - 1 } } in g) h.rows

-- The journal of a legal history is legal, whatever lines stand before it.
pub journals_are_legal : JournalsAreLegal
journals_are_legal prefix f es head_lines h legal k short =
    let g : Frame = frame_of f.builtins f.root in
    let entries : All IsLegibleEntry es = all_legible f es h legal k in
    let again : Legal (start g) es = subst (λ x. Legal (start x) es) (same_frame f h) (legal_whatever_room (2 ^ 64 - 1) f es legal).0 in
    let whole : prefix ++ journal_text f es ≡ flat_map line (head_lines.lines ++ journal_lines f es) =
    ap (λ t. t ++ journal_text f es) head_lines.whole ∙ ap (λ t. flat_map line head_lines.lines ++ t) (journal_by_lines f es) ∙ sym (flat_map-append head_lines.lines (journal_lines f es)) in
    let parted : lines_of (prefix ++ journal_text f es) ≡ head_lines.lines ++ journal_lines f es =
    ap lines_of whole ∙ lines_back (head_lines.lines ++ journal_lines f es) (All-append (Lacks 10) head_lines.lines (journal_lines f es) head_lines.clean (journal_lacks f es h entries)) in
    record {
      frame = g;
      entries = es;
      reads = subst (λ ts. ReadsAll before ts (told g es)) (sym parted) (reads-append before before (told g es) head_lines.lines (journal_lines f es) (skipped head_lines.lines head_lines.others) (reads_journal f es h again entries k.few));
      short = short;
      counts = refl;
    }
