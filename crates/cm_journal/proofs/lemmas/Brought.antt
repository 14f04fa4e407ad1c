-- What works bring.
use Rattle.std.proofs.Common.{◌≡◌, ℕ, ◌≤◌, length, List, [], ◌∷◌, Bool, true, false, cond, not, ◌&&◌, ◌==◌, nat_le, Some, None, Result, Ok, Err, All, IsTrue, IsFalse, refl, sym, subst, arith, rules}
use Rattle.std.specs.List.{list_all}
use Rattle.std.proofs.lemmas.Bool.{and_parts}
use Rattle.std.proofs.lemmas.List.Elements.{All-cons, All-nil}
use Rattle.cm_names.specs.Urls.{is_url_byte, is_url_text}
use Rattle.cm_names.specs.Steps.{◌>>=◌}
use Rattle.cm_decl.specs.declared.decl.Decl.{Decl}
use Rattle.cm_text.specs.Json.{json_of}
use Rattle.cm_read.specs.Manifest.{text_of, json_text, decl_of_json, decl_of_text, decl_of_bytes}
use Rattle.cm_read.specs.Readable.{IsReadable}
use Rattle.cm_read.proofs.lemmas.reading.DeclRead.{what_is_read_is_readable_lem}
use Rattle.cm_repo.specs.Urls.{absolute_of, key_of, url_on, text_of as url_text, joined_to, has_fragment, begins_with_hash}
use Rattle.cm_repo.specs.declared.fault.UrlFault.{UrlFault}
use Rattle.cm_repo.specs.declared.fault.UrlFault.TheVariants.{BadUrl, NoFragment}
use Rattle.url.specs.Parts.{Parts, serialize}
use Rattle.cm_world.specs.declared.action.ActKind.{ActKind}
use Rattle.cm_world.specs.declared.action.FaultNote.{FaultNote}
use Rattle.cm_world.specs.declared.action.Finish.{Finish}
use Rattle.cm_world.specs.declared.action.Finish.TheVariants as finish
use Rattle.cm_world.specs.declared.action.Work.{Work}
use Rattle.cm_world.specs.declared.event.Event.{Event}
use Rattle.cm_world.specs.declared.event.Event.TheVariants as event
use Rattle.cm_world.specs.declared.reply.Entry.{Entry}
use Rattle.cm_command.specs.Words.{IsUrlText}
use Rattle.cm_gate.specs.declared.asked.GateCall.{GateCall}
use Rattle.cm_gate.specs.declared.asked.Fetched.{Fetched}
use Rattle.cm_gate.specs.declared.asked.Launched.{Launched}
use Rattle.cm_gate.specs.declared.asked.Launched.TheVariants as launched
use Rattle.cm_gate.specs.declared.asked.Halted.{Halted}
use Rattle.cm_gate.specs.declared.asked.Halted.TheVariants as halted
use Rattle.cm_manager.specs.Work.{Judges, resolved_by, Manifests, FetchEnds, launch_ends, halt_ends, DoesWork, begins, is_end, Works, nothing, passes, ends}
use Rattle.cm_journal.specs.Made.{IsBrought, WorksBring}

-- ---- URLs

-- A text that passes as a URL is one.
text_is_url : (t : List ℕ) → is_url_text t ≡ true → IsUrlText t
text_is_url t h =
    let both = and_parts (not (length t == 0) && nat_le (length t) 4096) (list_all is_url_byte t) h in
    let prefix = and_parts (not (length t == 0)) (nat_le (length t) 4096) both.0 in
    record { some = some (length t) prefix.0; short = few (length t) prefix.1; bytes = each t both.1 }
  where
    some : (n : ℕ) → not (n == 0) ≡ true → 1 ≤ n
    some n e = grind (arith, rules)

    few : (n : ℕ) → nat_le n 4096 ≡ true → n ≤ 4096
    few n e = grind (arith, rules)

    each : (bs : List ℕ) → list_all is_url_byte bs ≡ true → All (λ b. IsTrue (is_url_byte b)) bs
    each [] e = All-nil (λ b. IsTrue (is_url_byte b))
    each (b ∷ bs) e = let both = and_parts (is_url_byte b) (list_all is_url_byte bs) e in All-cons (λ b. IsTrue (is_url_byte b)) b bs both.0 (each bs both.1)

-- ---- declarations

-- Where two steps go well one after the other, the first one does, and the second behind it.
then_ok : {A B E : Type 0} (r : Result A E) (next : A → Result B E) (y : B) → (r >>= next) ≡ Ok y → (x : A) × (next x ≡ Ok y)
then_ok (Ok x) next y e = (x, e)
then_ok (Err f) next y e = absurd (cc e)

-- A declaration that bytes are read as can be read back.
pub bytes_readable : (bytes : List ℕ) (d : Decl) → decl_of_bytes bytes ≡ Ok d → IsReadable d
bytes_readable bytes d e =
    let first = then_ok (text_of bytes) (λ t. decl_of_text t) d e in
    let second = then_ok (json_text (json_of first.0)) (λ j. decl_of_json j) d first.1 in
    what_is_read_is_readable_lem second.0 d second.1

-- A declaration that the bytes of a manifest are judged to be can be read back.
judged : (bytes : List ℕ) (d : Decl) → Judges bytes (Ok d) → IsReadable d
judged bytes d (Judges.valid read is) = bytes_readable bytes d read

-- ---- works

-- an end that brings a URL and a declaration
abbrev Brings : Finish → Type 0
Brings (finish.Resolved url d) = IsUrlText url × IsReadable d
Brings (finish.Other o) = Unit {0}

-- A URL that is written without a fault is a URL.
serialized : (b c : Bool) (t text : List ℕ) → is_url_text t ≡ b → cond {A = Result (List ℕ) UrlFault} b (cond c (Ok t) (Err NoFragment)) (Err BadUrl) ≡ Ok text → IsUrlText text
serialized true true t text is e = subst IsUrlText (cc e) (text_is_url t is)
serialized true false t text is e = absurd (cc e)
serialized false c t text is e = absurd (cc e)

-- The text of the parts of a URL, written without a fault, is a URL.
written : (u : Parts) (text : List ℕ) → url_text u ≡ Ok text → IsUrlText text
written u text e = serialized (is_url_text (serialize u)) (has_fragment u.fragment) (serialize u) text refl e

-- The key of a URL, found without a fault, is a URL.
key_is_url : (url text : List ℕ) → key_of url ≡ Ok text → IsUrlText text
unfolding key_of
key_is_url url text e = let step = then_ok (url_on None url) url_text text e in written step.0 text step.1

-- A relative URL joined to a base without a fault is a URL.
joined_is_url : (base url text : List ℕ) → joined_to base url ≡ Ok text → IsUrlText text
joined_is_url base url text e =
    let first = then_ok (url_on None base) (λ whole. url_on (Some whole) url >>= url_text) text e in
    let second = then_ok (url_on (Some first.0) url) url_text text first.1 in
    written second.0 text second.1

-- A URL that is joined to a base or taken as its key, without a fault, is a URL.
either_is_url : (b : Bool) (base url text : List ℕ) → cond b (joined_to base url) (key_of url) ≡ Ok text → IsUrlText text
either_is_url true base url text e = joined_is_url base url text e
either_is_url false base url text e = key_is_url url text e

-- An absolute URL that is made of a base and a URL, without a fault, is a URL.
absolute_is_url : (base url text : List ℕ) → absolute_of base url ≡ Ok text → IsUrlText text
unfolding absolute_of
absolute_is_url base url text e = either_is_url (begins_with_hash url) base url text e

-- The resolution of a URL by what its manifest is judged as brings what can be told.
resolved : (url bytes : List ℕ) (r : Result Decl FaultNote) → IsUrlText url → Judges bytes r → Brings (resolved_by url r)
resolved url bytes (Ok d) h j = (h, judged bytes d j)
resolved url bytes (Err note) h j = tt

-- The end of a fetch of a URL brings what can be told.
fetched_brings : (url : List ℕ) (a : Fetched) (end : Finish) → IsUrlText url → FetchEnds url a end → Brings end
fetched_brings url a end h (FetchEnds.found {bytes = bytes} {judged = r} j) = resolved url bytes r h j
fetched_brings url a end h FetchEnds.unread = tt
fetched_brings url a end h FetchEnds.absent = tt
fetched_brings url a end h FetchEnds.failed = tt
fetched_brings url a end h FetchEnds.no_memory = tt

-- The end of a launch brings what can be told.
launch_brings : (l : Launched) → Brings (launch_ends l)
launch_brings launched.Running = tt
launch_brings launched.Declined = tt
launch_brings launched.Failed = tt

-- The end of a halt brings what can be told.
halt_brings : (l : Halted) → Brings (halt_ends l)
halt_brings halted.Stopped = tt
halt_brings halted.Failed = tt

-- The end of the work of an action brings what can be told.
does_bring : (manifests : Manifests) (w : Work) (k : ActKind) (end : Finish) (asked : List GateCall) → DoesWork manifests w k end asked → Brings end
does_bring manifests w k end asked (DoesWork.no_url e) = tt
does_bring manifests w k end asked (DoesWork.kept {url = url} {bytes = bytes} {judged = r} e at j) = resolved url bytes r (absolute_is_url w.base w.url url e) j
does_bring manifests w k end asked (DoesWork.fetches {url = url} {answer = a} e at f) = fetched_brings url a end (absolute_is_url w.base w.url url e) f
does_bring manifests w k end asked DoesWork.wanting = tt
does_bring manifests w k end asked (DoesWork.starts e) = tt
does_bring manifests w k end asked (DoesWork.launches {answer = a} e) = launch_brings a
does_bring manifests w k end asked (DoesWork.stops e) = tt
does_bring manifests w k end asked (DoesWork.halts {answer = a} e) = halt_brings a

-- What the event of the entry has from a work can be told.
abbrev OfBrought : Entry → Type 0
OfBrought e = IsBrought e.event

-- The event of an end that brings what can be told can be told.
ended_brings : (e : Event) (a : ℕ) (f : Finish) → e ≡ event.End a f → Brings f → IsBrought e
ended_brings e a (finish.Resolved url d) same h = subst IsBrought (sym same) h
ended_brings e a (finish.Other o) same h = subst IsBrought (sym same) tt

-- An event that is no end has nothing from a work.
plain_brings : (e : Event) → IsFalse (is_end e) → IsBrought e
plain_brings (event.End a f) h = absurd (cc h)
plain_brings _ h = tt

-- An event that begins a work has nothing from a work.
begun_brings : (e : Event) (r : Rattle.cm_world.specs.declared.reply.Reply.Reply) (b : ActKind × Work) → begins e r ≡ Some b → IsBrought e
begun_brings (event.End a f) r b h = absurd (cc h)
begun_brings _ r b h = tt

-- What the works of a part's entries bring can be told.
works_bring : (manifests : Manifests) {part : List Entry} {asked : List GateCall} {n m : ℕ} → Works manifests part asked n m → All OfBrought part
works_bring manifests nothing = All-nil OfBrought
works_bring manifests (passes {e = e} {es = es} is apart rest) = All-cons OfBrought e es (plain_brings e.event apart) (works_bring manifests rest)
works_bring manifests (ends {e = e} {e' = e'} {es = es} {b = b} {now = now} is end rest) =
    All-cons OfBrought e (e' ∷ es) (begun_brings e.event e.reply b is)
    (All-cons OfBrought e' es (ended_brings e'.event b.1.action end.0 end.1 (does_bring manifests b.1 b.0 end.0 now end.2)) (works_bring manifests rest))

-- What the works of a caller's actions bring can be told.
pub works_bring_all : WorksBring
works_bring_all manifests part log₀ log₁ n m h = works_bring manifests h.works
