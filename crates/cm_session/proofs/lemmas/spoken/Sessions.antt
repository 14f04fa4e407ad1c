-- Lemmas on a session, step by step.
use Rattle.std.proofs.Common.{◌≡◌, ◌≢◌, ◌≤◌, ◌<◌, ◌⊎◌, inl, inr, ℕ, ◌+◌, Bool, true, false, List, [], ◌∷◌, ◌++◌, take, length, length-append, refl, ap, sym, ◌∙◌, subst, append_assoc, append-nil, true≢false, Option, Some, None, Result, Err, All, map, arith}
use Rattle.std.proofs.lemmas.List.{map-append}
use Rattle.std.specs.List.{AllZip}
use Rattle.std.proofs.lemmas.List.Concat.{flat_map-append}
use Rattle.std.proofs.lemmas.List.Elements.{All-append}
use Rattle.std.specs.Io.KnownBytes.{Appends, IsAtEnd}
use Rattle.std.proofs.KnownBytes.{Appends-trans, Consumes-nil, Consumes-trans, Appends-nil}
use Rattle.std.proofs.lemmas.Bool.{cases_Bool}
use Rattle.cm_facts.proofs.Lists.{All_one}
use Rattle.cm_io.specs.Lines.{Moves, lines}
use Rattle.cm_io.specs.LinesInside.{EndsOnce, IsFirstLine, Reader}
use Rattle.cm_io.specs.Orders.{MovesCame, InStep, Move, given_in, hung_up}
use Rattle.cm_io.specs.OrdersInside.{Pulled}
use Rattle.cm_io.specs.Outside.{AsSink, AsSource, Rose}
use Rattle.cm_io.specs.OutsideInside.{PutCause, PutsAll}
use Rattle.cm_io.proofs.lemmas.Ordering.{came-none, came-trans}
use Rattle.cm_io.specs.declared.output.Put.{Put}
use Rattle.cm_io.specs.declared.output.Put.TheVariants as put
use Rattle.cm_world.specs.declared.answer.Answer.{Answer}
use Rattle.cm_world.specs.declared.answer.Refusal.{Refusal}
use Rattle.cm_world.specs.declared.answer.Refusal.TheVariants as refusal
use Rattle.cm_command.specs.declared.command.Command.{Command}
use Rattle.cm_command.specs.declared.command.CommandFault.{CommandFault}
use Rattle.cm_command.specs.declared.command.CommandFault.TheVariants.{BadCommand, Memory as OutOfMemory}
use Rattle.cm_command.specs.Grammar.{CommandText, IsCommandFault}
use Rattle.cm_reply.specs.Lists.{TextBytes}
use Rattle.cm_reply.specs.Answers.{reply_text}
use Rattle.cm_reply.specs.Refusals.{refusal_text}
use Rattle.cm_reply.specs.Journal.{line}
use Rattle.cm_manager.specs.Asking.{frame_of}
use Rattle.cm_manager.specs.Calls.{Calls}
use Rattle.cm_manager.specs.Contract.{RealmPass, GatesView, IsWholeCall}
use Rattle.cm_manager.specs.Done.{PerformsCommands}
use Rattle.cm_manager.specs.Work.{Manifests}
use Rattle.cm_manager.proofs.lemmas.calling.Keeping.{keeps_helps}
use Rattle.cm_session.specs.declared.ended.Ended.{Ended}
use Rattle.cm_session.specs.declared.ended.Ended.TheVariants as ended
use Rattle.cm_session.specs.Links.{BeginsWithBytes, LinkView, whole_lines}
use Rattle.cm_session.specs.LinksInside.{GrowsByPrefix, Side, side_of, side_with}
use Rattle.cm_session.specs.LineOutcome.{LineOutcome, performed, bad, too_long, ReadsLine, reply_line, replies, done_of, HadMemory}
use Rattle.cm_session.specs.Session.{AreEnded, BreaksOff, FailedInLast, KeepsOrNot, Served, Session, SessionClosedBy, OutOfMemoryLast, Wrote, WroteUnlessFailed, most_lines, quit}
use Rattle.cm_session.specs.Steps.{AnsweredOrNot, IsSilent, LineDone, LineWrote, RepliesInOrder, ServedCommand, ServedLine, ServedOrNot, StepBy, Stepped}
use Rattle.cm_session.proofs.lemmas.spoken.Cutting.{Cut, cut-begins, cut-end, cut-ended, cut-ended-so-far, cut-fault, cut-more, cut-next, cut-none}
use Rattle.cm_session.proofs.lemmas.spoken.Order.{HasRead, InHand, has-read, in-hand-more, in-hand-none, moves_behind, moves_with, read-came, read-given, reply-came, reply-given, reply-in_step}
use Rattle.cm_session.proofs.lemmas.spoken.Kept.{GoesOn, does_as, goes_all, goes_more, goes_none, kept_same, kept_then}

-- ---- bytes and counts

-- A source moves by nothing to itself.
moves-none : (source : AsSource) → Moves source source []
moves-none source = (Consumes-nil source.left, Appends-nil source.given)

-- A source that moves by bytes and then by others moves by all of them.
moves-trans : (a b c : AsSource) (xs ys : TextBytes) → Moves a b xs → Moves b c ys → Moves a c (xs ++ ys)
moves-trans a b c xs ys h k = (Consumes-trans a.left b.left c.left xs ys h.0 k.0, Appends-trans a.given b.given c.given xs ys h.1 k.1)

-- A session that ends at the end of its input doesn't end by a fault of reading.
end-is-no-fault : ended.End ≡ ended.ReadFault → ⊥
end-is-no-fault e = cc

-- A session that ends by `quit` doesn't end by a fault of reading.
quit-is-no-fault : ended.Quit ≡ ended.ReadFault → ⊥
quit-is-no-fault e = cc

-- A session that ends by a fault of writing doesn't end by a fault of reading.
write-is-no-fault : ended.WriteFault ≡ ended.ReadFault → ⊥
write-is-no-fault e = cc

-- A session that ends for lack of memory doesn't end by a fault of reading.
memory-is-no-fault : ended.Memory ≡ ended.ReadFault → ⊥
memory-is-no-fault e = cc

-- A session that has spent its lines doesn't end by a fault of reading.
spent-is-no-fault : ended.LinesSpent ≡ ended.ReadFault → ⊥
spent-is-no-fault e = cc

-- A count that rose from a later number rose from an earlier one.
rose-later : (a b c : ℕ) → a ≤ b → Rose b c → Rose a c
rose-later a b c le rose = omega (arith, le, rose)

-- What was appended to a sink is so where the sink stayed as it was.
same-sink : (old : Option TextBytes) (now then : LinkView) (mid : Option (List Move)) (text : TextBytes) → Appends old now.sink.written text → side_of then ≡ side_with now mid → Appends old then.sink.written text
same-sink old now then mid text wrote same = subst (λ (s : Side). Appends old s.written text) (sym same) wrote

-- Lines that were taken are whole ones, or the end came behind them.
ended-by : (bytes : TextBytes) (done : List TextBytes) (over : Bool) (left : Option TextBytes) → (over ≡ true → IsAtEnd left) → BeginsWithBytes (whole_lines bytes) done ⊎ (over ≡ true) → AreEnded bytes done left
ended-by bytes done over left end (inl begins) = inl begins
ended-by bytes done over left end (inr is) = inr (end is)

-- ---- lists

-- What holds of all items and of one more holds of the list with it at its end.
all-push : {A : Type 0} (P : A → Type 0) (xs : List A) (x : A) → All P xs → P x → All P (xs ++ x ∷ [])
all-push P xs x all p = All-append P xs (x ∷ []) all (All_one P x p)

-- What holds of two lists item by item does so with one more at each end.
zip-push : {A B : Type 0} (R : A → B → Type 0) (xs : List A) (ys : List B) (x : A) (y : B) → AllZip R xs ys → R x y → AllZip R (xs ++ x ∷ []) (ys ++ y ∷ [])
zip-push R [] [] x y h r = (r, tt)
zip-push R [] (b ∷ ys) x y h r = absurd h
zip-push R (a ∷ xs) [] x y h r = absurd h
zip-push R (a ∷ xs) (b ∷ ys) x y h r = (h.0, zip-push R xs ys x y h.1 r)

-- ---- the replies that were written

-- The replies to lines with one more are the replies to them and the reply to that line.
replies-push : (xs : List LineOutcome) (t : LineOutcome) → replies (xs ++ t ∷ []) ≡ replies xs ++ reply_line t
replies-push xs t = flat_map-append reply_line xs (t ∷ []) ∙ ap (λ (l : TextBytes). replies xs ++ l) (append-nil (reply_line t))

-- All of the earlier replies and all of the next one are all replies.
writes-more : (a b c : Option TextBytes) (told : List LineOutcome) (t : LineOutcome) → Appends a b (replies told) → Appends b c (reply_line t) → Appends a c (replies (told ++ t ∷ []))
writes-more a b c told t before reply = subst (Appends a c) (sym (replies-push told t)) (Appends-trans a b c (replies told) (reply_line t) before reply)

-- all of the earlier replies and a prefix of the next one
breaks-off : (a b c : Option TextBytes) (told : List LineOutcome) (t : LineOutcome) → Appends a b (replies told) → GrowsByPrefix b c (reply_line t) → BreaksOff a c (told ++ t ∷ [])
breaks-off a b c told t h (n, k) = record { before = told; last = t; all = refl; count = n; wrote = Appends-trans a b c (replies told) (take n (reply_line t)) h k }

-- The replies break off in the last one, where those before it were written and the sink failed in it.
failed-in-last : (old now then : AsSink) (told : List LineOutcome) (t : LineOutcome) → Appends old.written now.written (replies told) → now.faults ≡ old.faults
    → GrowsByPrefix now.written then.written (reply_line t) × Rose now.faults then.faults → FailedInLast old then (told ++ t ∷ [])
failed-in-last old now then told t before same part =
    (breaks-off old.written now.written then.written told t before part.0, subst (λ (m : ℕ). Rose m then.faults) same part.1)

-- The replies were written unless the sink failed in the last one, where those before it were and it was.
unless-failed : (old now then : AsSink) (told : List LineOutcome) (t : LineOutcome) → Appends old.written now.written (replies told) → now.faults ≡ old.faults
    → Appends now.written then.written (reply_line t) ⊎ (GrowsByPrefix now.written then.written (reply_line t) × Rose now.faults then.faults) → WroteUnlessFailed old then (told ++ t ∷ [])
unless-failed old now then told t before same (inl all) = inl (writes-more old.written now.written then.written told t before all)
unless-failed old now then told t before same (inr part) = inr (failed-in-last old now then told t before same part)

-- ---- the lines that had memory

-- no line was answered for lack of memory, so none but the last was
none-wants : (told : List LineOutcome) → All HadMemory told → OutOfMemoryLast told
none-wants told none = record { before = told; last = []; told_are = sym (append-nil told); one = omega arith; had_memory = none }

-- Where each line but the last had its memory, a lack of memory comes last.
last-wants : (told : List LineOutcome) (t : LineOutcome) → All HadMemory told → OutOfMemoryLast (told ++ t ∷ [])
last-wants told t none = record { before = told; last = t ∷ []; told_are = refl; one = omega arith; had_memory = none }

-- ---- what a session has done so far, in n lines

-- What a session has done so far, in this many lines.
pub record Going (manifests : Manifests) (p q : RealmPass) (g h : GatesView) (old now : LinkView) (reader : Reader) (n : ℕ) : Type 0 where
  pub keeps : KeepsOrNot manifests p q g h
  pub bytes : TextBytes
  pub gave : Moves old.source now.source bytes
  pub later : old.source.faults ≤ now.source.faults
  pub end : reader.over ≡ true → IsAtEnd now.source.left
  pub lines_done : List TextBytes
  pub cut : Cut bytes reader lines_done
  pub count : length lines_done ≡ n
  pub told : List LineOutcome
  pub reads : AllZip ReadsLine lines_done told
  pub no_quit : All (λ (t : TextBytes). t ≢ quit) lines_done
  pub goes_on : GoesOn (frame_of p) p.caller (done_of told) p.seen q.seen
  pub wrote : Appends old.sink.written now.sink.written (replies told)
  pub unfailed : now.sink.faults ≡ old.sink.faults
  pub had_memory : All HadMemory told
  pub moves : List Move
  pub came_by : MovesCame old.order now.order moves
  pub in_hand : InHand (map reply_line told) moves bytes reader

-- the end is known, once it came
end-more : (before after : Reader) (old new : AsSource) (given : TextBytes) → (before.over ≡ true → IsAtEnd old.left) → EndsOnce before after old new given
    → after.over ≡ true → IsAtEnd new.left
end-more before after old new given end once over =
    elim (cases_Bool before.over) [
      | inl was ↦ subst (λ (s : AsSource). IsAtEnd s.left) (sym (once.still was).2) (end was)
      | inr not ↦ once.comes not over
    ]

-- A session that served no line so far is going on, where its reader holds nothing and isn't over.
pub going-none : (manifests : Manifests) (p : RealmPass) (g : GatesView) (link : LinkView) (reader : Reader) → reader.held ≡ [] → reader.over ≡ false → Going manifests p p g g link link reader 0
going-none manifests p g link reader none not = record {
  keeps = kept_same manifests p g;
  bytes = [];
  gave = moves-none link.source;
  later = omega arith;
  end = λ over. absurd (true≢false (sym over ∙ not));
  lines_done = [];
  cut = cut-none reader none;
  count = refl;
  told = [];
  reads = tt;
  no_quit = λ k d lt. absurd (omega arith);
  goes_on = goes_none (frame_of p) p.caller p.seen;
  wrote = Appends-nil link.sink.written;
  unfailed = refl;
  had_memory = λ k d lt. absurd (omega arith);
  moves = [];
  came_by = came-none link.order;
  in_hand = in-hand-none reader none;
}

-- What a step of a session read comes behind the moves before, and is what it was given.
reads-of : (manifests : Manifests) (p q r : RealmPass) (g h k : GatesView) (old now then : LinkView) (before after : Reader) (n : ℕ) (e : Option Ended)
    → (go : Going manifests p q g h old now before n) → (s : Stepped manifests q r h k before after now then e) → HasRead (map reply_line go.told) go.moves now.order s.mid s.given
reads-of manifests p q r g h k old now then before after n e go s =
    has-read (map reply_line go.told) go.moves go.bytes s.given before now.order s.mid go.in_hand s.pulled s.still (λ over. (s.once.still over).0)

-- A session goes on with one line more served, where its step has no end.
pub going-more : (manifests : Manifests) (p q r : RealmPass) (g h k : GatesView) (old now then : LinkView) (before after : Reader) (n : ℕ)
    → Going manifests p q g h old now before n → Stepped manifests q r h k before after now then None → Going manifests p r g k old then after (n + 1)
going-more manifests p q r g h k old now then before after n go s =
    let l = s.by in
    let v = l.served in
    let rs = map reply_line go.told in
    let read = reads-of manifests p q r g h k old now then before after n None go s in record {
      keeps = kept_then manifests p q r g h k go.keeps v.keeps;
      bytes = go.bytes ++ s.given;
      gave = moves-trans old.source now.source then.source go.bytes s.given go.gave s.gave;
      later = omega (arith, go.later, s.later);
      end = end-more before after now.source then.source s.given go.end s.once;
      lines_done = go.lines_done ++ l.line ∷ [];
      cut = cut-more go.bytes s.given before after go.lines_done l.line go.cut (λ over. (s.once.still over).0) l.first;
      count = length-append go.lines_done (l.line ∷ []) ∙ ap (λ (m : ℕ). m + 1) go.count;
      told = go.told ++ v.told ∷ [];
      reads = zip-push ReadsLine go.lines_done go.told l.line v.told go.reads v.reads;
      no_quit = all-push (λ (t : TextBytes). t ≢ quit) go.lines_done l.line go.no_quit l.other;
      goes_on = goes_more (frame_of p) p.caller go.told v.told p.seen q.seen r.seen go.goes_on (does_as manifests p q r g h v.told go.keeps v.does);
      wrote = writes-more old.sink.written now.sink.written then.sink.written go.told v.told go.wrote v.wrote.0;
      unfailed = v.wrote.1 ∙ go.unfailed;
      had_memory = all-push HadMemory go.told v.told go.had_memory v.wrote.2;
      moves = moves_with rs go.moves now.order s.mid then.order s.given (reply_line v.told) None read v.ordered;
      came_by = reply-came rs go.moves old.order now.order s.mid then.order s.given (reply_line v.told) None read v.ordered go.came_by;
      in_hand = subst (λ (l : List TextBytes). InHand l (moves_with rs go.moves now.order s.mid then.order s.given (reply_line v.told) None read v.ordered) (go.bytes ++ s.given) after)
          (sym (map-append reply_line go.told (v.told ∷ [])))
          (in-hand-more rs go.moves go.bytes before after now.order s.mid then.order s.given l.line (reply_line v.told) read v.ordered go.in_hand (λ over. (s.once.still over).1) l.first);
    }

-- ---- the end

-- what comes of a session that ends with a line
with-line : (manifests : Manifests) (p q r : RealmPass) (g h k : GatesView) (old now then : LinkView) (before after : Reader) (n : ℕ) (e : Ended)
    → (go : Going manifests p q g h old now before n) → (s : Stepped manifests q r h k before after now then (Some e)) → (l : LineDone manifests q r h k (before.held ++ s.given) after (side_with now s.mid) (side_of then) (Some e))
    → ((bytes : TextBytes) (lines_done : List TextBytes) (left : Option TextBytes) → BeginsWithBytes (lines bytes) lines_done → Served e bytes lines_done left)
    → Wrote e old.sink then.sink (go.told ++ l.served.told ∷ []) → (e ≢ ended.Memory → HadMemory l.served.told) → (e ≡ ended.ReadFault → ⊥) → n < most_lines
    → SessionClosedBy [] manifests p r g k old then e
with-line manifests p q r g h k old now then before after n e go s l served wrote want none lt =
    let v = l.served in
    let count : length (go.lines_done ++ l.line ∷ []) ≡ n + 1 = length-append go.lines_done (l.line ∷ []) ∙ ap (λ (m : ℕ). m + 1) go.count in
    let next = cut-next go.bytes s.given before after go.lines_done l.line go.cut (λ over. (s.once.still over).0) l.first in
    let rs = map reply_line go.told in
    let read = reads-of manifests p q r g h k old now then before after n (Some e) go s in
    let moves = moves_with rs go.moves now.order s.mid then.order s.given (reply_line v.told) (Some e) read v.ordered in
    record {
      keeps = kept_then manifests p q r g h k go.keeps v.keeps;
      bytes = go.bytes ++ s.given;
      gave = moves-trans old.source now.source then.source go.bytes s.given go.gave s.gave;
      lines_done = go.lines_done ++ l.line ∷ [];
      few = omega (arith, lt, count);
      told = go.told ++ v.told ∷ [];
      reads = zip-push ReadsLine go.lines_done go.told l.line v.told go.reads v.reads;
      no_quit = all-push (λ (t : TextBytes). t ≢ quit) go.lines_done l.line go.no_quit l.other;
      served = served (go.bytes ++ s.given) (go.lines_done ++ l.line ∷ []) then.source.left (next.0, next.1 ∙ sym (append_assoc go.lines_done (l.line ∷ []) next.0));
      follows = goes_all (frame_of p) p.caller (done_of (go.told ++ v.told ∷ [])) p.seen r.seen
          (goes_more (frame_of p) p.caller go.told v.told p.seen q.seen r.seen go.goes_on (does_as manifests p q r g h v.told go.keeps v.does));
      ended_lines = ended-by (go.bytes ++ s.given) (go.lines_done ++ l.line ∷ []) after.over then.source.left (end-more before after now.source then.source s.given go.end s.once)
          (cut-ended-so-far (go.bytes ++ s.given) after (go.lines_done ++ l.line ∷ []) (cut-more go.bytes s.given before after go.lines_done l.line go.cut (λ over. (s.once.still over).0) l.first));
      wrote = wrote;
      had_memory = λ other. all-push HadMemory go.told v.told go.had_memory (want other);
      out_of_memory_last = last-wants go.told v.told go.had_memory;
      read_fault = λ fault. absurd (none fault);
      moves = moves;
      in_step = subst (λ (l : List TextBytes). InStep l moves) (sym (map-append reply_line go.told (v.told ∷ []))) (reply-in_step rs go.moves now.order s.mid then.order s.given (reply_line v.told) (Some e) read v.ordered);
      reads_are = reply-given rs go.moves go.bytes now.order s.mid then.order s.given (reply_line v.told) (Some e) read v.ordered go.in_hand.given;
      came = subst (MovesCame old.order then.order) (sym (append-nil moves)) (reply-came rs go.moves old.order now.order s.mid then.order s.given (reply_line v.told) (Some e) read v.ordered go.came_by);
    }

-- what comes of a session that ends without a line
without-line : (manifests : Manifests) (p q r : RealmPass) (g h k : GatesView) (old now then : LinkView) (before after : Reader) (n : ℕ) (e : Ended)
    → (go : Going manifests p q g h old now before n) → (s : Stepped manifests q r h k before after now then (Some e)) → IsSilent q r h k (side_with now s.mid) (side_of then)
    → Served e (go.bytes ++ s.given) go.lines_done then.source.left → Wrote e old.sink then.sink go.told
    → (e ≡ ended.ReadFault → Rose now.source.faults then.source.faults) → n < most_lines → SessionClosedBy [] manifests p r g k old then e
without-line manifests p q r g h k old now then before after n e go s silent served wrote fault lt =
    let rs = map reply_line go.told in
    let read = reads-of manifests p q r g h k old now then before after n (Some e) go s in
    let moves = moves_behind rs go.moves now.order s.mid s.given read in
    record {
      keeps = kept_then manifests p q r g h k go.keeps (inl (silent.pass, silent.gates));
      bytes = go.bytes ++ s.given;
      gave = moves-trans old.source now.source then.source go.bytes s.given go.gave s.gave;
      lines_done = go.lines_done;
      few = omega (arith, lt, go.count);
      told = go.told;
      reads = go.reads;
      no_quit = go.no_quit;
      served = served;
      ended_lines = ended-by (go.bytes ++ s.given) go.lines_done before.over then.source.left (λ over. subst (λ (x : AsSource). IsAtEnd x.left) (sym (s.once.still over).2) (go.end over))
          (cut-ended go.bytes s.given before go.lines_done go.cut);
      follows = subst (λ (x : RealmPass). PerformsCommands (frame_of p) p.caller (done_of go.told) p.seen x.seen) (sym silent.pass) (goes_all (frame_of p) p.caller (done_of go.told) p.seen q.seen go.goes_on);
      wrote = wrote;
      had_memory = λ other. go.had_memory;
      out_of_memory_last = none-wants go.told go.had_memory;
      read_fault = λ is. rose-later old.source.faults now.source.faults then.source.faults go.later (fault is);
      moves = moves;
      in_step = read.in_step;
      reads_are = read-given rs go.moves go.bytes s.given now.order s.mid read go.in_hand.given;
      came = subst (MovesCame old.order then.order) (sym (append-nil moves))
          (subst (λ (x : Side). MovesCame old.order x.order moves) (sym silent.sink) (read-came rs go.moves s.given old.order now.order s.mid read go.came_by));
    }

-- The lines of a session were served, where it was going on and its step ended it.
pub going-ends : (manifests : Manifests) (p q r : RealmPass) (g h k : GatesView) (old now then : LinkView) (before after : Reader) (n : ℕ) (e : Ended)
    → Going manifests p q g h old now before n → n < most_lines → Stepped manifests q r h k before after now then (Some e) → SessionClosedBy [] manifests p r g k old then e
going-ends manifests p q r g h k old now then before after n ended.End go lt s =
    let few : length go.lines_done < most_lines = omega (arith, lt, go.count) in
    without-line manifests p q r g h k old now then before after n ended.End go s s.by.2
    (cut-end go.bytes s.given before go.lines_done go.cut s.by.0, few, end-more before after now.source then.source s.given go.end s.once s.by.1)
    (same-sink old.sink.written now then s.mid (replies go.told) go.wrote s.by.2.sink)
    (λ is. absurd (end-is-no-fault is)) lt
going-ends manifests p q r g h k old now then before after n ended.Quit go lt s =
    let few : length go.lines_done < most_lines = omega (arith, lt, go.count) in
    let next = cut-next go.bytes s.given before after go.lines_done quit go.cut (λ over. (s.once.still over).0) s.by.0 in
    without-line manifests p q r g h k old now then before after n ended.Quit go s s.by.1 (
      next.0,
      next.1,
      few,
      ended-by (go.bytes ++ s.given) (go.lines_done ++ quit ∷ []) after.over then.source.left (end-more before after now.source then.source s.given go.end s.once)
          (cut-ended-so-far (go.bytes ++ s.given) after (go.lines_done ++ quit ∷ []) (cut-more go.bytes s.given before after go.lines_done quit go.cut (λ over. (s.once.still over).0) s.by.0)),
    )
    (same-sink old.sink.written now then s.mid (replies go.told) go.wrote s.by.1.sink)
    (λ is. absurd (quit-is-no-fault is)) lt
going-ends manifests p q r g h k old now then before after n ended.ReadFault go lt s =
    without-line manifests p q r g h k old now then before after n ended.ReadFault go s s.by.2
    (cut-begins go.bytes s.given before go.lines_done go.cut (λ over. (s.once.still over).0), cut-fault go.bytes s.given before go.lines_done go.cut (λ over. (s.once.still over).0) s.by.0)
    (same-sink old.sink.written now then s.mid (replies go.told) go.wrote s.by.2.sink)
    (λ is. s.by.1) lt
going-ends manifests p q r g h k old now then before after n ended.WriteFault go lt s =
    let l = s.by in
    with-line manifests p q r g h k old now then before after n ended.WriteFault go s l (λ bytes ls left begins. begins)
    (failed-in-last old.sink now.sink then.sink go.told l.served.told go.wrote go.unfailed (l.served.wrote.0, l.served.wrote.1))
    (λ other. l.served.wrote.2) write-is-no-fault lt
going-ends manifests p q r g h k old now then before after n ended.LinesSpent go lt s = absurd s.by
going-ends manifests p q r g h k old now then before after n ended.Memory go lt s =
    elim s.by [
      | inl silent ↦ without-line manifests p q r g h k old now then before after n ended.Memory go s silent
          (cut-begins go.bytes s.given before go.lines_done go.cut (λ over. (s.once.still over).0))
          (inl (same-sink old.sink.written now then s.mid (replies go.told) go.wrote silent.sink))
          (λ is. absurd (memory-is-no-fault is)) lt
      | inr l ↦ with-line manifests p q r g h k old now then before after n ended.Memory go s l (λ bytes ls left begins. begins)
          (unless-failed old.sink now.sink then.sink go.told l.served.told go.wrote go.unfailed l.served.wrote)
          (λ other. absurd (other refl)) memory-is-no-fault lt
    ]

-- The lines of a session were served, where as many were as it serves at most.
pub going-spent : (manifests : Manifests) (p q : RealmPass) (g h : GatesView) (old now : LinkView) (reader : Reader) (n : ℕ) → n ≡ most_lines → Going manifests p q g h old now reader n → SessionClosedBy [] manifests p q g h old now ended.LinesSpent
going-spent manifests p q g h old now reader n all go = record {
  keeps = go.keeps;
  bytes = go.bytes;
  gave = go.gave;
  lines_done = go.lines_done;
  few = omega (arith, all, go.count);
  told = go.told;
  reads = go.reads;
  no_quit = go.no_quit;
  served = (subst (λ (b : TextBytes). BeginsWithBytes (lines b) go.lines_done) (append-nil go.bytes) (cut-begins go.bytes [] reader go.lines_done go.cut (λ over. refl)), go.count ∙ all);
  ended_lines = ended-by go.bytes go.lines_done reader.over now.source.left go.end (cut-ended-so-far go.bytes reader go.lines_done go.cut);
  follows = goes_all (frame_of p) p.caller (done_of go.told) p.seen q.seen go.goes_on;
  wrote = go.wrote;
  had_memory = λ other. go.had_memory;
  out_of_memory_last = none-wants go.told go.had_memory;
  read_fault = λ is. absurd (spent-is-no-fault is);
  moves = go.moves;
  in_step = go.in_hand.in_step;
  reads_are = go.in_hand.given;
  came = subst (MovesCame old.order now.order) (sym (append-nil go.moves)) go.came_by;
}

-- nothing was done, for lack of memory
pub session-none : (manifests : Manifests) (p : RealmPass) (g : GatesView) (link : LinkView) → SessionClosedBy [] manifests p p g g link link ended.Memory
session-none manifests p g link = record {
  keeps = kept_same manifests p g;
  bytes = [];
  gave = moves-none link.source;
  lines_done = [];
  few = omega arith;
  told = [];
  reads = tt;
  no_quit = λ k d lt. absurd (omega arith);
  served = (lines [], refl);
  ended_lines = inl (whole_lines [], refl);
  follows = goes_all (frame_of p) p.caller (done_of []) p.seen p.seen (goes_none (frame_of p) p.caller p.seen);
  wrote = inl (Appends-nil link.sink.written);
  had_memory = λ other. absurd (other refl);
  out_of_memory_last = none-wants [] (λ k d lt. absurd (omega arith));
  read_fault = λ is. absurd (memory-is-no-fault is);
  moves = [];
  in_step = InStep.begun;
  reads_are = refl;
  came = came-none link.order;
}

-- what a link tells of its bytes stays as it is when it is hung up on, and that is one move
session-same : (manifests : Manifests) (p q : RealmPass) (g h : GatesView) (old mid new : LinkView) (end : Ended) → new.source ≡ mid.source → new.sink ≡ mid.sink
    → SessionClosedBy [] manifests p q g h old mid end → SessionClosedBy [] manifests p q g h old (record { source = new.source; sink = new.sink; order = mid.order }) end
session-same manifests p q g h old mid new end source sink s =
    subst (λ (x : LinkView). SessionClosedBy [] manifests p q g h old x end) (λ i. record { source = sym source i; sink = sym sink i; order = mid.order }) s

-- It is a whole session where its lines were served and its link was then hung up on.
pub session-over : (manifests : Manifests) (p q : RealmPass) (g h : GatesView) (old mid new : LinkView) (end : Ended) → new.source ≡ mid.source → new.sink ≡ mid.sink
    → MovesCame mid.order new.order (hung_up ∷ []) → SessionClosedBy [] manifests p q g h old mid end → Session manifests p q g h old new end
session-over manifests p q g h old mid new end source sink hung before =
    let s = session-same manifests p q g h old mid new end source sink before in
    record {
      keeps = s.keeps;
      bytes = s.bytes;
      gave = s.gave;
      lines_done = s.lines_done;
      few = s.few;
      told = s.told;
      reads = s.reads;
      no_quit = s.no_quit;
      served = s.served;
      ended_lines = s.ended_lines;
      follows = s.follows;
      wrote = s.wrote;
      had_memory = s.had_memory;
      out_of_memory_last = s.out_of_memory_last;
      read_fault = s.read_fault;
      moves = s.moves;
      in_step = s.in_step;
      reads_are = s.reads_are;
      came = subst (MovesCame old.order new.order) (append_assoc s.moves [] (hung_up ∷ [])) (came-trans old.order mid.order new.order (s.moves ++ []) (hung_up ∷ []) s.came hung);
    }

-- ---- one reply

-- What was put is the whole text, or a prefix of it, and then the sink's count of faults rose.
pub put-unless-failed : (a b : Option TextBytes) (m n : ℕ) (text : TextBytes) (p : Put) → PutsAll a b text p → PutCause m n p → Appends a b text ⊎ (GrowsByPrefix a b text × Rose m n)
put-unless-failed a b m n text put.Done puts cause = inl puts
put-unless-failed a b m n text (put.WriteFault k) puts cause = inr ((k, puts.1), omega (arith, cause.1))

-- a reply that says so much tells what follows of it
pub wrote-as : (V W : Type 0) (end : Option Ended) (old new : Side) (text : TextBytes) → (V → W) → LineWrote end old new text V → LineWrote end old new text W
wrote-as V W None old new text f w = (w.0, w.1, f w.2)
wrote-as V W (Some ended.WriteFault) old new text f w = (w.0, w.1, f w.2)
wrote-as V W (Some ended.Memory) old new text f w = w
wrote-as V W (Some ended.End) old new text f w = absurd w
wrote-as V W (Some ended.Quit) old new text f w = absurd w
wrote-as V W (Some ended.ReadFault) old new text f w = absurd w
wrote-as V W (Some ended.LinesSpent) old new text f w = absurd w

-- ---- one line

-- a command was performed, and its reply was put
pub command-put : (manifests : Manifests) (p q : RealmPass) (g h : GatesView) (command : Command) (answer : Result Answer Refusal) (old new : Side) (end : Option Ended) (text : TextBytes) (wanting : Bool)
    → IsWholeCall manifests (frame_of p) command p q g h answer → (wanting ≡ false → answer ≢ Err refusal.Memory) → text ≡ line (reply_text command answer)
    → LineWrote end old new text (wanting ≡ false) → RepliesInOrder end old.order new.order text → ServedCommand manifests p q g h command old new end
command-put manifests p q g h command answer old new end text wanting way want is wrote ordered = record {
  answer = answer;
  keeps = keeps_helps manifests (frame_of p) (λ a b. Calls (frame_of p) p.caller command a b answer) p q g h way;
  goes = inl way.way;
  wrote = wrote-as (wanting ≡ false) (answer ≢ Err refusal.Memory) end old new (line (reply_text command answer)) want
      (subst (λ (t : TextBytes). LineWrote end old new t (wanting ≡ false)) is wrote);
  ordered = subst (λ (t : TextBytes). RepliesInOrder end old.order new.order t) is ordered;
}

-- a command was performed, and its answer is lost, since memory ran out for the reply
pub command-lost : (manifests : Manifests) (p q : RealmPass) (g h : GatesView) (command : Command) (answer : Result Answer Refusal) (old new : Side) (end : Option Ended)
    → IsWholeCall manifests (frame_of p) command p q g h answer
    → LineWrote end old new (line (refusal_text refusal.Memory)) (true ≡ false) → RepliesInOrder end old.order new.order (line (refusal_text refusal.Memory)) → ServedCommand manifests p q g h command old new end
command-lost manifests p q g h command answer old new end way wrote ordered = record {
  answer = Err refusal.Memory;
  keeps = keeps_helps manifests (frame_of p) (λ a b. Calls (frame_of p) p.caller command a b answer) p q g h way;
  goes = inr (refl, (answer, way.way));
  wrote = wrote-as (true ≡ false) (Err refusal.Memory ≢ Err refusal.Memory) end old new (line (refusal_text refusal.Memory)) (λ is. absurd (true≢false is)) wrote;
  ordered = ordered;
}

-- a line with a command was served
pub line-command : (manifests : Manifests) (p q : RealmPass) (g h : GatesView) (t : TextBytes) (command : Command) (old new : Side) (end : Option Ended)
    → length t ≤ 65536 → CommandText t command → ServedCommand manifests p q g h command old new end → ServedOrNot manifests p q g h t old new end
line-command manifests p q g h t command old new end short is s = inl (record {
  told = performed (record { command = command; result = s.answer });
  reads = (short, is);
  keeps = inr s.keeps;
  does = s.goes;
  wrote = s.wrote;
  ordered = s.ordered;
})

-- A command that is a bad one isn't a lack of memory.
bad-is-no-want : (n : ℕ) → BadCommand n ≡ OutOfMemory → ⊥
bad-is-no-want n e = cc

-- the fault of a line that is no command, where that isn't lack of memory
pub bad-fault : (t : TextBytes) (fault : CommandFault) (at : ℕ) → fault ≡ BadCommand at → (fault ≢ OutOfMemory → IsCommandFault t fault) → IsCommandFault t (BadCommand at)
bad-fault t fault at is of = subst (λ (x : CommandFault). IsCommandFault t x) is (of (λ e. bad-is-no-want at (sym is ∙ e)))

-- a line that is no command was answered, or nothing was done for lack of memory
pub line-bad : (manifests : Manifests) (p : RealmPass) (g : GatesView) (t : TextBytes) (at : ℕ) (old new : Side) (end : Option Ended)
    → length t ≤ 65536 → IsCommandFault t (BadCommand at) → AnsweredOrNot old new (reply_line (bad at)) end → ServedOrNot manifests p p g g t old new end
line-bad manifests p g t at old new end short is (inr (wants, same)) = inr (wants, record { pass = refl; gates = refl; sink = same })
line-bad manifests p g t at old new end short is (inl (wrote, ordered)) = inl (record {
  told = bad at;
  reads = (short, is);
  keeps = kept_same manifests p g;
  does = refl;
  wrote = wrote-as (false ≡ false) (HadMemory (bad at)) end old new (reply_line (bad at)) (λ same. tt) wrote;
  ordered = ordered;
})

-- ---- one step

-- A step of a session that took a line and served it is one that ends as the line does.
step-by : (manifests : Manifests) (p q : RealmPass) (g h : GatesView) (taken : TextBytes) (reader : Reader) (old : LinkView) (mid : Option (List Move)) (new : LinkView) (end : Option Ended)
    → LineDone manifests p q g h taken reader (side_with old mid) (side_of new) end → StepBy manifests p q g h taken reader old mid new end
step-by manifests p q g h taken reader old mid new None l = l
step-by manifests p q g h taken reader old mid new (Some ended.WriteFault) l = l
step-by manifests p q g h taken reader old mid new (Some ended.Memory) l = inr l
step-by manifests p q g h taken reader old mid new (Some ended.End) l = absurd l.served.wrote
step-by manifests p q g h taken reader old mid new (Some ended.Quit) l = absurd l.served.wrote
step-by manifests p q g h taken reader old mid new (Some ended.ReadFault) l = absurd l.served.wrote
step-by manifests p q g h taken reader old mid new (Some ended.LinesSpent) l = absurd l.served.wrote

-- A step that took a line which isn't `quit`, served or not for lack of memory, ends so.
step-or : (manifests : Manifests) (p q : RealmPass) (g h : GatesView) (taken line : TextBytes) (reader : Reader) (old : LinkView) (mid : Option (List Move)) (new : LinkView) (end : Option Ended)
    → IsFirstLine taken reader line → (line ≡ quit → ⊥) → ServedOrNot manifests p q g h line (side_with old mid) (side_of new) end → StepBy manifests p q g h taken reader old mid new end
step-or manifests p q g h taken line reader old mid new end first other (inl v) =
    step-by manifests p q g h taken reader old mid new end (record { line = line; first = first; other = other; served = v })
step-or manifests p q g h taken line reader old mid new end first other (inr (is, silent)) =
    subst (λ (x : Option Ended). StepBy manifests p q g h taken reader old mid new x) (sym is) (inl silent)

-- what the line reader did: the link was `old` before it and is `new` behind it
pub record Took (before after : Reader) (old new : LinkView) (given : TextBytes) : Type 0 where
  pub gave : Moves old.source new.source given
  pub later : old.source.faults ≤ new.source.faults
  pub once : EndsOnce before after old.source new.source given
  pub same : new.sink ≡ old.sink
  pub pulled : Pulled old.order new.order before.held given
  pub still : before.over ≡ true → new.order ≡ old.order

-- a line was taken, and then it was served
pub line-step : (manifests : Manifests) (p q : RealmPass) (g h : GatesView) (before after : Reader) (old mid new : LinkView) (line given : TextBytes) (end : Option Ended)
    → Took before after old mid given
    → IsFirstLine (before.held ++ given) after line → (line ≡ quit → ⊥) → ServedOrNot manifests p q g h line (side_of mid) (side_of new) end → new.source ≡ mid.source
    → Stepped manifests p q g h before after old new end
line-step manifests p q g h before after old mid new line given end took first other v source = record {
  given = given;
  gave = subst (λ (x : AsSource). Moves old.source x given) (sym source) took.gave;
  later = subst (λ (x : AsSource). old.source.faults ≤ x.faults) (sym source) took.later;
  once = subst (λ (x : AsSource). EndsOnce before after old.source x given) (sym source) took.once;
  mid = mid.order;
  pulled = took.pulled;
  still = took.still;
  by = step-or manifests p q g h (before.held ++ given) line after old mid.order new end first other
      (subst (λ (x : AsSink). ServedOrNot manifests p q g h line (record { written = x.written; faults = x.faults; order = mid.order }) (side_of new) end) took.same v);
}

-- A step at which no line was served does nothing but read.
pub silent-step : (manifests : Manifests) (p : RealmPass) (g : GatesView) (before after : Reader) (old new : LinkView) (given : TextBytes) (end : Option Ended)
    → Took before after old new given
    → (IsSilent p p g g (side_with old new.order) (side_of new) → StepBy manifests p p g g (before.held ++ given) after old new.order new end) → Stepped manifests p p g g before after old new end
silent-step manifests p g before after old new given end took by = record {
  given = given;
  gave = took.gave;
  later = took.later;
  once = took.once;
  mid = new.order;
  pulled = took.pulled;
  still = took.still;
  by = by (record { pass = refl; gates = refl; sink = λ i. record { written = (took.same i).written; faults = (took.same i).faults; order = new.order } });
}

-- the line that ends the session was taken
pub quit-step : (manifests : Manifests) (p : RealmPass) (g : GatesView) (before after : Reader) (old new : LinkView) (line given : TextBytes)
    → Took before after old new given
    → IsFirstLine (before.held ++ given) after line → line ≡ quit → Stepped manifests p p g g before after old new (Some ended.Quit)
quit-step manifests p g before after old new line given took first is =
    silent-step manifests p g before after old new given (Some ended.Quit) took (λ silent. (subst (λ (t : TextBytes). IsFirstLine (before.held ++ given) after t) is first, silent))

-- a line that is too long isn't the one that ends the session
long-is-no-quit : (line : TextBytes) → 65536 < length line → line ≡ quit → ⊥
long-is-no-quit line long is = absurd (omega (arith, long, ap length is))

-- a line that is too long was served
served-long : (manifests : Manifests) (p : RealmPass) (g : GatesView) (line : TextBytes) (old new : Side) (end : Option Ended) → 65536 < length line
    → LineWrote end old new (reply_line too_long) (false ≡ false) → RepliesInOrder end old.order new.order (reply_line too_long) → ServedLine manifests p p g g line old new end
served-long manifests p g line old new end long wrote ordered = record {
  told = too_long;
  reads = long;
  keeps = kept_same manifests p g;
  does = refl;
  wrote = wrote-as (false ≡ false) (HadMemory too_long) end old new (reply_line too_long) (λ is. tt) wrote;
  ordered = ordered;
}

-- A line longer than 65,536 bytes that gets the reply that it is too long is a step of a session.
pub long-step : (manifests : Manifests) (p : RealmPass) (g : GatesView) (before after : Reader) (old mid new : LinkView) (line given : TextBytes) (end : Option Ended)
    → Took before after old mid given
    → IsFirstLine (before.held ++ given) after line → 65536 < length line → LineWrote end (side_of mid) (side_of new) (reply_line too_long) (false ≡ false)
    → RepliesInOrder end mid.order new.order (reply_line too_long) → new.source ≡ mid.source
    → Stepped manifests p p g g before after old new end
long-step manifests p g before after old mid new line given end took first long wrote ordered source =
    line-step manifests p p g g before after old mid new line given end took first (long-is-no-quit line long) (inl (served-long manifests p g line (side_of mid) (side_of new) end long wrote ordered)) source
