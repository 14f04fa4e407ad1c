-- What helps of a call come to, one behind the other.
use Rattle.std.proofs.Common.{◌≡◌, ℕ, List, [], ◌∷◌, ◌++◌, Some, None, IsFalse, refl, sym, ap, subst, ◌∙◌, append_assoc, append-nil}
use Rattle.cm_world.specs.declared.frame.Frame.{Frame}
use Rattle.cm_world.specs.declared.action.ActKind.{ActKind}
use Rattle.cm_world.specs.declared.action.Finish.{Finish}
use Rattle.cm_world.specs.declared.action.Outcome.{Outcome}
use Rattle.cm_world.specs.declared.action.Work.{Work}
use Rattle.cm_world.specs.declared.event.Event.{Event}
use Rattle.cm_world.specs.declared.event.Event.TheVariants as event
use Rattle.cm_world.specs.declared.reply.Entry.{Entry}
use Rattle.cm_world.specs.declared.reply.Reply.{Reply}
use Rattle.cm_world.specs.declared.reply.Reply.TheVariants as reply
use Rattle.cm_gate.specs.Logs.{Grew}
use Rattle.cm_gate.proofs.lemmas.Logs.{grew_nothing, grew_trans}
use Rattle.cm_laws.specs.Story.{entry_of}
use Rattle.cm_manager.specs.ClosedInside.{joins, empty, plain, acted, awaited}
use Rattle.cm_manager.specs.Contract.{RealmPass, GatesView, IsSamePass, IsSubcall}
use Rattle.cm_manager.specs.Work.{begins, is_end, Manifests, Works, nothing, passes, ends, WorksWith}
use Rattle.cm_manager.specs.Doing.{Did}
use Rattle.cm_manager.proofs.lemmas.calling.Joining.{works-append}
use Rattle.cm_manager.proofs.lemmas.left.Closing.{closed-append}
use Rattle.cm_manager.proofs.lemmas.calling.Counting.{works_with}
use Rattle.cm_turn.proofs.lemmas.Histories.{starts-trans}

-- ---- passes

-- A pass that is the same one over two parts of a call is so over both together.
pub same_trans : (f : Frame) (p q r : RealmPass) → IsSamePass f p q → IsSamePass f q r → IsSamePass f p r
same_trans f p q r pq qr = record {
  lock = qr.lock ∙ pq.lock;
  frame = qr.frame ∙ pq.frame;
  caller = qr.caller ∙ pq.caller;
  seen = starts-trans r.seen q.seen p.seen qr.seen pq.seen;
  own = qr.own;
  legal = qr.legal;
}

-- ---- work

-- Gates that did the work of two lists of entries, one after the other, did that of both together.
pub works_trans : (manifests : Manifests) (p q : List Entry) (g h k : GatesView) → WorksWith manifests p g.log h.log g.faults h.faults → WorksWith manifests q h.log k.log h.faults k.faults → WorksWith manifests (p ++ q) g.log k.log g.faults k.faults
works_trans manifests p q g h k pw qw =
    works_with manifests (p ++ q) g.log k.log g.faults k.faults (pw.asked ++ qw.asked) (works-append manifests p q pw.asked qw.asked pw.works qw.works) (grew_trans g.log h.log k.log pw.asked qw.asked pw.log qw.log)

-- the works of entries without a question
pub works_unasked : (manifests : Manifests) (part : List Entry) (g : GatesView) → Works manifests part [] g.faults g.faults → WorksWith manifests part g.log g.log g.faults g.faults
works_unasked manifests part g works = works_with manifests part g.log g.log g.faults g.faults [] works (grew_nothing g.log)

-- Where there are no entries the gates have no work, and their log and count stay as they are.
pub works_nothing : (manifests : Manifests) (g : GatesView) → WorksWith manifests [] g.log g.log g.faults g.faults
works_nothing manifests g = works_unasked manifests [] g nothing

-- What a call did by one part and then by another, it did by the whole that both make.
pub helps_then : (manifests : Manifests) (f : Frame) (First Second Whole : List Entry → List Entry → Type 0) (p q r : RealmPass) (g h k : GatesView) → (First p.seen q.seen → Second q.seen r.seen → Whole p.seen r.seen) → IsSubcall manifests f First p q g h → IsSubcall manifests f Second q r h k → IsSubcall manifests f Whole p r g k
helps_then manifests f First Second Whole p q r g h k both first second = record {
  same = same_trans f p q r first.same second.same;
  way = both first.way second.way;
  part = first.part ++ second.part;
  mine = second.mine ∙ ap (λ (l : List Entry). l ++ second.part) first.mine ∙ append_assoc p.mine first.part second.part;
  closed = closed-append first.part second.part first.closed second.closed;
  work = works_trans manifests first.part second.part g h k first.work second.work;
}

-- What a call did one way, it did any way that this implies.
pub helps_as : (manifests : Manifests) (f : Frame) (CallWay Other : List Entry → List Entry → Type 0) (p q : RealmPass) (g h : GatesView) → (CallWay p.seen q.seen → Other p.seen q.seen) → IsSubcall manifests f CallWay p q g h → IsSubcall manifests f Other p q g h
helps_as manifests f CallWay Other p q g h name help = record {
  same = help.same;
  way = name help.way;
  part = help.part;
  mine = help.mine;
  closed = help.closed;
  work = help.work;
}

-- ---- single turns

-- A way without an entry of its own, with gates as they are, is a part of a call.
pub helps_nothing : (manifests : Manifests) (f : Frame) (CallWay : List Entry → List Entry → Type 0) (p q : RealmPass) (g : GatesView) → IsSamePass f p q → CallWay p.seen q.seen → q.mine ≡ p.mine → IsSubcall manifests f CallWay p q g g
helps_nothing manifests f CallWay p q g same way mine = record {
  same = same;
  way = way;
  part = [];
  mine = mine ∙ sym (append-nil p.mine);
  closed = empty;
  work = works_nothing manifests g;
}

-- one entry that begins and joins nothing, and ends nothing
pub helps_plain : (manifests : Manifests) (f : Frame) (CallWay : List Entry → List Entry → Type 0) (p q : RealmPass) (g : GatesView) (e : Event) (r : Reply) → IsFalse (is_end e) → begins e r ≡ None → joins e r ≡ None → IsSamePass f p q → CallWay p.seen q.seen → q.mine ≡ p.mine ++ entry_of p.caller e r ∷ [] → IsSubcall manifests f CallWay p q g g
helps_plain manifests f CallWay p q g e r no_end apart none same way mine = record {
  same = same;
  way = way;
  part = entry_of p.caller e r ∷ [];
  mine = mine;
  closed = plain apart none empty;
  work = works_unasked manifests (entry_of p.caller e r ∷ []) g (passes apart no_end nothing);
}

-- an entry that begins an action, its work and its end
pub helps_acted : (manifests : Manifests) (f : Frame) (CallWay : List Entry → List Entry → Type 0) (p q t : RealmPass) (g h : GatesView) (e : Event) (r : Reply) (k : ActKind) (w : Work) (end : Finish) (o : Outcome) → begins e r ≡ Some (k, w) → IsSamePass f p q → IsSamePass f q t → CallWay p.seen t.seen → q.mine ≡ p.mine ++ entry_of p.caller e r ∷ [] → t.mine ≡ q.mine ++ entry_of q.caller (event.End w.action end) (reply.Ended o) ∷ [] → Did manifests w k end g h → IsSubcall manifests f CallWay p t g h
helps_acted manifests f CallWay p q t g h e r k w end o begins first second way begun ended did = record {
  same = same_trans f p q t first second;
  way = way;
  part = entry_of p.caller e r ∷ entry_of q.caller (event.End w.action end) (reply.Ended o) ∷ [];
  mine = ended ∙ ap (λ (l : List Entry). l ++ entry_of q.caller (event.End w.action end) (reply.Ended o) ∷ []) begun ∙ append_assoc p.mine (entry_of p.caller e r ∷ []) (entry_of q.caller (event.End w.action end) (reply.Ended o) ∷ []);
  closed = acted begins refl empty;
  work =
      works_with manifests (entry_of p.caller e r ∷ entry_of q.caller (event.End w.action end) (reply.Ended o) ∷ []) g.log h.log g.faults h.faults (did.asked ++ [])
      (ends begins (end, refl, did.does, did.counts) nothing) (subst (Grew g.log h.log) (sym (append-nil did.asked)) did.log);
}

-- A join and its await, without gate work between them, are a part of a call.
pub helps_joined : (manifests : Manifests) (f : Frame) (CallWay : List Entry → List Entry → Type 0) (p q r : RealmPass) (g : GatesView) (k : ActKind) (i a : ℕ) (o : Outcome) → IsSamePass f p q → IsSamePass f q r → CallWay p.seen r.seen → q.mine ≡ p.mine ++ entry_of p.caller (event.Begin k i) (reply.Joined a) ∷ [] → r.mine ≡ q.mine ++ entry_of q.caller (event.Await a) (reply.Ended o) ∷ [] → IsSubcall manifests f CallWay p r g g
helps_joined manifests f CallWay p q r g k i a o first second way joined ended = record {
  same = same_trans f p q r first second;
  way = way;
  part = entry_of p.caller (event.Begin k i) (reply.Joined a) ∷ entry_of q.caller (event.Await a) (reply.Ended o) ∷ [];
  mine = ended ∙ ap (λ (l : List Entry). l ++ entry_of q.caller (event.Await a) (reply.Ended o) ∷ []) joined ∙ append_assoc p.mine (entry_of p.caller (event.Begin k i) (reply.Joined a) ∷ []) (entry_of q.caller (event.Await a) (reply.Ended o) ∷ []);
  closed = awaited refl refl empty;
  work =
      works_unasked manifests (entry_of p.caller (event.Begin k i) (reply.Joined a) ∷ entry_of q.caller (event.Await a) (reply.Ended o) ∷ []) g
      (passes refl refl (passes refl refl nothing));
}
