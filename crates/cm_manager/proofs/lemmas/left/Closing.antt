-- Every action that a call begins has its End, and every join its Await.
use Rattle.std.proofs.Common.{◌≡◌, ℕ, List, [], ◌∷◌, ◌++◌, None, Option, Result, IsTrue, ◌==◌, rules, refl, sym, ap, ◌∙◌, append_assoc, append-nil}
use Rattle.std.proofs.lemmas.List.Elements.{filter-append}
use Rattle.cm_world.specs.declared.frame.Frame.{Frame}
use Rattle.cm_world.specs.declared.action.ActKind.{ActKind}
use Rattle.cm_world.specs.declared.reply.Entry.{Entry}
use Rattle.cm_world.specs.declared.event.Event.{Event}
use Rattle.cm_world.specs.declared.event.Event.TheVariants as event
use Rattle.cm_world.specs.declared.reply.Reply.{Reply}
use Rattle.cm_world.specs.declared.reply.Reply.TheVariants as reply
use Rattle.cm_answers.specs.declared.acted.ActionResult.{ActionResult}
use Rattle.cm_world.specs.declared.answer.Refusal.{Refusal}
use Rattle.cm_world.specs.declared.answer.Refusal.TheVariants as refusal
use Rattle.cm_turn.specs.History.{StartsWith}
use Rattle.cm_manager.specs.Turns.{IsLaterHistory, AddsOneEntry, EndsWithoutEntry, own_entries}
use Rattle.cm_manager.specs.Sweeps.{Stops, Removes, Clears, Sweeps}
use Rattle.cm_manager.specs.Runs.{RunsAction, ended, started, started_cut, stopped, stopped_cut, joined, quiet, resolved_first, not_resolved, cut, StartsEager, all_done, next_one, cut_at, is_quiet}
use Rattle.cm_manager.specs.Work.{begins}
use Rattle.cm_manager.specs.ClosedInside.{joins, IsClosed, empty, plain, acted, awaited, AddsClosedPart}
use Rattle.cm_turn.proofs.lemmas.Histories.{starts-trans}

-- Two lists of entries that are closed are closed one behind the other.
pub closed-append : (p q : List Entry) → IsClosed p → IsClosed q → IsClosed (p ++ q)
closed-append p q empty b = b
closed-append p q (plain apart none rest) b = IsClosed.plain apart none (closed-append _ q rest b)
closed-append p q (acted is end rest) b = IsClosed.acted is end (closed-append _ q rest b)
closed-append p q (awaited is end rest) b = IsClosed.awaited is end (closed-append _ q rest b)

-- Two closed parts that a caller adds, one after the other, are one closed part.
pub grows-trans : (c : ℕ) (a b d : List Entry) → AddsClosedPart c a b → AddsClosedPart c b d → AddsClosedPart c a d
grows-trans c a b d ab bd = record {
  part = ab.part ++ bd.part;
  grows = starts-trans d b a bd.grows ab.grows;
  own = bd.own ∙ ap (λ (x : List Entry). x ++ bd.part) ab.own ∙ append_assoc (own_entries c a) ab.part bd.part;
  closed = closed-append ab.part bd.part ab.closed bd.closed;
}

-- the caller's own entry stands behind the others of its own
pub makes-own : (c : ℕ) (a b : List Entry) (e : Event) (r : Reply) → AddsOneEntry c a e r b → StartsWith b a × (own_entries c b ≡ own_entries c a ++ record { caller = c; event = e; reply = r } ∷ [])
makes-own c a b e r m =
    let x : Entry = record { caller = c; event = e; reply = r } in
    let one : own_entries c (x ∷ []) ≡ x ∷ [] = search rules in (
      starts-trans b m.found a (x ∷ [], m.entries) m.later.grows,
      ap (own_entries c) m.entries ∙ filter-append (λ (y : Entry). y.caller == c) m.found (x ∷ []) ∙ ap (λ (l : List Entry). l ++ own_entries c (x ∷ [])) m.later.own ∙ ap (λ (l : List Entry). own_entries c a ++ l) one,
    )

-- A later history with no further entry of the caller adds a closed part: none of its entries.
pub later-grows : (c : ℕ) (a b : List Entry) → IsLaterHistory c a b → AddsClosedPart c a b
later-grows c a b l = record { part = []; grows = l.grows; own = l.own ∙ sym (append-nil (own_entries c a)); closed = empty }

-- An entry that begins no action and joins none is a closed part.
pub plain-grows : (c : ℕ) (a b : List Entry) (e : Event) (r : Reply) → begins e r ≡ None → joins e r ≡ None → AddsOneEntry c a e r b → AddsClosedPart c a b
plain-grows c a b e r apart none m =
    let o = makes-own c a b e r m in
    record { part = record { caller = c; event = e; reply = r } ∷ []; grows = o.0; own = o.1; closed = plain apart none empty }

-- Two entries that a caller adds in turn are a closed part, where they are closed together.
pub two : (c : ℕ) (a b d : List Entry) (e e' : Event) (r r' : Reply) → AddsOneEntry c a e r b → AddsOneEntry c b e' r' d → IsClosed (record { caller = c; event = e; reply = r } ∷ record { caller = c; event = e'; reply = r' } ∷ []) → AddsClosedPart c a d
two c a b d e e' r r' m n closed =
    let o = makes-own c a b e r m in
    let p = makes-own c b d e' r' n in
    record {
      part = record { caller = c; event = e; reply = r } ∷ record { caller = c; event = e'; reply = r' } ∷ [];
      grows = starts-trans d b a p.0 o.0;
      own = p.1 ∙ ap (λ (l : List Entry). l ++ record { caller = c; event = e'; reply = r' } ∷ []) o.1 ∙ append_assoc (own_entries c a) (record { caller = c; event = e; reply = r } ∷ []) (record { caller = c; event = e'; reply = r' } ∷ []);
      closed = closed;
    }

-- A begin whose reply is quiet begins no action and joins none.
pub quiet-begins : (k : ActKind) (i : ℕ) (r : Reply) → IsTrue (is_quiet r) → (begins (event.Begin k i) r ≡ None) × (joins (event.Begin k i) r ≡ None)
quiet-begins k i (reply.Begun w) q = absurd (cc q)
quiet-begins k i (reply.Joined a) q = absurd (cc q)
quiet-begins k i _ q = (refl, refl)

-- Where a turn adds no entry and ends the call, only others have taken turns.
pub cut-later : (f : Frame) (c : ℕ) (a b : List Entry) (e : Event) (x : Refusal) → EndsWithoutEntry f c a e b x → IsLaterHistory c a b
cut-later f c a b e refusal.Memory l = l
cut-later f c a b e refusal.HistoryFull l = l.0
cut-later f c a b e _ l = absurd l

-- Every history is later than itself, with no further entry of the caller.
pub later-self : (c : ℕ) (h : List Entry) → IsLaterHistory c h h
later-self c h = record { grows = ([], sym (append-nil h)); own = refl }

-- each stop that was picked has its End
pub stops_close : (f : Frame) (c t : ℕ) {a b : List Entry} {end : Option Refusal} → Stops f c t a b end → AddsClosedPart c a b
stops_close f c t (Stops.all_shut asks) = plain-grows c _ _ _ _ refl refl asks.made
stops_close f c t (Stops.was_off asks rest) = grows-trans c _ _ _ (plain-grows c _ _ _ _ refl refl asks.made) (stops_close f c t rest)
stops_close f c t (Stops.was_on asks makes rest) = grows-trans c _ _ _ (two c _ _ _ _ _ _ _ asks.made makes (acted refl refl empty)) (stops_close f c t rest)
stops_close f c t (Stops.cut_pick {h₀ = a} {h₁ = b} {x = x} is) = later-grows c a b (cut-later f c a b (event.Pick t) x is)

-- The entries of a removal are closed: each action has its End, and each join its Await.
removes_close : (f : Frame) (c i : ℕ) {a b : List Entry} {end : Option Refusal} → Removes f c i a b end → AddsClosedPart c a b
removes_close f c i (Removes.removed stops asks) = grows-trans c _ _ _ (stops_close f c i stops) (plain-grows c _ _ _ _ refl refl asks.made)
removes_close f c i (Removes.cut_remove {h₁ = a} {h₂ = b} {x = x} stops is) = grows-trans c _ _ _ (stops_close f c i stops) (later-grows c a b (cut-later f c a b (event.Purge i) x is))
removes_close f c i (Removes.not_stopped stops) = stops_close f c i stops

-- The entries of removals in order are closed: each action has its End, and each join its Await.
clears_close : (f : Frame) (c : ℕ) {is : List ℕ} {a b : List Entry} {end : Option Refusal} → Clears f c is a b end → AddsClosedPart c a b
clears_close f c (Clears.none_left {h = h}) = later-grows c h h (later-self c h)
clears_close f c (Clears.next_row {i = i} first rest) = grows-trans c _ _ _ (removes_close f c i first) (clears_close f c rest)
clears_close f c (Clears.cut_row {i = i} first) = removes_close f c i first

-- A sweep adds a closed part: each action that it begins has its end there.
pub sweeps_close : (f : Frame) (c i : ℕ) {a b : List Entry} {end : Option Refusal} → Sweeps f c i a b end → AddsClosedPart c a b
sweeps_close f c i (Sweeps.swept asks rest) = grows-trans c _ _ _ (plain-grows c _ _ _ _ refl refl asks.made) (clears_close f c rest)
sweeps_close f c i (Sweeps.cut_reap {h₀ = a} {h₁ = b} {x = x} is) = later-grows c a b (cut-later f c a b (event.Reap i) x is)

mutual
  -- The run of an action adds a closed part, however it ends.
  pub acts-close : (f : Frame) (c : ℕ) {k : ActKind} {i : ℕ} {a b : List Entry} {end : Result ActionResult Refusal} → RunsAction f c k i a b end → AddsClosedPart c a b
  acts-close f c (ended asks makes other) = two c _ _ _ _ _ _ _ asks.made makes (acted refl refl empty)
  acts-close f c (started asks makes eagers) = grows-trans c _ _ _ (two c _ _ _ _ _ _ _ asks.made makes (acted refl refl empty)) (eagers-close f c eagers)
  acts-close f c (started_cut asks makes eagers) = grows-trans c _ _ _ (two c _ _ _ _ _ _ _ asks.made makes (acted refl refl empty)) (eagers-close f c eagers)
  acts-close f c (stopped {i = i} asks makes is sweeps) = grows-trans c _ _ _ (two c _ _ _ _ _ _ _ asks.made makes (acted refl refl empty)) (sweeps_close f c i sweeps)
  acts-close f c (stopped_cut {i = i} asks makes is sweeps) = grows-trans c _ _ _ (two c _ _ _ _ _ _ _ asks.made makes (acted refl refl empty)) (sweeps_close f c i sweeps)
  acts-close f c (joined asks makes) = two c _ _ _ _ _ _ _ asks.made makes (awaited refl refl empty)
  acts-close f c (quiet {k = k} {i = i} {r = r} asks q) = plain-grows c _ _ _ _ (quiet-begins k i r q).0 (quiet-begins k i r q).1 asks.made
  acts-close f c (resolved_first asks first fine again) = grows-trans c _ _ _ (plain-grows c _ _ _ _ refl refl asks.made) (grows-trans c _ _ _ (acts-close f c first) (acts-close f c again))
  acts-close f c (not_resolved asks first fails) = grows-trans c _ _ _ (plain-grows c _ _ _ _ refl refl asks.made) (acts-close f c first)
  acts-close f c (cut {k = k} {i = i} {h₀ = a} {h₁ = b} {x = x} is) = later-grows c a b (cut-later f c a b (event.Begin k i) x is)

  -- The starts of eager children add a closed part, however they end.
  pub eagers-close : (f : Frame) (c : ℕ) {es : List ℕ} {a b : List Entry} {end : Option Refusal} → StartsEager f c es a b end → AddsClosedPart c a b
  eagers-close f c (all_done {h = h}) = later-grows c h h (later-self c h)
  eagers-close f c (next_one act fine rest) = grows-trans c _ _ _ (acts-close f c act) (eagers-close f c rest)
  eagers-close f c (cut_at act is) = acts-close f c act
