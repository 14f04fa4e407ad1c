-- What the actions of a world tell of the entries that led to it, and that each action has one outcome.
use Rattle.std.proofs.Common.{◌≡◌, ℕ, ◌+◌, ◌==◌, List, [], ◌∷◌, ◌++◌, length, append_assoc, append-nil, true, false, true≢false, Option, Some, None, option_map, option_and_then, refl, sym, ◌∙◌, ap, subst, arith, inl, inr, ⊎_elim}
use Rattle.std.specs.Prelude.{Contains}
use Rattle.std.specs.Cmp.{unsigned_Decides}
use Rattle.std.proofs.lemmas.List.Elements.{Contains-append_left, Contains-push, Contains-push_cases}
use Rattle.cm_facts.proofs.Lists.{find_last, Contains_none}
use Rattle.cm_world.specs.declared.action.Act.{Act}
use Rattle.cm_world.specs.declared.action.ActKind.{ActKind}
use Rattle.cm_world.specs.declared.action.ActKind.TheVariants.{Stop}
use Rattle.cm_world.specs.declared.action.Outcome.{Outcome}
use Rattle.cm_world.specs.declared.action.Finish.{Finish}
use Rattle.cm_world.specs.declared.frame.Frame.{Frame}
use Rattle.cm_world.specs.declared.event.Event.{Event}
use Rattle.cm_world.specs.declared.event.Event.TheVariants.{Begin, End, Await, Create, Mark, Pick, Purge, OpenUse, OpenExposed, Exited}
use Rattle.cm_world.specs.declared.reply.Reply.{Reply}
use Rattle.cm_world.specs.declared.reply.Reply.TheVariants as reply
use Rattle.cm_world.specs.declared.reply.Entry.{Entry}
use Rattle.cm_world.specs.World.{World, start, act_of, outcome_of}
use Rattle.cm_world.specs.Begin.{begin_reply}
use Rattle.cm_world.specs.End.{put_outcome, ended}
use Rattle.cm_world.specs.Step.{MayEnd, IsEnabled, Allowed}
use Rattle.cm_world.specs.After.{new_act, with_end_of, moved, after}
use Rattle.cm_world.specs.AfterInside.{moves}
use Rattle.cm_world.specs.Legal.{IsStep, Legal, replay}
use Rattle.cm_world.proofs.lemmas.trees.Finding.{none_some, some_same, find-passes}
use Rattle.cm_laws.specs.Lasting.{begun_by, joined_by, ended_by, awaited_by, IsBegun, IsEnded, IsAwaited, KeepsOutcomes}
use Rattle.cm_laws.specs.LastingInside.{OutcomesAreOne}
use Rattle.cm_laws.proofs.lemmas.actions.Tasks.{by_test, find_left, find_split, only_by, edit_at, edit_other, unused}
use Rattle.cm_laws.proofs.lemmas.actions.Numbers.{IsCounted, counted_after, counted_history}
use Rattle.cm_laws.proofs.lemmas.actions.Begun.{begun_action}
use Rattle.cm_laws.proofs.lemmas.entries.Answered.{is_plain, begin_passes, plain_reply, IsPlainOrOpened, use_kind, exposed_kind}
use Rattle.cm_laws.proofs.lemmas.actions.Known.{IsKnown, AreKnown, grown_known, rows_known, joined_known, root_known}
use Rattle.cm_laws.proofs.lemmas.entries.Entries.{of_each_entry}

-- ---- the events by which actions begin, and are joined

-- A plain reply begins no action.
plain_begun : (r : Reply) → is_plain r ≡ true → begun_by r ≡ None
plain_begun (reply.Begun work) plain = absurd (true≢false (sym plain))
plain_begun (reply.Stopping work) plain = absurd (true≢false (sym plain))
plain_begun r plain = refl

-- A plain reply joins no action.
plain_joined : (r : Reply) → is_plain r ≡ true → joined_by r ≡ None
plain_joined (reply.Joined a) plain = absurd (true≢false (sym plain))
plain_joined r plain = refl

-- an opening begins nothing, and joins nothing
opening_begun : (r : Reply) → IsPlainOrOpened r → begun_by r ≡ None
opening_begun r (inl plain) = plain_begun r plain
opening_begun r (inr opened) = ap begun_by opened.1

-- A reply that is plain or opens a route joins no action.
opening_joined : (r : Reply) → IsPlainOrOpened r → joined_by r ≡ None
opening_joined r (inl plain) = plain_joined r plain
opening_joined r (inr opened) = ap joined_by opened.1

-- An event that changes nothing begins no action.
quiet_begun : (w : World) (caller : ℕ) (e : Event) (r : Reply) → moves e r ≡ false → Allowed w caller e r → begun_by r ≡ None
quiet_begun w caller (Begin kind i) (reply.Begun work) quiet it = absurd (true≢false quiet)
quiet_begun w caller (Begin kind i) (reply.Stopping work) quiet it =
    absurd (true≢false (sym (begin_passes w.rows w.next_action i kind (reply.Stopping work) it)))
quiet_begun w caller (Begin kind i) r quiet it = refl
quiet_begun w caller (Pick t) (reply.Stopping work) quiet it = absurd (true≢false quiet)
quiet_begun w caller (Pick t) (reply.Begun work) quiet it = absurd it
quiet_begun w caller (Pick t) r quiet it = refl
quiet_begun w caller (OpenUse i path) r quiet it = opening_begun r (use_kind w caller i path r it)
quiet_begun w caller (OpenExposed i name) r quiet it = opening_begun r (exposed_kind w caller i name r it)
quiet_begun w caller e r quiet it = plain_begun r (plain_reply w caller e r refl it)

-- An event that changes nothing ends no action.
quiet_ended : (w : World) (caller : ℕ) (e : Event) (r : Reply) → moves e r ≡ false → Allowed w caller e r → ended_by e ≡ None
quiet_ended w caller (End a f) r quiet it =
    absurd (true≢false (sym (ap (moves (End a f)) it) ∙ quiet))
quiet_ended w caller e r quiet it = refl

-- an action is joined by a begin
record IsJoining (w : World) (a : ℕ) : Type 0 where
  kind : ActKind
  at : ℕ
  begins : begin_reply w.rows w.next_action kind at ≡ Some (reply.Joined a)

-- An allowed reply that joins an action is one to a begin that joins it.
joining : (w : World) (caller a : ℕ) (e : Event) (r : Reply) → joined_by r ≡ Some a → Allowed w caller e r → IsJoining w a
joining w caller a (Begin kind i) (reply.Joined b) joins it = record {
  kind = kind;
  at = i;
  begins = it ∙ ap (λ n. Some (reply.Joined n)) (some_same b a joins);
}
joining w caller a (Begin kind i) r joins it = absurd (none_some a joins)
joining w caller a (Pick t) (reply.Joined b) joins it = absurd it
joining w caller a (Pick t) r joins it = absurd (none_some a joins)
joining w caller a (OpenUse i path) r joins it = absurd (none_some a (sym (opening_joined r (use_kind w caller i path r it)) ∙ joins))
joining w caller a (OpenExposed i name) r joins it = absurd (none_some a (sym (opening_joined r (exposed_kind w caller i name r it)) ∙ joins))
joining w caller a e r joins it = absurd (none_some a (sym (plain_joined r (plain_reply w caller e r refl it)) ∙ joins))

-- an await gets the outcome that is kept
awaiting : (w : World) (caller a : ℕ) (e : Event) (r : Reply) → awaited_by e ≡ Some a → Allowed w caller e r → option_map reply.Ended (outcome_of w.acts a) ≡ Some r
awaiting w caller a (Await b) r says it =
    subst (λ n. option_map reply.Ended (outcome_of w.acts n) ≡ Some r) (some_same b a says) it
awaiting w caller a e r says it = absurd (none_some a says)

-- ---- what an entry does to the actions: one begins, or one ends, or all are as before

-- What an event does to the actions: one begins, one ends, or all are as before.
data ActsOn (w : World) (bs : List Act) (caller : ℕ) (e : Event) (r : Reply) : Type 0 where
  starts : (kind : ActKind) (i : ℕ) → begun_by r ≡ Some w.next_action → ended_by e ≡ None → bs ≡ w.acts ++ new_act w.next_action kind i caller ∷ [] → ActsOn w bs caller e r
  stops : (a : ℕ) (f : Finish) (o : Outcome) → begun_by r ≡ None → ended_by e ≡ Some a → r ≡ reply.Ended o → MayEnd w.acts caller a f → bs ≡ ended a o w.acts → ActsOn w bs caller e r
  leaves : begun_by r ≡ None → ended_by e ≡ None → bs ≡ w.acts → ActsOn w bs caller e r

-- The end of an action that is there ends it among the actions.
acts_ended : (w : World) (a : ℕ) (f : Finish) (o : Outcome) (y : Act) (x : Option Act) → x ≡ Some y → (with_end_of w a f o x).acts ≡ ended a o w.acts
acts_ended w a f o y None there = absurd (none_some y there)
acts_ended w a f o y (Some z) there = refl

-- An enabled event with an allowed reply begins an action, ends one, or leaves all.
acts_on : (w : World) (caller : ℕ) (e : Event) (r : Reply) → IsEnabled w caller e → Allowed w caller e r → ActsOn w (moved w caller e r).acts caller e r
acts_on w caller (Begin kind i) (reply.Begun work) can it =
    starts kind i (ap Some (begun_action w.rows w.next_action i kind work it)) refl refl
acts_on w caller (End a f) (reply.Ended o) can it =
    stops a f o refl refl refl can (acts_ended w a f o can.act (act_of w.acts a) can.there)
acts_on w caller (Pick t) (reply.Stopping work) can it = starts Stop work.inc (ap (λ x. Some x.action) it.same) refl refl
acts_on w caller (Begin kind i) (reply.Joined b) can it = leaves refl refl refl
acts_on w caller (Await b) (reply.Ended o) can it = leaves refl refl refl
acts_on w caller (Create p child) (reply.Created i) can it = leaves refl refl refl
acts_on w caller (Mark doom i) reply.Marked can it = leaves refl refl refl
acts_on w caller (Pick t) (reply.ShutDown i) can it = leaves refl refl refl
acts_on w caller (Purge i) (reply.Purged lost) can it = leaves refl refl refl
acts_on w caller (Exited i) (reply.Left m) can it = leaves refl refl refl
acts_on w caller e r can it = leaves (quiet_begun w caller e r refl it) (quiet_ended w caller e r refl it) refl

-- A step begins an action, ends one, or leaves all.
acts_after : (w : World) (e : Entry) → IsStep w e → ActsOn w (after w e).acts e.caller e.event e.reply
unfolding after
acts_after w e step = acts_on w e.caller e.event e.reply step.enabled step.allowed

-- ---- what the actions tell of the entries

-- what began is known, and what ended has an outcome; a known action began among the entries, and an outcome is that of an end
record Remembers (es : List Entry) (acts : List Act) : Type 0 where
  known : (a : ℕ) (x : Entry) → Contains es x → begun_by x.reply ≡ Some a → IsKnown acts a
  told : (a : ℕ) (x : Entry) → Contains es x → ended_by x.event ≡ Some a → (o : Outcome) × (outcome_of acts a ≡ Some o)
  begun : (a : ℕ) (y : Act) → act_of acts a ≡ Some y → IsBegun es a y.by
  ended : (a : ℕ) (o : Outcome) → outcome_of acts a ≡ Some o → IsEnded es a o

-- No entries are remembered by no actions.
nothing_begun : Remembers [] []
nothing_begun = record {
  known = λ a x h e. absurd (Contains_none x h);
  told = λ a x h e. absurd (Contains_none x h);
  begun = λ a y e. absurd (none_some y e);
  ended = λ a o e. absurd (none_some o e);
}

-- An action that began among entries began among them with one more.
begun_left : (es : List Entry) (e : Entry) (a caller : ℕ) → IsBegun es a caller → IsBegun (es ++ e ∷ []) a caller
begun_left es e a caller it = record {
  entry = it.entry;
  there = Contains-append_left es (e ∷ []) it.entry it.there;
  begins = it.begins;
  own = it.own;
}

-- An action that ended among entries ended so among them with one more.
ended_left : (es : List Entry) (e : Entry) (a : ℕ) (o : Outcome) → IsEnded es a o → IsEnded (es ++ e ∷ []) a o
ended_left es e a o it = record {
  entry = it.entry;
  there = Contains-append_left es (e ∷ []) it.entry it.there;
  ends = it.ends;
  replied = it.replied;
}

-- an outcome stands at its action
record HasOutcome (found : Option Act) (o : Outcome) : Type 0 where
  act : Act
  there : found ≡ Some act
  outcome : act.outcome ≡ Some o

-- Where the outcome of what was found is told, an action with that outcome was found.
outcome_in : (found : Option Act) (o : Outcome) → option_and_then (λ x. x.outcome) found ≡ Some o → HasOutcome found o
outcome_in None o e = absurd (none_some o e)
outcome_in (Some x) o e = record { act = x; there = refl; outcome = e }

-- The outcome of an action that is found is its outcome among the actions.
outcome_at : (acts : List Act) (a : ℕ) (x : Act) (o : Outcome) → act_of acts a ≡ Some x → x.outcome ≡ Some o → outcome_of acts a ≡ Some o
outcome_at acts a x o there has = ap (option_and_then (λ y. y.outcome)) there ∙ has

-- an entry more says of actions what the earlier ones said, or what it says itself
more_of : {P : Type 0} (of : Entry → Option ℕ) (es : List Entry) (e x : Entry) (a : ℕ) → Contains (es ++ e ∷ []) x → of x ≡ Some a → (Contains es x → P) → (of e ≡ Some a → P) → P
more_of of es e x a there says earlier itself =
    ⊎_elim earlier (λ same. itself (ap of same ∙ says)) (Contains-push_cases es e x there)

-- ---- behind an entry that leaves the actions

-- Actions still remember the entries with one more that begins none and ends none.
left_acts : (es : List Entry) (acts : List Act) (e : Entry) → begun_by e.reply ≡ None → ended_by e.event ≡ None → Remembers es acts → Remembers (es ++ e ∷ []) acts
left_acts es acts e no_begin no_end it = record {
  known = λ a x there begins.
      more_of (λ y. begun_by y.reply) es e x a there begins (λ h. it.known a x h begins) (λ begin. absurd (none_some a (sym no_begin ∙ begin)));
  told = λ a x there ends.
      more_of (λ y. ended_by y.event) es e x a there ends (λ h. it.told a x h ends) (λ end. absurd (none_some a (sym no_end ∙ end)));
  begun = λ a y found. begun_left es e a y.by (it.begun a y found);
  ended = λ a o found. ended_left es e a o (it.ended a o found);
}

-- ---- behind a begin

module _ (es : List Entry) (acts : List Act) (e : Entry) (n i : ℕ) (kind : ActKind) (free : act_of acts n ≡ None) (begins : begun_by e.reply ≡ Some n) (no_end : ended_by e.event ≡ None) (it : Remembers es acts) where
  -- The action that the entry begins.
  abbrev new : Act
  new = new_act n kind i e.caller

  -- The action that the entry begins is known.
  new_known : IsKnown (acts ++ new ∷ []) n
  new_known = (new, find_last (λ x. x.action == n) acts new free ((unsigned_Decides n n).1 refl))

  -- An action that was known is so with the new one.
  old_known : (a : ℕ) → IsKnown acts a → IsKnown (acts ++ new ∷ []) a
  old_known a known = (known.0, find_left (λ x. x.action == a) acts (new ∷ []) known.0 known.1)

  -- An outcome that was told is told with the new action.
  old_outcome : (a : ℕ) (o : Outcome) → outcome_of acts a ≡ Some o → outcome_of (acts ++ new ∷ []) a ≡ Some o
  old_outcome a o e =
      let has : HasOutcome (act_of acts a) o = outcome_in (act_of acts a) o e in
      outcome_at (acts ++ new ∷ []) a has.act o (find_left (λ x. x.action == a) acts (new ∷ []) has.act has.there) has.outcome

  -- what is found in the new action alone is itself
  new_found : (a : ℕ) (y : Act) → act_of (new ∷ []) a ≡ Some y → (new ≡ y) × (n ≡ a)
  new_found a y found =
      let same : new ≡ y = only_by (n == a) new y found in
      let number : y.action ≡ a = (unsigned_Decides y.action a).0 (find-passes (λ x. x.action == a) (new ∷ []) y found) in
      (same, ap (λ x. x.action) same ∙ number)

  -- The new action began, by its caller, among the entries with this one.
  new_begun : (a : ℕ) (y : Act) → (new ≡ y) × (n ≡ a) → IsBegun (es ++ e ∷ []) a y.by
  new_begun a y same = record {
    entry = e;
    there = Contains-push es e;
    begins = begins ∙ ap Some same.1;
    own = ap (λ x. x.by) same.0;
  }

  -- it has no outcome yet
  new_open : (a : ℕ) (y : Act) (o : Outcome) → (new ≡ y) × (n ≡ a) → y.outcome ≡ Some o → ⊥
  new_open a y o same has = none_some o (ap (λ x. x.outcome) same.0 ∙ has)

  -- An outcome that is told with the new action is that of an end among the entries.
  old_ended : (a : ℕ) (o : Outcome) → HasOutcome (act_of (acts ++ new ∷ []) a) o → IsEnded (es ++ e ∷ []) a o
  old_ended a o has =
      ⊎_elim (λ left. ended_left es e a o (it.ended a o (outcome_at acts a has.act o left has.outcome)))
      (λ right. absurd (new_open a has.act o (new_found a has.act right) has.outcome))
      (find_split (λ x. x.action == a) acts (new ∷ []) has.act has.there)

  -- The actions with the new one remember the entries with the one that begins it.
  started : Remembers (es ++ e ∷ []) (acts ++ new ∷ [])
  started = record {
    known = λ a x there says.
        more_of (λ y. begun_by y.reply) es e x a there says (λ h. old_known a (it.known a x h says))
        (λ begin. subst (IsKnown (acts ++ new ∷ [])) (some_same n a (sym begins ∙ begin)) new_known);
    told = λ a x there says.
        more_of (λ y. ended_by y.event) es e x a there says
        (λ h. let was : (o : Outcome) × (outcome_of acts a ≡ Some o) = it.told a x h says in (was.0, old_outcome a was.0 was.1))
        (λ end. absurd (none_some a (sym no_end ∙ end)));
    begun = λ a y found.
        ⊎_elim (λ left. begun_left es e a y.by (it.begun a y left)) (λ right. new_begun a y (new_found a y right))
        (find_split (λ x. x.action == a) acts (new ∷ []) y found);
    ended = λ a o found. old_ended a o (outcome_in (act_of (acts ++ new ∷ []) a) o found);
  }

-- ---- behind an end

module _ (es : List Entry) (acts : List Act) (e : Entry) (n : ℕ) (y : Act) (o : Outcome) (there : act_of acts n ≡ Some y) (no_begin : begun_by e.reply ≡ None) (ends : ended_by e.event ≡ Some n) (replied : e.reply ≡ reply.Ended o) (it : Remembers es acts) where
  -- The action that ends is found with its outcome.
  at_end : act_of (ended n o acts) n ≡ Some (put_outcome o y)
  at_end = edit_at (λ x. x.action) n (put_outcome o) (λ x. refl) acts y there

  -- Each action but the one that ends is found as before.
  elsewhere : (a : ℕ) → (a ≡ n → ⊥) → act_of (ended n o acts) a ≡ act_of acts a
  elsewhere a differ = edit_other (λ x. x.action) n (put_outcome o) (λ x. refl) a acts differ

  -- An action that was known is so once one has ended.
  still_known : (a : ℕ) → IsKnown acts a → IsKnown (ended n o acts) a
  still_known a known =
      by_test a n (λ same. subst (IsKnown (ended n o acts)) (sym same) (put_outcome o y, at_end))
      (λ differ. (known.0, elsewhere a differ ∙ known.1))

  -- The outcome of the action that ends is told.
  now_told : outcome_of (ended n o acts) n ≡ Some o
  now_told = outcome_at (ended n o acts) n (put_outcome o y) o at_end refl

  -- An action that is the one that ends has an outcome.
  told_here : (a : ℕ) → a ≡ n → (p : Outcome) × (outcome_of (ended n o acts) a ≡ Some p)
  told_here a same = (o, ap (outcome_of (ended n o acts)) same ∙ now_told)

  -- An action that had an outcome has one once one has ended.
  still_told : (a : ℕ) → (p : Outcome) × (outcome_of acts a ≡ Some p) → (p : Outcome) × (outcome_of (ended n o acts) a ≡ Some p)
  still_told a told =
      by_test a n (told_here a)
      (λ differ. (told.0, ap (option_and_then (λ x. x.outcome)) (elsewhere a differ) ∙ told.1))

  -- An action that is found once one has ended began, by its caller, among the entries.
  still_begun : (a : ℕ) (x : Act) → act_of (ended n o acts) a ≡ Some x → IsBegun es a x.by
  still_begun a x found =
      by_test a n
      (λ same.
      let one : put_outcome o y ≡ x = some_same (put_outcome o y) x (sym at_end ∙ ap (act_of (ended n o acts)) (sym same) ∙ found) in
      subst (λ m. IsBegun es m x.by) (sym same) (subst (IsBegun es n) (ap (λ z. z.by) one) (it.begun n y there)))
      (λ differ. it.begun a x (sym (elsewhere a differ) ∙ found))

  -- The action that ends ended so among the entries with this one.
  now_ended : IsEnded (es ++ e ∷ []) n o
  now_ended = record { entry = e; there = Contains-push es e; ends = ends; replied = replied }

  -- An outcome that is told once one has ended is that of an end among the entries.
  all_ended : (a : ℕ) (p : Outcome) → outcome_of (ended n o acts) a ≡ Some p → IsEnded (es ++ e ∷ []) a p
  all_ended a p found =
      by_test a n
      (λ same.
      let one : o ≡ p = some_same o p (sym now_told ∙ ap (outcome_of (ended n o acts)) (sym same) ∙ found) in
      subst (λ m. IsEnded (es ++ e ∷ []) m p) (sym same) (subst (IsEnded (es ++ e ∷ []) n) one now_ended))
      (λ differ. ended_left es e a p (it.ended a p (sym (ap (option_and_then (λ x. x.outcome)) (elsewhere a differ)) ∙ found)))

  -- The actions with one ended remember the entries with the one that ends it.
  stopped : Remembers (es ++ e ∷ []) (ended n o acts)
  stopped = record {
    known = λ a x in_it says.
        more_of (λ z. begun_by z.reply) es e x a in_it says (λ h. still_known a (it.known a x h says))
        (λ begin. absurd (none_some a (sym no_begin ∙ begin)));
    told = λ a x in_it says.
        more_of (λ z. ended_by z.event) es e x a in_it says (λ h. still_told a (it.told a x h says))
        (λ end. told_here a (sym (some_same n a (sym ends ∙ end))));
    begun = λ a x found. begun_left es e a x.by (still_begun a x found);
    ended = all_ended;
  }

-- ---- behind a history

-- what is pending at the rows behind an entry
pends_after : (w : World) (e : Entry) → ((a : ℕ) → begun_by e.reply ≡ Some a → IsKnown (after w e).acts w.next_action) → AreKnown (after w e).acts w.rows → AreKnown (after w e).acts (after w e).rows
unfolding after
pends_after w e new all = rows_known (moved w e.caller e.event e.reply).acts w e.caller e.event e.reply new all

-- the actions and rows of a world that these entries led to
record Follows (es : List Entry) (w : World) : Type 0 where
  counted : IsCounted w
  remembers : Remembers es w.acts
  pends : AreKnown w.acts w.rows

-- No action has the number of the next one.
free_number : (w : World) → IsCounted w → act_of w.acts w.next_action ≡ None
free_number w counted =
    let next : w.next_action ≡ length w.acts + 1 = counted.next in unused 1 w.next_action w.acts counted.numbers (omega arith)

module _ (es : List Entry) (w : World) (e : Entry) (it : Follows es w) where
  -- Where the entry acts on the actions so, they remember the entries with it.
  remembers_by : (bs : List Act) → ActsOn w bs e.caller e.event e.reply → Remembers (es ++ e ∷ []) bs
  remembers_by bs (starts kind i begins no_end same) =
      subst (Remembers (es ++ e ∷ [])) (sym same)
      (started es w.acts e w.next_action i kind (free_number w it.counted) begins no_end it.remembers)
  remembers_by bs (stops a f o no_begin ends replied may same) =
      subst (Remembers (es ++ e ∷ [])) (sym same) (stopped es w.acts e a may.act o may.there no_begin ends replied it.remembers)
  remembers_by bs (leaves no_begin no_end same) =
      subst (Remembers (es ++ e ∷ [])) (sym same) (left_acts es w.acts e no_begin no_end it.remembers)

  -- Where the entry acts on the actions so, an action that was known is so.
  grows_by : (bs : List Act) → ActsOn w bs e.caller e.event e.reply → (a : ℕ) → IsKnown w.acts a → IsKnown bs a
  grows_by bs (starts kind i begins no_end same) a known =
      subst (λ xs. IsKnown xs a) (sym same)
      (old_known es w.acts e w.next_action i kind (free_number w it.counted) begins no_end it.remembers a known)
  grows_by bs (stops n f o no_begin ends replied may same) a known =
      subst (λ xs. IsKnown xs a) (sym same) (still_known es w.acts e n may.act o may.there no_begin ends replied it.remembers a known)
  grows_by bs (leaves no_begin no_end same) a known = subst (λ xs. IsKnown xs a) (sym same) known

  -- Where the entry acts on the actions so and begins one, that number is known.
  news_by : (bs : List Act) → ActsOn w bs e.caller e.event e.reply → (a : ℕ) → begun_by e.reply ≡ Some a → IsKnown bs w.next_action
  news_by bs (starts kind i begins no_end same) a says =
      subst (λ xs. IsKnown xs w.next_action) (sym same)
      (new_known es w.acts e w.next_action i kind (free_number w it.counted) begins no_end it.remembers)
  news_by bs (stops n f o no_begin ends replied may same) a says = absurd (none_some a (sym no_begin ∙ says))
  news_by bs (leaves no_begin no_end same) a says = absurd (none_some a (sym no_begin ∙ says))

  -- After a step the world follows the entries with that one.
  follows_after : IsStep w e → Follows (es ++ e ∷ []) (after w e)
  follows_after step =
      let acts : ActsOn w (after w e).acts e.caller e.event e.reply = acts_after w e step in
      record {
        counted = counted_after w e it.counted;
        remembers = remembers_by (after w e).acts acts;
        pends = pends_after w e (news_by (after w e).acts acts) (grown_known w.acts (after w e).acts w.rows (grows_by (after w e).acts acts) it.pends);
      }

-- A world that follows entries follows them with all that legally come behind.
follows_all : (prefix es : List Entry) (w : World) → Follows prefix w → Legal w es → Follows (prefix ++ es) (replay w es)
follows_all prefix [] w it legal = subst (λ l. Follows l w) (sym (append-nil prefix)) it
follows_all prefix (e ∷ es) w it legal =
    subst (λ l. Follows l (replay (after w e) es)) (append_assoc prefix (e ∷ []) es)
    (follows_all (prefix ++ e ∷ []) es (after w e) (follows_after prefix w e it legal.0) legal.1)

-- A new world follows no entries.
follows_start : (f : Frame) → Follows [] (start f)
follows_start f = record {
  counted = counted_history f [];
  remembers = nothing_begun;
  pends = root_known f.root;
}

-- The world that a legal history leaves follows it.
follows_history : (f : Frame) (es : List Entry) → Legal (start f) es → Follows es (replay (start f) es)
follows_history f es legal = follows_all [] es (start f) (follows_start f) legal

-- ---- the law

module _ (prefix : List Entry) (w : World) (e : Entry) (it : Follows prefix w) where
  -- a number that begins was free
  was_free : (bs : List Act) (a : ℕ) → ActsOn w bs e.caller e.event e.reply → begun_by e.reply ≡ Some a → act_of w.acts a ≡ None
  was_free bs a (starts kind i begins no_end same) says =
      ap (act_of w.acts) (sym (some_same w.next_action a (sym begins ∙ says))) ∙ free_number w it.counted
  was_free bs a (stops n f o no_begin ends replied may same) says = absurd (none_some a (sym no_begin ∙ says))
  was_free bs a (leaves no_begin no_end same) says = absurd (none_some a (sym no_begin ∙ says))

  -- who ends an action may end it
  might_end : (bs : List Act) (a : ℕ) → ActsOn w bs e.caller e.event e.reply → ended_by e.event ≡ Some a → (f : Finish) × MayEnd w.acts e.caller a f
  might_end bs a (starts kind i begins no_end same) says = absurd (none_some a (sym no_end ∙ says))
  might_end bs a (stops n f o no_begin ends replied may same) says =
      (f, subst (λ m. MayEnd w.acts e.caller m f) (some_same n a (sym ends ∙ says)) may)
  might_end bs a (leaves no_begin no_end same) says = absurd (none_some a (sym no_end ∙ says))

  -- A number that no action has isn't known.
  never_again : (a : ℕ) → act_of w.acts a ≡ None → IsKnown w.acts a → ⊥
  never_again a none known = none_some known.0 (sym none ∙ known.1)

  -- An action that may be ended has no outcome yet.
  open_yet : (a : ℕ) (f : Finish) → MayEnd w.acts e.caller a f → (o : Outcome) × (outcome_of w.acts a ≡ Some o) → ⊥
  open_yet a f may told =
      none_some told.0 (sym may.pending ∙ sym (ap (option_and_then (λ x. x.outcome)) may.there) ∙ told.1)

  -- An action that a caller may end began by that caller among the entries before.
  own_begin : (a : ℕ) (f : Finish) → MayEnd w.acts e.caller a f → IsBegun prefix a e.caller
  own_begin a f may = subst (IsBegun prefix a) may.own (it.remembers.begun a may.act may.there)

  -- An outcome that is awaited is that of an end among the entries before.
  kept_outcome : (a : ℕ) (o : Option Outcome) (r : Reply) → outcome_of w.acts a ≡ o → option_map reply.Ended o ≡ Some r → IsAwaited prefix a r
  kept_outcome a None r is says = absurd (none_some r says)
  kept_outcome a (Some o) r is says = record {
    outcome = o;
    ended = it.remembers.ended a o is;
    replied = sym (some_same (reply.Ended o) r says);
  }

  -- A known action began among the entries before, by some caller.
  begun_known : (a : ℕ) → IsKnown w.acts a → (caller : ℕ) × IsBegun prefix a caller
  begun_known a known = (known.0.by, it.remembers.begun a known.0 known.1)

  -- An action that is joined began among the entries before, by some caller.
  begun_joined : (a : ℕ) → IsJoining w a → (caller : ℕ) × IsBegun prefix a caller
  begun_joined a joins = begun_known a (joined_known w.rows w.next_action joins.at joins.kind a w.acts it.pends joins.begins)

  -- What a step begins, joins, ends or awaits fits the entries before it.
  keeps_outcomes : IsStep w e → KeepsOutcomes prefix e
  keeps_outcomes step =
      let acts : ActsOn w (after w e).acts e.caller e.event e.reply = acts_after w e step in
      record {
        begins_once = λ a x says there before.
            never_again a (was_free (after w e).acts a acts says) (it.remembers.known a x there before);
        ends_once = λ a x says there before.
            let may : (f : Finish) × MayEnd w.acts e.caller a f = might_end (after w e).acts a acts says in
            open_yet a may.0 may.1 (it.remembers.told a x there before);
        ends_own = λ a says.
            let may : (f : Finish) × MayEnd w.acts e.caller a f = might_end (after w e).acts a acts says in own_begin a may.0 may.1;
        joins_begun = λ a says. begun_joined a (joining w e.caller a e.event e.reply says step.allowed);
        awaits_end = λ a says.
            kept_outcome a (outcome_of w.acts a) e.reply refl (awaiting w e.caller a e.event e.reply says step.allowed);
      }

-- Each action of a legal history has one outcome, which all that wait for it get.
pub outcomes_are_one : OutcomesAreOne
outcomes_are_one f es legal =
    of_each_entry KeepsOutcomes (start f) es legal
    (λ prefix e before step. keeps_outcomes prefix (replay (start f) prefix) e (follows_history f prefix before) step)
