-- What is judged of an event with its reply.
use Rattle.std.proofs.Common.{◌≡◌, ◌≢◌, ◌⊎◌, inl, inr, ◌↔◌, ℕ, ◌+◌, ◌<◌, ◌^◌, List, [], ◌∷◌, ◌++◌, length, Bool, true, false, true≢false, Option, Some, None, Result, Ok, Err, IfOk, IsTrue, MatchOption, refl, sym, ap, subst, ◌∙◌}
use Rattle.cm_decl.specs.declared.decl.Decl.{Decl}
use Rattle.cm_decl.specs.Valid.{IsValid}
use Rattle.cm_decl.proofs.lemmas.faults.FirstFaults.{valid_faultless}
use Rattle.cm_valid.specs.ReportsInside.{Reports}
use Rattle.cm_valid.specs.declared.fault.ValidFault.{ValidFault}
use Rattle.cm_valid.specs.declared.fault.ValidFault.TheVariants.{Memory}
use Rattle.cm_names.specs.declared.memory.Memory.{Memory as Want}
use Rattle.cm_world.specs.declared.action.Finish.{Finish}
use Rattle.cm_world.specs.declared.action.Finish.TheVariants as finish
use Rattle.cm_world.specs.declared.event.Event.{Event}
use Rattle.cm_world.specs.declared.event.Event.TheVariants as event
use Rattle.cm_world.specs.declared.reply.Reply.{Reply}
use Rattle.cm_world.specs.declared.reply.Reply.TheVariants as reply
use Rattle.cm_world.specs.declared.row.Row.{Row}
use Rattle.cm_world.specs.Laws.{IsPick}
use Rattle.cm_world.specs.Rows.{row_of, is_subtree_shut}
use Rattle.cm_world.specs.Step.{IsEnabled, Allowed, IsPickReply, PicksOn, PicksOff, may_close}
use Rattle.cm_world.specs.World.{World, start}
use Rattle.cm_world.specs.Legal.{Legal}
use Rattle.cm_world.proofs.lemmas.trees.Once.{replies_once}
use Rattle.cm_world.proofs.lemmas.trees.Finding.{some_same}
use Rattle.cm_order.specs.Picking.{MayBePicked}
use Rattle.cm_reply.specs.Lists.{TextBytes}
use Rattle.cm_reply.specs.Replies.{replied_text}
use Rattle.cm_laws.specs.Story.{Story, world_of, AddsEntry}
use Rattle.cm_laws.specs.Clients.{picked_by}
use Rattle.cm_steps.specs.Enabled.{IsEnabledBut, BringsValid}
use Rattle.cm_steps.specs.Chosen.{PicksThis}
use Rattle.cm_audit.specs.Expected.{Expects, IsOther, no_step_text, other_pick_text}
use Rattle.cm_audit.specs.Reading.{IsEntryJudged, StepTaken, TellsRow, TellsNoPick}
use Rattle.cm_audit.proofs.lemmas.Telling.{one_stop, row_fits}

-- ---- enabled

-- Where a caller may make an event now, a declaration that the event brings is valid.
pub enabled_valid : (w : World) (caller : ℕ) (e : Event) → IsEnabled w caller e → BringsValid e
enabled_valid w caller (event.End a finish) h = h.valid
enabled_valid w caller e h = tt

-- An event that is enabled is enabled but for the validity of what it brings.
pub enabled_but : (w : World) (caller : ℕ) (e : Event) → IsEnabled w caller e → IsEnabledBut w caller e
enabled_but w caller (event.End a finish) h = record { act = h.act; there = h.there; pending = h.pending; own = h.own; fitting = h.fitting }
enabled_but w caller e h = h

-- An event is enabled where all but the validity of what it brings is given, and that is valid too.
pub enabled_both : (w : World) (caller : ℕ) (e : Event) → IsEnabledBut w caller e → BringsValid e → IsEnabled w caller e
enabled_both w caller (event.End a finish) h valid = record { act = h.act; there = h.there; pending = h.pending; own = h.own; fitting = h.fitting; valid = valid }
enabled_both w caller e h valid = h

-- An event whose declaration was found to be not valid isn't enabled.
pub not_valid : (w : World) (caller : ℕ) (e : Event) (b : Bool) → b ≡ false → (IsTrue b ↔ BringsValid e) → IsTrue false ↔ IsEnabled w caller e
not_valid w caller e b non told =
    ((λ is_so. absurd (true≢false (sym is_so))), λ h. absurd (true≢false (sym (told.1 (enabled_valid w caller e h)) ∙ non)))

-- Where a valid declaration is brought, an event is enabled exactly where all else allows it.
pub is_enabled_by : (w : World) (caller : ℕ) (e : Event) (a b : Bool) → a ≡ true → (IsTrue a ↔ BringsValid e) → (IsTrue b ↔ IsEnabledBut w caller e) → IsTrue b ↔ IsEnabled w caller e
is_enabled_by w caller e a b is_so valid but =
    ((λ h. enabled_both w caller e (but.0 h) (valid.0 is_so)), λ h. but.1 (enabled_but w caller e h))

-- a declaration with a fault isn't valid
pub not_faulty : (d : Decl) (e : ValidFault) → Reports d e → e ≢ Memory → IsTrue false ↔ IsValid d
not_faulty d e reports known =
    let found = reports known in
    ((λ is_so. absurd (true≢false (sym is_so))), λ valid. absurd (valid_faultless d found.0 valid found.1))

-- ---- an event that gets one reply

-- An enabled event that isn't a pick is judged by whether the given text is that of its reply.
pub judged_other : (old new : Story) (caller : ℕ) (e : Event) (given : TextBytes) (r : Reply) (o : Option TextBytes)
    → (IsPick e → ⊥) → IsEnabled (world_of old) caller e → AddsEntry old new caller e r
    → MatchOption o (given ≡ replied_text r) (λ t. (t ≡ replied_text r) × (given ≢ t)) → IsEntryJudged old new caller e given o
judged_other old new caller e given r None none can tells same = record { reply = r; tells = tells; same = same }
judged_other old new caller e given r (Some t) none can tells other =
    subst (λ (x : TextBytes). Expects (world_of old) (length old.entries + 1) (length old.entries + 1) caller e given x) (sym other.0)
    (Expects.reply r none can tells.step.allowed (λ q allowed same.
    other.1 (same ∙ ap replied_text (replies_once (world_of old) caller e q r none allowed tells.step.allowed) ∙ sym other.0)))

-- ---- picks

-- the row that a pick's reply tells of may be picked
pub told_picks : (w : World) (t i : ℕ) (r : Reply) → IsPickReply w.rows w.next_action t r → picked_by (event.Pick t) r ≡ Some i → MayBePicked w.rows t i
told_picks w t i (reply.Stopping work) it is =
    subst (MayBePicked w.rows t) (some_same work.inc i is) (true, record { undone = it.undone; row = it.row; may = it.may; state = it.on })
told_picks w t i (reply.ShutDown j) it is =
    subst (MayBePicked w.rows t) (some_same j i is) (false, record { undone = it.undone; row = it.row; may = it.may; state = it.off })
told_picks w t i reply.Done it is = absurd (cc is)
told_picks w t i r it is = absurd it

-- a pick's reply is that all is done, or tells of a row
done_or_row : (rows : List Row) (next t : ℕ) (r : Reply) → IsPickReply rows next t r → (r ≡ reply.Done) ⊎ ((i : ℕ) × (picked_by (event.Pick t) r ≡ Some i))
done_or_row rows next t reply.Done it = inl refl
done_or_row rows next t (reply.Stopping work) it = inr (work.inc, refl)
done_or_row rows next t (reply.ShutDown i) it = inr (i, refl)
done_or_row rows next t r it = absurd it

-- Where a pick below a row picks an instance, not all below the row is shut.
undone_by : (rows : List Row) (next t i : ℕ) (r : Reply) → IsPickReply rows next t r → picked_by (event.Pick t) r ≡ Some i → is_subtree_shut rows t ≡ false
undone_by rows next t i reply.Done it is = absurd (cc is)
undone_by rows next t i (reply.Stopping work) it is = it.undone
undone_by rows next t i (reply.ShutDown j) it is = it.undone
undone_by rows next t i r it is = absurd it

-- Where a pick below a row is answered that it is done, all below the row is shut.
done_by : (rows : List Row) (next t : ℕ) (r : Reply) → r ≡ reply.Done → IsPickReply rows next t r → IsTrue (is_subtree_shut rows t)
done_by rows next t r is it = subst (IsPickReply rows next t) is it

-- no row is on and off
on_and_off : (rows : List Row) (i j : ℕ) (r s : Row) → i ≡ j → row_of rows i ≡ Some r → row_of rows j ≡ Some s → r.on ≡ true → s.on ≡ false → ⊥
on_and_off rows i j r s same lives there on off =
    let one : r ≡ s = some_same r s (sym lives ∙ ap (row_of rows) same ∙ there) in
    true≢false (sym on ∙ ap (λ x. x.on) one ∙ off)

-- replies that tell of one row are one
same_pick : (rows : List Row) (next t i : ℕ) (r q : Reply) → IsPickReply rows next t r → IsPickReply rows next t q → picked_by (event.Pick t) r ≡ Some i → picked_by (event.Pick t) q ≡ Some i → r ≡ q
same_pick rows next t i (reply.Stopping v) (reply.Stopping w) a b is so =
    let same : v.inc ≡ w.inc = some_same v.inc w.inc (is ∙ sym so) in
    ap reply.Stopping (one_stop rows next v w a.row b.row same a.may.row b.may.row a.same b.same)
same_pick rows next t i (reply.Stopping v) (reply.ShutDown j) a b is so = absurd (on_and_off rows v.inc j a.row b.row (some_same v.inc j (is ∙ sym so)) a.may.row b.may.row a.on b.off)
same_pick rows next t i (reply.ShutDown j) (reply.Stopping v) a b is so = absurd (on_and_off rows v.inc j b.row a.row (some_same v.inc j (so ∙ sym is)) b.may.row a.may.row b.on a.off)
same_pick rows next t i (reply.ShutDown j) (reply.ShutDown k) a b is so = ap reply.ShutDown (some_same j k (is ∙ sym so))
same_pick rows next t i reply.Done q a b is so = absurd (cc is)
same_pick rows next t i r reply.Done a b is so = absurd (cc so)
same_pick rows next t i (reply.Stopping v) q a b is so = absurd b
same_pick rows next t i (reply.ShutDown j) q a b is so = absurd b
same_pick rows next t i r q a b is so = absurd a

-- the row of a reply that a pick may get has 64 bits
pub pick_fits : (s : Story) → Legal (start s.frame) s.entries → (t i : ℕ) (r : Reply) → IsPickReply (world_of s).rows (world_of s).next_action t r → picked_by (event.Pick t) r ≡ Some i → i < 2 ^ 64
unfolding world_of
pick_fits s legal t i r it is =
    let may = told_picks (world_of s) t i r it is in
    row_fits s.frame s.entries legal i may.1.row may.1.may.row

-- A pick of the row that the given text tells is judged by whether that text is its reply's.
pub judged_this : (old new : Story) (caller t row : ℕ) (given : TextBytes) (r : Reply) (o : Option TextBytes)
    → Legal (start old.frame) old.entries → PicksThis old new caller t row r → TellsRow given (Some row)
    → MatchOption o (given ≡ replied_text r) (λ x. (x ≡ other_pick_text) × (given ≢ replied_text r))
    → IsEntryJudged old new caller (event.Pick t) given o
judged_this old new caller t row given r None legal picks tells same = record { reply = r; tells = picks.step; same = same }
judged_this old new caller t row given r (Some x) legal picks tells other =
    subst (λ (y : TextBytes). Expects (world_of old) (length old.entries + 1) (length old.entries + 1) caller (event.Pick t) given y) (sym other.0)
    (Expects.other_pick picks.step.step.enabled (λ q allowed same. by q allowed same (done_or_row (world_of old).rows (world_of old).next_action t q allowed)))
  where
    by : (q : Reply) → Allowed (world_of old) caller (event.Pick t) q → given ≡ replied_text q → (q ≡ reply.Done) ⊎ ((i : ℕ) × (picked_by (event.Pick t) q ≡ Some i)) → ⊥
    by q allowed same (inl done) = true≢false (sym (done_by (world_of old).rows (world_of old).next_action t q done allowed) ∙ undone_by (world_of old).rows (world_of old).next_action t row r picks.step.step.allowed picks.this)
    by q allowed same (inr tell) =
        let here : tell.0 ≡ row = tells t tell.0 q tell.1 (pick_fits old legal t tell.0 q allowed tell.1) same in
        other.1 (same ∙ ap replied_text (same_pick (world_of old).rows (world_of old).next_action t row q r allowed picks.step.step.allowed (tell.1 ∙ ap Some here) picks.this))

-- where the row that is told may not be picked, or none is told
pub tells_none : (s : Story) → Legal (start s.frame) s.entries → (t : ℕ) (given : TextBytes) → TellsRow given None → TellsNoPick (world_of s) t given
tells_none s legal t given tells i r it is same = tells t i r is (pick_fits s legal t i r it is) same

-- Where the row that a text tells may not be picked, no reply that chooses a row has that text.
pub tells_other : (s : Story) → Legal (start s.frame) s.entries → (t row : ℕ) (given : TextBytes) → TellsRow given (Some row) → (MayBePicked (world_of s).rows t row → ⊥) → TellsNoPick (world_of s) t given
tells_other s legal t row given tells may i r it is same =
    may (subst (MayBePicked (world_of s).rows t) (tells t i r is (pick_fits s legal t i r it is) same) (told_picks (world_of s) t i r it is))

-- A pick that tells of no instance is judged right by the realm's own pick and the text of its reply.
pub judged_own : (old new : Story) (caller t : ℕ) (given : TextBytes) (r : Reply) (o : Option TextBytes)
    → TellsNoPick (world_of old) t given → AddsEntry old new caller (event.Pick t) r
    → MatchOption o (given ≡ replied_text r) (λ x. (x ≡ other_pick_text) × (given ≢ replied_text r))
    → IsEntryJudged old new caller (event.Pick t) given o
judged_own old new caller t given r None none tells same = record { reply = r; tells = tells; same = same }
judged_own old new caller t given r (Some x) none tells other =
    subst (λ (y : TextBytes). Expects (world_of old) (length old.entries + 1) (length old.entries + 1) caller (event.Pick t) given y) (sym other.0)
    (Expects.other_pick tells.step.enabled (λ q allowed same. by q allowed same (done_or_row (world_of old).rows (world_of old).next_action t q allowed) (done_or_row (world_of old).rows (world_of old).next_action t r tells.step.allowed)))
  where
    by : (q : Reply) → Allowed (world_of old) caller (event.Pick t) q → given ≡ replied_text q → (q ≡ reply.Done) ⊎ ((i : ℕ) × (picked_by (event.Pick t) q ≡ Some i)) → (r ≡ reply.Done) ⊎ ((i : ℕ) × (picked_by (event.Pick t) r ≡ Some i)) → ⊥
    by q allowed same (inr tell) own = none tell.0 q allowed tell.1 same
    by q allowed same (inl done) (inl own) = other.1 (same ∙ ap replied_text (done ∙ sym own))
    by q allowed same (inl done) (inr own) = true≢false (sym (done_by (world_of old).rows (world_of old).next_action t q done allowed) ∙ undone_by (world_of old).rows (world_of old).next_action t own.0 r tells.step.allowed own.1)

-- ---- the same, of what functions return

-- The answer on all else answers whether an event is enabled, where a valid declaration is brought.
pub enabled_by : (w : World) (caller : ℕ) (e : Event) (a : Bool) (r : Result Bool Want) → a ≡ true → (IsTrue a ↔ BringsValid e) → IfOk r (λ b. IsTrue b ↔ IsEnabledBut w caller e) → IfOk r (λ b. IsTrue b ↔ IsEnabled w caller e)
enabled_by w caller e a (Ok b) is valid but = is_enabled_by w caller e a b is valid but
enabled_by w caller e a (Err m) is valid but = tt

-- Whether the declaration of an end is valid answers whether the event brings a valid one.
pub brings_by : (e : Event) (a : ℕ) (f : Finish) (url : TextBytes) (d : Decl) (r : Result Bool Want) → e ≡ event.End a f → f ≡ finish.Resolved url d → IfOk r (λ b. IsTrue b ↔ IsValid d) → IfOk r (λ b. IsTrue b ↔ BringsValid e)
brings_by e a f url d r is so told = subst (λ (x : Event). IfOk r (λ b. IsTrue b ↔ BringsValid x)) (sym (is ∙ ap (event.End a) so)) told

-- Where the event isn't enabled, what is expected in the reply's place is `no-such-step`.
pub no_step_by : (w : World) (next caller : ℕ) (e : Event) (given text : TextBytes) (b : Bool) → b ≡ false → (IsTrue b ↔ IsEnabled w caller e) → text ≡ no_step_text → Expects w next next caller e given text
no_step_by w next caller e given text b none told same =
    subst (λ (x : TextBytes). Expects w next next caller e given x) (sym same) (Expects.no_step (λ h. true≢false (sym (told.1 h) ∙ none)))

-- a pick for a target that lives and isn't being shut down
pub unclosing_by : (w : World) (next caller t : ℕ) (given text : TextBytes) (b : Bool) → b ≡ false → b ≡ may_close w.rows t → text ≡ no_step_text → Expects w next next caller (event.Pick t) given text
unclosing_by w next caller t given text b none told same =
    subst (λ (x : TextBytes). Expects w next next caller (event.Pick t) given x) (sym same) (Expects.no_step (λ h. true≢false (sym h.0 ∙ sym told ∙ none)))

-- The judgement of an enabled event that isn't a pick is right, where one is given.
pub judged_other_by : (old new : Story) (caller : ℕ) (e : Event) (given : TextBytes) (r : Reply) (o : Result (Option TextBytes) Want)
    → (IsPick e → ⊥) → IsEnabled (world_of old) caller e → AddsEntry old new caller e r
    → IfOk o (λ x. MatchOption x (given ≡ replied_text r) (λ t. (t ≡ replied_text r) × (given ≢ t))) → IfOk o (λ x. IsEntryJudged old new caller e given x)
judged_other_by old new caller e given r (Ok o) none can tells told = judged_other old new caller e given r o none can tells told
judged_other_by old new caller e given r (Err m) none can tells told = tt

-- A pick whose given text tells no row that may be picked is judged rightly by its own reply.
pub judged_own_by : (old new : Story) (caller t : ℕ) (given : TextBytes) (r : Reply) (o : Result (Option TextBytes) Want)
    → TellsNoPick (world_of old) t given → AddsEntry old new caller (event.Pick t) r
    → IfOk o (λ x. MatchOption x (given ≡ replied_text r) (λ y. (y ≡ other_pick_text) × (given ≢ replied_text r))) → IfOk o (λ x. IsEntryJudged old new caller (event.Pick t) given x)
judged_own_by old new caller t given r (Ok o) none tells told = judged_own old new caller t given r o none tells told
judged_own_by old new caller t given r (Err m) none tells told = tt

-- The judgement of a pick of the row that the given text tells is right, where one is given.
pub judged_this_by : (old new : Story) (caller t row : ℕ) (given : TextBytes) (r : Reply) (o : Result (Option TextBytes) Want)
    → Legal (start old.frame) old.entries → PicksThis old new caller t row r → TellsRow given (Some row)
    → IfOk o (λ x. MatchOption x (given ≡ replied_text r) (λ y. (y ≡ other_pick_text) × (given ≢ replied_text r))) → IfOk o (λ x. IsEntryJudged old new caller (event.Pick t) given x)
judged_this_by old new caller t row given r (Ok o) legal picks tells told = judged_this old new caller t row given r o legal picks tells told
judged_this_by old new caller t row given r (Err m) legal picks tells told = tt
