-- Which events are enabled, by what was looked at.
use Rattle.std.proofs.Common.{◌≡◌, ◌≢◌, ℕ, List, Bool, true, false, cond, not, ◌&&◌, ◌||◌, Option, Some, None, IsTrue, is_some, is_none, option_map, true≢false, refl, sym, ◌∙◌, ap, subst, inl, inr, ◌⊎◌}
use Rattle.std.specs.Prelude.{◌↔◌}
use Rattle.std.specs.List.{list_any}
use Rattle.std.specs.Option.{option_map_or}
use Rattle.std.proofs.lemmas.Bool.{and_parts, and_from}
use Rattle.std.proofs.lemmas.Option.{same_Some, none-some}
use Rattle.cm_facts.proofs.Options.{is_some_false, option_map_none}
use Rattle.cm_world.specs.declared.row.Row.{Row}
use Rattle.cm_world.specs.declared.action.Act.{Act}
use Rattle.cm_world.specs.declared.action.Join.{Join}
use Rattle.cm_world.specs.declared.action.ActKind.{ActKind}
use Rattle.cm_world.specs.declared.action.Finish.{Finish}
use Rattle.cm_world.specs.declared.action.Finish.TheVariants as finish
use Rattle.cm_world.specs.declared.event.Event.{Event}
use Rattle.cm_world.specs.declared.event.Event.TheVariants as event
use Rattle.cm_world.specs.declared.reply.Reply.{Reply}
use Rattle.cm_world.specs.Rows.{row_of, is_live, is_gone, has_doomed, is_subtree_shut}
use Rattle.cm_world.specs.RowsInside.{facts_of}
use Rattle.cm_world.specs.World.{World, act_of, outcome_of}
use Rattle.cm_world.specs.Begin.{same_act, begin_at, begin_reply}
use Rattle.cm_world.specs.End.{fits_kind, HasValid}
use Rattle.cm_world.specs.Reports.{exit_reply}
use Rattle.cm_world.specs.Step.{MayEnd, MayAwait, is_join, may_close, may_purge, IsEnabled}
use Rattle.cm_world.specs.Stopping.{CanPick}
use Rattle.cm_order.specs.Picking.{IsPicked, PicksNow, PickWaitsFor}
use Rattle.cm_order.specs.declared.picking.Picked.{Picked}
use Rattle.cm_order.specs.declared.picking.Picked.TheVariants.{StopNow, ShutNow, Waits, Done}
use Rattle.cm_steps.specs.Enabled.{goes_with, MayEndBut, IsEnabledBut, BringsValid, EnabledByBoth}

-- ---- tests

-- Of two tests that say the same, one passes exactly where the other does.
pub true_iff : (a b : Bool) → a ≡ b → IsTrue a ↔ IsTrue b
true_iff a b e = (λ h. sym e ∙ h, λ h. e ∙ h)

-- What holds in any case holds exactly where a test does that always passes.
pub always_so : {P : Type 0} → P → IsTrue true ↔ P
always_so it = (λ yes. it, λ h. refl)

-- What is enabled in one tree is so in the same tree for the same event.
pub is_so : (v w : World) (caller : ℕ) (e f : Event) (b : Bool) → v ≡ w → e ≡ f → IsTrue b ↔ IsEnabledBut w caller f → IsTrue b ↔ IsEnabledBut v caller e
is_so v w caller e f b same is h =
    subst (λ x. IsTrue b ↔ IsEnabledBut x caller e) (sym same) (subst (λ x. IsTrue b ↔ IsEnabledBut w caller x) (sym is) h)

-- ---- what was told of a row

-- where no facts are told, none lives
pub dead_is : (rows : List Row) (i : ℕ) → None ≡ option_map facts_of (row_of rows i) → row_of rows i ≡ None
dead_is rows i e = option_map_none facts_of (row_of rows i) (sym e)

-- ---- begins

-- A reply under a condition is there exactly where the condition holds.
some_if : (b : Bool) (r : Reply) → is_some (cond b (Some r) None) ≡ b
some_if true r = refl
some_if false r = refl

-- A begin at a row is answered exactly where it goes with what is pending.
at_by : (rows : List Row) (next : ℕ) (k : ActKind) (r : Row) (o : Option (ActKind × ℕ)) → r.pending ≡ o → is_some (begin_at rows next k r) ≡ goes_with k o
at_by rows next k r None e = rw e refl
at_by rows next k r (Some p) e = rw e (some_if (same_act k p.0) _)

-- A begin at an instance that is gone gets a reply.
pub begin_gone : (rows : List Row) (next : ℕ) (k : ActKind) (i : ℕ) → is_gone rows i ≡ true → is_some (begin_reply rows next k i) ≡ true
begin_gone rows next k i gone = rw gone refl

-- A begin at an incarnation that isn't gone, but has no row, gets a reply.
pub begin_dead : (rows : List Row) (next : ℕ) (k : ActKind) (i : ℕ) → is_gone rows i ≡ false → row_of rows i ≡ None → is_some (begin_reply rows next k i) ≡ true
begin_dead rows next k i gone dead = rw (gone, dead) refl

-- A begin at a row that isn't gone gets a reply exactly where what is pending there goes with it.
pub begin_by : (rows : List Row) (next : ℕ) (k : ActKind) (i : ℕ) (r : Row) (o : Option (ActKind × ℕ)) → is_gone rows i ≡ false → row_of rows i ≡ Some r → r.pending ≡ o → is_some (begin_reply rows next k i) ≡ goes_with k o
begin_by rows next k i r o gone lives pending = rw (gone, lives) (at_by rows next k r o pending)

-- ---- exits

-- Of two replies one is there, whichever is taken.
some_either : (b : Bool) (r s : Reply) → is_some (cond b (Some r) (Some s)) ≡ true
some_either true r s = refl
some_either false r s = refl

-- Where there is a value exactly if a test fails, the test says that there is none.
pub none_if : {A : Type 0} (o : Option A) (b : Bool) → is_some o ≡ not b → b ≡ is_none o
none_if None true e = refl
none_if None false e = absurd (true≢false (sym e))
none_if (Some x) true e = absurd (true≢false e)
none_if (Some x) false e = refl

-- An exit of an incarnation that has no row gets a reply.
pub exit_dead : (rows : List Row) (i : ℕ) → row_of rows i ≡ None → is_some (exit_reply rows i) ≡ true
exit_dead rows i dead = rw (dead, is_some) refl

-- An exit of a row gets a reply exactly where no action is pending there.
pub exit_by : (rows : List Row) (i : ℕ) (r : Row) (o : Option (ActKind × ℕ)) → row_of rows i ≡ Some r → r.pending ≡ o → is_some (exit_reply rows i) ≡ is_none o
exit_by rows i r None lives pending = rw (lives, pending, is_some) (some_either r.on _ _)
exit_by rows i r (Some p) lives pending = rw (lives, pending, is_some) refl

-- ---- purges

-- A row that doesn't live any more may be purged.
pub purge_dead : (rows : List Row) (i : ℕ) → row_of rows i ≡ None → may_purge rows i ≡ true
purge_dead rows i dead = rw dead refl

-- A row that lives may be purged exactly where it is doomed, and shut with all below it.
pub purge_by : (rows : List Row) (i : ℕ) (r : Row) (d : Bool) → row_of rows i ≡ Some r → r.doomed ≡ d → may_purge rows i ≡ (d && is_subtree_shut rows i)
purge_by rows i r d lives doomed =
    ap (λ (o : Option Row). not (is_some o) || (option_map_or (λ s. s.doomed) o false && is_subtree_shut rows i)) lives
    ∙ ap (λ b. b && is_subtree_shut rows i) doomed

-- ---- ends

-- An action that isn't there may not be ended.
pub no_act : (acts : List Act) (caller a : ℕ) (f : Finish) → None ≡ act_of acts a → MayEndBut acts caller a f → ⊥
no_act acts caller a f none it = none-some it.act (none ∙ it.there)

-- The action that the caller may end is the one that was found.
same_act_of : (acts : List Act) (caller a : ℕ) (f : Finish) (x : Act) → Some x ≡ act_of acts a → (it : MayEndBut acts caller a f) → it.act ≡ x
same_act_of acts caller a f x found it = same_Some it.act x (sym it.there ∙ sym found)

-- An action that has an outcome may not be ended once more.
pub has_ended : (acts : List Act) (caller a : ℕ) (f : Finish) (x : Act) → Some x ≡ act_of acts a → is_some x.outcome ≡ true → MayEndBut acts caller a f → ⊥
has_ended acts caller a f x found ended it =
    true≢false (sym ended ∙ ap (λ (y : Act). is_some y.outcome) (sym (same_act_of acts caller a f x found it)) ∙ ap is_some it.pending)

-- An action may not be ended by another caller than the one that began it.
pub not_own : (acts : List Act) (caller a : ℕ) (f : Finish) (x : Act) → Some x ≡ act_of acts a → x.by ≢ caller → MayEndBut acts caller a f → ⊥
not_own acts caller a f x found other it =
    other (ap (λ (y : Act). y.by) (sym (same_act_of acts caller a f x found it)) ∙ it.own)

-- Who began an open action may end it, but for validity, exactly where the end fits its kind.
pub ends_if : (acts : List Act) (caller a : ℕ) (f : Finish) (x : Act) (b : Bool) → Some x ≡ act_of acts a → is_some x.outcome ≡ false → x.by ≡ caller → b ≡ fits_kind x.kind f → IsTrue b ↔ MayEndBut acts caller a f
ends_if acts caller a f x b found unended own fits = (
  λ h. record { act = x; there = sym found; pending = is_some_false x.outcome unended; own = own; fitting = sym fits ∙ h },
  λ it. fits ∙ ap (λ (y : Act). fits_kind y.kind f) (sym (same_act_of acts caller a f x found it)) ∙ it.fitting,
)

-- ---- awaits

-- A caller may await an action exactly where it has a join with it and the action has an outcome.
pub awaits_if : (acts : List Act) (joins : List Join) (caller a : ℕ) (waits ended : Bool) → waits ≡ list_any (is_join caller a) joins → ended ≡ is_some (outcome_of acts a) → IsTrue (waits && ended) ↔ MayAwait acts joins caller a
awaits_if acts joins caller a waits ended w o = (
  λ h. let both = and_parts waits ended h in record { joined = sym w ∙ both.0; ended = sym o ∙ both.1 },
  λ it. and_from waits ended (w ∙ it.joined) (o ∙ it.ended),
)

-- ---- picks

-- A shutdown may go on: all of its target is shut, or a pick has some row to choose.
abbrev pub HasPick : List Row → ℕ → Type 0
HasPick rows t = IsTrue (may_close rows t) × (IsTrue (is_subtree_shut rows t) ⊎ CanPick rows t)

-- Where the shutdown of a row may not go on, no pick is enabled there.
pub not_closing : (rows : List Row) (t : ℕ) → may_close rows t ≡ false → HasPick rows t → ⊥
not_closing rows t no_way it = true≢false (sym it.0 ∙ no_way)

-- Where a pick waits for an action, it isn't enabled.
pub waiting : (rows : List Row) (t a : ℕ) → PickWaitsFor rows t a → HasPick rows t → ⊥
waiting rows t a waits it = elim it.1 [
  | inl shut ↦ true≢false (sym shut ∙ waits.undone)
  | inr can ↦ waits.stuck can
]

-- Where this row may be picked now, a pick in the shutdown of the target has some row to choose.
pub can_pick : (rows : List Row) (t y : ℕ) (on : Bool) → PicksNow rows t y on → CanPick rows t
can_pick rows t y on it = record { inc = y; row = it.row; may = it.may }

-- ---- the law

-- An event is enabled exactly where it is so but for validity, and what it brings is valid.
pub enabled_by_both_lem : EnabledByBoth
enabled_by_both_lem w caller (event.Find m) = (λ it. (it, tt), λ it. it.0)
enabled_by_both_lem w caller (event.Begin k i) = (λ it. (it, tt), λ it. it.0)
enabled_by_both_lem w caller (event.End a f) = (
  λ it. (record { act = it.act; there = it.there; pending = it.pending; own = it.own; fitting = it.fitting }, it.valid),
  λ it. record { act = it.0.act; there = it.0.there; pending = it.0.pending; own = it.0.own; fitting = it.0.fitting; valid = it.1 },
)
enabled_by_both_lem w caller (event.Await a) = (λ it. (it, tt), λ it. it.0)
enabled_by_both_lem w caller (event.Create i child) = (λ it. (it, tt), λ it. it.0)
enabled_by_both_lem w caller (event.Mark d i) = (λ it. (it, tt), λ it. it.0)
enabled_by_both_lem w caller (event.Pick t) = (λ it. (it, tt), λ it. it.0)
enabled_by_both_lem w caller (event.Purge i) = (λ it. (it, tt), λ it. it.0)
enabled_by_both_lem w caller (event.Route i p) = (λ it. (it, tt), λ it. it.0)
enabled_by_both_lem w caller (event.OpenUse i p) = (λ it. (it, tt), λ it. it.0)
enabled_by_both_lem w caller (event.OpenExposed i n) = (λ it. (it, tt), λ it. it.0)
enabled_by_both_lem w caller (event.Listing i c) = (λ it. (it, tt), λ it. it.0)
enabled_by_both_lem w caller (event.Show i) = (λ it. (it, tt), λ it. it.0)
enabled_by_both_lem w caller (event.Survey i) = (λ it. (it, tt), λ it. it.0)
enabled_by_both_lem w caller (event.Exited i) = (λ it. (it, tt), λ it. it.0)
enabled_by_both_lem w caller (event.Tail i f) = (λ it. (it, tt), λ it. it.0)
enabled_by_both_lem w caller (event.Reap i) = (λ it. (it, tt), λ it. it.0)
