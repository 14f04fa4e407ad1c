-- What the entries of other callers leave: who began an action may still end it, and who joined one is still joined.
use Rattle.std.proofs.Common.{◌≡◌, ℕ, ◌==◌, List, [], ◌∷◌, ◌++◌, Bool, true, false, true≢false, cond, ◌||◌, Option, Some, None, refl, sym, ◌∙◌, ap, subst, IsTrue}
use Rattle.std.specs.List.{list_any}
use Rattle.std.proofs.lemmas.List.Folds.{list_any-append}
use Rattle.std.specs.Cmp.{unsigned_Decides, first_so}
use Rattle.std.proofs.lemmas.Bool.{or_left, and_left}
use Rattle.cm_world.specs.declared.action.Act.{Act}
use Rattle.cm_world.specs.declared.action.Join.{Join}
use Rattle.cm_world.specs.declared.action.ActKind.TheVariants.{Stop}
use Rattle.cm_world.specs.declared.action.Finish.{Finish}
use Rattle.cm_world.specs.declared.action.Outcome.{Outcome}
use Rattle.cm_world.specs.declared.event.Event.{Event}
use Rattle.cm_world.specs.declared.event.Event.TheVariants.{Begin, End, Await, Create, Mark, Pick, Purge, Exited}
use Rattle.cm_world.specs.declared.reply.Reply.{Reply}
use Rattle.cm_world.specs.declared.reply.Reply.TheVariants as reply
use Rattle.cm_world.specs.declared.reply.Entry.{Entry}
use Rattle.cm_world.specs.Edits.{drop_first}
use Rattle.cm_world.specs.World.{World, act_of}
use Rattle.cm_world.specs.End.{put_outcome, ended}
use Rattle.cm_world.specs.Step.{MayEnd, IsEnabled, is_join}
use Rattle.cm_world.specs.After.{new_act, with_end_of, moved, after}
use Rattle.cm_world.specs.Legal.{IsStep}
use Rattle.cm_world.proofs.lemmas.trees.Finding.{some_same}
use Rattle.cm_laws.proofs.lemmas.actions.Tasks.{find_left, edit_other}

-- ---- actions

-- Who may end an action still may with one more action.
longer : (acts : List Act) (x : Act) (caller a : ℕ) (f : Finish) → MayEnd acts caller a f → MayEnd (acts ++ x ∷ []) caller a f
longer acts x caller a f may = record {
  act = may.act;
  there = find_left (λ y. y.action == a) acts (x ∷ []) may.act may.there;
  pending = may.pending;
  own = may.own;
  fitting = may.fitting;
  valid = may.valid;
}

-- two callers may not end one action
apart : (acts : List Act) (other caller b a : ℕ) (g f : Finish) → (other ≡ caller → ⊥) → MayEnd acts other b g → MayEnd acts caller a f → a ≡ b → ⊥
apart acts other caller b a g f differ theirs mine same =
    let one : mine.act ≡ theirs.act = some_same mine.act theirs.act (sym mine.there ∙ ap (act_of acts) same ∙ theirs.there) in
    differ (sym theirs.own ∙ sym (ap (λ x. x.by) one) ∙ mine.own)

-- Who may end an action still may once another has ended.
another_ended : (acts : List Act) (b : ℕ) (o : Outcome) (caller a : ℕ) (f : Finish) → (a ≡ b → ⊥) → MayEnd acts caller a f → MayEnd (ended b o acts) caller a f
another_ended acts b o caller a f differ may = record {
  act = may.act;
  there = edit_other (λ x. x.action) b (put_outcome o) (λ x. refl) a acts differ ∙ may.there;
  pending = may.pending;
  own = may.own;
  fitting = may.fitting;
  valid = may.valid;
}

module _ (caller a : ℕ) (f : Finish) where
  -- Who may end an action still may in the world in which another has ended.
  ended_by : (w : World) (b : ℕ) (g : Finish) (o : Outcome) (x : Option Act) → (a ≡ b → ⊥) → MayEnd w.acts caller a f → MayEnd (with_end_of w b g o x).acts caller a f
  ended_by w b g o None differ may = may
  ended_by w b g o (Some y) differ may = another_ended w.acts b o caller a f differ may

  -- Who may end an action still may behind an event of another caller.
  may_moved : (w : World) (other : ℕ) (e : Event) (r : Reply) → IsEnabled w other e → (other ≡ caller → ⊥) → MayEnd w.acts caller a f → MayEnd (moved w other e r).acts caller a f
  may_moved w other (Begin kind i) (reply.Begun work) can differ may = longer w.acts (new_act w.next_action kind i other) caller a f may
  may_moved w other (End b g) (reply.Ended o) can differ may = ended_by w b g o (act_of w.acts b) (apart w.acts other caller b a g f differ can may) may
  may_moved w other (Pick t) (reply.Stopping work) can differ may = longer w.acts (new_act w.next_action Stop work.inc other) caller a f may
  may_moved w other (Begin kind i) (reply.Joined b) can differ may = may
  may_moved w other (Await b) (reply.Ended o) can differ may = may
  may_moved w other (Create p child) (reply.Created i) can differ may = may
  may_moved w other (Mark doom i) reply.Marked can differ may = may
  may_moved w other (Pick t) (reply.ShutDown i) can differ may = may
  may_moved w other (Purge i) (reply.Purged lost) can differ may = may
  may_moved w other (Exited i) (reply.Left m) can differ may = may
  may_moved w other e r can differ may = may

  -- an action that a caller may end it may end behind the entry of another
  pub may_end_stays : (w : World) (e : Entry) → IsStep w e → (e.caller ≡ caller → ⊥) → MayEnd w.acts caller a f → MayEnd (after w e).acts caller a f
  unfolding after
  may_end_stays w e step differ may = may_moved w e.caller e.event e.reply step.enabled differ may

-- ---- joins

-- A join that is among some is so with more behind them.
any_left : (p : Join → Bool) (xs ys : List Join) → IsTrue (list_any p xs) → IsTrue (list_any p (xs ++ ys))
any_left p xs ys e = list_any-append p xs ys ∙ ap (λ b. b || list_any p ys) e

-- A join that is among some is so where one more may have been put at the end.
joined_by : (b : Bool) (p : Join → Bool) (x : Join) (xs : List Join) → IsTrue (list_any p xs) → IsTrue (list_any p (cond b xs (xs ++ x ∷ [])))
joined_by true p x xs e = e
joined_by false p x xs e = any_left p xs (x ∷ []) e

-- A join that is among some is so where one of another is dropped, join by join.
dropped_by : (b t : Bool) (p q : Join → Bool) (x : Join) (xs : List Join) → q x ≡ b → p x ≡ t → (IsTrue (p x) → q x ≡ false) → (IsTrue (list_any p xs) → IsTrue (list_any p (drop_first q xs))) → IsTrue (p x || list_any p xs) → IsTrue (list_any p (cond b xs (x ∷ drop_first q xs)))
dropped_by true true p q x xs hits mine apart more e = absurd (true≢false (sym hits ∙ apart mine))
dropped_by true false p q x xs hits mine apart more e = subst (λ t. IsTrue (t || list_any p xs)) mine e
dropped_by false true p q x xs hits mine apart more e = or_left (p x) (list_any p (drop_first q xs)) mine
dropped_by false false p q x xs hits mine apart more e =
    subst (λ t. IsTrue (t || list_any p (drop_first q xs))) (sym mine) (more (subst (λ t. IsTrue (t || list_any p xs)) mine e))

-- A join that is among some is so where one of another is dropped.
any_dropped : (p q : Join → Bool) (xs : List Join) → ((x : Join) → IsTrue (p x) → q x ≡ false) → IsTrue (list_any p xs) → IsTrue (list_any p (drop_first q xs))
any_dropped p q [] apart e = e
any_dropped p q (x ∷ xs) apart e =
    dropped_by (q x) (p x) p q x xs refl refl (apart x) (any_dropped p q xs apart) e

-- A number that is the one caller doesn't compare as the other.
callers_differ : (n other caller : ℕ) (t : Bool) → (other ≡ caller → ⊥) → n ≡ caller → (n == other) ≡ t → t ≡ false
callers_differ n other caller true differ same e = absurd (differ (sym ((unsigned_Decides n other).0 e) ∙ same))
callers_differ n other caller false differ same e = refl

-- a join of one caller is none of another
not_theirs : (other caller b a : ℕ) (j : Join) → (other ≡ caller → ⊥) → IsTrue (is_join caller a j) → is_join other b j ≡ false
not_theirs other caller b a j differ mine =
    let same : j.caller ≡ caller = (unsigned_Decides j.caller caller).0 (first_so (j.caller == caller) (j.action == a) mine) in
    and_left (j.caller == other) (j.action == b) (callers_differ j.caller other caller (j.caller == other) differ same refl)

module _ (caller a : ℕ) where
  -- Who is joined to an action is still so in the world in which an action has ended.
  unended_by : (w : World) (b : ℕ) (g : Finish) (o : Outcome) (x : Option Act) → IsTrue (list_any (is_join caller a) w.joins) → IsTrue (list_any (is_join caller a) (with_end_of w b g o x).joins)
  unended_by w b g o None e = e
  unended_by w b g o (Some y) e = e

  -- Who is joined to an action is still so behind an event of another caller.
  join_moved : (w : World) (other : ℕ) (e : Event) (r : Reply) → (other ≡ caller → ⊥) → IsTrue (list_any (is_join caller a) w.joins) → IsTrue (list_any (is_join caller a) (moved w other e r).joins)
  join_moved w other (Begin kind i) (reply.Joined b) differ mine =
      joined_by (list_any (is_join other b) w.joins) (is_join caller a) (record { caller = other; action = b }) w.joins mine
  join_moved w other (Await b) (reply.Ended o) differ mine =
      any_dropped (is_join caller a) (is_join other b) w.joins (λ j. not_theirs other caller b a j differ) mine
  join_moved w other (End b g) (reply.Ended o) differ mine = unended_by w b g o (act_of w.acts b) mine
  join_moved w other (Begin kind i) (reply.Begun work) differ mine = mine
  join_moved w other (Pick t) (reply.Stopping work) differ mine = mine
  join_moved w other (Create p child) (reply.Created i) differ mine = mine
  join_moved w other (Mark doom i) reply.Marked differ mine = mine
  join_moved w other (Pick t) (reply.ShutDown i) differ mine = mine
  join_moved w other (Purge i) (reply.Purged lost) differ mine = mine
  join_moved w other (Exited i) (reply.Left m) differ mine = mine
  join_moved w other e r differ mine = mine

  -- an action that a caller joined it has joined behind the entry of another
  pub join_stays : (w : World) (e : Entry) → (e.caller ≡ caller → ⊥) → IsTrue (list_any (is_join caller a) w.joins) → IsTrue (list_any (is_join caller a) (after w e).joins)
  unfolding after
  join_stays w e differ mine = join_moved w e.caller e.event e.reply differ mine
