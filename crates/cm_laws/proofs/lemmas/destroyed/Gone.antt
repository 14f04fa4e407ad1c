-- What was destroyed stays gone: in every later tree it is gone, who asks it for something is told so, and no other reply
-- names it.
use Rattle.std.proofs.Common.{◌≡◌, ℕ, ◌<◌, ◌≤◌, List, [], ◌∷◌, ◌++◌, map, Bool, true, false, cond, not, ◌||◌, true≢false, Option, Some, None, is_some, IsTrue, refl, sym, ◌∙◌, ap, subst, arith, inl, inr, ◌⊎◌, ⊎_elim, append_assoc}
use Rattle.std.specs.Prelude.{Contains}
use Rattle.std.specs.List.{list_all}
use Rattle.std.specs.Option.{IfSome}
use Rattle.std.specs.Cmp.{unsigned_Decides, first_so, second_so}
use Rattle.std.proofs.lemmas.List.Elements.{All-contains, Contains-append_cases}
use Rattle.std.proofs.lemmas.List.Sums.{AllPass-from_list_all}
use Rattle.std.proofs.lemmas.List.Folds.{list_all-map}
use Rattle.std.proofs.lemmas.Bool.{not-true}
use Rattle.cm_names.specs.declared.moniker.Moniker.{Moniker}
use Rattle.cm_facts.proofs.Booleans.{true_and_false}
use Rattle.cm_facts.proofs.Lists.{Contains_one, Contains_none}
use Rattle.cm_world.specs.declared.row.Row.{Row}
use Rattle.cm_world.specs.declared.frame.Frame.{Frame}
use Rattle.cm_world.specs.declared.report.Lost.{Lost}
use Rattle.cm_world.specs.declared.route.Route.{Route}
use Rattle.cm_world.specs.declared.route.Start.TheVariants.{UseAt, ExposeAt}
use Rattle.cm_world.specs.declared.event.Event.{Event}
use Rattle.cm_world.specs.declared.event.Event.TheVariants.{Begin, Create, Find, Purge, Route as RouteOf, OpenUse, OpenExposed, Listing, Show, Survey, Exited, Tail}
use Rattle.cm_world.specs.declared.reply.Reply.{Reply}
use Rattle.cm_world.specs.declared.reply.Reply.TheVariants as reply
use Rattle.cm_world.specs.declared.reply.Entry.{Entry}
use Rattle.cm_world.specs.Rows.{row_of, is_live, is_gone, has_doomed, is_below, subtree}
use Rattle.cm_world.specs.World.{World, start}
use Rattle.cm_world.specs.Find.{found_from}
use Rattle.cm_world.specs.Create.{CreatesUnless, dynamic_name}
use Rattle.cm_world.specs.Marks.{purge_reply, lost_of}
use Rattle.cm_world.specs.Openings.{routed, opened, WalksUnless}
use Rattle.cm_world.specs.Reports.{list_by}
use Rattle.cm_world.specs.Step.{Allowed}
use Rattle.cm_world.specs.After.{others_than, moved, after, dooms}
use Rattle.cm_world.specs.Legal.{IsStep, Legal, replay}
use Rattle.cm_world.specs.Sound.{IsOrderly, IsParent}
use Rattle.cm_world.proofs.lemmas.trees.Finding.{some_same}
use Rattle.cm_world.proofs.lemmas.trees.Histories.{replay-append, replay-push, Legal-split}
use Rattle.cm_trees.proofs.rows.Rows.{lives_below}
use Rattle.cm_trees.proofs.trees.Trees.{climb, or_left, or_right, below_cases, below_lives, below_self}
use Rattle.cm_laws.specs.Destroying.{named_in, asked_of, is_removing, IsDoomed, IsDestroyed, IsPurged, IsShunned, IsForgotten, KeepsGone, LeavesGone}
use Rattle.cm_laws.specs.DestroyingInside.{DoomedAreDestroyed, DestroyedStayGone}
use Rattle.cm_laws.proofs.lemmas.entries.Entries.{of_each_entry}
use Rattle.cm_laws.proofs.lemmas.sound.Above.{above_here, above_up, above_lasts}
use Rattle.cm_laws.proofs.lemmas.sound.Purges.{stood}
use Rattle.cm_laws.proofs.lemmas.sound.Reaps.{doomed_row}
use Rattle.cm_laws.proofs.lemmas.sound.Healthy.{IsHealthy, healthy_after, healthy_history}
use Rattle.cm_laws.proofs.lemmas.lasting.MarksLast.{Goes, goes_after}
use Rattle.cm_laws.proofs.lemmas.destroyed.Standing.{stands, is_doomed}
use Rattle.cm_laws.proofs.lemmas.destroyed.Naming.{all_kept, fits, names_well, reply_well}
use Rattle.cm_laws.proofs.lemmas.destroyed.Rooted.{root_stays}

-- ---- gone, and dead

-- a row that was there, and is gone
record IsGone (w : World) (i : ℕ) : Type 0 where
  known : i < w.next_inc
  gone : IsTrue (is_gone w.rows i)

-- a row that was there, and doesn't live
record IsDead (w : World) (i : ℕ) : Type 0 where
  known : i < w.next_inc
  dead : is_live w.rows i ≡ false

-- A row that was there and doesn't live is gone.
dead_gone : (w : World) (i : ℕ) → IsDead w i → IsGone w i
dead_gone w i it = record {
  known = it.known;
  gone = or_left (not (is_live w.rows i)) (is_doomed w.rows i) (ap not it.dead);
}

-- A row that is doomed, or below a doomed one, is gone.
doomed_gone : (rows : List Row) (i : ℕ) → IsTrue (is_doomed rows i) → IsTrue (is_gone rows i)
doomed_gone rows i doomed = or_right (not (is_live rows i)) (is_doomed rows i) doomed

-- a row that lives is gone where it is doomed, or below a doomed one
gone_doomed : (rows : List Row) (i : ℕ) (r : Row) → row_of rows i ≡ Some r → IsTrue (is_gone rows i) → IsTrue (is_doomed rows i)
gone_doomed rows i r lives gone = sym (ap (λ o. not (is_some o) || is_doomed rows i) lives) ∙ gone

-- ---- an entry

module _ (w v : World) (goes : Goes w v) (i : ℕ) where
  -- An incarnation below the next one is so later too.
  known_still : i < w.next_inc → i < v.next_inc
  known_still low = let high : w.next_inc ≤ v.next_inc = goes.higher in omega arith

  -- a row that lives and was known lived before
  lived_by : i < w.next_inc → ((r : Row) × (row_of w.rows i ≡ Some r)) ⊎ (w.next_inc ≤ i) → (r : Row) × (row_of w.rows i ≡ Some r)
  lived_by low (inl old) = old
  lived_by low (inr new) = absurd (omega arith)

  -- A row that was known before and is there later was there before.
  lived : i < w.next_inc → (s : Row) → row_of v.rows i ≡ Some s → (r : Row) × (row_of w.rows i ≡ Some r)
  lived low s lives = lived_by low (goes.follows.known i s lives)

  -- A row that was there and doesn't live isn't found later.
  dead_by : IsDead w i → (o : Option Row) → row_of v.rows i ≡ o → is_some o ≡ false
  dead_by was None e = refl
  dead_by was (Some s) e =
      let r : (r : Row) × (row_of w.rows i ≡ Some r) = lived was.known s e in
      absurd (true≢false (sym (ap is_some r.1) ∙ was.dead))

  -- A row that was there and doesn't live stays so.
  dead_still : IsDead w i → IsDead v i
  dead_still was = record { known = known_still was.known; dead = dead_by was (row_of v.rows i) refl }

  module _ (before : IsOrderly w.rows w.next_inc) (behind : IsOrderly v.rows v.next_inc) where
    -- A row that is gone isn't there later or is doomed, by what is found.
    gone_by : IsGone w i → (o : Option Row) → row_of v.rows i ≡ o → IsTrue (not (is_some o) || is_doomed v.rows i)
    gone_by was None e = refl
    gone_by was (Some s) e =
        let r : (r : Row) × (row_of w.rows i ≡ Some r) = lived was.known s e in
        above_lasts (λ z. z.doomed) (λ z. z.doomed) w.rows v.rows w.next_inc v.next_inc before behind
        (λ j r s here now. ((goes.follows.lasts j r s here now).parent, (goes.follows.lasts j r s here now).doomed)) i s e (gone_doomed w.rows i r.0 r.1 was.gone)

    -- A row that is gone is gone later.
    gone_still : IsGone w i → IsGone v i
    gone_still was = record { known = known_still was.known; gone = gone_by was (row_of v.rows i) refl }

-- what was there and is gone, or dead, stays so
gone_after : (i : ℕ) (w : World) (e : Entry) → IsHealthy w → IsStep w e → IsGone w i → IsGone (after w e) i
gone_after i w e healthy step was =
    gone_still w (after w e) (goes_after w e step) i healthy.sound.orderly (healthy_after w e healthy step).sound.orderly was

-- A row that was there and doesn't live doesn't after a step.
dead_after : (i : ℕ) (w : World) (e : Entry) → IsHealthy w → IsStep w e → IsDead w i → IsDead (after w e) i
dead_after i w e healthy step was = dead_still w (after w e) (goes_after w e step) i was

-- ---- all entries

-- An entry among others is the first or one behind it.
in_cases : (e x : Entry) (es : List Entry) → Contains (e ∷ es) x → (e ≡ x) ⊎ Contains es x
in_cases e x es there = ⊎_elim (λ first. inl (Contains_one e x first)) (λ later. inr later) (Contains-append_cases (e ∷ []) es x there)

module _ (P : World → Type 0) (keeps : (w : World) (e : Entry) → IsHealthy w → IsStep w e → P w → P (after w e)) where
  -- what each entry keeps stays so
  stays : (w : World) (es : List Entry) → IsHealthy w → Legal w es → P w → P (replay w es)
  stays w [] healthy legal it = it
  stays w (e ∷ es) healthy legal it =
      stays (after w e) es (healthy_after w e healthy legal.0) legal.1 (keeps w e healthy legal.0 it)

  -- and is so from an entry on that makes it so
  since : (x : Entry) → ((w : World) → IsHealthy w → IsStep w x → P (after w x)) → (w : World) (es : List Entry) → IsHealthy w → Legal w es → Contains es x → P (replay w es)
  since x makes w [] healthy legal there = absurd (Contains_none x there)
  since x makes w (e ∷ es) healthy legal there =
      let behind : IsHealthy (after w e) = healthy_after w e healthy legal.0 in
      ⊎_elim (λ same. stays (after w e) es behind legal.1
      (subst (λ z. IsStep w z → P (after w z)) (sym same) (makes w healthy) legal.0))
      (λ later. since x makes (after w e) es behind legal.1 later) (in_cases e x es there)

-- ---- what an entry dooms

-- the row of an entry that dooms it, behind it
row_behind : (w : World) (e : Entry) (i : ℕ) → IsTrue (dooms w e i) → (r : Row) × (row_of (after w e).rows i ≡ Some r) × (r.doomed ≡ true)
row_behind w e i it =
    doomed_row (after w e).rows i (second_so (not (has_doomed w.rows i)) (has_doomed (after w e).rows i) it)

-- A row that an entry dooms is gone after it.
dooms_gone : (w : World) (e : Entry) (i : ℕ) → IsHealthy (after w e) → IsTrue (dooms w e i) → IsGone (after w e) i
dooms_gone w e i healthy it =
    let orderly : IsOrderly (after w e).rows (after w e).next_inc = healthy.sound.orderly in
    let found : (r : Row) × (row_of (after w e).rows i ≡ Some r) × (r.doomed ≡ true) = row_behind w e i it in
    record {
      known = lives_below (after w e).rows (after w e).next_inc i found.0 orderly.increasing found.1;
      gone = doomed_gone (after w e).rows i (above_here (λ r. r.doomed) (after w e).rows (after w e).next_inc orderly i found.0 found.1 found.2);
    }

-- A row that is doomed counts as destroyed from then on.
pub doomed_are_destroyed : DoomedAreDestroyed
doomed_are_destroyed f es i legal it =
    let w : World = replay (start f) it.prefix in
    let both : Legal (start f) it.prefix × Legal w (it.entry ∷ it.rest) = Legal-split (start f) it.prefix (it.entry ∷ it.rest) (subst (Legal (start f)) it.whole legal) in
    let healthy : IsHealthy (after w it.entry) = healthy_after w it.entry (healthy_history f it.prefix both.0) both.1.0 in
    let found : (r : Row) × (row_of (after w it.entry).rows i ≡ Some r) × (r.doomed ≡ true) = row_behind w it.entry i it.dooms in
    record {
      first = it.prefix ++ it.entry ∷ [];
      rest = it.rest;
      whole = it.whole ∙ sym (append_assoc it.prefix (it.entry ∷ []) it.rest);
      top = i;
      doomed = record { prefix = it.prefix; entry = it.entry; rest = []; whole = refl; dooms = it.dooms };
      below =
          subst (λ v. IsTrue (is_below v.rows i i)) (sym (replay-push (start f) it.prefix it.entry))
          (below_self (after w it.entry).rows (after w it.entry).next_inc healthy.sound.orderly i found.0 found.1);
    }

-- what was doomed is gone in the tree that is left
doomed_stays : (f : Frame) (es : List Entry) (i : ℕ) → Legal (start f) es → IsDoomed f es i → IsGone (replay (start f) es) i
doomed_stays f es i legal it =
    let w : World = replay (start f) it.prefix in
    let both : Legal (start f) it.prefix × Legal w (it.entry ∷ it.rest) = Legal-split (start f) it.prefix (it.entry ∷ it.rest) (subst (Legal (start f)) it.whole legal) in
    let healthy : IsHealthy (after w it.entry) = healthy_after w it.entry (healthy_history f it.prefix both.0) both.1.0 in
    subst (λ v. IsGone v i) (sym (ap (replay (start f)) it.whole ∙ replay-append (start f) it.prefix (it.entry ∷ it.rest)))
    (stays (λ v. IsGone v i) (gone_after i) (after w it.entry) it.rest healthy both.1.1 (dooms_gone w it.entry i healthy it.dooms))

-- what is at or below a row that is gone is gone
gone_below : (rows : List Row) (next top i : ℕ) → IsOrderly rows next → IsTrue (is_gone rows top) → IsTrue (is_below rows top i) → IsTrue (is_gone rows i)
gone_below rows next top i orderly gone below =
    let row : (r : Row) × (row_of rows i ≡ Some r) = below_lives rows next orderly top i below in
    climb rows next orderly (λ j. IsTrue (is_below rows top j) → IsTrue (is_gone rows j)) step i row.0 row.1 below
  where
    step : (j : ℕ) (r : Row) → row_of rows j ≡ Some r → ((p : ℕ) → r.parent ≡ Some p → IsTrue (is_below rows top p) → IsTrue (is_gone rows p)) → IsTrue (is_below rows top j) → IsTrue (is_gone rows j)
    step j r lives up below = elim (below_cases rows next orderly top j r lives below) [
      | inl same ↦ subst (λ z. IsTrue (is_gone rows z)) (sym same) gone
      | inr above ↦
          let parent : IsParent rows above.0 j = (orderly.parents j above.0 r lives above.1).0 in
          doomed_gone rows j (above_up (λ z. z.doomed) rows next orderly j above.0 r lives above.1 (gone_doomed rows above.0 parent.row parent.lives (up above.0 above.1 above.2)))
    ]

-- A row that a legal history destroyed is gone in the world that it leaves.
destroyed_gone : (f : Frame) (es : List Entry) (i : ℕ) → Legal (start f) es → IsDestroyed f es i → IsGone (replay (start f) es) i
destroyed_gone f es i legal it =
    let both : Legal (start f) it.first × Legal (replay (start f) it.first) it.rest = Legal-split (start f) it.first it.rest (subst (Legal (start f)) it.whole legal) in
    let healthy : IsHealthy (replay (start f) it.first) = healthy_history f it.first both.0 in
    let top : IsGone (replay (start f) it.first) it.top = doomed_stays f it.first it.top both.0 it.doomed in
    let row : (r : Row) × (row_of (replay (start f) it.first).rows i ≡ Some r) = below_lives (replay (start f) it.first).rows (replay (start f) it.first).next_inc healthy.sound.orderly it.top i it.below in
    subst (λ v. IsGone v i) (sym (ap (replay (start f)) it.whole ∙ replay-append (start f) it.first it.rest))
    (stays (λ v. IsGone v i) (gone_after i) (replay (start f) it.first) it.rest healthy both.1
    (record {
      known = lives_below (replay (start f) it.first).rows (replay (start f) it.first).next_inc i row.0 healthy.sound.orderly.increasing row.1;
      gone = gone_below (replay (start f) it.first).rows (replay (start f) it.first).next_inc it.top i healthy.sound.orderly top.gone it.below;
    }))

-- ---- purges

-- what all items of a list pass, an item passes
passes_in : (p : ℕ → Bool) (xs : List ℕ) (i : ℕ) → IsTrue (list_all p xs) → Contains xs i → IsTrue (p i)
passes_in p xs i all there = All-contains (λ j. IsTrue (p j)) xs i (AllPass-from_list_all p xs all) there

-- What a reply says was lost.
lost_in : Reply → List Lost
lost_in (reply.Purged lost) = lost
lost_in _ = []

-- What the reply to a purge says was lost is all that was to be.
purged_by : (b : Bool) (lost whole : List Lost) → reply.Purged lost ≡ cond b (reply.Purged whole) reply.PurgedBefore → lost ≡ whole
unfolding lost_in
purged_by true lost whole e = ap lost_in e
purged_by false lost whole e = absurd (cc)

-- The rows after a purge are those that aren't at or below the purged one.
purged_rows : (w : World) (e : Entry) (top : ℕ) (lost : List Lost) → e.event ≡ Purge top → e.reply ≡ reply.Purged lost → (after w e).rows ≡ others_than w.rows top
unfolding after
purged_rows w e top lost purges purged =
    ap (λ x. (moved w e.caller x e.reply).rows) purges ∙ ap (λ r. (moved w e.caller (Purge top) r).rows) purged

-- a purge lists rows at and below its target
listed_below : (rows : List Row) (top i : ℕ) (lost : List Lost) → reply.Purged lost ≡ purge_reply rows top → Contains (map (λ l. l.inc) lost) i → IsTrue (is_below rows top i)
listed_below rows top i lost e among =
    let same : lost ≡ map (lost_of rows) (subtree rows top) = purged_by (is_live rows top) lost (map (lost_of rows) (subtree rows top)) e in
    passes_in (is_below rows top) (map (λ l. l.inc) (map (lost_of rows) (subtree rows top))) i
    (list_all-map (is_below rows top) (λ l. l.inc) (map (lost_of rows) (subtree rows top))
    ∙ list_all-map (λ l. is_below rows top l.inc) (lost_of rows) (subtree rows top)
    ∙ all_kept (λ r. is_below rows top r.inc) rows)
    (subst (λ ls. Contains (map (λ l. l.inc) ls) i) same among)

-- What a purge says was lost doesn't live after it.
purged_dead : (i top : ℕ) (lost : List Lost) (e : Entry) → e.event ≡ Purge top → e.reply ≡ reply.Purged lost → Contains (map (λ l. l.inc) lost) i → (w : World) → IsHealthy w → IsStep w e → IsDead (after w e) i
purged_dead i top lost e purges purged among w healthy step =
    let orderly : IsOrderly w.rows w.next_inc = healthy.sound.orderly in
    let allowed : reply.Purged lost ≡ purge_reply w.rows top = subst (λ r. r ≡ purge_reply w.rows top) purged (subst (λ x. Allowed w e.caller x e.reply) purges step.allowed) in
    let below : IsTrue (is_below w.rows top i) = listed_below w.rows top i lost allowed among in
    let row : (r : Row) × (row_of w.rows i ≡ Some r) = below_lives w.rows w.next_inc orderly top i below in
    let low : i < w.next_inc = lives_below w.rows w.next_inc i row.0 orderly.increasing row.1 in
    record {
      known = known_still w (after w e) (goes_after w e step) i low;
      dead = ap (λ rows. is_live rows i) (purged_rows w e top lost purges purged) ∙ left_by below (row_of (others_than w.rows top) i) refl;
    }
  where
    left_by : IsTrue (is_below w.rows top i) → (o : Option Row) → row_of (others_than w.rows top) i ≡ o → is_some o ≡ false
    left_by below None e = refl
    left_by below (Some s) e =
        true_and_false (is_below w.rows top i) below (stood w.rows w.next_inc top healthy.sound.orderly i s e).1

-- What was purged in a legal history doesn't live in the world that it leaves.
purged_stays : (f : Frame) (es : List Entry) (i : ℕ) → Legal (start f) es → IsPurged es i → IsDead (replay (start f) es) i
purged_stays f es i legal it =
    since (λ v. IsDead v i) (dead_after i) it.entry (purged_dead i it.top it.lost it.entry it.purges it.purged it.among) (start f) es (healthy_history f [] tt) legal it.there

-- ---- what is asked of a row that is gone

-- Where a row is gone, the reply is that it is.
gone_reply : (b : Bool) (x y r : Reply) → IsTrue b → r ≡ cond b x y → r ≡ x
gone_reply true x y r gone e = e
gone_reply false x y r gone e = absurd (true≢false (sym gone))

-- Where a row is gone, a reply that is told is that it is.
gone_said : (b : Bool) (x r : Reply) (o : Option Reply) → IsTrue b → cond b (Some x) o ≡ Some r → r ≡ x
gone_said true x r o gone e = sym (some_same x r e)
gone_said false x r o gone e = absurd (true≢false (sym gone))

-- Where a row is gone, what is refused is that it is.
gone_refuses : (b : Bool) (x : Reply) (o : Option Reply) → IsTrue b → cond b (Some x) o ≡ Some x
gone_refuses true x o gone = refl
gone_refuses false x o gone = absurd (true≢false (sym gone))

-- the reply that a row which is asked gets where it is gone
abbrev IsTold : List Row → Reply → ℕ → Type 0
IsTold rows r i = IsTrue (is_gone rows i) → r ≡ reply.Gone i

-- Where the row that an event asks is gone, an allowed reply says so.
asked_by : (w : World) (caller : ℕ) (e : Event) (r : Reply) → Allowed w caller e r → IfSome (asked_of e) (IsTold w.rows r)
asked_by w caller (Begin kind i) r it = λ gone. gone_said (is_gone w.rows i) (reply.Gone i) r _ gone it
asked_by w caller (Create i child) r it = λ gone.
    subst (λ o. CreatesUnless w.frame.limits.rows w.rows w.next_inc i (dynamic_name child.coll child.name) child.gives o r)
    (gone_refuses (is_gone w.rows i) (reply.Gone i) _ gone) it
asked_by w caller (RouteOf i path) r it = λ gone.
    subst (λ o. WalksUnless w.rows w.frame.builtins (UseAt i path) (routed w.rows) o r)
    (gone_refuses (is_gone w.rows i) (reply.Gone i) _ gone) it
asked_by w caller (OpenUse i path) r it = λ gone.
    subst (λ o. WalksUnless w.rows w.frame.builtins (UseAt i path) (opened w.rows) o r)
    (gone_refuses (is_gone w.rows i) (reply.Gone i) _ gone) it
asked_by w caller (OpenExposed i name) r it = λ gone.
    subst (λ o. WalksUnless w.rows w.frame.builtins (ExposeAt i name) (opened w.rows) o r)
    (gone_refuses (is_gone w.rows i) (reply.Gone i) _ gone) it
asked_by w caller (Listing i coll) r it = λ gone.
    it
    ∙ ap (λ o. elim o as (λ _. Reply) [ Some refusal ↦ refusal | None ↦ list_by w.rows i coll ])
    (gone_refuses (is_gone w.rows i) (reply.Gone i) _ gone)
asked_by w caller (Show i) r it = λ gone. gone_reply (is_gone w.rows i) (reply.Gone i) _ r gone it
asked_by w caller (Survey i) r it = λ gone. gone_reply (is_gone w.rows i) (reply.Gone i) _ r gone it
asked_by w caller (Tail i from) r it = λ gone. gone_reply (is_gone w.rows i) (reply.Gone i) _ r gone it
asked_by w caller e r it = tt

-- who asks it for something is told that it is gone
told_gone : (w : World) (caller : ℕ) (e : Event) (r : Reply) (i : ℕ) → IsTrue (is_gone w.rows i) → asked_of e ≡ Some i → Allowed w caller e r → r ≡ reply.Gone i
told_gone w caller e r i gone asked it =
    subst (λ o. IfSome o (IsTold w.rows r)) asked (asked_by w caller e r it) gone

-- an exit of a row that doesn't live is told so
exits_by : (o : Option Row) (i : ℕ) (x r : Reply) → is_some o ≡ false → elim o as (λ _. Option Reply) [ None ↦ Some (reply.Gone i) | Some s ↦ cond (is_some s.pending) None (cond s.on (Some x) (Some reply.Already)) ] ≡ Some r → r ≡ reply.Gone i
exits_by None i x r dead e = sym (some_same (reply.Gone i) r e)
exits_by (Some s) i x r dead e = absurd (true≢false dead)

-- An exit of a row that doesn't live is answered by that it is gone.
dead_exits : (w : World) (e : Entry) (i : ℕ) → is_live w.rows i ≡ false → IsStep w e → e.event ≡ Exited i → e.reply ≡ reply.Gone i
dead_exits w e i dead step exits =
    exits_by (row_of w.rows i) i _ e.reply dead (subst (λ x. Allowed w e.caller x e.reply) exits step.allowed)

-- ---- what names a row that is gone

-- it is named as gone, or while it goes
gone_named : (rows : List Row) (next i : ℕ) (r : Reply) → i < next → IsTrue (is_gone rows i) → Contains (named_in r) i → IsTrue (fits rows next r i) → (r ≡ reply.Gone i) ⊎ IsTrue (is_removing r)
gone_named rows next i (reply.Gone j) low gone there fit = inl (ap reply.Gone (Contains_one j i there))
gone_named rows next i (reply.Created j) low gone there fit =
    let same : i ≡ next = (unsigned_Decides i next).0 fit in absurd (omega arith)
gone_named rows next i (reply.Stopping work) low gone there fit = inr refl
gone_named rows next i (reply.ShutDown j) low gone there fit = inr refl
gone_named rows next i (reply.Purged lost) low gone there fit = inr refl
gone_named rows next i (reply.Reaping incs) low gone there fit = inr refl
gone_named rows next i r low gone there fit = true_and_false (is_gone rows i) gone (not-true (is_gone rows i) fit)

-- A row that a reply tells of as being removed lives, where the reply fits.
live_named : (rows : List Row) (next i : ℕ) (r : Reply) → IsTrue (is_removing r) → IsTrue (fits rows next r i) → IsTrue (is_live rows i)
live_named rows next i (reply.Stopping work) goes fit = fit
live_named rows next i (reply.ShutDown j) goes fit = fit
live_named rows next i (reply.Purged lost) goes fit = fit
live_named rows next i (reply.Reaping incs) goes fit = fit
live_named rows next i r goes fit = absurd (true≢false (sym goes))

-- ---- the law

module _ (w : World) (e : Entry) (healthy : IsHealthy w) (root : IsTrue (stands w.rows 0)) (step : IsStep w e) (i : ℕ) where
  -- What the reply names fits the tree.
  fitting : Contains (named_in e.reply) i → IsTrue (fits w.rows w.next_inc e.reply i)
  fitting there =
      passes_in (fits w.rows w.next_inc e.reply) (named_in e.reply) i (reply_well w e.caller e.event e.reply healthy.sound.orderly root step.allowed) there

  -- Where a gone row is named, the reply is that it is gone, or it takes one towards its end.
  named_gone : IsGone w i → Contains (named_in e.reply) i → (e.reply ≡ reply.Gone i) ⊎ IsTrue (is_removing e.reply)
  named_gone it there = gone_named w.rows w.next_inc i e.reply it.known it.gone there (fitting there)

  -- A reply that opens a route neither says that a row is gone nor takes one towards its end.
  opened_by : (r : Route) → (reply.Opened r ≡ reply.Gone i) ⊎ IsTrue (is_removing (reply.Opened r)) → ⊥
  opened_by r (inl same) = absurd (cc)
  opened_by r (inr goes) = absurd (true≢false (sym goes))

  -- An entry treats a row that is gone as gone.
  shunned : IsGone w i → IsShunned w e i
  shunned it = record {
    gone = it.gone;
    asked = λ asked. told_gone w e.caller e.event e.reply i it.gone asked step.allowed;
    provides = λ r opens there. opened_by r (subst (λ x. (x ≡ reply.Gone i) ⊎ IsTrue (is_removing x)) opens (named_gone it (subst (λ x. Contains (named_in x) i) (sym opens) there)));
    named = named_gone it;
  }

  -- A row that was there and doesn't live is named only as gone.
  dead_named : IsDead w i → Contains (named_in e.reply) i → (e.reply ≡ reply.Gone i) ⊎ IsTrue (is_removing e.reply) → e.reply ≡ reply.Gone i
  dead_named it there (inl same) = same
  dead_named it there (inr goes) =
      true_and_false (is_live w.rows i) (live_named w.rows w.next_inc i e.reply goes (fitting there)) it.dead

  -- An entry treats a row that was there and doesn't live as one that is no more.
  forgotten : IsDead w i → IsForgotten w e i
  forgotten it = record {
    known = it.known;
    dead = it.dead;
    asked = (shunned (dead_gone w i it)).asked;
    exits = dead_exits w e i it.dead step;
    named = λ there. dead_named it there (named_gone (dead_gone w i it) there);
  }

-- What is destroyed stays gone for every later entry.
pub destroyed_stay_gone : DestroyedStayGone
destroyed_stay_gone f es legal =
    of_each_entry (KeepsGone f) (start f) es legal
    (λ prefix e before step.
    record {
      destroyed = λ i it. shunned (replay (start f) prefix) e (healthy_history f prefix before) (root_stays f prefix before) step i (destroyed_gone f prefix i before it);
      purged = λ i it. forgotten (replay (start f) prefix) e (healthy_history f prefix before) (root_stays f prefix before) step i (purged_stays f prefix i before it);
    })

-- no moniker leads to a row that is gone
unfound : (w : World) (i : ℕ) (m : Moniker) → IsHealthy w → IsTrue (stands w.rows 0) → IsGone w i → found_from w.rows 0 [] m.parts ≡ reply.Found i → ⊥
unfound w i m healthy root it found =
    let well : IsTrue (names_well w.rows w.next_inc (reply.Found i)) = reply_well w 0 (Find m) (reply.Found i) healthy.sound.orderly root (sym found) in
    true_and_false (is_gone w.rows i) it.gone (not-true (is_gone w.rows i) (first_so (stands w.rows i) true well))

-- what was destroyed or removed is so in the tree that is left
left_gone : (f : Frame) (es : List Entry) (i : ℕ) → Legal (start f) es → IsDestroyed f es i ⊎ IsPurged es i → IsGone (replay (start f) es) i
left_gone f es i legal (inl it) = destroyed_gone f es i legal it
left_gone f es i legal (inr it) = dead_gone (replay (start f) es) i (purged_stays f es i legal it)

-- In the tree that a legal history leaves, what was destroyed or removed is gone.
pub leaves_gone : (f : Frame) (es : List Entry) → Legal (start f) es → LeavesGone f es
leaves_gone f es legal = record {
  destroyed = λ i it. (destroyed_gone f es i legal it).gone;
  known = λ i it. (purged_stays f es i legal it).known;
  dead = λ i it. (purged_stays f es i legal it).dead;
  unfound = λ i m it. unfound (replay (start f) es) i m (healthy_history f es legal) (root_stays f es legal) (left_gone f es i legal it);
}
