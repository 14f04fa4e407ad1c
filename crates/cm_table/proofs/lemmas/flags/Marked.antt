-- What a mark leaves, once it has come to its end.
use Rattle.std.proofs.Common.{◌≡◌, ℕ, zero, suc, ◌<◌, List, length, Bool, true, false, ◌||◌, ◌==◌, true≢false, Option, Some, None, refl, sym, ◌∙◌, ap, subst, ◌⊎◌, inl, inr, arith}
use Rattle.std.specs.Cmp.{unsigned_Decides, both_ways}
use Rattle.std.proofs.lemmas.Bool.{or_left, or_right}
use Rattle.cm_facts.proofs.Numbers.{lt_of_lt_suc}
use Rattle.cm_facts.proofs.Options.{is_some_true}
use Rattle.cm_world.specs.declared.row.Row.{Row}
use Rattle.cm_world.specs.Rows.{row_of, is_below, at_or_above}
use Rattle.cm_world.specs.Sound.{IsOrderly, IsParent}
use Rattle.cm_world.proofs.lemmas.trees.Finding.{row_of-inc}
use Rattle.cm_world.proofs.lemmas.trees.Climbing.{some_above-step, above_root}
use Rattle.cm_table.specs.declared.marks.MarkKind.{MarkKind}
use Rattle.cm_table.specs.declared.slot.Slot.{Slot}
use Rattle.cm_table.specs.Flags.{flag_of}
use Rattle.cm_table.specs.Marking.{IsDown, IsOpenWithin, GoesOn, GoesAnyway, Turns, Going, Marks, BeginsAt}
use Rattle.cm_table.specs.Slots.{slot_of, rows_in}
use Rattle.cm_trees.proofs.rows.Rows.{is_some_by}
use Rattle.cm_table.proofs.lemmas.slots.Rowed.{row_of-slots}
use Rattle.cm_table.proofs.lemmas.flags.Flagging.{row_of-slot, rows_alike}
use Rattle.cm_trees.proofs.trees.Standing.{below_self, nothing_below}

-- ---- what is at or below a row

-- What passes a test, itself or by a row above it, has a row, by what was found of it.
above_lives_by : (n : ℕ) (passes : Row → Bool) (rows : List Row) (i : ℕ) (o : Option Row) → row_of rows i ≡ o → elim o as (λ _. Bool) [ None ↦ false | Some r ↦ passes r || at_or_above n passes rows r.parent ] ≡ true → (r : Row) × (row_of rows i ≡ Some r)
above_lives_by n passes rows i None here e = absurd (true≢false (sym e))
above_lives_by n passes rows i (Some r) here e = (r, here)

-- An incarnation that passes a test, itself or by a row above it, has a row.
above_lives : (n : ℕ) (passes : Row → Bool) (rows : List Row) (i : ℕ) → at_or_above n passes rows (Some i) ≡ true → (r : Row) × (row_of rows i ≡ Some r)
above_lives zero passes rows i e = absurd (true≢false (sym e))
above_lives (suc n) passes rows i e = above_lives_by n passes rows i (row_of rows i) refl e

-- what is at or below a row lives
below_lives : (rows : List Row) (top i : ℕ) → is_below rows top i ≡ true → (r : Row) × (row_of rows i ≡ Some r)
below_lives rows top i e = above_lives (length rows) (λ r. r.inc == top) rows i e

module _ (k : MarkKind) where
  -- A row whose parent is at or below the marked top has the mark, where the rows before it have.
  up_by : (ss : List Slot) (next top i : ℕ) (r : Row) (u : Option ℕ) → IsOrderly (rows_in ss) next → IsDown k ss → flag_of k ss top ≡ true → row_of (rows_in ss) i ≡ Some r → r.parent ≡ u → ((p : ℕ) → p < i → is_below (rows_in ss) top p ≡ true → flag_of k ss p ≡ true)
      → at_or_above (length (rows_in ss)) (λ s. s.inc == top) (rows_in ss) u ≡ true → flag_of k ss i ≡ true
  up_by ss next top i r None o down done here up later e = absurd (true≢false (sym e ∙ above_root (length (rows_in ss)) (λ s. s.inc == top) (rows_in ss)))
  up_by ss next top i r (Some p) o down done here up later e =
      let q : IsParent (rows_in ss) p i = (o.parents i p r here up).0 in
      down i p r here up (later p q.lower e)

  -- A row that is the marked top or below it has the mark, where the rows before it have.
  step_by : (ss : List Slot) (next top i : ℕ) (r : Row) (t : Bool) → (r.inc == top) ≡ t → IsOrderly (rows_in ss) next → IsDown k ss → flag_of k ss top ≡ true → row_of (rows_in ss) i ≡ Some r → ((p : ℕ) → p < i → is_below (rows_in ss) top p ≡ true → flag_of k ss p ≡ true)
      → (t || at_or_above (length (rows_in ss)) (λ s. s.inc == top) (rows_in ss) r.parent) ≡ true → flag_of k ss i ≡ true
  step_by ss next top i r true same o down done here later e =
      subst (λ n. flag_of k ss n ≡ true) (sym ((unsigned_Decides r.inc top).0 same) ∙ row_of-inc (rows_in ss) i r here) done
  step_by ss next top i r false same o down done here later e = up_by ss next top i r r.parent o down done here refl later e

  -- where the top is flagged, all at and below it is
  flagged_below : (n : ℕ) (ss : List Slot) (next top i : ℕ) → IsOrderly (rows_in ss) next → IsDown k ss → flag_of k ss top ≡ true → i < n → is_below (rows_in ss) top i ≡ true → flag_of k ss i ≡ true
  flagged_below zero ss next top i o down done low e = absurd (omega arith)
  flagged_below (suc n) ss next top i o down done low e =
      let q : (r : Row) × (row_of (rows_in ss) i ≡ Some r) = below_lives (rows_in ss) top i e in
      step_by ss next top i q.0 (q.0.inc == top) refl o down done q.1
      (λ p less. flagged_below n ss next top p o down done (lt_of_lt_suc p i n less low))
      (sym (some_above-step (λ s. s.inc == top) (rows_in ss) next i q.0 o q.1) ∙ e)

  -- ---- from one turn to the next

  -- At first a mark has come nowhere, and goes on where it begins.
  pub started : (ss : List Slot) (next top : ℕ) (at : Option ℕ) → IsOrderly (rows_in ss) next → IsDown k ss → BeginsAt k ss top at → Going k top ss ss at
  started ss next top at o down opens = record { same = refl; others = λ other i apart. refl; down = down; kept = λ i f. f; only = λ i f. or_left (flag_of k ss i) (is_below (rows_in ss) top i) f; goes = by at opens } where
    by : (at : Option ℕ) → BeginsAt k ss top at → GoesAnyway k ss top at
    by None h = h
    by (Some i) h =
        let q : (s : Slot) × (slot_of ss top ≡ Some s) = is_some_true (slot_of ss top) h.1 in
        let here : row_of (rows_in ss) top ≡ Some q.0.row = row_of-slot ss top q.0 q.1 in
        subst (IsOpenWithin k ss top) (sym h.0) (record {
          lives = is_some_by (row_of (rows_in ss) top) q.0.row here;
          below = below_self (rows_in ss) next top q.0.row o here;
          unmarked = h.2;
        })

  -- Where a mark goes on under a living top, it goes on where the top may not live.
  goes_still : (zs : List Slot) (top : ℕ) (at : Option ℕ) → GoesOn k zs top at → GoesAnyway k zs top at
  goes_still zs top None h = inl h
  goes_still zs top (Some i) h = h

  -- Where the first of two tests gives one of two others, and the second is one of these, one holds.
  or_more : (a b c : Bool) → (a ≡ true → (b || c) ≡ true) → (a || c) ≡ true → (b || c) ≡ true
  or_more true b c f e = f refl
  or_more false b c f e = or_right b c e

  -- A mark that goes on has come further by one slot more that is flagged.
  pub gone_on : (ss ms zs : List Slot) (top : ℕ) (at on : Option ℕ) → Going k top ss ms at → Turns k top ms zs on → Going k top ss zs on
  gone_on ss ms zs top at on far turn =
      let rows : rows_in ms ≡ rows_in ss = rows_alike ss ms far.same in
      record {
        same = turn.same ∙ far.same;
        others = λ other i apart. turn.others other i apart ∙ far.others other i apart;
        down = turn.down;
        kept = λ i f. turn.kept i (far.kept i f);
        only = λ i f. or_more (flag_of k ms i) (flag_of k ss i) (is_below (rows_in ss) top i) (far.only i)
            (subst (λ l. (flag_of k ms i || is_below l top i) ≡ true) rows (turn.only i f));
        goes = goes_still zs top on turn.goes;
      }

  -- A flag that holds by the old one or by a cause, and only so, is the old one or the cause.
  flags_by : (f g b : Bool) → (g ≡ true → f ≡ true) → (f ≡ true → (g || b) ≡ true) → (b ≡ true → f ≡ true) → f ≡ (g || b)
  flags_by f true b kept only down = kept refl
  flags_by f false b kept only down = both_ways f b only down

  -- Where a mark that came so far goes on nowhere, all at and below the row have it kept.
  pub all_marked : (ss zs : List Slot) (next top : ℕ) → IsOrderly (rows_in ss) next → Going k top ss zs None → Marks k top ss zs
  all_marked ss zs next top o far =
      let rows : rows_in zs ≡ rows_in ss = rows_alike ss zs far.same in
      let there : IsOrderly (rows_in zs) next = subst (λ l. IsOrderly l next) (sym rows) o in
      record {
        same = far.same;
        others = far.others;
        flags = λ i. flags_by (flag_of k zs i) (flag_of k ss i) (is_below (rows_in ss) top i) (far.kept i) (far.only i)
            (λ b. below_done i there (subst (λ l. is_below l top i ≡ true) (sym rows) b) far.goes);
      } where
        below_done : (i : ℕ) → IsOrderly (rows_in zs) next → is_below (rows_in zs) top i ≡ true → (flag_of k zs top ≡ true) ⊎ (slot_of zs top ≡ None) → flag_of k zs i ≡ true
        below_done i there b (inl done) = flagged_below (suc i) zs next top i there far.down done (omega arith) b
        below_done i there b (inr gone) =
            let none : row_of (rows_in zs) top ≡ None = row_of-slots zs top ∙ ap (λ o. elim o as (λ _. Option Row) [ None ↦ None | Some s ↦ Some s.row ]) gone in
            absurd (true≢false (sym b ∙ nothing_below (length (rows_in zs)) top (rows_in zs) (Some i) none))
