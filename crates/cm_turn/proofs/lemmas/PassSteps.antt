-- The steps that make passes and take them in again, and the table at the start and at the end.
use Rattle.std.proofs.Common.{◌≡◌, ◌≢◌, ℕ, ◌+◌, ◌<◌, ◌≤◌, List, [], ◌∷◌, length, set, Some, None, Option, true, false, cond, eqb, refl, sym, ap, ◌∙◌, subst, inl, inr, arith, ne_eqb, eq-eqb}
use Rattle.std.specs.Prelude.{replicate}
use mathlib.Core.Option.{some, none, some-ne-none, some-injective}
use mathlib.Core.Logic.{dite}
use native.Mathlib.Decide.{ℕ_discrete}
use lib.ListN.{get_elem?}
use Rattle.atomic_table.specs.Table.{State, step, Splits, Joins, Enters, opening}
use Rattle.atomic_table.proofs.Lists.{set_else}
use Rattle.cm_facts.proofs.Booleans.{true_and_false}
use Rattle.cm_turn.specs.declared.view.SeatView.{SeatView}
use Rattle.cm_turn.specs.declared.view.Known.{Known}
use Rattle.cm_turn.specs.History.{StartsWith, entries_by}
use Rattle.cm_turn.specs.Views.{maker, spent_view, with_one_made, next_pass, with_pass, caller_of, known_of}
use Rattle.cm_turn.specs.Rule.{ticket_count, Moment, SpeaksFor, FitsView, KeepsRule}
use Rattle.cm_turn.specs.Plays.{Arrives}
use Rattle.cm_turn.proofs.lemmas.ViewLists.{each_set, each_snoc, total-set, total-snoc, total-rest}
use Rattle.cm_turn.proofs.lemmas.Moments.{home_set, home_snoc, queue_set, queue_snoc, one_more, spent_fits}

module _ {S E F : Type 0} (story : S → List E) (frame : S → F) (by : E → ℕ) where
  -- The rule of the lock's table that each step keeps.
  abbrev Rule : S × ℕ → State (Option S) (SeatView E F) → Type 0
  Rule = KeepsRule story frame by

  -- Whether the rule for one view holds of a seat's view at a moment.
  abbrev Fit : S × ℕ → Moment E → ℕ → SeatView E F → Type 0
  Fit key m i v = FitsView story frame by (frame key.0) key.1 m i v

  -- making a pass
  abbrev making_one : Moment E → ℕ → Moment E
  making_one m j = record m { made = m.made + 1; seat = λ c. cond (eqb c m.made) j (m.seat c) }

  -- A caller whose pass is made already keeps its seat when one more pass is made.
  seat_kept : (m : Moment E) (j i c : ℕ) → m.seat c ≡ i → c < m.made → cond (eqb c m.made) j (m.seat c) ≡ i
  seat_kept m j i c at low = rw (ne_eqb c m.made (λ e. omega arith)) at

  -- After a pass is made, each view that isn't the maker's fits as it did.
  make_other : (key : S × ℕ) (m : Moment E) (new j : ℕ) (u : SeatView E F) → (u.makes ≡ true → ⊥) → Fit key m j u → Fit key (making_one m new) j u
  make_other key m new j u other h = record {
    framed = h.framed;
    seen = h.seen;
    told = h.told;
    called = λ c e. let k = h.called c e in let low = k.1 in (seat_kept m new j c k.0 k.1, omega arith, k.2);
    own = h.own;
    nameless = h.nameless;
    gathered = λ i g e. let k = h.gathered i g e in let low = k.0.1 in ((seat_kept m new j g.caller k.0.0 k.0.1, omega arith, k.0.2), k.1, k.2);
    ticket = h.ticket;
    paid = h.paid;
    turn = h.turn;
    maker = λ on. absurd (other on);
  }

  -- After a pass is made, the maker's view with one more made fits.
  make_own : (key : S × ℕ) (m : Moment E) (new id : ℕ) (v : SeatView E F) → v.makes ≡ true → v.ticket ≡ None → 0 < v.parts → Fit key m id v → Fit key (making_one m new) id (with_one_made v)
  make_own key m new id v makes free left h =
      let k = h.maker makes in
      let same = k.1 in
      let sum = k.2 in
      record {
        framed = h.framed;
        seen = h.seen;
        told = h.told;
        called = λ c e. let x = h.called c e in let low = x.1 in (seat_kept m new id c x.0 x.1, omega arith, x.2);
        own = h.own;
        nameless = h.nameless;
        gathered = λ i g e. let x = h.gathered i g e in let low = x.0.1 in ((seat_kept m new id g.caller x.0.0 x.0.1, omega arith, x.0.2), x.1, x.2);
        ticket = h.ticket;
        paid = let z : ticket_count v.ticket ≡ 0 = ap ticket_count free in omega arith;
        turn = h.turn;
        maker = λ _. (k.0, omega arith, omega arith);
      }

  -- After a pass is made, the view of the new pass fits at its seat.
  make_new : (key : S × ℕ) (m : Moment E) (new id : ℕ) (v : SeatView E F) → ((c : ℕ) → m.made ≤ c → entries_by by c m.log ≡ []) → v.makes ≡ true → Fit key m id v → Fit key (making_one m new) new (next_pass v)
  make_new key m new id v none_else makes h =
      let k = h.maker makes in
      let same = k.1 in
      record {
        framed = h.framed;
        seen = (m.log, refl);
        told = (m.log, refl);
        called = λ c e. let is : v.made ≡ c = cc e in let here : c ≡ m.made = omega arith in (rw (eq-eqb c m.made here) refl, omega arith, none_else c (omega arith));
        own = λ c e. refl;
        nameless = λ nobody _. absurd (cc nobody);
        gathered = λ i g e. absurd (some-ne-none g (sym e));
        ticket = λ t e. absurd (cc e);
        paid = omega arith;
        turn = λ on. true_and_false _ on refl;
        maker = λ on. true_and_false _ on refl;
      }

  -- A maker without ticket and turn may make one pass, where some are still to be made.
  pub makes_one : (key : S × ℕ) (id : ℕ) (v : SeatView E F) → v.makes ≡ true → v.ticket ≡ None → v.turn ≡ false → 0 < v.parts → Splits (Rule key) id v (with_one_made v) (next_pass v)
  makes_one key id v makes free idle left s kept at =
      let m = kept.0 in
      let h = kept.1 in
      let fit = h.each id v at in
      let own = fit.maker makes in
      let w = with_one_made v in
      let mid = set s.views id w in
      let new = length mid in
      let m' = making_one m new in
      let t0 = total-set (λ (u : SeatView E F). ticket_count u.ticket) s.views id v w at in
      let t1 = total-snoc (λ (u : SeatView E F). ticket_count u.ticket) mid (next_pass v) in
      let p0 = total-set (λ (u : SeatView E F). u.parts) s.views id v w at in
      let p1 = total-snoc (λ (u : SeatView E F). u.parts) mid (next_pass v) in
      let c = h.count in
      let d = h.parts in
      let sum = own.2 in (
        m',
        record {
          words_are = h.words_are;
          count = omega arith;
          parts = omega arith;
          few = h.few;
          made = omega arith;
          none_else = λ x le. h.none_else x (omega arith);
          each = each_snoc (Fit key m') mid (next_pass v)
              (each_set (Fit key m') s.views id w (λ j u ne e. make_other key m new j u (λ its. ne (sym ((h.each j u e).maker its).0 ∙ own.0)) (h.each j u e)) (make_own key m new id v makes free left fit))
              (make_new key m new id v h.none_else makes fit);
          queue = queue_snoc m mid (next_pass v) (queue_set m s.views id v w at refl h.queue);
          home = home_snoc story frame by (frame key.0) m.log s.homes mid (next_pass v) refl (home_set story frame by (frame key.0) m.log s.homes s.views id v w at idle idle h.home);
        },
      )

  -- taking in a pass
  abbrev moving : Moment E → ℕ → ℕ → Moment E
  moving m c id = record m { seat = λ d. cond (eqb d c) id (m.seat d) }

  -- A caller that isn't the one moved keeps its seat.
  seat_other : (m : Moment E) (c id j d : ℕ) → m.seat d ≡ j → d ≢ c → cond (eqb d c) id (m.seat d) ≡ j
  seat_other m c id j d at ne = rw (ne_eqb d c ne) at

  -- A caller of a seat is still there when a caller is moved to that seat.
  seat_own : (m : Moment E) (c id d : ℕ) → m.seat d ≡ id → cond (eqb d c) id (m.seat d) ≡ id
  seat_own m c id d at = dite (ℕ_discrete d c) (λ e. rw (eq-eqb d c e) refl) (λ ne. rw (ne_eqb d c ne) at)

  -- After a pass is taken back, each view of another seat than the one it came from fits.
  gather_other : (key : S × ℕ) (m : Moment E) (c id other j : ℕ) (u : SeatView E F) → m.seat c ≡ other → j ≢ other → Fit key m j u → Fit key (moving m c id) j u
  gather_other key m c id other j u seat ne h =
      let apart : (d : ℕ) → m.seat d ≡ j → d ≢ c = λ d at same. ne (sym at ∙ (ap m.seat same ∙ seat)) in
      record {
        framed = h.framed;
        seen = h.seen;
        told = h.told;
        called = λ d e. let k = h.called d e in (seat_other m c id j d k.0 (apart d k.0), k.1, k.2);
        own = h.own;
        nameless = h.nameless;
        gathered = λ i g e. let k = h.gathered i g e in ((seat_other m c id j g.caller k.0.0 (apart g.caller k.0.0), k.0.1, k.0.2), k.1, k.2);
        ticket = h.ticket;
        paid = h.paid;
        turn = h.turn;
        maker = h.maker;
      }

  -- After a pass is taken back, the view of the seat that took it fits with it.
  gather_own : (key : S × ℕ) (m : Moment E) (c id other : ℕ) (v w : SeatView E F) → w.caller ≡ Some c → v.makes ≡ false → Fit key m id v → Fit key m other w → Fit key (moving m c id) id (with_pass v w)
  gather_own key m c id other v w caller plain h k =
      let theirs = k.called c caller in
      let is : caller_of w.caller ≡ c = ap caller_of caller in
      record {
        framed = h.framed;
        seen = h.seen;
        told = h.told;
        called = λ d e. let x = h.called d e in (seat_own m c id d x.0, x.1, x.2);
        own = h.own;
        nameless = h.nameless;
        gathered = each_snoc (λ _ (g : Known E F). SpeaksFor by (moving m c id) id g.caller g.mine × StartsWith m.log g.seen × ((f : F) → g.frame ≡ Some f → f ≡ frame key.0)) v.gathered (known_of w)
            (λ i g e. let x = h.gathered i g e in ((seat_own m c id g.caller x.0.0, x.0.1, x.0.2), x.1, x.2))
            ((rw (eq-eqb (caller_of w.caller) c is) refl, subst (λ (d : ℕ). d < m.made) (sym is) theirs.1, ap (λ (d : ℕ). entries_by by d m.log) is ∙ theirs.2), k.seen, k.framed);
        ticket = h.ticket;
        paid = let p = h.paid in omega arith;
        turn = h.turn;
        maker = λ on. true_and_false _ on plain;
      }

  -- A seat without the turn may take in the view of a pass that waits for nothing.
  pub gathers : (key : S × ℕ) (id other : ℕ) (v w : SeatView E F) (c : ℕ) → v.turn ≡ false → v.makes ≡ false → w.turn ≡ false → w.ticket ≡ None → w.caller ≡ Some c → Joins (Rule key) id v other w (with_pass v w) spent_view
  gathers key id other v w c idle plain off_w free caller s kept at apart there =
      let m = kept.0 in
      let h = kept.1 in
      let both = with_pass v w in
      let mid = set s.views id both in
      let was : get_elem? s.views other ≡ some w = sym (set_else s.views id other both apart) ∙ there in
      let theirs = h.each other w was in
      let m' = moving m c id in
      let t0 = total-set (λ (u : SeatView E F). ticket_count u.ticket) s.views id v both at in
      let t1 = total-set (λ (u : SeatView E F). ticket_count u.ticket) mid other w spent_view there in
      let z : ticket_count w.ticket ≡ 0 = ap ticket_count free in
      let p0 = total-set (λ (u : SeatView E F). u.parts) s.views id v both at in
      let p1 = total-set (λ (u : SeatView E F). u.parts) mid other w spent_view there in
      let x = h.count in
      let y = h.parts in (
        m',
        record {
          words_are = h.words_are;
          count = omega arith;
          parts = omega arith;
          few = h.few;
          made = h.made;
          none_else = h.none_else;
          each = each_set (Fit key m') mid other spent_view
              (λ j u ne e. each_set (λ i y. i ≢ other → Fit key m' i y) s.views id both (λ i y ne' e'. λ not_it. gather_other key m c id other i y (theirs.called c caller).0 not_it (h.each i y e')) (λ _. gather_own key m c id other v w caller plain (h.each id v at) theirs) j u e ne)
              (spent_fits story frame by (frame key.0) key.1 m' other);
          queue = queue_set m mid other w spent_view there (sym free) (queue_set m s.views id v both at refl h.queue);
          home = home_set story frame by (frame key.0) m.log s.homes mid other w spent_view there off_w refl (home_set story frame by (frame key.0) m.log s.homes s.views id v both at idle idle h.home);
        },
      )

  -- a new seat, which gathers the passes
  pub arrives : (key : S × ℕ) (slots : ℕ) (v : SeatView E F) → Enters (Rule key) slots 1 (λ n w. Arrives (step {S = Option S} slots 1 0 0 none) (v, []) n (w, []))
  arrives key slots v s kept len fits =
      let m = kept.0 in
      let h = kept.1 in
      (spent_view, (m, one_more story frame by (frame key.0) key.1 m s.words s.homes s.views spent_view refl refl refl (spent_fits story frame by (frame key.0) key.1 m (length s.views)) h), refl)

  -- the table at the start
  pub opens : (key : S × ℕ) → 0 < key.1 → key.1 ≤ 64 → Rule key (opening (1 ∷ 0 ∷ []) (replicate 1 None) (maker (frame key.0) key.1))
  opens key some_pass few =
      let m : Moment E = record { drawn = 1; served = 0; line = λ _. 0; seat = λ _. 0; making = 0; made = 0; log = [] } in
      let v : SeatView E F = maker (frame key.0) key.1 in
      let fit : Fit key m 0 v = record {
        framed = λ g e. cc e;
        seen = ([], refl);
        told = ([], refl);
        called = λ c e. absurd (cc e);
        own = λ c e. absurd (cc e);
        nameless = λ _ plain. true_and_false _ refl plain;
        gathered = λ k g e. absurd (some-ne-none g (sym e));
        ticket = λ t e. let is : 0 ≡ t = cc e in (refl, omega arith, omega arith);
        paid = omega arith;
        turn = λ _. (refl, refl);
        maker = λ _. (refl, refl, omega arith);
      } in (
        m,
        record {
          words_are = refl;
          count = refl;
          parts = omega arith;
          few = few;
          made = omega arith;
          none_else = λ c le. refl;
          each = each_snoc (Fit key m) [] v (λ i u e. absurd (some-ne-none u (sym e))) fit;
          queue = λ t lo hi. (v, refl, ap Some (omega arith));
          home = inr (0, v, refl, refl, refl);
        },
      )

  -- at the end, where one view has every part, the state is at home
  pub ends : (key : S × ℕ) (s : State (Option S) (SeatView E F)) (id : ℕ) (v : SeatView E F) → Rule key s → get_elem? s.views id ≡ some v → v.turn ≡ false → v.parts ≡ key.1
      → (x : S) × (get_elem? s.homes 0 ≡ some (some (Some x))) × (frame x ≡ frame key.0)
      × ((i : ℕ) (g : Known E F) → get_elem? v.gathered i ≡ some g → StartsWith (story x) g.seen × (entries_by by g.caller (story x) ≡ g.mine) × ((f : F) → g.frame ≡ Some f → f ≡ frame x))
      × ((c : ℕ) → key.1 ≤ c → entries_by by c (story x) ≡ [])
  ends key s id v kept at idle all =
      let m = kept.0 in
      let h = kept.1 in
      let fit = h.each id v at in
      elim h.home [
        | inl x ↦ (
          x.0,
          ap (λ hs. get_elem? hs 0) x.1,
          x.3,
          (λ i g e. let k = fit.gathered i g e in (subst (λ l. StartsWith l g.seen) (sym x.2) k.1, ap (entries_by by g.caller) x.2 ∙ k.0.2, λ f e'. k.2 f e' ∙ sym x.3)),
          (λ c le. ap (entries_by by c) x.2 ∙ h.none_else c (let a = h.made in omega arith)),
        )
        | inr x ↦
            let theirs = h.each x.0 x.1 x.2 in
            let sum = h.parts in
            let apart : x.0 ≢ id = λ same. let e : x.1 ≡ v = some-injective x.1 v (sym x.2 ∙ (ap (λ k. get_elem? s.views k) same ∙ at)) in true_and_false _ x.3 (ap (λ (u : SeatView E F). u.turn) e ∙ idle) in
            let none_left : x.1.parts ≡ 0 = total-rest (λ (u : SeatView E F). u.parts) s.views id x.0 v x.1 at (omega arith) apart x.2 in
            let one : ticket_count x.1.ticket ≡ 1 = ap ticket_count (theirs.turn x.3).0 in
            let paid = theirs.paid in
            absurd (omega arith)
      ]
