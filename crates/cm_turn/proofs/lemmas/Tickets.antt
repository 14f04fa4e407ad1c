-- The steps of the queue: drawing a ticket, looking whether it is served, taking the empty slot, and passing the turn on.
use Rattle.std.proofs.Common.{◌≡◌, ◌≢◌, ℕ, ◌+◌, ◌%◌, ◌^◌, ◌<◌, ◌≤◌, List, [], ◌∷◌, set, Some, None, Option, true, false, cond, eqb, refl, sym, ap, ◌∙◌, subst, inl, inr, arith, ne_eqb, eq-eqb}
use Rattle.std.specs.Prelude.{slice_index, slice_set, IsSome}
use mathlib.Core.Option.{some, none, some-injective}
use mathlib.Core.Logic.{dite}
use native.Mathlib.Decide.{ℕ_discrete}
use lib.ListN.{get_elem?}
use Rattle.atomic_table.specs.Table.{State, step, keeps, takes, gives, Allows, stepped}
use Rattle.atomic_table.proofs.Lists.{set_again, one_turn}
use Rattle.std.proofs.lemmas.Bool.{false_from_ne_true}
use Rattle.cm_facts.proofs.Booleans.{true_and_false}
use Rattle.cm_turn.specs.declared.view.SeatView.{SeatView}
use Rattle.cm_turn.specs.History.{StartsWith, entries_by}
use Rattle.cm_turn.specs.Views.{with_ticket, with_turn, with_slot, without_turn}
use Rattle.cm_turn.specs.Rule.{tickets_out, parts_of, ticket_count, Moment, left_home, IsQueue, FitsView, MomentHolds, KeepsRule}
use Rattle.cm_turn.specs.Plays.{ticket_word, Looks, Draws, TakesEmpty, PassesOn}
use Rattle.cm_turn.proofs.lemmas.ViewLists.{each_set, set_at, total-set, total-le}
use Rattle.cm_turn.proofs.lemmas.Histories.{starts-refl}
use Rattle.cm_turn.proofs.lemmas.Moments.{one_holder, home_set, same_total, same_word, queue_set, queue_apart, away, only_turn}

-- Counted modulo 2^64, one more than a number is the same whether that is counted so before or not.
pub mod_suc : (a : ℕ) → (a % 2 ^ 64 + 1) % 2 ^ 64 ≡ (a + 1) % 2 ^ 64
mod_suc a = omega arith

-- the word of the next ticket, and of the one served, after one more
draw_word : {E : Type 0} (m : Moment E) (ws : List ℕ) → ws ≡ (m.drawn % 2 ^ 64) ∷ (m.served % 2 ^ 64) ∷ [] → slice_set ws 0 ((slice_index ws 0 + 1) % 2 ^ 64) ≡ ((m.drawn + 1) % 2 ^ 64) ∷ (m.served % 2 ^ 64) ∷ []
draw_word m ws e = rw e (ap (λ (k : ℕ). k ∷ (m.served % 2 ^ 64) ∷ []) (mod_suc m.drawn))

-- After one more is served, the second of the lock's words is one more.
serve_word : {E : Type 0} (m : Moment E) (ws : List ℕ) → ws ≡ (m.drawn % 2 ^ 64) ∷ (m.served % 2 ^ 64) ∷ [] → slice_set ws 1 ((slice_index ws 1 + 1) % 2 ^ 64) ≡ (m.drawn % 2 ^ 64) ∷ ((m.served + 1) % 2 ^ 64) ∷ []
serve_word m ws e = rw e (ap (λ (k : ℕ). (m.drawn % 2 ^ 64) ∷ k ∷ []) (mod_suc m.served))

module _ {S E F : Type 0} (story : S → List E) (frame : S → F) (by : E → ℕ) where
  -- The lock's table keeps its rule.
  abbrev Rule : S × ℕ → State (Option S) (SeatView E F) → Type 0
  Rule = KeepsRule story frame by

  -- A seat's view fits the rule at a moment of the lock.
  abbrev Fit : S × ℕ → Moment E → ℕ → SeatView E F → Type 0
  Fit key m i v = FitsView story frame by (frame key.0) key.1 m i v

  -- The moment after a seat has drawn the next ticket.
  abbrev drawing : Moment E → ℕ → Moment E
  drawing m id = record m { drawn = m.drawn + 1; line = λ t. cond (eqb t m.drawn) id (m.line t) }

  -- After a seat has drawn a ticket, each other view that fitted fits.
  draw_other : (key : S × ℕ) (m : Moment E) (id j : ℕ) (u : SeatView E F) → Fit key m j u → Fit key (drawing m id) j u
  draw_other key m id j u h = record {
    framed = h.framed;
    seen = h.seen;
    told = h.told;
    called = h.called;
    own = h.own;
    nameless = h.nameless;
    gathered = h.gathered;
    ticket = λ t e. let k = h.ticket t e in let ne : eqb t m.drawn ≡ false = ne_eqb t m.drawn (λ x. omega arith) in (rw ne k.0, omega arith, omega arith);
    paid = h.paid;
    turn = h.turn;
    maker = h.maker;
  }

  -- After a seat without the turn has drawn a ticket, its view with that ticket fits.
  draw_own : (key : S × ℕ) (m : Moment E) (id : ℕ) (v : SeatView E F) → m.served ≤ m.drawn → v.turn ≡ false → IsSome v.caller → 0 < v.parts → Fit key m id v → Fit key (drawing m id) id (with_ticket m.drawn v)
  draw_own key m id v le idle caller paid h = record {
    framed = h.framed;
    seen = h.seen;
    told = h.told;
    called = h.called;
    own = h.own;
    nameless = λ nobody _. absurd (cc (subst (λ c. IsSome c) nobody caller));
    gathered = h.gathered;
    ticket = λ t e. let same : m.drawn ≡ t = cc e in let is : eqb t m.drawn ≡ true = eq-eqb t m.drawn (sym same) in (rw is refl, omega arith, omega arith);
    paid = omega arith;
    turn = λ on. true_and_false _ on idle;
    maker = h.maker;
  }

  -- after the draw each ticket is held: the new one by this seat, and the others as before
  draw_queue : (m : Moment E) (views : List (SeatView E F)) (id : ℕ) (v : SeatView E F) → v.ticket ≡ None → get_elem? views id ≡ some v → IsQueue m views → IsQueue (drawing m id) (set views id (with_ticket m.drawn v))
  draw_queue m views id v free at h = λ t lo hi.
      dite (ℕ_discrete t m.drawn)
      (λ new. let is : eqb t m.drawn ≡ true = eq-eqb t m.drawn new in rw is (with_ticket m.drawn v, set_at views id v (with_ticket m.drawn v) at, ap Some (sym new)))
      (λ old.
      let no : eqb t m.drawn ≡ false = ne_eqb t m.drawn old in
      let x = h t lo (omega arith) in
      let apart : m.line t ≡ id → ⊥ = λ here. let is : v ≡ x.0 = some-injective v x.0 (sym at ∙ (ap (λ k. get_elem? views k) (sym here) ∙ x.1)) in absurd (cc (sym free ∙ (ap (λ (u : SeatView E F). u.ticket) is ∙ x.2))) in
      rw no (queue_apart m views id (with_ticket m.drawn v) t apart x))

  -- A seat that has a caller and a pass, and no ticket and no turn, may draw a ticket.
  pub draws : (key : S × ℕ) (slots id : ℕ) (v : SeatView E F) → v.ticket ≡ None → v.turn ≡ false → IsSome v.caller → 0 < v.parts → Allows (Rule key) slots id (v, []) 0 (λ n. (n + 1) % 2 ^ 64) (Draws (step slots 0 1 0 none) (v, []))
  draws key slots id v free idle caller paid s kept len at fits =
      let m = kept.0 in let h = kept.1 in let w = with_ticket m.drawn v in let m' = drawing m id in
      let le : m.served ≤ m.drawn = let c = h.count in omega arith in
      let count : m.drawn + 1 ≡ m.served + tickets_out (set s.views id w) =
      let t = total-set (λ (u : SeatView E F). ticket_count u.ticket) s.views id v w at in let z : ticket_count v.ticket ≡ 0 = ap ticket_count free in let c = h.count in omega arith in
      let parts : parts_of (set s.views id w) ≡ key.1 =
      let t = total-set (λ (u : SeatView E F). u.parts) s.views id v w at in let c = h.parts in omega arith in (
        w,
        keeps,
        tt,
        (
          m',
          record {
            words_are = draw_word m s.words h.words_are;
            count = count;
            parts = parts;
            few = h.few;
            made = h.made;
            none_else = h.none_else;
            each = each_set (Fit key m') s.views id w (λ j u ne e. draw_other key m id j u (h.each j u e)) (draw_own key m id v le idle caller paid (h.each id v at));
            queue = draw_queue m s.views id v free at h.queue;
            home = home_set story frame by (frame key.0) m.log s.homes s.views id v w at idle idle h.home;
          },
        ),
        (m.drawn, ap (λ (ws : List ℕ). slice_index ws 0) h.words_are, refl),
      )

  -- the look
  took : (key : S × ℕ) (m : Moment E) (id : ℕ) (v : SeatView E F) (log : List E) → log ≡ m.log → v.ticket ≡ Some m.served → Fit key m id v → Fit key m id (with_turn log v)
  took key m id v log is t h = record {
    framed = h.framed;
    seen = subst (λ l. StartsWith m.log l) (sym is) (starts-refl m.log);
    told = h.told;
    called = h.called;
    own = λ c e. ap (entries_by by c) is ∙ (h.called c e).2;
    nameless = λ nobody plain. absurd (cc (sym t ∙ (h.nameless nobody plain).0));
    gathered = h.gathered;
    ticket = h.ticket;
    paid = h.paid;
    turn = λ _. (t, is);
    maker = h.maker;
  }

  -- a look that changes no view
  still : (key : S × ℕ) (s : State (Option S) (SeatView E F)) (id : ℕ) (v : SeatView E F) → Rule key s → get_elem? s.views id ≡ some v → Rule key (stepped s 1 (slice_index s.words 1) id [] v keeps)
  still key s id v kept at =
      let m = kept.0 in
      let h = kept.1 in
      let again : s.views ≡ set s.views id v = sym (set_again s.views id v at) in
      let ws : s.words ≡ slice_set s.words 1 (slice_index s.words 1) = h.words_are ∙ sym (same_word m s.words h.words_are) in
      (m, subst (λ (x : List ℕ × List (SeatView E F)). MomentHolds story frame by (frame key.0) key.1 m x.0 s.homes x.1) (λ i. (ws i, again i)) h)

  -- Where the word that is served is that of a seat's ticket, its ticket is the one served.
  its_turn : (key : S × ℕ) (m : Moment E) (s : State (Option S) (SeatView E F)) (id : ℕ) (v : SeatView E F) (t : ℕ) → MomentHolds story frame by (frame key.0) key.1 m s.words s.homes s.views → get_elem? s.views id ≡ some v → v.ticket ≡ Some t → slice_index s.words 1 ≡ t % 2 ^ 64 → t ≡ m.served
  its_turn key m s id v t h at wait e =
      let fit = h.each id v at in
      let ticket = fit.ticket t wait in
      let few : tickets_out s.views ≤ parts_of s.views = total-le (λ (u : SeatView E F). ticket_count u.ticket) (λ (u : SeatView E F). u.parts) s.views (λ i u a. (h.each i u a).paid) in
      let c = h.count in
      let p = h.parts in
      let q = h.few in
      let w : slice_index s.words 1 ≡ m.served % 2 ^ 64 = ap (λ (ws : List ℕ). slice_index ws 1) h.words_are in
      let lo = ticket.1 in
      let hi = ticket.2 in
      sym (one_turn m.served t (2 ^ 64) lo (omega arith) (sym w ∙ e))

  -- A seat that has a ticket, and no turn, may look whether the ticket is served.
  pub looks : (key : S × ℕ) (slots id : ℕ) (v : SeatView E F) (t : ℕ) → v.ticket ≡ Some t → v.turn ≡ false → v.fresh ≡ false → Allows (Rule key) slots id (v, []) 1 (λ n. n) (Looks story frame by (step slots 1 0 0 none) (v, []))
  looks key slots id v t wait idle plain s kept len at fits =
      let m = kept.0 in
      let h = kept.1 in
      let fit = h.each id v at in
      dite (ℕ_discrete (slice_index s.words 1) (ticket_word v.ticket))
      (λ hit.
      let same : t ≡ m.served = its_turn key m s id v t h at wait (hit ∙ ap ticket_word wait) in
      let mine : v.ticket ≡ Some m.served = wait ∙ ap Some same in
      elim h.home [
        | inl x ↦
            let w = with_turn (story x.0) v in (
              w,
              takes 0 (Some x.0),
              ap (λ hs. get_elem? hs 0) x.1,
              (
                m,
                record {
                  words_are = same_word m s.words h.words_are;
                  count = h.count ∙ ap (λ (k : ℕ). m.served + k) (sym (same_total (λ (u : SeatView E F). ticket_count u.ticket) s.views id v w at refl));
                  parts = same_total (λ (u : SeatView E F). u.parts) s.views id v w at refl ∙ h.parts;
                  few = h.few;
                  made = h.made;
                  none_else = h.none_else;
                  each = each_set (Fit key m) s.views id w (λ j u ne e. h.each j u e) (took key m id v (story x.0) x.2 mine fit);
                  queue = queue_set m s.views id v w at refl h.queue;
                  home = inr (id, w, set_at s.views id v w at, refl, ap (λ hs. slice_set hs 0 none) x.1 ∙ ap (λ b. left_home b ∷ []) (sym plain));
                },
              ),
              ((λ _. (x.0, (subst (λ l. StartsWith l v.seen) (sym x.2) fit.seen, (λ c e. (ap (entries_by by c) x.2 ∙ (fit.called c e).2, fit.own c e)), (λ g e. fit.framed g e ∙ sym x.3)), refl)), (λ miss. absurd (miss hit))),
            )
        | inr x ↦
            let theirs = (h.each x.0 x.1 x.2).turn x.3 in
            let holder : x.0 ≡ id = one_holder story frame by key m x.0 id x.1 v m.served (h.each x.0 x.1 x.2) fit theirs.0 mine in
            let e : x.1 ≡ v = some-injective x.1 v (sym x.2 ∙ (ap (λ k. get_elem? s.views k) holder ∙ at)) in
            true_and_false _ x.3 (ap (λ (u : SeatView E F). u.turn) e ∙ idle)
      ])
      (λ miss. (v, keeps, tt, still key s id v kept at, ((λ hit. absurd (miss hit)), (λ _. refl))))

  -- the empty slot is taken
  unfresh : (key : S × ℕ) (m : Moment E) (id : ℕ) (v : SeatView E F) → Fit key m id v → Fit key m id (with_slot v)
  unfresh key m id v h = record { framed = h.framed; seen = h.seen; told = h.told; called = h.called; own = h.own; nameless = h.nameless; gathered = h.gathered; ticket = h.ticket; paid = h.paid; turn = h.turn; maker = h.maker }

  -- A seat that has the turn may take the slot while that is still empty.
  pub takes_empty : (key : S × ℕ) (slots id : ℕ) (v : SeatView E F) → v.turn ≡ true → v.fresh ≡ true → Allows (Rule key) slots id (v, []) 1 (λ n. n) (TakesEmpty (step slots 1 0 0 none) (v, []))
  takes_empty key slots id v on fresh s kept len at fits =
      let m = kept.0 in
      let h = kept.1 in
      let w = with_slot v in
      let hs : s.homes ≡ some None ∷ [] = away story frame by (frame key.0) key.1 m s.words s.homes s.views id v h at on ∙ ap (λ b. left_home b ∷ []) fresh in (
        w,
        takes 0 None,
        ap (λ xs. get_elem? xs 0) hs,
        (
          m,
          record {
            words_are = same_word m s.words h.words_are;
            count = h.count ∙ ap (λ (k : ℕ). m.served + k) (sym (same_total (λ (u : SeatView E F). ticket_count u.ticket) s.views id v w at refl));
            parts = same_total (λ (u : SeatView E F). u.parts) s.views id v w at refl ∙ h.parts;
            few = h.few;
            made = h.made;
            none_else = h.none_else;
            each = each_set (Fit key m) s.views id w (λ j u ne e. h.each j u e) (unfresh key m id v (h.each id v at));
            queue = queue_set m s.views id v w at refl h.queue;
            home = inr (id, w, set_at s.views id v w at, on, ap (λ xs. slice_set xs 0 none) hs);
          },
        ),
        refl,
      )

  -- passing the turn on
  abbrev serving : Moment E → Moment E
  serving m = record m { served = m.served + 1 }

  -- After the turn is passed on, each view without the ticket that was served fits as it did.
  pass_other : (key : S × ℕ) (m : Moment E) (j : ℕ) (u : SeatView E F) → (u.ticket ≡ Some m.served → ⊥) → Fit key m j u → Fit key (serving m) j u
  pass_other key m j u ne h = record {
    framed = h.framed;
    seen = h.seen;
    told = h.told;
    called = h.called;
    own = h.own;
    nameless = h.nameless;
    gathered = h.gathered;
    ticket = λ t e. let k = h.ticket t e in let d : t ≢ m.served = (λ same. ne (e ∙ ap Some same)) in let lo = k.1 in (k.0, omega arith, k.2);
    paid = h.paid;
    turn = λ on. absurd (ne (h.turn on).0);
    maker = h.maker;
  }

  -- After the turn is passed on, the view of the seat that had it fits without ticket and turn.
  pass_own : (key : S × ℕ) (m : Moment E) (id : ℕ) (v : SeatView E F) → Fit key m id v → Fit key (serving m) id (without_turn v)
  pass_own key m id v h = record {
    framed = h.framed;
    seen = h.seen;
    told = h.told;
    called = h.called;
    own = h.own;
    nameless = λ _ _. (refl, refl);
    gathered = h.gathered;
    ticket = λ t e. absurd (cc e);
    paid = omega arith;
    turn = λ on. true_and_false _ on refl;
    maker = h.maker;
  }

  -- after the turn is passed on each ticket from the next one on is held as before
  pass_queue : (m : Moment E) (views : List (SeatView E F)) (id : ℕ) (v w : SeatView E F) → v.ticket ≡ Some m.served → get_elem? views id ≡ some v → IsQueue m views → IsQueue (serving m) (set views id w)
  pass_queue m views id v w its at h = λ t lo hi.
      let x = h t (omega arith) hi in
      let apart : m.line t ≡ id → ⊥ = λ here.
      let is : v ≡ x.0 = some-injective v x.0 (sym at ∙ (ap (λ k. get_elem? views k) (sym here) ∙ x.1)) in
      let same : m.served ≡ t = cc (sym its ∙ (ap (λ (u : SeatView E F). u.ticket) is ∙ x.2)) in
      omega arith
      in
      queue_apart m views id w t apart x

  -- A seat that has the turn, and has seen the state's history, may give the state back.
  pub passes_on : (key : S × ℕ) (slots id : ℕ) (v : SeatView E F) (x : S) → v.turn ≡ true → story x ≡ v.seen → v.frame ≡ Some (frame x)
      → Allows (Rule key) slots id (v, (0, Some x) ∷ []) 1 (λ n. (n + 1) % 2 ^ 64) (PassesOn (step slots 1 1 0 none) (v, (0, Some x) ∷ []))
  passes_on key slots id v x on is framed s kept len at fits =
      let m = kept.0 in
      let h = kept.1 in
      let fit = h.each id v at in
      let mine = fit.turn on in
      let m' = serving m in
      let w = without_turn v in
      let hs = away story frame by (frame key.0) key.1 m s.words s.homes s.views id v h at on in
      let else_no : (j : ℕ) (u : SeatView E F) → j ≢ id → get_elem? s.views j ≡ some u → u.ticket ≡ Some m.served → ⊥ = λ j u ne e t. ne (only_turn story frame by (frame key.0) key.1 m s.words s.homes s.views id j v u h at on e t) in
      let count : m.drawn ≡ (m.served + 1) + tickets_out (set s.views id w) =
      let t = total-set (λ (u : SeatView E F). ticket_count u.ticket) s.views id v w at in let z : ticket_count v.ticket ≡ 1 = ap ticket_count mine.0 in let c = h.count in omega arith in (
        w,
        gives,
        tt,
        (
          m',
          record {
            words_are = serve_word m s.words h.words_are;
            count = count;
            parts = same_total (λ (u : SeatView E F). u.parts) s.views id v w at refl ∙ h.parts;
            few = h.few;
            made = h.made;
            none_else = h.none_else;
            each = each_set (Fit key m') s.views id w (λ j u ne e. pass_other key m j u (else_no j u ne e) (h.each j u e)) (pass_own key m id v fit);
            queue = pass_queue m s.views id v w mine.0 at h.queue;
            home = inl (
              x,
              ap (λ xs. slice_set xs 0 (some (Some x))) hs,
              is ∙ mine.1,
              fit.framed (frame x) framed,
              each_set (λ _ (u : SeatView E F). u.turn ≡ false) s.views id w (λ j u ne e. false_from_ne_true u.turn (λ its. else_no j u ne e ((h.each j u e).turn its).0)) refl,
            );
          },
        ),
        (ap (λ (ws : List ℕ). slice_index ws 1) h.words_are ∙ sym (ap ticket_word mine.0), refl),
      )
