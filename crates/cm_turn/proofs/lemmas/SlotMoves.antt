-- Who moves the slot.
use Rattle.std.proofs.Common.{◌≡◌, ◌≢◌, ◌⊎◌, ◌↔◌, ℕ, zero, suc, ◌<◌, List, [], ◌∷◌, ◌++◌, length, set, Some, None, Option, refl, sym, ap, ◌∙◌, subst, inl, inr, arith, All}
use mathlib.Core.Option.{some, none, some-ne-none, some-injective}
use mathlib.Core.Logic.{dite}
use native.Mathlib.Decide.{ℕ_discrete}
use lib.ListN.{get_elem?}
use Rattle.atomic_table.specs.Table.{State, Act, keeps, takes, gives, chain, Valid, homes_after, carried_after, stepped}
use Rattle.atomic_table.proofs.Lists.{set_else, at_longer}
use Rattle.cm_facts.proofs.Booleans.{true_and_false}
use Rattle.cm_turn.specs.declared.view.SeatView.{SeatView}
use Rattle.cm_turn.specs.Rule.{Homes, KeepsRule}
use Rattle.cm_turn.specs.MovesSlots.{AreOut, MayDo, HasTurn, MovesSlots, StepsMove, ArrivalsMove, OnlyTurnMoves}
use Rattle.cm_turn.proofs.lemmas.Moments.{away}
use Rattle.cm_turn.proofs.lemmas.ViewLists.{at_snoc_here}

-- What one slot and those of a seat are while it acts: the slot is at home with x, or the seat has it.
module _ {A : Type 0} (x : A) where
  -- The one slot is at home with its item, and the seat carries none.
  abbrev Here : List (mathlib.Core.Option.Option A) → List (ℕ × A) → Type 0
  Here homes slots = (homes ≡ some x ∷ []) × (slots ≡ [])

  -- The one slot is empty, and the seat carries its item.
  abbrev There : List (mathlib.Core.Option.Option A) → List (ℕ × A) → Type 0
  There homes slots = (homes ≡ none ∷ []) × (slots ≡ (0, x) ∷ [])

  -- What is taken from the one slot is taken at its place, and is what it had.
  taken_from : (k : ℕ) (y : A) → get_elem? (some x ∷ []) k ≡ some (some y) → (k ≡ 0) × (x ≡ y)
  taken_from zero y e = (refl, some-injective x y (some-injective (some x) (some y) e))
  taken_from (suc k) y e = absurd (some-ne-none (some y) (sym e))

  -- Nothing is taken from an empty slot.
  not_taken : (k : ℕ) (y : A) → get_elem? (none ∷ []) k ≡ some (some y) → ⊥
  not_taken zero y e = some-ne-none y (sym (some-injective none (some y) e))
  not_taken (suc k) y e = some-ne-none (some y) (sym e)

  -- A valid act leaves the one item at home or with the seat, where it was one of these before.
  acts : (homes : List (mathlib.Core.Option.Option A)) (slots : List (ℕ × A)) (act : Act A) → Here homes slots ⊎ There homes slots → Valid homes slots act → Here (homes_after homes slots act) (carried_after slots act) ⊎ There (homes_after homes slots act) (carried_after slots act)
  acts homes slots keeps stands valid = stands
  acts homes slots (takes k y) (inl h) valid =
      let e = taken_from k y (ap (λ l. get_elem? l k) (sym h.0) ∙ valid) in
      inr (rw h.0 (rw e.0 refl), rw h.1 (rw e.0 (rw e.1 refl)))
  acts homes slots (takes k y) (inr h) valid = absurd (not_taken k y (ap (λ l. get_elem? l k) (sym h.0) ∙ valid))
  acts homes slots gives (inl h) valid = inl (rw h.1 h.0, rw h.1 refl)
  acts homes slots gives (inr h) valid = inl (rw h.1 (rw h.0 refl), rw h.1 refl)
  acts homes slots (chain a b) stands valid =
      acts (homes_after homes slots a) (carried_after slots a) b (acts homes slots a stands valid.0) valid.1

  -- Where the slot is at home, the seat carries no slot that is out.
  none_out : (slots : List (ℕ × A)) (homes : List (mathlib.Core.Option.Option A)) → homes ≡ some x ∷ [] → All (λ slot. get_elem? homes slot.0 ≡ some none) slots → slots ≡ []
  none_out [] homes e out = refl
  none_out (c ∷ cs) homes e out = absurd (at_home c.0 (ap (λ l. get_elem? l c.0) (sym e) ∙ out 0 c (omega arith)))
    where
      at_home : (k : ℕ) → get_elem? (some x ∷ []) k ≡ some none → ⊥
      at_home zero f = some-ne-none x (some-injective (some x) none f)
      at_home (suc k) f = some-ne-none none (sym f)

  -- a slot that is at home before and after a move has what it had
  pub as_it_was : (y : A) (homes : List (mathlib.Core.Option.Option A)) (slots : List (ℕ × A)) (act : Act A) → homes ≡ some x ∷ [] → All (λ slot. get_elem? homes slot.0 ≡ some none) slots → Valid homes slots act → homes_after homes slots act ≡ some y ∷ [] → homes_after homes slots act ≡ homes
  as_it_was y homes slots act e out valid there =
      elim (acts homes slots act (inl (e, none_out slots homes e out)) valid) [
        | inl h ↦ h.0 ∙ sym e
        | inr h ↦ absurd (some-ne-none y (some-injective (some y) none (ap (λ l. get_elem? l 0) (sym there ∙ h.0))))
      ]

module _ {S E F : Type 0} (story : S → List E) (frame : S → F) (by : E → ℕ) where
  -- A move of a seat that hasn't the turn, neither before it nor after, leaves the state where it is.
  pub only_turn_moves : OnlyTurnMoves story frame by
  only_turn_moves key s t i here there m before after =
      elim here.1.home [
        | inl x ↦ elim there.1.home [
          | inl y ↦ m.homes ∙ as_it_was (Some x.0) (Some y.0) s.homes m.slots m.act x.1 m.may.0 m.may.1 (sym m.homes ∙ y.1)
          | inr y ↦ dite (ℕ_discrete y.0 i)
              (λ same. absurd (after (y.1, ap (λ k. get_elem? t.views k) (sym same) ∙ y.2, y.3)))
              (λ apart. true_and_false _ y.3 (x.4 y.0 y.1 ((m.others y.0 y.1 apart).1 y.2)))
        ]
        | inr x ↦ dite (ℕ_discrete x.0 i)
            (λ same. absurd (before (x.1, ap (λ k. get_elem? s.views k) (sym same) ∙ x.2, x.3)))
            (λ apart.
            away story frame by (frame key.0) key.1 there.0 t.words t.homes t.views x.0 x.1 there.1 ((m.others x.0 x.1 apart).0 x.2) x.3 ∙ sym x.4)
      ]

module _ {S E F : Type 0} (s : State (Option S) (SeatView E F)) where
  -- Each step of a seat on a word of the table is a move that leaves the other seats' views.
  pub steps_move : StepsMove s
  steps_move word number i slots v act may = record {
    slots = slots;
    act = act;
    may = may;
    homes = refl;
    others = λ j u apart. (λ e. set_else s.views i j v apart ∙ e, λ e. sym (set_else s.views i j v apart) ∙ e);
  }

  -- The coming of a seat is a move that leaves the other seats' views.
  pub arrivals_move : ArrivalsMove s
  arrivals_move words v act valid = record {
    slots = [];
    act = act;
    may = (λ k d lt. absurd (omega arith), valid);
    homes = refl;
    others = λ j u apart. (λ e. at_longer s.views (v ∷ []) j u e, λ e. elim (at_snoc_here s.views v u j e) [ inl h ↦ h | inr h ↦ absurd (apart h.0) ]);
  }
