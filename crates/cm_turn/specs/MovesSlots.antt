-- Inside.
-- What the step of one seat may do to the slot with the state.
use Rattle.std.specs.Prelude.{◌≡◌, ◌≢◌, ◌↔◌, ℕ, true, List, [], ◌∷◌, ◌++◌, All, Option, length, slice_set}
use mathlib.Core.Option.{some, none}
use lib.ListN.{get_elem?}
use Rattle.atomic_table.specs.Table.{State, Act, Valid, homes_after, stepped}
use Rattle.cm_turn.specs.declared.view.SeatView.{SeatView}
use Rattle.cm_turn.specs.Laws.{HasView}
use Rattle.cm_turn.specs.Rule.{Homes, KeepsRule}

module _ {S : Type 0} where
  -- none of these slots is at home: seats have them
  abbrev pub AreOut : Homes S → List (ℕ × Option S) → Type 0
  AreOut homes slots = All (λ slot. get_elem? homes slot.0 ≡ some none) slots

  -- a seat that has these slots may do this with them
  abbrev pub MayDo : Homes S → List (ℕ × Option S) → Act (Option S) → Type 0
  MayDo homes slots act = AreOut homes slots × Valid homes slots act

module _ {S E F : Type 0} where
  -- seat i has the turn
  abbrev pub HasTurn : State (Option S) (SeatView E F) → ℕ → Type 0
  HasTurn s i = (v : SeatView E F) × HasView s i v × (v.turn ≡ true)

  -- seat i goes a step from table s to table t: it takes slots or gives some back, and no other seat's
  -- view changes
  pub record MovesSlots (s t : State (Option S) (SeatView E F)) (i : ℕ) : Type 0 where
    -- the slots that it has, and what it does
    pub slots : List (ℕ × Option S)
    pub act : Act (Option S)
    pub may : MayDo s.homes slots act
    -- what is at home afterwards
    pub homes : t.homes ≡ homes_after s.homes slots act
    -- what the other seats know
    pub others : (j : ℕ) (v : SeatView E F) → j ≢ i → HasView s j v ↔ HasView t j v

  -- each step of a seat on a word of the table is such a move
  abbrev pub StepsMove : State (Option S) (SeatView E F) → Type 0
  StepsMove s =
      (word number i : ℕ) (slots : List (ℕ × Option S)) (v : SeatView E F) (act : Act (Option S))
      → MayDo s.homes slots act → MovesSlots s (stepped s word number i slots v act) i

  -- the table with one more seat, which came with this view and did this
  abbrev pub joined_by : State (Option S) (SeatView E F) → List ℕ → SeatView E F → Act (Option S)
      → State (Option S) (SeatView E F)
  joined_by s words v act =
      record { words = words; homes = homes_after s.homes [] act; views = s.views ++ v ∷ [] }

  -- the coming of a seat is such a move too
  abbrev pub ArrivalsMove : State (Option S) (SeatView E F) → Type 0
  ArrivalsMove s =
      (words : List ℕ) (v : SeatView E F) (act : Act (Option S))
      → Valid s.homes [] act → MovesSlots s (joined_by s words v act) (length s.views)

-- a move of a seat that hasn't the turn, neither before it nor after, leaves the state where it is
abbrev pub OnlyTurnMoves : {S E F : Type 0} → (S → List E) → (S → F) → (E → ℕ) → Type 0
OnlyTurnMoves {S} {E} {F} story frame by =
    (key : S × ℕ) (s t : State (Option S) (SeatView E F)) (i : ℕ)
    → KeepsRule story frame by key s → KeepsRule story frame by key t → MovesSlots s t i
    → (HasTurn s i → ⊥) → (HasTurn t i → ⊥) → t.homes ≡ s.homes
