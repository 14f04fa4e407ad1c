-- Inside.
-- What each step on the lock's table does, as its caller sees it: its view and its slot before, the
-- number that was read from a word, and its view and slot after.
use Rattle.std.specs.Prelude.{◌≡◌, ◌≢◌, ℕ, ◌%◌, ◌^◌, List, [], ◌∷◌, Option, Some, None}
use Rattle.atomic_table.specs.Table.{Me, Step}
use Rattle.cm_turn.specs.declared.view.SeatView.{SeatView}
use Rattle.cm_turn.specs.History.{StartsWith, entries_by, longer}
use Rattle.cm_turn.specs.Views.{spent_view, with_ticket, with_turn, with_slot, with_entries, without_turn}
use Rattle.cm_turn.specs.Views.{with_longer}

-- a ticket as the words have it, modulo 2^64
abbrev pub ticket_word : Option ℕ → ℕ
ticket_word None = 0
ticket_word (Some t) = t % 2 ^ 64

module _ {S E F : Type 0} (story : S → List E) (frame : S → F) (by : E → ℕ) where
  -- the state that a seat finds is one that its view is true of: it has its frame, and the history
  -- begins with what it has seen and has no further entry of its caller
  abbrev pub FindsState : SeatView E F → S → Type 0
  FindsState v s =
      StartsWith (story s) v.seen
      × ((c : ℕ) → v.caller ≡ Some c
      → (entries_by by c (story s) ≡ v.mine) × (entries_by by c v.seen ≡ v.mine))
      × ((g : F) → v.frame ≡ Some g → g ≡ frame s)

  -- where the seat's ticket is served, it gets the turn and the state; else nothing changes
  abbrev pub Looks : Step (Option S) → Me (Option S) (SeatView E F) → ℕ → Me (Option S) (SeatView E F)
      → Type 0
  Looks _ me n after =
      (n ≡ ticket_word me.0.ticket
      → (s : S) × FindsState me.0 s × (after ≡ (with_turn (story s) me.0, (0, Some s) ∷ [])))
      × (n ≢ ticket_word me.0.ticket → after ≡ me)

  -- the seat's view takes over the history that its state has now
  abbrev pub RecordsState : Step (Option S) → Me (Option S) (SeatView E F) → ℕ
      → Me (Option S) (SeatView E F) → Type 0
  RecordsState _ me n after =
      (s : S) × (c : ℕ) × (me.1 ≡ (0, Some s) ∷ []) × (me.0.caller ≡ Some c)
      × (after ≡ (with_entries (story s) (entries_by by c (story s)) me.0, me.1))

  -- the seat takes over what another has told it, where that is more than it had seen
  abbrev pub Learns : Step (Option S) → Me (Option S) (SeatView E F) → ℕ → Me (Option S) (SeatView E F)
      → Type 0
  Learns _ me n after =
      (after ≡ (with_longer me.0, me.1)) × StartsWith (longer me.0.seen me.0.told) me.0.seen
      × StartsWith (longer me.0.seen me.0.told) me.0.told
      × ((c : ℕ) → me.0.caller ≡ Some c → entries_by by c (longer me.0.seen me.0.told) ≡ me.0.mine)

module _ {S E F : Type 0} where
  -- the seat draws a ticket
  abbrev pub Draws : Step (Option S) → Me (Option S) (SeatView E F) → ℕ → Me (Option S) (SeatView E F)
      → Type 0
  Draws _ me n after = (t : ℕ) × (n ≡ t % 2 ^ 64) × (after ≡ (with_ticket t me.0, me.1))

  -- the maker of the lock takes the slot, which is still empty
  abbrev pub TakesEmpty : Step (Option S) → Me (Option S) (SeatView E F) → ℕ
      → Me (Option S) (SeatView E F) → Type 0
  TakesEmpty _ me n after = after ≡ (with_slot me.0, (0, None) ∷ [])

  -- the seat gives the state back, and the next ticket is served
  abbrev pub PassesOn : Step (Option S) → Me (Option S) (SeatView E F) → ℕ → Me (Option S) (SeatView E F)
      → Type 0
  PassesOn _ me n after = (n ≡ ticket_word me.0.ticket) × (after ≡ (without_turn me.0, []))

  -- a new seat comes, which knows nothing
  abbrev pub Arrives : Step (Option S) → Me (Option S) (SeatView E F) → ℕ → Me (Option S) (SeatView E F)
      → Type 0
  Arrives _ me n after = after ≡ (spent_view, [])
