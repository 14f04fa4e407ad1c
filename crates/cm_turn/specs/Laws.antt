-- Inside.
-- What always holds of the lock's table, between any two steps. A table has words, one slot with the
-- state, and seats: each seat belongs to a thread and has a view, which is what the thread knows.
use Rattle.std.specs.Prelude.{◌≡◌, ℕ, ◌+◌, ◌%◌, ◌^◌, ◌<◌, ◌≤◌, true, false, List, [], ◌∷◌, Option, Some, None}
use Rattle.std.specs.Prelude.{slice_index}
use mathlib.Core.Option.{some}
use lib.ListN.{get_elem?}
use Rattle.atomic_table.specs.Table.{State}
use Rattle.cm_turn.specs.declared.view.SeatView.{SeatView}
use Rattle.cm_turn.specs.History.{StartsWith, entries_by}
use Rattle.cm_turn.specs.Rule.{tickets_out, left_home, KeepsRule}

-- the fact holds of the lock's frame, of the history, and of the table, whenever the lock's rule is
-- kept
abbrev pub Always : {S E F : Type 0} → (S → List E) → (S → F) → (E → ℕ)
    → (F → List E → State (Option S) (SeatView E F) → Type 0) → Type 0
Always {S} {E} {F} story frame by Fact =
    (key : S × ℕ) (s : State (Option S) (SeatView E F)) (kept : KeepsRule story frame by key s)
    → Fact (frame key.0) kept.0.log s

module _ {S E F : Type 0} where
  -- seat i has the view v
  abbrev pub HasView : State (Option S) (SeatView E F) → ℕ → SeatView E F → Type 0
  HasView s i v = get_elem? s.views i ≡ some v

  -- the state x is in the slot, so no thread has it
  abbrev pub AtHome : State (Option S) (SeatView E F) → S → Type 0
  AtHome s x = s.homes ≡ some (Some x) ∷ []

  -- at most one seat has the turn: the lock excludes all others
  abbrev pub OneTurn : State (Option S) (SeatView E F) → Type 0
  OneTurn s =
      (i j : ℕ) (v u : SeatView E F) → HasView s i v → HasView s j u → v.turn ≡ true → u.turn ≡ true → i ≡ j

  -- no two seats speak for the same caller
  abbrev pub OneCaller : State (Option S) (SeatView E F) → Type 0
  OneCaller s =
      (i j c : ℕ) (v u : SeatView E F) → HasView s i v → HasView s j u → v.caller ≡ Some c → u.caller ≡ Some c
      → i ≡ j

  -- each caller's pass was made by the maker
  abbrev pub CallersAreMade : State (Option S) (SeatView E F) → Type 0
  CallersAreMade s =
      (i j c : ℕ) (v u : SeatView E F) → HasView s i v → HasView s j u → v.caller ≡ Some c → u.makes ≡ true
      → c < u.made

  -- only a seat that speaks for a caller waits or has the turn, the maker excepted
  abbrev pub OnlyCallersWait : State (Option S) (SeatView E F) → Type 0
  OnlyCallersWait s =
      (i : ℕ) (v : SeatView E F) → HasView s i v → v.caller ≡ None → v.makes ≡ false
      → (v.ticket ≡ None) × (v.turn ≡ false)

  -- no two seats have the same ticket, not even modulo 2^64
  abbrev pub OneTicket : State (Option S) (SeatView E F) → Type 0
  OneTicket s =
      (i j t r : ℕ) (v u : SeatView E F) → HasView s i v → HasView s j u → v.ticket ≡ Some t
      → u.ticket ≡ Some r
      → t % 2 ^ 64 ≡ r % 2 ^ 64 → i ≡ j

  -- the word for the next ticket is that for the served one plus the number of tickets held, modulo
  -- 2^64
  abbrev pub CountsTickets : State (Option S) (SeatView E F) → Type 0
  CountsTickets s = slice_index s.words 0 ≡ (slice_index s.words 1 + tickets_out s.views) % 2 ^ 64

  -- each ticket that is held is among as many from the served one on, modulo 2^64
  abbrev pub TicketsFollow : State (Option S) (SeatView E F) → Type 0
  TicketsFollow s =
      (i t : ℕ) (v : SeatView E F) → HasView s i v → v.ticket ≡ Some t
      → (k : ℕ) × (k < tickets_out s.views) × (t % 2 ^ 64 ≡ (slice_index s.words 1 + k) % 2 ^ 64)

  -- each of so many tickets from the served one on is held, so the turn always comes to whoever waits
  abbrev pub AllAreHeld : State (Option S) (SeatView E F) → Type 0
  AllAreHeld s =
      (k : ℕ) → k < tickets_out s.views
      → (i : ℕ) × (t : ℕ) × (v : SeatView E F) × HasView s i v × (v.ticket ≡ Some t)
      × (t % 2 ^ 64 ≡ (slice_index s.words 1 + k) % 2 ^ 64)

  -- all seats that know a frame know this one
  abbrev pub OneFrame : F → State (Option S) (SeatView E F) → Type 0
  OneFrame f s = (i : ℕ) (v : SeatView E F) (g : F) → HasView s i v → v.frame ≡ Some g → g ≡ f

  -- the state in the slot has this frame
  abbrev pub HomeFrame : (S → F) → F → State (Option S) (SeatView E F) → Type 0
  HomeFrame frame f s = (x : S) → AtHome s x → frame x ≡ f

  -- the history begins with what each seat has seen, and with what it was told
  abbrev pub SeenBegins : List E → State (Option S) (SeatView E F) → Type 0
  SeenBegins log s = (i : ℕ) (v : SeatView E F) → HasView s i v → StartsWith log v.seen
      × StartsWith log v.told

  -- the state is in the slot where no seat has the turn
  abbrev pub OutOnlyInTurn : State (Option S) (SeatView E F) → Type 0
  OutOnlyInTurn s = ((i : ℕ) (v : SeatView E F) → HasView s i v → v.turn ≡ false) → (x : S) × AtHome s x

  -- the state isn't in the slot while a seat has the turn
  abbrev pub OutInTurn : State (Option S) (SeatView E F) → Type 0
  OutInTurn s = (i : ℕ) (v : SeatView E F) → HasView s i v → v.turn ≡ true → s.homes ≡ left_home v.fresh ∷ []

  -- the state in the slot has the whole history
  abbrev pub HomeIsHistory : (S → List E) → List E → State (Option S) (SeatView E F) → Type 0
  HomeIsHistory story log s = (x : S) → AtHome s x → story x ≡ log

  -- the seat with the turn has seen the whole history
  abbrev pub TurnHasSeenAll : List E → State (Option S) (SeatView E F) → Type 0
  TurnHasSeenAll log s = (i : ℕ) (v : SeatView E F) → HasView s i v → v.turn ≡ true → v.seen ≡ log

  -- the entries of each caller in the history are those that its seat knows as its own
  abbrev pub EntriesAreMine : (E → ℕ) → List E → State (Option S) (SeatView E F) → Type 0
  EntriesAreMine by log s =
      (i c : ℕ) (v : SeatView E F) → HasView s i v → v.caller ≡ Some c → entries_by by c log ≡ v.mine

  -- no entry is of a caller whose pass isn't made yet
  abbrev pub NoOtherEntries : (E → ℕ) → List E → State (Option S) (SeatView E F) → Type 0
  NoOtherEntries by log s =
      (i c : ℕ) (v : SeatView E F) → HasView s i v → v.makes ≡ true → v.made ≤ c → entries_by by c log ≡ []
