-- Promised.
-- The views of seats at a lock, and what each step makes of one. The maker is the seat that makes the
-- lock's passes.
use Rattle.std.specs.Prelude.{ℕ, ◌+◌, ◌-◌, true, false, List, [], ◌∷◌, ◌++◌, Option, Some, None}
use Rattle.cm_turn.specs.declared.view.SeatView.{SeatView}
use Rattle.cm_turn.specs.declared.view.Known.{Known}
use Rattle.cm_turn.specs.History.{longer}

-- the number of a caller; 0 where there is none
abbrev pub caller_of : Option ℕ → ℕ
caller_of None = 0
caller_of (Some c) = c

module _ {E F : Type 0} where
  -- a seat that knows nothing: it has just come, or another seat has taken over what it knew
  abbrev pub spent_view : SeatView E F
  spent_view = record {
    frame = None;
    caller = None;
    seen = [];
    told = [];
    mine = [];
    ticket = None;
    turn = false;
    fresh = false;
    parts = 0;
    makes = false;
    made = 0;
    gathered = [];
  }

  -- the maker outside of a turn, when k of n passes are made
  abbrev pub idle_maker : F → ℕ → ℕ → SeatView E F
  idle_maker f k n = record spent_view { frame = Some f; parts = n - k; makes = true; made = k }

  -- the maker at first, with n passes to make: it has ticket 0 and the turn, and the slot is still
  -- empty
  abbrev pub maker : F → ℕ → SeatView E F
  maker f n = record spent_view {
    frame = Some f;
    ticket = Some 0;
    turn = true;
    fresh = true;
    parts = n;
    makes = true;
  }

  -- the pass of caller c outside of turns
  abbrev pub idle_view : Option F → ℕ → List E → List E → SeatView E F
  idle_view f c seen mine =
      record spent_view { frame = f; caller = Some c; seen = seen; mine = mine; parts = 1 }

  -- the pass of caller c while it has the turn, by ticket t
  abbrev pub holding_view : ℕ → Option F → ℕ → List E → List E → SeatView E F
  holding_view t f c seen mine = record (idle_view f c seen mine) { ticket = Some t; turn = true }

  -- a seat that has taken back n passes, each of which knew this
  abbrev pub gatherer : ℕ → List (Known E F) → SeatView E F
  gatherer n known = record spent_view { parts = n; gathered = known }

  -- the view after a ticket was drawn
  abbrev pub with_ticket : ℕ → SeatView E F → SeatView E F
  with_ticket t v = record v { ticket = Some t }

  -- the view after the turn came, and with it the history
  abbrev pub with_turn : List E → SeatView E F → SeatView E F
  with_turn log v = record v { turn = true; seen = log }

  -- the view of the maker after it has taken the empty slot
  abbrev pub with_slot : SeatView E F → SeatView E F
  with_slot v = record v { fresh = false }

  -- the view after the entries of the turn were recorded
  abbrev pub with_entries : List E → List E → SeatView E F → SeatView E F
  with_entries log mine v = record v { seen = log; mine = mine }

  -- the view after the turn was passed on
  abbrev pub without_turn : SeatView E F → SeatView E F
  without_turn v = record v { ticket = None; turn = false }

  -- the view after another seat has told what it had seen
  abbrev pub with_told : SeatView E F → SeatView E F → SeatView E F
  with_told v w = record v { told = w.seen }

  -- the view after what was told was taken over, where it is more
  abbrev pub with_longer : SeatView E F → SeatView E F
  with_longer v = record v { seen = longer v.seen v.told; told = [] }

  -- the view of the maker after it has made one more pass
  abbrev pub with_one_made : SeatView E F → SeatView E F
  with_one_made v = record v { made = v.made + 1; parts = v.parts - 1 }

  -- the view of the pass that the maker makes next
  abbrev pub next_pass : SeatView E F → SeatView E F
  next_pass v = idle_view v.frame v.made [] []

  -- the view of a seat that only tells what this one has seen
  abbrev pub note_of : SeatView E F → SeatView E F
  note_of v = record spent_view { frame = v.frame; seen = v.seen }

  -- what a pass knew when it was taken back
  abbrev pub known_of : SeatView E F → Known E F
  known_of w = record { frame = w.frame; caller = caller_of w.caller; seen = w.seen; mine = w.mine }

  -- the view after a pass was taken back
  abbrev pub with_pass : SeatView E F → SeatView E F → SeatView E F
  with_pass v w = record v { parts = v.parts + w.parts; gathered = v.gathered ++ known_of w ∷ [] }
