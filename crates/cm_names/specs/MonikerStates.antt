-- Inside.
-- The state machine that reads monikers: where the reader stands after some bytes, and how it can go
-- on.
use Rattle.std.specs.Prelude.{ℕ, ◌+◌, Bool, true, false, ◌==◌, ◌&&◌, nat_lt, Option, Some, None}
use Rattle.std.specs.Prelude.{if◌then◌else◌}
use Rattle.cm_names.specs.declared.grammar.MonikerState.{MonikerState}
use Rattle.cm_names.specs.declared.grammar.MonikerState.TheVariants.{Start, Whole, Root, Part, First, Colon}
use Rattle.cm_names.specs.declared.grammar.MonikerState.TheVariants.{Second}
use Rattle.cm_names.specs.Name.{begins_name, continues_name}

-- the state after byte b, for `next`, where n bytes of a name were read: `place` is `First` or `Second`
abbrev pub in_name : (ℕ → MonikerState) → ℕ → ℕ → Option MonikerState
in_name place n b =
    if b == 47 then Some Part else if continues_name b && nat_lt n 255 then Some (place (n + 1)) else None

-- the state after the first byte of a name
abbrev pub begin_name : (ℕ → MonikerState) → ℕ → Option MonikerState
begin_name place b = if begins_name b then Some (place 1) else None

-- the state after one more byte, where some moniker can go on so
abbrev pub next : MonikerState → ℕ → Option MonikerState
next Start b = if b == 46 then Some Whole else if b == 47 then Some Root else begin_name First b
next Whole b = None
next Root b = begin_name First b
next Part b = begin_name First b
next (First n) b = if b == 58 then Some Colon else in_name First n b
next Colon b = begin_name Second b
next (Second n) b = in_name Second n b

-- whether a moniker may end in this state
abbrev pub may_end : MonikerState → Bool
may_end Start = false
may_end Whole = true
may_end Root = true
may_end Part = false
may_end (First n) = true
may_end Colon = false
may_end (Second n) = true
