-- What is said where the realm graph and the room alone decide.
use Rattle.std.proofs.Common.{◌≡◌, ℕ, zero, suc, ◌+◌, ◌-◌, ◌≤◌, ◌^◌, List, length, Bool, true, false, true≢false, nat_le, refl, sym, ◌∙◌, arith, IsTrue}
use Rattle.std.proofs.lemmas.Bool.{le-leb, lt-leb, and_from, and_left}
use Rattle.cm_decl.specs.declared.decl.Decl.{Decl}
use Rattle.cm_decl.specs.declared.node.DynChild.{DynChild}
use Rattle.cm_decl.specs.declared.node.Node.{Node}
use Rattle.cm_decl.specs.Graph.{StrongOn}
use Rattle.cm_decl.specs.Reach.{NoCycle}
use Rattle.cm_deps.specs.Outcome.{IsOutcome}
use Rattle.cm_deps.specs.declared.outcome.Order.TheVariants.{Ordered}
use Rattle.cm_deps.proofs.lemmas.given.Outcomes.{ordered_acyclic}
use Rattle.cm_world.specs.declared.row.Row.{Row}
use Rattle.cm_world.specs.World.{rows_fit}
use Rattle.cm_dynamic.specs.Replies.{AnswersGraph}
use Rattle.cm_dynamic.specs.Laws.{EachRoomIsOfSomeLimit}
use Rattle.cm_dynamic.specs.declared.create.MayCreate.TheVariants.{Yes, Full}

-- What needs a free row isn't so where none is free.
no_room : (b : Bool) (free : ℕ) → (IsTrue b → 1 ≤ free) → free ≡ 0 → b ≡ false
no_room false free tells none = refl
no_room true free tells none = let some : 1 ≤ free = tells refl in absurd (omega arith)

-- no ring, and no row is free
pub full_without : (d : Decl) (dynamic : List DynChild) (free : ℕ) → NoCycle (StrongOn d dynamic) → free ≡ 0 → AnswersGraph d dynamic free Full
full_without d dynamic free acyclic none = λ limit next rows tells.
    (acyclic, no_room (rows_fit limit rows next 1) free tells.0 none)

-- no ring, and some rows are free
pub be_without : (d : Decl) (dynamic : List DynChild) (free : ℕ) → NoCycle (StrongOn d dynamic) → 1 ≤ free → AnswersGraph d dynamic free Yes
be_without d dynamic free acyclic some = λ limit next rows tells. (acyclic, tells.1 some, refl)

-- an order, and no row is free
pub is_full : (d : Decl) (dynamic : List DynChild) (order : List Node) (free : ℕ) → IsOutcome d dynamic (Ordered order) → free ≡ 0 → AnswersGraph d dynamic free Full
is_full d dynamic order free outcome none = full_without d dynamic free (ordered_acyclic d dynamic order outcome) none

-- an order, and some rows are free
pub may_be : (d : Decl) (dynamic : List DynChild) (order : List Node) (free : ℕ) → IsOutcome d dynamic (Ordered order) → 1 ≤ free → AnswersGraph d dynamic free Yes
may_be d dynamic order free outcome some = be_without d dynamic free (ordered_acyclic d dynamic order outcome) some

-- ---- a limit for each room

-- No row fits where there may be none.
none_fit : (rows : List Row) → rows_fit 0 rows 0 1 ≡ false
none_fit rows = and_left (nat_le (length rows + 1) 0) (nat_le (0 + 1) (2 ^ 64 - 1)) (lt-leb (length rows + 1) 0 (omega arith))

-- One row fits where there may be one more than there are.
one_fits : (rows : List Row) → rows_fit (length rows + 1) rows 0 1 ≡ true
one_fits rows = and_from (nat_le (length rows + 1) (length rows + 1)) (nat_le (0 + 1) (2 ^ 64 - 1)) (le-leb (length rows + 1) (length rows + 1) (omega arith)) refl

-- Every number of free rows is that of some limit.
pub some_limit : EachRoomIsOfSomeLimit
some_limit rows zero = (0, 0, (λ fits. absurd (true≢false (sym fits ∙ none_fit rows)), λ some. absurd (omega arith)))
some_limit rows (suc free) = (length rows + 1, 0, (λ fits. omega arith, λ some. one_fits rows))
