-- Lemmas on what gates tell of calls that follow one another.
use Rattle.std.proofs.Common.{◌≤◌, ℕ, ◌+◌, ◌-◌, ◌^◌, min, List, [], ◌++◌, Option, Some, None, ap, sym, ◌∙◌, append_assoc, append-nil, arith}
use Rattle.cm_gate.specs.declared.asked.GateCall.{GateCall}
use Rattle.cm_gate.specs.Logs.{Grew, RoseBy}

-- a log to which nothing was done
pub grew_nothing : (log : Option (List GateCall)) → Grew log log []
grew_nothing None = tt
grew_nothing (Some told) = sym (append-nil told)

-- A log that grew by some questions and then by more grew by all of them.
pub grew_trans : (a b c : Option (List GateCall)) (xs ys : List GateCall) → Grew a b xs → Grew b c ys → Grew a c (xs ++ ys)
grew_trans a b None xs ys before behind = tt
grew_trans a None (Some z) xs ys before behind = absurd behind
grew_trans None (Some y) (Some z) xs ys before behind = absurd before
grew_trans (Some x) (Some y) (Some z) xs ys before behind =
    behind ∙ ap (λ (l : List GateCall). l ++ ys) before ∙ append_assoc x xs ys

-- A count that doesn't fall has risen by at least nothing.
rose_none : (a b end : ℕ) → a ≤ b → min (a + 0) end ≤ b
rose_none a b end h = grind arith

-- Where a count rose by one number and then by another, it rose by their sum.
rose_sum : (s t a b c end : ℕ) → min (a + s) end ≤ b → min (b + t) end ≤ c → min (a + (s + t)) end ≤ c
rose_sum s t a b c end h k = grind arith

-- A count that didn't fall rose by nothing or more.
pub rose_nothing : (a b : ℕ) → a ≤ b → RoseBy 0 a b
rose_nothing a b h = rose_none a b (2 ^ 64 - 1) h

-- A count that rose by some failures and then by more rose by all of them.
pub rose_trans : (s t a b c : ℕ) → RoseBy s a b → RoseBy t b c → RoseBy (s + t) a c
rose_trans s t a b c h k = rose_sum s t a b c (2 ^ 64 - 1) h k
