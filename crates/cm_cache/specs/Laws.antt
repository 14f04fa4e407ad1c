-- Inside.
-- Laws of what a cache and a history keep, as statements. Functions of this crate promise them.
use Rattle.std.specs.Prelude.{◌≡◌, ℕ, ◌≤◌, List, [], ◌∷◌, ◌++◌, false, ◌&&◌, ◌==◌, Some, None, map}
use Rattle.std.specs.Prelude.{length, is_some, nat_le, if◌then◌else◌}
use Rattle.std.specs.Str.{bytes_eq}
use Rattle.cm_world.specs.declared.row.Row.{Row}
use Rattle.cm_world.specs.declared.frame.Frame.{Frame}
use Rattle.cm_world.specs.declared.frame.Builtin.{Builtin}
use Rattle.cm_world.specs.declared.reply.Entry.{Entry}
use Rattle.cm_world.specs.declared.route.Start.{Start}
use Rattle.cm_world.specs.declared.route.Start.TheVariants.{UseAt}
use Rattle.cm_world.specs.declared.route.Walked.{Walked}
use Rattle.cm_world.specs.World.{World, start}
use Rattle.cm_world.specs.Route.{IsWalked}
use Rattle.cm_world.specs.After.{after}
use Rattle.cm_world.specs.Legal.{Legal, replay}
use Rattle.cm_world.specs.Sound.{IncarnationsIncrease, IsOrderly}
use Rattle.cm_cache.specs.declared.answer.CachedAnswer.{CachedAnswer}
use Rattle.cm_cache.specs.Answers.{most}
use Rattle.cm_cache.specs.AnswersInside.{kept_at, put_in}
use Rattle.cm_cache.specs.Keeping.{UseKey, KeptUses, KeepsUses, IsKeptOf, forgets, has_use, with_use}
use Rattle.cm_cache.specs.Right.{bare, uses_of, AreRight}

-- what a put leaves of the other answers: all, unless the use is new and the cache is full
abbrev pub left_for : List CachedAnswer → ℕ → List ℕ → List CachedAnswer
left_for answers i path =
    if is_some (kept_at answers i path) then answers
    else if nat_le most (length answers) then [] else answers

-- after a put its use has this answer, and each other use what was left of it
abbrev pub WhatIsPutIsKept : Type 0
WhatIsPutIsKept =
    (answers : List CachedAnswer) (i j : ℕ) (path other : List ℕ) (v : Walked)
    → kept_at (put_in answers i path v) j other
    ≡ (if (i == j) && bytes_eq path other then Some v else kept_at (left_for answers i path) j other)

-- what a history keeps is fixed by its entries
abbrev pub HistoriesKeepOnce : Type 0
HistoriesKeepOnce =
    (f : Frame) (es : List Entry) (k l : KeptUses) → IsKeptOf f es k → IsKeptOf f es l → k ≡ l

-- the trees of legal histories are orderly
abbrev pub TreesAreOrderly : Type 0
TreesAreOrderly =
    (f : Frame) (es : List Entry) → Legal (start f) es
    → IsOrderly (replay (start f) es).rows (replay (start f) es).next_inc

-- where trees are orderly, every legal history keeps something by these rules
abbrev pub HistoriesKeep : Type 0
HistoriesKeep =
    TreesAreOrderly → (f : Frame) (es : List Entry) → Legal (start f) es → (k : KeptUses) × IsKeptOf f es k

-- what one more entry keeps is what the longer history keeps
abbrev pub KeepingGoesOn : Type 0
KeepingGoesOn =
    (f : Frame) (es : List Entry) (e : Entry) (k l : KeptUses) → IsKeptOf f es k
    → KeepsUses (replay (start f) es) e k l → IsKeptOf f (es ++ e ∷ []) l

-- the uses are within the limit, and there are no more hits than entries
abbrev pub KeptAreFew : Type 0
KeptAreFew =
    (f : Frame) (es : List Entry) (k : KeptUses) → IsKeptOf f es k
    → (length k.uses ≤ most) × (k.number ≤ length es)

-- trees that differ only in what no walk reads have the same walks
abbrev pub WalksReadBareRows : Type 0
WalksReadBareRows =
    (rows others : List Row) (builtins : List Builtin) (begin : Start) (v : Walked)
    → map bare rows ≡ map bare others → IsWalked rows builtins begin v → IsWalked others builtins begin v

-- an entry that doesn't empty the cache changes nothing that a walk reads
abbrev pub BareRowsStay : Type 0
BareRowsStay =
    (w : World) (e : Entry) → IncarnationsIncrease w.next_inc w.rows → forgets w e ≡ false
    → map bare (after w e).rows ≡ map bare w.rows

-- so after such an entry each walk comes to what it came to before
abbrev pub WalksStay : Type 0
WalksStay =
    (w : World) (e : Entry) (builtins : List Builtin) (begin : Start) (v : Walked)
    → IncarnationsIncrease w.next_inc w.rows → forgets w e ≡ false
    → IsWalked w.rows builtins begin v → IsWalked (after w e).rows builtins begin v

-- ---- caches beside histories

-- a cache keeps an answer exactly for the uses of its answers
abbrev pub UsesAreKept : Type 0
UsesAreKept =
    (answers : List CachedAnswer) (u : UseKey)
    → has_use (uses_of answers) u ≡ is_some (kept_at answers u.inc u.path)

-- a put for a new use adds it as a history does
abbrev pub PutsAddUses : Type 0
PutsAddUses =
    (answers : List CachedAnswer) (i : ℕ) (path : List ℕ) (v : Walked) → kept_at answers i path ≡ None
    → uses_of (put_in answers i path v) ≡ with_use (record { inc = i; path = path }) (uses_of answers)

-- where all answers are right, the one that is kept for a use is that of its walk
abbrev pub RightAnswers : Type 0
RightAnswers =
    (rows : List Row) (builtins : List Builtin) (answers : List CachedAnswer) (i : ℕ) (path : List ℕ)
    (v : Walked)
    → AreRight rows builtins answers → kept_at answers i path ≡ Some v
    → IsWalked rows builtins (UseAt i path) v

-- putting what a walk comes to leaves the answers right
abbrev pub PutsStayRight : Type 0
PutsStayRight =
    (rows : List Row) (builtins : List Builtin) (answers : List CachedAnswer) (i : ℕ) (path : List ℕ)
    (v : Walked)
    → AreRight rows builtins answers → kept_at answers i path ≡ None → IsWalked rows builtins (UseAt i path) v
    → AreRight rows builtins (put_in answers i path v)

-- an entry that doesn't empty the cache leaves the answers right
abbrev pub AnswersStayRight : Type 0
AnswersStayRight =
    (w : World) (e : Entry) (builtins : List Builtin) (answers : List CachedAnswer)
    → IncarnationsIncrease w.next_inc w.rows → forgets w e ≡ false
    → AreRight w.rows builtins answers → AreRight (after w e).rows builtins answers
