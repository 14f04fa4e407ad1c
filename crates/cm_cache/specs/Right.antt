-- Inside.
-- Answers that are those of walks in a tree, and what of a tree walks read.
use Rattle.std.specs.Prelude.{List, [], ◌∷◌, false, None, map}
use Rattle.cm_world.specs.declared.row.Row.{Row}
use Rattle.cm_world.specs.declared.frame.Builtin.{Builtin}
use Rattle.cm_world.specs.declared.route.Start.TheVariants.{UseAt}
use Rattle.cm_world.specs.Route.{IsWalked}
use Rattle.cm_cache.specs.declared.answer.CachedAnswer.{CachedAnswer}
use Rattle.cm_cache.specs.Keeping.{UseKey}

-- the uses of these answers
abbrev pub uses_of : List CachedAnswer → List UseKey
uses_of answers = map (λ a. record { inc = a.inc; path = a.path }) answers

-- each of these answers is that of the walk in this tree
abbrev pub AreRight : List Row → List Builtin → List CachedAnswer → Type 0
AreRight rows builtins [] = Unit {0}
AreRight rows builtins (a ∷ rest) =
    IsWalked rows builtins (UseAt a.inc a.path) a.walked × AreRight rows builtins rest

-- a row as walks read it: without whether it is on, pending, closing and shut
abbrev pub bare : Row → Row
bare r = record r { on = false; pending = None; closing = false; shut = false }
