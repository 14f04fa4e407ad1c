-- What the turns of a start come to, and those of eager children.
use Rattle.std.proofs.Common.{◌≡◌, ℕ, List, [], ◌∷◌, drop, length, refl, ap, ◌∙◌, arith}
use Rattle.cm_world.specs.declared.action.ActKind.TheVariants as kind
use Rattle.cm_world.specs.declared.event.Event.TheVariants as event
use Rattle.cm_world.specs.declared.frame.Frame.{Frame}
use Rattle.cm_world.specs.declared.reply.Entry.{Entry}
use Rattle.cm_world.specs.declared.reply.Reply.TheVariants as reply
use Rattle.cm_manager.specs.Turns.{AddsWithinRoom}

-- ---- a row that is resolved first

-- the begin of a start at row i, which needs row j
abbrev pub Needing : ℕ → ℕ → Frame → ℕ → List Entry → List Entry → Type 0
Needing i j f c a b = AddsWithinRoom f c a (event.Begin kind.Start i) (reply.Need j) b

-- ---- rows that are left

-- A list with an item in front isn't the list itself.
not_itself : (x : ℕ) (xs : List ℕ) → x ∷ xs ≡ xs → ⊥
not_itself x xs e = let h : length (x ∷ xs) ≡ length xs = ap (λ (l : List ℕ). length l) e in omega (arith, h)

-- a queue that keeps its items where its first would be taken is empty
pub empty_by : (xs ys : List ℕ) → xs ≡ ys → ys ≡ drop 1 xs → xs ≡ []
empty_by [] ys same rest = refl
empty_by (x ∷ xs) ys same rest = absurd (not_itself x xs (same ∙ rest))
