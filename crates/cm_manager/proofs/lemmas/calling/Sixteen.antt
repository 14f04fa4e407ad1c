-- Passes of sixteen callers.
use Rattle.std.proofs.Common.{◌≡◌, ℕ, List, length, sym, ap, ◌∙◌}
use Rattle.std.proofs.lemmas.List.{length-map}
use Rattle.std.proofs.lemmas.List.FromFn.{length-range_with_len}
use Rattle.cm_turn.specs.Passes.{LockView}
use Rattle.cm_manager.specs.Contract.{RealmPass}
use Rattle.cm_manager.specs.Kept.{AreSixteen}

-- Sixteen passes are a list of sixteen.
pub sixteen_long : (turn : LockView) (passes : List RealmPass) → AreSixteen turn passes → length passes ≡ 16
sixteen_long turn passes are = sym (length-map passes (λ (p : RealmPass). p.caller)) ∙ ap (λ (l : List ℕ). length l) are.callers ∙ length-range_with_len 0 16
