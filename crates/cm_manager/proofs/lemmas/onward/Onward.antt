-- What a pass that took a turn keeps.
use Rattle.std.proofs.Common.{◌≡◌, ℕ, [], refl, sym, ap, subst, append-nil}
use Rattle.cm_world.specs.declared.frame.Frame.{Frame}
use Rattle.cm_world.specs.World.{start}
use Rattle.cm_world.specs.Legal.{Legal}
use Rattle.cm_manager.specs.Asking.{frame_in, frame_of}
use Rattle.cm_manager.specs.Contract.{RealmPass, IsSamePass}

-- A pass whose frame stayed has the same frame.
pub frame_kept : (p q : RealmPass) → q.frame ≡ p.frame → frame_of q ≡ frame_of p
frame_kept p q same = ap frame_in same

-- a fact on a later pass by its own frame and caller, by those of the earlier one
pub by_first : (P : Frame → ℕ → Type 0) (p q : RealmPass) → q.frame ≡ p.frame → q.caller ≡ p.caller → P (frame_of q) q.caller → P (frame_of p) p.caller
by_first P p q frame caller it = subst (λ (f : Frame). P f p.caller) (frame_kept p q frame) (subst (λ (c : ℕ). P (frame_of q) c) caller it)

-- a pass that took a turn is known to be as it says
pub known_next : (p q : RealmPass) → IsSamePass (frame_of p) p q → IsSamePass (frame_of q) q q
known_next p q same = record {
  lock = refl;
  frame = refl;
  caller = refl;
  seen = ([], sym (append-nil q.seen));
  own = same.own;
  legal = subst (λ (f : Frame). Legal (start f) q.seen) (sym (frame_kept p q same.frame)) same.legal;
}
