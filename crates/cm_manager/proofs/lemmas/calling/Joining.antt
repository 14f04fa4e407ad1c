-- How ways and parts are put together.
use Rattle.std.proofs.Common.{◌≡◌, ◌⊎◌, ℕ, List, [], ◌∷◌, ◌++◌, Some, None, Option, refl, sym, ◌∙◌, append_assoc, subst, inl, inr}
use Rattle.cm_world.specs.declared.frame.Frame.{Frame}
use Rattle.cm_world.specs.declared.reply.Entry.{Entry}
use Rattle.cm_world.specs.declared.answer.Refusal.{Refusal}
use Rattle.cm_manager.specs.Turns.{IsLaterHistory, AddsOneEntry, AddsWithinRoom}
use Rattle.cm_manager.specs.Runs.{StartsEager, next_one, cut_at}
use Rattle.cm_gate.specs.declared.asked.GateCall.{GateCall}
use Rattle.cm_manager.specs.Work.{Manifests, Works, nothing, passes, ends}
use Rattle.cm_turn.proofs.lemmas.Histories.{starts-trans}

-- A later history of a later one is a later one, with the caller's own entries as they were.
pub later-trans : (c : ℕ) (a b d : List Entry) → IsLaterHistory c a b → IsLaterHistory c b d → IsLaterHistory c a d
later-trans c a b d ab bd = record { grows = starts-trans d b a bd.grows ab.grows; own = bd.own ∙ ab.own }

-- A turn that adds one entry behind a later history adds it behind the earlier one too.
pub makes-later : (c : ℕ) (a b d : List Entry) {e : _} {r : _} → IsLaterHistory c a b → AddsOneEntry c b e r d → AddsOneEntry c a e r d
makes-later c a b d ab m = record { found = m.found; later = later-trans c a b m.found ab m.later; entries = m.entries }

-- A turn that had room for its entry behind a later history had it behind the earlier one too.
pub asks-later : (f : Frame) (c : ℕ) (a b d : List Entry) {e : _} {r : _} → IsLaterHistory c a b → AddsWithinRoom f c b e r d → AddsWithinRoom f c a e r d
unfolding makes-later
asks-later f c a b d ab m = record { made = makes-later c a b d ab m.made; room = m.room }

-- eager children of two lists, one behind the other
pub eagers-split : (f : Frame) (c : ℕ) (xs ys : List ℕ) (a d : List Entry) (end : Option Refusal) → StartsEager f c (xs ++ ys) a d end → ((b : List Entry) × StartsEager f c xs a b None × StartsEager f c ys b d end) ⊎ ((x : Refusal) × (end ≡ Some x) × StartsEager f c xs a d (Some x))
eagers-split f c [] ys a d end all = inl (a, StartsEager.all_done, all)
eagers-split f c (x ∷ xs) ys a d end (next_one act fine rest) =
    elim (eagers-split f c xs ys _ d end rest) [
      | inl s ↦ inl (s.0, StartsEager.next_one act fine s.1, s.2)
      | inr s ↦ inr (s.0, s.1, StartsEager.next_one act fine s.2)
    ]
eagers-split f c (x ∷ xs) ys a d end (cut_at {x = y} act is) = inr (y, refl, StartsEager.cut_at act is)

-- the work of two parts, one behind the other
pub works-append : (manifests : Manifests) (p q : List Entry) (a b : List GateCall) {n k m : ℕ} → Works manifests p a n k → Works manifests q b k m → Works manifests (p ++ q) (a ++ b) n m
works-append manifests p q a b nothing w = w
works-append manifests p q a b (passes is apart rest) w = Works.passes is apart (works-append manifests _ q _ b rest w)
works-append manifests p q a b {n} {k} {m} (ends {now = now} {later = later} is end rest) w =
    subst (λ (l : List GateCall). Works manifests (p ++ q) l n m) (sym (append_assoc now later b)) (Works.ends is end (works-append manifests _ q _ b rest w))
