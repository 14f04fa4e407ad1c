-- What a session keeps of its pass and gates, and what its caller performs.
use Rattle.std.proofs.Common.{◌≡◌, inl, inr, ℕ, List, [], ◌∷◌, ◌++◌, refl, sym, ap, subst, append_assoc, append-nil}
use Rattle.cm_world.specs.declared.frame.Frame.{Frame}
use Rattle.cm_world.specs.declared.reply.Entry.{Entry}
use Rattle.cm_manager.specs.Asking.{frame_in, frame_of}
use Rattle.cm_manager.specs.Contract.{RealmPass, GatesView}
use Rattle.cm_manager.specs.Done.{Done, PerformsCommands}
use Rattle.cm_manager.specs.Kept.{IsOwnPass, KeepsPass}
use Rattle.cm_manager.specs.Work.{Manifests}
use Rattle.cm_manager.proofs.lemmas.calling.Keeping.{keeps_nothing, keeps_trans}
use Rattle.cm_session.specs.Session.{KeepsOrNot}
use Rattle.cm_session.specs.Steps.{DoesLine}
use Rattle.cm_session.specs.LineOutcome.{LineOutcome, performed, bad, too_long, done_of}
use Rattle.cm_turn.proofs.lemmas.Histories.{starts-refl}

-- ---- the pass and the gates

-- A pass and gates that are as they were are kept.
pub kept_same : (manifests : Manifests) (p : RealmPass) (g : GatesView) → KeepsOrNot manifests p p g g
kept_same manifests p g = inl (refl, refl)

-- A pass and gates that are kept, and then kept again, are kept from first to last.
pub kept_then : (manifests : Manifests) (p q r : RealmPass) (g h k : GatesView) → KeepsOrNot manifests p q g h → KeepsOrNot manifests q r h k → KeepsOrNot manifests p r g k
kept_then manifests p q r g h k (inl (same, gates)) b =
    subst (λ (x : RealmPass). KeepsOrNot manifests x r g k) same (subst (λ (x : GatesView). KeepsOrNot manifests q r x k) gates b)
kept_then manifests p q r g h k (inr a) (inl (same, gates)) =
    inr (subst (λ (x : RealmPass). KeepsPass manifests p x g k) (sym same) (subst (λ (x : GatesView). KeepsPass manifests p q g x) (sym gates) a))
kept_then manifests p q r g h k (inr a) (inr b) = inr (keeps_trans manifests p q r g h k a b)

-- a pass that has its caller's entries is kept in any case
pub keeps_kept : (manifests : Manifests) (p q : RealmPass) (g h : GatesView) → IsOwnPass p → KeepsOrNot manifests p q g h → KeepsPass manifests p q g h
keeps_kept manifests p q g h own (inl (same, gates)) =
    subst (λ (x : RealmPass). KeepsPass manifests p x g h) (sym same) (subst (λ (x : GatesView). KeepsPass manifests p p g x) (sym gates) (keeps_nothing manifests p g own))
keeps_kept manifests p q g h own (inr is) = is

-- Where a pass and gates are kept or not changed, the pass is of the same lock as before.
pub lock_kept : (manifests : Manifests) (p q : RealmPass) (g h : GatesView) → KeepsOrNot manifests p q g h → q.lock ≡ p.lock
lock_kept manifests p q g h (inl (same, gates)) = ap (λ (x : RealmPass). x.lock) same
lock_kept manifests p q g h (inr is) = is.lock

-- Where a pass and gates are kept or not changed, the pass is of the same caller as before.
pub caller_kept : (manifests : Manifests) (p q : RealmPass) (g h : GatesView) → KeepsOrNot manifests p q g h → q.caller ≡ p.caller
caller_kept manifests p q g h (inl (same, gates)) = ap (λ (x : RealmPass). x.caller) same
caller_kept manifests p q g h (inr is) = is.caller

-- Where a pass and gates are kept or not changed, the pass has the same frame as before.
pub frame_kept : (manifests : Manifests) (p q : RealmPass) (g h : GatesView) → KeepsOrNot manifests p q g h → frame_of q ≡ frame_of p
frame_kept manifests p q g h (inl (same, gates)) = ap frame_of same
frame_kept manifests p q g h (inr is) = ap frame_in is.frame

-- ---- what is performed

-- what is performed from the second place on is performed behind these commands
abbrev pub GoesOn : Frame → ℕ → List Done → List Entry → List Entry → Type 0
GoesOn f c ds h₀ h₁ = (rest : List Done) (end : List Entry) → PerformsCommands f c rest h₁ end → PerformsCommands f c (ds ++ rest) h₀ end

-- What was done in two lists of lines is what was done in the first and in the second.
done-append : (xs ys : List LineOutcome) → done_of (xs ++ ys) ≡ done_of xs ++ done_of ys
done-append [] ys = refl
done-append (performed d ∷ xs) ys = ap (λ (l : List Done). d ∷ l) (done-append xs ys)
done-append (bad at ∷ xs) ys = done-append xs ys
done-append (too_long ∷ xs) ys = done-append xs ys

-- What one line did goes on as the commands that were done by it.
does_follow : (f : Frame) (c : ℕ) (t : LineOutcome) (a b : List Entry) → DoesLine f c t a b → GoesOn f c (done_of (t ∷ [])) a b
does_follow f c (performed d) a b goes = λ rest end follows. PerformsCommands.performs goes follows
does_follow f c (bad at) a b same = λ rest end follows. subst (λ (x : List Entry). PerformsCommands f c rest x end) same follows
does_follow f c too_long a b same = λ rest end follows. subst (λ (x : List Entry). PerformsCommands f c rest x end) same follows

-- What is performed behind commands, and behind others after them, is so behind all.
goes_both : (f : Frame) (c : ℕ) (xs ys : List Done) (a b d : List Entry) → GoesOn f c xs a b → GoesOn f c ys b d → GoesOn f c (xs ++ ys) a d
goes_both f c xs ys a b d first second = λ rest end follows. subst (λ (l : List Done). PerformsCommands f c l a end) (sym (append_assoc xs ys rest)) (first (ys ++ rest) end (second rest end follows))

-- What is performed goes on behind the commands of these lines and of one line more.
pub goes_more : (f : Frame) (c : ℕ) (told : List LineOutcome) (t : LineOutcome) (a b d : List Entry) → GoesOn f c (done_of told) a b → DoesLine f c t b d → GoesOn f c (done_of (told ++ t ∷ [])) a d
goes_more f c told t a b d before does =
    subst (λ (l : List Done). GoesOn f c l a d) (sym (done-append told (t ∷ []))) (goes_both f c (done_of told) (done_of (t ∷ [])) a b d before (does_follow f c t b d does))

-- Before any line was served no command was performed, and the history is as it was.
pub goes_none : (f : Frame) (c : ℕ) (a : List Entry) → GoesOn f c (done_of []) a a
goes_none f c a = λ rest end follows. follows

-- Commands that went on up to the end were performed.
pub goes_all : (f : Frame) (c : ℕ) (ds : List Done) (a b : List Entry) → GoesOn f c ds a b → PerformsCommands f c ds a b
goes_all f c ds a b on =
    subst (λ (l : List Done). PerformsCommands f c l a b) (append-nil ds) (on [] b (PerformsCommands.rests (record { grows = starts-refl b; own = refl })))

-- what a later pass does, as the first one's caller in its frame
pub does_as : (manifests : Manifests) (p q r : RealmPass) (g h : GatesView) (t : LineOutcome) → KeepsOrNot manifests p q g h → DoesLine (frame_of q) q.caller t q.seen r.seen → DoesLine (frame_of p) p.caller t q.seen r.seen
does_as manifests p q r g h t kept does =
    subst (λ (f : Frame). DoesLine f p.caller t q.seen r.seen) (frame_kept manifests p q g h kept)
    (subst (λ (c : ℕ). DoesLine (frame_of q) c t q.seen r.seen) (caller_kept manifests p q g h kept) does)
