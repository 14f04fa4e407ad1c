-- The passes of sixteen callers, and what entries of theirs are.
use Rattle.std.proofs.Common.{◌≡◌, ℕ, zero, suc, ◌+◌, ◌<◌, ◌==◌, List, [], ◌∷◌, ◌++◌, All, map, filter, length, get_or, Bool, true, Some, None, refl, sym, ap, subst, ◌∙◌, arith}
use Rattle.std.specs.List.{slice_get}
use Rattle.std.proofs.lemmas.List.{get_or-map}
use Rattle.std.proofs.lemmas.List.Elements.{All-nil, All-cons, All-append, All-head, All-tail}
use Rattle.std.proofs.lemmas.List.FromFn.{get_or-range_with_len}
use Rattle.std.proofs.lemmas.Option.{slice_get_within, slice_get-get_or, get_or_from_slice_get}
use Rattle.cm_facts.proofs.Numbers.{eq_self}
use Rattle.cm_turn.specs.Passes.{LockView, AreAll, HasCaller, new_pass, new_passes}
use Rattle.cm_turn.proofs.lemmas.AllPasses.{AreAll-new}
use Rattle.cm_world.specs.declared.frame.Frame.{Frame}
use Rattle.cm_world.specs.declared.reply.Entry.{Entry}
use Rattle.cm_manager.specs.Turns.{own_entries}
use Rattle.cm_manager.specs.Contract.{RealmPass}
use Rattle.cm_manager.specs.Kept.{AreSixteen}
use Rattle.cm_manager.proofs.lemmas.calling.Sixteen.{sixteen_long}

module _ {X : Type 0} where
  -- What holds of each item of two lists together holds of each item of the first.
  pub all_prefix : (P : X → Type 0) (xs ys : List X) → All P (xs ++ ys) → All P xs
  all_prefix P [] ys all = All-nil P
  all_prefix P (x ∷ xs) ys all = All-cons P x xs (All-head P x (xs ++ ys) all) (all_prefix P xs ys (All-tail P x (xs ++ ys) all))

  -- What holds of each item of two lists together holds of each item of the second.
  pub all_behind : (P : X → Type 0) (xs ys : List X) → All P (xs ++ ys) → All P ys
  all_behind P [] ys all = all
  all_behind P (x ∷ xs) ys all = all_behind P xs ys (All-tail P x (xs ++ ys) all)

-- ---- entries

-- A first entry that passes a test is kept before the others.
kept_first : (p : Entry → Bool) (e : Entry) (es : List Entry) → p e ≡ true → filter p (e ∷ es) ≡ e ∷ filter p es
kept_first p e es is = rw is refl

-- entries of callers below n, none of whom has one, are none
pub no_entries : (n : ℕ) (es : List Entry) → All (λ (e : Entry). e.caller < n) es → ((c : ℕ) → c < n → own_entries c es ≡ []) → es ≡ []
no_entries n [] low none = refl
no_entries n (e ∷ es) low none =
    let first : own_entries e.caller (e ∷ es) ≡ e ∷ own_entries e.caller es = kept_first (λ (y : Entry). y.caller == e.caller) e es (eq_self e.caller) in
    let nothing : own_entries e.caller (e ∷ es) ≡ [] = none e.caller (All-head (λ (x : Entry). x.caller < n) e es low) in
    absurd (cc (first, nothing))

-- ---- passes

-- A pass of the lock without a frame or entries, for no particular caller.
abbrev blank : LockView → RealmPass
blank turn = record { lock = turn.lock; frame = None; caller = 0; seen = []; mine = [] }

-- The pass at a place among sixteen is that of the caller of this number.
caller_at : (turn : LockView) (passes : List RealmPass) (k : ℕ) (p : RealmPass) → AreSixteen turn passes → slice_get passes k ≡ Some p → p.caller ≡ k
caller_at turn passes k p are at =
    let within : k < length passes = slice_get_within passes k p at in
    let low : k < 16 = subst (λ (n : ℕ). k < n) (sixteen_long turn passes are) within in
    sym (ap (λ (q : RealmPass). q.caller) (get_or_from_slice_get passes k p p at))
    ∙ sym (get_or-map (λ (q : RealmPass). q.caller) passes k p 0 within)
    ∙ ap (λ (l : List ℕ). get_or l k 0) are.callers
    ∙ get_or-range_with_len 0 16 k 0 low
    ∙ (omega arith)

-- the pass of a caller stands at its number
pub pass_of : (turn : LockView) (passes : List RealmPass) (c : ℕ) → AreSixteen turn passes → c < 16 → (p : RealmPass) × (slice_get passes c ≡ Some p) × (p.caller ≡ c)
pass_of turn passes c are low =
    let within : c < length passes = subst (λ (n : ℕ). c < n) (sym (sixteen_long turn passes are)) low in
    let at = slice_get-get_or passes c (blank turn) within in
    (get_or passes c (blank turn), at, caller_at turn passes c (get_or passes c (blank turn)) are at)

-- The passes of sixteen callers are all passes of a lock that has sixteen.
pub sixteen_all : (turn : LockView) (passes : List RealmPass) → turn.passes ≡ 16 → AreSixteen turn passes → AreAll turn passes
sixteen_all turn passes count are = (
  are.lock,
  sixteen_long turn passes are ∙ sym count,
  λ c lt.
      let p = pass_of turn passes c are (subst (λ (n : ℕ). c < n) count lt) in (c, p.0, p.1, p.2),
)

-- A caller that one of the sixteen passes has is below 16.
pub caller_low : (turn : LockView) (passes : List RealmPass) (c : ℕ) → AreSixteen turn passes → HasCaller passes c → c < 16
caller_low turn passes c are has =
    let within : has.0 < 16 = subst (λ (n : ℕ). has.0 < n) (sixteen_long turn passes are) (slice_get_within passes has.0 has.1 has.2) in
    subst (λ (n : ℕ). n < 16) (sym (caller_at turn passes has.0 has.1 are has.2) ∙ has.3) within

-- The sixteen new passes of a lock are those of the sixteen callers.
pub sixteen_new : (turn : LockView) (f : Frame) (passes : List RealmPass) → passes ≡ new_passes turn.lock f 16 → AreSixteen turn passes
sixteen_new turn f passes is = record {
  lock = (AreAll-new (record { lock = turn.lock; passes = 16 }) f passes is).0;
  callers = ap (map (λ (p : RealmPass). p.caller)) is;
}

-- a new pass has its frame, and has seen nothing
pub record IsNew (f : Frame) (p : RealmPass) : Type 0 where
  pub frame : p.frame ≡ Some f
  pub mine : p.mine ≡ []

-- Each new pass of a lock has the frame, and no entries of its own.
pub all_new : (turn : LockView) (f : Frame) (n : ℕ) → All (IsNew f) (new_passes turn.lock f n)
all_new turn f zero = All-nil (IsNew f)
all_new turn f (suc n) = All-append (IsNew f) (new_passes turn.lock f n) (new_pass turn.lock f n ∷ []) (all_new turn f n)
    (All-cons (IsNew f) (new_pass turn.lock f n) [] (record { frame = refl; mine = refl }) (All-nil (IsNew f)))
