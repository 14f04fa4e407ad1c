-- Each action that is begun has its End: in a closed part, in two lists together, and in a history whose callers' entries have theirs.
use Rattle.std.proofs.Common.{◌≡◌, ◌==◌, ◌⊎◌, inl, inr, ⊎_elim, ℕ, zero, suc, List, [], ◌∷◌, ◌++◌, All, Any, Contains, filter, Bool, true, not, true≢false, Some, None, refl, sym, ap, subst, ◌∙◌, arith, rules}
use Rattle.std.proofs.lemmas.List.Elements.{All-contains, All-contains_itself, All-filter, filter_passes, Contains-append_left, Contains-append_right, Contains-append_cases}
use Rattle.std.proofs.lemmas.List.Sorted.{Contains-permutation, IsPermutation-filter_both}
use Rattle.std.proofs.lemmas.Option.{slice_get_within, get_or_from_slice_get}
use Rattle.cm_facts.proofs.Numbers.{eq_self}
use Rattle.cm_world.specs.declared.action.ActKind.{ActKind}
use Rattle.cm_world.specs.declared.action.Finish.{Finish}
use Rattle.cm_world.specs.declared.action.Work.{Work}
use Rattle.cm_world.specs.declared.event.Event.{Event}
use Rattle.cm_world.specs.declared.event.Event.TheVariants as event
use Rattle.cm_world.specs.declared.reply.Reply.{Reply}
use Rattle.cm_world.specs.declared.reply.Reply.TheVariants as reply
use Rattle.cm_world.specs.declared.reply.Entry.{Entry}
use Rattle.cm_manager.specs.Turns.{own_entries}
use Rattle.cm_manager.specs.Work.{begins}
use Rattle.cm_turn.specs.Passes.{BearsPassOut, HasCaller}
use Rattle.cm_laws.specs.Story.{Story}
use Rattle.cm_world.proofs.lemmas.trees.Finding.{some_same}
use Rattle.cm_manager.specs.Closed.{BeginsWork, EndsAction, HasEnds}
use Rattle.cm_manager.specs.ClosedInside.{joins, IsClosed, empty, plain, acted, awaited}
use Rattle.cm_manager.specs.Contract.{RealmPass}
use Rattle.cm_manager.specs.Managers.{BearsPassesOut}

-- ---- elements

module _ {X : Type 0} where
  -- Something holds of one item of a list, where the list contains an item of which it holds.
  pub any_of : (P : X → Type 0) (xs : List X) (x : X) → Contains xs x → P x → Any P xs
  any_of P xs x at is = (at.0, x, at.1, at.2, is)

  -- Where something holds of the first item, it holds of some item.
  any_here : (P : X → Type 0) (x : X) (xs : List X) → P x → Any P (x ∷ xs)
  any_here P x xs is = (0, x, omega arith, refl, is)

  -- Where something holds of some item, it does with one item more in front.
  any_behind : (P : X → Type 0) (x : X) (xs : List X) → Any P xs → Any P (x ∷ xs)
  any_behind P x xs (k, y, lt, at, is) = (suc k, y, omega arith, at, is)

  -- What holds of some item of a list holds of the first one or of one behind it.
  any_cases : (P : X → Type 0) (x : X) (xs : List X) → Any P (x ∷ xs) → P x ⊎ Any P xs
  any_cases P x xs (zero, y, lt, at, is) = inl (subst P (sym at) is)
  any_cases P x xs (suc k, y, lt, at, is) = inr (k, y, omega arith, at, is)

  -- An item that a test keeps is among those kept, where it is in the list.
  kept_by_filter : (p : X → Bool) (xs : List X) (x : X) → p x ≡ true → Contains xs x → Contains (filter p xs) x
  kept_by_filter p xs x passes at =
      ⊎_elim (λ (kept : Contains (filter p xs) x). kept)
      (λ (left : Contains (filter (λ y. not (p y)) xs) x).
      absurd (true≢false (sym (All-contains (λ y. not (p y) ≡ true) _ x (filter_passes (λ y. not (p y)) xs) left) ∙ ap not passes)))
      (Contains-append_cases (filter p xs) (filter (λ y. not (p y)) xs) x
      (Contains-permutation xs _ x (IsPermutation-filter_both p (λ y. not (p y)) (λ y. refl) xs) at))

  -- An item that is among those that a test keeps is in the list.
  kept_of_filter : (p : X → Bool) (xs : List X) (x : X) → Contains (filter p xs) x → Contains xs x
  kept_of_filter p xs x at = All-contains (Contains xs) (filter p xs) x (All-filter p (Contains xs) xs (All-contains_itself xs)) at

-- ---- parts

-- In an empty list each action that is begun has its end.
pub none_has_ends : HasEnds []
none_has_ends b (k, e, lt, at, is) = absurd (omega arith)

-- an entry that joins an action begins none
joins_apart : (v : Event) (r : Reply) (a : ℕ) (b : ActKind × Work) → joins v r ≡ Some a → begins v r ≡ Some b → ⊥
joins_apart (event.Begin k i) (reply.Begun w) a b joined is = absurd (cc joined)
joins_apart (event.Begin k i) (reply.Joined a') a b joined is = absurd (cc is)
joins_apart (event.Begin k i) _ a b joined is = absurd (cc joined)
joins_apart _ r a b joined is = absurd (cc joined)

-- Where an entry doesn't begin this work, the work is ended behind it if it was behind the others.
behind_other : (b : ActKind × Work) (e : Entry) (es : List Entry) → (BeginsWork b e → ⊥) → (Any (BeginsWork b) es → Any (EndsAction b.1.action) es) → Any (BeginsWork b) (e ∷ es) → Any (EndsAction b.1.action) (e ∷ es)
behind_other b e es never rest any = ⊎_elim
    (λ (is : BeginsWork b e). absurd (never is))
    (λ (later : Any (BeginsWork b) es). any_behind (EndsAction b.1.action) e es (rest later))
    (any_cases (BeginsWork b) e es any)

-- An entry whose event begins no action doesn't begin this work.
begins_nothing : (b : ActKind × Work) (e : Entry) (v : Event) → e.event ≡ v → begins v e.reply ≡ None → BeginsWork b e → ⊥
begins_nothing b e v event none is = cc (sym none ∙ ap (λ (w : Event). begins w e.reply) (sym event) ∙ is)

-- behind an entry that begins something, with its end
behind_begun : (b c : ActKind × Work) (e e' : Entry) (es : List Entry) (finish : Finish) → BeginsWork c e → e'.event ≡ event.End c.1.action finish → (Any (BeginsWork b) es → Any (EndsAction b.1.action) es) → Any (BeginsWork b) (e ∷ e' ∷ es) → Any (EndsAction b.1.action) (e ∷ e' ∷ es)
behind_begun b c e e' es finish was end rest any = any_behind (EndsAction b.1.action) e (e' ∷ es) (⊎_elim
    (λ (is : BeginsWork b e). any_here (EndsAction b.1.action) e' es
    (finish, subst (λ (d : ActKind × Work). e'.event ≡ event.End d.1.action finish) (some_same c b (sym was ∙ is)) end))
    (λ (later : Any (BeginsWork b) (e' ∷ es)). behind_other b e' es (begins_nothing b e' (event.End c.1.action finish) end refl) rest later)
    (any_cases (BeginsWork b) e (e' ∷ es) any))

-- In a closed part each action that is begun has its end.
pub closed_has_ends : (part : List Entry) → IsClosed part → HasEnds part
closed_has_ends [] empty b any = none_has_ends b any
closed_has_ends (e ∷ es) (plain apart none rest) b any =
    behind_other b e es (begins_nothing b e e.event refl apart) (closed_has_ends es rest b) any
closed_has_ends (e ∷ e' ∷ es) (acted {b = c} {finish = finish} was end rest) b any =
    behind_begun b c e e' es finish was end (closed_has_ends es rest b) any
closed_has_ends (e ∷ e' ∷ es) (awaited {a = a} joined is rest) b any =
    behind_other b e (e' ∷ es) (joins_apart e.event e.reply a b joined)
    (behind_other b e' es (begins_nothing b e' (event.Await a) is refl) (closed_has_ends es rest b)) any

-- In two lists together each action that is begun has its end, where it has in each of them.
pub both_have_ends : (p q : List Entry) → HasEnds p → HasEnds q → HasEnds (p ++ q)
both_have_ends p q left right b (k, e, lt, at, is) = ⊎_elim
    (λ (there : Contains p e). let end = left b (any_of (BeginsWork b) p e there is) in
    any_of (EndsAction b.1.action) (p ++ q) end.1 (Contains-append_left p q end.1 (end.0, end.2, end.3)) end.4)
    (λ (there : Contains q e). let end = right b (any_of (BeginsWork b) q e there is) in
    any_of (EndsAction b.1.action) (p ++ q) end.1 (Contains-append_right p q end.1 (end.0, end.2, end.3)) end.4)
    (Contains-append_cases p q e (k, lt, at))

-- a call keeps it so: it adds a closed part to its caller's entries
pub grown_has_ends : (mine part whole : List Entry) → HasEnds mine → IsClosed part → whole ≡ mine ++ part → HasEnds whole
grown_has_ends mine part whole ends closed is = subst HasEnds (sym is) (both_have_ends mine part ends (closed_has_ends part closed))

-- ---- histories

-- what each caller began has its end among that caller's entries, which stand in the history
pub history_has_ends : (history : List Entry) (passes : List RealmPass) → BearsPassesOut history passes → All (λ (p : RealmPass). HasEnds p.mine) passes → HasEnds history
history_has_ends history passes closes ends b (k, e, lt, at, is) =
    let has : HasCaller passes e.caller = All-contains (λ (x : Entry). HasCaller passes x.caller) history e closes.callers (k, lt, at) in
    let p : RealmPass = has.1 in
    let there : Contains passes p = (has.0, slice_get_within passes has.0 p has.2, get_or_from_slice_get passes has.0 p p has.2) in
    let known : BearsPassOut (λ (s : Story). s.entries) (λ s. s.frame) (λ (x : Entry). x.caller) closes.story p = All-contains (BearsPassOut (λ (s : Story). s.entries) (λ s. s.frame) (λ (x : Entry). x.caller) closes.story) passes p closes.known there in
    let mine : own_entries e.caller history ≡ p.mine = ap (λ (c : ℕ). own_entries c history) (sym has.3) ∙ ap (own_entries p.caller) closes.entries ∙ known.2 in
    let own : Contains p.mine e = subst (λ (l : List Entry). Contains l e) mine (kept_by_filter (λ (x : Entry). x.caller == e.caller) history e (eq_self e.caller) (k, lt, at)) in
    let end = All-contains (λ (q : RealmPass). HasEnds q.mine) passes p ends there b (any_of (BeginsWork b) p.mine e own is) in
    any_of (EndsAction b.1.action) history end.1
    (kept_of_filter (λ (x : Entry). x.caller == e.caller) history end.1 (subst (λ (l : List Entry). Contains l end.1) (sym mine) (end.0, end.2, end.3))) end.4
