-- What histories keep: one thing, entry by entry.
use Rattle.std.proofs.Common.{◌≡◌, ℕ, suc, ◌+◌, ◌≤◌, ◌<◌, List, [], ◌∷◌, ◌++◌, Bool, true, false, cond, Option, Some, None, length, refl, sym, ◌∙◌, ap, subst, arith, nat_le, length-append}
use Rattle.std.proofs.lemmas.Bool.{leb-false}
use Rattle.cm_world.specs.declared.reply.Entry.{Entry}
use Rattle.cm_world.specs.declared.route.Start.TheVariants.{UseAt}
use Rattle.cm_world.specs.declared.route.Walked.{Walked}
use Rattle.cm_world.specs.World.{World, start}
use Rattle.cm_world.specs.Route.{IsWalked}
use Rattle.cm_world.specs.After.{after}
use Rattle.cm_world.specs.Legal.{Legal, replay}
use Rattle.cm_world.specs.Sound.{IsOrderly}
use Rattle.cm_world.proofs.lemmas.trees.Chains.{walked_once}
use Rattle.cm_world.proofs.lemmas.trees.Walks.{walks_end}
use Rattle.cm_world.proofs.lemmas.trees.Histories.{Legal-split}
use Rattle.cm_cache.specs.Answers.{most}
use Rattle.cm_cache.specs.Keeping.{UseKey, KeptUses, nothing, has_use, asked_by, is_lasting, with_use, counted_for, emptied, forgets, forgetting, KeepsBy, KeepsUses, KeepsAll}
use Rattle.cm_cache.specs.Laws.{HistoriesKeepOnce, HistoriesKeep, KeepingGoesOn, KeptAreFew}

-- ---- at most one thing

-- What is kept after an entry is one thing alone.
keeps_by_once : (u : Option UseKey) (w : World) (e : Entry) (old k l : KeptUses) → KeepsBy u w e old k → KeepsBy u w e old l → k ≡ l
keeps_by_once None w e old k l first second = first ∙ sym second
keeps_by_once (Some u) w e old k l first second =
    first.2
    ∙ ap (λ v. counted_for u v old) (walked_once w.rows w.frame.builtins (UseAt u.inc u.path) first.0 second.0 first.1 second.1)
    ∙ sym second.2

-- From one beginning, entries keep one thing at most.
pub keeps_all_once : (w : World) (es : List Entry) (old k l : KeptUses) → KeepsAll w es old k → KeepsAll w es old l → k ≡ l
keeps_all_once w [] old k l first second = first ∙ sym second
keeps_all_once w (e ∷ es) old k l first second =
    let same : first.0 ≡ second.0 = keeps_by_once (asked_by w e.event) w e old first.0 second.0 first.1 second.1 in
    keeps_all_once (after w e) es second.0 k l (subst (λ mid. KeepsAll (after w e) es mid k) same first.2) second.2

-- What a history keeps is fixed by its entries.
pub histories_keep_once : HistoriesKeepOnce
histories_keep_once f es k l first second = keeps_all_once (start f) es nothing k l first second

-- ---- at least one thing

-- After an entry something is kept, where the rows are orderly.
keeps_by_some : (u : Option UseKey) (w : World) (e : Entry) (old : KeptUses) → IsOrderly w.rows w.next_inc → (k : KeptUses) × KeepsBy u w e old k
keeps_by_some None w e old orderly = (forgetting w e old, refl)
keeps_by_some (Some u) w e old orderly =
    let end : (v : Walked) × IsWalked w.rows w.frame.builtins (UseAt u.inc u.path) v = walks_end w.rows w.next_inc w.frame.builtins (UseAt u.inc u.path) orderly in
    (counted_for u end.0 old, (end.0, end.1, refl))

-- After all entries something is kept, where the rows are orderly before each.
keeps_all_some : (w : World) (es : List Entry) (old : KeptUses) → ((prefix rest : List Entry) → es ≡ prefix ++ rest → IsOrderly (replay w prefix).rows (replay w prefix).next_inc) → (k : KeptUses) × KeepsAll w es old k
keeps_all_some w [] old orderly = (old, refl)
keeps_all_some w (e ∷ es) old orderly =
    let here : (k : KeptUses) × KeepsUses w e old k = keeps_by_some (asked_by w e.event) w e old (orderly [] (e ∷ es) refl) in
    let later : (k : KeptUses) × KeepsAll (after w e) es here.0 k = keeps_all_some (after w e) es here.0 (λ prefix rest same. orderly (e ∷ prefix) rest (ap (λ xs. e ∷ xs) same)) in
    (later.0, (here.0, here.1, later.1))

-- Where trees are orderly, every legal history keeps something by the rules.
pub histories_keep : HistoriesKeep
histories_keep trees f es legal =
    keeps_all_some (start f) es nothing
    (λ prefix rest same. trees f prefix (Legal-split (start f) prefix rest (subst (Legal (start f)) same legal)).0)

-- ---- an entry more

-- What entries keep and then one more entry keeps is what all of these keep.
pub keeps_all_push : (w : World) (es : List Entry) (e : Entry) (old k l : KeptUses) → KeepsAll w es old k → KeepsUses (replay w es) e k l → KeepsAll w (es ++ e ∷ []) old l
keeps_all_push w [] e old k l all it = (l, subst (λ o. KeepsUses w e o l) all it, refl)
keeps_all_push w (x ∷ xs) e old k l all it = (all.0, all.1, keeps_all_push (after w x) xs e all.0 k l all.2 it)

-- What one more entry keeps is what the longer history keeps.
pub keeping_goes_on : KeepingGoesOn
keeping_goes_on f es e k l all it = keeps_all_push (start f) es e nothing k l all it

-- ---- few

-- so many uses, and answers that were there
record IsFew (k : KeptUses) (n : ℕ) : Type 0 where
  uses : length k.uses ≤ most
  number : k.number ≤ n

-- A new use beside the others, or alone where they are full, leaves no more than may be kept.
few_with : (t : Bool) (u : UseKey) (uses : List UseKey) → nat_le most (length uses) ≡ t → length (cond t (u ∷ []) (uses ++ u ∷ [])) ≤ most
few_with true u uses is = omega arith
few_with false u uses is =
    let low : length uses < most = leb-false most (length uses) is in
    omega (arith, length-append uses (u ∷ []))

-- What is kept is few, one entry on, where the entry is a hit, has a use to keep, or leaves all.
few_counted : (here lasts : Bool) (u : UseKey) (k : KeptUses) (n : ℕ) → IsFew k n → IsFew (cond here (record k { number = k.number + 1 }) (cond lasts (record k { uses = with_use u k.uses }) k)) (n + 1)
few_counted true lasts u k n few = record { uses = few.uses; number = (let low : k.number ≤ n = few.number in omega arith) }
few_counted false true u k n few = record {
  uses = few_with (nat_le most (length k.uses)) u k.uses refl;
  number = (let low : k.number ≤ n = few.number in omega arith);
}
few_counted false false u k n few = record { uses = few.uses; number = (let low : k.number ≤ n = few.number in omega arith) }

-- What is kept is few, one entry on, where the entry empties it or leaves it.
few_left : (t : Bool) (k : KeptUses) (n : ℕ) → IsFew k n → IsFew (cond t (emptied k) k) (n + 1)
few_left true k n few = record { uses = omega arith; number = (let low : k.number ≤ n = few.number in omega arith) }
few_left false k n few = record { uses = few.uses; number = (let low : k.number ≤ n = few.number in omega arith) }

-- What is kept after an entry is few, one entry on.
few_by : (u : Option UseKey) (w : World) (e : Entry) (old new : KeptUses) (n : ℕ) → IsFew old n → KeepsBy u w e old new → IsFew new (n + 1)
few_by None w e old new n few keeps = subst (λ k. IsFew k (n + 1)) (sym keeps) (few_left (forgets w e) old n few)
few_by (Some u) w e old new n few keeps =
    subst (λ k. IsFew k (n + 1)) (sym keeps.2) (few_counted (has_use old.uses u) (is_lasting keeps.0) u old n few)

-- What is kept after all entries is few, so many entries on.
few_all : (w : World) (es : List Entry) (old new : KeptUses) (n : ℕ) → IsFew old n → KeepsAll w es old new → IsFew new (n + length es)
few_all w [] old new n few keeps =
    subst (λ k. IsFew k (n + 0)) (sym keeps) (subst (IsFew old) (let e : n ≡ n + 0 = omega arith in e) few)
few_all w (e ∷ es) old new n few keeps =
    subst (IsFew new) (let e : n + 1 + length es ≡ n + suc (length es) = omega arith in e)
    (few_all (after w e) es keeps.0 new (n + 1) (few_by (asked_by w e.event) w e old keeps.0 n few keeps.1) keeps.2)

-- The uses that a history keeps are within the limit, and there are no more hits than entries.
pub kept_are_few : KeptAreFew
kept_are_few f es k keeps =
    let few : IsFew k (0 + length es) = few_all (start f) es nothing k 0 (record { uses = omega arith; number = omega arith }) keeps in
    (few.uses, (let low : k.number ≤ 0 + length es = few.number in omega arith))
