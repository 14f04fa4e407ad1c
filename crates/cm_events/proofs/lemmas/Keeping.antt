-- What one pass over a history keeps, and what it has told.
use Rattle.std.proofs.Common.{◌≡◌, ℕ, suc, ◌+◌, ◌-◌, ◌<◌, ◌≤◌, ◌==◌, List, [], ◌∷◌, ◌++◌, Option, Some, None, find, take, length, get_or, option_to_list, sym, ◌∙◌, ap, arith, append-nil}
use Rattle.std.specs.Prelude.{filter}
use Rattle.std.specs.List.{flat_map, filter_map, range_with_len}
use Rattle.std.specs.Option.{option_or}
use Rattle.std.specs.HashMap.{HashMap}
use Rattle.std.proofs.lemmas.List.{take_more}
use Rattle.std.proofs.lemmas.List.Elements.{filter_map-append}
use Rattle.std.proofs.lemmas.List.Folds.{find-append}
use Rattle.std.proofs.lemmas.Option.{slice_get-get_or}
use Rattle.cm_names.specs.declared.moniker.Moniker.{Moniker}
use Rattle.cm_world.specs.declared.action.Work.{Work}
use Rattle.cm_world.specs.declared.reply.Entry.{Entry}
use Rattle.cm_world.specs.declared.happening.Happening.{Happening}
use Rattle.cm_events.specs.Stream.{begun_by, work_of, told_by, told_behind, is_within, stream}
use Rattle.cm_events.specs.Works.{work_at, begun_as, told_within}
use Rattle.cm_events.proofs.lemmas.Splitting.{streams_split}
use denote.Ref.{Bor}
use Rattle.cm_facts.proofs.Options.{cons_option_nil}

-- ---- the works of actions

-- the map has the work of each action that the first entries begin
abbrev pub HasWorks : {S : Type 0} → List Entry → ℕ → HashMap ℕ (Bor Work) S → Type 0
HasWorks es i works = (a : ℕ) → work_at works a ≡ work_of (take i es) a

-- the work that the first entries begin, or the next one
pub work_of_more : (es : List Entry) (i : ℕ) (e : Entry) (a : ℕ) → i < length es → e ≡ get_or es i e → option_or (work_of (take i es) a) (begun_as e.reply a) ≡ work_of (take (i + 1) es) a
work_of_more es i e a below at =
    sym (find-append (λ w. w.action == a) (filter_map (λ (x : Entry). begun_by x.reply) (take i es)) (option_to_list (begun_by e.reply)))
    ∙ ap (λ l. find (λ w. w.action == a) (filter_map (λ (x : Entry). begun_by x.reply) (take i es) ++ l)) (sym (cons_option_nil (begun_by e.reply)))
    ∙ ap (find (λ w. w.action == a)) (sym (filter_map-append (λ (x : Entry). begun_by x.reply) (take i es) (e ∷ [])))
    ∙ ap (λ l. work_of l a) (ap (λ x. take i es ++ x ∷ []) at ∙ sym (take_more es i e below))

-- With what the next entry begins in it, the map has the works that one entry more begins.
pub works_more : {S : Type 0} (es : List Entry) (i : ℕ) (e : Entry) (works more : HashMap ℕ (Bor Work) S) → i < length es → e ≡ get_or es i e → HasWorks es i works → ((a : ℕ) → work_at more a ≡ option_or (work_at works a) (begun_as e.reply a)) → HasWorks es (i + 1) more
works_more es i e works more below at before added a =
    added a
    ∙ ap (λ o. option_or o (begun_as e.reply a)) (before a)
    ∙ work_of_more es i e a below at

-- ---- what has been told

-- Two ways to find works that find the same for each action are the same.
same_works : (f g : ℕ → Option Work) → ((a : ℕ) → f a ≡ g a) → f ≡ g
same_works f g same = λ i a. same a i

-- What an entry tells is told by the works of the entries before it.
told_here : (es : List Entry) (i : ℕ) (e : Entry) → i < length es → e ≡ get_or es i e → told_behind es i ≡ told_by (work_of (take i es)) (i + 1) e.event e.reply
told_here es i e below at =
    ap (λ o. elim o as (λ _. List Happening) [ None ↦ [] | Some x ↦ told_by (work_of (take i es)) (i + 1) x.event x.reply ]) (slice_get-get_or es i e below ∙ ap Some (sym at))

-- The stream of one entry is what it tells within the scope.
one_entry : (es : List Entry) (i : ℕ) (scope : Moniker) → stream es i (i + 1) scope ≡ filter (is_within scope) (told_behind es i)
one_entry es i scope =
    let one : (i + 1) - i ≡ suc 0 = omega arith in
    ap (λ k. filter (is_within scope) (flat_map (told_behind es) (range_with_len i k))) one
    ∙ ap (filter (is_within scope)) (append-nil (told_behind es i))

-- nothing before the place that is read from
pub nothing_yet : (es : List Entry) (from i : ℕ) (scope : Moniker) → i ≤ from → stream es from i scope ≡ []
nothing_yet es from i scope early =
    let none : i - from ≡ 0 = omega arith in
    ap (λ k. filter (is_within scope) (flat_map (told_behind es) (range_with_len from k))) none

-- Before the first entry is told, the stream is empty.
pub stream_first : (es : List Entry) (from : ℕ) (scope : Moniker) (made : List Happening) → made ≡ [] → made ≡ stream es from 0 scope
stream_first es from scope made none = none ∙ sym (nothing_yet es from 0 scope (omega arith))

-- An entry before the part that is read adds nothing to the stream.
pub stream_passed : (es : List Entry) (from i : ℕ) (scope : Moniker) (made : List Happening) → i < from → made ≡ stream es from i scope → made ≡ stream es from (i + 1) scope
stream_passed es from i scope made early so_far =
    so_far ∙ nothing_yet es from i scope (omega arith) ∙ sym (nothing_yet es from (i + 1) scope (omega arith))

-- what the next entry tells, by the works that those before it begin
pub stream_on : (es : List Entry) (from i : ℕ) (e : Entry) (scope : Moniker) (made : List Happening) → i < length es → e ≡ get_or es i e → from ≤ i → made ≡ stream es from i scope → made ++ filter (is_within scope) (told_by (work_of (take i es)) (i + 1) e.event e.reply) ≡ stream es from (i + 1) scope
stream_on es from i e scope made below at late so_far =
    ap (λ l. l ++ filter (is_within scope) (told_by (work_of (take i es)) (i + 1) e.event e.reply)) so_far
    ∙ ap (λ l. stream es from i scope ++ filter (is_within scope) l) (sym (told_here es i e below at))
    ∙ ap (λ l. stream es from i scope ++ l) (sym (one_entry es i scope))
    ∙ streams_split es from i (i + 1) scope late (omega arith)

-- What the next entry tells within the scope makes the stream that of one entry more.
pub stream_more : {S : Type 0} (es : List Entry) (from i : ℕ) (e : Entry) (scope : Moniker) (works : HashMap ℕ (Bor Work) S) (made more : List Happening) → i < length es → e ≡ get_or es i e → from ≤ i → HasWorks es i works → more ≡ made ++ told_within works (i + 1) e.event e.reply scope → made ≡ stream es from i scope → more ≡ stream es from (i + 1) scope
stream_more es from i e scope works made more below at late known told so_far =
    told
    ∙ ap (λ f. made ++ filter (is_within scope) (told_by f (i + 1) e.event e.reply)) (same_works (work_at works) (work_of (take i es)) known)
    ∙ stream_on es from i e scope made below at late so_far

-- Once all entries are gone through, the stream is that up to the last of them.
pub stream_all : (es : List Entry) (from i : ℕ) (scope : Moniker) (made : List Happening) → length es ≤ i → i ≤ length es → made ≡ stream es from i scope → made ≡ stream es from (length es) scope
stream_all es from i scope made past within so_far = let same : i ≡ length es = omega arith in so_far ∙ ap (λ n. stream es from n scope) same
