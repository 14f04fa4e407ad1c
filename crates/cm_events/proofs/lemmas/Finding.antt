-- What is told where only the works are known that are wanted.
use Rattle.std.proofs.Common.{◌≡◌, inl, inr, ℕ, ◌+◌, ◌<◌, ◌≤◌, ◌==◌, List, ◌∷◌, ◌++◌, Bool, true, false, not, ◌&&◌, ◌||◌, Option, Some, None, take, drop, length, get_or, refl, sym, ◌∙◌, ap, subst}
use Rattle.std.specs.Prelude.{filter}
use Rattle.std.specs.Option.{option_or, is_some}
use Rattle.std.specs.HashMap.{HashMap}
use Rattle.std.proofs.lemmas.Bool.{eq-eqb, true≢false, or_parts}
use Rattle.std.proofs.lemmas.List.{at_drop_more}
use Rattle.cm_names.specs.declared.moniker.Moniker.{Moniker}
use Rattle.cm_world.specs.declared.action.Work.{Work}
use Rattle.cm_world.specs.declared.event.Event.{Event}
use Rattle.cm_world.specs.declared.event.Event.TheVariants as event
use Rattle.cm_world.specs.declared.reply.Reply.{Reply}
use Rattle.cm_world.specs.declared.reply.Reply.TheVariants as reply
use Rattle.cm_world.specs.declared.reply.Entry.{Entry}
use Rattle.cm_world.specs.declared.happening.Happening.{Happening}
use Rattle.cm_world.specs.declared.happening.HappenKind.{HappenKind}
use Rattle.cm_events.specs.Stream.{work_of, kind_of, told_of, told_by, is_within, stream}
use Rattle.cm_events.specs.Works.{work_at, begun_as, told_within}
use Rattle.cm_events.specs.Wanted.{BeginsOnce, HasFound, is_wanted, wants}
use Rattle.cm_events.proofs.lemmas.Keeping.{work_of_more, stream_on}
use Rattle.cm_events.proofs.lemmas.Seeking.{once_at}
use denote.Ref.{Bor}
use Rattle.cm_facts.proofs.Booleans.{or_false_first}
use Rattle.cm_facts.proofs.Options.{cond_none}

-- ---- what an entry tells

-- the end of an action tells the same by the work that was found
told_end : (k : Option HappenKind) (n a : ℕ) (found whole : Option Work) (later : Bool) → HasFound found whole (later || (is_some k && a == a)) → told_of n k found ≡ told_of n k whole
told_end None n a found whole later has = refl
told_end (Some k) n a found whole later (inl same) = ap (told_of n (Some k)) same
told_end (Some k) n a found whole later (inr none) =
    absurd (true≢false (sym (eq-eqb a a refl) ∙ (or_parts later (a == a) none.1).1))

-- Where the wanted works are found, an entry tells what it does where all works are.
told_same : (found whole : ℕ → Option Work) (n : ℕ) (e : Event) (r : Reply) (later : ℕ → Bool) → ((a : ℕ) → HasFound (found a) (whole a) (wants r e a (later a))) → told_by found n e r ≡ told_by whole n e r
told_same found whole n (event.End a finish) (reply.Ended o) later has = told_end (kind_of o) n a (found a) (whole a) (later a) (has a)
told_same found whole n e r later has = refl

-- ---- what is known behind an entry

-- What isn't wanted before another action begins isn't wanted behind it.
kept_wanted : (later t : Bool) → t ≡ false → (later && not t) ≡ false → later ≡ false
kept_wanted true true h un = h
kept_wanted true false h un = un
kept_wanted false t h un = refl

-- what no entry before wants, none behind wants but for what this one begins
later_unwanted : (r : Reply) (e : Event) (a : ℕ) (later : Bool) → begun_as r a ≡ None → wants r e a later ≡ false → later ≡ false
later_unwanted (reply.Begun work) e a later none un = kept_wanted later (work.action == a) (cond_none (work.action == a) work none) un
later_unwanted (reply.Stopping work) e a later none un = kept_wanted later (work.action == a) (cond_none (work.action == a) work none) un
later_unwanted (reply.Ended o) (event.End b finish) a later none un = or_false_first later (is_some (kind_of o) && b == a) un
later_unwanted r e a later none un = un

-- A work is found or not wanted behind an entry, where it is so before it.
has_on : (begun found whole : Option Work) (wanted later : Bool) → ((w : Work) → begun ≡ Some w → whole ≡ None) → (begun ≡ None → wanted ≡ false → later ≡ false) → HasFound found whole wanted → HasFound (option_or found begun) (option_or whole begun) later
has_on begun found whole wanted later once unwanted (inl same) = inl (ap (λ o. option_or o begun) same)
has_on None found whole wanted later once unwanted (inr none) = inr (ap (λ o. option_or o None) none.0, unwanted refl none.1)
has_on (Some w) found whole wanted later once unwanted (inr none) =
    inl (ap (λ o. option_or o (Some w)) (none.0 ∙ sym (once w refl)))

-- ---- the same of the map that the code keeps

-- the map has the work of each action that the entries from here on want
abbrev pub HasWanted : {S : Type 0} → List Entry → ℕ → HashMap ℕ (Bor Work) S → Type 0
HasWanted es i works = (a : ℕ) → HasFound (work_at works a) (work_of (take i es) a) (is_wanted (drop i es) a)

-- Whether a work is wanted from an entry on is told by it and the later ones.
wanted_here : (es : List Entry) (i : ℕ) (e : Entry) (a : ℕ) → i < length es → e ≡ get_or es i e → is_wanted (drop i es) a ≡ wants e.reply e.event a (is_wanted (drop (i + 1) es) a)
wanted_here es i e a below at =
    at_drop_more (λ l. is_wanted l a) es i e below ∙ ap (λ x. is_wanted (x ∷ drop (i + 1) es) a) (sym at)

-- With what the next entry begins in it, the map has the works that the entries behind it want.
pub wanted_on : {S : Type 0} (es : List Entry) (i : ℕ) (e : Entry) (works more : HashMap ℕ (Bor Work) S) → BeginsOnce es → i < length es → e ≡ get_or es i e → HasWanted es i works → ((a : ℕ) → work_at more a ≡ option_or (work_at works a) (begun_as e.reply a)) → HasWanted es (i + 1) more
wanted_on es i e works more once below at has added a =
    let here = subst (λ b. HasFound (work_at works a) (work_of (take i es) a) b) (wanted_here es i e a below at) (has a) in
    let on = has_on (begun_as e.reply a) (work_at works a) (work_of (take i es) a) (wants e.reply e.event a (is_wanted (drop (i + 1) es) a)) (is_wanted (drop (i + 1) es) a)
    (λ w it. once_at es i e a w once below at it) (λ none un. later_unwanted e.reply e.event a (is_wanted (drop (i + 1) es) a) none un) here in
    subst (λ f. HasFound f (work_of (take (i + 1) es) a) (is_wanted (drop (i + 1) es) a)) (sym (added a))
    (subst (λ h. HasFound (option_or (work_at works a) (begun_as e.reply a)) h (is_wanted (drop (i + 1) es) a)) (work_of_more es i e a below at) on)

-- With what the next entry tells within the scope, the stream is that of one entry more.
pub told_on : {S : Type 0} (es : List Entry) (from i : ℕ) (e : Entry) (scope : Moniker) (works : HashMap ℕ (Bor Work) S) (made more : List Happening) → i < length es → e ≡ get_or es i e → from ≤ i → HasWanted es i works → more ≡ made ++ told_within works (i + 1) e.event e.reply scope → made ≡ stream es from i scope → more ≡ stream es from (i + 1) scope
told_on es from i e scope works made more below at late has told so_far =
    told
    ∙ ap (λ l. made ++ filter (is_within scope) l) (told_same (work_at works) (work_of (take i es)) (i + 1) e.event e.reply (λ a. is_wanted (drop (i + 1) es) a) (λ a. subst (λ b. HasFound (work_at works a) (work_of (take i es) a) b) (wanted_here es i e a below at) (has a)))
    ∙ stream_on es from i e scope made below at late so_far

-- What is found of the works that are wanted is what has to be known of them.
pub wanted_found : {S : Type 0} (es : List Entry) (start : ℕ) (wanted : ℕ → Bool) (works : HashMap ℕ (Bor Work) S) → ((a : ℕ) → wanted a ≡ is_wanted (drop start es) a) → ((a : ℕ) → HasFound (work_at works a) (work_of (take start es) a) (wanted a)) → HasWanted es start works
wanted_found es start wanted works same found a = subst (λ b. HasFound (work_at works a) (work_of (take start es) a) b) (same a) (found a)
