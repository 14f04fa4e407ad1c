-- Entries that don't empty what is kept leave all rows as they are, but for what no walk reads.
use Rattle.std.proofs.Common.{◌≡◌, ℕ, ◌<◌, List, [], ◌∷◌, Bool, true, false, cond, not, ◌&&◌, ◌||◌, ◌==◌, true≢false, Option, Some, None, IsSome, is_some, map, option_map, refl, sym, ◌∙◌, ap, subst, arith}
use Rattle.std.specs.List.{list_any}
use Rattle.std.specs.Option.{option_map_or}
use Rattle.std.specs.Cmp.{unsigned_Decides}
use Rattle.cm_facts.proofs.Numbers.{eq_self, eq_of_lt}
use Rattle.cm_facts.proofs.Booleans.{or_false_first, or_false_second}
use Rattle.cm_world.specs.declared.row.Row.{Row}
use Rattle.cm_world.specs.declared.action.Act.{Act}
use Rattle.cm_world.specs.declared.action.ActKind.TheVariants.{Stop}
use Rattle.cm_world.specs.declared.action.Finish.{Finish}
use Rattle.cm_world.specs.declared.action.Finish.TheVariants.{Resolved, Other}
use Rattle.cm_world.specs.declared.action.Outcome.{Outcome}
use Rattle.cm_world.specs.declared.action.Outcome.TheVariants as outcome
use Rattle.cm_world.specs.declared.reply.Reply.{Reply}
use Rattle.cm_world.specs.declared.reply.Reply.TheVariants as reply
use Rattle.cm_world.specs.declared.event.Event.{Event}
use Rattle.cm_world.specs.declared.event.Event.TheVariants.{Begin, End, Await, Create, Mark, Pick, Purge, Exited}
use Rattle.cm_world.specs.Rows.{row_of, has_doomed}
use Rattle.cm_world.specs.World.{World, act_of}
use Rattle.cm_world.specs.End.{changed, end_row, set_pending, set_on, set_closing, set_doomed, set_shut, rows_by}
use Rattle.cm_world.specs.Expiring.{goes_with, expired, expired_by, is_stopped}
use Rattle.cm_world.specs.After.{moved, after, with_end_of}
use Rattle.cm_world.specs.Sound.{IncarnationsIncrease}
use Rattle.cm_world.proofs.lemmas.trees.Finding.{some_same, none_some}
use Rattle.cm_cache.specs.Keeping.{resolves, comes_or_goes}
use Rattle.cm_cache.specs.Right.{bare}
use Rattle.cm_cache.specs.Laws.{BareRowsStay, WalksStay}
use Rattle.cm_cache.proofs.lemmas.trees.Reading.{walks_read_bare_rows}
use Rattle.cm_trees.proofs.rows.Dooming.{doom_inc}

-- ---- a change of one row

module _ (f : Row → Row) (bares : (r : Row) → bare (f r) ≡ bare r) where
  -- A change that walks don't read leaves rows as they read them, row by row.
  bare_changed_by : (t : Bool) (i : ℕ) (x : Row) (xs : List Row) → map bare (changed i f xs) ≡ map bare xs → map bare (cond t (f x ∷ xs) (x ∷ changed i f xs)) ≡ bare x ∷ map bare xs
  bare_changed_by true i x xs later = ap (λ y. y ∷ map bare xs) (bares x)
  bare_changed_by false i x xs later = ap (λ ys. bare x ∷ ys) later

  -- a change of what no walk reads
  bare_changed : (i : ℕ) (rows : List Row) → map bare (changed i f rows) ≡ map bare rows
  bare_changed i [] = refl
  bare_changed i (x ∷ xs) = bare_changed_by (x.inc == i) i x xs (bare_changed i xs)

-- what is read of a row that is found, where a change tells neither the test nor what is read
module _ (f : Row → Row) (inc : (r : Row) → (f r).inc ≡ r.inc) (read : Row → Bool) (same : (r : Row) → read (f r) ≡ read r) where
  -- The changed row reads the same, where the first row is the one.
  read_here : (t : Bool) (x : Row) (o : Option Row) → option_map_or read (cond t (Some (f x)) o) false ≡ option_map_or read (cond t (Some x) o) false
  read_here true x o = same x
  read_here false x o = refl

  -- A row in front leaves what is read alike behind it alike.
  read_later : (t : Bool) (x : Row) (o p : Option Row) → option_map_or read p false ≡ option_map_or read o false → option_map_or read (cond t (Some x) p) false ≡ option_map_or read (cond t (Some x) o) false
  read_later true x o p later = refl
  read_later false x o p later = later

  -- A change of one row leaves what is read of any row, row by row.
  read_by : (t : Bool) (i j : ℕ) (x : Row) (xs : List Row) → option_map_or read (row_of (changed i f xs) j) false ≡ option_map_or read (row_of xs j) false → option_map_or read (row_of (cond t (f x ∷ xs) (x ∷ changed i f xs)) j) false ≡ option_map_or read (row_of (x ∷ xs) j) false
  read_by true i j x xs later =
      ap (λ n. option_map_or read (cond (n == j) (Some (f x)) (row_of xs j)) false) (inc x) ∙ read_here (x.inc == j) x (row_of xs j)
  read_by false i j x xs later = read_later (x.inc == j) x (row_of xs j) (row_of (changed i f xs) j) later

  -- A change of one row that keeps its incarnation and what is read leaves what is read of each row.
  pub read_changed : (i j : ℕ) (rows : List Row) → option_map_or read (row_of (changed i f rows) j) false ≡ option_map_or read (row_of rows j) false
  read_changed i j [] = refl
  read_changed i j (x ∷ xs) = read_by (x.inc == i) i j x xs (read_changed i j xs)

-- A row lives exactly where one is found.
lives_as : (o : Option Row) → option_map_or (λ r. true) o false ≡ is_some o
lives_as None = refl
lives_as (Some r) = refl

module _ (f : Row → Row) (inc : (r : Row) → (f r).inc ≡ r.inc) where
  -- A change of one row leaves which rows live.
  live_changed : (i j : ℕ) (rows : List Row) → is_some (row_of (changed i f rows) j) ≡ is_some (row_of rows j)
  live_changed i j rows =
      sym (lives_as (row_of (changed i f rows) j)) ∙ read_changed f inc (λ r. true) (λ r. refl) i j rows
      ∙ lives_as (row_of rows j)

  -- A change of one row leaves incarnations increasing, row by row.
  increasing_by : (t : Bool) (next i : ℕ) (x : Row) (xs : List Row) → IncarnationsIncrease next (x ∷ xs) → IncarnationsIncrease next (changed i f xs) → IncarnationsIncrease next (cond t (f x ∷ xs) (x ∷ changed i f xs))
  increasing_by true next i x xs up later = (
    (
      subst (λ n. n < next) (sym (inc x)) up.0.0,
      λ s lives. subst (λ n. n < s) (sym (inc x)) (up.0.1 s lives),
    ),
    up.1,
  )
  increasing_by false next i x xs up later = (
    (up.0.0, λ s lives. up.0.1 s (sym (live_changed i s xs) ∙ lives)),
    later,
  )

  -- Incarnations still increase behind a change of one row that keeps its incarnation.
  pub increasing_changed : (next i : ℕ) (rows : List Row) → IncarnationsIncrease next rows → IncarnationsIncrease next (changed i f rows)
  increasing_changed next i [] up = up
  increasing_changed next i (x ∷ xs) up = increasing_by (x.inc == i) next i x xs up (increasing_changed next i xs up.1)

-- ---- rows that are each changed

-- each of these rows is the one of its incarnation
unfoldable pub AllLive : List Row → List Row → Type 0
AllLive rows [] = Unit {0}
AllLive rows (x ∷ xs) = (row_of rows x.inc ≡ Some x) × AllLive rows xs

-- Rows that are those of their incarnations stay so with a lower row in front.
live_later : (y : Row) (ys xs : List Row) → ((s : ℕ) → IsSome (row_of ys s) → y.inc < s) → AllLive ys xs → AllLive (y ∷ ys) xs
unfolding AllLive
live_later y ys [] low live = tt
live_later y ys (x ∷ xs) low live = (
  (let less : y.inc < x.inc = low x.inc (ap is_some live.0) in
      ap (λ t. cond t (Some y) (row_of ys x.inc)) (eq_of_lt (y.inc == x.inc) y.inc x.inc refl less) ∙ live.0),
  live_later y ys xs low live.1,
)

-- Where incarnations increase, each row is the one that is found by its incarnation.
pub all_live : (next : ℕ) (rows : List Row) → IncarnationsIncrease next rows → AllLive rows rows
unfolding AllLive
all_live next [] up = tt
all_live next (y ∷ ys) up = (
  ap (λ t. cond t (Some y) (row_of ys y.inc)) (eq_self y.inc),
  live_later y ys ys up.0.1 (all_live next ys up.1),
)

-- where none of the rows passes a test of incarnations, no row that is found does
none_passes_by : (t : Bool) (d : ℕ → Bool) (j : ℕ) (x r : Row) (o : Option Row) → (x.inc == j) ≡ t → d x.inc ≡ false → (o ≡ Some r → d j ≡ false) → cond t (Some x) o ≡ Some r → d j ≡ false
none_passes_by true d j x r o is here later e = ap d (sym ((unsigned_Decides x.inc j).0 is)) ∙ here
none_passes_by false d j x r o is here later e = later e

-- Where no row passes a test of incarnations, one that is there doesn't.
none_passes : (d : ℕ → Bool) (rows : List Row) (j : ℕ) (r : Row) → list_any (λ x. d x.inc) rows ≡ false → row_of rows j ≡ Some r → d j ≡ false
none_passes d [] j r none e = absurd (none_some r e)
none_passes d (x ∷ xs) j r none e =
    none_passes_by (x.inc == j) d j x r (row_of xs j) refl (or_false_first (d x.inc) (list_any (λ y. d y.inc) xs) none)
    (none_passes d xs j r (or_false_second (d x.inc) (list_any (λ y. d y.inc) xs) none)) e

module _ (rows : List Row) (i : ℕ) where
  -- Whether a row that isn't doomed yet goes with the one that stops.
  abbrev pub goes : Row → Bool
  goes r = goes_with rows i r && not r.doomed

  -- A row behind a stop: it is doomed where it goes with the row that stops, else as it was.
  abbrev pub going : Row → Row
  going r = cond (goes r) (set_doomed r) r

  -- What is found among rows after an expiry is the row found, as it is after it, row by row.
  mapped_by : (t : Bool) (x : Row) (o p : Option Row) → p ≡ option_map going o → cond t (Some (going x)) p ≡ option_map going (cond t (Some x) o)
  mapped_by true x o p later = refl
  mapped_by false x o p later = later

  -- What is found by an incarnation behind a stop is the row before it, doomed where that goes.
  pub row_of-going : (xs : List Row) (j : ℕ) → row_of (map going xs) j ≡ option_map going (row_of xs j)
  row_of-going [] j = refl
  row_of-going (x ∷ xs) j =
      ap (λ n. cond (n == j) (Some (going x)) (row_of (map going xs) j)) (doom_inc (goes x) x)
      ∙ mapped_by (x.inc == j) x (row_of xs j) (row_of (map going xs) j) (row_of-going xs j)

  module _ (old : List Row) (was : (j : ℕ) → has_doomed rows j ≡ has_doomed old j) where
    -- Whether a row is newly doomed by the expiry.
    abbrev newly : ℕ → Bool
    newly j = not (has_doomed old j) && has_doomed (expired i rows) j

    -- Where one test holds and another doesn't, that other doesn't hold.
    not_and : (a b : Bool) → (a && not b) ≡ true → b ≡ false
    not_and a false e = refl
    not_and true true e = absurd (true≢false (sym e))
    not_and false true e = absurd (true≢false (sym e))

    -- A row that goes with the stopped one is newly doomed.
    newly_by : (x : Row) → row_of rows x.inc ≡ Some x → goes x ≡ true → newly x.inc ≡ true
    newly_by x lives leaves =
        let before : has_doomed old x.inc ≡ false =
        sym (was x.inc) ∙ ap (λ o. option_map_or (λ r. r.doomed) o false) lives ∙ not_and (goes_with rows i x) x.doomed leaves in
        let now : row_of (expired i rows) x.inc ≡ Some (going x) = row_of-going rows x.inc ∙ ap (option_map going) lives in
        let behind : has_doomed (expired i rows) x.inc ≡ true =
        ap (λ o. option_map_or (λ r. r.doomed) o false) now ∙ ap (λ t. (cond t (set_doomed x) x).doomed) leaves in
        ap (λ t. not t && has_doomed (expired i rows) x.inc) before ∙ behind

    -- A row that isn't newly doomed stays as it is.
    stays_by : (t : Bool) (x : Row) → row_of rows x.inc ≡ Some x → goes x ≡ t → newly x.inc ≡ false → cond t (set_doomed x) x ≡ x
    stays_by false x lives leaves none = refl
    stays_by true x lives leaves none = absurd (true≢false (sym (newly_by x lives leaves) ∙ none))

    -- Where no row is newly doomed, an expiry leaves the rows as they are.
    stay : (xs : List Row) → AllLive rows xs → ((j : ℕ) (r : Row) → row_of (expired i rows) j ≡ Some r → newly j ≡ false) → map going xs ≡ xs
    unfolding AllLive
    stay [] live none = refl
    stay (x ∷ xs) live none =
        let now : row_of (expired i rows) x.inc ≡ Some (going x) = row_of-going rows x.inc ∙ ap (option_map going) live.0 in
        let here : going x ≡ x = stays_by (goes x) x live.0 refl (none x.inc (going x) now) in
        ap (λ y. y ∷ map going xs) here ∙ ap (λ ys. x ∷ ys) (stay xs live.1 none)

    -- where no row is newly doomed, nothing goes
    none_goes : (next : ℕ) → IncarnationsIncrease next rows → list_any (λ r. newly r.inc) (expired i rows) ≡ false → expired i rows ≡ rows
    none_goes next up none =
        stay rows (all_live next rows up) (λ j r lives. none_passes newly (expired i rows) j r none lives)

-- ---- rows behind one that stops

module _ (f : Row → Row) (bares : (r : Row) → bare (f r) ≡ bare r) where
  -- The change leaves a row's incarnation.
  inc_kept : (r : Row) → (f r).inc ≡ r.inc
  inc_kept r = ap (λ x. x.inc) (bares r)

  -- The change leaves whether a row is doomed.
  doomed_kept : (r : Row) → (f r).doomed ≡ r.doomed
  doomed_kept r = ap (λ x. x.doomed) (bares r)

  -- a change of what no walk reads, and then those that go
  bare_expired : (next i : ℕ) (rows : List Row) → IncarnationsIncrease next rows → list_any (λ r. not (has_doomed rows r.inc) && has_doomed (expired i (changed i f rows)) r.inc) (expired i (changed i f rows)) ≡ false → map bare (expired i (changed i f rows)) ≡ map bare rows
  bare_expired next i rows up none =
      ap (map bare) (none_goes (changed i f rows) i rows (λ j. read_changed f inc_kept (λ r. r.doomed) doomed_kept i j rows) next
      (increasing_changed f inc_kept next i rows up) none)
      ∙ bare_changed f bares i rows

  -- A stop after which no row is newly doomed leaves all rows as walks read them.
  bare_stopped : (t : Bool) (next i : ℕ) (rows : List Row) → IncarnationsIncrease next rows → list_any (λ r. not (has_doomed rows r.inc) && has_doomed (cond t (expired i (changed i f rows)) (changed i f rows)) r.inc) (cond t (expired i (changed i f rows)) (changed i f rows)) ≡ false → map bare (cond t (expired i (changed i f rows)) (changed i f rows)) ≡ map bare rows
  bare_stopped true next i rows up none = bare_expired next i rows up none
  bare_stopped false next i rows up none = bare_changed f bares i rows

-- What the end of an action changes of its row is nothing that a walk reads.
pub end_bare : (o : Outcome) (r : Row) → bare (end_row o r) ≡ bare r
end_bare outcome.Started r = refl
end_bare outcome.Stopped r = refl
end_bare outcome.Killed r = refl
end_bare _ r = refl

-- ---- the mark of a row to be destroyed

-- A doomed row is the same, as walks read it, once it is doomed again.
doom_same : (r : Row) → r.doomed ≡ true → bare (set_doomed r) ≡ bare r
doom_same r is = ap (λ t. record r { on = false; pending = None; closing = false; shut = false; doomed = t }) (sym is)

module _ (old : List Row) (i : ℕ) where
  -- The rows with one of them marked to be destroyed.
  abbrev marked : List Row
  marked = changed i set_doomed old

  -- Whether a row is newly doomed by the mark.
  abbrev marks : ℕ → Bool
  marks j = not (has_doomed old j) && has_doomed marked j

  -- The row that is marked is found with its mark, row by row.
  found_by : (t : Bool) (x : Row) (xs : List Row) (r : Row) → (x.inc == i) ≡ t → (row_of xs i ≡ Some r → row_of (changed i set_doomed xs) i ≡ Some (set_doomed r)) → cond t (Some x) (row_of xs i) ≡ Some r → row_of (cond t (set_doomed x ∷ xs) (x ∷ changed i set_doomed xs)) i ≡ Some (set_doomed r)
  found_by true x xs r is later e =
      ap (λ t. cond t (Some (set_doomed x)) (row_of xs i)) is ∙ ap (λ y. Some (set_doomed y)) (some_same x r e)
  found_by false x xs r is later e = ap (λ t. cond t (Some x) (row_of (changed i set_doomed xs) i)) is ∙ later e

  -- The row that is marked is found with its mark.
  mark_found : (xs : List Row) (r : Row) → row_of xs i ≡ Some r → row_of (changed i set_doomed xs) i ≡ Some (set_doomed r)
  mark_found [] r e = absurd (none_some r e)
  mark_found (x ∷ xs) r e = found_by (x.inc == i) x xs r refl (mark_found xs r) e

  -- the row was doomed before, if it lives
  pub was_doomed_by : (t : Bool) (r : Row) → r.doomed ≡ t → row_of old i ≡ Some r → list_any (λ x. marks x.inc) marked ≡ false → t ≡ true
  was_doomed_by true r is lives none = refl
  was_doomed_by false r is lives none =
      let there : row_of marked i ≡ Some (set_doomed r) = mark_found old r lives in
      let before : has_doomed old i ≡ false = ap (λ o. option_map_or (λ x. x.doomed) o false) lives ∙ is in
      let behind : has_doomed marked i ≡ true = ap (λ o. option_map_or (λ x. x.doomed) o false) there in
      let passes : marks i ≡ true = ap (λ t. not t && has_doomed marked i) before ∙ behind in
      absurd (true≢false (sym passes ∙ none_passes marks marked i (set_doomed r) none there))

  -- A mark of a row that is doomed already leaves rows as walks read them, row by row.
  bare_mark_by : (t : Bool) (x : Row) (xs : List Row) → (x.inc == i) ≡ t → ((r : Row) → cond t (Some x) (row_of xs i) ≡ Some r → r.doomed ≡ true) → (((r : Row) → row_of xs i ≡ Some r → r.doomed ≡ true) → map bare (changed i set_doomed xs) ≡ map bare xs) → map bare (cond t (set_doomed x ∷ xs) (x ∷ changed i set_doomed xs)) ≡ bare x ∷ map bare xs
  bare_mark_by true x xs is doomed later = ap (λ y. y ∷ map bare xs) (doom_same x (doomed x refl))
  bare_mark_by false x xs is doomed later = ap (λ ys. bare x ∷ ys) (later doomed)

  -- A mark of a row that is doomed already leaves all rows as walks read them.
  bare_mark : (xs : List Row) → ((r : Row) → row_of xs i ≡ Some r → r.doomed ≡ true) → map bare (changed i set_doomed xs) ≡ map bare xs
  bare_mark [] doomed = refl
  bare_mark (x ∷ xs) doomed = bare_mark_by (x.inc == i) x xs refl doomed (bare_mark xs)

  -- a mark that dooms nothing anew
  bare_marked : list_any (λ x. marks x.inc) marked ≡ false → map bare marked ≡ map bare old
  bare_marked none = bare_mark old (λ r lives. was_doomed_by r.doomed r refl lives none)

-- ---- the rows behind an entry

-- no row is newly doomed
abbrev NoneDoomed : List Row → List Row → Type 0
NoneDoomed old new = list_any (λ r. not (has_doomed old r.inc) && has_doomed new r.inc) new ≡ false

-- An end that resolves nothing and newly dooms no row leaves all rows as walks read them.
bare_ended : (w : World) (i : ℕ) (finish : Finish) (o : Outcome) → IncarnationsIncrease w.next_inc w.rows → resolves (End i finish) (reply.Ended o) ≡ false → (j : ℕ) → NoneDoomed w.rows (expired_by o j (rows_by j w.next_inc finish o w.rows)) → map bare (expired_by o j (rows_by j w.next_inc finish o w.rows)) ≡ map bare w.rows
bare_ended w i (Resolved url d) outcome.Resolved up stays j none = absurd (true≢false stays)
bare_ended w i (Resolved url d) o up stays j none =
    bare_stopped (end_row o) (end_bare o) (is_stopped o) w.next_inc j w.rows up none
bare_ended w i (Other f) o up stays j none =
    bare_stopped (end_row o) (end_bare o) (is_stopped o) w.next_inc j w.rows up none

-- A world after such an end, its action found or not, has the same rows as walks read them.
bare_end_of : (w : World) (a : ℕ) (finish : Finish) (o : Outcome) (x : Option Act) → IncarnationsIncrease w.next_inc w.rows → resolves (End a finish) (reply.Ended o) ≡ false → NoneDoomed w.rows (with_end_of w a finish o x).rows → map bare (with_end_of w a finish o x).rows ≡ map bare w.rows
bare_end_of w a finish o None up stays none = refl
bare_end_of w a finish o (Some x) up stays none = bare_ended w a finish o up stays x.inc none

-- A mark that newly dooms no row leaves all rows as walks read them.
bare_marks : (w : World) (doom : Bool) (i : ℕ) → NoneDoomed w.rows (moved w 0 (Mark doom i) reply.Marked).rows → map bare (moved w 0 (Mark doom i) reply.Marked).rows ≡ map bare w.rows
bare_marks w true i none = bare_marked w.rows i none
bare_marks w false i none = bare_changed set_closing (λ r. refl) i w.rows

-- An entry that resolves, adds, removes and dooms nothing leaves all that walks read of the rows.
pub bare_moved : (w : World) (caller : ℕ) (event : Event) (r : Reply) → IncarnationsIncrease w.next_inc w.rows → resolves event r ≡ false → comes_or_goes r ≡ false → NoneDoomed w.rows (moved w caller event r).rows → map bare (moved w caller event r).rows ≡ map bare w.rows
bare_moved w caller (Begin kind i) (reply.Begun work) up stays quiet none =
    bare_changed (set_pending (Some (kind, w.next_action))) (λ r. refl) i w.rows
bare_moved w caller (Begin kind i) (reply.Joined a) up stays quiet none = refl
bare_moved w caller (End a finish) (reply.Ended o) up stays quiet none =
    bare_end_of w a finish o (act_of w.acts a) up stays none
bare_moved w caller (Await a) (reply.Ended o) up stays quiet none = refl
bare_moved w caller (Create p child) (reply.Created i) up stays quiet none = absurd (true≢false quiet)
bare_moved w caller (Mark doom i) reply.Marked up stays quiet none = bare_marks w doom i none
bare_moved w caller (Pick t) (reply.Stopping work) up stays quiet none =
    bare_changed (set_pending (Some (Stop, w.next_action))) (λ r. refl) work.inc w.rows
bare_moved w caller (Pick t) (reply.ShutDown i) up stays quiet none = bare_changed set_shut (λ r. refl) i w.rows
bare_moved w caller (Purge i) (reply.Purged lost) up stays quiet none = absurd (true≢false quiet)
bare_moved w caller (Exited i) (reply.Left m) up stays quiet none =
    bare_expired (set_on false) (λ r. refl) w.next_inc i w.rows up none
bare_moved w caller event r up stays quiet none = refl

-- an entry that doesn't empty what is kept leaves bare rows as they are
pub bare_rows_stay : BareRowsStay
unfolding after
bare_rows_stay w e up stays =
    let doomed : Bool = list_any (λ r. not (has_doomed w.rows r.inc) && has_doomed (moved w e.caller e.event e.reply).rows r.inc) (moved w e.caller e.event e.reply).rows in
    let first : (resolves e.event e.reply || comes_or_goes e.reply) ≡ false = or_false_first (resolves e.event e.reply || comes_or_goes e.reply) doomed stays in
    bare_moved w e.caller e.event e.reply up (or_false_first (resolves e.event e.reply) (comes_or_goes e.reply) first)
    (or_false_second (resolves e.event e.reply) (comes_or_goes e.reply) first)
    (or_false_second (resolves e.event e.reply || comes_or_goes e.reply) doomed stays)

-- The law that each walk stays as it is behind an entry that lets nothing go of what is kept.
pub walks_stay : WalksStay
walks_stay w e builtins begin v up stays walked =
    walks_read_bare_rows w.rows (after w e).rows builtins begin v (sym (bare_rows_stay w e up stays)) walked
