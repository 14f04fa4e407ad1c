-- What a caller's requests, checks and answers come to.
use Rattle.std.proofs.Common.{◌≡◌, ℕ, List, [], ◌∷◌, Option, None, Result, Ok, Err, IsTrue, IsFalse, sym, ap, subst, ◌∙◌, append-nil}
use Rattle.cm_world.specs.declared.answer.Answer.{Answer}
use Rattle.cm_world.specs.declared.answer.Checked.{Checked}
use Rattle.cm_world.specs.declared.answer.Refusal.{Refusal}
use Rattle.cm_world.specs.declared.event.Event.{Event}
use Rattle.cm_world.specs.declared.event.Event.TheVariants as event
use Rattle.cm_world.specs.declared.frame.Frame.{Frame}
use Rattle.cm_world.specs.declared.reply.Entry.{Entry}
use Rattle.cm_world.specs.declared.reply.Reply.{Reply}
use Rattle.cm_world.specs.declared.report.SurveyRow.{SurveyRow}
use Rattle.cm_world.specs.declared.route.Route.{Route}
use Rattle.cm_answers.specs.Answers.{decided_by, unless_ended}
use Rattle.cm_answers.specs.Lines.{doctored_by, line_of, route_by, unresolved_line}
use Rattle.cm_answers.specs.LinesInside.{AddsLines}
use Rattle.cm_manager.specs.Asking.{frame_of}
use Rattle.cm_manager.specs.Caller.{CallerView, CallerWay, CallerRuns}
use Rattle.cm_manager.specs.Calls.{CallsEventThen, Then}
use Rattle.cm_manager.specs.Contract.{IsSamePass}
use Rattle.cm_manager.specs.Doctor.{GathersEach, OfPath, OfRow, Doctors}
use Rattle.cm_manager.specs.DoctorInside.{Adding, Gathering, Surveying}
use Rattle.cm_manager.specs.Runs.{RetriesEvent}
use Rattle.cm_manager.proofs.lemmas.calling.Followings.{Follow}
use Rattle.cm_manager.proofs.lemmas.callers.CallerRuns.{CallerLoop, loop_on, runs_as, runs_then, stays}
use Rattle.cm_manager.proofs.lemmas.checks.DoctorLines.{Items, adds_of, cut_gathers, next_gathers, prefix_of_none}

-- ---- a request

-- where nothing follows, the call ends with the reply
pub nothing_more : (e : ℕ → Event) (follow : Follow) (i : ℕ) (went : Result Reply Refusal) (a : Result Answer Refusal) (s u : CallerView) → CallerRuns (λ f c x y. RetriesEvent f c (e i) x y went) s u → ((f : Frame) (c : ℕ) (h : List Entry) → Then (follow f c i) went h h None) → a ≡ decided_by went → CallerRuns (λ f c x y. CallsEventThen f c e (follow f c) i x y a) s u
nothing_more e follow i went a s u it nothing is =
    runs_as (λ f c x y. RetriesEvent f c (e i) x y went) (λ f c x y. CallsEventThen f c e (follow f c) i x y a) s u
    (λ f c x y way. record { went = went; h₁ = y; end = None; tries = way; follows = nothing f c y; answer = is }) it

-- where something does, the call ends with that
pub something_more : (e : ℕ → Event) (follow : Follow) (Part : CallerWay) (i : ℕ) (went : Result Reply Refusal) (end : Option Refusal) (a : Result Answer Refusal) (s u v : CallerView) → ((f : Frame) (c : ℕ) (x y : List Entry) → Part f c x y → Then (follow f c i) went x y end) → CallerRuns (λ f c x y. RetriesEvent f c (e i) x y went) s u → CallerRuns Part u v → a ≡ unless_ended end (decided_by went) → CallerRuns (λ f c x y. CallsEventThen f c e (follow f c) i x y a) s v
something_more e follow Part i went end a s u v name first second is =
    runs_then (λ f c x y. RetriesEvent f c (e i) x y went) Part (λ f c x y. CallsEventThen f c e (follow f c) i x y a) s u v
    (λ f c x y z way part. record { went = went; h₁ = y; end = end; tries = way; follows = name f c y z part; answer = is }) first second

-- ---- items in order

-- The items that are checked in order, with the lines before them, as a caller's way.
abbrev GatheredWay : {A : Type 0} → Items A → List A → List Checked → Result (List Checked) Refusal → CallerWay
GatheredWay Item xs lines end f c a b = Gathering (GathersEach (Item f c) xs) lines a b end

-- One item that is checked, with the lines before it, as a caller's way.
abbrev AddedWay : {A : Type 0} → Items A → A → List Checked → Result (List Checked) Refusal → CallerWay
AddedWay Item x lines end f c a b = Adding (Item f c x) lines a b end

-- After the lines of one more item, whatever the items that are left come to makes the whole.
pub gathered_on : {A : Type 0} (Item : Items A) (x : A) (all xs rest : List A) (before lines next : List Checked) (first s u : CallerView) → CallerLoop (λ end f c a b. Gathering (GathersEach (Item f c) xs) lines a b end) (λ end f c a b. Gathering (GathersEach (Item f c) all) before a b end) first s → xs ≡ x ∷ rest → CallerRuns (λ f c a b. Adding (Item f c x) lines a b (Ok next)) s u → CallerLoop (λ end f c a b. Gathering (GathersEach (Item f c) rest) next a b end) (λ end f c a b. Gathering (GathersEach (Item f c) all) before a b end) first u
gathered_on {A} Item x all xs rest before lines next first s u o is it =
    loop_on (AddedWay Item x lines (Ok next)) (GatheredWay Item xs lines) (GatheredWay Item rest next) (GatheredWay Item all before) first s u
    (λ f c end a b d way more.
    subst (λ (l : List A). Gathering (GathersEach (Item f c) l) lines a d end) (sym is)
    (next_gathers (Item f c) x rest lines next a b d way.0 end way.1 way.2 more))
    o it

-- Where the call ends at the first item that is left, the gathering of the items ends with it.
pub gather_cut : {A : Type 0} (Item : Items A) (x : A) (xs rest : List A) (lines : List Checked) (e : Refusal) (s u : CallerView) → xs ≡ x ∷ rest → CallerRuns (λ f c a b. Adding (Item f c x) lines a b (Err e)) s u → CallerRuns (λ f c a b. Gathering (GathersEach (Item f c) xs) lines a b (Err e)) s u
gather_cut {A} Item x xs rest lines e s u is it =
    runs_as (AddedWay Item x lines (Err e)) (GatheredWay Item xs lines (Err e)) s u
    (λ f c a b way.
    subst (λ (l : List A). Gathering (GathersEach (Item f c) l) lines a b (Err e)) (sym is)
    (cut_gathers (Item f c) x rest lines a b way.0 e way.1 way.2))
    it

-- Where no item is left, the lines so far are all that is gathered, and nothing is done.
pub gather_done : {A : Type 0} (Item : Items A) (xs : List A) (lines : List Checked) (s : CallerView) → xs ≡ [] → IsSamePass (frame_of s.pass) s.pass s.pass → CallerRuns (λ f c a b. Gathering (GathersEach (Item f c) xs) lines a b (Ok lines)) s s
gather_done {A} Item xs lines s none known =
    stays (GatheredWay Item xs lines (Ok lines)) s known
    (subst (λ (l : List A). Gathering (GathersEach (Item (frame_of s.pass) s.pass.caller) l) lines s.pass.seen s.pass.seen (Ok lines)) (sym none)
    (Ok [], GathersEach.no_item, ap Ok (sym (append-nil lines))))

-- ---- paths and rows

-- A route that was tried for a path adds the line that tells its result.
pub path_line : (row : SurveyRow) (path : List ℕ) (lines : List Checked) (went : Result Reply Refusal) (found : Result Route Refusal) (end : Result (List Checked) Refusal) (s u : CallerView) → CallerRuns (λ f c a b. RetriesEvent f c (event.Route row.inc path) a b went) s u → found ≡ route_by went → AddsLines lines (line_of row.moniker path found) end → CallerRuns (λ f c a b. Adding (OfPath f c row path) lines a b end) s u
path_line row path lines went found end s u it is adds =
    runs_as (λ f c a b. RetriesEvent f c (event.Route row.inc path) a b went) (λ f c a b. Adding (OfPath f c row path) lines a b end) s u
    (λ f c a b way. (line_of row.moniker path found, (went, way, ap (line_of row.moniker path) is), adds)) it

-- a resolved row has the lines of its paths
pub row_lines : (row : SurveyRow) (lines : List Checked) (end : Result (List Checked) Refusal) (s u : CallerView) → IsTrue row.resolved → CallerRuns (λ f c a b. Gathering (GathersEach (OfPath f c row) row.paths) lines a b end) s u → CallerRuns (λ f c a b. Adding (OfRow f c row) lines a b end) s u
row_lines row lines end s u is it =
    runs_as (λ f c a b. Gathering (GathersEach (OfPath f c row) row.paths) lines a b end) (λ f c a b. Adding (OfRow f c row) lines a b end) s u
    (λ f c a b way. (way.0, OfRow.resolved is way.1, adds_of lines way.0 end way.2)) it

-- A row that isn't resolved has one line, and nothing is asked for it.
pub unresolved_row : (row : SurveyRow) (lines : List Checked) (end : Result (List Checked) Refusal) (s : CallerView) → IsFalse row.resolved → IsSamePass (frame_of s.pass) s.pass s.pass → AddsLines lines (Ok (unresolved_line row.moniker ∷ [])) end → CallerRuns (λ f c a b. Adding (OfRow f c row) lines a b end) s s
unresolved_row row lines end s is known adds =
    stays (λ f c a b. Adding (OfRow f c row) lines a b end) s known (Ok (unresolved_line row.moniker ∷ []), OfRow.unresolved is, adds)

-- ---- the check of a row

-- all rows of the survey are checked
pub doctor_runs : (i : ℕ) (rows : List SurveyRow) (end : Result (List Checked) Refusal) (a : Result Answer Refusal) (s u v : CallerView) → a ≡ doctored_by end → CallerRuns (λ f c x y. Surveying f c i x y (Ok rows)) s u → CallerRuns (λ f c x y. Gathering (GathersEach (OfRow f c) rows) [] x y end) u v → CallerRuns (λ f c x y. Doctors f c i x y a) s v
doctor_runs i rows end a s u v by first all =
    runs_then (λ f c x y. Surveying f c i x y (Ok rows)) (λ f c x y. Gathering (GathersEach (OfRow f c) rows) [] x y end) (λ f c x y. Doctors f c i x y a) s u v
    (λ f c x y z way more.
    subst (λ (a : Result Answer Refusal). Doctors f c i x z a) (ap doctored_by (sym (more.2 ∙ prefix_of_none more.0)) ∙ sym by)
    (Doctors.surveyed way.1 (sym way.2) more.1))
    first all

-- Where the survey is refused, the check of all routes is refused so.
pub survey_refused : (i : ℕ) (x : Refusal) (s u : CallerView) → CallerRuns (λ f c a b. Surveying f c i a b (Err x)) s u → CallerRuns (λ f c a b. Doctors f c i a b (Err x)) s u
survey_refused i x s u it =
    runs_as (λ f c a b. Surveying f c i a b (Err x)) (λ f c a b. Doctors f c i a b (Err x)) s u (λ f c a b way. Doctors.not_surveyed way.1 (sym way.2)) it
