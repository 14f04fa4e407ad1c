-- The replies of the definitions, from what was read of a row.
use Rattle.std.proofs.Common.{◌≡◌, ℕ, List, [], Bool, true, false, cond, Option, Some, None, is_some, filter, option_map, option_and_then, unwrap_or, refl, sym, ◌∙◌, ap, subst}
use Rattle.std.specs.List.{filter_map}
use Rattle.cm_names.specs.declared.moniker.Moniker.{Moniker}
use Rattle.cm_decl.specs.declared.decl.Decl.{Decl}
use Rattle.cm_decl.specs.Graph.{static_name}
use Rattle.cm_world.specs.declared.row.Row.{Row}
use Rattle.cm_world.specs.declared.view.Facts.{Facts}
use Rattle.cm_world.specs.declared.action.ActKind.{ActKind}
use Rattle.cm_world.specs.declared.action.ActKind.TheVariants.{Resolve, Start}
use Rattle.cm_world.specs.declared.action.Work.{Work}
use Rattle.cm_world.specs.declared.reply.Reply.{Reply}
use Rattle.cm_world.specs.declared.reply.Reply.TheVariants.{Gone, Already, Joined, Shut, Need, Begun, Shown}
use Rattle.cm_world.specs.declared.event.Event.TheVariants.{Begin}
use Rattle.cm_world.specs.Rows.{row_of, decl_of, child_of, moniker_of, is_gone, is_closed}
use Rattle.cm_world.specs.RowsInside.{facts_of}
use Rattle.cm_world.specs.Begin.{same_act, is_so, needs_decl, begin_idle, begin_at, begin_reply}
use Rattle.cm_world.specs.Work.{base_of, eager_of, runner_of, program_work, work_of}
use Rattle.cm_world.specs.Reports.{look_at, show_reply}
use Rattle.cm_world.specs.AfterInside.{moves}
use Rattle.cm_world.proofs.lemmas.trees.Finding.{some_same, row_of-inc}
use Rattle.cm_steps.specs.Answers.{AnswersBegin, AnswersIdle}
use Rattle.cm_steps.specs.Eager.{eager_by, eager_kids, above_url}
use Rattle.cm_steps.specs.declared.replies.beginning.BeginAnswer.{BeginAnswer}
use Rattle.cm_steps.specs.declared.replies.beginning.BeginAnswer.TheVariants as answer
use Rattle.cm_walk.proofs.lemmas.ways.Up.{Told, told}

-- what is told of a row that lives
pub told_of : (rows : List Row) (i : ℕ) (f : Facts) (r : Row) → Some f ≡ option_map facts_of (row_of rows i) → row_of rows i ≡ Some r → f ≡ facts_of r
told_of rows i f r e lives = some_same f (facts_of r) (e ∙ ap (option_map facts_of) lives)

-- Whether a declaration is read of an incarnation tells whether its row has one.
pub resolved_is : (rows : List Row) (i : ℕ) (r : Row) (b : Bool) → b ≡ is_some (decl_of rows i) → row_of rows i ≡ Some r → b ≡ is_some r.decl
resolved_is rows i r b e lives = e ∙ ap (λ o. is_some (option_and_then (λ s. s.decl) o)) lives

-- Whether an incarnation is read to be closed tells whether that of its row is.
pub closed_is : (rows : List Row) (i : ℕ) (r : Row) (b : Bool) → b ≡ is_closed rows i → row_of rows i ≡ Some r → b ≡ is_closed rows r.inc
closed_is rows i r b e lives = e ∙ sym (ap (is_closed rows) (row_of-inc rows i r lives))

-- ---- begins

-- The reply to a begin at a row that isn't yet so: that it is shut, or what comes otherwise.
shut_or : List Row → ℕ → ActKind → Row → Reply
shut_or rows next kind r = cond (is_closed rows r.inc) (Shut r.inc) (cond (needs_decl kind r) (Need r.inc) (Begun (work_of rows next kind r)))

-- The reply to a begin at a row that isn't closed: that it needs a declaration, or the work.
need_or : List Row → ℕ → ActKind → Row → Reply
need_or rows next kind r = cond (needs_decl kind r) (Need r.inc) (Begun (work_of rows next kind r))

-- Where the row isn't yet so, the reply is that it is shut, or what comes otherwise.
not_so : (rows : List Row) (next : ℕ) (kind : ActKind) (r : Row) → is_so kind r ≡ false → begin_idle rows next kind r ≡ shut_or rows next kind r
unfolding shut_or
not_so rows next kind r e = ap (λ b. cond b Already (shut_or rows next kind r)) e

-- Where the row isn't closed, the reply is that it needs a declaration, or the work.
not_closed : (rows : List Row) (next : ℕ) (kind : ActKind) (r : Row) → is_closed rows r.inc ≡ false → shut_or rows next kind r ≡ need_or rows next kind r
unfolding shut_or need_or
not_closed rows next kind r e = ap (λ b. cond b (Shut r.inc) (need_or rows next kind r)) e

-- A begin at an idle row that isn't so yet, but is closed, is replied that it is shut.
pub idle_shut : (rows : List Row) (next i : ℕ) (kind : ActKind) (r : Row) → is_so kind r ≡ false → is_closed rows r.inc ≡ true → r.inc ≡ i → begin_idle rows next kind r ≡ Shut i
unfolding shut_or
idle_shut rows next i kind r so closed same =
    not_so rows next kind r so ∙ ap (λ b. cond b (Shut r.inc) (cond (needs_decl kind r) (Need r.inc) (Begun (work_of rows next kind r)))) closed ∙ ap Shut same

-- A begin at an idle row that isn't so yet or closed, but lacks its declaration, is replied that need.
pub idle_need : (rows : List Row) (next i : ℕ) (kind : ActKind) (r : Row) → is_so kind r ≡ false → is_closed rows r.inc ≡ false → needs_decl kind r ≡ true → r.inc ≡ i → begin_idle rows next kind r ≡ Need i
unfolding need_or
idle_need rows next i kind r so closed needs same =
    not_so rows next kind r so ∙ not_closed rows next kind r closed ∙ ap (λ b. cond b (Need r.inc) (Begun (work_of rows next kind r))) needs ∙ ap Need same

-- A begin at an idle row that isn't so yet, isn't closed, and lacks no declaration begins its work.
pub idle_begins : (rows : List Row) (next : ℕ) (kind : ActKind) (r : Row) (work : Work) → is_so kind r ≡ false → is_closed rows r.inc ≡ false → needs_decl kind r ≡ false → work ≡ work_of rows next kind r → begin_idle rows next kind r ≡ Begun work
unfolding need_or
idle_begins rows next kind r work so closed needs same =
    not_so rows next kind r so ∙ not_closed rows next kind r closed ∙ ap (λ b. cond b (Need r.inc) (Begun (work_of rows next kind r))) needs ∙ sym (ap Begun same)

-- The reply to a begin at a row that is there and isn't gone is told by the row.
begin_by : (rows : List Row) (next i : ℕ) (kind : ActKind) (r : Row) → is_gone rows i ≡ false → row_of rows i ≡ Some r → begin_reply rows next kind i ≡ begin_at rows next kind r
begin_by rows next i kind r here lives =
    ap (λ b. cond b (Some (Gone i)) (elim (row_of rows i) as (λ _. Option Reply) [ None ↦ Some (Gone i) | Some s ↦ begin_at rows next kind s ])) here
    ∙ ap (λ o. elim o as (λ _. Option Reply) [ None ↦ Some (Gone i) | Some s ↦ begin_at rows next kind s ]) lives

-- Where nothing is pending, the reply to a begin is that of such a row.
idle_by : (rows : List Row) (next : ℕ) (kind : ActKind) (r : Row) → r.pending ≡ None → begin_at rows next kind r ≡ Some (begin_idle rows next kind r)
idle_by rows next kind r idle =
    ap (λ p. elim p as (λ _. Option Reply) [ Some q ↦ cond (same_act kind q.0) (Some (Joined q.1)) None | None ↦ Some (begin_idle rows next kind r) ]) idle

-- An answer that is right for a row with nothing pending is right for the begin.
answers_by : (rows : List Row) (next i : ℕ) (kind : ActKind) (r : Row) (a : BeginAnswer) → begin_reply rows next kind i ≡ Some (begin_idle rows next kind r) → r.inc ≡ i → AnswersIdle rows next kind r a → AnswersBegin rows next kind i a
answers_by rows next i kind r (answer.Busy a) e same h = absurd h
answers_by rows next i kind r (answer.Joins a) e same h = absurd h
answers_by rows next i kind r (answer.Quiet s) e same h = (e ∙ ap Some h.0, subst (λ n. moves (Begin kind n) s ≡ false) same h.1)
answers_by rows next i kind r (answer.Begins work) e same h = e ∙ ap Some h

-- the answer where no action is pending at the row
pub idle_answers : (rows : List Row) (next i : ℕ) (kind : ActKind) (f : Facts) (a : BeginAnswer) → is_gone rows i ≡ false → Some f ≡ option_map facts_of (row_of rows i) → f.pending ≡ None → ((r : Row) → row_of rows i ≡ Some r → AnswersIdle rows next kind r a) → AnswersBegin rows next kind i a
idle_answers rows next i kind f a here e idle h =
    let t : Told (row_of rows i) f = told rows i f e in
    answers_by rows next i kind t.row a (begin_by rows next i kind t.row here t.lives ∙ idle_by rows next kind t.row (sym (ap (λ z. z.pending) t.facts) ∙ idle)) (row_of-inc rows i t.row t.lives) (h t.row t.lives)

-- ---- work

-- The work of a resolve, made of what was read of its row and its parent, is that of the row.
pub resolve_made : (rows : List Row) (action i : ℕ) (parent : Option ℕ) (m : Moniker) (base url : List ℕ) (eager : List ℕ) (above : Option (List ℕ)) (declared : Option (List ℕ)) (r : Row) → m ≡ moniker_of rows i → base ≡ unwrap_or above [] → above ≡ above_url rows parent → url ≡ unwrap_or declared [] → declared ≡ option_map (λ s. s.url) (row_of rows i) → eager ≡ [] → row_of rows i ≡ Some r → parent ≡ r.parent → record { action = action; inc = i; moniker = m; base = base; url = url; runner = None; eager = eager } ≡ work_of rows action Resolve r
resolve_made rows action i parent m base url eager above declared r m_is base_is above_is url_is declared_is eager_is lives up =
    let same : i ≡ r.inc = sym (row_of-inc rows i r lives) in
    let made : ℕ → Moniker → List ℕ → List ℕ → List ℕ → Work = λ j n b u e. record { action = action; inc = j; moniker = n; base = b; url = u; runner = None; eager = e } in
    let base_too : base ≡ base_of rows r = base_is ∙ ap (λ o. unwrap_or o []) (above_is ∙ ap (above_url rows) up) in
    let url_too : url ≡ r.url = url_is ∙ ap (λ o. unwrap_or o []) (declared_is ∙ ap (option_map (λ s. s.url)) lives) in
    ap (λ n. made i n base url eager) m_is
    ∙ ap (λ b. made i (moniker_of rows i) b url eager) base_too
    ∙ ap (λ u. made i (moniker_of rows i) (base_of rows r) u eager) url_too
    ∙ ap (made i (moniker_of rows i) (base_of rows r) r.url) eager_is
    ∙ ap (λ j. made j (moniker_of rows j) (base_of rows r) r.url []) same

-- The work of a start or a stop, made of what was read of its row, is that of the row.
pub program_made : (rows : List Row) (action i : ℕ) (m : Moniker) (base url eager : List ℕ) (runner : Option (List ℕ)) (absolute : Option (List ℕ)) (r : Row) → m ≡ moniker_of rows i → base ≡ [] → url ≡ unwrap_or absolute [] → absolute ≡ option_and_then (λ s. s.absolute) (row_of rows i) → runner ≡ option_and_then (λ d. d.runner) (decl_of rows i) → row_of rows i ≡ Some r → record { action = action; inc = i; moniker = m; base = base; url = url; runner = runner; eager = eager } ≡ program_work rows action r eager
program_made rows action i m base url eager runner absolute r m_is base_is url_is absolute_is runner_is lives =
    let same : i ≡ r.inc = sym (row_of-inc rows i r lives) in
    let made : ℕ → Moniker → List ℕ → List ℕ → Option (List ℕ) → Work = λ j n b u k. record { action = action; inc = j; moniker = n; base = b; url = u; runner = k; eager = eager } in
    let url_too : url ≡ unwrap_or r.absolute [] = url_is ∙ ap (λ o. unwrap_or o []) (absolute_is ∙ ap (option_and_then (λ s. s.absolute)) lives) in
    let runner_too : runner ≡ runner_of r = runner_is ∙ ap (λ o. option_and_then (λ d. d.runner) (option_and_then (λ s. s.decl) o)) lives in
    ap (λ n. made i n base url runner) m_is
    ∙ ap (λ b. made i (moniker_of rows i) b url runner) base_is
    ∙ ap (λ u. made i (moniker_of rows i) [] u runner) url_too
    ∙ ap (made i (moniker_of rows i) [] (unwrap_or r.absolute [])) runner_too
    ∙ ap (λ j. made j (moniker_of rows j) [] (unwrap_or r.absolute []) (runner_of r)) same

-- The children that start with a row are those that its declaration, if it has one, tells.
eager_decl : (rows : List Row) (i : ℕ) (r : Row) (o : Option Decl) → r.inc ≡ i → eager_by rows i o ≡ elim o as (λ _. List ℕ) [ None ↦ [] | Some d ↦ filter_map (λ k. child_of rows r.inc (static_name k.name)) (filter (λ k. k.eager) d.children) ]
eager_decl rows i r None same = refl
eager_decl rows i r (Some d) same = sym (ap (λ j. eager_kids rows j d.children) same)

-- The children that were read to start with a row are those that do.
eager_is : (rows : List Row) (i : ℕ) (r : Row) → row_of rows i ≡ Some r → eager_by rows i (decl_of rows i) ≡ eager_of rows r
eager_is rows i r lives =
    ap (λ o. eager_by rows i (option_and_then (λ s. s.decl) o)) lives
    ∙ eager_decl rows i r r.decl (row_of-inc rows i r lives)

-- a start's, with the children that start with it
pub start_made : (rows : List Row) (action i : ℕ) (kind : ActKind) (eager : List ℕ) (work : Work) (r : Row) → kind ≡ Start → eager ≡ eager_by rows i (decl_of rows i) → row_of rows i ≡ Some r → work ≡ program_work rows action r eager → work ≡ work_of rows action kind r
start_made rows action i kind eager work r start all lives e =
    e ∙ ap (program_work rows action r) (all ∙ eager_is rows i r lives) ∙ sym (ap (λ k. work_of rows action k r) start)

-- ---- shows

-- Of an instance that isn't gone, who asks how it is gets its row as `show` tells it.
pub shown_as : (rows : List Row) (i : ℕ) (r : Row) → is_gone rows i ≡ false → row_of rows i ≡ Some r → show_reply rows i ≡ Shown (look_at r)
shown_as rows i r here lives =
    ap (λ b. cond b (Gone i) (elim (row_of rows i) as (λ _. Reply) [ None ↦ Gone i | Some s ↦ Shown (look_at s) ])) here
    ∙ ap (λ o. elim o as (λ _. Reply) [ None ↦ Gone i | Some s ↦ Shown (look_at s) ]) lives
