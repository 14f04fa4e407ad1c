-- Inside.
-- Answers whose texts have no stray line feeds, since all their names, paths and URLs are in their
-- grammars.
use Rattle.std.specs.Prelude.{◌<◌, List, [], All, IfSome, IsTrue, Result, Ok, Err}
use Rattle.cm_names.specs.Name.{IsName}
use Rattle.cm_names.specs.Path.{is_path}
use Rattle.cm_names.specs.Urls.{is_url_text}
use Rattle.cm_world.specs.declared.answer.Answer.{Answer}
use Rattle.cm_world.specs.declared.answer.Answer.TheVariants as answer
use Rattle.cm_world.specs.declared.answer.Checked.{Checked}
use Rattle.cm_world.specs.declared.answer.Refusal.{Refusal}
use Rattle.cm_world.specs.declared.answer.Refusal.TheVariants as refusal
use Rattle.cm_world.specs.declared.frame.Frame.{Frame}
use Rattle.cm_world.specs.declared.reply.Entry.{Entry}
use Rattle.cm_world.specs.declared.route.Route.{Route}
use Rattle.cm_reply.specs.LegibleInside.{IsOfNames, IsOfName, IsLegibleRoute, IsLegibleSurvey}
use Rattle.cm_legible.specs.Tellable.{IsNamedReply}
use Rattle.cm_lanes.specs.Script.{AnsweredLine, ArePhases}

-- a refusal whose monikers are of names
abbrev pub IsLegibleRefusal : Refusal → Type 0
IsLegibleRefusal (refusal.NotFound m) = IsOfNames m
IsLegibleRefusal (refusal.OfferCycle nodes) = All IsOfName nodes
IsLegibleRefusal (refusal.NoRoute hop why) = IsOfNames hop.moniker
IsLegibleRefusal (refusal.VoidSource hop) = IsOfNames hop.moniker
IsLegibleRefusal _ = Unit {0}

-- the result of a route, with proper monikers
abbrev pub IsLegibleFound : Result Route Refusal → Type 0
IsLegibleFound (Ok route) = IsLegibleRoute route
IsLegibleFound (Err x) = IsLegibleRefusal x

-- a line of `doctor` with a proper moniker, path and result
pub record IsLegibleChecked (c : Checked) : Type 0 where
  pub moniker : IsOfNames c.moniker
  pub path : IfSome c.path (λ p. IsTrue (is_path p))
  pub result : IsLegibleFound c.result

-- an answer whose names, monikers, paths and URLs are in their grammars
abbrev pub IsLegibleAnswer : Answer → Type 0
IsLegibleAnswer (answer.Children kids) = All (λ k. IsName k.name) kids
IsLegibleAnswer (answer.Opened route) = IsLegibleRoute route
IsLegibleAnswer (answer.Routed route) = IsLegibleRoute route
IsLegibleAnswer (answer.Shown look) = IsTrue (is_url_text look.url)
IsLegibleAnswer (answer.Surveyed rows) = All IsLegibleSurvey rows
IsLegibleAnswer (answer.Doctored lines) = All IsLegibleChecked lines
IsLegibleAnswer (answer.Streamed next told) = All (λ h. IsOfNames h.moniker) told
IsLegibleAnswer _ = Unit {0}

-- an answer or a refusal that is so
abbrev pub IsLegibleResult : Result Answer Refusal → Type 0
IsLegibleResult (Ok a) = IsLegibleAnswer a
IsLegibleResult (Err x) = IsLegibleRefusal x

-- the replies of these entries name proper monikers
abbrev pub OfReplies : List Entry → Type 0
OfReplies es = All (λ (e : Entry). IsNamedReply e.reply) es

-- all lines are for one of the sixteen lanes
abbrev pub AreOfLanes : List (List AnsweredLine) → Type 0
AreOfLanes answered = All (All (λ (a : AnsweredLine). a.line.lane < 16)) answered

-- all answers to these lines are so
abbrev pub AreLegibleAnswers : List (List AnsweredLine) → Type 0
AreLegibleAnswers answered = All (All (λ (a : AnsweredLine). IsLegibleResult a.result)) answered

-- what lanes answer is so, since it is made of the replies of the history
abbrev pub ResultsAreLegible : Type 0
ResultsAreLegible =
    (f : Frame) (answered : List (List AnsweredLine)) (history : List Entry) → OfReplies history
    → AreOfLanes answered
    → ArePhases (λ c. f) answered [] history → AreLegibleAnswers answered
