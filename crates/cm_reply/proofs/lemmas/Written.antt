-- The examples and tables, written out.
use Rattle.std.proofs.Common.{refl}
use Rattle.std.specs.Fmt.{digits}
use Rattle.cm_reply.specs.Examples.{PrintsEntries, PrintsHeader, PrintsRoute, PrintsDirectory, PrintsForced, PrintsCreated, PrintsChildren, PrintsLook, PrintsSurvey, PrintsDoctor, PrintsStream, PrintsFailure}
use Rattle.cm_reply.specs.Tables.{PrintsRefusals, PrintsReasons, PrintsOutcomes, PrintsEvents, PrintsReplies, PrintsShortAnswers}

-- The entries of a route's example are written as its lines, whatever the declarations are.
pub prints_entries : PrintsEntries
unfolding digits
prints_entries at_root at_client at_logger = refl

-- The header of a realm with two builtins is written as its lines.
pub prints_header : PrintsHeader
prints_header = refl

-- A route of four hops is written as its example says.
pub prints_route : PrintsRoute
unfolding digits
prints_route = refl

-- It is written as its example says that a directory was opened with rights.
pub prints_directory : PrintsDirectory
unfolding digits
prints_directory = refl

-- A stop by force is written as its example says.
pub prints_forced : PrintsForced
unfolding digits
prints_forced = refl

-- It is written as its example says that a child was created.
pub prints_created : PrintsCreated
unfolding digits
prints_created = refl

-- The children of a collection are written each on a line of its own.
pub prints_children : PrintsChildren
unfolding digits
prints_children = refl

-- An instance that is named by its incarnation and is about to stop is shown as its example says.
pub prints_look : PrintsLook
unfolding digits
prints_look = refl

-- An instance that is shut stands in a survey as its example says.
pub prints_survey : PrintsSurvey
unfolding digits
prints_survey = refl

-- A use that is left out on purpose and an unresolved instance are written by `doctor` as said.
pub prints_doctor : PrintsDoctor
unfolding digits
prints_doctor = refl

-- What happened, one thing of each kind, is written by `events` as its example says.
pub prints_stream : PrintsStream
unfolding digits
prints_stream = refl

-- A refusal is written alike for each command.
pub prints_failure : PrintsFailure
prints_failure c = refl

-- Each refusal is written as the text at its place in the table.
pub prints_refusals : PrintsRefusals
unfolding digits
prints_refusals = refl

-- Each reason why there is no route is written as the word at its place in the table.
pub prints_reasons : PrintsReasons
prints_reasons = refl

-- Each outcome of an action is written as the text at its place in the table.
pub prints_outcomes : PrintsOutcomes
unfolding digits
prints_outcomes = refl

-- Each kind of event is written as the text at its place in the table.
pub prints_events : PrintsEvents
unfolding digits
prints_events = refl

-- Each kind of reply is written as the text at its place in the table.
pub prints_replies : PrintsReplies
unfolding digits
prints_replies = refl

-- Each answer of one line is written as the text at its place in the table.
pub prints_short_answers : PrintsShortAnswers
unfolding digits
prints_short_answers = refl
