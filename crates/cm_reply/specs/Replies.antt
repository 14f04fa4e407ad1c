-- Promised.
-- How the replies to events are written in a journal.
use Rattle.std.specs.Prelude.{[], ◌++◌, length, codes, decimal}
use Rattle.cm_names.specs.Moniker.{moniker_text}
use Rattle.cm_decl.specs.Words.{node_text}
use Rattle.cm_world.specs.declared.reply.Reply.{Reply}
use Rattle.cm_world.specs.declared.reply.Reply.TheVariants as reply
use Rattle.cm_reply.specs.Lists.{TextBytes, each_behind, bracketed}
use Rattle.cm_reply.specs.Routes.{route_text, failure_text, void_text}
use Rattle.cm_reply.specs.States.{outcome_text, look_text, survey_text, kid_text}

-- a reply that tells of routes, of lists and looks, of programs that have ended, or of what is left to
-- be removed
abbrev pub other_text : Reply → TextBytes
other_text reply.NoSuchUse = codes "no-such-use"
other_text reply.ClientOff = codes "client-off"
other_text (reply.SourceShut inc) = codes "source-shut " ++ decimal inc
other_text (reply.NeedStart inc) = codes "need-start " ++ decimal inc
other_text (reply.Failed hop reason) = codes "failed " ++ failure_text hop reason
other_text (reply.Void hop) = void_text hop
other_text (reply.Given route) = codes "given " ++ route_text route
other_text (reply.Opened route) = codes "opened " ++ route_text route
other_text (reply.Listed kids) = codes "listed " ++ (decimal (length kids) ++ bracketed kid_text kids)
other_text (reply.Shown look) = codes "shown " ++ look_text look
other_text (reply.Surveyed rows) = codes "surveyed " ++ (decimal (length rows) ++ bracketed survey_text rows)
other_text (reply.Left moniker) = codes "left"
other_text (reply.Tailed count) = codes "tailed " ++ decimal count
other_text (reply.Reaping incs) = codes "reaping" ++ each_behind (codes " ") decimal incs
other_text _ = []

-- a reply as a journal's line ends with it
abbrev pub replied_text : Reply → TextBytes
replied_text (reply.Found inc) = codes "found " ++ decimal inc
replied_text (reply.Need inc) = codes "need " ++ decimal inc
replied_text (reply.Shut inc) = codes "shut " ++ decimal inc
replied_text (reply.Gone inc) = codes "gone " ++ decimal inc
replied_text (reply.NotFound moniker) = codes "not-found " ++ moniker_text moniker
replied_text (reply.Begun work) = codes "begun " ++ decimal work.action
replied_text (reply.Joined action) = codes "joined " ++ decimal action
replied_text reply.Already = codes "already"
replied_text (reply.Ended outcome) = codes "ended " ++ outcome_text outcome
replied_text (reply.Created inc) = codes "created " ++ decimal inc
replied_text (reply.Closing inc) = codes "closing " ++ decimal inc
replied_text reply.NoCollection = codes "no-collection"
replied_text (reply.Exists inc) = codes "exists " ++ decimal inc
replied_text reply.OffersRefused = codes "offers-refused"
replied_text (reply.BadOffer index number) =
    codes "bad-offer " ++ (decimal index ++ (codes " " ++ decimal number))
replied_text (reply.Cycle nodes) = codes "cycle" ++ each_behind (codes " ") node_text nodes
replied_text reply.Full = codes "full"
replied_text reply.Marked = codes "marked"
replied_text reply.NotDynamic = codes "not-dynamic"
replied_text reply.Done = codes "done"
replied_text (reply.Stopping work) =
    codes "stopping " ++ (decimal work.inc ++ (codes " " ++ decimal work.action))
replied_text (reply.ShutDown inc) = codes "shutdown " ++ decimal inc
replied_text (reply.Purged lost) = codes "purged " ++ decimal (length lost)
replied_text reply.PurgedBefore = codes "purged-before"
replied_text other = other_text other
