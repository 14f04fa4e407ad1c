-- Promised.
-- The headline of `serve`: what is promised of the sessions of a run, whoever comes.
use Rattle.std.specs.Prelude.{◌≡◌, ◌≢◌, ◌⊎◌, ℕ, ◌+◌, ◌<◌, ◌≤◌, nat_eq, cond, List, [], ◌∷◌, ◌++◌, All}
use Rattle.std.specs.Prelude.{Contains, length, map, take, ⊤, Option, Some}
use Rattle.std.specs.List.{AllZip}
use Rattle.std.specs.Str.{bytes_eq}
use Rattle.std.specs.Io.KnownBytes.{IsAtEnd}
use Rattle.cm_io.specs.declared.door.DoorCounts.{DoorCounts}
use Rattle.cm_io.specs.Lines.{lines, Moves}
use Rattle.cm_io.specs.Orders.{MovesCame, InStep, Move, given_in, hung_up}
use Rattle.cm_io.specs.Outside.{Rose}
use Rattle.cm_world.specs.declared.frame.Frame.{Frame}
use Rattle.cm_world.specs.declared.reply.Entry.{Entry}
use Rattle.cm_world.specs.World.{start}
use Rattle.cm_world.specs.Legal.{Legal}
use Rattle.cm_gate.specs.declared.asked.GateCall.{GateCall}
use Rattle.cm_reply.specs.Lists.{TextBytes}
use Rattle.cm_manager.specs.Done.{PerformsCommands}
use Rattle.cm_manager.specs.Turns.{IsLaterHistory}
use Rattle.cm_manager.specs.Work.{Manifests}
use Rattle.cm_session.specs.declared.served.Back.{Back}
use Rattle.cm_session.specs.declared.served.Cause.{Cause}
use Rattle.cm_session.specs.declared.served.Cause.TheVariants as cause
use Rattle.cm_session.specs.Links.{BeginsWithBytes, LinkView, whole_lines}
use Rattle.cm_session.specs.Serving.{IsNewLink, back_view}
use Rattle.cm_session.specs.Session.{AreEnded, OutOfMemoryLast, WroteUnlessFailed, most_lines, quit}
use Rattle.cm_session.specs.LineOutcome.{LineOutcome, ReadsLine, reply_line, done_of, HadMemory}
use Rattle.cm_program.specs.Headline.{EndsWell, WorksEach}
use Rattle.cm_program.specs.declared.ran.Ran.{Ran}
use Rattle.cm_program.specs.Run.{IsServeStatus}
use Rattle.cm_program.specs.Stock.{limits}
use Rattle.cm_call.specs.declared.call.ServeOptions.{ServeOptions}

-- ---- what sessions are served over

-- what the realm of `serve` is made with: the root that its words name, no builtins, and the limits of
-- every run
abbrev pub served_frame : ServeOptions → Frame
served_frame o = record { root = o.root; builtins = []; limits = limits }

-- where `serve` looks for manifests: in the folder that its words name, by the gates alone
abbrev pub served_manifests : ServeOptions → Manifests
served_manifests o = record { repo = Some o.repository; blocks = [] }

-- ---- the lines of a session

-- the lines before the first `quit`
abbrev pub before_quit : List TextBytes → List TextBytes
before_quit [] = []
before_quit (t ∷ ts) = cond (bytes_eq t quit) [] (t ∷ before_quit ts)

-- the lines of these bytes that a session performs: those before the first `quit`, and at most as many
-- as it may have
abbrev pub session_lines : TextBytes → List TextBytes
session_lines bytes = take most_lines (before_quit (lines bytes))

-- the lines that a session performs, without a last one that no line feed ended
abbrev pub whole_session_lines : TextBytes → List TextBytes
whole_session_lines bytes = take most_lines (before_quit (whole_lines bytes))

-- ---- one link

-- what came of a link: the bytes that it gave, the lines that were served, and what was made of each
pub record SessionRecord : Type 0 where
  pub bytes : TextBytes
  pub lines_done : List TextBytes
  pub told : List LineOutcome

-- all lines of the session were served, and no byte was left unread, unless `quit` or the number of
-- lines ended it
pub record ServedAllLines (left : Option TextBytes) (sat : SessionRecord) : Type 0 where
  pub served : sat.lines_done ≡ session_lines sat.bytes
  pub nothing_left : IsAtEnd left
      ⊎ (Contains (whole_lines sat.bytes) quit ⊎ (length sat.lines_done ≡ most_lines))

module _ {L : Type 0} (view : L → LinkView) where
  -- what came of a link that was new, by its own counts of faults and the status of the run
  pub record IsSessionOf (status : ℕ) (now : LinkView) (sat : SessionRecord) : Type 0 where
    pub came : L
    pub new : IsNewLink (view came)
    pub gave : Moves (view came).source now.source sat.bytes
    pub reads : AllZip ReadsLine sat.lines_done sat.told
    -- the lines that were served are the first ones; one that no line feed ended only at the link's end
    pub first : BeginsWithBytes (session_lines sat.bytes) sat.lines_done
    pub ended : AreEnded sat.bytes sat.lines_done now.source.left
    -- all of them, where the link never failed; and each whole line, where it never failed as a sink
    pub all : status ≢ 6 → now.source.faults ≡ 0 → now.sink.faults ≡ 0 → ServedAllLines now.source.left sat
    pub whole : status ≢ 6 → now.sink.faults ≡ 0
        → BeginsWithBytes sat.lines_done (whole_session_lines sat.bytes)
    -- what was written is the replies, whatever the status; they break off only in the last one, and only
    -- where the link's count of failed writes rose
    pub wrote : WroteUnlessFailed (view came).sink now.sink sat.told
    pub had_memory : status ≢ 6 → All HadMemory sat.told
    -- whatever the status, no line but a link's last was answered for lack of memory
    pub out_of_memory_last : OutOfMemoryLast sat.told
    -- the order, where the link tells it: the reads, which gave these bytes, and the writes, so that each
    -- reply was written before it was read on after its line; and after all of them, once, the hang-up
    pub moves : List Move
    pub in_step : InStep (map reply_line sat.told) moves
    pub reads_are : given_in moves ≡ sat.bytes
    pub order : MovesCame (view came).order now.order (moves ++ hung_up ∷ [])

-- ---- all links

-- what came of the links of worker k, in their order
abbrev pub sats_by : ℕ → List (Back LinkView) → List SessionRecord → List SessionRecord
sats_by k [] sats = []
sats_by k (b ∷ bs) [] = []
sats_by k (b ∷ bs) (s ∷ ss) = cond (nat_eq b.worker k) (s ∷ sats_by k bs ss) (sats_by k bs ss)

-- between two places of the history a caller performs the commands of one session after another, and
-- adds no entry besides
pub data FollowsEach (f : Frame) (c : ℕ) : List SessionRecord → List Entry → List Entry → Type 0 where
  none_left : {h₀ h₁ : List Entry} → IsLaterHistory c h₀ h₁ → FollowsEach f c [] h₀ h₁
  one_first : {s : SessionRecord} {others : List SessionRecord} {h₀ h₁ h₂ : List Entry}
      → PerformsCommands f c (done_of s.told) h₀ h₁
      → FollowsEach f c others h₁ h₂
      → FollowsEach f c (s ∷ others) h₀ h₂

-- the links stand worker by worker, from worker k on
abbrev pub AreByWorker : ℕ → List (Back LinkView) → Type 0
AreByWorker k [] = ⊤
AreByWorker k (b ∷ bs) = (k ≤ b.worker) × AreByWorker b.worker bs

module _ {G L : Type 0} (log_of : G → Option (List GateCall)) (faults_of : G → ℕ) (view : L → LinkView) where
  -- the sessions of a run: what came of each link, and the history, in which each worker's entries are
  -- those of the commands of its links, in their order
  pub record RunsSessions
      (f : Frame) (manifests : Manifests) (workers : ℕ) (gates₀ gates₁ : List G) (history : List Entry)
      (links : List (Back LinkView)) (status : ℕ) : Type 0 where
    pub sats : List SessionRecord
    pub each : AllZip (λ b s. IsSessionOf view status b.link s) links sats
    pub workers_are : All (λ b. b.worker < workers) links
    pub order : AreByWorker 0 links
    pub legal : Legal (start f) history
    pub entries : (k : ℕ) → k < 16 → FollowsEach f k (sats_by k links sats) [] history
    pub callers : All (λ (e : Entry). e.caller < 16) history
    pub laws : EndsWell f history
    pub work : WorksEach log_of faults_of manifests history gates₀ gates₁

  -- ---- a door

  -- what came of a door whose links were served: the sessions, and what the door itself counted. As
  -- many links come back as it gave, and no more than were asked for
  pub record Attended {D : Type 0} (counts_of : D → DoorCounts)
      (f : Frame) (manifests : Manifests) (sessions workers : ℕ) (gates : List G) (before : DoorCounts)
      (ran : Ran D L G) : Type 0 where
    pub sixteen : length ran.gates ≡ 16
    pub runs : RunsSessions f manifests workers gates ran.gates ran.book.entries
        (map (back_view view) ran.links) ran.status
    pub given : (counts_of ran.door).links ≡ before.links + length ran.links
    pub few : length ran.links ≤ sessions
    -- at 0 as many came as were asked for, or the door closed; and it never failed
    pub done : ran.status ≡ 0 → (length ran.links ≡ sessions)
        ⊎ Rose before.closings (counts_of ran.door).closings
    pub sound : ran.status ≡ 0 → (counts_of ran.door).faults ≡ before.faults
    -- at 5 it failed; and there is no status but these and 6
    pub failed : ran.status ≡ 5 → Rose before.faults (counts_of ran.door).faults
    pub others : IsServeStatus ran.status

-- the status of a run that served links, by why it ended
abbrev pub status_of : Cause → ℕ
status_of cause.Done = 0
status_of cause.DoorFault = 5
status_of cause.Memory = 6
