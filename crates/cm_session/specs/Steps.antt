-- Inside.
-- What a session has in hand, from line to line.
use Rattle.std.specs.Prelude.{◌≡◌, ◌≢◌, ◌⊎◌, ◌≤◌, ℕ, List, [], ◌++◌, map, true, false, Option, Some, None}
use Rattle.std.specs.Prelude.{Result, Err}
use Rattle.std.specs.Io.KnownBytes.{Appends}
use Rattle.cm_io.specs.Lines.{Moves}
use Rattle.cm_io.specs.LinesInside.{EndsOnce, IsFirstLine, IsUnbroken, Reader}
use Rattle.cm_io.specs.Orders.{MovesCame, Move, joined, wrote as wrote_move}
use Rattle.cm_io.specs.OrdersInside.{Pulled}
use Rattle.cm_io.specs.Outside.{Rose}
use Rattle.cm_world.specs.declared.frame.Frame.{Frame}
use Rattle.cm_world.specs.declared.reply.Entry.{Entry}
use Rattle.cm_world.specs.declared.answer.Answer.{Answer}
use Rattle.cm_world.specs.declared.answer.Refusal.{Refusal}
use Rattle.cm_world.specs.declared.answer.Refusal.TheVariants as refusal
use Rattle.cm_command.specs.declared.command.Command.{Command}
use Rattle.cm_reply.specs.Lists.{TextBytes}
use Rattle.cm_reply.specs.Answers.{reply_text}
use Rattle.cm_reply.specs.Journal.{line}
use Rattle.cm_manager.specs.Calls.{RunsOrLoses}
use Rattle.cm_manager.specs.Asking.{frame_of}
use Rattle.cm_manager.specs.Kept.{KeepsPass}
use Rattle.cm_manager.specs.Work.{Manifests}
use Rattle.cm_manager.specs.Contract.{RealmPass, GatesView}
use Rattle.cm_session.specs.declared.ended.Ended.{Ended}
use Rattle.cm_session.specs.declared.ended.Ended.TheVariants as ended
use Rattle.cm_session.specs.Links.{LinkView}
use Rattle.cm_session.specs.LinksInside.{GrowsByPrefix, Side, side_of, side_with}
use Rattle.cm_session.specs.LineOutcome.{LineOutcome, performed, bad, too_long, ReadsLine}
use Rattle.cm_session.specs.LineOutcome.{reply_line, HadMemory}
use Rattle.cm_session.specs.Session.{quit, KeepsOrNot}

-- what was written of one reply, and whether the session ends for it: it goes on only where all was
-- written and NoWant, that memory sufficed, holds; and the reply breaks off only where the sink failed
abbrev pub LineWrote : Option Ended → Side → Side → TextBytes → Type 0 → Type 0
LineWrote None old new text NoWant = Appends old.written new.written text × (new.faults ≡ old.faults) × NoWant
LineWrote (Some ended.WriteFault) old new text NoWant =
    GrowsByPrefix old.written new.written text × Rose old.faults new.faults × NoWant
LineWrote (Some ended.Memory) old new text NoWant = Appends old.written new.written text
    ⊎ (GrowsByPrefix old.written new.written text × Rose old.faults new.faults)
LineWrote (Some ended.End) old new text NoWant = ⊥
LineWrote (Some ended.Quit) old new text NoWant = ⊥
LineWrote (Some ended.ReadFault) old new text NoWant = ⊥
LineWrote (Some ended.LinesSpent) old new text NoWant = ⊥

-- only these pieces of a reply were written, and nothing was read between; they are all of it where
-- the session goes on
pub record RepliesInOrder (end : Option Ended) (old new : Option (List Move))
    (text : TextBytes) : Type 0 where
  pub pieces : List TextBytes
  pub came : MovesCame old new (map wrote_move pieces)
  pub whole : end ≡ None → joined pieces ≡ text

-- a line that is no command was answered with this text; or nothing was written, since there was no
-- memory for the text
abbrev pub AnsweredOrNot : Side → Side → TextBytes → Option Ended → Type 0
AnsweredOrNot old new text end =
    (LineWrote end old new text (false ≡ false) × RepliesInOrder end old.order new.order text)
    ⊎ ((end ≡ Some ended.Memory) × (new ≡ old))

-- what a caller does for a line in the history: it performs the line's command, or nothing
abbrev pub DoesLine : Frame → ℕ → LineOutcome → List Entry → List Entry → Type 0
DoesLine f c (performed d) h₀ h₁ = RunsOrLoses f c d.command h₀ h₁ d.result
DoesLine f c (bad at) h₀ h₁ = h₁ ≡ h₀
DoesLine f c too_long h₀ h₁ = h₁ ≡ h₀

-- one line was served: its command was performed, and its reply written
pub record ServedLine (manifests : Manifests) (p q : RealmPass) (g h : GatesView) (line : TextBytes)
    (old new : Side)
    (end : Option Ended) : Type 0 where
  pub told : LineOutcome
  pub reads : ReadsLine line told
  pub keeps : KeepsOrNot manifests p q g h
  pub does : DoesLine (frame_of p) p.caller told p.seen q.seen
  pub wrote : LineWrote end old new (reply_line told) (HadMemory told)
  pub ordered : RepliesInOrder end old.order new.order (reply_line told)

-- one command was performed, and its reply written; its answer may be lost where memory ran out
pub record ServedCommand (manifests : Manifests) (p q : RealmPass) (g h : GatesView) (command : Command)
    (old new : Side) (end : Option Ended) : Type 0 where
  pub answer : Result Answer Refusal
  pub keeps : KeepsPass manifests p q g h
  pub goes : RunsOrLoses (frame_of p) p.caller command p.seen q.seen answer
  pub wrote : LineWrote end old new (line (reply_text command answer)) (answer ≢ Err refusal.Memory)
  pub ordered : RepliesInOrder end old.order new.order (line (reply_text command answer))

-- nothing was performed, and nothing was written
pub record IsSilent (p q : RealmPass) (g h : GatesView) (old new : Side) : Type 0 where
  pub pass : q ≡ p
  pub gates : h ≡ g
  pub sink : new ≡ old

-- a line was served, or the session ends before it is, since memory ran out
abbrev pub ServedOrNot : Manifests → RealmPass → RealmPass → GatesView → GatesView → TextBytes → Side → Side
    → Option Ended → Type 0
ServedOrNot manifests p q g h line old new end =
    ServedLine manifests p q g h line old new end ⊎ ((end ≡ Some ended.Memory) × IsSilent p q g h old new)

-- the next line was taken from the reader and served
pub record LineDone (manifests : Manifests) (p q : RealmPass) (g h : GatesView) (taken : TextBytes)
    (reader : Reader)
    (old new : Side) (end : Option Ended) : Type 0 where
  pub line : TextBytes
  pub first : IsFirstLine taken reader line
  pub other : line ≢ quit
  pub served : ServedLine manifests p q g h line old new end

-- what was made of the bytes `taken`: the link was as `old` before they were read, its order was `mid` after
-- the reads, and it is as `new` now
module _ (manifests : Manifests) (p q : RealmPass) (g h : GatesView) (taken : TextBytes) (reader : Reader)
    (old : LinkView) (mid : Option (List Move)) (new : LinkView) where
  -- one line was taken from these bytes and served
  abbrev pub LineIsDone : Option Ended → Type 0
  LineIsDone end = LineDone manifests p q g h taken reader (side_with old mid) (side_of new) end

  -- after the bytes were read nothing was performed or written
  abbrev pub WasSilent : Type 0
  WasSilent = IsSilent p q g h (side_with old mid) (side_of new)

  -- what one step of a session did, by how it ends: with no end, one line was taken and served
  abbrev pub StepBy : Option Ended → Type 0
  StepBy None = LineIsDone None
  StepBy (Some ended.WriteFault) = LineIsDone (Some ended.WriteFault)
  StepBy (Some ended.Memory) = WasSilent ⊎ LineIsDone (Some ended.Memory)
  StepBy (Some ended.Quit) = IsFirstLine taken reader quit × WasSilent
  StepBy (Some ended.End) = (taken ≡ []) × (reader.over ≡ true) × WasSilent
  StepBy (Some ended.ReadFault) = IsUnbroken taken × Rose old.source.faults new.source.faults × WasSilent
  StepBy (Some ended.LinesSpent) = ⊥

-- one step of a session: the line reader was called once, and what it told was served
pub record Stepped (manifests : Manifests) (p q : RealmPass) (g h : GatesView) (before after : Reader)
    (old new : LinkView) (end : Option Ended) : Type 0 where
  pub given : TextBytes
  pub gave : Moves old.source new.source given
  pub later : old.source.faults ≤ new.source.faults
  pub once : EndsOnce before after old.source new.source given
  -- the order after the reads: no read came while a line ended in what was there, and none after the end
  pub mid : Option (List Move)
  pub pulled : Pulled old.order mid before.held given
  pub still : before.over ≡ true → mid ≡ old.order
  pub by : StepBy manifests p q g h (before.held ++ given) after old mid new end
