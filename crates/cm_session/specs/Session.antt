-- Promised.
-- One session over a link, by how it ended.
use Rattle.std.specs.Prelude.{◌≡◌, ◌≢◌, ◌⊎◌, ◌<◌, ◌≤◌, ℕ, List, [], ◌∷◌, ◌++◌, All, length, map, take, codes}
use Rattle.std.specs.Prelude.{Option}
use Rattle.std.specs.List.{AllZip}
use Rattle.std.specs.Io.KnownBytes.{Appends, IsAtEnd}
use Rattle.cm_io.specs.Lines.{lines, Moves}
use Rattle.cm_io.specs.Orders.{MovesCame, InStep, Move, given_in, hung_up}
use Rattle.cm_io.specs.Outside.{AsSink, Rose}
use Rattle.cm_gate.specs.declared.asked.GateCall.{GateCall}
use Rattle.cm_reply.specs.Lists.{TextBytes}
use Rattle.cm_manager.specs.Done.{PerformsCommands}
use Rattle.cm_manager.specs.Asking.{frame_of}
use Rattle.cm_manager.specs.Gated.{gates_view}
use Rattle.cm_manager.specs.Kept.{KeepsPass}
use Rattle.cm_manager.specs.Work.{Manifests}
use Rattle.cm_manager.specs.Contract.{RealmPass, GatesView}
use Rattle.cm_session.specs.declared.ended.Ended.{Ended}
use Rattle.cm_session.specs.declared.ended.Ended.TheVariants as ended
use Rattle.cm_session.specs.Links.{BeginsWithBytes, LinkView, whole_lines}
use Rattle.cm_session.specs.LineOutcome.{LineOutcome, ReadsLine, reply_line, replies, done_of, HadMemory}

-- the line that ends a session
abbrev pub quit : TextBytes
quit = codes "quit"

-- a session serves at most so many lines
abbrev pub most_lines : ℕ
most_lines = 1048576

-- a line feed ended each of these first lines of the bytes; or the link is at its end, where the last
-- line needs none
abbrev pub AreEnded : TextBytes → List TextBytes → Option TextBytes → Type 0
AreEnded bytes first left = BeginsWithBytes (whole_lines bytes) first ⊎ IsAtEnd left

-- which lines of the bytes that came were served, by how the session ended
abbrev pub Served : Ended → TextBytes → List TextBytes → Option TextBytes → Type 0
Served ended.End bytes done left = (lines bytes ≡ done) × (length done < most_lines) × IsAtEnd left
Served ended.Quit bytes done left =
    (rest : List TextBytes) × (lines bytes ≡ done ++ quit ∷ rest) × (length done < most_lines)
    × AreEnded bytes (done ++ quit ∷ []) left
Served ended.LinesSpent bytes done left = BeginsWithBytes (lines bytes) done × (length done ≡ most_lines)
Served ended.ReadFault bytes done left = BeginsWithBytes (lines bytes) done
    × BeginsWithBytes done (whole_lines bytes)
Served ended.WriteFault bytes done left = BeginsWithBytes (lines bytes) done
Served ended.Memory bytes done left = BeginsWithBytes (lines bytes) done

-- the replies to all lines but the last were written whole, and a prefix of that to the last
pub record BreaksOff (old new : Option TextBytes) (told : List LineOutcome) : Type 0 where
  pub before : List LineOutcome
  pub last : LineOutcome
  pub all : told ≡ before ++ last ∷ []
  pub count : ℕ
  pub wrote : Appends old new (replies before ++ take count (reply_line last))

-- the replies break off in the last one, since the sink failed in it: its count of faults rose
abbrev pub FailedInLast : AsSink → AsSink → List LineOutcome → Type 0
FailedInLast old new told = BreaksOff old.written new.written told × Rose old.faults new.faults

-- all replies were written whole, unless the sink failed in the last one
abbrev pub WroteUnlessFailed : AsSink → AsSink → List LineOutcome → Type 0
WroteUnlessFailed old new told =
    Appends old.written new.written (replies told) ⊎ FailedInLast old new told

-- what was written of the replies, by how the session ended
abbrev pub Wrote : Ended → AsSink → AsSink → List LineOutcome → Type 0
Wrote ended.WriteFault old new told = FailedInLast old new told
Wrote ended.Memory old new told = WroteUnlessFailed old new told
Wrote end old new told = Appends old.written new.written (replies told)

-- pass and gates are as they were; or the pass has only grown by whole calls of its caller, with the
-- gates' work for them
abbrev pub KeepsOrNot : Manifests → RealmPass → RealmPass → GatesView → GatesView → Type 0
KeepsOrNot manifests p q g h = ((q ≡ p) × (h ≡ g)) ⊎ KeepsPass manifests p q g h

-- no line but the last was answered for lack of memory: a session ends with such an answer
pub record OutOfMemoryLast (told : List LineOutcome) : Type 0 where
  pub before : List LineOutcome
  pub last : List LineOutcome
  pub told_are : told ≡ before ++ last
  pub one : length last ≤ 1
  pub had_memory : All HadMemory before

-- the lines of a link were served: what became of the pass, the gates and the link by that. After it
-- the link made the moves `closing`, and gave or took no bytes in them
pub record SessionClosedBy (closing : List Move) (manifests : Manifests) (p q : RealmPass) (g h : GatesView)
    (old new : LinkView) (end : Ended) : Type 0 where
  pub keeps : KeepsOrNot manifests p q g h
  -- the bytes that the link gave
  pub bytes : TextBytes
  pub gave : Moves old.source new.source bytes
  -- the lines that were served, and what was made of each
  pub lines_done : List TextBytes
  pub few : length lines_done ≤ most_lines
  pub told : List LineOutcome
  pub reads : AllZip ReadsLine lines_done told
  pub no_quit : All (λ t. t ≢ quit) lines_done
  pub served : Served end bytes lines_done new.source.left
  -- a line that no line feed ended was served only where the link is at its end
  pub ended_lines : AreEnded bytes lines_done new.source.left
  -- what the caller performed: the commands among them, in their order, and nothing else
  pub follows : PerformsCommands (frame_of p) p.caller (done_of told) p.seen q.seen
  -- what was written of the replies, and why the session ended
  pub wrote : Wrote end old.sink new.sink told
  pub had_memory : end ≢ ended.Memory → All HadMemory told
  pub out_of_memory_last : OutOfMemoryLast told
  pub read_fault : end ≡ ended.ReadFault → Rose old.source.faults new.source.faults
  -- the order, where the link tells it: reads, which gave these bytes, and writes, so that each reply was
  -- written before it was read on after its line; and after them the closing alone
  pub moves : List Move
  pub in_step : InStep (map reply_line told) moves
  pub reads_are : given_in moves ≡ bytes
  pub came : MovesCame old.order new.order (moves ++ closing)

-- a session over a link, from its first byte to hanging up, which happens once and after all reads and
-- writes
abbrev pub Session : Manifests → RealmPass → RealmPass → GatesView → GatesView → LinkView → LinkView → Ended
    → Type 0
Session manifests p q g h old new end = SessionClosedBy (hung_up ∷ []) manifests p q g h old new end

module _ {G L : Type 0} (log_of : G → Option (List GateCall)) (faults_of : G → ℕ) (view : L → LinkView) where
  -- the lines of a link were served, and the moves `closing` came after them, said of links and gates
  -- themselves
  abbrev pub SessionWith : List Move → Manifests → RealmPass → RealmPass → G → G → L → L → Ended → Type 0
  SessionWith closing manifests p q gates₀ gates₁ old new end =
      SessionClosedBy closing manifests p q (gates_view log_of faults_of gates₀)
      (gates_view log_of faults_of gates₁) (view old) (view new) end
