-- Inside.
-- Laws of verdicts on journals.
use Rattle.std.specs.Prelude.{◌≡◌, ℕ, ◌≤◌, ◌<◌, ◌^◌, ◌==◌, false, List, ◌++◌, flat_map, length, All}
use Rattle.cm_world.specs.declared.event.Event.{Event}
use Rattle.cm_world.specs.declared.frame.Frame.{Frame}
use Rattle.cm_world.specs.declared.reply.Entry.{Entry}
use Rattle.cm_world.specs.declared.reply.Reply.{Reply}
use Rattle.cm_world.specs.World.{start}
use Rattle.cm_world.specs.Step.{Allowed}
use Rattle.cm_world.specs.Legal.{Legal, replay}
use Rattle.cm_reply.specs.Lists.{TextBytes}
use Rattle.cm_reply.specs.Journal.{journal_text, line}
use Rattle.cm_reply.specs.Replies.{replied_text}
use Rattle.cm_reply.specs.Legible.{IsLegible}
use Rattle.cm_reply.specs.LegibleInside.{IsLegibleReply, IsLegibleFrame}
use Rattle.cm_audit.specs.declared.verdict.Audit.{Audit}
use Rattle.cm_audit.specs.Journal.{journal_line}
use Rattle.cm_audit.specs.Verdict.{IsVerdict, IsLegalJournal, journal_limit}

-- the same bytes have one verdict at most
abbrev pub OneVerdict : Type 0
OneVerdict = (bytes : TextBytes) (v u : Audit) → IsVerdict bytes v → IsVerdict bytes u → v ≡ u

-- a reply is known by its text: no two replies that an event may get after a legal history have the
-- same
abbrev pub TextsTellReplies : Type 0
TextsTellReplies =
    (f : Frame) (es : List Entry) (caller : ℕ) (e : Event) (r q : Reply)
    → Legal (start f) es
    → Allowed (replay (start f) es) caller e r
    → Allowed (replay (start f) es) caller e q
    → replied_text r ≡ replied_text q
    → r ≡ q

-- once the bytes pass the limit, what follows doesn't change the verdict
abbrev pub PrefixesTell : Type 0
PrefixesTell =
    (prefix rest : TextBytes) (v : Audit)
    → journal_limit < length prefix
    → IsVerdict prefix v
    → IsVerdict (prefix ++ rest) v

-- each incarnation of a legal history fits in 64 bits
abbrev pub IncarnationsFit : Type 0
IncarnationsFit =
    (f : Frame) (es : List Entry) → Legal (start f) es → (replay (start f) es).next_inc < 2 ^ 64

-- ---- the journal of a legal history

-- a history of which a journal can tell: its callers, events and numbers are within what the texts can
-- say
pub record IsLegibleHistory (es : List Entry) : Type 0 where
  pub callers : All (λ (e : Entry). e.caller < 2 ^ 32) es
  pub events : All (λ (e : Entry). IsLegible e.event) es
  pub few : length es < 2 ^ 64

-- a journal can tell of all replies of a legal history whose events it can tell of
abbrev pub RepliesAreLegible : Type 0
RepliesAreLegible =
    (f : Frame) (es : List Entry) → IsLegibleFrame f → Legal (start f) es → IsLegibleHistory es
    → All (λ (e : Entry). IsLegibleReply e.reply) es

-- what may stand before a journal: whole lines, none of which is the one that a journal begins with
pub record IsInPrefix (prefix : TextBytes) : Type 0 where
  pub lines : List TextBytes
  pub whole : prefix ≡ flat_map line lines
  pub clean : All (λ (t : TextBytes). All (λ b. (b == 10) ≡ false) t) lines
  pub others : All (λ (t : TextBytes). t ≡ journal_line → ⊥) lines

-- the journal that is written of a legal history gets the verdict legal, whatever lines stand before
-- it
abbrev pub JournalsAreLegal : Type 0
JournalsAreLegal =
    (prefix : TextBytes) (f : Frame) (es : List Entry) → IsInPrefix prefix → IsLegibleFrame f
    → Legal (start f) es
    → IsLegibleHistory es → length (prefix ++ journal_text f es) ≤ journal_limit
    → IsLegalJournal (prefix ++ journal_text f es) (length es)
