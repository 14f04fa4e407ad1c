-- What came of one link, by its own counts.
use Rattle.std.proofs.Common.{◌≡◌, ◌≢◌, inl, inr, ℕ, ◌+◌, ◌-◌, ◌^◌, ◌<◌, ◌≤◌, min, ◌⊎◌, List, [], ◌∷◌, All, Contains, Option, length, refl, sym, ◌∙◌, subst, append-nil, arith}
use Rattle.std.specs.Io.KnownBytes.{IsAtEnd}
use Rattle.cm_io.specs.Lines.{lines}
use Rattle.cm_io.specs.Outside.{AsSink, Rose}
use Rattle.cm_reply.specs.Lists.{TextBytes}
use Rattle.cm_manager.specs.Asking.{frame_of}
use Rattle.cm_manager.specs.Contract.{GatesView, RealmPass}
use Rattle.cm_manager.specs.Done.{PerformsCommands}
use Rattle.cm_manager.specs.Work.{Manifests}
use Rattle.cm_session.specs.declared.ended.Ended.{Ended}
use Rattle.cm_session.specs.declared.ended.Ended.TheVariants as ended
use Rattle.cm_session.specs.Links.{BeginsWithBytes, LinkView, whole_lines}
use Rattle.cm_session.specs.Serving.{IsNewLink, IsOfLink}
use Rattle.cm_session.specs.Session.{Served, Session, Wrote, WroteUnlessFailed, most_lines, quit}
use Rattle.cm_session.specs.LineOutcome.{LineOutcome, done_of}
use Rattle.cm_program.specs.Sessions.{ServedAllLines, IsSessionOf, SessionRecord, whole_session_lines}
use Rattle.cm_program.proofs.lemmas.links.SessionLines.{all_lines, first_lines, lines_spent, lines_to_quit, quit_given, whole_read, whole_served}

-- a count that rose isn't 0
one_positive : (a end : ℕ) → 0 < end → 0 < min (a + 1) end
one_positive a end some = grind (arith, some)

-- A count that rose isn't zero.
not_risen : (a b : ℕ) → Rose a b → b ≡ 0 → ⊥
not_risen a b rose none = (let low = one_positive a (2 ^ 64 - 1) (omega arith) in omega (arith, low, rose, none))

-- A source at its end, or one of which something else holds, is so with a third case.
quit_or_end : (left : Option TextBytes) (A B : Type 0) → IsAtEnd left ⊎ A → IsAtEnd left ⊎ (A ⊎ B)
quit_or_end left A B (inl end) = inl end
quit_or_end left A B (inr a) = inr (inl a)

-- ---- by the end of the session

module _ (bytes : TextBytes) (done : List TextBytes) (left : Option TextBytes) where
  -- The lines that were served are the first ones of the link's, however the session ended.
  begins_of : (end : Ended) → Served end bytes done left → BeginsWithBytes (lines bytes) done
  begins_of ended.End s = ([], s.0 ∙ sym (append-nil done))
  begins_of ended.Quit s = (quit ∷ s.0, s.1)
  begins_of ended.LinesSpent s = s.0
  begins_of ended.ReadFault s = s.0
  begins_of ended.WriteFault s = s
  begins_of ended.Memory s = s

  module _ (none : All (λ (t : TextBytes). t ≢ quit) done) (few : length done ≤ most_lines) (old new : AsSink) (told : List LineOutcome) (before after : ℕ) where
    -- A session that kept its source and its sink well, and had memory, served all lines.
    all_of : (end : Ended) → Served end bytes done left → Wrote end old new told → (end ≡ ended.ReadFault → Rose before after) → end ≢ ended.Memory → after ≡ 0 → new.faults ≡ 0 → ServedAllLines left (record { bytes = bytes; lines_done = done; told = told })
    all_of ended.End s w rose other read write = record { served = all_lines bytes done none s.0 s.1; nothing_left = inl s.2 }
    all_of ended.Quit s w rose other read write = record { served = lines_to_quit bytes done none s.0 s.1 s.2; nothing_left = quit_or_end left (Contains (whole_lines bytes) quit) (length done ≡ most_lines) (quit_given bytes done left s.3) }
    all_of ended.LinesSpent s w rose other read write = record { served = lines_spent bytes done none s.0 s.1; nothing_left = inr (inr s.1) }
    all_of ended.ReadFault s w rose other read write = absurd (not_risen before after (rose refl) read)
    all_of ended.WriteFault s w rose other read write = absurd (not_risen old.faults new.faults w.1 write)
    all_of ended.Memory s w rose other read write = absurd (other refl)

    -- A session that kept its sink well, and had memory, served at least all whole lines.
    whole_of : (end : Ended) → Served end bytes done left → Wrote end old new told → end ≢ ended.Memory → new.faults ≡ 0 → BeginsWithBytes done (whole_session_lines bytes)
    whole_of ended.End s w other write = whole_served bytes done none (all_lines bytes done none s.0 s.1)
    whole_of ended.Quit s w other write = whole_served bytes done none (lines_to_quit bytes done none s.0 s.1 s.2)
    whole_of ended.LinesSpent s w other write = whole_served bytes done none (lines_spent bytes done none s.0 s.1)
    whole_of ended.ReadFault s w other write = whole_read bytes done none s.1 few
    whole_of ended.WriteFault s w other write = absurd (not_risen old.faults new.faults w.1 write)
    whole_of ended.Memory s w other write = absurd (other refl)

-- A session wrote all replies unless its sink failed in the last one, however it ended.
wrote_of : (end : Ended) (old new : AsSink) (told : List LineOutcome) → Wrote end old new told → WroteUnlessFailed old new told
wrote_of ended.End old new told w = inl w
wrote_of ended.Quit old new told w = inl w
wrote_of ended.LinesSpent old new told w = inl w
wrote_of ended.ReadFault old new told w = inl w
wrote_of ended.WriteFault old new told w = inr w
wrote_of ended.Memory old new told w = w

-- ---- one link

module _ {L : Type 0} (view : L → LinkView) (status : ℕ) where
  -- what came of a link, and what its worker performed
  pub record Judged (now : LinkView) (p q : RealmPass) : Type 0 where
    pub sat : SessionRecord
    pub is : IsSessionOf view status now sat
    pub follows : PerformsCommands (frame_of p) p.caller (done_of sat.told) p.seen q.seen

  -- What a session on a new link came to is what came of the link, with what its worker performed.
  judged_link : (manifests : Manifests) (p q : RealmPass) (g h : GatesView) (came : L) (now : LinkView) (end : Ended) → IsNewLink (view came) → Session manifests p q g h (view came) now end → (status ≢ 6 → end ≢ ended.Memory) → Judged now p q
  judged_link manifests p q g h came now end new s well = record {
    sat = record { bytes = s.bytes; lines_done = s.lines_done; told = s.told };
    is = record {
      came = came;
      new = new;
      gave = s.gave;
      reads = s.reads;
      first = first_lines s.bytes s.lines_done s.no_quit (begins_of s.bytes s.lines_done now.source.left end s.served) s.few;
      ended = s.ended_lines;
      all = λ other read write. all_of s.bytes s.lines_done now.source.left s.no_quit s.few (view came).sink now.sink s.told (view came).source.faults now.source.faults end s.served s.wrote s.read_fault (well other) read write;
      whole = λ other write. whole_of s.bytes s.lines_done now.source.left s.no_quit s.few (view came).sink now.sink s.told (view came).source.faults now.source.faults end s.served s.wrote (well other) write;
      wrote = wrote_of end (view came).sink now.sink s.told s.wrote;
      had_memory = λ other. s.had_memory (well other);
      out_of_memory_last = s.out_of_memory_last;
      moves = s.moves;
      in_step = s.in_step;
      reads_are = s.reads_are;
      order = s.came;
    };
    follows = s.follows;
  }

  -- by what the link was seen as when it came
  pub judged : (manifests : Manifests) (p q : RealmPass) (g h : GatesView) (was now : LinkView) (end : Ended) → IsOfLink view was → IsNewLink was → Session manifests p q g h was now end → (status ≢ 6 → end ≢ ended.Memory) → Judged now p q
  judged manifests p q g h was now end came new s well =
      judged_link manifests p q g h came.0 now end (subst IsNewLink (sym came.1) new) (subst (λ (w : LinkView). Session manifests p q g h w now end) (sym came.1) s) well
