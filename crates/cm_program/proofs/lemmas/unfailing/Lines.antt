-- What a script's lines, and the commands of links, are answered where no outcome that was told had failed.
use Rattle.std.proofs.Common.{inl, inr, ℕ, ◌<◌, List, [], ◌∷◌, Bool, true, false, cond, nat_eq, ◌==◌, Result, All, map, refl, sym, subst, arith}
use Rattle.std.specs.List.{AllZip}
use Rattle.std.proofs.lemmas.List.Elements.{All-cons, All-nil, All-head, All-tail}
use Rattle.cm_facts.proofs.Numbers.{eq_self}
use Rattle.cm_turn.specs.History.{StartsWith}
use Rattle.cm_world.specs.declared.answer.Answer.{Answer}
use Rattle.cm_world.specs.declared.answer.Refusal.{Refusal}
use Rattle.cm_world.specs.declared.frame.Frame.{Frame}
use Rattle.cm_world.specs.declared.reply.Entry.{Entry}
use Rattle.cm_command.specs.declared.command.Command.{Command}
use Rattle.cm_command.specs.declared.script.Line.{Line}
use Rattle.cm_manager.specs.Calls.{RunsOrLoses}
use Rattle.cm_manager.specs.Done.{Done}
use Rattle.cm_manager.specs.Done as done
use Rattle.cm_session.specs.declared.served.Back.{Back}
use Rattle.cm_session.specs.Links.{LinkView}
use Rattle.cm_session.specs.LineOutcome.{done_of}
use Rattle.cm_lanes.specs.Script.{AnsweredLine, answered_lines, answers_of, PerformsLines, rests, performs, ArePhases, none_left, one_first}
use Rattle.cm_lanes.specs.ScriptInside.{IsFit}
use Rattle.cm_program.specs.Sessions.{FollowsEach, SessionRecord, sats_by}
use Rattle.cm_program.specs.Unfailing.{IsUnfailing, AreUnfailing}
use Rattle.cm_program.proofs.lemmas.unfailing.Ends.{OfEnds}
use Rattle.cm_program.proofs.lemmas.unfailing.Results.{calls, within}
use Rattle.cm_turn.proofs.lemmas.Histories.{starts-trans}
use Rattle.cm_lanes.proofs.lemmas.lines.Parting.{calls_grow, answers_own, answers_behind, phases_grow, follows_grows}

-- The result of the answered line names no failed gate.
abbrev OfAnswer : AnsweredLine → Type 0
OfAnswer a = IsUnfailing a.result

-- The result of the command that was done names no failed gate.
abbrev OfDone : Done → Type 0
OfDone d = IsUnfailing d.result

-- A session none of whose answers names a failed gate or a stop by force.
abbrev pub OfSat : SessionRecord → Type 0
OfSat s = All OfDone (done_of s.told)

module _ (f : Frame) (c : ℕ) where
  -- ---- one lane

  -- The results of a caller's own lines name no failed gate, where the history tells no failed outcome.
  follows : {xs : List AnsweredLine} {a b : List Entry} → PerformsLines f c xs a b → All OfEnds b → All OfAnswer xs
  follows (rests l) h = All-nil OfAnswer
  follows (performs {a = x} {others = xs} {h₁ = m} {h₂ = b} call rest) h =
      All-cons OfAnswer x xs (calls f c x.line.command _ m x.result call (within m b (follows_grows f c _ _ _ rest) h)) (follows rest h)

  -- ---- one worker

  -- The history behind a command that ran, or whose answer was lost, begins with the one before.
  goes_grow : (cmd : Command) (a b : List Entry) (r : Result Answer Refusal) → RunsOrLoses f c cmd a b r → StartsWith b a
  goes_grow cmd a b r (inl call) = calls_grow f c cmd a b r call
  goes_grow cmd a b r (inr lost) = calls_grow f c cmd a b lost.1.0 lost.1.1

  -- The result of a command that ran, or whose answer was lost, names no failed gate.
  goes : (cmd : Command) (a b : List Entry) (r : Result Answer Refusal) → RunsOrLoses f c cmd a b r → All OfEnds b → IsUnfailing r
  goes cmd a b r (inl call) h = calls f c cmd a b r call h
  goes cmd a b r (inr lost) h = subst IsUnfailing (sym lost.0) tt

  -- The history behind the commands that a caller performed begins with the one before.
  done_grow : {ds : List Done} {a b : List Entry} → done.PerformsCommands f c ds a b → StartsWith b a
  done_grow (done.PerformsCommands.rests l) = l.grows
  done_grow (done.PerformsCommands.performs {d = d} call rest) = starts-trans _ _ _ (done_grow rest) (goes_grow d.command _ _ d.result call)

  -- The results of the commands that a caller performed name no failed gate.
  done_well : {ds : List Done} {a b : List Entry} → done.PerformsCommands f c ds a b → All OfEnds b → All OfDone ds
  done_well (done.PerformsCommands.rests l) h = All-nil OfDone
  done_well (done.PerformsCommands.performs {d = d} {others = ds} {h₁ = m} {h₂ = b} call rest) h =
      All-cons OfDone d ds (goes d.command _ m d.result call (within m b (done_grow rest) h)) (done_well rest h)

  -- The history behind the commands of one session after another begins with the one before.
  each_grow : {sats : List SessionRecord} {a b : List Entry} → FollowsEach f c sats a b → StartsWith b a
  each_grow (FollowsEach.none_left l) = l.grows
  each_grow (FollowsEach.one_first one rest) = starts-trans _ _ _ (each_grow rest) (done_grow one)

  -- Where no end or await tells a failed outcome, no answer of a caller's sessions names one.
  pub each_well : {sats : List SessionRecord} {a b : List Entry} → FollowsEach f c sats a b → All OfEnds b → All OfSat sats
  each_well (FollowsEach.none_left l) h = All-nil OfSat
  each_well (FollowsEach.one_first {s = s} {others = ss} {h₁ = m} {h₂ = b} one rest) h =
      All-cons OfSat s ss (done_well one (within m b (each_grow rest) h)) (each_well rest h)

-- ---- all lanes

module _ (P : AnsweredLine → Type 0) where
  -- What holds of each lane's answers holds of all, where the lines fit.
  by_lanes : (xs : List AnsweredLine) → All IsFit (answered_lines xs) → ((c : ℕ) → c < 16 → All P (answers_of c xs)) → All P xs
  by_lanes [] few each = All-nil P
  by_lanes (a ∷ xs) few each =
      let fit = All-head IsFit a.line (answered_lines xs) few in
      All-cons P a xs (All-head P a (answers_of a.line.lane xs) (subst (All P) (answers_own a xs) (each a.line.lane fit.lane)))
      (by_lanes xs (All-tail IsFit a.line (answered_lines xs) few) (λ c lt. answers_behind P (a.line.lane == c) c a xs refl (each c lt)))

-- Lines of a script that are each for one of the sixteen lanes.
abbrev pub AreFit : List Line → Type 0
AreFit lines = All IsFit lines

-- what the lanes answer to lines that fit
pub phases_well : (f : Frame) {answered : List (List AnsweredLine)} {a b : List Entry} → All AreFit (map answered_lines answered) → ArePhases (λ c. f) answered a b → All OfEnds b → AreUnfailing answered
phases_well f fit none_left h = All-nil (All OfAnswer)
phases_well f fit (one_first {answered = xs} {others = others} {h₁ = m} {h₂ = b} phase rest) h =
    All-cons (All OfAnswer) xs others
    (by_lanes OfAnswer xs (All-head AreFit (answered_lines xs) (map answered_lines others) fit)
    (λ c small. follows f c (phase.lanes c small) (within m b (phases_grow f rest) h)))
    (phases_well f (All-tail AreFit (answered_lines xs) (map answered_lines others) fit) rest h)

-- ---- all workers

module _ (P : SessionRecord → Type 0) (R : Back LinkView → SessionRecord → Type 0) where
  -- What holds of records, the first of which a test may drop, holds of those behind it.
  skip : (b : Bool) (s : SessionRecord) (ss : List SessionRecord) → All P (cond b (s ∷ ss) ss) → All P ss
  skip true s ss h = All-tail P s ss h
  skip false s ss h = h

  -- What holds of the sessions of each worker's links holds of all sessions.
  pub by_workers : (n : ℕ) (links : List (Back LinkView)) (sats : List SessionRecord) → AllZip R links sats → All (λ (b : Back LinkView). b.worker < n) links → ((k : ℕ) → k < n → All P (sats_by k links sats)) → All P sats
  by_workers n [] [] zip few each = All-nil P
  by_workers n [] (s ∷ ss) zip few each = absurd zip
  by_workers n (b ∷ bs) [] zip few each = absurd zip
  by_workers n (b ∷ bs) (s ∷ ss) zip few each =
      let small = All-head (λ (b : Back LinkView). b.worker < n) b bs few in
      All-cons P s ss
      (All-head P s (sats_by b.worker bs ss) (subst (λ (t : Bool). All P (cond t (s ∷ sats_by b.worker bs ss) (sats_by b.worker bs ss))) (eq_self b.worker) (each b.worker small)))
      (by_workers n bs ss zip.1 (All-tail (λ (b : Back LinkView). b.worker < n) b bs few)
      (λ k lt. skip (nat_eq b.worker k) s (sats_by k bs ss) (each k lt)))
