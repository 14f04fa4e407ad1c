-- A caller's own lines, one after another.
use Rattle.std.proofs.Common.{◌≡◌, ℕ, ◌==◌, List, [], ◌∷◌, ◌++◌, map, cond, Bool, true, false, refl, sym, ap, ◌∙◌, subst, append_assoc, append-nil, Result}
use Rattle.std.proofs.lemmas.List.{map-append}
use Rattle.std.proofs.lemmas.List.Elements.{filter-append}
use Rattle.cm_world.specs.declared.answer.Answer.{Answer}
use Rattle.cm_world.specs.declared.answer.Refusal.{Refusal}
use Rattle.cm_world.specs.declared.frame.Frame.{Frame}
use Rattle.cm_world.specs.declared.reply.Entry.{Entry}
use Rattle.cm_command.specs.declared.script.Line.{Line}
use Rattle.cm_manager.specs.Asking.{frame_of, frame_in}
use Rattle.cm_manager.specs.Caller.{CallerView, IsSameCaller, CallerPerforms}
use Rattle.cm_manager.specs.Managers.{ManagerView}
use Rattle.cm_manager.specs.Turns.{IsLaterHistory}
use Rattle.cm_manager.specs.Calls.{Calls}
use Rattle.cm_manager.specs.Work.{Manifests}
use Rattle.cm_manager.specs.Contract.{RealmPass, GatesView, IsWholeCall}
use Rattle.cm_lanes.specs.declared.said.Said.{Said}
use Rattle.cm_lanes.specs.Script.{AnsweredLine, answered_lines, PerformsLines, rests, performs}
use Rattle.cm_lanes.specs.ScriptInside.{said_of, lines_of}
use Rattle.cm_manager.specs.Kept.{IsOwnPass, KeepsPass}
use Rattle.cm_lanes.specs.Lane.{GrewUnless, HasPerformed, PutsUnless}
use Rattle.cm_manager.proofs.lemmas.calling.Joining.{later-trans}
use Rattle.cm_manager.proofs.lemmas.calling.Keeping.{keeps_nothing, keeps_trans, keeps_helps}
use Rattle.cm_turn.proofs.lemmas.Histories.{starts-refl}

-- between two lines: what is performed from here on is performed behind what was
pub record Performing (manifests : Manifests) (lines : List Line) (p q : RealmPass) (g h : GatesView) (said₀ said₁ : List Said) (lost : Bool) : Type 0 where
  pub keeps : KeepsPass manifests p q g h
  pub answers : List AnsweredLine
  pub own_lines : answered_lines answers ≡ lines_of p.caller lines
  pub goes_on : (rest : List AnsweredLine) (end : List Entry) → PerformsLines (frame_of p) p.caller rest q.seen end → PerformsLines (frame_of p) p.caller (answers ++ rest) p.seen end
  pub said : GrewUnless lost said₀ said₁ (map said_of answers)

-- Before its first line a caller has performed none, and its answers are as they were.
pub performing_none : (manifests : Manifests) (p : RealmPass) (g : GatesView) (said : List Said) → IsOwnPass p → Performing manifests [] p p g g said said false
performing_none manifests p g said own = record {
  keeps = keeps_nothing manifests p g own;
  answers = [];
  own_lines = refl;
  goes_on = λ rest end follows. follows;
  said = λ kept. sym (append-nil said);
}

-- the lines of a lane, with one line more
lines_more : (c : ℕ) (lines : List Line) (l : Line) (b : Bool) → (l.lane == c) ≡ b → lines_of c (lines ++ l ∷ []) ≡ lines_of c lines ++ cond b (l ∷ []) []
lines_more c lines l b is = filter-append (λ (l : Line). l.lane == c) lines (l ∷ []) ∙ ap (λ (t : Bool). lines_of c lines ++ cond t (l ∷ []) []) is

-- A list that grew by answers and has one put to it grew by all, unless some were lost.
said_then : (before now : Bool) (a b d more : List Said) (s : Said) → GrewUnless before a b more → PutsUnless before now b d s → GrewUnless now a d (more ++ s ∷ [])
said_then before now a b d more s old puts kept =
    let e = puts kept in
    e.1 ∙ ap (λ (l : List Said). l ++ s ∷ []) (old e.0) ∙ append_assoc a more (s ∷ [])

-- A caller that performed lines and calls the next one's command has performed one line more.
performing_more : (manifests : Manifests) (lines : List Line) (l : Line) (p q r : RealmPass) (g h k : GatesView) (said₀ said₁ said₂ : List Said) (before now : Bool) (a : Result Answer Refusal) → Performing manifests lines p q g h said₀ said₁ before → (l.lane == p.caller) ≡ true → IsWholeCall manifests (frame_of q) l.command q r h k a → PutsUnless before now said₁ said₂ (said_of (record { line = l; result = a })) → Performing manifests (lines ++ l ∷ []) p r g k said₀ said₂ now
performing_more manifests lines l p q r g h k said₀ said₁ said₂ before now a is own way puts =
    let x : AnsweredLine = record { line = l; result = a } in
    let calls : Calls (frame_of p) p.caller l.command q.seen r.seen a =
    subst (λ (f : Frame). Calls f p.caller l.command q.seen r.seen a) (ap frame_in is.keeps.frame)
    (subst (λ (c : ℕ). Calls (frame_of q) c l.command q.seen r.seen a) is.keeps.caller way.way) in
    record {
      keeps = keeps_trans manifests p q r g h k is.keeps (keeps_helps manifests (frame_of q) (λ a₀ a₁. Calls (frame_of q) q.caller l.command a₀ a₁ a) q r h k way);
      answers = is.answers ++ x ∷ [];
      own_lines = map-append (λ (y : AnsweredLine). y.line) is.answers (x ∷ []) ∙ ap (λ (ls : List Line). ls ++ l ∷ []) is.own_lines ∙ sym (lines_more p.caller lines l true own);
      goes_on = λ rest end follows. subst (λ (ys : List AnsweredLine). PerformsLines (frame_of p) p.caller ys p.seen end) (sym (append_assoc is.answers (x ∷ []) rest)) (is.goes_on (x ∷ rest) end (PerformsLines.performs calls follows));
      said = subst (λ (m : List Said). GrewUnless now said₀ said₂ m) (sym (map-append said_of is.answers (x ∷ []))) (said_then before now said₀ said₁ said₂ (map said_of is.answers) (said_of x) is.said puts);
    }

-- With one line of its own more performed, a caller has performed these, and is still the one that began.
pub performing_next : (lines : List Line) (l : Line) (s t u : CallerView) (said₀ said₁ said₂ : List Said) (before now : Bool) (a : Result Answer Refusal) → IsSameCaller s t → Performing s.manager.manifests lines s.pass t.pass s.gates t.gates said₀ said₁ before → (l.lane == s.pass.caller) ≡ true → CallerPerforms l.command t u a → PutsUnless before now said₁ said₂ (said_of (record { line = l; result = a })) → Performing s.manager.manifests (lines ++ l ∷ []) s.pass u.pass s.gates u.gates said₀ said₂ now
performing_next lines l s t u said₀ said₁ said₂ before now a same is own way puts =
    performing_more s.manager.manifests lines l s.pass t.pass u.pass s.gates t.gates u.gates said₀ said₁ said₂ before now a is own
    (subst (λ (m : ManagerView). IsWholeCall m.manifests (frame_of t.pass) l.command t.pass u.pass t.gates u.gates a) same.manager way.helps) puts

-- A caller that is through with its lines has performed them in order, from history to history.
pub performing_all : (manifests : Manifests) (lines : List Line) (p q : RealmPass) (g h : GatesView) (said₀ said₁ : List Said) (lost : Bool) → (is : Performing manifests lines p q g h said₀ said₁ lost) → PerformsLines (frame_of p) p.caller is.answers p.seen q.seen
performing_all manifests lines p q g h said₀ said₁ lost is =
    subst (λ (ys : List AnsweredLine). PerformsLines (frame_of p) p.caller ys p.seen q.seen) (append-nil is.answers)
    (is.goes_on [] q.seen (PerformsLines.rests (record { grows = starts-refl q.seen; own = refl })))

-- who has performed lines has performed them at a later place of the history too
pub follows_later : (f : Frame) (c : ℕ) (xs : List AnsweredLine) (a b d : List Entry) → PerformsLines f c xs a b → IsLaterHistory c b d → PerformsLines f c xs a d
follows_later f c xs a b d (rests l) k = PerformsLines.rests (later-trans c a b d l k)
follows_later f c xs a b d (performs calls rest) k = PerformsLines.performs calls (follows_later f c _ _ b d rest k)

-- who performed them by a caller, which was made of this pass and these gates, has performed them with these
pub performed_with : (m n : ManagerView) (lines : List Line) (p q r t : RealmPass) (g h i k : GatesView) (said₀ said₁ : List Said) (lost : Bool) → m ≡ n → r ≡ p → i ≡ g → q ≡ t → h ≡ k → HasPerformed m.manifests lines r t i k said₀ said₁ lost → HasPerformed n.manifests lines p q g h said₀ said₁ lost
performed_with m n lines p q r t g h i k said₀ said₁ lost manager pass gates parted back it =
    subst (λ (x : GatesView). HasPerformed n.manifests lines p q g x said₀ said₁ lost) (sym back)
    (subst (λ (x : RealmPass). HasPerformed n.manifests lines p x g k said₀ said₁ lost) (sym parted)
    (subst (λ (x : GatesView). HasPerformed n.manifests lines p t x k said₀ said₁ lost) gates
    (subst (λ (x : RealmPass). HasPerformed n.manifests lines x t i k said₀ said₁ lost) pass
    (subst (λ (x : ManagerView). HasPerformed x.manifests lines r t i k said₀ said₁ lost) manager it))))
