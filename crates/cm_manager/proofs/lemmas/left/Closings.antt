-- What a manager's history is when it is closed.
use Rattle.std.proofs.Common.{◌≡◌, List, All, Some, subst, sym, ap, ◌∙◌}
use Rattle.cm_turn.specs.Passes.{BearsPassOut, HasCaller}
use Rattle.cm_world.specs.declared.frame.Frame.{Frame}
use Rattle.cm_world.specs.declared.reply.Entry.{Entry}
use Rattle.cm_world.specs.World.{start}
use Rattle.cm_world.specs.Legal.{Legal, owed_by}
use Rattle.cm_book.specs.History.{History}
use Rattle.cm_laws.specs.Story.{Story, IsLegal, world_of}
use Rattle.cm_laws.proofs.lemmas.AllLaws.{histories_keep_laws}
use Rattle.cm_manager.specs.Turns.{world_after}
use Rattle.cm_manager.specs.Contract.{RealmPass}
use Rattle.cm_manager.specs.Managers.{BearsPassesOut, IsBookOf}
use Rattle.cm_manager.specs.Asking.{frame_in, frame_of}

-- A legal story that bears each pass out, and has no other callers, bears all passes out.
pub closes_by : (history : List Entry) (passes : List RealmPass) (s : Story) → history ≡ s.entries → IsLegal s → All (BearsPassOut (λ (s : Story). s.entries) (λ s. s.frame) (λ (e : Entry). e.caller) s) passes → All (λ (e : Entry). HasCaller passes e.caller) s.entries → BearsPassesOut history passes
unfolding IsLegal
closes_by history passes s is legal known callers = record {
  story = s;
  entries = is;
  legal = subst (Legal (start s.frame)) (sym is) legal;
  known = known;
  callers = subst (All (λ (e : Entry). HasCaller passes e.caller)) (sym is) callers;
  laws = histories_keep_laws s.frame history (subst (Legal (start s.frame)) (sym is) legal);
}

-- what bears passes out has their frame
pub known_frames : (passes : List RealmPass) (s : Story) → All (BearsPassOut (λ (s : Story). s.entries) (λ s. s.frame) (λ (e : Entry). e.caller) s) passes → All (λ (p : RealmPass). p.frame ≡ Some s.frame) passes
known_frames passes s known = λ k d lt. (known k d lt).0

-- The book of a realm is that of the frame of each pass of it.
pub book_of : (s : Story) (book : History) (passes : List RealmPass) → book.entries ≡ s.entries → book.limit ≡ s.frame.limits.entries → book.reserved ≡ owed_by (world_of s) → All (λ (p : RealmPass). p.frame ≡ Some s.frame) passes → All (λ (p : RealmPass). IsBookOf (frame_of p) book) passes
unfolding world_of
book_of s book passes entries limit reserved frames = λ k d lt.
    subst (λ (f : Frame). IsBookOf f book) (sym (ap frame_in (frames k d lt))) (record {
      limit = limit;
      reserved = reserved ∙ ap (λ (l : List Entry). owed_by (world_after s.frame l)) (sym entries);
    })
