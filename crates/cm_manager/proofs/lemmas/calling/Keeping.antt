-- What is kept of a pass and of its gates, from call to call.
use Rattle.std.proofs.Common.{◌≡◌, ℕ, List, [], ◌++◌, refl, sym, ap, ◌∙◌, append_assoc, append-nil}
use Rattle.cm_turn.specs.History.{StartsWith}
use Rattle.cm_turn.specs.Passes.{seen_up_to}
use Rattle.cm_world.specs.declared.frame.Frame.{Frame}
use Rattle.cm_world.specs.declared.reply.Entry.{Entry}
use Rattle.cm_manager.specs.Turns.{IsLaterHistory}
use Rattle.cm_manager.specs.ClosedInside.{empty}
use Rattle.cm_manager.specs.Work.{Manifests}
use Rattle.cm_manager.specs.Contract.{RealmPass, GatesView, IsSubcall}
use Rattle.cm_manager.proofs.lemmas.calling.Joining.{later-trans}
use Rattle.cm_manager.proofs.lemmas.left.Closing.{closed-append}
use Rattle.cm_manager.proofs.lemmas.calling.Helping.{works_nothing, works_trans}
use Rattle.cm_manager.specs.Done.{Done, PerformsCommands, rests, performs}
use Rattle.cm_manager.specs.Kept.{IsOwnPass, KeepsPass}
use Rattle.cm_turn.proofs.lemmas.Histories.{starts-refl, starts-trans}

-- A pass that knows its caller's entries is kept, where nothing is done.
pub keeps_nothing : (manifests : Manifests) (p : RealmPass) (g : GatesView) → IsOwnPass p → KeepsPass manifests p p g g
keeps_nothing manifests p g own = record {
  lock = refl;
  frame = refl;
  caller = refl;
  seen = starts-refl p.seen;
  own = sym own;
  part = [];
  mine = sym (append-nil p.mine);
  closed = empty;
  work = works_nothing manifests g;
}

-- the parts of two in a row
mine_then : (a b d x y : List Entry) → b ≡ a ++ x → d ≡ b ++ y → d ≡ a ++ (x ++ y)
mine_then a b d x y ab bd = bd ∙ ap (λ (l : List Entry). l ++ y) ab ∙ append_assoc a x y

-- A pass and its gates that are kept over two steps are kept over both together.
pub keeps_trans : (manifests : Manifests) (p q r : RealmPass) (g h k : GatesView) → KeepsPass manifests p q g h → KeepsPass manifests q r h k → KeepsPass manifests p r g k
keeps_trans manifests p q r g h k a b = record {
  lock = b.lock ∙ a.lock;
  frame = b.frame ∙ a.frame;
  caller = b.caller ∙ a.caller;
  seen = starts-trans r.seen q.seen p.seen b.seen a.seen;
  own = b.own;
  part = a.part ++ b.part;
  mine = mine_then p.mine q.mine r.mine a.part b.part a.mine b.mine;
  closed = closed-append a.part b.part a.closed b.closed;
  work = works_trans manifests a.part b.part g h k a.work b.work;
}

-- a call of the manager keeps a pass
pub keeps_helps : (manifests : Manifests) (f : Frame) (CallWay : List Entry → List Entry → Type 0) (q r : RealmPass) (h k : GatesView) → IsSubcall manifests f CallWay q r h k → KeepsPass manifests q r h k
keeps_helps manifests f CallWay q r h k is = record {
  lock = is.same.lock;
  frame = is.same.frame;
  caller = is.same.caller;
  seen = is.same.seen;
  own = is.same.own;
  part = is.part;
  mine = is.mine;
  closed = is.closed;
  work = is.work;
}

-- A pass that learns what another saw, behind whole calls, still keeps whole calls.
pub keeps_met : (manifests : Manifests) (p q : RealmPass) (s : List Entry) (g h : GatesView) → KeepsPass manifests p q g h → StartsWith s q.seen → IsOwnPass (seen_up_to s q) → KeepsPass manifests p (seen_up_to s q) g h
keeps_met manifests p q s g h is grows own = record {
  lock = is.lock;
  frame = is.frame;
  caller = is.caller;
  seen = starts-trans s q.seen p.seen grows is.seen;
  own = sym own;
  part = is.part;
  mine = is.mine;
  closed = is.closed;
  work = is.work;
}

-- what a pass learns at a meeting has no entry of its own caller
pub met_later : (q : RealmPass) (s : List Entry) → StartsWith s q.seen → IsOwnPass q → IsOwnPass (seen_up_to s q) → IsLaterHistory q.caller q.seen s
met_later q s grows own met = record { grows = grows; own = met ∙ sym own }

-- A pass that only learns what another saw keeps whole calls, and its gates.
pub keeps_learns : (manifests : Manifests) (p : RealmPass) (s : List Entry) (g : GatesView) → StartsWith s p.seen → IsOwnPass (seen_up_to s p) → KeepsPass manifests p (seen_up_to s p) g g
keeps_learns manifests p s g grows own = record {
  lock = refl;
  frame = refl;
  caller = refl;
  seen = grows;
  own = sym own;
  part = [];
  mine = sym (append-nil p.mine);
  closed = empty;
  work = works_nothing manifests g;
}

-- who has performed commands has performed them at a later place of the history too
pub follows_later : (f : Frame) (c : ℕ) (xs : List Done) (a b d : List Entry) → PerformsCommands f c xs a b → IsLaterHistory c b d → PerformsCommands f c xs a d
follows_later f c xs a b d (rests l) k = PerformsCommands.rests (later-trans c a b d l k)
follows_later f c xs a b d (performs goes rest) k = PerformsCommands.performs goes (follows_later f c _ _ b d rest k)
