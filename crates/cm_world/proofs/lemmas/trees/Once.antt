-- Every event but a pick gets at most one reply.
use Rattle.std.proofs.Common.{◌≡◌, ℕ, List, true≢false, Option, Some, None, refl, sym, ◌∙◌, ap}
use Rattle.cm_names.specs.declared.child.ChildName.{ChildName}
use Rattle.cm_decl.specs.declared.decl.Decl.{Decl}
use Rattle.cm_decl.specs.declared.node.DynChild.{DynChild}
use Rattle.cm_decl.specs.declared.rows.Give.{Give}
use Rattle.cm_decl.specs.Graph.{is_strong_edge}
use Rattle.cm_decl.proofs.lemmas.cycles.Picking.{picks_once, picked_is_cycle}
use Rattle.cm_world.specs.declared.row.Row.{Row}
use Rattle.cm_world.specs.declared.frame.Builtin.{Builtin}
use Rattle.cm_world.specs.declared.route.Start.{Start}
use Rattle.cm_world.specs.declared.route.Start.TheVariants.{UseAt, ExposeAt}
use Rattle.cm_world.specs.declared.route.Walked.{Walked}
use Rattle.cm_world.specs.declared.event.Event.TheVariants.{Find, Begin, End, Await, Create, Mark, Pick, Purge, Route, OpenUse, OpenExposed, Listing, Show, Survey, Exited, Tail, Reap}
use Rattle.cm_world.specs.declared.reply.Reply.{Reply}
use Rattle.cm_world.specs.declared.reply.Reply.TheVariants.{Cycle, Full, Created}
use Rattle.cm_world.specs.Rows.{decl_of}
use Rattle.cm_world.specs.Create.{Creates, CreatesUnder, CreatesUnless, dynamic_with, dynamic_name, refused_create}
use Rattle.cm_world.specs.Openings.{WalksUnless, unready, unopened, routed, opened}
use Rattle.cm_world.specs.LawsInside.{RepliesOnce}
use Rattle.cm_world.proofs.lemmas.trees.Chains.{walked_once}
use Rattle.cm_world.proofs.lemmas.trees.Finding.{some_same}

-- The reply to a create that only the realm graph or the room may refuse is one.
creates_once : (limit : ℕ) (rows : List Row) (next : ℕ) (d : Decl) (dynamic : List DynChild) (r q : Reply) → Creates limit rows next d dynamic r → Creates limit rows next d dynamic q → r ≡ q
creates_once limit rows next d dynamic (Cycle xs) (Cycle ys) first second = ap Cycle (picks_once (is_strong_edge d dynamic) xs ys first second)
creates_once limit rows next d dynamic (Cycle xs) Full first second = absurd (second.0 (picked_is_cycle (is_strong_edge d dynamic) xs first))
creates_once limit rows next d dynamic (Cycle xs) (Created i) first second = absurd (second.0 (picked_is_cycle (is_strong_edge d dynamic) xs first))
creates_once limit rows next d dynamic Full (Cycle ys) first second = absurd (first.0 (picked_is_cycle (is_strong_edge d dynamic) ys second))
creates_once limit rows next d dynamic Full Full first second = refl
creates_once limit rows next d dynamic Full (Created i) first second = absurd (true≢false (sym second.1 ∙ first.1))
creates_once limit rows next d dynamic (Created i) (Cycle ys) first second = absurd (first.0 (picked_is_cycle (is_strong_edge d dynamic) ys second))
creates_once limit rows next d dynamic (Created i) Full first second = absurd (true≢false (sym first.1 ∙ second.1))
creates_once limit rows next d dynamic (Created i) (Created j) first second = ap Created (first.2 ∙ sym second.2)
creates_once limit rows next d dynamic (Cycle xs) _ first second = absurd second
creates_once limit rows next d dynamic Full _ first second = absurd second
creates_once limit rows next d dynamic (Created i) _ first second = absurd second
creates_once limit rows next d dynamic _ q first second = absurd first

-- The reply to a create under a parent's declaration is one.
creates_under_once : (limit : ℕ) (rows : List Row) (next : ℕ) (d : Option Decl) (dynamic : List DynChild) (r q : Reply) → CreatesUnder limit rows next d dynamic r → CreatesUnder limit rows next d dynamic q → r ≡ q
creates_under_once limit rows next None dynamic r q first second = absurd first
creates_under_once limit rows next (Some d) dynamic r q first second = creates_once limit rows next d dynamic r q first second

-- The reply to a create that may be refused is one.
creates_unless_once : (limit : ℕ) (rows : List Row) (next p : ℕ) (c : ChildName) (gives : List Give) (refused : Option Reply) (r q : Reply) → CreatesUnless limit rows next p c gives refused r → CreatesUnless limit rows next p c gives refused q → r ≡ q
creates_unless_once limit rows next p c gives (Some refusal) r q first second = first ∙ sym second
creates_unless_once limit rows next p c gives None r q first second =
    creates_under_once limit rows next (decl_of rows p) (dynamic_with rows p c gives) r q first second

-- The reply to what walks, unless it is refused, is one.
walks_unless_once : (rows : List Row) (builtins : List Builtin) (begin : Start) (make : Walked → Reply) (refused : Option Reply) (r q : Reply) → WalksUnless rows builtins begin make refused r → WalksUnless rows builtins begin make refused q → r ≡ q
walks_unless_once rows builtins begin make (Some refusal) r q first second = first ∙ sym second
walks_unless_once rows builtins begin make None r q first second =
    first.2 ∙ ap make (walked_once rows builtins begin first.0 second.0 first.1 second.1) ∙ sym second.2

-- Every event but a pick gets at most one reply.
pub replies_once : RepliesOnce
replies_once w caller (Find m) r q other first second = first ∙ sym second
replies_once w caller (Begin kind i) r q other first second = some_same r q (sym first ∙ second)
replies_once w caller (End a finish) r q other first second = first ∙ sym second
replies_once w caller (Await a) r q other first second = some_same r q (sym first ∙ second)
replies_once w caller (Create p child) r q other first second =
    creates_unless_once w.frame.limits.rows w.rows w.next_inc p (dynamic_name child.coll child.name) child.gives (refused_create w.rows p child.coll child.name child.gives) r q first second
replies_once w caller (Mark doom i) r q other first second = first ∙ sym second
replies_once w caller (Pick t) r q other first second = absurd (other tt)
replies_once w caller (Purge i) r q other first second = first ∙ sym second
replies_once w caller (Route i path) r q other first second =
    walks_unless_once w.rows w.frame.builtins (UseAt i path) (routed w.rows) (unready w.rows i) r q first second
replies_once w caller (OpenUse i path) r q other first second =
    walks_unless_once w.rows w.frame.builtins (UseAt i path) (opened w.rows) (unopened w.rows i) r q first second
replies_once w caller (OpenExposed i name) r q other first second =
    walks_unless_once w.rows w.frame.builtins (ExposeAt i name) (opened w.rows) (unready w.rows i) r q first second
replies_once w caller (Listing i coll) r q other first second = first ∙ sym second
replies_once w caller (Show i) r q other first second = first ∙ sym second
replies_once w caller (Survey i) r q other first second = first ∙ sym second
replies_once w caller (Exited i) r q other first second = some_same r q (sym first ∙ second)
replies_once w caller (Tail i from) r q other first second = first ∙ sym second
replies_once w caller (Reap i) r q other first second = first ∙ sym second
