-- What refuses a child, part by part.
use Rattle.std.proofs.Common.{◌≡◌, ℕ, List, Bool, true, false, cond, Option, Some, None, refl, sym, ◌∙◌, ap, subst}
use Rattle.cm_names.specs.declared.child.ChildName.{ChildName}
use Rattle.cm_decl.specs.declared.decl.Decl.{Decl}
use Rattle.cm_decl.specs.declared.rows.Collection.{Collection}
use Rattle.cm_decl.specs.declared.rows.Give.{Give}
use Rattle.cm_decl.specs.declared.node.DynChild.{DynChild}
use Rattle.cm_world.specs.declared.row.Row.{Row}
use Rattle.cm_world.specs.declared.reply.Reply.{Reply}
use Rattle.cm_world.specs.declared.reply.Reply.TheVariants.{Gone, Closing, Need, NoCollection, Exists}
use Rattle.cm_world.specs.Rows.{child_of, decl_of, is_gone, is_closed}
use Rattle.cm_world.specs.Create.{dynamic_name, dynamic_with, collection_of, refused_gives, refused_name, refused_by, refused_create, Creates, CreatesUnless, CreatesUnder}
use Rattle.cm_world.proofs.lemmas.trees.Finding.{none_some}
use Rattle.cm_dynamic.specs.Replies.{create_reply, AnswersCreate, AnswersGraph, RefusesChange}
use Rattle.cm_dynamic.specs.declared.create.MayCreate.{MayCreate}

-- no child of that name is there
pub unnamed : (rows : List Row) (p : ℕ) (d : Decl) (coll : Collection) (c : ChildName) (gives : List Give) → child_of rows p c ≡ None → refused_gives rows p d coll gives ≡ refused_name rows p d coll c gives
unnamed rows p d coll c gives e =
    sym (ap (λ o. elim o as (λ _. Option Reply) [ Some i ↦ Some (Exists i) | None ↦ refused_gives rows p d coll gives ]) e)

-- Where the collection is declared, what refuses by its name is what refuses by the collection.
pub collected : (rows : List Row) (p : ℕ) (d : Decl) (k : Collection) (coll name : List ℕ) (gives : List Give) → collection_of d coll ≡ Some k → refused_name rows p d k (dynamic_name coll name) gives ≡ refused_by rows p d coll name gives
collected rows p d k coll name gives e =
    sym (ap (λ o. elim o as (λ _. Option Reply) [ None ↦ Some NoCollection | Some x ↦ refused_name rows p d x (dynamic_name coll name) gives ]) e)

-- What refuses a create, by the declaration of the parent, if it has one.
create_by : List Row → ℕ → List ℕ → List ℕ → List Give → Option Decl → Option Reply
create_by rows p coll name gives None = Some (Need p)
create_by rows p coll name gives (Some d) = refused_by rows p d coll name gives

-- Where the parent is neither gone nor closed, a create is refused by its declaration.
open_create : (rows : List Row) (p : ℕ) (coll name : List ℕ) (gives : List Give) → is_gone rows p ≡ false → is_closed rows p ≡ false → refused_create rows p coll name gives ≡ create_by rows p coll name gives (decl_of rows p)
unfolding create_by
open_create rows p coll name gives here kept =
    ap (λ b. cond b (Some (Gone p)) (cond (is_closed rows p) (Some (Closing p)) (create_by rows p coll name gives (decl_of rows p)))) here
    ∙ ap (λ b. cond b (Some (Closing p)) (create_by rows p coll name gives (decl_of rows p))) kept

-- the parent is there, isn't being shut down, and is resolved
pub resolved : (rows : List Row) (p : ℕ) (d : Decl) (coll name : List ℕ) (gives : List Give) → is_gone rows p ≡ false → is_closed rows p ≡ false → decl_of rows p ≡ Some d → refused_by rows p d coll name gives ≡ refused_create rows p coll name gives
unfolding create_by
resolved rows p d coll name gives here kept e =
    sym (open_create rows p coll name gives here kept ∙ ap (create_by rows p coll name gives) e)

-- ---- an answer

-- An answer that is what refuses a create is the answer to the create.
pub is_refused : (rows : List Row) (free p : ℕ) (coll name : List ℕ) (gives : List Give) (answer : MayCreate) → RefusesChange (Some answer) (refused_create rows p coll name gives) → AnswersCreate rows free p coll name gives answer
is_refused rows free p coll name gives answer refuses = λ limit next tells.
    subst (λ o. CreatesUnless limit rows next p (dynamic_name coll name) gives o (create_reply next answer)) (refuses next) refl

-- A parent without a declaration refuses a child.
needs_by : (b c : Bool) (p : ℕ) → None ≡ cond b (Some (Gone p)) (cond c (Some (Closing p)) (Some (Need p))) → ⊥
needs_by true c p e = none_some (Gone p) e
needs_by false true p e = none_some (Closing p) e
needs_by false false p e = none_some (Need p) e

-- a parent that isn't refused is resolved
pub is_resolved : (rows : List Row) (p : ℕ) (coll name : List ℕ) (gives : List Give) → RefusesChange None (refused_create rows p coll name gives) → decl_of rows p ≡ None → ⊥
unfolding create_by
is_resolved rows p coll name gives refuses none =
    needs_by (is_gone rows p) (is_closed rows p) p
    (refuses 0 ∙ ap (λ o. cond (is_gone rows p) (Some (Gone p)) (cond (is_closed rows p) (Some (Closing p)) (create_by rows p coll name gives o))) none)

-- Where nothing refuses a create, its answer is that of the realm graph and of the room.
pub is_by_graph : (rows : List Row) (free p : ℕ) (coll name : List ℕ) (gives : List Give) (d : Decl) (c : ChildName) (made children : List DynChild) (answer : MayCreate) → RefusesChange None (refused_create rows p coll name gives) → decl_of rows p ≡ Some d → c ≡ dynamic_name coll name → made ≡ dynamic_with rows p c gives → children ≡ made → AnswersGraph d children free answer → AnswersCreate rows free p coll name gives answer
is_by_graph rows free p coll name gives d c made children answer refuses found named are same by_graph = λ limit next tells.
    subst (λ o. CreatesUnless limit rows next p (dynamic_name coll name) gives o (create_reply next answer)) (refuses next)
    (subst (λ o. CreatesUnder limit rows next o (dynamic_with rows p (dynamic_name coll name) gives) (create_reply next answer)) (sym found)
    (subst (λ xs. Creates limit rows next d xs (create_reply next answer)) (same ∙ are ∙ ap (λ n. dynamic_with rows p n gives) named) (by_graph limit next rows tells)))
