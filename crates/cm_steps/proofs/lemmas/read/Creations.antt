-- What a create comes to.
use Rattle.std.proofs.Common.{◌≡◌, ℕ, List, [], ◌∷◌, ◌++◌, ◌+◌, Bool, true, false, cond, not, ◌&&◌, Option, Some, None, is_some, flat_map, option_and_then, refl, sym, ◌∙◌, ap, subst, arith}
use Rattle.std.specs.List.{cons_option}
use Rattle.cm_names.specs.declared.child.ChildName.{ChildName}
use Rattle.cm_decl.specs.declared.decl.Decl.{Decl}
use Rattle.cm_decl.specs.declared.node.DynChild.{DynChild}
use Rattle.cm_decl.specs.declared.rows.Give.{Give}
use Rattle.cm_world.specs.declared.row.Row.{Row}
use Rattle.cm_world.specs.declared.reply.Reply.{Reply}
use Rattle.cm_world.specs.declared.reply.Reply.TheVariants.{Created}
use Rattle.cm_world.specs.Rows.{decl_of, has_parent}
use Rattle.cm_world.specs.Sound.{IsSound}
use Rattle.cm_decl.specs.Graph.{StrongOn}
use Rattle.cm_decl.specs.Reach.{NoCycle}
use Rattle.cm_trees.specs.Kids.{kids}
use Rattle.cm_trees.specs.Names as names
use Rattle.cm_trees.specs.Names.{dynamic_child}
use Rattle.cm_steps.proofs.lemmas.read.Edges.{names_acyclic}
use Rattle.cm_world.specs.World.{rows_fit}
use Rattle.cm_world.specs.Create.{refused_create, CreatesUnder, CreatesUnless, IsCreateReply, dynamic_name, dynamic_children, dynamic_with}
use Rattle.cm_dynamic.specs.declared.create.MayCreate.{MayCreate}
use Rattle.cm_dynamic.specs.declared.create.MayCreate.TheVariants.{Yes}
use Rattle.cm_dynamic.specs.Replies.{TellsRoom, AnswersCreate}
use Rattle.cm_dynamic.specs.Laws.{ParentsCanTake}
use Rattle.cm_steps.specs.Answers.{IsAnswerOf, CreatesBy}
use Rattle.cm_steps.specs.declared.replies.creating.CreateAnswer.{CreateAnswer}
use Rattle.cm_steps.specs.declared.replies.creating.CreateAnswer.TheVariants.{Creates, Quiet}
use Rattle.cm_laws.proofs.lemmas.sound.Replies.{creating}

-- A create is answered by whether the child may be created, in a tree whose room was told.
pub creates_by : (limit next free p : ℕ) (rows : List Row) (coll name : List ℕ) (gives : List Give) (may : MayCreate) (answer : CreateAnswer) → ParentsCanTake → TellsRoom limit rows next free → AnswersCreate rows free p coll name gives may → IsAnswerOf may answer → CreatesBy limit rows next p coll name gives answer
creates_by limit next free p rows coll name gives may Creates law room says is =
    let yes : AnswersCreate rows free p coll name gives Yes = subst (AnswersCreate rows free p coll name gives) is says in
    (yes limit next room, law rows free p coll name gives yes)
creates_by limit next free p rows coll name gives may (Quiet r) law room says is =
    (subst (IsCreateReply limit rows next p coll name gives) (is.0 next) (says limit next room), is.1)

module _ (rows : List Row) (limit next p : ℕ) (coll name : List ℕ) (gives : List Give) (i : ℕ) where
  -- Where a create makes a row, one more row fits.
  under_fits : (o : Option Decl) (dynamic : List DynChild) → CreatesUnder limit rows next o dynamic (Created i) → rows_fit limit rows next 1 ≡ true
  under_fits None dynamic it = absurd it
  under_fits (Some d) dynamic it = it.1

  -- a refusal is the same whatever the next incarnation is, and the number of a new child isn't
  unless_fits : (o : Option Reply) → refused_create rows p coll name gives ≡ o → CreatesUnless limit rows next p (dynamic_name coll name) gives o (Created i) → rows_fit limit rows next 1 ≡ true
  unless_fits (Some refusal) e it =
      let again : IsCreateReply limit rows (i + 1) p coll name gives (Created i) = subst (λ o. CreatesUnless limit rows (i + 1) p (dynamic_name coll name) gives o (Created i)) (sym e) it in
      let number : i ≡ i + 1 = (creating rows limit (i + 1) p coll name gives i again).number in
      absurd (omega arith)
  unless_fits None e it = under_fits (decl_of rows p) (dynamic_with rows p (dynamic_name coll name) gives) it

  -- where a child is created, its row fits
  pub created_fits : IsCreateReply limit rows next p coll name gives (Created i) → rows_fit limit rows next 1 ≡ true
  created_fits it = unless_fits (refused_create rows p coll name gives) refl it

-- ---- the children in collections, row by row and child by child

-- A child in a collection that isn't doomed stands before the rest, in either way to say it.
one_child : (a b t : Bool) (k : DynChild) (xs ys : List DynChild) → xs ≡ ys → cons_option (cond (a && t && not b) (Some k) None) xs ≡ cond a (cond b [] (cond t (k ∷ []) []) ++ ys) ys
one_child true true true k xs ys same = same
one_child true true false k xs ys same = same
one_child true false true k xs ys same = ap (λ l. k ∷ l) same
one_child true false false k xs ys same = same
one_child false b true k xs ys same = same
one_child false b false k xs ys same = same

-- What a row is in a collection, by its name, stands before the rest, in either way to say it.
child_by : (a b : Bool) (o : Option ChildName) (gives : List Give) (xs ys : List DynChild) → xs ≡ ys → cons_option (option_and_then (λ c. cond (a && is_some c.coll && not b) (Some (record { name = c; gives = gives })) None) o) xs ≡ cond a (cond b [] (elim o as (λ _. List DynChild) [ None ↦ [] | Some c ↦ cond (is_some c.coll) (record { name = c; gives = gives } ∷ []) [] ]) ++ ys) ys
child_by true true None gives xs ys same = same
child_by true false None gives xs ys same = same
child_by false b None gives xs ys same = same
child_by a b (Some c) gives xs ys same = one_child a b (is_some c.coll) (record { name = c; gives = gives }) xs ys same

-- The children in collections of rows of which one may be kept are told row by row.
kept_by : (a : Bool) (r : Row) (rs : List Row) → flat_map dynamic_child (cond (a && true) (r ∷ rs) rs) ≡ cond a (dynamic_child r ++ flat_map dynamic_child rs) (flat_map dynamic_child rs)
kept_by true r rs = refl
kept_by false r rs = refl

-- those that the rows make are those that the children make
pub by_children : (rows : List Row) (p : ℕ) → dynamic_children rows p ≡ names.dynamic_children rows p
by_children [] p = refl
by_children (r ∷ rs) p =
    child_by (has_parent p r) r.doomed r.name r.gives (dynamic_children rs p) (names.dynamic_children rs p) (by_children rs p)
    ∙ sym (kept_by (has_parent p r) r (kids rs p None))

-- where a tree is sound, they make no ring
pub siblings_acyclic : (rows : List Row) (next p : ℕ) (d : Decl) → IsSound rows next → Some d ≡ decl_of rows p → NoCycle (StrongOn d (dynamic_children rows p))
siblings_acyclic rows next p d sound found =
    subst (λ l. NoCycle (StrongOn d l)) (sym (by_children rows p)) (names_acyclic rows next sound p d (sym found))
