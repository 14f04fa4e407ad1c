-- What a reply says of the tree that it was given in.
use Rattle.std.proofs.Common.{◌≡◌, ℕ, List, Bool, true, false, cond, not, ◌&&◌, ◌||◌, true≢false, Option, Some, None, is_some, IsTrue, refl, sym, ◌∙◌, ap, inl, inr}
use Rattle.std.specs.Option.{option_map_or}
use Rattle.std.specs.Cmp.{first_so, second_so}
use Rattle.cm_decl.specs.declared.decl.Decl.{Decl}
use Rattle.cm_decl.specs.declared.rows.Collection.{Collection}
use Rattle.cm_decl.specs.declared.rows.Give.{Give}
use Rattle.cm_decl.specs.Graph.{StrongOn}
use Rattle.cm_decl.specs.Reach.{NoCycle}
use Rattle.cm_world.specs.declared.row.Row.{Row}
use Rattle.cm_world.specs.declared.reply.Reply.{Reply}
use Rattle.cm_world.specs.declared.reply.Reply.TheVariants as reply
use Rattle.cm_world.specs.declared.report.Lost.{Lost}
use Rattle.cm_world.specs.Rows.{row_of, decl_of, child_of, is_gone, is_closed, is_closing, is_shut, is_below, is_subtree_shut, has_closing}
use Rattle.cm_world.specs.Create.{collection_of, refused_gives, refused_name, refused_by, refused_create, CreatesUnder, CreatesUnless, IsCreateReply, dynamic_name, dynamic_with}
use Rattle.cm_world.specs.Marks.{is_dynamic, purge_reply}
use Rattle.cm_world.specs.Step.{may_purge}
use Rattle.cm_world.specs.Sound.{IsOrderly}
use Rattle.cm_world.specs.Stopping.{MayPick}
use Rattle.cm_world.proofs.lemmas.trees.Finding.{none_some, find-passes}
use Rattle.cm_trees.proofs.trees.Trees.{climb, below_cases, below_lives}
use Rattle.cm_laws.proofs.lemmas.entries.Answered.{passes_or, PassesRefusals, refused_passes}
use Rattle.cm_laws.proofs.lemmas.sound.Above.{above_here, above_up}

-- ---- a create

-- every reply but that of a new child
abbrev pub is_uncreated : Reply → Bool
is_uncreated (reply.Created i) = false
is_uncreated _ = true

-- No refusal of a create says that a row was created.
refusals_uncreated : PassesRefusals is_uncreated
refusals_uncreated = record { gone = λ i. refl; closing = λ i. refl; need = λ i. refl; no_collection = refl; exists = λ i. refl; offers = refl; bad = λ i n. refl }

-- a new child: its parent isn't closed and has a declaration, no child has its name, its siblings don't depend on each other
-- in a ring, and it has the next incarnation
pub record IsCreating (rows : List Row) (next p : ℕ) (coll name : List ℕ) (gives : List Give) (i : ℕ) : Type 0 where
  pub decl : Decl
  pub found : decl_of rows p ≡ Some decl
  pub unclosed : is_closed rows p ≡ false
  pub unused : child_of rows p (dynamic_name coll name) ≡ None
  pub acyclic : NoCycle (StrongOn decl (dynamic_with rows p (dynamic_name coll name) gives))
  pub number : i ≡ next

module _ (rows : List Row) (limit next p : ℕ) (coll name : List ℕ) (gives : List Give) (i : ℕ) where
  -- Where nothing is refused, the first reason doesn't hold, and the rest refuses nothing.
  unrefused : (b : Bool) (r : Reply) (o : Option Reply) → cond b (Some r) o ≡ None → (b ≡ false) × (o ≡ None)
  unrefused true r o e = absurd (none_some r (sym e))
  unrefused false r o e = (refl, e)

  -- Where the name refuses nothing, no child has it.
  unused_by : (d : Decl) (c : Collection) (o : Option ℕ) → elim o as (λ _. Option Reply) [ Some i ↦ Some (reply.Exists i) | None ↦ refused_gives rows p d c gives ] ≡ None → o ≡ None
  unused_by d c (Some j) e = absurd (none_some (reply.Exists j) (sym e))
  unused_by d c None e = refl

  -- Where the collection refuses nothing, no child has the name.
  in_collection : (d : Decl) (o : Option Collection) → elim o as (λ _. Option Reply) [ None ↦ Some reply.NoCollection | Some c ↦ refused_name rows p d c (dynamic_name coll name) gives ] ≡ None → child_of rows p (dynamic_name coll name) ≡ None
  in_collection d None e = absurd (none_some reply.NoCollection (sym e))
  in_collection d (Some c) e = unused_by d c (child_of rows p (dynamic_name coll name)) e

  -- A create that an open parent doesn't refuse and that makes a row is in order.
  under_parent : (o : Option Decl) → decl_of rows p ≡ o → is_closed rows p ≡ false → elim o as (λ _. Option Reply) [ None ↦ Some (reply.Need p) | Some d ↦ refused_by rows p d coll name gives ] ≡ None → CreatesUnder limit rows next o (dynamic_with rows p (dynamic_name coll name) gives) (reply.Created i) → IsCreating rows next p coll name gives i
  under_parent None found unclosed e it = absurd it
  under_parent (Some d) found unclosed e it = record {
    decl = d;
    found = found;
    unclosed = unclosed;
    unused = in_collection d (collection_of d coll) e;
    acyclic = it.0;
    number = it.2;
  }

  -- A create that no part refuses and that makes a row is in order.
  parts : (o : Option Decl) → decl_of rows p ≡ o → cond (is_gone rows p) (Some (reply.Gone p)) (cond (is_closed rows p) (Some (reply.Closing p)) (elim o as (λ _. Option Reply) [ None ↦ Some (reply.Need p) | Some d ↦ refused_by rows p d coll name gives ])) ≡ None → CreatesUnder limit rows next o (dynamic_with rows p (dynamic_name coll name) gives) (reply.Created i) → IsCreating rows next p coll name gives i
  parts o found e it =
      let rest : cond (is_closed rows p) (Some (reply.Closing p)) (elim o as (λ _. Option Reply) [ None ↦ Some (reply.Need p) | Some d ↦ refused_by rows p d coll name gives ]) ≡ None = (unrefused (is_gone rows p) (reply.Gone p) _ e).1 in
      let open_yet : (is_closed rows p ≡ false) × (elim o as (λ _. Option Reply) [ None ↦ Some (reply.Need p) | Some d ↦ refused_by rows p d coll name gives ] ≡ None) = unrefused (is_closed rows p) (reply.Closing p) _ rest in
      under_parent o found open_yet.0 open_yet.1 it

  -- A create that makes a row is in order, where no refusal says that one was created.
  creating_by : (o : Option Reply) → refused_create rows p coll name gives ≡ o → passes_or is_uncreated o ≡ true → CreatesUnless limit rows next p (dynamic_name coll name) gives o (reply.Created i) → IsCreating rows next p coll name gives i
  creating_by (Some refusal) e passes it = absurd (true≢false (sym passes ∙ ap is_uncreated (sym it)))
  creating_by None e passes it = parts (decl_of rows p) refl e it

  -- Where a child is created, its parent is open and resolved, its name unused, and no ring is closed.
  pub creating : IsCreateReply limit rows next p coll name gives (reply.Created i) → IsCreating rows next p coll name gives i
  creating it =
      creating_by (refused_create rows p coll name gives) refl (refused_passes is_uncreated refusals_uncreated rows p coll name gives) it

-- a row that isn't closed isn't shut
pub open_unshut : (rows : List Row) (i : ℕ) (r : Row) → row_of rows i ≡ Some r → is_closed rows i ≡ false → r.shut ≡ false
open_unshut rows i r lives e =
    sym (ap (λ o. option_map_or (λ z. z.shut) o false) lives) ∙ neither (is_closing rows i) (is_shut rows i) e
  where
    neither : (a b : Bool) → (a || b) ≡ false → b ≡ false
    neither true b h = absurd (true≢false h)
    neither false b h = h

-- a declaration that is found is that of a row
pub found_row : (rows : List Row) (p : ℕ) (d : Decl) → decl_of rows p ≡ Some d → (r : Row) × (row_of rows p ≡ Some r)
found_row rows p d found = row_by (row_of rows p) refl where
  row_by : (o : Option Row) → row_of rows p ≡ o → (r : Row) × (row_of rows p ≡ Some r)
  row_by None e =
      absurd (none_some d (sym (ap (λ o. elim o as (λ _. Option Decl) [ None ↦ None | Some r ↦ r.decl ]) e) ∙ found))
  row_by (Some r) e = (r, e)

-- ---- a mark

-- A row that is marked now to be destroyed is in a collection.
dynamic_by : (rows : List Row) (i : ℕ) (r : Row) (a b c : Bool) → cond a reply.Already (cond b (reply.Gone i) (cond c reply.Marked reply.NotDynamic)) ≡ reply.Marked → c ≡ true
dynamic_by rows i r true b c e = absurd (cc)
dynamic_by rows i r false true c e = absurd (cc)
dynamic_by rows i r false false true e = refl
dynamic_by rows i r false false false e = absurd (cc)

-- a row that is marked to be destroyed is a child in a collection
pub marked_dynamic : (rows : List Row) (i : ℕ) (o : Option Row) → elim o as (λ _. Reply) [ None ↦ reply.Gone i | Some r ↦ cond r.doomed reply.Already (cond (is_gone rows i) (reply.Gone i) (cond (is_dynamic r) reply.Marked reply.NotDynamic)) ] ≡ reply.Marked → (r : Row) × (o ≡ Some r) × (is_dynamic r ≡ true)
marked_dynamic rows i None e = absurd (cc)
marked_dynamic rows i (Some r) e = (r, refl, dynamic_by rows i r r.doomed (is_gone rows i) (is_dynamic r) e)

-- ---- a pick

-- what is at or below a closing row is closing
pub closing_below : (rows : List Row) (next top i : ℕ) → IsOrderly rows next → IsTrue (has_closing rows top) → IsTrue (is_below rows top i) → IsTrue (is_closing rows i)
closing_below rows next top i orderly closing below =
    let row : (r : Row) × (row_of rows i ≡ Some r) = below_lives rows next orderly top i below in
    climb rows next orderly (λ j. IsTrue (is_below rows top j) → IsTrue (is_closing rows j)) step i row.0 row.1 below
  where
    step : (j : ℕ) (r : Row) → row_of rows j ≡ Some r → ((p : ℕ) → r.parent ≡ Some p → IsTrue (is_below rows top p) → IsTrue (is_closing rows p)) → IsTrue (is_below rows top j) → IsTrue (is_closing rows j)
    step j r lives up below = elim (below_cases rows next orderly top j r lives below) [
      | inl same ↦
          above_here (λ z. z.closing) rows next orderly j r lives
          (sym (ap (λ o. option_map_or (λ z. z.closing) o false) lives) ∙ ap (has_closing rows) same ∙ closing)
      | inr above ↦
          above_up (λ z. z.closing) rows next orderly j above.0 r lives above.1 (up above.0 above.1 above.2)
    ]

-- a row that may be picked is at or below a closing row
pub picked_closing : (rows : List Row) (next t i : ℕ) (r : Row) → IsOrderly rows next → MayPick rows t i r → IsTrue (is_closing rows i)
picked_closing rows next t i r orderly may =
    closing_below rows next may.top i orderly (find-passes (λ j. has_closing rows j) _ may.top may.outermost) may.below

-- ---- a purge

-- what is purged lived, was doomed, and was shut with all below it
pub record IsPurging (rows : List Row) (i : ℕ) : Type 0 where
  pub row : Row
  pub lives : row_of rows i ≡ Some row
  pub doomed : row.doomed ≡ true
  pub shut : IsTrue (is_subtree_shut rows i)

-- A purge that names what is lost has a row that is there, doomed, and shut with all below.
purging_by : (rows : List Row) (i : ℕ) (lost : List Lost) (o : Option Row) (whole : List Lost) → row_of rows i ≡ o → reply.Purged lost ≡ cond (is_some o) (reply.Purged whole) reply.PurgedBefore → IsTrue (not (is_some o) || (option_map_or (λ r. r.doomed) o false && is_subtree_shut rows i)) → IsPurging rows i
purging_by rows i lost None whole e same may = absurd (cc)
purging_by rows i lost (Some r) whole e same may = record {
  row = r;
  lives = e;
  doomed = first_so r.doomed (is_subtree_shut rows i) may;
  shut = second_so r.doomed (is_subtree_shut rows i) may;
}

-- What is purged lived, was doomed, and was shut with all below it.
pub purging : (rows : List Row) (i : ℕ) (lost : List Lost) → IsTrue (may_purge rows i) → reply.Purged lost ≡ purge_reply rows i → IsPurging rows i
purging rows i lost may e = purging_by rows i lost (row_of rows i) _ refl e may
