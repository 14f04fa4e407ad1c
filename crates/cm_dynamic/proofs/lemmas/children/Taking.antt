-- A child that may be created has a parent that can take its row.
use Rattle.std.proofs.Common.{◌≡◌, ℕ, List, [], ◌∷◌, Bool, true, false, cond, Option, Some, None, is_some, option_map, refl, sym, ap}
use Rattle.cm_names.specs.declared.child.ChildName.{ChildName}
use Rattle.cm_decl.specs.declared.decl.Decl.{Decl}
use Rattle.cm_decl.specs.declared.rows.Collection.{Collection}
use Rattle.cm_decl.specs.declared.rows.Give.{Give}
use Rattle.cm_decl.specs.Dynamic.{bad_give}
use Rattle.cm_world.specs.declared.row.Row.{Row}
use Rattle.cm_world.specs.declared.reply.Reply.{Reply}
use Rattle.cm_world.specs.declared.reply.Reply.TheVariants.{Gone, Closing, Need, NoCollection, Exists, OffersRefused, BadOffer, Created}
use Rattle.cm_world.specs.Rows.{child_of, decl_of, is_gone, is_closed}
use Rattle.cm_world.specs.Create.{dynamic_name, collection_of, is_child_there, refused_gives, refused_name, refused_by, refused_create, CreatesUnless}
use Rattle.cm_world.proofs.lemmas.trees.Finding.{none_some}
use Rattle.cm_dynamic.specs.Laws.{CanTakeChild, ParentsCanTake}
use Rattle.cm_dynamic.specs.Replies.{TellsRoom}
use Rattle.cm_dynamic.proofs.lemmas.graphs.Graphs.{some_limit}

-- what a refusal, or none, says of a parent with this declaration and of a child of that name
record Says (found : Option Decl) (child : Option ℕ) (refusal : Option Reply) : Type 0 where
  fits : (next : ℕ) → refusal ≡ Some (Created next) → ⊥
  resolved : refusal ≡ None → is_some found ≡ true
  unused : refusal ≡ None → child ≡ None

-- A refusal says what it has to, where it isn't that a row was created.
says : (found : Option Decl) (child : Option ℕ) (reply : Reply) → ((next : ℕ) → reply ≡ Created next → ⊥) → Says found child (Some reply)
says found child reply other = record {
  fits = λ next e. other next (cc);
  resolved = λ e. absurd (none_some reply (sym e));
  unused = λ e. absurd (none_some reply (sym e));
}

-- What bad offers refuse says what it has to of a resolved parent without such a child.
says_bad : (found : Option Decl) (b : Bool) (o : Option (ℕ × ℕ)) → is_some found ≡ true → Says found None (cond b (option_map (λ bad. BadOffer bad.0 bad.1) o) (Some OffersRefused))
says_bad found true None is = record { fits = λ next e. none_some (Created next) e; resolved = λ e. is; unused = λ e. refl }
says_bad found true (Some bad) is = says found None (BadOffer bad.0 bad.1) (λ next e. absurd (cc))
says_bad found false o is = says found None OffersRefused (λ next e. absurd (cc))

-- What the gives refuse says what it has to of a resolved parent without such a child.
says_gives : (found : Option Decl) (rows : List Row) (p : ℕ) (d : Decl) (coll : Collection) (gives : List Give) → is_some found ≡ true → Says found None (refused_gives rows p d coll gives)
says_gives found rows p d coll [] is = record { fits = λ next e. none_some (Created next) e; resolved = λ e. is; unused = λ e. refl }
says_gives found rows p d coll (g ∷ gs) is = says_bad found coll.dynamic_offers (bad_give d (is_child_there rows p) coll.name (g ∷ gs)) is

-- What the name refuses says what it has to of a resolved parent.
says_name : (found : Option Decl) (child : Option ℕ) (rows : List Row) (p : ℕ) (d : Decl) (coll : Collection) (gives : List Give) → is_some found ≡ true → Says found child (elim child as (λ _. Option Reply) [ Some i ↦ Some (Exists i) | None ↦ refused_gives rows p d coll gives ])
says_name found None rows p d coll gives is = says_gives found rows p d coll gives is
says_name found (Some i) rows p d coll gives is = says found (Some i) (Exists i) (λ next e. absurd (cc))

-- What the collection refuses says what it has to of a resolved parent.
says_coll : (found : Option Decl) (o : Option Collection) (rows : List Row) (p : ℕ) (d : Decl) (c : ChildName) (gives : List Give) → is_some found ≡ true → Says found (child_of rows p c) (elim o as (λ _. Option Reply) [ None ↦ Some NoCollection | Some k ↦ refused_name rows p d k c gives ])
says_coll found None rows p d c gives is = says found (child_of rows p c) NoCollection (λ next e. absurd (cc))
says_coll found (Some k) rows p d c gives is = says_name found (child_of rows p c) rows p d k gives is

-- What the declaration refuses, if there is one, says what it has to of the parent.
says_decl : (found : Option Decl) (rows : List Row) (p : ℕ) (coll name : List ℕ) (gives : List Give) → Says found (child_of rows p (dynamic_name coll name)) (elim found as (λ _. Option Reply) [ None ↦ Some (Need p) | Some d ↦ refused_by rows p d coll name gives ])
says_decl None rows p coll name gives = says None (child_of rows p (dynamic_name coll name)) (Need p) (λ next e. absurd (cc))
says_decl (Some d) rows p coll name gives = says_coll (Some d) (collection_of d coll) rows p d (dynamic_name coll name) gives refl

-- What may be refused first as gone or closing says what it has to, where the rest does.
says_open : (b c : Bool) (found : Option Decl) (child : Option ℕ) (p : ℕ) (rest : Option Reply) → Says found child rest → Says found child (cond b (Some (Gone p)) (cond c (Some (Closing p)) rest))
says_open true c found child p rest more = says found child (Gone p) (λ next e. absurd (cc))
says_open false true found child p rest more = says found child (Closing p) (λ next e. absurd (cc))
says_open false false found child p rest more = more

-- What refuses a create, or nothing, says what it has to of the parent and the child.
says_all : (rows : List Row) (p : ℕ) (coll name : List ℕ) (gives : List Give) → Says (decl_of rows p) (child_of rows p (dynamic_name coll name)) (refused_create rows p coll name gives)
says_all rows p coll name gives =
    says_open (is_gone rows p) (is_closed rows p) (decl_of rows p) (child_of rows p (dynamic_name coll name)) p
    (elim (decl_of rows p) as (λ _. Option Reply) [ None ↦ Some (Need p) | Some d ↦ refused_by rows p d coll name gives ]) (says_decl (decl_of rows p) rows p coll name gives)

-- a child that nothing refuses before the realm graph has a name that is in no use
pub unused_name : (rows : List Row) (p : ℕ) (coll name : List ℕ) (gives : List Give) → refused_create rows p coll name gives ≡ None → child_of rows p (dynamic_name coll name) ≡ None
unused_name rows p coll name gives e = (says_all rows p coll name gives).unused e

-- Where a create makes a row, the parent can take the child.
taken_by : (o : Option Reply) (limit next p : ℕ) (rows : List Row) (coll name : List ℕ) (gives : List Give) → Says (decl_of rows p) (child_of rows p (dynamic_name coll name)) o → CreatesUnless limit rows next p (dynamic_name coll name) gives o (Created next) → CanTakeChild rows p coll name
taken_by (Some refusal) limit next p rows coll name gives said e = absurd (said.fits next (ap Some (sym e)))
taken_by None limit next p rows coll name gives said e = record { resolved = said.resolved refl; unused = said.unused refl }

-- Where a child may be created, the tree can take its row.
pub can_take : ParentsCanTake
can_take rows free p coll name gives answers =
    let some : (limit next : ℕ) × TellsRoom limit rows next free = some_limit rows free in
    taken_by (refused_create rows p coll name gives) some.0 some.1 p rows coll name gives (says_all rows p coll name gives) (answers some.0 some.1 some.2)
