-- Lines of a report, by what a parent hands on.
use Rattle.std.proofs.Common.{◌≡◌, ℕ, List, [], ◌∷◌, ◌++◌, Bool, true, false, ◌&&◌, true≢false, Option, Some, None, Result, Ok, Err, find, option_and_then, refl, sym, ◌∙◌, ap, subst, bytes_eq, append_assoc}
use Rattle.std.specs.Prelude.{String, string_bytes, OnOk, IfOk, IfSome, All, codes, option_map}
use Rattle.std.specs.Bool.{beq}
use Rattle.std.specs.Cmp.{booleans_Decides}
use Rattle.std.specs.Cmp.Lexicographic.{bytes_decides}
use Rattle.std.proofs.lemmas.Bool.{and_parts}
use Rattle.std.proofs.lemmas.List.Elements.{All-push, All-head, All-tail}
use Rattle.cm_world.proofs.lemmas.trees.Finding.{some_same, none_some, find-passes}
use Rattle.cm_names.specs.declared.child.ChildName.{ChildName}
use Rattle.cm_names.specs.Child.{child_text}
use Rattle.cm_names.specs.Moniker.{moniker_text, text_of_parts}
use Rattle.cm_facts.proofs.Options.{cond_some_holds}
use Rattle.cm_decl.specs.declared.decl.Decl.{Decl}
use Rattle.cm_decl.specs.declared.origin.Origin.{Origin}
use Rattle.cm_decl.specs.declared.origin.Origin.TheVariants as origin
use Rattle.cm_decl.specs.declared.storage.Storage.{Storage}
use Rattle.cm_decl.specs.declared.storage.StorageUse.{StorageUse}
use Rattle.cm_decl.specs.declared.storage.StorageOffer.{StorageOffer}
use Rattle.cm_world.specs.declared.row.Row.{Row}
use Rattle.cm_world.specs.declared.frame.Builtin.{Builtin}
use Rattle.cm_world.specs.Rows.{decl_of, moniker_of}
use Rattle.cm_reply.specs.Lists.{TextBytes}
use Rattle.cm_reply.specs.ListsInside.{GainsText}
use Rattle.cm_storage.specs.declared.fault.StorageFault.{StorageFault}
use Rattle.cm_storage.specs.declared.fault.StorageFault.TheVariants as fault
use Rattle.cm_storage.specs.declared.known.KnownPlace.{KnownPlace}
use Rattle.cm_storage.specs.declared.standing.Handed.{Handed}
use Rattle.cm_storage.specs.declared.standing.ParentAtHand.{ParentAtHand}
use Rattle.cm_storage.specs.KnownPlace.{refused, stands, told_below}
use Rattle.cm_storage.specs.Places.{Placed, IsPlaced, IsPlacedFrom, IsPlacedFor}
use Rattle.cm_storage.specs.Report.{fault_text, placed_text, use_line}
use Rattle.cm_storage.specs.ParentAtHand.{IsToldChildOf, IsKnown, IsHanded, IsStanding, StaysStanding, kept, kept_by, source_of, prefix_of, names_text, none}
use Rattle.cm_storage.specs.Telling.{TellsUse, TellsPlace, TellsKnown}
use Rattle.cm_storage.specs.Way.{Onward, On, Ends, onward, by_parent, by_offer, by_source, storage_offer_of}
use Rattle.cm_storage.proofs.lemmas.Prefixes.{moniker_more, names_more, line_more}
use Rattle.cm_storage.proofs.lemmas.Knowing.{known_placed}

-- What holds in any case holds where a result is one without a fault.
pub on_any : {A E : Type 0} (r : Result A E) (P : Type 0) → P → OnOk r P
on_any (Ok a) P it = it
on_any (Err e) P it = tt

-- ---- a child's line

-- The text of a child's moniker is the prefix of its parent's, and the child's own text.
child_moniker : (rows : List Row) (i p : ℕ) (c : ChildName) → IsToldChildOf rows i p c → moniker_text (moniker_of rows i) ≡ prefix_of (moniker_of rows p) ++ child_text c
child_moniker rows i p c child = ap text_of_parts child.names ∙ moniker_more (moniker_of rows p).parts c

-- A line of a child's use is added by its parent's prefix, its name, the path and what comes of it.
pub line_told : {Z : Type 0} (rows : List Row) (builtins : List Builtin) (i p : ℕ) (c : ChildName) (prefix path : TextBytes) (d : Decl) (u : Option StorageUse) (old mid late new : String Z) → IsToldChildOf rows i p c → prefix ≡ prefix_of (moniker_of rows p) → decl_of rows i ≡ Some d → u ≡ find (λ v. bytes_eq v.path path) d.storage_uses → GainsText old mid (prefix ++ (child_text c ++ (codes " storage " ++ path))) → TellsPlace rows builtins i u mid late → GainsText late new (codes "\n") → TellsUse rows builtins i path old new
line_told rows builtins i p c prefix path d u old mid late new child is resolved used first told last = (
  told.0,
  subst (λ v. IsPlacedFrom rows builtins i v told.0) (used ∙ sym (ap (option_and_then (λ e. find (λ v. bytes_eq v.path path) e.storage_uses)) resolved)) told.1,
  last ∙ ap (λ t. t ++ codes "\n") told.2 ∙ ap (λ t. (t ++ placed_text told.0) ++ codes "\n") first
      ∙ whole,
)
  where
    whole : ((string_bytes old ++ (prefix ++ (child_text c ++ (codes " storage " ++ path)))) ++ placed_text told.0) ++ codes "\n" ≡ string_bytes old ++ use_line rows i path told.0
    whole =
        ap (λ t. t ++ codes "\n") (append_assoc (string_bytes old) (prefix ++ (child_text c ++ (codes " storage " ++ path))) (placed_text told.0))
        ∙ append_assoc (string_bytes old) ((prefix ++ (child_text c ++ (codes " storage " ++ path))) ++ placed_text told.0) (codes "\n")
        ∙ ap (λ t. string_bytes old ++ t)
        (line_more prefix (child_text c) path (placed_text told.0)
        ∙ ap (λ t. t ++ (codes " storage " ++ (path ++ (placed_text told.0 ++ codes "\n")))) (ap (λ f. f ++ child_text c) is ∙ sym (child_moniker rows i p c child)))

-- What is told of a child by its parent's offer is what comes of its use of a storage.
pub place_told : {Z : Type 0} (rows : List Row) (builtins : List Builtin) (i p : ℕ) (c : ChildName) (d : Decl) (u : StorageUse) (old new : String Z) → IsToldChildOf rows i p c → decl_of rows p ≡ Some d → TellsKnown rows builtins p (by_offer rows p d (storage_offer_of d c u.name)) c old new → TellsPlace rows builtins i (Some u) old new
place_told rows builtins i p c d u old new child resolved told =
    let way : onward rows i u.name ≡ by_offer rows p d (storage_offer_of d c u.name) = child.way u.name ∙ ap (λ o. by_parent rows p u.name o (Some c)) resolved in
    let placed : (r : Placed) × IsPlacedFor rows builtins i u.name r × (told_below told.0 c ≡ placed_text r) = known_placed rows builtins i p c u.name (by_offer rows p d (storage_offer_of d c u.name)) told.0 child way told.1 in
    (placed.0, placed.1, told.2 ∙ ap (λ t. string_bytes old ++ t) placed.2)

-- Where a row has no use of storage at a path, it is told that this is refused.
pub no_use_told : {Z : Type 0} (rows : List Row) (builtins : List Builtin) (i : ℕ) (old new : String Z) → GainsText old new (codes " refused " ++ fault_text fault.NoStorageUse) → TellsPlace rows builtins i None old new
no_use_told rows builtins i old new gains = (Err fault.NoStorageUse, refl, gains)

-- a way that ends with a fault
pub fault_told : {Z : Type 0} (rows : List Row) (builtins : List Builtin) (p : ℕ) (e : StorageFault) (step : Onward) (c : ChildName) (old new : String Z) → step ≡ Ends (Err e) → GainsText old new (codes " refused " ++ fault_text e) → TellsKnown rows builtins p step c old new
fault_told rows builtins p e step c old new is gains =
    subst (λ s. TellsKnown rows builtins p s c old new) (sym is) (refused e, (Err e, refl, none e refl), gains)

-- ---- what is kept

-- what all have, one that is found has
find_all : {A : Type 0} (P : A → Type 0) (p : A → Bool) (xs : List A) (x : A) → find p xs ≡ Some x → All P xs → P x
find_all P p [] x e all = absurd (none_some x e)
find_all P p (y ∷ ys) x e all =
    cond_some_holds P (p y) y x (find p ys) (All-head P y ys all) (λ f. find_all P p ys x f (All-tail P y ys all)) e

-- What is kept of a parent's handed storages for a name and source is right for the way there.
kept_found : (rows : List Row) (builtins : List Builtin) (p : ℕ) (d : Decl) (handed : List Handed) (own : Bool) (name : List ℕ) (o : Option Handed) (known : KnownPlace) → find (λ h. beq h.own own && bytes_eq h.name.now name) handed ≡ o → option_map (λ (h : Handed). h.known) o ≡ Some known → All (IsHanded rows builtins p d) handed → IsKnown rows builtins p (by_source rows p d name (source_of own)) known
kept_found rows builtins p d handed own name None known found is all = absurd (none_some known is)
kept_found rows builtins p d handed own name (Some h) known found is all =
    let both : (beq h.own own ≡ true) × (bytes_eq h.name.now name ≡ true) = and_parts (beq h.own own) (bytes_eq h.name.now name) (find-passes (λ (x : Handed). beq x.own own && bytes_eq x.name.now name) handed h found) in
    let one : IsHanded rows builtins p d h = find_all (IsHanded rows builtins p d) (λ (x : Handed). beq x.own own && bytes_eq x.name.now name) handed h found all in
    subst (λ k. IsKnown rows builtins p (by_source rows p d name (source_of own)) k) (some_same h.known known is)
    (subst (λ n. IsKnown rows builtins p (by_source rows p d n (source_of own)) h.known) ((bytes_decides h.name.now name).0 both.1)
    (subst (λ b. IsKnown rows builtins p (by_source rows p d h.name.now (source_of b)) h.known) ((booleans_Decides h.own own).0 both.0) one))

-- What a row keeps for a storage of a name, of its own or its parent's, is right.
pub kept_known : (rows : List Row) (builtins : List Builtin) (p : ℕ) (d : Decl) (handed : List Handed) (own : Bool) (name : List ℕ) (known : KnownPlace) → All (IsHanded rows builtins p d) handed → Some known ≡ kept handed own name → IsKnown rows builtins p (by_source rows p d name (source_of own)) known
kept_known rows builtins p d handed own name known all is =
    kept_found rows builtins p d handed own name (find (λ h. beq h.own own && bytes_eq h.name.now name) handed) known refl (sym is) all

-- What a row keeps for a storage, by the source of an offer of it, is right.
pub kept_by_known : (rows : List Row) (builtins : List Builtin) (p : ℕ) (d : Decl) (handed : List Handed) (from : Origin) (name : List ℕ) (known : KnownPlace) → All (IsHanded rows builtins p d) handed → Some known ≡ kept_by handed from name → IsKnown rows builtins p (by_source rows p d name from) known
kept_by_known rows builtins p d handed origin.Own name known all is = kept_known rows builtins p d handed true name known all is
kept_by_known rows builtins p d handed origin.Parent name known all is = kept_known rows builtins p d handed false name known all is
kept_by_known rows builtins p d handed origin.Framework name known all is = absurd (none_some known (sym is))
kept_by_known rows builtins p d handed (origin.Child c) name known all is = absurd (none_some known (sym is))
kept_by_known rows builtins p d handed origin.Void name known all is = absurd (none_some known (sym is))

-- What a row that is right keeps for a storage may be told of each of its children.
pub kept_told : {Z : Type 0} (rows : List Row) (builtins : List Builtin) (s : ParentAtHand) (own : Bool) (name : List ℕ) (known : KnownPlace) (c : ChildName) (old new : String Z) → IsStanding rows builtins s → Some known ≡ kept s.handed.items own name → GainsText old new (told_below known c) → TellsKnown rows builtins s.inc (by_source rows s.inc s.offers name (source_of own)) c old new
kept_told rows builtins s own name known c old new standing is gains =
    (known, kept_known rows builtins s.inc s.offers s.handed.items own name known standing.handed is, gains)

-- With one storage more that is handed on, what stands at hand of a parent still stands.
pub keeps : (rows : List Row) (builtins : List Builtin) (h : Handed) (old new : ParentAtHand) → IsStanding rows builtins old → IsHanded rows builtins old.inc old.offers h → new.inc ≡ old.inc → new.offers ≡ old.offers → new.prefix ≡ old.prefix → new.handed.items ≡ old.handed.items ++ h ∷ [] → StaysStanding rows builtins old new
keeps rows builtins h old new standing handed inc offers prefix more = record {
  standing = record {
    decl = ap (decl_of rows) inc ∙ standing.decl ∙ ap Some (sym offers);
    prefix = prefix ∙ standing.prefix ∙ ap (λ i. prefix_of (moniker_of rows i)) (sym inc);
    handed =
        subst (λ i. All (IsHanded rows builtins i new.offers) new.handed.items) (sym inc)
        (subst (λ d. All (IsHanded rows builtins old.inc d) new.handed.items) (sym offers)
        (subst (All (IsHanded rows builtins old.inc old.offers)) (sym more) (All-push (IsHanded rows builtins old.inc old.offers) old.handed.items h standing.handed handed)));
  };
  inc = inc;
}

-- A row with what is right for its children stays so, where nothing more is kept.
pub stays : (rows : List Row) (builtins : List Builtin) (s : ParentAtHand) → IsStanding rows builtins s → StaysStanding rows builtins s s
stays rows builtins s standing = record { standing = standing; inc = refl }

-- A row that stays right, and then stays so again, stays right from first to last.
pub stays_on : (rows : List Row) (builtins : List Builtin) (a b c : ParentAtHand) → StaysStanding rows builtins a b → StaysStanding rows builtins b c → StaysStanding rows builtins a c
stays_on rows builtins a b c first second = record { standing = second.standing; inc = second.inc ∙ first.inc }

-- an offer from no place that one may be from
pub void_step : (rows : List Row) (p : ℕ) (d : Decl) (name : List ℕ) (from : Origin) → (from ≡ origin.Own → ⊥) → (from ≡ origin.Parent → ⊥) → by_source rows p d name from ≡ Ends (Err (fault.VoidStorage (moniker_of rows p)))
void_step rows p d name origin.Own no_own no_parent = absurd (no_own refl)
void_step rows p d name origin.Parent no_own no_parent = absurd (no_parent refl)
void_step rows p d name origin.Framework no_own no_parent = refl
void_step rows p d name (origin.Child c) no_own no_parent = refl
void_step rows p d name origin.Void no_own no_parent = refl

-- a prefix by that of the row above
pub prefix_told : {E : Type 0} (rows : List Row) (builtins : List Builtin) (i p : ℕ) (c : ChildName) (s : ParentAtHand) (r : Result (List ℕ) E) → IsStanding rows builtins s → s.inc ≡ p → IsToldChildOf rows i p c → IfOk r (λ made. made ≡ s.prefix ++ (child_text c ++ codes "/")) → IfOk r (λ made. made ≡ prefix_of (moniker_of rows i))
prefix_told rows builtins i p c s (Ok made) standing at child is =
    is ∙ ap (λ f. f ++ (child_text c ++ codes "/")) (standing.prefix ∙ ap (λ x. prefix_of (moniker_of rows x)) at)
    ∙ sym (ap names_text child.names ∙ names_more (moniker_of rows p).parts c)
prefix_told rows builtins i p c s (Err e) standing at child is = tt
