-- Desks cleared one after another.
use Rattle.std.proofs.Common.{◌≡◌, ℕ, ◌+◌, List, ◌∷◌, ◌++◌, All, Any, map, length, Bool, true, false, true≢false, Some, refl, sym, ap, ◌∙◌, subst, arith, suc}
use Rattle.std.proofs.lemmas.List.{length-map, nil_from_length}
use Rattle.std.proofs.lemmas.List.Elements.{All-cons, All-nil}
use Rattle.cm_manager.specs.declared.desks.Desk.{Desk}
use Rattle.cm_manager.specs.Desks.{AreDeskParts, DeskLists, DeskPartsHaveRoom, NoDeskParts, PutsDeskParts}
use Rattle.cm_manager.proofs.lemmas.desked.Moving.{all_moved, moved, moved_as}

-- The next number is the number and one.
one_more : (n : ℕ) → suc n ≡ n + 1
one_more n = grind arith

-- What follows of a flag that is set, and of one that isn't, follows of each flag.
by_flag : {A : Type 0} (b : Bool) → (b ≡ true → A) → (b ≡ false → A) → A
by_flag true left right = left refl
by_flag false left right = right refl

module _ {G W : Type 0} where
  -- A desk at which nothing was lost.
  abbrev pub IsWell : Desk G W → Type 0
  IsWell d = d.lost ≡ false

  -- A desk at which something was lost.
  abbrev pub HasLost : Desk G W → Type 0
  HasLost d = d.lost ≡ true

  -- the parts of the desks that aren't left are in the lists
  pub record Clearing (desks left : List (Desk G W)) (parts : DeskLists G W) : Type 0 where
    pub passes : map Some parts.passes.items ++ map (λ d. d.pass) left ≡ map (λ d. d.pass) desks
    pub gates : parts.gates.items ++ map (λ d. d.gates) left ≡ map (λ d. d.gates) desks
    pub works : parts.works.items ++ map (λ d. d.work) left ≡ map (λ d. d.work) desks
    pub well : parts.lost ≡ false → All IsWell left → All IsWell desks
    pub lost : parts.lost ≡ true → Any HasLost desks
    pub later : Any HasLost left → Any HasLost desks
    pub room : DeskPartsHaveRoom (length left) parts

  -- Where the lists of parts are empty and have room for all desks, all desks are left to clear.
  pub clearing_none : (desks : List (Desk G W)) (parts : DeskLists G W) → NoDeskParts parts → DeskPartsHaveRoom (length desks) parts → Clearing desks desks parts
  clearing_none desks parts empty room = record {
    passes = ap (λ (l : List _). map Some l ++ map (λ (d : Desk G W). d.pass) desks) empty.passes;
    gates = ap (λ (l : List G). l ++ map (λ (d : Desk G W). d.gates) desks) empty.gates;
    works = ap (λ (l : List W). l ++ map (λ (d : Desk G W). d.work) desks) empty.works;
    well = λ no all. all;
    lost = λ yes. absurd (true≢false (sym yes ∙ empty.lost));
    later = λ any. any;
    room = room;
  }

  -- Where the first desk has lost something, some desk has.
  any_here : (d : Desk G W) (left : List (Desk G W)) → HasLost d → Any HasLost (d ∷ left)
  any_here d left is = (0, d, grind arith, refl, is)

  -- Where a desk behind the first one has lost something, some desk has.
  any_later : (d : Desk G W) (left : List (Desk G W)) → Any HasLost left → Any HasLost (d ∷ left)
  any_later d left any = (suc any.0, any.1, grind (arith, any.2), any.3, any.4)

  -- After the parts of the first desk that is left are put into the lists, the others are left.
  pub clearing_more : (desks left others : List (Desk G W)) (d : Desk G W) (parts parts' : DeskLists G W) → Clearing desks left parts → left ≡ d ∷ others → PutsDeskParts d parts parts' → Clearing desks others parts'
  clearing_more desks left others d parts parts' is left_is puts = record {
    passes = moved_as Some parts.passes.items parts'.passes.items (map (λ d. d.pass) left) (map (λ d. d.pass) others) (map (λ d. d.pass) desks) puts.pass is.passes puts.passes
        (ap (map (λ d. d.pass)) left_is ∙ ap (λ p. p ∷ map (λ (d : Desk G W). d.pass) others) puts.there);
    gates = moved parts.gates.items parts'.gates.items (map (λ d. d.gates) left) (map (λ d. d.gates) others) (map (λ d. d.gates) desks) d.gates is.gates puts.gates (ap (map (λ d. d.gates)) left_is);
    works = moved parts.works.items parts'.works.items (map (λ d. d.work) left) (map (λ d. d.work) others) (map (λ d. d.work) desks) d.work is.works puts.works (ap (map (λ d. d.work)) left_is);
    well = λ no all. (let both = puts.well no in is.well both.0 (subst (All IsWell) (sym left_is) (All-cons IsWell d others both.1 all)));
    lost = λ yes. by_flag parts.lost is.lost (λ no. is.later (subst (Any HasLost) (sym left_is) (any_here d others (puts.lost yes no))));
    later = λ any. is.later (subst (Any HasLost) (sym left_is) (any_later d others any));
    room = puts.room (length others) (subst (λ (n : ℕ). DeskPartsHaveRoom n parts) (ap (λ (l : List (Desk G W)). length l) left_is ∙ one_more (length others)) is.room);
  }

  -- Where no desk is left to clear, the lists have the parts of all desks.
  pub clearing_all : (desks left : List (Desk G W)) (parts : DeskLists G W) → Clearing desks left parts → length left ≡ 0 → AreDeskParts desks parts
  clearing_all desks left parts is none = record {
    passes = all_moved (map Some parts.passes.items) (map (λ d. d.pass) left) (map (λ d. d.pass) desks) is.passes (length-map left (λ d. d.pass) ∙ none);
    gates = all_moved parts.gates.items (map (λ d. d.gates) left) (map (λ d. d.gates) desks) is.gates (length-map left (λ d. d.gates) ∙ none);
    works = all_moved parts.works.items (map (λ d. d.work) left) (map (λ d. d.work) desks) is.works (length-map left (λ d. d.work) ∙ none);
    well = λ no. is.well no (subst (All IsWell) (sym (nil_from_length left none)) (All-nil IsWell));
    lost = is.lost;
  }
