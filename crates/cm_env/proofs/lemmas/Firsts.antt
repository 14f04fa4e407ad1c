-- The first of several faults, found rule by rule.
use Rattle.std.proofs.Common.{◌≡◌, ℕ, zero, suc, ◌+◌, ◌*◌, ◌<◌, ◌≤◌, List, [], ◌∷◌, Bool, true, false, Option, Some, None, IsTrue, length, drop, get_or, option_map, refl, sym, ◌∙◌, ap, subst, arith}
use Rattle.std.specs.Prelude.{◌⊎◌}
use Rattle.std.proofs.Common.{inl, inr}
use Rattle.std.proofs.lemmas.List.{at_drop_more, at_drop_all}
use Rattle.cm_decl.specs.declared.section.Section.{Section}
use Rattle.cm_decl.specs.declared.section.Section.TheVariants.{Manifest, Program, Children, Collections, Capabilities, Uses, Offers, Exposes, Environments, Graph}
use Rattle.cm_names.specs.Rights.{index_of}
use Rattle.cm_decl.specs.Faults.{section_rank}
use Rattle.cm_env.specs.declared.first.ParentLook.{ParentLook}
use Rattle.cm_env.specs.First.{Fault, SectionRule, Breaks, Stands, IsEarlierFault, IsFirstFault, HasNoFault, told}
use Rattle.cm_env.specs.FirstInside.{fault, IsFirstAt, first_found}

-- ---- the loop over looks

-- Where the first rule has no row that breaks it, the first fault is that of the other rules.
next_by : (l : ParentLook) (ls : List ParentLook) → l.row ≡ None → first_found (l ∷ ls) ≡ first_found ls
next_by l ls none = ap (λ o. elim o as (λ _. Option Fault) [ Some i ↦ Some (fault l.number l.section i) | None ↦ first_found ls ]) none

-- Where a look found no row, the first fault is that of the looks behind it.
pub found_next : (ls : List ParentLook) (i : ℕ) (d : ParentLook) → i < length ls → (get_or ls i d).row ≡ None → first_found (drop i ls) ≡ first_found (drop (i + 1) ls)
found_next ls i d below none = at_drop_more first_found ls i d below ∙ next_by (get_or ls i d) (drop (i + 1) ls) none

-- Where the first rule is broken at a row, the first fault is that row's.
here_by : (l : ParentLook) (ls : List ParentLook) (k : ℕ) → l.row ≡ Some k → first_found (l ∷ ls) ≡ Some (fault l.number l.section k)
here_by l ls k some = ap (λ o. elim o as (λ _. Option Fault) [ Some i ↦ Some (fault l.number l.section i) | None ↦ first_found ls ]) some

-- Where a look found a row, the first fault from there on is that of its rule, at this row.
pub found_here : (ls : List ParentLook) (i k : ℕ) (d : ParentLook) → i < length ls → (get_or ls i d).row ≡ Some k → first_found (drop i ls) ≡ Some (fault (get_or ls i d).number (get_or ls i d).section k)
found_here ls i k d below some = at_drop_more first_found ls i d below ∙ here_by (get_or ls i d) (drop (i + 1) ls) k some

-- The first fault that is found at this place, told by its number, section and index, is the one told.
pub here_told : (ls : List ParentLook) (i k n : ℕ) (d : ParentLook) → i < length ls → (get_or ls i d).row ≡ Some k → first_found ls ≡ first_found (drop i ls) → n ≡ index_of k → ◌≡◌ {A = Option (ℕ × Section × ℕ)} (Some ((get_or ls i d).number, (get_or ls i d).section, n)) (option_map told (first_found ls))
here_told ls i k n d below some left index =
    ap (λ m. Some ((get_or ls i d).number, (get_or ls i d).section, m)) index
    ∙ ap (option_map told) (sym (left ∙ found_here ls i k d below some))

-- ---- rules in their order

-- a number for each number and section, which rises in the order in which faults are reported
abbrev place : ℕ → Section → ℕ
place number section = number * 10 + section_rank section

-- the rules stand in that order, behind this place
abbrev pub AreInOrder : ℕ → List SectionRule → Type 0
AreInOrder low [] = Unit {0}
AreInOrder low (r ∷ rs) = (low < place r.number r.section) × AreInOrder (place r.number r.section) rs

-- each look is for a rule, and tells the first row that breaks it
abbrev pub AreLooks : List SectionRule → List ParentLook → Type 0
AreLooks [] [] = Unit {0}
AreLooks [] (l ∷ ls) = ⊥
AreLooks (r ∷ rs) [] = ⊥
AreLooks (r ∷ rs) (l ∷ ls) = (l.number ≡ r.number) × (l.section ≡ r.section) × IsFirstAt r.stands_at l.row × AreLooks rs ls

-- The rank of a section is below ten.
rank_small : (s : Section) → section_rank s < 10
rank_small Manifest = omega arith
rank_small Program = omega arith
rank_small Children = omega arith
rank_small Collections = omega arith
rank_small Capabilities = omega arith
rank_small Uses = omega arith
rank_small Offers = omega arith
rank_small Exposes = omega arith
rank_small Environments = omega arith
rank_small Graph = omega arith

-- what stands before is at a lower place, or at the same one and a lower index
before_place : (f g : Fault) → IsEarlierFault f g → place g.number g.section < place f.number f.section → ⊥
before_place f g h low =
    let small : section_rank f.section < 10 = rank_small f.section in
    let other : section_rank g.section < 10 = rank_small g.section in
    elim h [ inl less ↦ omega arith | inr same ↦ elim same.1 [ inl less ↦ omega (arith, same.0) | inr rest ↦ omega (arith, same.0, rest.0) ] ]

-- Of two faults of the same number and section, the earlier one has the lower index.
same_index : (f g : Fault) → IsEarlierFault f g → f.number ≡ g.number → f.section ≡ g.section → f.index < g.index
same_index f g h number section =
    elim h [ inl less ↦ absurd (omega arith) | inr same ↦ elim same.1 [ inl less ↦ absurd (omega (arith, ap section_rank section)) | inr rest ↦ rest.1 ] ]

-- a fault by rules that stand behind a place stands behind it
stands_behind : (rs : List SectionRule) (low : ℕ) (g : Fault) → AreInOrder low rs → Stands rs g → low < place g.number g.section
stands_behind [] low g order h = absurd h
stands_behind (r ∷ rs) low g order (inl breaks) =
    subst (λ n. low < n * 10 + section_rank g.section) (sym breaks.0) (subst (λ s. low < r.number * 10 + section_rank s) (sym breaks.1) order.0)
stands_behind (r ∷ rs) low g order (inr later) =
    let behind : place r.number r.section < place g.number g.section = stands_behind rs (place r.number r.section) g order.1 later in
    let here : low < place r.number r.section = order.0 in omega arith

-- ---- the first of them

-- This is the first fault by these rules; or it is none, and no row breaks one of them.
abbrev pub IsJudged : List SectionRule → Option Fault → Type 0
IsJudged rules None = HasNoFault rules
IsJudged rules (Some f) = IsFirstFault rules f

-- Where no row breaks the first rule, the first fault by the others is the first by all.
head_none : (r : SectionRule) (rs : List SectionRule) (o : Option Fault) → IsFirstAt r.stands_at None → IsJudged rs o → IsJudged (r ∷ rs) o
head_none r rs None none judged = λ g stands. elim stands [ inl breaks ↦ none g.index breaks.2 | inr later ↦ judged g later ]
head_none r rs (Some f) none judged = record {
  stands = inr judged.stands;
  none_before = λ g stands before. elim stands [ inl breaks ↦ none g.index breaks.2 | inr later ↦ judged.none_before g later before ];
}

-- Where the first rule in order is broken, its first row is that of the first fault by all.
head_some : (r : SectionRule) (rs : List SectionRule) (i low : ℕ) → IsFirstAt r.stands_at (Some i) → AreInOrder low (r ∷ rs) → IsFirstFault (r ∷ rs) (fault r.number r.section i)
head_some r rs i low first order = record {
  stands = inl (refl, refl, first.0);
  none_before = λ g stands before. elim stands [
    | inl breaks ↦ first.1 g.index (same_index g (fault r.number r.section i) before breaks.0 breaks.1) breaks.2
    | inr later ↦ before_place g (fault r.number r.section i) before (stands_behind rs (place r.number r.section) g order.1 later)
  ];
}

-- The first fault that looks tell, in the order of the rules, is the first by these; or there is none.
pub judged : (rs : List SectionRule) (ls : List ParentLook) (low : ℕ) → AreInOrder low rs → AreLooks rs ls → IsJudged rs (first_found ls)
judged [] [] low order looks = λ g h. h
judged [] (l ∷ ls) low order looks = absurd looks
judged (r ∷ rs) [] low order looks = absurd looks
judged (r ∷ rs) (l ∷ ls) low order looks = by l.row refl (judged rs ls (place r.number r.section) order.1 looks.3) where
  by : (o : Option ℕ) → l.row ≡ o → IsJudged rs (first_found ls) → IsJudged (r ∷ rs) (elim o as (λ _. Option Fault) [ Some i ↦ Some (fault l.number l.section i) | None ↦ first_found ls ])
  by None row later = head_none r rs (first_found ls) (subst (IsFirstAt r.stands_at) row looks.2) later
  by (Some i) row later =
      subst (λ n. IsFirstFault (r ∷ rs) (fault n l.section i)) (sym looks.0)
      (subst (λ s. IsFirstFault (r ∷ rs) (fault r.number s i)) (sym looks.1)
      (head_some r rs i low (subst (IsFirstAt r.stands_at) row looks.2) order))
