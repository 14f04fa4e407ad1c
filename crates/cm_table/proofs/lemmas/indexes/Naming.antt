-- Maps of children's names.
use Rattle.std.proofs.Common.{◌≡◌, ℕ, zero, suc, ◌<◌, ◌≤◌, ◌+◌, ◌-◌, List, [], ◌∷◌, map, Bool, true, false, cond, ◌==◌, ◌&&◌, true≢false, Option, Some, None, find, refl, sym, ap, ap₂, ◌∙◌, arith, bytes_eq, is_eq, ne_eqb}
use Rattle.std.specs.Prelude.{option_map, nat_lt}
use Rattle.std.specs.Option.{option_eq, option_cmp}
use Rattle.std.specs.Ordering.{nat_cmp}
use Rattle.std.specs.BTreeMap.{BTreeMap, get}
use Rattle.std.specs.Cmp.{unsigned_Decides, tied_then}
use Rattle.std.specs.Cmp.Lexicographic.{slice_cmp}
use Rattle.std.proofs.lemmas.Bool.{lt-ltb, le-ltb, ltb-true, ltb-false}
use Rattle.std.proofs.lemmas.Map.Text.{is_eq-slice_cmp}
use Rattle.cm_names.specs.declared.child.ChildName.{ChildName}
use Rattle.cm_decl.specs.Same.{same_child}
use Rattle.cm_decl.proofs.lemmas.Sameness.{same_child_exact}
use Rattle.cm_world.specs.Edits.{drop_first}
use Rattle.cm_world.specs.RowsInside.{is_behind}
use Rattle.cm_table.specs.declared.slot.ChildIndex.{ChildIndex}
use Rattle.cm_table.specs.Slots.{kids_at, named_at}
use Rattle.cm_table.specs.Names.{child_cmp}
use Rattle.cm_table.specs.ByName.{led_to}
use Rattle.cm_table.specs.declared.by_name.ChildrenByName.{ChildrenByName}
use Rattle.cm_table.specs.Keys.{nth}
use Rattle.cm_table.specs.Links.{unless}
use Rattle.cm_table.proofs.lemmas.indexes.Indexing.{unless_other}

-- ---- names

-- Names that may be there compare as equal exactly where they are the same.
options_tie : (p q : Option (List ℕ)) → is_eq (option_cmp (slice_cmp nat_cmp) p q) ≡ option_eq bytes_eq p q
options_tie None None = refl
options_tie None (Some y) = refl
options_tie (Some x) None = refl
options_tie (Some x) (Some y) = is_eq-slice_cmp x y

-- two names are equal in their order where they are the same
pub names_tie : (a b : ChildName) → is_eq (child_cmp a b) ≡ same_child a b
names_tie a b =
    sym (tied_then (option_cmp (slice_cmp nat_cmp) a.coll b.coll) (slice_cmp nat_cmp a.name b.name))
    ∙ ap₂ (λ s t. s && t) (options_tie a.coll b.coll) (is_eq-slice_cmp a.name b.name)

-- A name that is put into a map has its number there, and all other names have what they had.
pub put_name : (m n : BTreeMap ChildName ℕ) (name : ChildName) (a : ℕ) → ((q : ChildName) → get child_cmp n q ≡ cond (is_eq (child_cmp name q)) (Some a) (get child_cmp m q)) → (q : ChildName) → get child_cmp n q ≡ cond (same_child name q) (Some a) (get child_cmp m q)
put_name m n name a puts q = puts q ∙ ap (λ b. cond b (Some a) (get child_cmp m q)) (names_tie name q)

-- A map that forgets a name gives for each name what it gave, unless that is the forgotten number.
forget_by : (b : Bool) (m n : ChildrenByName) (name : ChildName) (a : ℕ) (q : ChildName) → same_child name q ≡ b → led_to n q ≡ cond (same_child name q) None (led_to m q) → led_to m name ≡ Some a → (led_to m q ≡ Some a → same_child name q ≡ true) → led_to n q ≡ unless a (led_to m q)
forget_by true m n name a q same takes had only =
    let is : led_to m q ≡ Some a = ap (led_to m) (sym (same_child_exact name q same)) ∙ had in
    takes ∙ ap (λ b. cond b None (led_to m q)) same
    ∙ sym (ap (unless a) is ∙ ap (λ b. cond b None (Some a)) ((unsigned_Decides a a).1 refl))
forget_by false m n name a q same takes had only =
    takes ∙ ap (λ b. cond b None (led_to m q)) same
    ∙ sym (unless_other a (led_to m q) (λ e. true≢false (sym (only e) ∙ same)))

-- Where a name that led to a child is taken out, all that led to that child is, and nothing else.
pub forgotten : (m n : ChildrenByName) (name : ChildName) (a : ℕ) → ((q : ChildName) → led_to n q ≡ cond (same_child name q) None (led_to m q)) → led_to m name ≡ Some a → ((q : ChildName) → led_to m q ≡ Some a → same_child name q ≡ true) → (q : ChildName) → led_to n q ≡ unless a (led_to m q)
forgotten m n name a takes had only q = forget_by (same_child name q) m n name a q refl (takes q) had (only q)

-- ---- numbers above a base

-- The number at a place of a list that was changed throughout is the number there, changed.
pub nth-map : (f : ℕ → ℕ) (ks : List ℕ) (n : ℕ) → nth (map f ks) n ≡ option_map f (nth ks n)
nth-map f [] n = refl
nth-map f (k ∷ ks) zero = refl
nth-map f (k ∷ ks) (suc n) = nth-map f ks n

-- a number above the base that is told of a longer one
pub same_above : (b k a : ℕ) → (k == a) ≡ (b + k == b + a)
same_above b k a = by (k == a) (b + k == b + a) refl refl where
  by : (t u : Bool) → (k == a) ≡ t → (b + k == b + a) ≡ u → t ≡ u
  by true true x y = refl
  by false false x y = refl
  by true false x y = let e : k ≡ a = (unsigned_Decides k a).0 x in absurd (true≢false (sym ((unsigned_Decides (b + k) (b + a)).1 (ap (λ n. b + n) e)) ∙ y))
  by false true x y = let e : b + k ≡ b + a = (unsigned_Decides (b + k) (b + a)).0 y in let f : k ≡ a = omega (arith, e) in absurd (true≢false (sym ((unsigned_Decides k a).1 f) ∙ x))

-- Numbers above a base, without one, are those without it, above the base, if so in the rest.
drop_by : (t : Bool) (b k a : ℕ) (ks : List ℕ) → (b + k == b + a) ≡ t → map (λ n. b + n) (drop_first (λ n. n == a) ks) ≡ drop_first (λ n. n == b + a) (map (λ n. b + n) ks) → map (λ n. b + n) (cond t ks (k ∷ drop_first (λ n. n == a) ks)) ≡ cond t (map (λ n. b + n) ks) ((b + k) ∷ drop_first (λ n. n == b + a) (map (λ n. b + n) ks))
drop_by true b k a ks e later = refl
drop_by false b k a ks e later = ap (λ l. (b + k) ∷ l) later

-- To drop a number and then raise all by a base is to raise all and then drop the raised one.
pub drop_above : (b a : ℕ) (ks : List ℕ) → map (λ n. b + n) (drop_first (λ n. n == a) ks) ≡ drop_first (λ n. n == b + a) (map (λ n. b + n) ks)
drop_above b a [] = refl
drop_above b a (k ∷ ks) =
    ap (λ t. map (λ n. b + n) (cond t ks (k ∷ drop_first (λ n. n == a) ks))) (same_above b k a) ∙ drop_by (b + k == b + a) b k a ks refl (drop_above b a ks)

-- none of them is below the base
pub drop_low : (b i : ℕ) (ks : List ℕ) → i < b → drop_first (λ n. n == i) (map (λ n. b + n) ks) ≡ map (λ n. b + n) ks
drop_low b i [] low = refl
drop_low b i (k ∷ ks) low =
    ap (λ t. cond t (map (λ n. b + n) ks) ((b + k) ∷ drop_first (λ n. n == i) (map (λ n. b + n) ks))) (ne_eqb (b + k) i (λ e. absurd (omega arith))) ∙ ap (λ l. (b + k) ∷ l) (drop_low b i ks low)

-- the first of them that is above a number
pub all_behind : (b i : ℕ) (ks : List ℕ) → i < b → find (is_behind (Some i)) (map (λ n. b + n) ks) ≡ nth (map (λ n. b + n) ks) 0
all_behind b i [] low = refl
all_behind b i (k ∷ ks) low = ap (λ t. cond t (Some (b + k)) (find (is_behind (Some i)) (map (λ n. b + n) ks))) (lt-ltb i (b + k) (omega arith))

-- A number is below another above a base exactly where what is left above the base is.
shifted : (b i k : ℕ) → b ≤ i → nat_lt i (b + k) ≡ nat_lt (i - b) k
shifted b i k le = by (nat_lt (i - b) k) refl where
  by : (t : Bool) → nat_lt (i - b) k ≡ t → nat_lt i (b + k) ≡ t
  by true e = let h : i - b < k = ltb-true (i - b) k e in lt-ltb i (b + k) (omega arith)
  by false e = let h : k ≤ i - b = ltb-false (i - b) k e in le-ltb i (b + k) (omega arith)

-- The first of raised numbers that is behind one is the first above its distance to the base, raised.
pub behind_above : (b i : ℕ) (ks : List ℕ) → b ≤ i → find (is_behind (Some i)) (map (λ n. b + n) ks) ≡ option_map (λ n. b + n) (find (λ k. nat_lt (i - b) k) ks)
behind_above b i [] le = refl
behind_above b i (k ∷ ks) le =
    ap (λ t. cond t (Some (b + k)) (find (is_behind (Some i)) (map (λ n. b + n) ks))) (shifted b i k le) ∙ by (nat_lt (i - b) k) (behind_above b i ks le) where
      by : (t : Bool) → find (is_behind (Some i)) (map (λ n. b + n) ks) ≡ option_map (λ n. b + n) (find (λ k. nat_lt (i - b) k) ks) → cond t (Some (b + k)) (find (is_behind (Some i)) (map (λ n. b + n) ks)) ≡ option_map (λ n. b + n) (cond t (Some k) (find (λ k. nat_lt (i - b) k) ks))
      by true later = refl
      by false later = later

-- Where none is given, the first number behind it is the first of all.
pub first_behind : (l : List ℕ) → find (is_behind None) l ≡ nth l 0
first_behind [] = refl
first_behind (n ∷ ns) = refl

-- a number that is taken away is told of longer ones too
pub remove_kids : (x y : ChildIndex) → y.base ≡ x.base → (above inc : ℕ) → x.base + above ≡ inc → y.kids.items ≡ drop_first (λ k. k == above) x.kids.items → kids_at y ≡ drop_first (λ k. k == inc) (kids_at x)
remove_kids x y same above inc sum e =
    ap₂ (λ b l. map (λ k. b + k) l) same e ∙ drop_above x.base above x.kids.items ∙ ap (λ n. drop_first (λ k. k == n) (kids_at x)) sum

-- what leads to an incarnation leads as far above the base
pub leads_above : (x : ChildIndex) (i above : ℕ) (c : ChildName) → x.base + above ≡ i → led_to x.names c ≡ Some above → named_at x c ≡ Some i
leads_above x i above c sum e = ap (option_map (λ k. x.base + k)) e ∙ ap Some sum
