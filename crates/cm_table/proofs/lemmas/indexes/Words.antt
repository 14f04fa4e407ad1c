-- Children found by their names, through words.
use Rattle.std.proofs.Common.{◌≡◌, ℕ, Bool, true, false, cond, ◌==◌, not, true≢false, Option, Some, None, is_eq, refl, sym, ap, ◌∙◌, subst}
use Rattle.std.specs.Prelude.{option_and_then}
use Rattle.std.specs.Ordering.{nat_cmp}
use Rattle.std.specs.BTreeMap.{BTreeMap, get}
use Rattle.std.specs.Cmp.{unsigned_Decides, unsigned_tied}
use Rattle.std.proofs.lemmas.Bool.{not-true, not-false}
use Rattle.cm_names.specs.declared.child.ChildName.{ChildName}
use Rattle.cm_decl.specs.Same.{same_child}
use Rattle.cm_decl.proofs.lemmas.Sameness.{same_child_exact}
use Rattle.cm_table.specs.declared.by_name.NamedChild.{NamedChild}
use Rattle.cm_table.specs.Names.{child_cmp}
use Rattle.cm_table.specs.ByName.{word_of, child_at, above_of, first_named, led_by, led, is_taken, is_own}
use Rattle.cm_table.proofs.lemmas.indexes.Naming.{names_tie}

-- ---- words

-- Words that compare as equal are the same.
tied : (v w : ℕ) → is_eq (nat_cmp v w) ≡ true → v ≡ w
tied v w e = (unsigned_Decides v w).0 (sym (unsigned_tied v w) ∙ e)

-- A word compares as equal to itself.
tied_itself : (v : ℕ) → is_eq (nat_cmp v v) ≡ true
tied_itself v = unsigned_tied v v ∙ (unsigned_Decides v v).1 refl

-- names whose words differ differ
pub apart : (name c : ChildName) → is_eq (nat_cmp (word_of name) (word_of c)) ≡ false → same_child name c ≡ false
apart name c e = by (same_child name c) refl where
  by : (t : Bool) → same_child name c ≡ t → t ≡ false
  by true same = absurd (true≢false (sym (tied_itself (word_of name)) ∙ ap (λ d. is_eq (nat_cmp (word_of name) (word_of d))) (same_child_exact name c same) ∙ e))
  by false same = refl

-- ---- the first one of a word, and the others

-- The child that the first one of a word leads to, where its name is this one.
abbrev by_first : ChildName → Option NamedChild → Option ℕ
by_first c o = option_and_then (λ n. above_of n c) o

-- where the first one isn't of another name, it says nothing of one that differs from that name
free_by : (o : Option NamedChild) (name c : ChildName) → is_taken o name ≡ false → same_child name c ≡ false → by_first c o ≡ None
free_by None name c free differs = refl
free_by (Some n) name c free differs =
    ap (λ b. cond b (Some n.above) None) (ap (λ d. same_child d c) (same_child_exact n.name name (not-false (same_child n.name name) free)) ∙ differs)

-- where it is of another name, it says nothing of that name
taken_by : (o : Option NamedChild) (name c : ChildName) → is_taken o name ≡ true → same_child name c ≡ true → by_first c o ≡ None
taken_by None name c taken same = refl
taken_by (Some n) name c taken same =
    ap (λ b. cond b (Some n.above) None) (ap (same_child n.name) (sym (same_child_exact name c same)) ∙ not-true (same_child n.name name) taken)

-- Where the first one is of a name, it says nothing of one that differs from it.
own_by : (o : Option NamedChild) (name c : ChildName) → is_own o name ≡ true → same_child name c ≡ false → by_first c o ≡ None
own_by None name c own differs = refl
own_by (Some n) name c own differs =
    ap (λ b. cond b (Some n.above) None) (ap (λ d. same_child d c) (same_child_exact n.name name own) ∙ differs)

-- Where the first one isn't of a name, it says nothing of that name.
other_by : (o : Option NamedChild) (name c : ChildName) → is_own o name ≡ false → same_child name c ≡ true → by_first c o ≡ None
other_by None name c other same = refl
other_by (Some n) name c other same =
    ap (λ b. cond b (Some n.above) None) (ap (same_child n.name) (sym (same_child_exact name c same)) ∙ other)

-- ---- a child is put

-- Where a child was put at a word, its name leads to it, and each other name as before.
put_by : (t s : Bool) (k o : Option NamedChild) (r : Option ℕ) (name c : ChildName) (a : ℕ) → k ≡ cond t (Some (child_at name a)) o → same_child name c ≡ s → (t ≡ false → s ≡ false) → (t ≡ true → s ≡ false → by_first c o ≡ None) → led_by (by_first c k) r ≡ cond s (Some a) (led_by (by_first c o) r)
put_by true true k o r name c a is same differ clear =
    ap (λ x. led_by (by_first c x) r) is ∙ ap (λ b. led_by (cond b (Some a) None) r) same
put_by true false k o r name c a is same differ clear =
    ap (λ x. led_by (by_first c x) r) is ∙ ap (λ b. led_by (cond b (Some a) None) r) same ∙ sym (ap (λ x. led_by x r) (clear refl refl))
put_by false true k o r name c a is same differ clear = absurd (true≢false (differ refl))
put_by false false k o r name c a is same differ clear = ap (λ x. led_by (by_first c x) r) is

-- A name put as the first one of its word leads to its child, and all others lead where they led.
pub put_as_first : (f g : BTreeMap ℕ NamedChild) (others : BTreeMap ChildName ℕ) (word : ℕ) (name : ChildName) (a : ℕ) → word ≡ word_of name → is_taken (get nat_cmp f word) name ≡ false → ((q : ℕ) → get nat_cmp g q ≡ cond (is_eq (nat_cmp word q)) (Some (child_at name a)) (get nat_cmp f q)) → (c : ChildName) → led g others c ≡ cond (same_child name c) (Some a) (led f others c)
put_as_first f g others word name a own free puts c =
    put_by (is_eq (nat_cmp word (word_of c))) (same_child name c) (get nat_cmp g (word_of c)) (get nat_cmp f (word_of c)) (get child_cmp others c) name c a (puts (word_of c)) refl
    (λ e. apart name c (ap (λ w. is_eq (nat_cmp w (word_of c))) (sym own) ∙ e))
    (λ e differs. free_by (get nat_cmp f (word_of c)) name c (subst (λ w. is_taken (get nat_cmp f w) name ≡ false) (tied word (word_of c) e) free) differs)

-- What changes at one name among the others changes what that name leads to, and no other.
beside : (s : Bool) (k r q v : Option ℕ) → q ≡ cond s v r → (s ≡ true → k ≡ None) → led_by k q ≡ cond s v (led_by k r)
beside true k r q v is clear = ap (λ x. led_by x q) (clear refl) ∙ is
beside false k r q v is clear = ap (led_by k) is

-- A name put among the others leads to its child, and all others lead where they led.
pub put_as_other : (f : BTreeMap ℕ NamedChild) (others new : BTreeMap ChildName ℕ) (word : ℕ) (name : ChildName) (a : ℕ) → word ≡ word_of name → is_taken (get nat_cmp f word) name ≡ true → ((q : ChildName) → get child_cmp new q ≡ cond (same_child name q) (Some a) (get child_cmp others q)) → (c : ChildName) → led f new c ≡ cond (same_child name c) (Some a) (led f others c)
put_as_other f others new word name a own taken puts c =
    beside (same_child name c) (first_named f c) (get child_cmp others c) (get child_cmp new c) (Some a) (puts c)
    (λ same. taken_by (get nat_cmp f (word_of c)) name c (subst (λ w. is_taken (get nat_cmp f w) name ≡ true) (own ∙ ap word_of (same_child_exact name c same)) taken) same)

-- ---- a name is forgotten

-- Where a child was taken out, its name leads nowhere, and each other name as before.
gone_by : (t s : Bool) (k o : Option NamedChild) (r q : Option ℕ) (c : ChildName) → k ≡ cond t None o → q ≡ cond s None r → (t ≡ false → s ≡ false) → (t ≡ true → s ≡ false → by_first c o ≡ None) → led_by (by_first c k) q ≡ cond s None (led_by (by_first c o) r)
gone_by true true k o r q c is gone differ clear = ap (λ x. led_by (by_first c x) q) is ∙ gone
gone_by true false k o r q c is gone differ clear = ap (λ x. led_by (by_first c x) q) is ∙ gone ∙ sym (ap (λ x. led_by x r) (clear refl refl))
gone_by false true k o r q c is gone differ clear = absurd (true≢false (differ refl))
gone_by false false k o r q c is gone differ clear = ap (λ x. led_by (by_first c x) q) is ∙ ap (led_by (by_first c o)) gone

-- A name that was taken out leads nowhere, and each other name as before.
named_out : (others new : BTreeMap ChildName ℕ) (name : ChildName) → ((q : ChildName) → get child_cmp new q ≡ cond (is_eq (child_cmp name q)) None (get child_cmp others q)) → (c : ChildName) → get child_cmp new c ≡ cond (same_child name c) None (get child_cmp others c)
named_out others new name takes c = takes c ∙ ap (λ b. cond b None (get child_cmp others c)) (names_tie name c)

-- A name that is taken out leads nowhere then, where it is that of the first one of its word.
pub removed_first : (f g : BTreeMap ℕ NamedChild) (others new : BTreeMap ChildName ℕ) (word : ℕ) (name : ChildName) → word ≡ word_of name → is_own (get nat_cmp f word) name ≡ true → ((q : ℕ) → get nat_cmp g q ≡ cond (is_eq (nat_cmp word q)) None (get nat_cmp f q)) → ((q : ChildName) → get child_cmp new q ≡ cond (is_eq (child_cmp name q)) None (get child_cmp others q)) → (c : ChildName) → led g new c ≡ cond (same_child name c) None (led f others c)
removed_first f g others new word name is_word own takes removes c =
    gone_by (is_eq (nat_cmp word (word_of c))) (same_child name c) (get nat_cmp g (word_of c)) (get nat_cmp f (word_of c)) (get child_cmp others c) (get child_cmp new c) c (takes (word_of c)) (named_out others new name removes c)
    (λ e. apart name c (ap (λ w. is_eq (nat_cmp w (word_of c))) (sym is_word) ∙ e))
    (λ e differs. own_by (get nat_cmp f (word_of c)) name c (subst (λ w. is_own (get nat_cmp f w) name ≡ true) (tied word (word_of c) e) own) differs)

-- A name that is taken out leads nowhere then, where it isn't that of the first one of its word.
pub removed_other : (f : BTreeMap ℕ NamedChild) (others new : BTreeMap ChildName ℕ) (word : ℕ) (name : ChildName) → word ≡ word_of name → is_own (get nat_cmp f word) name ≡ false → ((q : ChildName) → get child_cmp new q ≡ cond (is_eq (child_cmp name q)) None (get child_cmp others q)) → (c : ChildName) → led f new c ≡ cond (same_child name c) None (led f others c)
removed_other f others new word name is_word other removes c =
    beside (same_child name c) (first_named f c) (get child_cmp others c) (get child_cmp new c) None (named_out others new name removes c)
    (λ same. other_by (get nat_cmp f (word_of c)) name c (subst (λ w. is_own (get nat_cmp f w) name ≡ false) (is_word ∙ ap word_of (same_child_exact name c same)) other) same)
