-- Where a moniker leads, name by name.
use Rattle.std.proofs.Common.{◌≡◌, ℕ, zero, suc, ◌+◌, ◌*◌, ◌<◌, ◌≤◌, List, [], ◌∷◌, ◌++◌, length, take, drop, get_or, Bool, true, false, cond, not, ◌&&◌, ◌==◌, true≢false, Option, Some, None, is_some, IsTrue, refl, sym, ◌∙◌, ap, subst, arith, find, option_map, option_and_then, option_to_list, nat_eq}
use Rattle.std.specs.Prelude.{if◌then◌else◌}
use Rattle.std.specs.Option.{option_eq}
use Rattle.std.specs.Cmp.{unsigned_Decides, first_so, second_so}
use Rattle.std.proofs.lemmas.List.{length-append, take_at, drop_at, append_assoc, drop_more}
use Rattle.std.proofs.lemmas.Bool.{or_parts, not-true, not-false}
use Rattle.cm_names.specs.declared.child.ChildName.{ChildName}
use Rattle.cm_names.specs.declared.moniker.Moniker.{Moniker}
use Rattle.cm_names.specs.MonikerInside.{MonikerStartsWith}
use Rattle.cm_facts.proofs.Booleans.{and_and_not}
use Rattle.cm_facts.proofs.Options.{option_eq_some}
use Rattle.cm_facts.proofs.Lists.{length_one_more}
use Rattle.cm_decl.specs.Same.{same_child}
use Rattle.cm_decl.specs.declared.node.Node.TheVariants.{Child}
use Rattle.cm_decl.proofs.lemmas.Sameness.{same_child_exact, same_node-refl}
use Rattle.cm_world.specs.declared.row.Row.{Row}
use Rattle.cm_world.specs.declared.store.Located.{Located}
use Rattle.cm_world.specs.declared.store.Located.TheVariants.{Unresolved, Missing}
use Rattle.cm_world.specs.declared.reply.Reply.{Reply}
use Rattle.cm_world.specs.declared.reply.Reply.TheVariants.{Need, Shut, NotFound}
use Rattle.cm_world.specs.Rows.{row_of, is_live, is_gone, is_resolved, is_closed, child_of, has_parent, has_name, names_to, moniker_of, some_above, at_or_above}
use Rattle.cm_world.specs.Sound.{IsOrderly}
use Rattle.cm_world.specs.Offering.{told_index}
use Rattle.cm_world.specs.Located.{located_from}
use Rattle.cm_world.specs.Find.{found_from}
use Rattle.cm_world.proofs.lemmas.trees.Finding.{some_same, none_some, find-passes}
use Rattle.cm_world.proofs.lemmas.trees.Walks.{find-lives}
use Rattle.cm_world.proofs.lemmas.trees.Climbing.{names_to-step, names_root, some_above-step}
use Rattle.cm_walk.specs.Laws.{IsFindReply, FindsAsLocated}
use Rattle.cm_walk.specs.Leading.{LeadsDownTo}

-- ---- one name more

-- Where a row is resolved and has the child, the names lead on from that child.
step_on : (rows : List Row) (i j k : ℕ) (rest : List ChildName) (b : Bool) (o : Option ℕ) → true ≡ b → Some j ≡ o → (if b then elim o as (λ _. Located) [ None ↦ Missing (told_index k) | Some n ↦ located_from rows n (k + 1) rest ] else Unresolved i) ≡ located_from rows j (k + 1) rest
step_on rows i j k rest false o here found = absurd (true≢false here)
step_on rows i j k rest true None here found = absurd (none_some j (sym found))
step_on rows i j k rest true (Some n) here found = ap (λ m. located_from rows m (k + 1) rest) (some_same n j (sym found))

-- Where the next name has a child, the rest of the names leads from it to the same end.
on_by : (rows : List Row) (parts : List ChildName) (i j k : ℕ) (c : ChildName) (all : Located) → k < length parts → c ≡ get_or parts k c → true ≡ is_resolved rows i → Some j ≡ child_of rows i c → located_from rows i k (drop k parts) ≡ all → located_from rows j (k + 1) (drop (k + 1) parts) ≡ all
on_by rows parts i j k c all inside here resolved found far =
    sym (step_on rows i j k (drop (k + 1) parts) (is_resolved rows i) (child_of rows i c) resolved found)
    ∙ sym (ap (located_from rows i k) (drop_more parts k c inside ∙ ap (λ x. x ∷ drop (k + 1) parts) (sym here)))
    ∙ far

-- where the row is resolved and has a child of the next name, the other names lead on from there
pub leads_on : (rows : List Row) (items parts : List ChildName) (i j k : ℕ) (c : ChildName) (all : Located) → items ≡ parts → k < length items → c ≡ get_or items k c → true ≡ is_resolved rows i → Some j ≡ child_of rows i c → located_from rows i k (drop k parts) ≡ all → located_from rows j (k + 1) (drop (k + 1) parts) ≡ all
leads_on rows items parts i j k c all same inside here resolved found =
    subst (λ l. located_from rows i k (drop k l) ≡ all → located_from rows j (k + 1) (drop (k + 1) l) ≡ all) same
    (on_by rows items i j k c all inside here resolved found)

-- A number within a bound is so after two steps, where the bound is two higher.
pub two_more : (a b m s k n : ℕ) → a ≡ b + 1 → b ≡ m + 1 → m + 2 * n ≤ s + 2 * k → a + 2 * n ≤ s + 2 * (k + 1)
two_more a b m s k n one two far = omega arith

-- ---- what a find replies

-- A find whose next name is missing is told with the names before it, or as many as can be told.
missing : (prefix : List ChildName) (c : ChildName) (cs : List ChildName) (k : ℕ) → length prefix ≡ k → (n : ℕ) × (told_index n ≡ told_index k) × (n < length (prefix ++ c ∷ cs)) × (NotFound (record { parts = prefix }) ≡ NotFound (record { parts = take n (prefix ++ c ∷ cs) }))
missing prefix c cs k len = (
  k,
  refl,
  inside k (length prefix) (length cs) (length (prefix ++ c ∷ cs)) len (length-append prefix (c ∷ cs)),
  ap (λ l. NotFound (record { parts = l })) (sym (take_at prefix (c ∷ cs) k len)),
) where
  inside : (n f l all : ℕ) → f ≡ n → all ≡ f + suc l → n < all
  inside n f l all a b = omega arith

-- Where the names lead tells the reply to a find, at one more name.
replies_by : (rows : List Row) (i k : ℕ) (prefix : List ChildName) (c : ChildName) (cs : List ChildName) → length prefix ≡ k → ((j : ℕ) → IsFindReply rows (prefix ++ c ∷ cs) (located_from rows j (k + 1) cs) (found_from rows j (prefix ++ c ∷ []) cs)) → (b : Bool) (o : Option ℕ) → IsFindReply rows (prefix ++ c ∷ cs) (if b then elim o as (λ _. Located) [ None ↦ Missing (told_index k) | Some j ↦ located_from rows j (k + 1) cs ] else Unresolved i) (if b then elim o as (λ _. Reply) [ None ↦ NotFound (record { parts = prefix }) | Some j ↦ found_from rows j (prefix ++ c ∷ []) cs ] else if is_closed rows i then Shut i else Need i)
replies_by rows i k prefix c cs len later false o = refl
replies_by rows i k prefix c cs len later true None = missing prefix c cs k len
replies_by rows i k prefix c cs len later true (Some j) = later j

-- The reply to a find from a row on is told by where the names that are left lead.
replies_from : (rows : List Row) (i k : ℕ) (prefix cs : List ChildName) → length prefix ≡ k → IsFindReply rows (prefix ++ cs) (located_from rows i k cs) (found_from rows i prefix cs)
replies_from rows i k prefix [] len = refl
replies_from rows i k prefix (c ∷ cs) len =
    replies_by rows i k prefix c cs len
    (λ j. subst (λ l. IsFindReply rows l (located_from rows j (k + 1) cs) (found_from rows j (prefix ++ c ∷ []) cs))
    (append_assoc prefix (c ∷ []) cs) (replies_from rows j (k + 1) (prefix ++ c ∷ []) cs (length_one_more prefix c k len)))
    (is_resolved rows i) (child_of rows i c)

-- a find replies as its moniker leads
pub finds_as_located : FindsAsLocated
finds_as_located rows names = replies_from rows 0 0 [] names refl

-- A find gets the reply of where its names lead.
pub find_reply : (rows : List Row) (names : List ChildName) (l : Located) → located_from rows 0 0 names ≡ l → IsFindReply rows names l (found_from rows 0 [] names)
find_reply rows names l is =
    subst (λ x. IsFindReply rows names x (found_from rows 0 [] names)) is (finds_as_located rows names)

-- names are left at an instance that isn't resolved
pub stuck : (rows : List Row) (names : List ChildName) (i k : ℕ) → 0 < length names → false ≡ is_resolved rows i → located_from rows i k names ≡ Unresolved i
stuck rows [] i k some lacks = absurd (omega arith)
stuck rows (c ∷ cs) i k some lacks = rw (← lacks) refl

-- ---- an instance that isn't gone is where its names lead

-- Where the row that one search finds passes another test, a search by that finds some row.
some_by : (t u : Bool) (q : Row → Bool) (s r : Row) (ss : List Row) (o : Option Row) → u ≡ q s → (o ≡ Some r → is_some (find q ss) ≡ true) → cond t (Some s) o ≡ Some r → q r ≡ true → is_some (cond u (Some s) (find q ss)) ≡ true
some_by true true q s r ss o is later e passes = refl
some_by true false q s r ss o is later e passes = absurd (true≢false (sym passes ∙ ap q (sym (some_same s r e)) ∙ sym is))
some_by false true q s r ss o is later e passes = refl
some_by false false q s r ss o is later e passes = later e

-- a search for what a row passes finds one
finds_some : (q : Row → Bool) (rows : List Row) (i : ℕ) (r : Row) → row_of rows i ≡ Some r → q r ≡ true → is_some (find q rows) ≡ true
finds_some q [] i r lives passes = absurd (none_some r lives)
finds_some q (s ∷ ss) i r lives passes =
    some_by (s.inc == i) (q s) q s r ss (row_of ss i) refl (λ e. finds_some q ss i r e passes) lives passes

-- A name that compares as the same as a child's is that child's name.
name_is : (c : ChildName) (o : Option ChildName) → option_eq same_child o (Some c) ≡ true → o ≡ Some c
name_is c None h = absurd (true≢false (sym h))
name_is c (Some d) h = ap Some (same_child_exact d c h)

-- A row that isn't doomed is found as the child of its parent by its name.
child_by : (rows : List Row) (next p i : ℕ) (c : ChildName) (r : Row) (o : Option Row) → IsOrderly rows next → row_of rows i ≡ Some r → r.parent ≡ Some p → r.name ≡ Some c → r.doomed ≡ false → find (λ s. has_parent p s && has_name c s && not s.doomed) rows ≡ o → is_some o ≡ true → option_map (λ s. s.inc) o ≡ Some i
child_by rows next p i c r None orderly lives up named undoomed found some = absurd (true≢false (sym some))
child_by rows next p i c r (Some s) orderly lives up named undoomed found some =
    let passes = find-passes (λ t. has_parent p t && has_name c t && not t.doomed) rows s found in
    let two = first_so (has_parent p s && has_name c s) (not s.doomed) passes in
    ap Some (sym (orderly.one_name i s.inc r s lives
    (find-lives (λ t. has_parent p t && has_name c t && not t.doomed) rows next s orderly.increasing found)
    undoomed (not-true s.doomed (second_so (has_parent p s && has_name c s) (not s.doomed) passes))
    (up ∙ sym (option_eq_some s.parent p (first_so (has_parent p s) (has_name c s) two)))
    (named ∙ sym (name_is c s.name (second_so (has_parent p s) (has_name c s) two)))))

-- a row that isn't doomed is the child of its name
child_is : (rows : List Row) (next p i : ℕ) (c : ChildName) (r : Row) → IsOrderly rows next → row_of rows i ≡ Some r → r.parent ≡ Some p → r.name ≡ Some c → r.doomed ≡ false → child_of rows p c ≡ Some i
child_is rows next p i c r orderly lives up named undoomed =
    child_by rows next p i c r (find (λ s. has_parent p s && has_name c s && not s.doomed) rows) orderly lives up named undoomed refl
    (finds_some (λ s. has_parent p s && has_name c s && not s.doomed) rows i r lives
    (and_and_not (has_parent p r) (has_name c r) r.doomed
    (ap (λ o. option_eq nat_eq o (Some p)) up ∙ (unsigned_Decides p p).1 refl)
    (ap (λ o. option_eq same_child o (Some c)) named ∙ same_node-refl (Child c)) undoomed))

-- the names of row i lead to it, whatever stands behind them
abbrev IsLed : List Row → ℕ → Type 0
IsLed rows i =
    (rest : List ChildName)
    → located_from rows 0 0 (names_to (length rows) rows (Some i) ++ rest) ≡ located_from rows i (length (names_to (length rows) rows (Some i))) rest

-- No names lead to the root, whatever stands behind them.
led_root : (rows : List Row) (i : ℕ) (names rest : List ChildName) → names ≡ [] → i ≡ 0 → located_from rows 0 0 (names ++ rest) ≡ located_from rows i (length names) rest
led_root rows i names rest none top =
    ap (λ l. located_from rows 0 0 (l ++ rest)) none
    ∙ sym (ap (λ l. located_from rows i (length l) rest) none ∙ ap (λ j. located_from rows j 0 rest) top)

-- Names that lead to a resolved parent lead on to its child by one more name.
led_below : (rows : List Row) (p i : ℕ) (c : ChildName) (above names rest : List ChildName) → names ≡ above ++ c ∷ [] → is_resolved rows p ≡ true → child_of rows p c ≡ Some i → located_from rows 0 0 (above ++ c ∷ rest) ≡ located_from rows p (length above) (c ∷ rest) → located_from rows 0 0 (names ++ rest) ≡ located_from rows i (length names) rest
led_below rows p i c above names rest is resolved child led =
    ap (λ l. located_from rows 0 0 (l ++ rest)) is
    ∙ ap (located_from rows 0 0) (append_assoc above (c ∷ []) rest)
    ∙ led
    ∙ step_on rows p i (length above) rest (is_resolved rows p) (child_of rows p c) (sym resolved) (sym child)
    ∙ sym (ap (λ n. located_from rows i n rest) (ap length is ∙ length-append above (c ∷ [])))

-- The names of a row with no doomed one at or above it lead to it, where those of lower rows do.
led_by : (rows : List Row) (next i : ℕ) (r : Row) (o : Option ℕ) (m : Option ChildName) → IsOrderly rows next → row_of rows i ≡ Some r → r.parent ≡ o → r.name ≡ m → some_above (λ s. s.doomed) rows i ≡ false → ((p : ℕ) → p < i → IsTrue (is_live rows p) → some_above (λ s. s.doomed) rows p ≡ false → IsLed rows p) → IsLed rows i
led_by rows next i r None m orderly lives up named above before rest =
    let top = orderly.root i r lives up in
    led_root rows i (names_to (length rows) rows (Some i)) rest
    (names_to-step rows next i r orderly lives ∙ ap (λ o. names_to (length rows) rows o ++ option_to_list r.name) up
    ∙ ap (λ l. l ++ option_to_list r.name) (names_root (length rows) rows) ∙ ap option_to_list top.1) top.0
led_by rows next i r (Some p) None orderly lives up named above before rest =
    absurd (true≢false (sym (orderly.parents i p r lives up).1 ∙ ap is_some named))
led_by rows next i r (Some p) (Some c) orderly lives up named above before rest =
    let parent = (orderly.parents i p r lives up).0 in
    let apart = or_parts r.doomed (at_or_above (length rows) (λ s. s.doomed) rows r.parent) (sym (some_above-step (λ s. s.doomed) rows next i r orderly lives) ∙ above) in
    led_below rows p i c (names_to (length rows) rows (Some p)) (names_to (length rows) rows (Some i)) rest
    (names_to-step rows next i r orderly lives ∙ ap (λ o. names_to (length rows) rows o ++ option_to_list r.name) up
    ∙ ap (λ o. names_to (length rows) rows (Some p) ++ option_to_list o) named)
    (ap (λ o. is_some (option_and_then (λ s. s.decl) o)) parent.lives ∙ parent.resolved)
    (child_is rows next p i c r orderly lives up named apart.0)
    (before p parent.lower (ap is_some parent.lives) (sym (ap (at_or_above (length rows) (λ s. s.doomed) rows) up) ∙ apart.1) (c ∷ rest))

-- The names of a live row, none doomed at or above it, lead to it, where those of lower rows do.
led_from : (rows : List Row) (next i : ℕ) (o : Option Row) → IsOrderly rows next → row_of rows i ≡ o → is_some o ≡ true → some_above (λ s. s.doomed) rows i ≡ false → ((p : ℕ) → p < i → IsTrue (is_live rows p) → some_above (λ s. s.doomed) rows p ≡ false → IsLed rows p) → IsLed rows i
led_from rows next i None orderly lives some above before = absurd (true≢false (sym some))
led_from rows next i (Some r) orderly lives some above before =
    led_by rows next i r r.parent r.name orderly lives refl refl above before

-- Below a bound, the names of a live row with no doomed one at or above it lead to it.
led_upto : (n : ℕ) (rows : List Row) (next i : ℕ) → i < n → IsOrderly rows next → IsTrue (is_live rows i) → some_above (λ s. s.doomed) rows i ≡ false → IsLed rows i
led_upto zero rows next i low orderly lives above = absurd (omega arith)
led_upto (suc n) rows next i low orderly lives above =
    led_from rows next i (row_of rows i) orderly refl lives above
    (λ p less there apart. led_upto n rows next p (omega arith) orderly there apart)

-- names that begin with those of a row that isn't gone lead on from there
pub begins_at : (rows : List Row) (next i : ℕ) (names : List ChildName) (own : Moniker) → IsOrderly rows next → is_gone rows i ≡ false → own ≡ moniker_of rows i → MonikerStartsWith names own.parts → LeadsDownTo rows names i (length own.parts)
begins_at rows next i names own orderly here is begun =
    let apart = or_parts (not (is_live rows i)) (some_above (λ s. s.doomed) rows i) here in
    let lives : IsTrue (is_live rows i) = not-false (is_live rows i) apart.0 in
    let named : own.parts ≡ names_to (length rows) rows (Some i) = ap (λ m. m.parts) is in
    record {
      lives = lives;
      within = omega (arith, ap length begun.1, length-append own.parts begun.0);
      on =
          ap (λ l. located_from rows i (length own.parts) (drop (length own.parts) l)) begun.1
          ∙ ap (located_from rows i (length own.parts)) (drop_at own.parts begun.0 (length own.parts) refl)
          ∙ sym (ap (located_from rows 0 0) begun.1
          ∙ subst (λ l. located_from rows 0 0 (l ++ begun.0) ≡ located_from rows i (length l) begun.0) (sym named)
          (led_upto (i + 1) rows next i (omega arith) orderly lives apart.1 begun.0));
    }
