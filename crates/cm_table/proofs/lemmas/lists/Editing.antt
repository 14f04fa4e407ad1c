-- Items that are changed, or taken away, at the place that was found by binary search.
use Rattle.std.proofs.Common.{◌≡◌, ℕ, zero, suc, ◌<◌, ◌≤◌, List, [], ◌∷◌, ◌++◌, length, Bool, true, false, cond, ◌==◌, true≢false, Option, Some, None, is_some, refl, sym, ap, ◌∙◌, subst, arith, get_or, set, zero-lt-suc, le_of_suc-le-suc, append_assoc, append-nil, length-append}
use Rattle.std.specs.Prelude.{remove, OnSome}
use Rattle.std.specs.List.{flat_map}
use Rattle.std.specs.Cmp.{unsigned_Decides}
use Rattle.cm_world.specs.Edits.{edit_first, drop_first}
use Rattle.cm_table.specs.Keys.{item_of, Increasing, Filled, AreFilledBut, IsItemAt, IsPlace}
use Rattle.cm_trees.proofs.rows.Edits.{edit_first-at}
use Rattle.cm_table.proofs.lemmas.lists.Drops.{drop_first-at}
use Rattle.cm_table.proofs.lemmas.lists.BinarySearch.{increasing_back, none_at_zero, none_in_prefix, tail_place, others_before}

-- what becomes of a list where the item of a key is changed or taken away: it is the same where
-- there is none, and on two lists it acts on the one that has it
pub record ActsAt {Y : Type 0} (key : Y → ℕ) (i : ℕ) (act : List Y → List Y) : Type 0 where
  pub none : (ss : List Y) → item_of key ss i ≡ None → act ss ≡ ss
  pub prefix : (ss ys : List Y) → item_of key ys i ≡ None → act (ss ++ ys) ≡ act ss ++ ys
  pub back : (ss ys : List Y) → item_of key ss i ≡ None → act (ss ++ ys) ≡ ss ++ act ys

module _ {Y : Type 0} (key : Y → ℕ) where
  -- ---- a change

  -- The list with the item of this key changed.
  abbrev pub edited : ℕ → (Y → Y) → List Y → List Y
  edited i f ss = edit_first (λ s. key s == i) f ss

  -- A change at a key that no item has changes nothing, if so in the rest.
  edit_none_by : (t : Bool) (i : ℕ) (f : Y → Y) (s : Y) (ss : List Y) (o : Option Y) → (o ≡ None → edited i f ss ≡ ss) → cond t (Some s) o ≡ None → cond t (f s ∷ ss) (s ∷ edited i f ss) ≡ s ∷ ss
  edit_none_by true i f s ss o later e = absurd (true≢false (ap is_some e))
  edit_none_by false i f s ss o later e = ap (λ l. s ∷ l) (later e)

  -- Where no item has a key, a list with its item changed is as it was.
  pub edit_none : (i : ℕ) (f : Y → Y) (ss : List Y) → item_of key ss i ≡ None → edited i f ss ≡ ss
  edit_none i f [] e = refl
  edit_none i f (s ∷ ss) e = edit_none_by (key s == i) i f s ss (item_of key ss i) (edit_none i f ss) e

  -- A change in the first of two lists leaves the second as it was, if so in the rest.
  edit_prefix_by : (t : Bool) (i : ℕ) (f : Y → Y) (s : Y) (ss ys : List Y) → edited i f (ss ++ ys) ≡ edited i f ss ++ ys → cond t (f s ∷ (ss ++ ys)) (s ∷ edited i f (ss ++ ys)) ≡ cond t (f s ∷ ss) (s ∷ edited i f ss) ++ ys
  edit_prefix_by true i f s ss ys later = refl
  edit_prefix_by false i f s ss ys later = ap (λ l. s ∷ l) later

  -- A change at a key that the second of two lists hasn't is one in the first.
  edit_prefix : (i : ℕ) (f : Y → Y) (ss ys : List Y) → item_of key ys i ≡ None → edited i f (ss ++ ys) ≡ edited i f ss ++ ys
  edit_prefix i f [] ys e = edit_none i f ys e
  edit_prefix i f (s ∷ ss) ys e = edit_prefix_by (key s == i) i f s ss ys (edit_prefix i f ss ys e)

  -- A change at a key that the first of two lists hasn't leaves that as it was, if so in the rest.
  edit_back_by : (t : Bool) (i : ℕ) (f : Y → Y) (s : Y) (ss ys : List Y) (o : Option Y) → (o ≡ None → edited i f (ss ++ ys) ≡ ss ++ edited i f ys) → cond t (Some s) o ≡ None → cond t (f s ∷ (ss ++ ys)) (s ∷ edited i f (ss ++ ys)) ≡ s ∷ (ss ++ edited i f ys)
  edit_back_by true i f s ss ys o later e = absurd (true≢false (ap is_some e))
  edit_back_by false i f s ss ys o later e = ap (λ l. s ∷ l) (later e)

  -- A change at a key that the first of two lists hasn't is one in the second.
  edit_back : (i : ℕ) (f : Y → Y) (ss ys : List Y) → item_of key ss i ≡ None → edited i f (ss ++ ys) ≡ ss ++ edited i f ys
  edit_back i f [] ys e = refl
  edit_back i f (s ∷ ss) ys e = edit_back_by (key s == i) i f s ss ys (item_of key ss i) (edit_back i f ss ys) e

  -- A change of the item of a key acts, on two lists together, on the one that has the key.
  pub edit_acts : (i : ℕ) (f : Y → Y) → ActsAt key i (edited i f)
  edit_acts i f = record { none = edit_none i f; prefix = edit_prefix i f; back = edit_back i f }

  -- ---- a removal

  -- The list without the item of this key.
  abbrev pub dropped : ℕ → List Y → List Y
  dropped i ss = drop_first (λ s. key s == i) ss

  -- A removal at a key that no item has takes nothing away, if so in the rest.
  drop_none_by : (t : Bool) (i : ℕ) (s : Y) (ss : List Y) (o : Option Y) → (o ≡ None → dropped i ss ≡ ss) → cond t (Some s) o ≡ None → cond t ss (s ∷ dropped i ss) ≡ s ∷ ss
  drop_none_by true i s ss o later e = absurd (true≢false (ap is_some e))
  drop_none_by false i s ss o later e = ap (λ l. s ∷ l) (later e)

  -- Where no item has a key, a list without its item is as it was.
  pub drop_none : (i : ℕ) (ss : List Y) → item_of key ss i ≡ None → dropped i ss ≡ ss
  drop_none i [] e = refl
  drop_none i (s ∷ ss) e = drop_none_by (key s == i) i s ss (item_of key ss i) (drop_none i ss) e

  -- A removal from the first of two lists leaves the second as it was, if so in the rest.
  drop_prefix_by : (t : Bool) (i : ℕ) (s : Y) (ss ys : List Y) → dropped i (ss ++ ys) ≡ dropped i ss ++ ys → cond t (ss ++ ys) (s ∷ dropped i (ss ++ ys)) ≡ cond t ss (s ∷ dropped i ss) ++ ys
  drop_prefix_by true i s ss ys later = refl
  drop_prefix_by false i s ss ys later = ap (λ l. s ∷ l) later

  -- A removal at a key that the second of two lists hasn't is one from the first.
  drop_prefix : (i : ℕ) (ss ys : List Y) → item_of key ys i ≡ None → dropped i (ss ++ ys) ≡ dropped i ss ++ ys
  drop_prefix i [] ys e = drop_none i ys e
  drop_prefix i (s ∷ ss) ys e = drop_prefix_by (key s == i) i s ss ys (drop_prefix i ss ys e)

  -- A removal at a key that the first of two lists hasn't leaves that as it was, if so in the rest.
  drop_back_by : (t : Bool) (i : ℕ) (s : Y) (ss ys : List Y) (o : Option Y) → (o ≡ None → dropped i (ss ++ ys) ≡ ss ++ dropped i ys) → cond t (Some s) o ≡ None → cond t (ss ++ ys) (s ∷ dropped i (ss ++ ys)) ≡ s ∷ (ss ++ dropped i ys)
  drop_back_by true i s ss ys o later e = absurd (true≢false (ap is_some e))
  drop_back_by false i s ss ys o later e = ap (λ l. s ∷ l) (later e)

  -- A removal at a key that the first of two lists hasn't is one from the second.
  drop_back : (i : ℕ) (ss ys : List Y) → item_of key ss i ≡ None → dropped i (ss ++ ys) ≡ ss ++ dropped i ys
  drop_back i [] ys e = refl
  drop_back i (s ∷ ss) ys e = drop_back_by (key s == i) i s ss ys (item_of key ss i) (drop_back i ss ys) e

  -- Taking away the item of a key acts, on two lists together, on the one that has the key.
  pub drop_acts : (i : ℕ) → ActsAt key i (dropped i)
  drop_acts i = record { none = drop_none i; prefix = drop_prefix i; back = drop_back i }

  -- ---- in the last part that begins at the key or below

  module _ {X : Type 0} (f : X → List Y) where
    -- What acts on the last part that begins at the key or below acts so on all items.
    pub act_last : (i : ℕ) (act : List Y → List Y) → ActsAt key i act → (xs : List X) (k : ℕ) (d y : X) → Filled f xs → Increasing key (flat_map f xs) → IsPlace key f xs i (suc k) → f y ≡ act (f (get_or xs k d)) → flat_map f (set xs k y) ≡ act (flat_map f xs)
    act_last i act acts [] k d y filled r p e = let b : suc k ≤ 0 = p.bound in absurd (omega arith)
    act_last i act acts (z ∷ zs) zero d y filled r p e =
        ap (λ l. l ++ flat_map f zs) e
        ∙ sym (acts.prefix (f z) (flat_map f zs) (none_at_zero key f zs i filled.1 (increasing_back key (f z) (flat_map f zs) r) (tail_place key f z zs i 0 p)))
    act_last i act acts (z ∷ zs) (suc k) d y filled r p e =
        ap (λ l. f z ++ l) (act_last i act acts zs k d y filled.1 (increasing_back key (f z) (flat_map f zs) r) (tail_place key f z zs i (suc k) p) e)
        ∙ sym (acts.back (f z) (flat_map f zs) (none_in_prefix key f z zs i k filled r p))

    -- a part that was changed at its place
    pub act_part : (i : ℕ) (act : List Y → List Y) → ActsAt key i act → (bs : List X) (k : ℕ) (b c : X) → Filled f bs → Increasing key (flat_map f bs) → IsPlace key f bs i (suc k) → b ≡ get_or bs k b → f c ≡ act (f b) → flat_map f (set bs k c) ≡ act (flat_map f bs)
    act_part i act acts bs k b c filled r p is write = act_last i act acts bs k b c filled r p (write ∙ ap (λ z. act (f z)) is)

-- ---- parts that aren't empty

module _ {X Y : Type 0} (f : X → List Y) where
  -- With a part replaced by one that isn't empty, no part is empty.
  filled_set : (xs : List X) (k : ℕ) (y : X) → 0 < length (f y) → Filled f xs → Filled f (set xs k y)
  filled_set [] k y h filled = tt
  filled_set (z ∷ zs) zero y h filled = (h, filled.1)
  filled_set (z ∷ zs) (suc k) y h filled = (filled.0, filled_set zs k y h filled.1)

  -- Where no part is empty, the one at a place isn't.
  part_filled : (xs : List X) (k : ℕ) (d : X) → k < length xs → Filled f xs → 0 < length (f (get_or xs k d))
  part_filled [] k d lt filled = absurd (omega arith)
  part_filled (z ∷ zs) zero d lt filled = filled.0
  part_filled (z ∷ zs) (suc k) d lt filled = part_filled zs k d (le_of_suc-le-suc lt) filled.1

  -- Where no part is empty, none is with one more part that isn't.
  pub filled_push : (xs : List X) (y : X) → 0 < length (f y) → Filled f xs → Filled f (xs ++ y ∷ [])
  filled_push [] y h filled = (h, tt)
  filled_push (z ∷ zs) y h filled = (filled.0, filled_push zs y h filled.1)

  -- but perhaps one
  pub but_set : (xs : List X) (k : ℕ) (y : X) → Filled f xs → AreFilledBut f k (set xs k y)
  but_set [] k y filled = tt
  but_set (z ∷ zs) zero y filled = filled.1
  but_set (z ∷ zs) (suc k) y filled = (filled.0, but_set zs k y filled.1)

  -- Where no part is empty, but perhaps one, and that one isn't either, none is.
  pub but_filled : (xs : List X) (k : ℕ) (d : X) → AreFilledBut f k xs → 0 < length (f (get_or xs k d)) → Filled f xs
  but_filled [] k d but h = tt
  but_filled (z ∷ zs) zero d but h = (h, but)
  but_filled (z ∷ zs) (suc k) d but h = (but.0, but_filled zs k d but.1 h)

  -- Where no part is empty, but perhaps one, none is where that one is removed.
  pub but_removed : (xs : List X) (k : ℕ) → k < length xs → AreFilledBut f k xs → Filled f (remove xs k)
  but_removed [] k lt but = absurd (omega arith)
  but_removed (z ∷ zs) zero lt but = but
  but_removed (z ∷ zs) (suc k) lt but = (but.0, but_removed zs k (le_of_suc-le-suc lt) but.1)

  -- Where an empty part is removed, the items of all parts are the same.
  pub flat-empty : (xs : List X) (k : ℕ) (d : X) → k < length xs → f (get_or xs k d) ≡ [] → flat_map f (remove xs k) ≡ flat_map f xs
  flat-empty [] k d lt empty = absurd (omega arith)
  flat-empty (z ∷ zs) zero d lt empty = ap (λ l. l ++ flat_map f zs) (sym empty)
  flat-empty (z ∷ zs) (suc k) d lt empty = ap (λ l. f z ++ l) (flat-empty zs k d (le_of_suc-le-suc lt) empty)

-- ---- items that join the last part

module _ {X Y : Type 0} (f : X → List Y) where
  -- A part replaced by one with the same items leaves all items as they were.
  same_flat : (bs : List X) (k : ℕ) (b c : X) → b ≡ get_or bs k b → f c ≡ f b → flat_map f (set bs k c) ≡ flat_map f bs
  same_flat [] k b c is e = refl
  same_flat (z ∷ zs) zero b c is e = ap (λ l. l ++ flat_map f zs) (e ∙ ap f is)
  same_flat (z ∷ zs) (suc k) b c is e = ap (λ l. f z ++ l) (same_flat zs k b c is e)

  -- The last part replaced by one with more items leaves all items with these behind them.
  longer_flat : (bs : List X) (k : ℕ) (b c : X) (more : List Y) → suc k ≡ length bs → b ≡ get_or bs k b → f c ≡ f b ++ more → flat_map f (set bs k c) ≡ flat_map f bs ++ more
  longer_flat [] k b c more last is e = absurd (omega arith)
  longer_flat (z ∷ []) zero b c more last is e =
      append-nil (f c) ∙ e ∙ ap (λ l. l ++ more) (ap f is ∙ sym (append-nil (f z)))
  longer_flat (z ∷ w ∷ ws) zero b c more last is e = absurd (omega arith)
  longer_flat (z ∷ zs) (suc k) b c more last is e =
      ap (λ l. f z ++ l) (longer_flat zs k b c more (omega arith) is e)
      ∙ sym (append_assoc (f z) (flat_map f zs) more)

  -- either they stand behind those of the last part, or that is as it was
  pub joined_flat : (t : Bool) (bs : List X) (k : ℕ) (b c : X) (more : List Y) → suc k ≡ length bs → b ≡ get_or bs k b → f c ≡ cond t (f b ++ more) (f b) → flat_map f (set bs k c) ≡ cond t (flat_map f bs ++ more) (flat_map f bs)
  joined_flat true bs k b c more last is e = longer_flat bs k b c more last is e
  joined_flat false bs k b c more last is e = same_flat bs k b c is e

  -- A list that isn't empty isn't so with items that may join it.
  joined_long : (t : Bool) (xs more : List Y) → 0 < length xs → 0 < length (cond t (xs ++ more) xs)
  joined_long true xs more some = omega (arith, some, length-append xs more)
  joined_long false xs more some = some

  -- in both cases no part is empty
  pub joined_filled : (t : Bool) (bs : List X) (k : ℕ) (b c : X) (more : List Y) → suc k ≡ length bs → Filled f bs → b ≡ get_or bs k b → f c ≡ cond t (f b ++ more) (f b) → Filled f (set bs k c)
  joined_filled t bs k b c more last filled is e =
      let some : 0 < length (f b) = subst (λ z. 0 < length (f z)) (sym is) (part_filled f bs k b (omega arith) filled) in
      filled_set f bs k c (subst (λ l. 0 < length l) (sym e) (joined_long t (f b) more some)) filled

-- ---- what the code writes among items

-- the item of the key is changed at its place
pub edit_at : {Y : Type 0} (key : Y → ℕ) (ss : List Y) (i k : ℕ) (f : Y → Y) (s y : Y) → Increasing key ss → IsItemAt key ss i k → s ≡ get_or ss k s → y ≡ f s → set ss k y ≡ edited key i f ss
edit_at key ss i k f s y r at is write =
    ap (set ss k) (write ∙ ap f is)
    ∙ edit_first-at (λ z. key z == i) f ss k s at.bound ((unsigned_Decides (key (get_or ss k s)) i).1 (at.own s)) (λ j less. others_before key ss k s i r at.bound (at.own s) j less)

-- To remove the item at its place is to leave out the one of its key.
pub drop_at : {Y : Type 0} (key : Y → ℕ) (ss : List Y) (i k : ℕ) (d : Y) → Increasing key ss → IsItemAt key ss i k → remove ss k ≡ dropped key i ss
drop_at key ss i k d r at =
    drop_first-at (λ z. key z == i) ss k d at.bound ((unsigned_Decides (key (get_or ss k d)) i).1 (at.own d)) (λ j less. others_before key ss k d i r at.bound (at.own d) j less)

-- no item comes or goes, and a list that isn't empty stays so
edited_long_by : {Y : Type 0} (t : Bool) (s z : Y) (ss zs : List Y) → 0 < length (cond t (z ∷ ss) (s ∷ zs))
edited_long_by true s z ss zs = zero-lt-suc (length ss)
edited_long_by false s z ss zs = zero-lt-suc (length zs)

-- A list that isn't empty isn't so behind a change at a key.
edited_long : {Y : Type 0} (key : Y → ℕ) (i : ℕ) (f : Y → Y) (ss : List Y) → 0 < length ss → 0 < length (edited key i f ss)
edited_long key i f [] h = absurd (omega arith)
edited_long key i f (s ∷ ss) h = edited_long_by (key s == i) s (f s) ss (edited key i f ss)

-- a part in which an item was changed isn't empty
pub edited_filled : {X Y : Type 0} (f : X → List Y) (key : Y → ℕ) (i : ℕ) (g : Y → Y) (bs : List X) (k : ℕ) (b c : X) → k < length bs → Filled f bs → b ≡ get_or bs k b → f c ≡ edited key i g (f b) → Filled f (set bs k c)
edited_filled f key i g bs k b c lt filled is write =
    let some : 0 < length (f b) = subst (λ z. 0 < length (f z)) (sym is) (part_filled f bs k b lt filled) in
    filled_set f bs k c (subst (λ l. 0 < length l) (sym write) (edited_long key i g (f b) some)) filled

-- what is so of what was found, where something was
pub on_some : {A : Type 0} (o : Option A) (x : A) (P : Type 0) → o ≡ Some x → OnSome o P → P
on_some o x P e h = subst (λ q. OnSome q P) e h

-- A list whose length isn't zero has at least one item.
pub some_long : {A : Type 0} (xs : List A) → false ≡ (length xs == 0) → 0 < length xs
some_long [] e = absurd (true≢false (sym e))
some_long (x ∷ xs) e = zero-lt-suc (length xs)
