-- What a workload is made of, one after the other.
use Rattle.std.proofs.Common.{◌≡◌, ℕ, zero, suc, ◌+◌, ◌-◌, ◌*◌, ◌/◌, ◌%◌, ◌<◌, ◌≤◌, List, [], ◌∷◌, ◌++◌, All, map, filter, length, get_or, false, cond, ◌==◌, nat_lt, rules, Some, Result, Ok, Err, IfOk, refl, sym, ap, subst, ◌∙◌, arith, append_assoc, map-id}
use Rattle.std.specs.List.{range_with_len, slice_get}
use Rattle.std.proofs.lemmas.List.Elements.{All-nil, All-cons}
use Rattle.std.proofs.lemmas.Option.{slice_get_within, get_or_from_slice_get}
use Rattle.std.proofs.lemmas.List.FromFn.{map-range_with_len_more, filter_of_map_range_with_len_more, length-map-range_with_len, get_or-map-range_with_len}
use mathlib.Core.List.{map-map}
use Rattle.std.proofs.lemmas.Nat.{mod_below}
use Rattle.cm_names.specs.declared.child.ChildName.{ChildName}
use Rattle.cm_names.specs.declared.memory.Memory.{Memory}
use Rattle.cm_names.specs.declared.moniker.Moniker.{Moniker}
use Rattle.cm_decl.specs.Graph.{static_name}
use Rattle.cm_names.specs.Path.{service_path}
use Rattle.cm_world.specs.declared.event.Target.TheVariants as target
use Rattle.cm_command.specs.declared.command.Command.{Command}
use Rattle.cm_command.specs.declared.command.Command.TheVariants as command
use Rattle.cm_command.specs.declared.script.Line.{Line}
use Rattle.cm_call.specs.Generated.{parent_of, protocol_of, name_of, names_to, moniker_of, next_of, drawn, in_turns, start_at, start_of, ask_of}

-- ---- where an instance stands

-- The parent of an instance that isn't the root has a lower number.
parent_low : (k : ℕ) → parent_of (suc k) ≤ k
parent_low k = omega arith

-- any bound that is enough leads to the same names
names_enough : (a b k : ℕ) → k ≤ a → k ≤ b → names_to a k ≡ names_to b k
names_enough zero zero k p q = refl
names_enough zero (suc b) zero p q = refl
names_enough zero (suc b) (suc k) p q = absurd (omega (arith, p))
names_enough (suc a) zero zero p q = refl
names_enough (suc a) zero (suc k) p q = absurd (omega (arith, q))
names_enough (suc a) (suc b) zero p q = refl
names_enough (suc a) (suc b) (suc k) p q =
    ap (λ (ns : List ChildName). ns ++ static_name (name_of (suc k)) ∷ [])
    (names_enough a b (parent_of (suc k)) (omega (arith, p, parent_low k)) (omega (arith, q, parent_low k)))

-- an instance stands below its parent
names_behind : (k : ℕ) → 0 < k → names_to k k ≡ names_to (parent_of k) (parent_of k) ++ static_name (name_of k) ∷ []
names_behind zero some = absurd (omega (arith, some))
names_behind (suc k) some =
    ap (λ (ns : List ChildName). ns ++ static_name (name_of (suc k)) ∷ [])
    (names_enough k (parent_of (suc k)) (parent_of (suc k)) (parent_low k) (omega arith))

-- The moniker of an instance is that of its parent with the instance's name behind it.
pub below_parent : (k : ℕ) (parent : Moniker) (child : ChildName) (made : Result Moniker Memory) → 0 < k → parent ≡ moniker_of (parent_of k) → child ≡ static_name (name_of k)
    → IfOk made (λ (m : Moniker). m.parts ≡ parent.parts ++ child ∷ []) → IfOk made (λ (m : Moniker). m ≡ moniker_of k)
below_parent k parent child (Ok made) some stands named grown =
    ap (λ (ns : List ChildName). record { parts = ns })
    (grown ∙ ap (λ (m : Moniker). m.parts ++ child ∷ []) stands ∙ ap (λ (c : ChildName). names_to (parent_of k) (parent_of k) ++ c ∷ []) named ∙ sym (names_behind k some))
below_parent k parent child (Err e) some stands named grown = tt

-- The list of the monikers of the first instances is as long as there are instances.
pub moniker_count : (n : ℕ) (monikers : List Moniker) → monikers ≡ map moniker_of (range_with_len 0 n) → length monikers ≡ n
moniker_count n monikers are = ap (λ (l : List Moniker). length l) are ∙ length-map-range_with_len moniker_of 0 n

-- The moniker at a place of the list of all monikers is that of the instance of this number.
pub stands_at : (n i : ℕ) (monikers : List Moniker) (m : Moniker) → monikers ≡ map moniker_of (range_with_len 0 n) → slice_get monikers i ≡ Some m → m ≡ moniker_of i
stands_at n i monikers m are at =
    let within : i < n = subst (λ b. i < b) (moniker_count n monikers are) (slice_get_within monikers i m at) in
    sym (get_or_from_slice_get monikers i m m at) ∙ ap (λ (l : List Moniker). get_or l i m) are ∙ get_or-map-range_with_len moniker_of 0 n i i m within (omega arith)

-- ---- lists

-- With one more at the end, a list by numbers is that of one number more.
pub made_more : {X : Type 0} (f : ℕ → X) (xs : List X) (x : X) (k : ℕ) → xs ≡ map f (range_with_len 0 k) → x ≡ f k → xs ++ x ∷ [] ≡ map f (range_with_len 0 (k + 1))
made_more f xs x k is one =
    ap (λ l. l ++ x ∷ []) is ∙ ap (λ (y : _). map f (range_with_len 0 k) ++ y ∷ []) one ∙ sym (map-range_with_len_more f 0 k k (omega arith))

-- With one more number looked at, the numbers of children are those of so many numbers.
pub kids_more : (n k place : ℕ) (kids new : List ℕ) → kids ≡ filter (λ c. nat_lt c n) (range_with_len (k * 4 + 1) place)
    → new ≡ kids ++ cond (nat_lt (k * 4 + 1 + place) n) ((k * 4 + 1 + place) ∷ []) [] → new ≡ filter (λ c. nat_lt c n) (range_with_len (k * 4 + 1) (place + 1))
kids_more n k place kids new are grown =
    let numbers : (m : ℕ) → map (λ x. x) (range_with_len (k * 4 + 1) m) ≡ range_with_len (k * 4 + 1) m = λ m. map-id (range_with_len (k * 4 + 1) m) in
    grown ∙ ap (λ (l : List ℕ). l ++ cond (nat_lt (k * 4 + 1 + place) n) ((k * 4 + 1 + place) ∷ []) []) (are ∙ ap (filter (λ c. nat_lt c n)) (sym (numbers place)))
    ∙ sym (filter_of_map_range_with_len_more (λ c. nat_lt c n) (λ x. x) (k * 4 + 1) place (k * 4 + 1 + place) refl)
    ∙ ap (filter (λ c. nat_lt c n)) (numbers (place + 1))

-- ---- draws

-- Each number that is drawn below a bound is below it.
pub drawn_low : (n x more : ℕ) → 0 < n → All (λ k. k < n) (drawn n x more)
drawn_low n x zero some = All-nil (λ k. k < n)
drawn_low n x (suc more) some = All-cons (λ k. k < n) ((next_of x / 65536) % n) (drawn n (next_of x) more) (mod_below (next_of x / 65536) n some) (drawn_low n (next_of x) more some)

-- As many numbers are drawn as were asked for.
pub drawn_long : (n x more : ℕ) → length (drawn n x more) ≡ more
drawn_long n x zero = refl
drawn_long n x (suc more) = ap suc (drawn_long n (next_of x) more)

-- Where instances are to be drawn, the first is of the next number, and the rest from there on.
drawn_some : (n x more rest : ℕ) → more ≡ suc rest → drawn n x more ≡ (next_of x / 65536) % n ∷ drawn n (next_of x) rest
drawn_some n x more rest is = ap (drawn n x) is

-- With one draw more at the end, what is drawn and what is left to draw make the same list.
pub drawn_more : (n x place : ℕ) (draws whole : List ℕ) → place < n → draws ++ drawn n x (n - place) ≡ whole → (draws ++ (next_of x / 65536) % n ∷ []) ++ drawn n (next_of x) (n - (place + 1)) ≡ whole
drawn_more n x place draws whole lt is =
    let left : n - place ≡ suc (n - (place + 1)) = omega (arith, lt) in
    append_assoc draws ((next_of x / 65536) % n ∷ []) (drawn n (next_of x) (n - (place + 1)))
    ∙ ap (λ (l : List ℕ). draws ++ l) (sym (drawn_some n x (n - place) (n - (place + 1)) left))
    ∙ is

-- Once all places have their draws, the draws so far are the whole of them.
pub drawn_all : (n x place : ℕ) (draws whole : List ℕ) → n ≤ place → draws ++ drawn n x (n - place) ≡ whole → draws ≡ whole
drawn_all n x place draws whole le is =
    let none : n - place ≡ 0 = omega (arith, le) in
    sym (append_none draws) ∙ ap (λ m. draws ++ drawn n x m) (sym none) ∙ is
  where
    append_none : (l : List ℕ) → l ++ [] ≡ l
    append_none [] = refl
    append_none (y ∷ ys) = ap (λ r. y ∷ r) (append_none ys)

-- The rules by which search finds what draws are.
pub ruleset draws = (drawn_more, drawn_all, drawn_low, drawn_long)

-- ---- lines

-- With one line more at the end, the lines and those that are left to make make the same list.
pub turns_more : (j : ℕ) (c : Command) (cs : List Command) (lines whole : List Line) → lines ++ in_turns j (c ∷ cs) ≡ whole → (lines ++ record { line = 0; lane = j % 4; command = c } ∷ []) ++ in_turns (j + 1) cs ≡ whole
turns_more j c cs lines whole is = append_assoc lines (record { line = 0; lane = j % 4; command = c } ∷ []) (in_turns (j + 1) cs) ∙ is

-- The starts of all monikers are those of the instances of these numbers, each at its moniker.
pub starts_are : (monikers : List Moniker) (n : ℕ) → monikers ≡ map moniker_of (range_with_len 0 n) → map start_at monikers ≡ map start_of (range_with_len 0 n)
starts_are monikers n are = ap (map start_at) are ∙ map-map start_at moniker_of (range_with_len 0 n)

-- ---- what is asked

-- An instance with a number above zero isn't the root.
not_root : (k : ℕ) → 0 < k → (k == 0) ≡ false
not_root k some = grind (arith, rules)

-- whoever isn't the root opens what it uses
pub asks_use : (k : ℕ) (m : Moniker) (path : List ℕ) → 0 < k → m ≡ moniker_of k → path ≡ service_path (protocol_of (parent_of k)) → command.OpenUse (target.Named m) path ≡ ask_of k
asks_use k m path some stands leads =
    ap (λ (x : Moniker). command.OpenUse (target.Named x) path) stands
    ∙ ap (λ (t : List ℕ). command.OpenUse (target.Named (moniker_of k)) t) leads
    ∙ ap (λ b. cond b (command.Show (target.Named (moniker_of k))) (command.OpenUse (target.Named (moniker_of k)) (service_path (protocol_of (parent_of k))))) (sym (not_root k some))

-- ---- the whole

-- What is made of each item of a list is as many items as the list has.
pub map_long : {X Y : Type 0} (f : X → Y) (xs : List X) (n : ℕ) → length xs ≡ n → length (map f xs) ≡ n
map_long f [] n is = is
map_long f (x ∷ xs) n is = ap suc (map_long f xs (length xs) refl) ∙ is

-- Monikers of the first instances are those of as many instances as there are monikers.
pub known_of : (monikers : List Moniker) (n : ℕ) → monikers ≡ map moniker_of (range_with_len 0 n) → length monikers ≡ n → monikers ≡ map moniker_of (range_with_len 0 (length monikers))
known_of monikers n are long = are ∙ ap (λ m. map moniker_of (range_with_len 0 m)) (sym long)

-- what is said of where all stand
pub ruleset standing = (made_more, moniker_count)
