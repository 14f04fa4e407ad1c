-- What a row finds registered is decided by its parent's declaration, or found as the parent itself finds it.
use Rattle.std.proofs.Common.{◌≡◌, ℕ, zero, suc, ◌<◌, List, [], ◌∷◌, ◌++◌, Bool, true, false, cond, Option, Some, None, is_some, length, find, map, option_map, option_and_then, refl, sym, ◌∙◌, ap, subst, arith, true≢false}
use Rattle.std.specs.Option.{option_or}
use Rattle.std.specs.Str.{bytes_eq}
use Rattle.std.proofs.lemmas.List.Folds.{find-append}
use Rattle.cm_names.specs.declared.child.ChildName.{ChildName}
use Rattle.cm_facts.proofs.Numbers.{lt_before}
use Rattle.cm_decl.specs.declared.decl.Decl.{Decl}
use Rattle.cm_decl.specs.declared.environment.Registration.{Registration}
use Rattle.cm_decl.specs.declared.environment.Environment.{Environment}
use Rattle.cm_world.specs.declared.row.Row.{Row}
use Rattle.cm_world.specs.Rows.{row_of, decl_of}
use Rattle.cm_world.specs.RowsInside.{name_of}
use Rattle.cm_world.specs.Sound.{Lives, IsOrderly, IsParent}
use Rattle.cm_world.proofs.lemmas.trees.Climbing.{rank, rank-less, rank-within}
use Rattle.cm_world.proofs.lemmas.trees.Finding.{some_same, none_some}
use Rattle.cm_env.specs.declared.scope.Which.{Which}
use Rattle.cm_env.specs.Scope.{Scope, environment_of, environment_given, registrations_of, scope_in, scope_given, scope_named, scope_below, scope_to, scope_of, registered}
use Rattle.cm_env.specs.Looks.{found_in}
use Rattle.cm_env.proofs.lemmas.Agreeing.{opened, scope_same}

-- ---- the row that a place is told of

-- a row of this parent and this name
pub record Stands (rows : List Row) (i p : ℕ) (c : ChildName) : Type 0 where
  pub row : Row
  pub lives : Lives rows i row
  pub parent : row.parent ≡ Some p
  pub name : row.name ≡ Some c

-- A row that has a parent and a name stands as the child of that name there.
stands_by : (rows : List Row) (i p : ℕ) (c : ChildName) (o : Option Row) → row_of rows i ≡ o → Some p ≡ option_and_then (λ (r : Row). r.parent) o → Some c ≡ option_and_then (λ (r : Row). r.name) o → Stands rows i p c
stands_by rows i p c None here above name = absurd (none_some p (sym above))
stands_by rows i p c (Some r) here above name = record { row = r; lives = here; parent = sym above; name = sym name }

-- A row stands where it is told to, by its parent and its name.
pub stands : (rows : List Row) (i p : ℕ) (c : ChildName) → Some p ≡ option_and_then (λ (r : Row). r.parent) (row_of rows i) → Some c ≡ name_of rows i → Stands rows i p c
stands rows i p c above name = stands_by rows i p c (row_of rows i) refl above name

-- The parent of a row has a lower incarnation, in orderly rows.
pub parent_lower : (rows : List Row) (next i p : ℕ) → IsOrderly rows next → Some p ≡ option_and_then (λ (r : Row). r.parent) (row_of rows i) → p < i
parent_lower rows next i p orderly above = by (row_of rows i) refl above where
  by : (o : Option Row) → row_of rows i ≡ o → Some p ≡ option_and_then (λ (r : Row). r.parent) o → p < i
  by None here e = absurd (none_some p (sym e))
  by (Some r) here e = (orderly.parents i p r here (sym e)).0.lower

-- ---- one step of a scope

-- Where a row lives, the rows aren't none.
size_by : (n : ℕ) (rows : List Row) (i : ℕ) (r : Row) → Lives rows i r → length rows ≡ n → (m : ℕ) × (length rows ≡ suc m)
size_by zero rows i r lives e = let within : rank rows i < length rows = rank-within rows i r lives in absurd (omega arith)
size_by (suc m) rows i r lives e = (m, e)

-- the scope of a row by that of its parent
pub scope_step : (which : Which) (rows : List Row) (next i p : ℕ) (c : ChildName) (d : Decl) → IsOrderly rows next → Stands rows i p c → Some d ≡ decl_of rows p → scope_of which rows i ≡ scope_given which p (scope_of which rows p) d (environment_given d c)
scope_step which rows next i p c d orderly at resolved =
    let size : (m : ℕ) × (length rows ≡ suc m) = size_by (length rows) rows i at.row at.lives refl in
    let parent : IsParent rows p i = (orderly.parents i p at.row at.lives at.parent).0 in
    let less : rank rows p < rank rows i = rank-less rows p i parent.row parent.lower parent.lives in
    let within : rank rows i < length rows = rank-within rows i at.row at.lives in
    let above : scope_to size.0 which rows (Some p) ≡ scope_of which rows p =
    scope_same which rows rows next next size.0 (length rows) orderly orderly p parent.row parent.row parent.lives parent.lives
    (lt_before (rank rows p) (rank rows i) (length rows) size.0 less within size.1) (rank-within rows p parent.row parent.lives)
    (record { line = refl; names = λ j here. refl; decls = λ j here. refl }) in
    ap (λ n. scope_to n which rows (Some i)) size.1
    ∙ opened which rows size.0 i at.row at.lives
    ∙ ap (λ o. elim o as (λ _. Scope) [ None ↦ [] | Some q ↦ scope_named which q (scope_to size.0 which rows o) (decl_of rows q) at.row.name ]) at.parent
    ∙ ap (λ o. scope_named which p (scope_to size.0 which rows (Some p)) o at.row.name) (sym resolved)
    ∙ ap (λ o. scope_named which p (scope_to size.0 which rows (Some p)) (Some d) o) at.name
    ∙ ap (λ above. scope_given which p above d (environment_given d c)) above

-- ---- what is found in it

-- Whether a registration is known by this name.
abbrev pub is_known : List ℕ → ℕ × Registration → Bool
is_known name s = bytes_eq s.1.target name

-- without an environment, what the parent finds
pub found_above : (which : Which) (rows : List Row) (next i p : ℕ) (c : ChildName) (d : Decl) (name : List ℕ) → IsOrderly rows next → Stands rows i p c → Some d ≡ decl_of rows p → None ≡ environment_given d c → registered which rows i name ≡ registered which rows p name
found_above which rows next i p c d name orderly at resolved none =
    ap (find (is_known name)) (scope_step which rows next i p c d orderly at resolved ∙ ap (scope_given which p (scope_of which rows p) d) (sym none))

-- With an environment that isn't declared nothing is registered for the child.
pub found_undeclared : (which : Which) (rows : List Row) (next i p : ℕ) (c : ChildName) (d : Decl) (given name : List ℕ) → IsOrderly rows next → Stands rows i p c → Some d ≡ decl_of rows p → Some given ≡ environment_given d c → None ≡ environment_of d given → registered which rows i name ≡ None
found_undeclared which rows next i p c d given name orderly at resolved some none =
    ap (find (is_known name))
    (scope_step which rows next i p c d orderly at resolved
    ∙ ap (scope_given which p (scope_of which rows p) d) (sym some)
    ∙ ap (scope_in which p (scope_of which rows p)) (sym none))

-- what is found among registrations that are each beside one instance
found_beside : (p : ℕ) (name : List ℕ) (rs : List Registration) → find (is_known name) (map (λ r. (p, r)) rs) ≡ option_map (λ r. (p, r)) (find (λ r. bytes_eq r.target name) rs)
found_beside p name [] = refl
found_beside p name (r ∷ rs) = by (bytes_eq r.target name) (found_beside p name rs) where
  by : (t : Bool) → find (is_known name) (map (λ q. (p, q)) rs) ≡ option_map (λ q. (p, q)) (find (λ q. bytes_eq q.target name) rs) → cond t (Some (p, r)) (find (is_known name) (map (λ q. (p, q)) rs)) ≡ option_map (λ q. (p, q)) (cond t (Some r) (find (λ q. bytes_eq q.target name) rs))
  by true later = refl
  by false later = later

-- In a declared environment a child's registration is the first of the name there, or else what stands behind
-- it.
pub found_declared : (which : Which) (rows : List Row) (next i p : ℕ) (c : ChildName) (d : Decl) (given : List ℕ) (e : Environment) (name : List ℕ) → IsOrderly rows next → Stands rows i p c → Some d ≡ decl_of rows p → Some given ≡ environment_given d c → Some e ≡ environment_of d given → registered which rows i name ≡ option_or (option_map (λ r. (p, r)) (found_in which e name)) (find (is_known name) (cond e.extends (scope_of which rows p) []))
found_declared which rows next i p c d given e name orderly at resolved some there =
    ap (find (is_known name))
    (scope_step which rows next i p c d orderly at resolved
    ∙ ap (scope_given which p (scope_of which rows p) d) (sym some)
    ∙ ap (scope_in which p (scope_of which rows p)) (sym there))
    ∙ find-append (is_known name) (map (λ r. (p, r)) (registrations_of which e)) (cond e.extends (scope_of which rows p) [])
    ∙ ap (λ o. option_or o (find (is_known name) (cond e.extends (scope_of which rows p) []))) (found_beside p name (registrations_of which e))

-- A child finds the registration of a name that its declared environment has.
pub found_here : (which : Which) (rows : List Row) (next i p : ℕ) (c : ChildName) (d : Decl) (given : List ℕ) (e : Environment) (name : List ℕ) (r : Registration) → IsOrderly rows next → Stands rows i p c → Some d ≡ decl_of rows p → Some given ≡ environment_given d c → Some e ≡ environment_of d given → Some r ≡ found_in which e name → registered which rows i name ≡ Some (p, r)
found_here which rows next i p c d given e name r orderly at resolved some there found =
    found_declared which rows next i p c d given e name orderly at resolved some there
    ∙ ap (λ o. option_or (option_map (λ q. (p, q)) o) (find (is_known name) (cond e.extends (scope_of which rows p) []))) (sym found)

-- A child whose environment hasn't the name, and extends the realm's, finds what its parent finds.
pub found_extended : (which : Which) (rows : List Row) (next i p : ℕ) (c : ChildName) (d : Decl) (given : List ℕ) (e : Environment) (name : List ℕ) → IsOrderly rows next → Stands rows i p c → Some d ≡ decl_of rows p → Some given ≡ environment_given d c → Some e ≡ environment_of d given → found_in which e name ≡ None → e.extends ≡ true → registered which rows i name ≡ registered which rows p name
found_extended which rows next i p c d given e name orderly at resolved some there none extends =
    found_declared which rows next i p c d given e name orderly at resolved some there
    ∙ ap (λ o. option_or (option_map (λ q. (p, q)) o) (find (is_known name) (cond e.extends (scope_of which rows p) []))) none
    ∙ ap (λ t. find (is_known name) (cond t (scope_of which rows p) [])) extends

-- A child whose environment hasn't the name, and doesn't extend the realm's, finds nothing by it.
pub found_nowhere : (which : Which) (rows : List Row) (next i p : ℕ) (c : ChildName) (d : Decl) (given : List ℕ) (e : Environment) (name : List ℕ) → IsOrderly rows next → Stands rows i p c → Some d ≡ decl_of rows p → Some given ≡ environment_given d c → Some e ≡ environment_of d given → found_in which e name ≡ None → e.extends ≡ false → registered which rows i name ≡ None
found_nowhere which rows next i p c d given e name orderly at resolved some there none alone =
    found_declared which rows next i p c d given e name orderly at resolved some there
    ∙ ap (λ o. option_or (option_map (λ q. (p, q)) o) (find (is_known name) (cond e.extends (scope_of which rows p) []))) none
    ∙ ap (λ t. find (is_known name) (cond t (scope_of which rows p) [])) alone

-- ---- where there is no parent

-- A row that is there and has no parent finds nothing registered.
lone_by : (which : Which) (rows : List Row) (i n : ℕ) (o : Option Row) → row_of rows i ≡ o → None ≡ option_and_then (λ (r : Row). r.parent) o → scope_to n which rows (Some i) ≡ []
lone_by which rows i zero o here above = refl
lone_by which rows i (suc n) None here above = ap (λ o. elim o as (λ _. Scope) [ None ↦ [] | Some x ↦ scope_below which rows x (scope_to n which rows x.parent) ]) here
lone_by which rows i (suc n) (Some r) here above =
    opened which rows n i r here
    ∙ ap (λ o. elim o as (λ _. Scope) [ None ↦ [] | Some q ↦ scope_named which q (scope_to n which rows r.parent) (decl_of rows q) r.name ]) (sym above)

-- A row without a parent finds nothing registered.
pub found_lone : (which : Which) (rows : List Row) (i : ℕ) (name : List ℕ) → None ≡ option_and_then (λ (r : Row). r.parent) (row_of rows i) → registered which rows i name ≡ None
found_lone which rows i name above = ap (find (is_known name)) (lone_by which rows i (length rows) (row_of rows i) refl above)

-- A parent whose declaration is there isn't told to have none.
pub unresolved_by : (rows : List Row) (p : ℕ) (r : Row) (o : Option Decl) → row_of rows p ≡ Some r → r.decl ≡ o → is_some o ≡ true → None ≡ decl_of rows p → ⊥
unresolved_by rows p r None here own some none = true≢false (sym some)
unresolved_by rows p r (Some d) here own some none = none_some d (none ∙ ap (option_and_then (λ (x : Row). x.decl)) here ∙ own)

-- The parent of a row that stands is resolved, in orderly rows.
pub parent_resolved : (rows : List Row) (next i p : ℕ) (c : ChildName) → IsOrderly rows next → Stands rows i p c → None ≡ decl_of rows p → ⊥
parent_resolved rows next i p c orderly at none =
    let parent : IsParent rows p i = (orderly.parents i p at.row at.lives at.parent).0 in
    unresolved_by rows p parent.row parent.row.decl parent.lives refl parent.resolved none
