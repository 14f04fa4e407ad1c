-- Where a row looks, by where its parent looks and what it is given.
use Rattle.std.proofs.Common.{◌≡◌, ℕ, ◌<◌, List, [], Bool, true, false, cond, Option, Some, None, find, option_map, refl, sym, ◌∙◌, ap, arith}
use Rattle.std.specs.Option.{option_or}
use Rattle.cm_names.specs.declared.child.ChildName.{ChildName}
use Rattle.cm_facts.proofs.Options.{option_map_none}
use Rattle.cm_decl.specs.declared.decl.Decl.{Decl}
use Rattle.cm_decl.specs.declared.environment.Registration.{Registration}
use Rattle.cm_decl.specs.declared.environment.Environment.{Environment}
use Rattle.cm_world.specs.declared.row.Row.{Row}
use Rattle.cm_world.specs.Rows.{decl_of}
use Rattle.cm_world.specs.Sound.{IsOrderly}
use Rattle.cm_world.proofs.lemmas.trees.Finding.{some_same, none_some}
use Rattle.cm_env.specs.declared.scope.Which.{Which}
use Rattle.cm_env.specs.declared.reach.Reach.{Reach}
use Rattle.cm_env.specs.declared.reach.Reach.TheVariants.{Nothing, From, Unknown}
use Rattle.cm_env.specs.declared.giver.GivenEnvironment.{GivenEnvironment}
use Rattle.cm_env.specs.declared.giver.GivenEnvironment.TheVariants.{Realm, Undeclared, In}
use Rattle.cm_env.specs.Scope.{environment_of, environment_given, scope_of, registered}
use Rattle.cm_env.specs.Looks.{found_in}
use Rattle.cm_env.specs.Giving.{told_given}
use Rattle.cm_env.specs.Reach.{found_by, IsReachOf}
use Rattle.cm_env.proofs.lemmas.Steps.{Stands, is_known, found_above, found_undeclared, found_declared}

-- ---- what is given

-- Where a function of an option comes to something, the option has what it comes from.
some_given : {A B : Type 0} (f : A → B) (y : B) (o : Option A) → Some y ≡ option_map f o → (x : A) × (Some x ≡ o) × (y ≡ f x)
some_given f y None e = absurd (none_some y (sym e))
some_given f y (Some x) e = (x, refl, some_same y (f x) e)

-- ---- where a child looks

-- A child that is given no environment reaches what its parent does.
passed : (rows : List Row) (next i p : ℕ) (c : ChildName) (d : Decl) (r : Reach) → IsOrderly rows next → Stands rows i p c → Some d ≡ decl_of rows p → None ≡ environment_given d c → p < i → IsReachOf rows p r → IsReachOf rows i r
passed rows next i p c d Nothing orderly at resolved none low above =
    λ which name. found_above which rows next i p c d name orderly at resolved none ∙ above which name
passed rows next i p c d (From q e place) orderly at resolved none low above =
    (omega (arith, low, above.0), λ which name. found_above which rows next i p c d name orderly at resolved none ∙ above.1 which name)
passed rows next i p c d Unknown orderly at resolved none low above = tt

-- In a scope that extends the parent's a name finds what the parent finds, otherwise nothing.
extended : (t : Bool) (which : Which) (rows : List Row) (p : ℕ) (name : List ℕ) → find (is_known name) (cond t (scope_of which rows p) []) ≡ cond t (registered which rows p name) None
extended true which rows p name = refl
extended false which rows p name = refl

-- A child that is given an environment reaches what this one registers, and what it extends.
within : (rows : List Row) (next i p : ℕ) (c : ChildName) (d : Decl) (given : List ℕ) (e : Environment) → IsOrderly rows next → Stands rows i p c → Some d ≡ decl_of rows p → Some given ≡ environment_given d c → Some e ≡ environment_of d given → (which : Which) (name : List ℕ) → registered which rows i name ≡ found_by which rows p e name
within rows next i p c d given e orderly at resolved some there which name =
    found_declared which rows next i p c d given e name orderly at resolved some there
    ∙ ap (option_or (option_map (λ r. (p, r)) (found_in which e name))) (extended e.extends which rows p name)

-- what a child is given says where it looks
abbrev pub IsGiven : List Row → ℕ → ℕ → Reach → GivenEnvironment → Type 0
IsGiven rows i p above Realm = IsReachOf rows i above
IsGiven rows i p above Undeclared = IsReachOf rows i Nothing
IsGiven rows i p above (In e) = (place : ℕ) → IsReachOf rows i (From p e place)

-- What its parent's declaration gives a child says where it looks, where that of the parent is right.
pub given : (rows : List Row) (next i p : ℕ) (c : ChildName) (d : Decl) (above : Reach) (g : GivenEnvironment) → IsOrderly rows next → Stands rows i p c → Some d ≡ decl_of rows p → p < i → IsReachOf rows p above → told_given g ≡ option_map (environment_of d) (environment_given d c) → IsGiven rows i p above g
given rows next i p c d above Realm orderly at resolved low reach told =
    passed rows next i p c d above orderly at resolved (sym (option_map_none (environment_of d) (environment_given d c) (sym told))) low reach
given rows next i p c d above Undeclared orderly at resolved low reach told =
    let one : (x : List ℕ) × (Some x ≡ environment_given d c) × (None ≡ environment_of d x) = some_given (environment_of d) None (environment_given d c) told in
    λ which name. found_undeclared which rows next i p c d one.0 name orderly at resolved one.1 one.2
given rows next i p c d above (In e) orderly at resolved low reach told =
    let one : (x : List ℕ) × (Some x ≡ environment_given d c) × (Some e.now ≡ environment_of d x) = some_given (environment_of d) (Some e.now) (environment_given d c) told in
    λ place. (low, within rows next i p c d one.0 e.now orderly at resolved one.1 one.2)

-- ---- what is found there

-- A registration of the name in the environment is what a row finds that looks there.
pub here : (which : Which) (rows : List Row) (i p : ℕ) (e : Environment) (name : List ℕ) (r : Registration) → registered which rows i name ≡ found_by which rows p e name → Some r ≡ found_in which e name → registered which rows i name ≡ Some (p, r)
here which rows i p e name r by found =
    by ∙ ap (λ o. option_or (option_map (λ q. (p, q)) o) (cond e.extends (registered which rows p name) None)) (sym found)

-- Where the environment that extends hasn't the name, a row finds what the parent finds.
pub above : (which : Which) (rows : List Row) (i p : ℕ) (e : Environment) (name : List ℕ) → registered which rows i name ≡ found_by which rows p e name → None ≡ found_in which e name → e.extends ≡ true → registered which rows i name ≡ registered which rows p name
above which rows i p e name by none extends =
    by
    ∙ ap (λ o. option_or (option_map (λ q. (p, q)) o) (cond e.extends (registered which rows p name) None)) (sym none)
    ∙ ap (λ t. cond t (registered which rows p name) None) extends

-- Where the environment that doesn't extend hasn't the name, a row finds nothing by it.
pub nowhere : (which : Which) (rows : List Row) (i p : ℕ) (e : Environment) (name : List ℕ) → registered which rows i name ≡ found_by which rows p e name → None ≡ found_in which e name → e.extends ≡ false → registered which rows i name ≡ None
nowhere which rows i p e name by none alone =
    by
    ∙ ap (λ o. option_or (option_map (λ q. (p, q)) o) (cond e.extends (registered which rows p name) None)) (sym none)
    ∙ ap (λ t. cond t (registered which rows p name) None) alone
