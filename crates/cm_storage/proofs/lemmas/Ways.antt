-- The way of a storage, step by step.
use Rattle.std.proofs.Common.{◌≡◌, ℕ, ◌<◌, List, Result, Ok, Err, sym, ◌∙◌, subst}
use Rattle.cm_decl.specs.declared.storage.Storage.{Storage}
use Rattle.cm_world.specs.declared.row.Row.{Row}
use Rattle.cm_storage.specs.declared.fault.StorageFault.{StorageFault}
use Rattle.cm_storage.specs.declared.way.Onward.{Onward as Step}
use Rattle.cm_storage.specs.declared.way.Onward.TheVariants as step
use Rattle.cm_storage.specs.Way.{Found, On, Ends, IsWay, ends, goes, onward}
use Rattle.cm_storage.specs.Looking.{GoesUp, StaysAt}

-- what goes on from a parent goes up
pub goes_up : (i p : ℕ) (r : Result Step StorageFault) → p < i → StaysAt p r → GoesUp i r
goes_up i p (Ok (step.On q name)) low at = subst (λ x. x < i) (sym at) low
goes_up i p (Ok (step.Ends o s)) low at = tt
goes_up i p (Err e) low at = tt

-- what comes from here on is what comes from the start
abbrev pub LeadsFrom : List Row → ℕ → List ℕ → ℕ → List ℕ → Type 0
LeadsFrom rows first name at wanted = (found : Found) → IsWay rows at wanted found → IsWay rows first name found

-- One step more up leads to what the way from the start comes to.
pub leads_more : (rows : List Row) (first at p : ℕ) (name wanted other : List ℕ) → LeadsFrom rows first name at wanted → On p other ≡ onward rows at wanted → LeadsFrom rows first name p other
leads_more rows first at p name wanted other leads is found way = leads found (goes (sym is) way)

-- Where the way ends at the row that was come to, the way from the start ends so.
pub leads_end : (rows : List Row) (first at : ℕ) (name wanted : List ℕ) (found : Found) → LeadsFrom rows first name at wanted → Ends found ≡ onward rows at wanted → IsWay rows first name found
leads_end rows first at name wanted found leads is = leads found (ends (sym is))

-- Two results that are the same fault have the same fault.
pub same_fault : {A : Type 0} (a b : StorageFault) → ◌≡◌ {A = Result A StorageFault} (Err a) (Err b) → a ≡ b
same_fault a b e = cc
