-- Where a walk says that there is no such use.
use Rattle.std.proofs.Common.{◌≡◌, ◌↔◌, ℕ, List, [], ◌∷◌, ◌++◌, Bool, true, false, true≢false, if◌then◌else◌, Option, Some, None, refl, sym, ◌∙◌, ap, subst}
use Rattle.cm_names.specs.declared.availability.Availability.{Availability}
use Rattle.cm_names.specs.Availability.{fits}
use Rattle.cm_names.specs.Rights.{RightSet, contains}
use Rattle.cm_decl.specs.declared.rows.Give.{Give}
use Rattle.cm_decl.specs.declared.rows.Usage.{Usage}
use Rattle.cm_decl.specs.declared.rows.Offer.{Offer}
use Rattle.cm_decl.specs.Clashes.{or_else}
use Rattle.cm_world.specs.declared.row.Row.{Row}
use Rattle.cm_world.specs.declared.frame.Builtin.{Builtin}
use Rattle.cm_world.specs.declared.route.Hop.{Hop}
use Rattle.cm_world.specs.declared.route.Why.{Why}
use Rattle.cm_world.specs.declared.route.Start.TheVariants.{UseAt, ExposeAt, OfferAt}
use Rattle.cm_world.specs.declared.route.Walked.{Walked}
use Rattle.cm_world.specs.declared.route.Walked.TheVariants.{Failed, NoSuchUse}
use Rattle.cm_world.specs.Stations.{Station, use_station, offer_station, expose_station}
use Rattle.cm_world.specs.NextStation.{NextStation, To, Ends, Needs, FromVoid, NoChild, Misses, next_of}
use Rattle.cm_world.specs.Route.{Named, First, NoUse, NoneExposed, IsDecided, IsWalkedFrom, trial_by, said_by, weak_availability, weak_rights, unless_fitting, unless_within, is_offer_or_expose, standing, asked_rights}
use Rattle.cm_world.proofs.lemmas.trees.Finding.{none_some}
use Rattle.cm_walk.specs.Laws.{SaysNoUse}

-- whether an answer is that there is no such use
abbrev says : Option Walked → Bool
says (Some NoSuchUse) = true
says _ = false

-- Where neither of two says that there is no such use, the first or else the second doesn't.
or_other : (a b : Option Walked) → says a ≡ false → says b ≡ false → says (or_else a b) ≡ false
or_other None b x y = y
or_other (Some v) b x y = x

-- What doesn't say that there is no such use doesn't say it under a condition either.
if_other : (t : Bool) (o : Option Walked) → says o ≡ false → says (if t then o else None) ≡ false
if_other true o x = x
if_other false o x = refl

-- A hop that fails unless a test passes doesn't say that there is no such use.
unless_other : (t : Bool) (hop : Hop) (why : Why) → says (if t then None else Some (Failed hop why)) ≡ false
unless_other true hop why = refl
unless_other false hop why = refl

-- A check of availability doesn't say that there is no such use.
fitting_other : (hop : Hop) (a b : Option Availability) → says (unless_fitting hop a b) ≡ false
fitting_other hop (Some asked) (Some given) = unless_other (fits asked given) hop _
fitting_other hop (Some asked) None = refl
fitting_other hop None b = refl

-- A check of rights doesn't say that there is no such use.
within_other : (hop : Hop) (a b : Option RightSet) → says (unless_within hop a b) ≡ false
within_other hop (Some asked) (Some stated) = unless_other (contains stated asked) hop _
within_other hop (Some asked) None = refl
within_other hop None b = refl

-- nothing that is decided at a station says so
weak_other : (prefix : List Station) (s : Station) (o : Option Walked) → says o ≡ false → says (or_else (weak_availability prefix s) (or_else (weak_rights prefix s) o)) ≡ false
weak_other prefix s o x =
    or_other (weak_availability prefix s) (or_else (weak_rights prefix s) o) (if_other (is_offer_or_expose s.hop.step) _ (fitting_other s.hop (standing prefix) (standing (prefix ++ s ∷ []))))
    (or_other (weak_rights prefix s) o (within_other s.hop (asked_rights (prefix ++ s ∷ [])) s.hop.rights) x)

-- What a walk comes to at a station isn't that there is no such use.
trial_other : (prefix : List Station) (s : Station) (n : NextStation) → says (trial_by prefix s n) ≡ false
trial_other prefix s NoChild = refl
trial_other prefix s (To t) = weak_other prefix s (said_by prefix s (To t)) refl
trial_other prefix s Ends = weak_other prefix s (said_by prefix s Ends) refl
trial_other prefix s (Needs j) = weak_other prefix s (said_by prefix s (Needs j)) refl
trial_other prefix s FromVoid = weak_other prefix s (said_by prefix s FromVoid) refl
trial_other prefix s (Misses hop why) = weak_other prefix s (said_by prefix s (Misses hop why)) refl

-- A walk that is decided at a station doesn't come to that there is no such use.
never_decided : (rows : List Row) (builtins : List Builtin) (prefix : List Station) (s : Station) (rest : List Station) → IsDecided rows builtins prefix s rest NoSuchUse → ⊥
never_decided rows builtins prefix s [] decided =
    true≢false (sym (ap says decided) ∙ trial_other prefix s (next_of rows builtins s))
never_decided rows builtins prefix s (t ∷ ts) decided = never_decided rows builtins (prefix ++ s ∷ []) t ts decided.1

-- A walk by a use says that there is none exactly where the use isn't there.
use_by : (rows : List Row) (builtins : List Builtin) (i : ℕ) (v : Walked) (o : Option Usage) → IsWalkedFrom rows builtins (elim o as (λ _. Named) [ None ↦ NoUse | Some u ↦ First (use_station rows i u) ]) v → (v ≡ NoSuchUse) ↔ (o ≡ None)
use_by rows builtins i v None walked = (λ e. refl, λ e. walked)
use_by rows builtins i v (Some u) walked =
    (λ e. absurd (never_decided rows builtins [] (use_station rows i u) walked.rest (subst (λ z. IsDecided rows builtins [] (use_station rows i u) walked.rest z) e walked.decided)), λ e. absurd (none_some u (sym e)))

-- A walk by an expose never says that there is no such use.
expose_by : (rows : List Row) (builtins : List Builtin) (i : ℕ) (missing : Hop) (v : Walked) (o : Option Give) → IsWalkedFrom rows builtins (elim o as (λ _. Named) [ None ↦ NoneExposed missing | Some g ↦ First (expose_station rows i g) ]) v → (v ≡ NoSuchUse) ↔ ⊥
expose_by rows builtins i missing v None walked = (λ e. true≢false (ap (λ z. says (Some z)) (sym e ∙ walked)), λ e. absurd e)
expose_by rows builtins i missing v (Some g) walked =
    (λ e. never_decided rows builtins [] (expose_station rows i g) walked.rest (subst (λ z. IsDecided rows builtins [] (expose_station rows i g) walked.rest z) e walked.decided), λ e. absurd e)

-- A walk by an offer says that there is no such use exactly where the offer isn't there.
offer_by : (rows : List Row) (builtins : List Builtin) (i : ℕ) (v : Walked) (o : Option Offer) → IsWalkedFrom rows builtins (elim o as (λ _. Named) [ None ↦ NoUse | Some x ↦ First (offer_station rows i x.give) ]) v → (v ≡ NoSuchUse) ↔ (o ≡ None)
offer_by rows builtins i v None walked = (λ e. refl, λ e. walked)
offer_by rows builtins i v (Some x) walked =
    (λ e. absurd (never_decided rows builtins [] (offer_station rows i x.give) walked.rest (subst (λ z. IsDecided rows builtins [] (offer_station rows i x.give) walked.rest z) e walked.decided)), λ e. absurd (none_some x (sym e)))

-- A walk says that there is no such use exactly where there is none.
pub says_no_use : SaysNoUse
says_no_use rows builtins (UseAt i path) v walked = use_by rows builtins i v _ walked
says_no_use rows builtins (ExposeAt i name) v walked = expose_by rows builtins i _ v _ walked
says_no_use rows builtins (OfferAt i k) v walked = offer_by rows builtins i v _ walked
