-- Promised.
-- Which row breaks which rule.
use Rattle.std.specs.Prelude.{ℕ, List, Bool, false, not, ◌||◌, is_some, slice_get}
use Rattle.std.specs.Option.{option_map_or}
use Rattle.cm_decl.specs.declared.decl.Decl.{Decl}
use Rattle.cm_decl.specs.declared.rows.Usage.{Usage}
use Rattle.cm_decl.specs.declared.rows.Offer.{Offer}
use Rattle.cm_decl.specs.declared.rows.Give.{Give}
use Rattle.cm_decl.specs.declared.section.Section.{Section}
use Rattle.cm_decl.specs.declared.section.Section.TheVariants.{Uses, Offers, Exposes}
use Rattle.cm_decl.specs.Rules.{Rule, UnknownRef, NotDeclared, TargetIsSource, RequiredVoid, is_child}
use Rattle.cm_decl.specs.Rules.{is_target, is_unknown, is_undeclared, is_given_back, is_required_void}
use Rattle.cm_decl.specs.Clashes.{clash}

-- whether there is an i-th row, and it passes the test
abbrev pub passes_at : {A : Type 0} → (A → Bool) → List A → ℕ → Bool
passes_at passes rows i = option_map_or passes (slice_get rows i) false

-- whether something is given from a child that isn't declared
abbrev pub has_unknown_source : Decl → Give → Bool
has_unknown_source d g = is_unknown (is_child d) g.from

-- whether something is given from the component itself, which doesn't provide it, or a directory from
-- the framework
abbrev pub has_undeclared_source : Decl → Give → Bool
has_undeclared_source d g = is_undeclared d g.kind g.from g.source_name

-- whether the i-th row of a section breaks this rule
abbrev pub breaks : Decl → Rule → Section → ℕ → Bool
breaks d UnknownRef Uses i = passes_at (λ (u : Usage). is_unknown (is_child d) u.from) d.uses i
breaks d UnknownRef Offers i =
    passes_at (λ (o : Offer). has_unknown_source d o.give || not (is_target d o.to)) d.offers i
breaks d UnknownRef Exposes i = passes_at (has_unknown_source d) d.exposes i
breaks d NotDeclared Uses i = passes_at (λ (u : Usage). is_undeclared d u.kind u.from u.name) d.uses i
breaks d NotDeclared Offers i = passes_at (λ (o : Offer). has_undeclared_source d o.give) d.offers i
breaks d NotDeclared Exposes i = passes_at (has_undeclared_source d) d.exposes i
breaks d TargetIsSource Offers i = passes_at (λ (o : Offer). is_given_back o.give.from o.to) d.offers i
breaks d RequiredVoid Offers i = passes_at (λ (o : Offer). is_required_void o.give) d.offers i
breaks d RequiredVoid Exposes i = passes_at is_required_void d.exposes i
breaks d rule section i = is_some (clash d rule section i)
