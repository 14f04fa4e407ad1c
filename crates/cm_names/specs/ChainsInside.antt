-- Inside.
-- Prefixes of chains, and when two names are the same.
use Rattle.std.specs.Prelude.{ℕ, List, Bool, ◌&&◌}
use Rattle.std.specs.Str.{bytes_eq}
use Rattle.std.specs.Option.{option_eq}
use Rattle.std.specs.Cmp.{IsEquivalence, and_equiv, on_equiv}
use Rattle.std.specs.Cmp.Lexicographic.{options_equiv, nat_list_eq_equiv}
use Rattle.cm_names.specs.declared.child.ChildName.{ChildName}
use Rattle.cm_names.specs.declared.link.NameLink.{NameLink, Root, Below'}
use Rattle.cm_names.specs.declared.chain.Prefix.{Prefix}
use Rattle.cm_names.specs.declared.chain.Prefix.TheVariants as prefix
use Rattle.cm_names.specs.Chains.{names_of, IsDeep}

-- how many names a link says that there are up to it
abbrev pub depth_of : NameLink → ℕ
depth_of Root = 0
depth_of (Below' p above name depth) = depth

-- the names of a prefix of a chain
abbrev pub names_in : Prefix → List ChildName
names_in (prefix.Listed names) = names.now
names_in (prefix.Linked link) = names_of link.now

-- each link of a prefix says how many names there are up to it
abbrev pub IsPrefixDeep : Prefix → Type 0
IsPrefixDeep (prefix.Listed names) = Unit {0}
IsPrefixDeep (prefix.Linked link) = IsDeep link.now

-- whether both collections and both names are the same, byte by byte
abbrev pub is_same : ChildName → ChildName → Bool
is_same a b = option_eq bytes_eq a.coll b.coll && bytes_eq a.name b.name

-- it holds of a name and itself, both ways round, and along a chain
pub same_equiv : IsEquivalence is_same
same_equiv =
    and_equiv (on_equiv (λ c. c.coll) (options_equiv nat_list_eq_equiv))
    (on_equiv (λ c. c.name) nat_list_eq_equiv)
