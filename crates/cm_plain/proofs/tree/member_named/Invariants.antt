use Rattle.std.proofs.Common.{◌≡◌, drop, option_map}
use Rattle.serde_json.specs.Find.{get_member}
use Rattle.cm_plain.specs.JsonTree.{view, members_view}
use Rattle.cm_plain.proofs.lemmas.Tree.{found_in}
use Rattle.cm_plain.proofs.tree.member_named.Given as goal

abbrev pub invariant-loop-member : goal.invariant-loop-member
invariant-loop-member l =
    found_in l.key (option_map (λ v. view v.now) l.found) (drop l.member-index l.members)
    ≡ get_member l.key (members_view l.members)
