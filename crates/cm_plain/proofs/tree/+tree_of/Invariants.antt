use Rattle.std.proofs.Common.{◌≡◌, List, ◌++◌, take, map}
use Rattle.serde_json.specs.View as json
use Rattle.serde_json.proofs.Views.{Entry}
use Rattle.cm_plain.specs.JsonTree.{view, members_view}
use Rattle.cm_plain.proofs.tree.+tree_of.Given as goal

abbrev pub invariant-trees_of-loop-item : goal.invariant-trees_of-loop-item
invariant-trees_of-loop-item l = map view l.trees.items ≡ map json.view (take l.item-index l.item-items)

abbrev pub invariant-members_of-loop-key : goal.invariant-members_of-loop-key
invariant-members_of-loop-key l =
    (done : List Entry) × (l.members.entries ≡ done ++ l.key-iterator)
    × (members_view l.found.items ≡ json.members_view done)
