use Rattle.std.proofs.Common.{◌*◌, ◌+◌, ◌<◌, length}
use denote.Text.{Utf8}
use denote.Shadow.{shadow}
use Rattle.cm_plain.specs.JsonTree.{members_view}
use Rattle.cm_plain.proofs.lemmas.Loose.{ItemsRead, MembersRead}
use Rattle.cm_plain.proofs.relaxed.+read_value.Given as goal

abbrev pub decreases-read_value : goal.decreases-read_value
decreases-read_value l = 3 * l.depth

abbrev pub decreases-read_item : goal.decreases-read_item
decreases-read_item l = 3 * l.depth + 1

abbrev pub decreases-read_member : goal.decreases-read_member
decreases-read_member l = 3 * l.depth + 1

abbrev pub decreases-read_items : goal.decreases-read_items
decreases-read_items l = 3 * l.depth + 2

abbrev pub decreases-read_members : goal.decreases-read_members
decreases-read_members l = 3 * l.depth + 2

abbrev pub invariant-read_items-items : goal.invariant-read_items-items
invariant-read_items-items l =
    shadow (Utf8 l.left) × ItemsRead l.fn.depth l.fn.text l.found.items l.left × (length l.left < length l.fn.text)

abbrev pub decreases-read_items-items : goal.decreases-read_items-items
decreases-read_items-items l = length l.left

abbrev pub invariant-read_members-members : goal.invariant-read_members-members
invariant-read_members-members l =
    shadow (Utf8 l.left) × MembersRead l.fn.depth l.fn.text (members_view l.found.items) l.left
    × (length l.left < length l.fn.text)

abbrev pub decreases-read_members-members : goal.decreases-read_members-members
decreases-read_members-members l = length l.left
