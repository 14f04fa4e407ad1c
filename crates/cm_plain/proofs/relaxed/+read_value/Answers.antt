use Rattle.std.proofs.Common.{◌≡◌, [], ◌∷◌, ◌++◌, rules}
use Rattle.cm_plain.specs.JsonTree.{members_view}
use Rattle.cm_plain.proofs.lemmas.Loose.{string_value, items_value, members_value, item_taken, member_taken}
use Rattle.cm_plain.proofs.lemmas.Loose.{items_first, items_next, items_close, items_trail, items_none}
use Rattle.cm_plain.proofs.lemmas.Loose.{members_first, members_next, members_close, members_trail, members_none}
use Rattle.cm_plain.proofs.relaxed.+read_value.Goals as goal

pub read_value-returns-in-Some-clause-value : goal.read_value-returns-in-Some-clause-value
read_value-returns-in-Some-clause-value t c =
    string_value c.args.depth c.args.text.now c.in-Some.rest.now c.in-Some.string c.in-Some.ensures.string

pub read_value-returns-in-Some-behind_mark-clause-value : goal.read_value-returns-in-Some-behind_mark-clause-value
read_value-returns-in-Some-behind_mark-clause-value t c = search (rules, members_value)

pub read_value-returns-clause-value : goal.read_value-returns-clause-value
read_value-returns-clause-value t c = search (rules, items_value)

pub read_item-returns-clause-value : goal.read_item-returns-clause-value
read_item-returns-clause-value t c = search (rules, item_taken)

pub read_items-returns-in-Some-clause-items : goal.read_items-returns-in-Some-clause-items
read_items-returns-in-Some-clause-items t c = search (rules, items_none)

pub read_items-items-init : goal.read_items-items-init
read_items-items-init t c = search (rules, items_first)

pub read_items-items-preserved : goal.read_items-items-preserved
read_items-items-preserved t c = search (rules, items_next)

pub read_items-returns-clause-items : goal.read_items-returns-clause-items
read_items-returns-clause-items t c =
    items_close c.args.depth c.args.text.now c.items.found.items c.items.left.now c.in_ok-rest.rest.now
    c.items.invariant.1 c.in_ok-rest.ensures.passed

pub read_items-returns-in-Some-behind_mark-2-clause-items : goal.read_items-returns-in-Some-behind_mark-2-clause-items
read_items-returns-in-Some-behind_mark-2-clause-items t c =
    items_trail c.args.depth c.args.text.now c.items.found.items c.items.left.now
    c.in-Some-behind_mark.behind.now c.in-Some-behind_mark-2.rest.now c.items.invariant.1
    c.in-Some-behind_mark.ensures.passed c.in-Some-behind_mark-2.ensures.passed

pub read_member-returns-clause-value : goal.read_member-returns-clause-value
read_member-returns-clause-value t c =
    let key = c.in_ok-key.key in
    let member = c.in_ok-member.member in
    let grown : c.push.new.self.items ≡ c.args.found.now.items ++ (key, member) ∷ [] = search rules in
    member_taken c.args.depth c.args.text.now c.in_ok-key.behind.now c.in_ok-behind.behind.now c.in_ok-member.rest.now
    c.args.found.now.items c.push.new.self.items key member c.in_ok-key.ensures.key c.in_ok-behind.ensures.passed
    c.in_ok-member.ensures.value grown

pub read_members-returns-in-Some-clause-members : goal.read_members-returns-in-Some-clause-members
read_members-returns-in-Some-clause-members t c = search (rules, members_none)

pub read_members-members-init : goal.read_members-members-init
read_members-members-init t c = search (rules, members_first)

pub read_members-members-preserved : goal.read_members-members-preserved
read_members-members-preserved t c = search (rules, members_next)

pub read_members-returns-clause-members : goal.read_members-returns-clause-members
read_members-returns-clause-members t c =
    members_close c.args.depth c.args.text.now (members_view c.members.found.items) c.members.left.now c.in_ok-rest.rest.now
    c.members.invariant.1 c.in_ok-rest.ensures.passed

pub read_members-returns-in-Some-behind_mark-2-clause-members : goal.read_members-returns-in-Some-behind_mark-2-clause-members
read_members-returns-in-Some-behind_mark-2-clause-members t c =
    members_trail c.args.depth c.args.text.now (members_view c.members.found.items) c.members.left.now
    c.in-Some-behind_mark.behind.now c.in-Some-behind_mark-2.rest.now c.members.invariant.1
    c.in-Some-behind_mark.ensures.passed c.in-Some-behind_mark-2.ensures.passed
