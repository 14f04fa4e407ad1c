use Rattle.std.proofs.Common.{◌≡◌, [], ◌∷◌, ◌++◌, true, false, refl, rules}
use Rattle.cm_facts.proofs.Booleans.{and_false}
use Rattle.cm_plain.specs.Plain.{PassesPieces}
use Rattle.cm_plain.proofs.lemmas.Piece.{passes_then}
use Rattle.cm_plain.proofs.lemmas.Plain.{value_of_string, value_of_members, value_of_items, member_added}
use Rattle.cm_plain.proofs.lemmas.Plain.{first_item, next_item, items_end, no_items_end}
use Rattle.cm_plain.proofs.lemmas.Plain.{first_member, next_member, members_end, no_members_end}
use Rattle.cm_plain.proofs.plain.+read_value.Goals as goal

pub read_value-returns-in-Some-clause-value : goal.read_value-returns-in-Some-clause-value
read_value-returns-in-Some-clause-value t c = search (rules, value_of_string)

pub read_value-returns-in-Some-clause-passed : goal.read_value-returns-in-Some-clause-passed
read_value-returns-in-Some-clause-passed t c = c.in-Some.ensures.passed

pub read_value-returns-in-Some-behind_mark-clause-value : goal.read_value-returns-in-Some-behind_mark-clause-value
read_value-returns-in-Some-behind_mark-clause-value t c = search (rules, value_of_members)

pub read_value-returns-in-Some-behind_mark-clause-passed : goal.read_value-returns-in-Some-behind_mark-clause-passed
read_value-returns-in-Some-behind_mark-clause-passed t c = λ b.
    passes_then b false false c.args.text.now c.in-Some-behind_mark.inside.now c.in_ok-members.rest.now
    (c.in-Some-behind_mark.ensures.passed b (and_false b)) c.in_ok-members.ensures.passed

pub read_value-returns-clause-value : goal.read_value-returns-clause-value
read_value-returns-clause-value t c = search (rules, value_of_items)

pub read_value-returns-clause-passed : goal.read_value-returns-clause-passed
read_value-returns-clause-passed t c = λ b.
    passes_then b false false c.args.text.now c.in_ok-inside.inside.now c.in_ok-items.rest.now
    (c.in_ok-inside.ensures.passed b (and_false b)) c.in_ok-items.ensures.passed

pub read_item-returns-clause-passed : goal.read_item-returns-clause-passed
read_item-returns-clause-passed t c = c.in_ok-item.ensures.passed

pub read_items-returns-in-Some-clause-items : goal.read_items-returns-in-Some-clause-items
read_items-returns-in-Some-clause-items t c = search (rules, no_items_end)

pub read_items-returns-in-Some-clause-passed : goal.read_items-returns-in-Some-clause-passed
read_items-returns-in-Some-clause-passed t c = c.in-Some.ensures.passed false refl

pub read_items-items-init : goal.read_items-items-init
read_items-items-init t c =
    let passed : PassesPieces false c.args.text.now false c.in_ok-left.left.now = c.in_ok-left.ensures.passed false in
    search (rules, first_item)

pub read_items-items-preserved : goal.read_items-items-preserved
read_items-items-preserved t c =
    let left = c.in_ok-left-2.left.now in
    let passed : PassesPieces false c.args.text.now false left =
    passes_then false false false c.args.text.now c.items.left.now left c.items.invariant.3
    (passes_then false true false c.items.left.now c.in-Some-behind_mark.behind.now left (c.in-Some-behind_mark.ensures.passed false refl)
    (c.in_ok-left-2.ensures.passed true)) in
    search (rules, next_item)

pub read_items-returns-clause-items : goal.read_items-returns-clause-items
read_items-returns-clause-items t c = search (rules, items_end)

pub read_items-returns-clause-passed : goal.read_items-returns-clause-passed
read_items-returns-clause-passed t c =
    passes_then false false false c.args.text.now c.items.left.now c.in_ok-rest.rest.now c.items.invariant.3
    (c.in_ok-rest.ensures.passed false refl)

pub read_member-returns-clause-value : goal.read_member-returns-clause-value
read_member-returns-clause-value t c =
    let key = c.in_ok-key.key in
    let member = c.in_ok-member.member in
    let grown : c.push.new.self.items ≡ c.args.found.now.items ++ (key, member) ∷ [] = search rules in
    member_added c.args.depth c.args.text.now c.in_ok-key.behind.now c.in_ok-behind.behind.now c.in_ok-member.rest.now
    c.args.found.now.items c.push.new.self.items key member c.in_ok-key.ensures.lexed c.in_ok-behind.ensures.lexed
    c.in_ok-member.ensures.value grown

pub read_member-returns-clause-passed : goal.read_member-returns-clause-passed
read_member-returns-clause-passed t c = λ b.
    passes_then b false false c.args.text.now c.in_ok-key.behind.now c.in_ok-member.rest.now
    (c.in_ok-key.ensures.passed b)
    (passes_then false false false c.in_ok-key.behind.now c.in_ok-behind.behind.now c.in_ok-member.rest.now
    (c.in_ok-behind.ensures.passed false refl) (c.in_ok-member.ensures.passed false))

pub read_members-returns-in-Some-clause-members : goal.read_members-returns-in-Some-clause-members
read_members-returns-in-Some-clause-members t c = search (rules, no_members_end)

pub read_members-returns-in-Some-clause-passed : goal.read_members-returns-in-Some-clause-passed
read_members-returns-in-Some-clause-passed t c = c.in-Some.ensures.passed false refl

pub read_members-members-init : goal.read_members-members-init
read_members-members-init t c =
    let passed : PassesPieces false c.args.text.now false c.in_ok-left.left.now = c.in_ok-left.ensures.passed false in
    search (rules, first_member)

pub read_members-members-preserved : goal.read_members-members-preserved
read_members-members-preserved t c =
    let left = c.in_ok-left-2.left.now in
    let passed : PassesPieces false c.args.text.now false left =
    passes_then false false false c.args.text.now c.members.left.now left c.members.invariant.3
    (passes_then false true false c.members.left.now c.in-Some-behind_mark.behind.now left (c.in-Some-behind_mark.ensures.passed false refl)
    (c.in_ok-left-2.ensures.passed true)) in
    search (rules, next_member)

pub read_members-returns-clause-members : goal.read_members-returns-clause-members
read_members-returns-clause-members t c = search (rules, members_end)

pub read_members-returns-clause-passed : goal.read_members-returns-clause-passed
read_members-returns-clause-passed t c =
    passes_then false false false c.args.text.now c.members.left.now c.in_ok-rest.rest.now c.members.invariant.3
    (c.in_ok-rest.ensures.passed false refl)
