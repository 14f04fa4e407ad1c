use Rattle.std.proofs.Common.{◌≡◌, [], ◌∷◌, ◌++◌, sym, ap, ◌∙◌, subst, append_assoc}
use Rattle.std.specs.List.Sorted.{IsStrictlySortedBy}
use Rattle.std.specs.Map.{keys_of}
use Rattle.std.specs.String.{string_cmp}
use Rattle.cm_plain.specs.JsonTree.{members_view}
use Rattle.serde_json.proofs.Views.{Entry}
use Rattle.cm_plain.proofs.lemmas.Tree.{member_moved}
use Rattle.cm_plain.proofs.tree.+tree_of.Goals as goal

pub members_of-loop-key-preserved : goal.members_of-loop-key-preserved
members_of-loop-key-preserved t c =
    let l = c.loop-key in
    let done = l.invariant.0 in
    let e : Entry = (c.in-Some.key.now, c.in-Some.member.now) in
    let left = c.next.new.self in
    let all : c.args.members.now.entries ≡ done ++ e ∷ left =
    l.invariant.1 ∙ ap (λ es. done ++ es) c.in-Some.ensures.steps in
    let sorted = subst (λ es. IsStrictlySortedBy string_cmp (keys_of es)) all c.iter-key-items.ensures.ordered in (
      done ++ e ∷ [],
      all ∙ sym (append_assoc done (e ∷ []) left),
      ap members_view c.in_ok-push.ensures.items
          ∙ member_moved done e left l.found.items (c.as_str.result, c.in_ok-tree.tree) sorted
          c.as_str.ensures.value c.in_ok-tree.ensures l.invariant.2,
    )
