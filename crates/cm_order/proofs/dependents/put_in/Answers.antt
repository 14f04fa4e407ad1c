use Rattle.std.proofs.Common.{◌≡◌, ℕ, [], cond, Some, IsTrue, sym, ◌∙◌, ap, subst}
use Rattle.std.specs.Prelude.{unwrap_or}
use Rattle.std.specs.Option.{option_copied_mut, is_some}
use Rattle.std.specs.Ordering.{nat_cmp}
use Rattle.std.specs.BTreeMap.{get, is_at}
use Rattle.std.proofs.lemmas.Result.{on_ok_weaker}
use Rattle.cm_order.specs.Glances.{is_in_list}
use Rattle.cm_order.proofs.lemmas.levels.Lists.{listed_more, listed_last, same_number, lists_grow, clients_more}
use Rattle.cm_order.proofs.dependents.put_in.Goals as goal

pub returns-in-Some-clause-here : goal.returns-in-Some-clause-here
returns-in-Some-clause-here c =
    let there : get nat_cmp c.args.lists.now c.args.key ≡ Some c.in-Some.list.now = sym c.get_mut.ensures.value ∙ ap option_copied_mut c.in-Some.is in
    on_ok_weaker c.push.result
    (λ pushed. subst (λ o. IsTrue (is_in_list (unwrap_or o []) c.args.item)) (sym ((c.get_mut.follows.holds c.push.new.self).3 (ap is_some there)).1)
    (subst (λ l. IsTrue (is_in_list l c.args.item)) (sym pushed) (listed_last c.in-Some.list.now c.args.item)))
    c.push.ensures.ok

pub returns-in-Some-clause-kept : goal.returns-in-Some-clause-kept
returns-in-Some-clause-kept c =
    let there : get nat_cmp c.args.lists.now c.args.key ≡ Some c.in-Some.list.now = sym c.get_mut.ensures.value ∙ ap option_copied_mut c.in-Some.is in
    on_ok_weaker c.push.result
    (λ pushed. lists_grow nat_cmp same_number c.args.lists.now (c.get_mut.follows.lender c.push.new.self) c.args.key c.push.new.self ((c.get_mut.follows.holds c.push.new.self).3 (ap is_some there)).0
    (λ z here. subst (λ l. IsTrue (is_in_list l z)) (sym pushed) (listed_more c.in-Some.list.now c.args.item z (subst (λ o. IsTrue (is_in_list (unwrap_or o []) z)) there here))))
    c.push.ensures.ok

pub returns-in-Some-clause-real : goal.returns-in-Some-clause-real
returns-in-Some-clause-real c =
    let there : get nat_cmp c.args.lists.now c.args.key ≡ Some c.in-Some.list.now = sym c.get_mut.ensures.value ∙ ap option_copied_mut c.in-Some.is in
    on_ok_weaker c.push.result
    (λ pushed. λ rows p strong are. clients_more rows p c.args.lists.now (c.get_mut.follows.lender c.push.new.self) c.args.key c.args.item c.in-Some.list.now
    (subst (λ l. (q : ℕ) → get nat_cmp (c.get_mut.follows.lender c.push.new.self) q ≡ cond (is_at (nat_cmp c.args.key) q) (Some l) (get nat_cmp c.args.lists.now q)) pushed ((c.get_mut.follows.holds c.push.new.self).3 (ap is_some there)).0)
    (λ z here. subst (λ o. IsTrue (is_in_list (unwrap_or o []) z)) (sym there) here) strong are)
    c.push.ensures.ok
