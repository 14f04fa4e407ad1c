use Rattle.std.specs.BTreeMap.{get, is_at}
use Rattle.std.proofs.Common.{◌≡◌, ℕ, [], ◌∷◌, ◌++◌, cond, Some, IsTrue, sym, ◌∙◌, ap, subst}
use Rattle.std.specs.Prelude.{unwrap_or}
use Rattle.std.specs.Ordering.{nat_cmp}
use Rattle.cm_decl.proofs.lemmas.Sameness.{never}
use Rattle.cm_order.specs.Glances.{is_in_list}
use Rattle.cm_order.proofs.lemmas.levels.Lists.{listed_last, same_number, lists_grow, clients_more}
use Rattle.cm_order.proofs.dependents.begin_list.Goals as goal

pub returns : goal.returns
returns c =
    let list : c.push.new.self ≡ [] ++ c.args.item ∷ [] = c.in_ok-push.ensures.ok ∙ ap (λ l. l ++ c.args.item ∷ []) c.new-list.ensures in
    record {
      here = subst (λ o. IsTrue (is_in_list (unwrap_or o []) c.args.item)) (sym c.in_ok-insert.ensures.updates.1) (subst (λ l. IsTrue (is_in_list l c.args.item)) (sym list) (listed_last [] c.args.item));
      kept = lists_grow nat_cmp same_number c.args.lists.now c.insert.new.self c.args.key c.push.new.self c.in_ok-insert.ensures.updates.0
          (λ z there. never (subst (λ o. IsTrue (is_in_list (unwrap_or o []) z)) c.requires there));
      real = λ rows p strong are. clients_more rows p c.args.lists.now c.insert.new.self c.args.key c.args.item []
          (subst (λ l. (q : ℕ) → get nat_cmp c.insert.new.self q ≡ cond (is_at (nat_cmp c.args.key) q) (Some l) (get nat_cmp c.args.lists.now q)) list c.in_ok-insert.ensures.updates.0)
          (λ z none. never none) strong are;
    }
