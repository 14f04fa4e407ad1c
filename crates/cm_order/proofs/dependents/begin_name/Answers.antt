use Rattle.std.proofs.Common.{◌≡◌, ℕ, List, [], ◌∷◌, ◌++◌, cond, Some, IsTrue, rules, sym, ◌∙◌, ap, subst}
use Rattle.std.specs.Prelude.{unwrap_or}
use Rattle.std.specs.Ordering.{nat_cmp}
use Rattle.std.specs.Cmp.Lexicographic.{slice_cmp}
use Rattle.std.specs.BTreeMap.{get, is_at}
use Rattle.cm_decl.proofs.lemmas.Sameness.{never}
use Rattle.cm_order.specs.Glances.{is_in_list, is_offered}
use Rattle.cm_order.proofs.lemmas.levels.Lists.{listed_last, same_name, lists_grow, names_more}
use Rattle.cm_order.proofs.dependents.begin_name.Goals as goal

pub returns : goal.returns
returns c =
    let cmp = slice_cmp nat_cmp in
    let key : c.in_ok-clone.field-0 ≡ c.args.name.now = search rules in
    let list : c.push.new.self ≡ [] ++ c.args.source ∷ [] = c.in_ok-push.ensures.ok ∙ ap (λ l. l ++ c.args.source ∷ []) c.new-list.ensures in
    record {
      here = subst (λ k. IsTrue (is_offered c.insert.new.self k c.args.source)) key (subst (λ o. IsTrue (is_in_list (unwrap_or o []) c.args.source)) (sym c.in_ok-insert.ensures.updates.1) (subst (λ l. IsTrue (is_in_list l c.args.source)) (sym list) (listed_last [] c.args.source)));
      kept = lists_grow cmp same_name c.args.offered.now c.insert.new.self c.args.name.now c.push.new.self
          (subst (λ k. (q : List ℕ) → get cmp c.insert.new.self q ≡ cond (is_at (cmp k) q) (Some c.push.new.self) (get cmp c.args.offered.now q)) key c.in_ok-insert.ensures.updates.0)
          (λ z there. never (subst (λ o. IsTrue (is_in_list (unwrap_or o []) z)) c.requires there));
      real = names_more c.args.offered.now c.insert.new.self c.args.name.now c.args.source []
          (subst (λ l. (q : List ℕ) → get cmp c.insert.new.self q ≡ cond (is_at (cmp c.args.name.now) q) (Some l) (get cmp c.args.offered.now q)) list
          (subst (λ k. (q : List ℕ) → get cmp c.insert.new.self q ≡ cond (is_at (cmp k) q) (Some c.push.new.self) (get cmp c.args.offered.now q)) key c.in_ok-insert.ensures.updates.0))
          (λ z none. never none);
    }
