use Rattle.std.proofs.Common.{◌++◌, ◌∷◌, [], ◌<◌, Some, cond, length, refl, ◌+◌, ◌∙◌, ap, arith}
use Rattle.cm_facts.proofs.Options.{option_map_none}
use Rattle.cm_decl.specs.Graph.{static_name}
use Rattle.cm_decl.specs.Same.{same_child}
use Rattle.cm_table.specs.ByName.{led_to}
use Rattle.cm_table.proofs.lemmas.indexes.Preparing.{no_kids, kids_more, names_more}
use Rattle.cm_table.proofs.prepared.index_of.Goals as goal

pub loop-child-init : goal.loop-child-init
loop-child-init c = record {
  same = c.as_slice-children.ensures;
  next = refl;
  kids = no_kids c.new-index.result.base c.new-index.result.kids.items c.new-index.ensures.kids;
  names = λ n. option_map_none (λ k. c.new-index.result.base + k) (led_to c.new-index.result.names n) (c.new-index.ensures.names n);
}

pub loop-child-preserved : goal.loop-child-preserved
loop-child-preserved c =
    let ks = c.as_slice-children.result.now in
    let i = c.loop-child.child-index in
    let k = c.child-item.result in
    let lt : i < length ks = omega arith in
    record {
      same = c.loop-child.invariant.same;
      next = omega (arith, c.loop-child.invariant.next);
      kids = kids_more ks i k c.loop-child.index.kids.items c.put.new.self.kids.items lt c.loop-child.invariant.kids
          (c.in_ok-put.ensures.kids ∙ ap (λ n. c.loop-child.index.kids.items ++ n ∷ []) c.loop-child.invariant.next);
      names = names_more c.args.decl.now ks i k (led_to c.loop-child.index.names) (led_to c.put.new.self.names) c.requires c.loop-child.invariant.same lt c.child-item.is c.loop-child.invariant.names
          (λ n. c.in_ok-put.ensures.names n ∙ ap (λ m. cond (same_child m n) (Some c.loop-child.next) (led_to c.loop-child.index.names n)) c.in_ok-name_of.ensures
          ∙ ap (λ m. cond (same_child (static_name k.name) n) (Some m) (led_to c.loop-child.index.names n)) c.loop-child.invariant.next);
    }
