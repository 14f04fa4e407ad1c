use Rattle.std.proofs.Common.{◌<◌, ◌∷◌, [], length, option_to_list, refl, sym, ap, subst, arith, ◌∙◌}
use Rattle.cm_world.specs.declared.row.Row.{Row}
use Rattle.cm_table.specs.Keys.{EachItem}
use Rattle.cm_table.specs.Monikers.{HasOwnName}
use Rattle.cm_table.specs.Numbering.{IsBare, bare_slot}
use Rattle.cm_table.proofs.lemmas.lists.EachItem.{each_append}
use Rattle.cm_table.proofs.lemmas.indexes.Preparing.{rows_pushed}
use Rattle.cm_table.proofs.prepared.slots_of.Goals as goal

pub loop-child-preserved : goal.loop-child-preserved
loop-child-preserved c =
    let ks = c.args.children.now in
    let i = c.loop-child.child-index in
    let ss = c.loop-child.slots.items in
    let lt : i < length ks = omega arith in
    record {
      rows = rows_pushed ks i c.child-item.result ss c.push.new.self.items c.new-row.result c.none.result c.in_ok-moniker.moniker lt c.child-item.is c.loop-child.invariant.rows c.in_ok-push.ensures.items (c.new-row.ensures ∙ c.in_ok-row.ensures);
      bare = subst (EachItem IsBare) (sym c.in_ok-push.ensures.items) (each_append IsBare ss (bare_slot c.new-row.result c.none.result c.in_ok-moniker.moniker ∷ []) c.loop-child.invariant.bare (refl, tt));
      own = subst (EachItem HasOwnName) (sym c.in_ok-push.ensures.items) (each_append HasOwnName ss (bare_slot c.new-row.result c.none.result c.in_ok-moniker.moniker ∷ []) c.loop-child.invariant.own
          ((λ m h. c.in_ok-moniker.ensures m h ∙ ap (λ (r : Row). option_to_list r.name) (sym c.new-row.ensures)), tt));
    }
