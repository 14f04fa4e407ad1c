use Rattle.std.proofs.Common.{◌≤◌, ◌==◌, List, None, sym, subst}
use Rattle.cm_facts.proofs.Options.{is_some_true}
use Rattle.cm_table.specs.declared.slot.Slot.{Slot}
use Rattle.cm_table.specs.Keys.{Increasing}
use Rattle.cm_table.specs.Slots.{inc_of, flat, slot_of, base_of}
use Rattle.cm_table.proofs.lemmas.lists.EachItem.{each_find}
use Rattle.cm_table.proofs.lemmas.slots.Rowed.{increasing_indexed}
use Rattle.cm_table.proofs.lemmas.slots.Linking.{IsSwapped, linked, same_said, on_ok, on_err}
use Rattle.cm_table.proofs.links.link.Goals as goal

pub put_child-put-requires : goal.put_child-put-requires
put_child-put-requires c =
    let ss : List Slot = flat c.args.blocks.now.items in
    let s = is_some_true (slot_of ss c.args.parent) c.requires.lives in
    subst (λ x. base_of x ≤ c.args.inc) (sym (c.swap_in.ensures.index s.0 s.1))
    (each_find (λ z. base_of z.index ≤ c.args.inc) (λ z. z.row.inc == c.args.parent) ss s.0 c.requires.low s.1)

pub swap_in-requires-2-clause-increasing : goal.swap_in-requires-2-clause-increasing
swap_in-requires-2-clause-increasing c =
    subst (Increasing inc_of) (sym c.swap_in.ensures.slots) (increasing_indexed c.args.parent None (flat c.args.blocks.now.items) c.requires.increasing)

pub returns-clause-ok : goal.returns-clause-ok
returns-clause-ok c =
    let ss : List Slot = flat c.args.blocks.now.items in
    let w : IsSwapped ss (flat c.swap_in.new.blocks.items) (flat c.swap_in-2.new.blocks.items) c.args.parent c.swap_in.new.index c.put_child-put.new.index =
    record { rise = c.requires.increasing; out = c.swap_in.ensures.slots; was = c.swap_in.ensures.index; back = c.swap_in-2.ensures.slots } in
    on_ok c.put_child-put.result (λ kids names. linked ss _ _ c.args.parent c.args.name c.args.inc _ _ w c.put_child-put.ensures.base kids names) c.put_child-put.ensures.kids c.put_child-put.ensures.names

pub returns-clause-err : goal.returns-clause-err
returns-clause-err c =
    let ss : List Slot = flat c.args.blocks.now.items in
    let w : IsSwapped ss (flat c.swap_in.new.blocks.items) (flat c.swap_in-2.new.blocks.items) c.args.parent c.swap_in.new.index c.put_child-put.new.index =
    record { rise = c.requires.increasing; out = c.swap_in.ensures.slots; was = c.swap_in.ensures.index; back = c.swap_in-2.ensures.slots } in
    on_err c.put_child-put.result (λ kids names. same_said ss _ _ c.args.parent _ _ w c.put_child-put.ensures.base kids names) c.put_child-put.ensures.kids_err c.put_child-put.ensures.names_err
