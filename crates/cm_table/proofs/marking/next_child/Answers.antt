use Rattle.std.proofs.Common.{◌==◌, ◌^◌, ◌∙◌, sym, ap, List}
use Rattle.std.specs.Prelude.{option_map}
use Rattle.cm_table.specs.declared.slot.Slot.{Slot}
use Rattle.cm_table.specs.Slots.{flat, rows_in, IsIndexed}
use Rattle.cm_table.proofs.lemmas.lists.EachItem.{each_find}
use Rattle.cm_table.proofs.lemmas.slots.Rowed.{row_of-slots, slots_rise}
use Rattle.cm_table.proofs.lemmas.indexes.Told.{next_none, next_told, rises_told, kids_fit}
use Rattle.cm_table.proofs.marking.next_child.Goals as goal

pub slot_in-requires-clause-increasing : goal.slot_in-requires-clause-increasing
slot_in-requires-clause-increasing c = slots_rise c.args.next (flat c.args.blocks.now) c.requires.indexed.orderly.increasing

pub returns-in-None : goal.returns-in-None
returns-in-None c =
    let ss : List Slot = flat c.args.blocks.now in
    next_none (rows_in ss) c.args.next c.args.parent c.args.after c.requires.indexed.orderly
    (ap (option_map (λ (s : Slot). s.row)) c.in-None.ensures ∙ sym (row_of-slots ss c.args.parent))

pub returns-in-Some : goal.returns-in-Some
returns-in-Some c =
    let ss : List Slot = flat c.args.blocks.now in
    let s : Slot = c.in-Some.slot.now in
    c.next_in.ensures
    ∙ next_told (rows_in ss) c.args.next c.args.parent s c.requires.indexed.orderly
    (each_find (IsIndexed (rows_in ss) c.args.next) (λ z. z.row.inc == c.args.parent) ss s c.requires.indexed.indexed (sym c.in-Some.ensures))
    (ap (option_map (λ (s : Slot). s.row)) c.in-Some.ensures ∙ sym (row_of-slots ss c.args.parent)) c.args.after

pub next_in-requires-clause-rises : goal.next_in-requires-clause-rises
next_in-requires-clause-rises c =
    let ss : List Slot = flat c.args.blocks.now in
    let s : Slot = c.in-Some.slot.now in
    rises_told (rows_in ss) c.args.next c.args.parent s c.requires.indexed.orderly
    (each_find (IsIndexed (rows_in ss) c.args.next) (λ z. z.row.inc == c.args.parent) ss s c.requires.indexed.indexed (sym c.in-Some.ensures))
    (ap (option_map (λ (s : Slot). s.row)) c.in-Some.ensures ∙ sym (row_of-slots ss c.args.parent))

pub next_in-requires-clause-fits : goal.next_in-requires-clause-fits
next_in-requires-clause-fits c =
    let ss : List Slot = flat c.args.blocks.now in
    let s : Slot = c.in-Some.slot.now in
    kids_fit (rows_in ss) c.args.next c.args.parent s c.requires.indexed.orderly
    (each_find (IsIndexed (rows_in ss) c.args.next) (λ z. z.row.inc == c.args.parent) ss s c.requires.indexed.indexed (sym c.in-Some.ensures))
    (ap (option_map (λ (s : Slot). s.row)) c.in-Some.ensures ∙ sym (row_of-slots ss c.args.parent)) (2 ^ 64) c.requires.indexed.fits
