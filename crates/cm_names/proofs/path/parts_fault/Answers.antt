use Rattle.std.proofs.Common.{rules, sym, ◌∙◌}
use Rattle.std.proofs.lemmas.List.{take_rest}
use Rattle.cm_names.proofs.lemmas.texts.Path.{faulty_part, good_part, last_part, behind}
use Rattle.cm_names.proofs.path.parts_fault.Goals as goal

pub returns-in-Some-part_fault : goal.returns-in-Some-part_fault
returns-in-Some-part_fault c = sym (faulty_part c.parts.place c.parts.rest.now c.in-Some.i c.in-Some-part_fault.fault (search rules) (search rules)) ∙ c.parts.invariant.same

pub parts-preserved : goal.parts-preserved
parts-preserved c = record { same = rw take_rest (sym (good_part c.parts.place c.parts.rest.now c.in-Some.i (search rules) (search rules)) ∙ c.parts.invariant.same); place = rw take_rest (behind c.parts.place _ c.in-Some.i c.parts.rest.now c.in-Some.ensures.bound c.parts.invariant.place) }

pub returns : goal.returns
returns c = c.part_fault-2.ensures ∙ sym (last_part c.parts.place c.parts.rest.now (search rules)) ∙ c.parts.invariant.same
