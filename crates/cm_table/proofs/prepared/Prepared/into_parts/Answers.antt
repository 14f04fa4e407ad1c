use Rattle.std.proofs.Common.{◌≡◌, ◌∙◌, ◌+◌, ◌<◌, ◌^◌, ℕ, length, ap, map, subst, sym}
use Rattle.std.specs.Prelude.{option_map}
use Rattle.std.proofs.lemmas.List.{length-map}
use Rattle.cm_world.specs.Rows.{child_of}
use Rattle.cm_world.specs.End.{child_row, child_rows}
use Rattle.cm_table.specs.Ready.{Ready}
use Rattle.cm_table.specs.Keys.{EachItem}
use Rattle.cm_table.specs.Slots.{rows_in}
use Rattle.cm_table.specs.Monikers.{HasOwnName}
use Rattle.cm_table.specs.Numbering.{IsBare, HasMarks}
use Rattle.cm_table.proofs.lemmas.slots.Numbers.{rows_of_numbered, bare_numbered, marks_numbered, own_numbered}
use Rattle.cm_table.proofs.lemmas.monikers.Hanging.{rows_hung, each_hung}
use Rattle.cm_table.proofs.lemmas.indexes.Preparing.{kids_first, names_first}
use Rattle.cm_table.proofs.prepared.Prepared.into_parts.Goals as goal

pub returns-clause-rows : goal.returns-clause-rows
returns-clause-rows c =
    rows_hung c.number_all.new.slots.items c.hang_all.new.slots.items c.hang_all.ensures.same
    ∙ ap rows_in c.number_all.ensures
    ∙ rows_of_numbered c.args.parent c.args.first c.args.marks c.self.inside.children.items c.self.inside.decl.children c.self.invariant.children
    ∙ ap (λ (s : Ready). child_rows c.args.parent c.args.first s.decl.children) c.self.view_is

pub returns-clause-bare : goal.returns-clause-bare
returns-clause-bare c =
    each_hung IsBare c.number_all.new.slots.items c.hang_all.new.slots.items (λ s h. h) (λ s h. h) c.hang_all.ensures.same
    (subst (EachItem IsBare) (sym c.number_all.ensures) (bare_numbered c.args.parent c.args.first c.args.marks c.self.inside.children.items c.self.invariant.bare))

pub returns-clause-marks : goal.returns-clause-marks
returns-clause-marks c =
    each_hung (HasMarks c.args.marks) c.number_all.new.slots.items c.hang_all.new.slots.items (λ s h. h) (λ s h. h) c.hang_all.ensures.same
    (subst (EachItem (HasMarks c.args.marks)) (sym c.number_all.ensures) (marks_numbered c.args.parent c.args.first c.args.marks c.self.inside.children.items))

pub hang_all-requires : goal.hang_all-requires
hang_all-requires c =
    subst (EachItem HasOwnName) (sym c.number_all.ensures) (own_numbered c.args.parent c.args.first c.args.marks c.self.inside.children.items c.self.invariant.own)

pub returns-clause-kids : goal.returns-clause-kids
returns-clause-kids c =
    ap (map (λ k. c.args.first + k)) c.self.invariant.kids
    ∙ kids_first c.args.parent c.args.first c.self.inside.decl.children
    ∙ ap (λ (s : Ready). map (λ r. r.inc) (child_rows c.args.parent c.args.first s.decl.children)) c.self.view_is

pub returns-clause-names : goal.returns-clause-names
returns-clause-names c = λ name.
    ap (option_map (λ k. c.args.first + k)) (c.self.invariant.names name)
    ∙ names_first c.args.parent c.args.first name c.self.inside.decl.children
    ∙ ap (λ (s : Ready). child_of (child_rows c.args.parent c.args.first s.decl.children) c.args.parent name) c.self.view_is

pub number_all-requires : goal.number_all-requires
number_all-requires c =
    let children : length c.self.inside.children.items ≡ length c.args.self.decl.children =
    sym (length-map c.self.inside.children.items (λ s. s.row))
    ∙ ap length c.self.invariant.children
    ∙ length-map c.self.inside.decl.children (child_row 0 0)
    ∙ ap (λ (s : Ready). length s.decl.children) c.self.view_is in
    subst (λ (n : ℕ). c.args.first + n < 2 ^ 64) (sym children) c.requires
