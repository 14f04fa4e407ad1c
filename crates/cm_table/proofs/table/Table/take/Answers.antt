use Rattle.std.proofs.Common.{◌≡◌, ℕ, ◌+◌, ◌-◌, ◌<◌, ◌≤◌, ◌^◌, List, None, ◌∙◌, ap, ap₂, sym, subst, arith, length, IsTrue}
use Rattle.std.specs.Option.{option_copied}
use Rattle.cm_decl.specs.declared.decl.Decl.{Decl}
use Rattle.cm_decl.specs.Valid.{IsValid}
use Rattle.cm_world.specs.declared.row.Row.{Row}
use Rattle.cm_world.specs.Rows.{is_live, decl_of, some_above, moniker_of}
use Rattle.cm_world.specs.Sound.{IsOrderly}
use Rattle.cm_table.specs.declared.slot.Slot.{Slot}
use Rattle.cm_table.specs.declared.change.Change.TheVariants.{Resolve}
use Rattle.cm_table.specs.Tree.{Tree}
use Rattle.cm_table.specs.Flags.{has_mark, AreFlagged}
use Rattle.cm_table.specs.Keys.{EachItem}
use Rattle.cm_table.specs.Slots.{flat, rows_in, inc_of, with_row_by, IsIndexed}
use Rattle.cm_table.specs.Change.{change_row, resolved}
use Rattle.cm_table.proofs.lemmas.flags.Keeping.{flags_taken}
use Rattle.cm_table.proofs.lemmas.monikers.Standing.{if_kept, standing_taken}
use Rattle.cm_table.proofs.lemmas.lists.Editing.{edited}
use Rattle.cm_table.proofs.lemmas.tree.Taking.{length-taken}
use Rattle.cm_table.proofs.lemmas.slots.Rowed.{rows_length, slots_rise}
use Rattle.cm_table.proofs.lemmas.tree.Resolving.{IsTaken, taken_rows, rows_taken, mid_rises, all_taken}
use Rattle.cm_table.proofs.lemmas.lists.Fitting.{fit_below, fit_within}
use Rattle.cm_table.proofs.lemmas.tree.Wanting.{gives_changed, known_grown}
use Rattle.cm_table.proofs.table.Table.take.Goals as goal
use Rattle.cm_trees.proofs.rows.Taking.{orderly_taken}

pub change_in-requires-clause-increasing : goal.change_in-requires-clause-increasing
change_in-requires-clause-increasing c = slots_rise c.self.inside.next_inc (flat c.self.inside.blocks.items) c.self.invariant.orderly.increasing

pub swap_in-requires-clause-increasing : goal.swap_in-requires-clause-increasing
swap_in-requires-clause-increasing c =
    mid_rises (flat c.self.inside.blocks.items) (flat c.change_in.new.blocks.items) c.args.inc c.self.inside.next_inc c.into_parts-parts.result.absolute c.into_parts-parts.result.decl c.self.invariant.orderly
    (subst IsValid (sym c.into_parts-parts.ensures.decl) c.into_parts-parts.ensures.valid) c.change_in.ensures.slots

pub push_block-requires-clause-room : goal.push_block-requires-clause-room
push_block-requires-clause-room c =
    let has : 0 < c.self.inside.spare = subst (λ (s : Tree). 0 < s.spare) (sym c.self.view_is) c.requires.spare in
    omega (arith, has, c.self.invariant.room, c.swap_in.ensures.len, c.swap_in.ensures.capacity, c.change_in.ensures.len, c.change_in.ensures.capacity)

pub invariant_of-self : goal.invariant_of-self
invariant_of-self c =
    let ss : List Slot = flat c.self.inside.blocks.items in
    let mid : List Slot = flat c.change_in.new.blocks.items in
    let put : List Slot = flat c.swap_in.new.blocks.items in
    let ts : List Slot = flat c.push_block.new.blocks.items in
    let news : List Slot = c.into_parts-parts.result.children.items in
    let next : ℕ = c.self.inside.next_inc in
    let a : List ℕ = c.args.prepared.absolute in
    let d : Decl = c.args.prepared.decl in
    let t : IsTaken ss mid put ts news c.args.inc a d c.into_parts-parts.result.index = record {
      changed = c.change_in.ensures.slots ∙ ap₂ (λ x y. edited inc_of c.args.inc (with_row_by (change_row (Resolve x y))) ss) c.into_parts-parts.ensures.absolute c.into_parts-parts.ensures.decl;
      indexed = c.swap_in.ensures.slots;
      pushed = c.push_block.ensures.slots;
    } in
    let rows : rows_in ts ≡ taken_rows c.args.inc next a d (rows_in ss) = rows_taken ss mid put ts news c.args.inc next a d c.into_parts-parts.result.index t c.into_parts-parts.ensures.rows in
    let lives : IsTrue (is_live (rows_in ss) c.args.inc) = subst (λ (s : Tree). IsTrue (is_live s.rows c.args.inc)) (sym c.self.view_is) c.requires.lives in
    let unresolved : decl_of (rows_in ss) c.args.inc ≡ None = subst (λ (s : Tree). decl_of s.rows c.args.inc ≡ None) (sym c.self.view_is) c.requires.unresolved in
    let has : 0 < c.self.inside.spare = subst (λ (s : Tree). 0 < s.spare) (sym c.self.view_is) c.requires.spare in
    let below : next + length d.children < 2 ^ 64 = subst (λ (s : Tree). s.next_inc + length d.children < 2 ^ 64) (sym c.self.view_is) (fit_below c.args.self.now (length d.children) c.requires.fits) in
    let long : length ts ≡ length ss + length d.children =
    sym (rows_length ts) ∙ ap length rows ∙ length-taken c.args.inc next a d (rows_in ss) ∙ ap (λ n. n + length d.children) (rows_length ss) in
    let sound : IsOrderly (rows_in ts) (next + length d.children) =
    subst (λ rs. IsOrderly rs (next + length d.children)) (sym rows) (orderly_taken c.args.inc next a d (rows_in ss) c.self.invariant.orderly lives unresolved c.into_parts-parts.ensures.valid) in
    let indexed : EachItem (IsIndexed (rows_in ts) (next + length d.children)) ts =
    all_taken ss mid put ts news c.args.inc next a d c.into_parts-parts.result.index t c.self.invariant.orderly lives unresolved c.into_parts-parts.ensures.valid
    (record { base = c.into_parts-parts.ensures.base; kids = c.into_parts-parts.ensures.kids; names = c.into_parts-parts.ensures.names })
    c.into_parts-parts.ensures.rows c.into_parts-parts.ensures.bare c.self.invariant.indexed in
    let flagged : AreFlagged ts =
    flags_taken ss mid put ts news c.args.inc next (next + length d.children) a d c.into_parts-parts.result.index c.marks_above-marks.result t c.self.invariant.orderly sound lives c.into_parts-parts.ensures.valid
    (λ k. c.marks_above-marks.ensures k ∙ ap (λ (s : Tree). some_above (has_mark k) s.rows c.args.inc) (sym c.self.view_is)) c.into_parts-parts.ensures.marks c.into_parts-parts.ensures.rows c.self.invariant.flagged in
    record {
      room = omega (arith, has, c.self.invariant.room, c.push_block.ensures.len, c.push_block.ensures.capacity, c.swap_in.ensures.len, c.swap_in.ensures.capacity, c.change_in.ensures.len, c.change_in.ensures.capacity);
      fits = omega (arith, below, c.count-count.ensures);
      filled = c.push_block.ensures.filled;
      count = omega (arith, c.count-count.ensures, long, c.self.invariant.count);
      orderly = subst (λ n. IsOrderly (rows_in ts) (next + n)) (sym c.count-count.ensures) sound;
      indexed = subst (λ n. EachItem (IsIndexed (rows_in ts) (next + n)) ts) (sym c.count-count.ensures) indexed;
      flagged = flagged;
      wanted = known_grown c.self.inside.wanted c.args.inc c.args.inc next d.children (change_row (Resolve a d)) (gives_changed (Resolve a d)) (rows_in ss) (rows_in ts) rows c.self.invariant.wanted;
      standing = standing_taken ss mid put ts news c.args.inc next (next + length d.children) a d c.into_parts-parts.result.index (option_copied c.kept_moniker-above.result) t c.self.invariant.orderly sound lives c.into_parts-parts.ensures.valid
          (λ w e. if_kept c.kept_moniker-above.result (moniker_of c.args.self.now.rows c.args.inc) w c.kept_moniker-above.ensures e ∙ ap (λ (s : Tree). moniker_of s.rows c.args.inc) (sym c.self.view_is)) c.into_parts-parts.ensures.below c.into_parts-parts.ensures.rows c.self.invariant.standing;
    }

pub returns-clause-rows : goal.returns-clause-rows
returns-clause-rows c =
    let ss : List Slot = flat c.self.inside.blocks.items in
    let a : List ℕ = c.args.prepared.absolute in
    let d : Decl = c.args.prepared.decl in
    let t : IsTaken ss (flat c.change_in.new.blocks.items) (flat c.swap_in.new.blocks.items) (flat c.push_block.new.blocks.items) c.into_parts-parts.result.children.items c.args.inc a d c.into_parts-parts.result.index = record {
      changed = c.change_in.ensures.slots ∙ ap₂ (λ x y. edited inc_of c.args.inc (with_row_by (change_row (Resolve x y))) ss) c.into_parts-parts.ensures.absolute c.into_parts-parts.ensures.decl;
      indexed = c.swap_in.ensures.slots;
      pushed = c.push_block.ensures.slots;
    } in
    let rows : rows_in (flat c.push_block.new.blocks.items) ≡ taken_rows c.args.inc c.self.inside.next_inc a d (rows_in ss) =
    rows_taken ss _ _ _ _ c.args.inc c.self.inside.next_inc a d c.into_parts-parts.result.index t c.into_parts-parts.ensures.rows in
    let made : List Row → ℕ → Tree = λ rs n. record { rows = rs; next_inc = c.self.inside.next_inc + n; builtins = c.self.inside.builtins; limit = c.self.inside.limit; spare = c.self.inside.spare - 1 } in
    ap₂ made rows c.count-count.ensures ∙ ap (resolved c.args.inc c.args.prepared) c.self.view_is

pub overflow_add-self : goal.overflow_add-self
overflow_add-self c =
    let more : ℕ = length c.args.prepared.decl.children in
    let within : length (rows_in (flat c.self.inside.blocks.items)) + more ≤ c.self.inside.limit =
    subst (λ (s : Tree). length s.rows + more ≤ s.limit) (sym c.self.view_is) (fit_within c.args.self.now more c.requires.fits) in
    omega (arith, within, c.count-count.ensures, c.self.invariant.count, rows_length (flat c.self.inside.blocks.items), c.self.ranges)
