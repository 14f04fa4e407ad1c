use Rattle.std.proofs.Common.{refl, ◌≡◌, ◌+◌, ◌≤◌, ◌<◌, ◌^◌, ◌++◌, ◌∷◌, [], List, Some, None, ◌∙◌, ap, sym, subst, arith, length, length-append, IsTrue, IsSome, rules}
use Rattle.cm_world.specs.declared.row.Row.{Row}
use Rattle.cm_world.specs.Rows.{is_resolved, child_of, some_above}
use Rattle.cm_world.specs.World.{new_row}
use Rattle.cm_world.specs.Sound.{IsOrderly}
use Rattle.cm_table.specs.declared.slot.Slot.{Slot}
use Rattle.cm_table.specs.Tree.{Tree}
use Rattle.cm_table.specs.Keys.{EachItem, EachOf, Filled, Increasing}
use Rattle.cm_table.specs.Slots.{inc_of, flat, slots_in, rows_in, slot_of, base_of, IsIndexed}
use Rattle.cm_table.specs.Flags.{has_mark, AreFlagged}
use Rattle.cm_table.specs.Monikers.{IsChildMoniker, StandWhereKept}
use Rattle.cm_table.specs.Links.{IsLinked, IsSame}
use Rattle.cm_table.specs.Numbering.{bare_slot}
use Rattle.cm_table.specs.Change.{with_row}
use Rattle.cm_table.specs.Wanted.{HasSourcesOf}
use Rattle.cm_trees.proofs.rows.Adding.{orderly_added}
use Rattle.cm_table.proofs.lemmas.lists.Fitting.{fit_below, fit_within}
use Rattle.cm_table.proofs.lemmas.slots.Rowed.{slots_rise, rows_length, rows_same}
use Rattle.cm_table.proofs.lemmas.indexes.Indexing.{all_same}
use Rattle.cm_table.proofs.lemmas.flags.Keeping.{flags_same, flags_joined}
use Rattle.cm_table.proofs.lemmas.monikers.Standing.{standing_zipped, standing_joined}
use Rattle.cm_table.proofs.lemmas.slots.Joining.{parent_found, bases_low, rows_joined, all_joined}
use Rattle.cm_table.proofs.lemmas.tree.Wanting.{known_wider, known_added}
use Rattle.cm_table.proofs.table.Table.add.Goals as goal

pub link-requires-clause-increasing : goal.link-requires-clause-increasing
link-requires-clause-increasing c =
    subst (λ l. Increasing inc_of (flat l)) (sym c.room_for.ensures.same) (slots_rise c.self.inside.next_inc (flat c.self.inside.blocks.items) c.self.invariant.orderly.increasing)

pub link-requires-clause-lives : goal.link-requires-clause-lives
link-requires-clause-lives c =
    let resolved : IsTrue (is_resolved (rows_in (flat c.self.inside.blocks.items)) c.args.parent) = subst (λ (s : Tree). IsTrue (is_resolved s.rows c.args.parent)) (sym c.self.view_is) c.requires.resolved in
    subst (λ l. IsSome (slot_of (flat l) c.args.parent)) (sym c.room_for.ensures.same) (parent_found (flat c.self.inside.blocks.items) c.args.parent resolved)

pub link-requires-clause-low : goal.link-requires-clause-low
link-requires-clause-low c =
    subst (λ l. EachItem (λ s. base_of s.index ≤ c.self.inside.next_inc) (flat l)) (sym c.room_for.ensures.same)
    (bases_low (flat c.self.inside.blocks.items) (rows_in (flat c.self.inside.blocks.items)) c.self.inside.next_inc c.self.invariant.indexed)

pub push_block-requires-clause-room : goal.push_block-requires-clause-room
push_block-requires-clause-room c = omega (arith, c.in-Ok-room_for.ensures.room, c.link.ensures.len, c.link.ensures.capacity)

-- an Err of want_all: more names may be known
pub invariant_of-self : goal.invariant_of-self
invariant_of-self c = record {
  room = c.self.invariant.room;
  fits = c.self.invariant.fits;
  filled = c.self.invariant.filled;
  count = c.self.invariant.count;
  orderly = c.self.invariant.orderly;
  indexed = c.self.invariant.indexed;
  flagged = c.self.invariant.flagged;
  wanted = known_wider c.self.inside.wanted c.want_all.new.wanted (rows_in (flat c.self.inside.blocks.items)) (rows_in (flat c.self.inside.blocks.items)) refl c.want_all.ensures.keeps c.self.invariant.wanted;
  standing = c.self.invariant.standing;
}

-- an Err of room_for: there may be more room, too
pub invariant_of-self-in-Err-room_for : goal.invariant_of-self-in-Err-room_for
invariant_of-self-in-Err-room_for c = record {
  room = omega (arith, c.self.invariant.room, c.room_for.ensures.later, ap length c.room_for.ensures.same);
  fits = c.self.invariant.fits;
  filled = subst (Filled slots_in) (sym c.room_for.ensures.same) c.self.invariant.filled;
  count = c.self.invariant.count ∙ sym (ap (λ l. length (flat l)) c.room_for.ensures.same);
  orderly = subst (λ l. IsOrderly (rows_in (flat l)) c.self.inside.next_inc) (sym c.room_for.ensures.same) c.self.invariant.orderly;
  indexed = subst (λ l. EachItem (IsIndexed (rows_in (flat l)) c.self.inside.next_inc) (flat l)) (sym c.room_for.ensures.same) c.self.invariant.indexed;
  flagged = subst (λ l. AreFlagged (flat l)) (sym c.room_for.ensures.same) c.self.invariant.flagged;
  wanted = known_wider c.self.inside.wanted c.want_all.new.wanted (rows_in (flat c.self.inside.blocks.items)) (rows_in (flat c.room_for.new.blocks.items)) (ap (λ l. rows_in (flat l)) c.room_for.ensures.same) c.want_all.ensures.keeps c.self.invariant.wanted;
  standing = subst (λ l. StandWhereKept (flat l)) (sym c.room_for.ensures.same) c.self.invariant.standing;
}

pub overflow_add-self : goal.overflow_add-self
overflow_add-self c =
    let within : length (rows_in (flat c.self.inside.blocks.items)) + 1 ≤ c.self.inside.limit =
    subst (λ (s : Tree). length s.rows + 1 ≤ s.limit) (sym c.self.view_is) (fit_within c.args.self.now 1 (sym c.fits.ensures ∙ c.if-not-fits.false)) in
    omega (arith, within, c.self.invariant.count, rows_length (flat c.self.inside.blocks.items), c.self.ranges)

-- an Err of link: the indexes say what they said
pub invariant_of-self-in-Err-link : goal.invariant_of-self-in-Err-link
invariant_of-self-in-Err-link c =
    let ss : List Slot = flat c.self.inside.blocks.items in
    let ts : List Slot = flat c.link.new.blocks.items in
    let says : EachOf IsSame ss ts = subst (λ l. EachOf IsSame (flat l) ts) c.room_for.ensures.same c.in-Err-link.ensures.err in
    let same : rows_in ts ≡ rows_in ss = rows_same IsSame (λ s t u. u.row) ss ts says in
    let long : length ts ≡ length ss = sym (rows_length ts) ∙ ap length same ∙ rows_length ss in
    record {
      room = omega (arith, c.self.invariant.room, c.room_for.ensures.later, ap length c.room_for.ensures.same, c.link.ensures.len, c.link.ensures.capacity);
      fits = c.self.invariant.fits;
      filled = c.link.ensures.filled;
      count = c.self.invariant.count ∙ sym long;
      orderly = subst (λ rs. IsOrderly rs c.self.inside.next_inc) (sym same) c.self.invariant.orderly;
      indexed = subst (λ rs. EachItem (IsIndexed rs c.self.inside.next_inc) ts) (sym same) (all_same (rows_in ss) c.self.inside.next_inc ss ts says c.self.invariant.indexed);
      flagged = flags_same IsSame (λ s t u. u.row) (λ s t u. u.marks) ss ts says c.self.invariant.flagged;
      wanted = known_wider c.self.inside.wanted c.want_all.new.wanted (rows_in ss) (rows_in ts) same c.want_all.ensures.keeps c.self.invariant.wanted;
      standing = standing_zipped IsSame (λ s t u. u.row) (λ s t u. u.moniker) ss ts says c.self.invariant.standing;
    }

pub returns-in-Err-link-clause-err : goal.returns-in-Err-link-clause-err
returns-in-Err-link-clause-err c =
    let ss : List Slot = flat c.self.inside.blocks.items in
    let ts : List Slot = flat c.link.new.blocks.items in
    let says : EachOf IsSame ss ts = subst (λ l. EachOf IsSame (flat l) ts) c.room_for.ensures.same c.in-Err-link.ensures.err in
    let same : rows_in ts ≡ rows_in ss = rows_same IsSame (λ s t u. u.row) ss ts says in
    let made : List Row → Tree = λ rs. record { rows = rs; next_inc = c.self.inside.next_inc; builtins = c.self.inside.builtins; limit = c.self.inside.limit; spare = c.self.inside.spare } in
    ap made same ∙ c.self.view_is

pub invariant_of-self-2 : goal.invariant_of-self-2
invariant_of-self-2 c =
    let ss : List Slot = flat c.self.inside.blocks.items in
    let mid : List Slot = flat c.link.new.blocks.items in
    let ts : List Slot = flat c.push_block.new.blocks.items in
    let next = c.self.inside.next_inc in
    let row : Row = new_row next (Some c.args.parent) (Some c.args.name) c.args.url c.args.gives in
    let key : c.in-Ok.key ≡ c.args.name = search rules in
    let own : c.child_row-row.result ≡ row = search rules in
    let links : EachOf (IsLinked c.args.parent c.args.name next) ss mid =
    subst (λ n. EachOf (IsLinked c.args.parent n next) ss mid) key (subst (λ l. EachOf (IsLinked c.args.parent c.in-Ok.key next) (flat l) mid) c.room_for.ensures.same c.in-Ok-link.ensures.ok) in
    let pushed : ts ≡ mid ++ bare_slot row c.marks_above-marks.result c.in-Ok-moniker_below.moniker ∷ [] = c.push_block.ensures.slots ∙ ap (λ l. mid ++ l) (c.in-Ok-room_for.ensures.made ∙ ap (λ r. bare_slot r c.marks_above-marks.result c.in-Ok-moniker_below.moniker ∷ []) own) in
    let rows : rows_in ts ≡ rows_in ss ++ row ∷ [] = rows_joined ss mid ts c.args.parent next c.args.name row c.marks_above-marks.result c.in-Ok-moniker_below.moniker links pushed in
    let resolved : IsTrue (is_resolved (rows_in ss) c.args.parent) = subst (λ (s : Tree). IsTrue (is_resolved s.rows c.args.parent)) (sym c.self.view_is) c.requires.resolved in
    let unused : child_of (rows_in ss) c.args.parent c.args.name ≡ None = subst (λ (s : Tree). child_of s.rows c.args.parent c.args.name ≡ None) (sym c.self.view_is) c.requires.unused in
    let below : next + 1 < 2 ^ 64 = subst (λ (s : Tree). s.next_inc + 1 < 2 ^ 64) (sym c.self.view_is) (fit_below c.args.self.now 1 (sym c.fits.ensures ∙ c.if-not-fits.false)) in
    let sound : IsOrderly (rows_in ts) (next + 1) = subst (λ rs. IsOrderly rs (next + 1)) (sym rows) (orderly_added (rows_in ss) next c.args.parent c.args.name c.args.url c.args.gives c.self.invariant.orderly resolved unused) in
    let named : IsChildMoniker (rows_in ss) c.args.parent c.args.name c.in-Ok-moniker_below.moniker = search rules in
    let long : length ts ≡ length ss + 1 = sym (rows_length ts) ∙ ap length rows ∙ length-append (rows_in ss) (row ∷ []) ∙ ap (λ n. n + 1) (rows_length ss) in
    record {
      room = omega (arith, c.push_block.ensures.len, c.push_block.ensures.capacity, c.link.ensures.len, c.link.ensures.capacity, c.in-Ok-room_for.ensures.room);
      fits = omega (arith, below);
      filled = c.push_block.ensures.filled;
      count = omega (arith, long, c.self.invariant.count);
      orderly = sound;
      indexed = all_joined ss mid ts next c.args.parent c.args.name c.args.url c.args.gives c.marks_above-marks.result c.in-Ok-moniker_below.moniker c.self.invariant.orderly resolved unused links pushed c.self.invariant.indexed;
      flagged = flags_joined ss mid ts next c.args.parent c.args.name c.args.url c.args.gives c.marks_above-marks.result c.in-Ok-moniker_below.moniker c.self.invariant.orderly sound resolved links pushed
          (λ k. c.marks_above-marks.ensures k ∙ ap (λ (s : Tree). some_above (has_mark k) s.rows c.args.parent) (sym c.self.view_is)) c.self.invariant.flagged;
      wanted = known_added c.self.inside.wanted c.want_all.new.wanted (rows_in ss) (rows_in ts) row c.args.gives rows refl c.want_all.ensures.keeps (subst (λ l. HasSourcesOf l c.want_all.new.wanted) c.as_slice.ensures c.in-Ok-want_all.ensures.sources) c.self.invariant.wanted;
      standing = standing_joined ss mid ts next c.args.parent c.args.name c.args.url c.args.gives c.marks_above-marks.result c.in-Ok-moniker_below.moniker c.self.invariant.orderly sound resolved links pushed named c.self.invariant.standing;
    }

pub returns-clause-ok : goal.returns-clause-ok
returns-clause-ok c =
    let ss : List Slot = flat c.self.inside.blocks.items in
    let mid : List Slot = flat c.link.new.blocks.items in
    let next = c.self.inside.next_inc in
    let row : Row = new_row next (Some c.args.parent) (Some c.args.name) c.args.url c.args.gives in
    let key : c.in-Ok.key ≡ c.args.name = search rules in
    let own : c.child_row-row.result ≡ row = search rules in
    let links : EachOf (IsLinked c.args.parent c.args.name next) ss mid =
    subst (λ n. EachOf (IsLinked c.args.parent n next) ss mid) key (subst (λ l. EachOf (IsLinked c.args.parent c.in-Ok.key next) (flat l) mid) c.room_for.ensures.same c.in-Ok-link.ensures.ok) in
    let pushed = c.push_block.ensures.slots ∙ ap (λ l. mid ++ l) (c.in-Ok-room_for.ensures.made ∙ ap (λ r. bare_slot r c.marks_above-marks.result c.in-Ok-moniker_below.moniker ∷ []) own) in
    let rows : rows_in (flat c.push_block.new.blocks.items) ≡ rows_in ss ++ row ∷ [] = rows_joined ss mid (flat c.push_block.new.blocks.items) c.args.parent next c.args.name row c.marks_above-marks.result c.in-Ok-moniker_below.moniker links pushed in
    let made : List Row → Tree = λ rs. record { rows = rs; next_inc = next + 1; builtins = c.self.inside.builtins; limit = c.self.inside.limit; spare = c.self.inside.spare } in
    ap made rows ∙ ap (λ (t : Tree). with_row (new_row t.next_inc (Some c.args.parent) (Some c.args.name) c.args.url c.args.gives) t) c.self.view_is
