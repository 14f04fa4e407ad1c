use Rattle.std.proofs.Common.{◌≡◌, ◌<◌, [], length, false, true≢false, sym, ◌∙◌, ap, subst, get_or, arith}
use Rattle.std.specs.Prelude.{replicate}
use Rattle.std.proofs.lemmas.List.{get_or_default, length-replicate}
use Rattle.cm_deps.specs.Edges.{row, IsVisited, IsAdded}
use Rattle.cm_deps.proofs.lemmas.listed.Listing.{holds_at}
use Rattle.cm_deps.proofs.lemmas.loops.Searching.{seen_none, searching_none, searching_more, searched, inside_more}
use Rattle.cm_deps.proofs.edges.reach.Goals as goal

pub add_after-requires-clause-size : goal.add_after-requires-clause-size
add_after-requires-clause-size c = ap length c.in_ok-seen.ensures ∙ length-replicate (length c.args.after.now) false

pub add_after-requires-clause-seen : goal.add_after-requires-clause-seen
add_after-requires-clause-seen c =
    subst (λ s. IsVisited s c.new-found.result.items) (sym c.in_ok-seen.ensures)
    (subst (λ f. IsVisited (replicate (length c.args.after.now) false) f) (sym c.new-found.ensures.items) (seen_none (length c.args.after.now)))

pub loop-head-init : goal.loop-head-init
loop-head-init c =
    let first : IsAdded (row c.args.after.now c.args.start) [] c.add_after.new.found.items = subst (λ l. IsAdded (row c.args.after.now c.args.start) l c.add_after.new.found.items) c.new-found.ensures.items c.in_ok-add_after.ensures.added in
    record {
      size = c.in_ok-add_after.ensures.size;
      listed = c.in_ok-add_after.ensures.seen;
      inside = inside_more c.args.after.now c.args.start [] c.add_after.new.found.items c.requires.below (λ y none. absurd (true≢false (sym none))) first;
      search = searching_none c.args.after.now c.args.start c.add_after.new.found.items first;
    }

pub add_after-requires-in-loop-head-clause-inside : goal.add_after-requires-in-loop-head-clause-inside
add_after-requires-in-loop-head-clause-inside c =
    let low : c.loop-head.head < length c.loop-head.found.items = omega (arith, c.loop-head.invariant.search.within) in
    let node : get_or c.loop-head.found.items c.loop-head.head 0 ≡ c.index.result.now = get_or_default c.loop-head.found.items c.loop-head.head 0 c.index.result.now low ∙ sym c.index.ensures in
    let inside : get_or c.loop-head.found.items c.loop-head.head 0 < length c.args.after.now = c.loop-head.invariant.inside (get_or c.loop-head.found.items c.loop-head.head 0) (holds_at c.loop-head.found.items c.loop-head.head low) in
    omega (arith, node, inside)

pub loop-head-preserved : goal.loop-head-preserved
loop-head-preserved c =
    let low : c.loop-head.head < length c.loop-head.found.items = omega (arith, c.loop-head.invariant.search.within) in
    let node : get_or c.loop-head.found.items c.loop-head.head 0 ≡ c.index.result.now = get_or_default c.loop-head.found.items c.loop-head.head 0 c.index.result.now low ∙ sym c.index.ensures in
    let step : IsAdded (row c.args.after.now (get_or c.loop-head.found.items c.loop-head.head 0)) c.loop-head.found.items c.add_after-in-loop-head.new.found.items = subst (λ z. IsAdded (row c.args.after.now z) c.loop-head.found.items c.add_after-in-loop-head.new.found.items) (sym node) c.in_ok-add_after-2.ensures.added in
    record {
      size = c.in_ok-add_after-2.ensures.size;
      listed = c.in_ok-add_after-2.ensures.seen;
      inside = inside_more c.args.after.now (get_or c.loop-head.found.items c.loop-head.head 0) c.loop-head.found.items c.add_after-in-loop-head.new.found.items c.requires.below c.loop-head.invariant.inside step;
      search = searching_more c.args.after.now c.args.start c.loop-head.found.items c.add_after-in-loop-head.new.found.items c.loop-head.head low c.loop-head.invariant.search step;
    }

pub returns-then-head-len : goal.returns-then-head-len
returns-then-head-len c =
    searched c.args.after.now c.args.start c.loop-head.found.items c.loop-head.head (omega arith) c.loop-head.invariant.search

pub returns : goal.returns
returns c =
    searched c.args.after.now c.args.start c.loop-head.found.items c.loop-head.head
    (omega (arith, c.loop-head.invariant.listed.counted, c.loop-head.invariant.size)) c.loop-head.invariant.search
