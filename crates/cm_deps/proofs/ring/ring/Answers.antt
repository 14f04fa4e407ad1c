use Rattle.std.proofs.Common.{◌≡◌, ℕ, ◌<◌, length, drop, Some, ◌∙◌, ap, subst, get_or}
use Rattle.std.specs.Prelude.{slice_get}
use Rattle.cm_deps.specs.Edges.{is_set}
use Rattle.cm_deps.specs.Ring.{IsFirstLeft, IsWalk, IsRotated}
use Rattle.cm_deps.proofs.lemmas.loops.Cores.{held_at}
use Rattle.cm_deps.proofs.lemmas.loops.Rings.{ring_found}
use Rattle.cm_deps.proofs.ring.ring.Goals as goal

pub flags-requires : goal.flags-requires
flags-requires c = record {
  inside = λ x held.
      (let found : (k : ℕ) × (k < length c.args.order.now) × (slice_get c.args.order.now k ≡ Some x) = held_at c.args.order.now x held in
      (c.requires.toposorted.grown found.0 x found.2).inside);
}

pub returns : goal.returns
returns c =
    let first : IsFirstLeft (length c.args.after.now) (is_set c.in_ok-listed.listed.items) c.in-Some.start =
    subst (λ n. IsFirstLeft n (is_set c.in_ok-listed.listed.items) c.in-Some.start) (ap length c.as_slice.ensures.value ∙ c.in_ok-listed.ensures.size)
    (subst (λ l. IsFirstLeft (length c.as_slice.result.now) (is_set l) c.in-Some.start) c.as_slice.ensures.value c.in-Some.ensures.some) in
    let walk : IsWalk c.args.after.now (is_set c.in_ok-listed.listed.items) c.in-Some.start c.in_ok-trail.trail.passed.items c.in_ok-trail.trail.node =
    subst (λ l. IsWalk c.args.after.now (is_set l) c.in-Some.start c.in_ok-trail.trail.passed.items c.in_ok-trail.trail.node) c.as_slice-2.ensures.value c.in_ok-trail.ensures in
    let low : c.place_of-first.result < length c.in_ok-trail.trail.passed.items = subst (λ l. c.place_of-first.result < length l) c.as_slice-3.ensures.value c.place_of-first.ensures.inside in
    let here : get_or c.in_ok-trail.trail.passed.items c.place_of-first.result 0 ≡ c.in_ok-trail.trail.node = subst (λ l. get_or l c.place_of-first.result 0 ≡ c.in_ok-trail.trail.node) c.as_slice-3.ensures.value c.place_of-first.ensures.there in
    let turned : IsRotated (drop c.place_of-first.result c.in_ok-trail.trail.passed.items) c.in_ok-ring.ring.items = subst (λ l. IsRotated (drop c.place_of-first.result l) c.in_ok-ring.ring.items) c.as_slice-4.ensures.value c.in_ok-ring.ensures in
    ring_found c.args.after.now c.args.order.now c.in_ok-listed.listed.items c.in-Some.start c.in_ok-trail.trail.node c.in_ok-trail.trail.passed.items c.in_ok-ring.ring.items c.place_of-first.result c.in_ok-listed.ensures.listed first walk low here turned
