use Rattle.std.proofs.Common.{◌≡◌, ◌+◌, ◌<◌, length, false, Some, refl, arith}
use Rattle.std.specs.Prelude.{slice_get, min, max}
use Rattle.std.proofs.lemmas.Option.{slice_get_read}
use Rattle.cm_valid.specs.Near as spec
use Rattle.cm_valid.proofs.lemmas.Near.{Walked, walk_inwards, walk_along, walk_on, walk_ends}
use Rattle.cm_valid.proofs.near.apart_keys.Goals as goal
use Rattle.cm_valid.proofs.near.apart_keys.Goals.{then-covers+then-next-first, then-covers+else-next-first, else-covers}

pub loop-index-preserved : goal.loop-index-preserved
loop-index-preserved c =
    let keys = c.args.keys.now in
    let first = c.index-keys-outer.result in
    let next = c.index-keys-index.result in
    let inside : c.loop-index.outer < length keys = omega arith in
    let there : slice_get keys c.loop-index.outer ≡ Some first = slice_get_read keys (length keys) c.loop-index.outer first refl inside c.index-keys-outer.is in
    let below : c.loop-index.index < length keys = omega arith in
    let at : slice_get keys c.loop-index.index ≡ Some next = slice_get_read keys (length keys) c.loop-index.index next refl below c.index-keys-index.is in
    elim c.if-covers.branch as (λ _. Walked keys (c.loop-index.index + 1) c.if-covers.outer c.if-covers.apart) [
      | then-covers+then-next-first w ↦
          (let bound : c.if-covers.apart ≡ min c.loop-index.apart (max first.row next.row) = cc in
          let outer : c.if-covers.outer ≡ c.loop-index.index = cc in
          rw (bound, outer) (walk_inwards keys c.loop-index.index c.loop-index.outer c.loop-index.apart first next c.loop-index.invariant there at (omega arith)))
      | then-covers+else-next-first w ↦
          (let bound : c.if-covers.apart ≡ min c.loop-index.apart (max first.row next.row) = cc in
          let outer : c.if-covers.outer ≡ c.loop-index.outer = cc in
          rw (bound, outer) (walk_along keys c.loop-index.index c.loop-index.outer c.loop-index.apart first next c.loop-index.invariant there at (omega arith)))
      | else-covers w ↦
          (let bound : c.if-covers.apart ≡ c.loop-index.apart = cc in
          let outer : c.if-covers.outer ≡ c.loop-index.index = cc in
          let uncovered : spec.covers first.text next.text ≡ false = cc in
          rw (bound, outer) (walk_on keys c.loop-index.index c.loop-index.outer c.loop-index.apart first next c.requires c.loop-index.invariant there at uncovered))
    ]

pub returns : goal.returns
returns c =
    walk_ends c.args.keys.now c.loop-index.index c.loop-index.outer c.loop-index.apart c.requires c.loop-index.invariant (omega arith)
