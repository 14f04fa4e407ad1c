use Rattle.std.proofs.Common.{◌≡◌, ◌+◌, ◌<◌, false, true≢false, sym, arith, rules}
use Rattle.cm_names.specs.MonikerStates.{may_end}
use Rattle.cm_names.proofs.lemmas.prefixes.Prefixes.{not_whole}
use Rattle.cm_names.proofs.lemmas.prefixes.MonikerPrefixes.{stuck, full, further, unended, not_ended, ended}
use Rattle.cm_names.proofs.grammar.bad_place.Goals as goal
use Rattle.cm_names.proofs.grammar.bad_place.Goals.{else-i-eq-MAX_PATH_BYTES-via-then-i-eq-MAX_PATH_BYTES+else-not-may_end, else-i-eq-MAX_PATH_BYTES-via-else-i-eq-MAX_PATH_BYTES}

pub returns-then-not-may_end-clause-prefix : goal.returns-then-not-may_end-clause-prefix
returns-then-not-may_end-clause-prefix c =
    full c.args.bytes.now c.loop-i.i c.loop-i.place c.in-Some.next (omega arith) c.requires c.loop-i.invariant (sym c.in-Some.ensures) (search rules) (omega arith)

pub returns-then-not-may_end-clause-not_whole : goal.returns-then-not-may_end-clause-not_whole
returns-then-not-may_end-clause-not_whole c =
    not_whole c.args.bytes.now c.loop-i.i (returns-then-not-may_end-clause-prefix c) (omega arith)

pub returns-in-None-clause-prefix : goal.returns-in-None-clause-prefix
returns-in-None-clause-prefix c =
    stuck c.args.bytes.now c.loop-i.i c.loop-i.place (omega arith) c.requires c.loop-i.invariant (sym c.in-None.ensures)

pub returns-in-None-clause-not_whole : goal.returns-in-None-clause-not_whole
returns-in-None-clause-not_whole c =
    not_whole c.args.bytes.now c.loop-i.i (returns-in-None-clause-prefix c) (omega arith)

pub loop-i-preserved : goal.loop-i-preserved
loop-i-preserved c =
    let room : may_end c.in-Some.next ≡ false → c.loop-i.i + 1 < 4096 = elim c.else-i-eq-MAX_PATH_BYTES.branch [
      | else-i-eq-MAX_PATH_BYTES-via-then-i-eq-MAX_PATH_BYTES+else-not-may_end w ↦ λ open_end. absurd (true≢false (search rules))
      | else-i-eq-MAX_PATH_BYTES-via-else-i-eq-MAX_PATH_BYTES w ↦ λ open_end. omega (arith, w.if-i-eq-MAX_PATH_BYTES.false)
    ] in
    further c.args.bytes.now c.loop-i.i c.loop-i.place c.in-Some.next (omega arith) c.loop-i.invariant (sym c.in-Some.ensures) room

pub returns-then-may_end-clause-whole : goal.returns-then-may_end-clause-whole
returns-then-may_end-clause-whole c =
    ended c.args.bytes.now c.loop-i.i c.loop-i.place (omega arith) c.requires c.loop-i.invariant (search rules)

pub returns-else-may_end-clause-prefix : goal.returns-else-may_end-clause-prefix
returns-else-may_end-clause-prefix c =
    unended c.args.bytes.now c.loop-i.i c.loop-i.place (omega arith) c.requires c.loop-i.invariant

pub returns-else-may_end-clause-not_whole : goal.returns-else-may_end-clause-not_whole
returns-else-may_end-clause-not_whole c =
    not_ended c.args.bytes.now c.loop-i.i c.loop-i.place (omega arith) c.loop-i.invariant (search rules)
