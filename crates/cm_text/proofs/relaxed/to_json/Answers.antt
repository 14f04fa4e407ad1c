use Rattle.std.proofs.Common.{◌∙◌, arith, sym, ap, rules}
use Rattle.std.proofs.lemmas.Str.{IsCharBoundary-start}
use Rattle.cm_text.specs.Json.{json_of}
use Rattle.cm_text.proofs.lemmas.found.Outline.{found}
use Rattle.cm_text.proofs.lemmas.found.Loop.{is_token_found, next_cut, next_place, next_token, next_gap, json_begins, json_fails, json_ends, is_json, is_fault, some_token_of}
use Rattle.cm_text.proofs.relaxed.to_json.Goals as goal
use Rattle.cm_text.proofs.relaxed.to_json.Goals.{in-Some+in_ok-push, in_default}

pub loop-at-init : goal.loop-at-init
loop-at-init c = record {
  cut = IsCharBoundary-start c.args.text.now c.utf8.text;
  json = json_begins c.new-writer.result c.args.text.now c.new-writer.ensures;
}

pub returns-in_err-piece-clause-fault : goal.returns-in_err-piece-clause-fault
returns-in_err-piece-clause-fault c =
    let computed = json_fails c.loop-at.writer c.args.text.now c.range_from.result.now c.loop-at.at c.in_err-piece.field-0.0 c.loop-at-test.true c.range_from.ensures.value c.in_err-piece.ensures c.loop-at.invariant.json in
    let h = is_fault c.args.text.now c.in_err-piece.field-0.0 computed in
    search rules

pub returns-in_err-piece-clause-computed_fault : goal.returns-in_err-piece-clause-computed_fault
returns-in_err-piece-clause-computed_fault c =
    let h = json_fails c.loop-at.writer c.args.text.now c.range_from.result.now c.loop-at.at c.in_err-piece.field-0.0 c.loop-at-test.true c.range_from.ensures.value c.in_err-piece.ensures c.loop-at.invariant.json in
    search rules

pub push-requires : goal.push-requires
push-requires c = is_token_found c.range_from.result.now _ c.loop-at.at c.in_ok-piece.piece.len (ap (λ o. found (some_token_of o) c.in_ok-piece.piece.len) (sym c.in-Some.is) ∙ c.in_ok-piece.ensures)

pub overflow_add-at : goal.overflow_add-at
overflow_add-at c =
    let place = next_place c.args.text.now c.range_from.result.now (some_token_of c.in_ok-piece.piece.token) c.loop-at.at c.in_ok-piece.piece.len c.range_from.ensures.value c.loop-at.invariant.cut.0 c.range_from.utf8 c.in_ok-piece.ensures in
    let further = place.0 in
    let within = place.1 in
    omega arith

pub loop-at-smaller : goal.loop-at-smaller
loop-at-smaller c =
    let place = next_place c.args.text.now c.range_from.result.now (some_token_of c.in_ok-piece.piece.token) c.loop-at.at c.in_ok-piece.piece.len c.range_from.ensures.value c.loop-at.invariant.cut.0 c.range_from.utf8 c.in_ok-piece.ensures in
    let further = place.0 in
    let within = place.1 in
    omega arith

pub loop-at-preserved : goal.loop-at-preserved
loop-at-preserved c = record {
  cut = next_cut c.args.text.now c.range_from.result.now (some_token_of c.in_ok-piece.piece.token) c.loop-at.at c.in_ok-piece.piece.len c.range_from.ensures.value c.loop-at.invariant.cut.0 c.range_from.utf8 c.in_ok-piece.ensures;
  json = elim c.match-piece.branch [
    | in-Some+in_ok-push w ↦ rw w.writer-is (next_token c.loop-at.writer w.push.new.self c.args.text.now c.range_from.result.now (json_of c.args.text.now) c.in_ok-piece.piece.token w.in-Some.token c.loop-at.at c.in_ok-piece.piece.len w.in-Some.is w.in_ok-push.ensures c.range_from.ensures.value c.in_ok-piece.ensures c.loop-at.invariant.json)
    | in_default w ↦ rw w.writer-is (next_gap c.loop-at.writer c.args.text.now c.range_from.result.now (json_of c.args.text.now) c.in_ok-piece.piece.token c.loop-at.at c.in_ok-piece.piece.len w.in_default.is c.range_from.ensures.value c.in_ok-piece.ensures c.loop-at.invariant.json)
  ];
}

pub returns-clause-computed : goal.returns-clause-computed
returns-clause-computed c = json_ends c.loop-at.writer c.args.text.now c.in_ok-written.written c.loop-at.at c.loop-at-test.false (c.in_ok-written.ensures ∙ c.in_ok-json.ensures) c.loop-at.invariant.json

pub returns-clause-json : goal.returns-clause-json
returns-clause-json c = is_json c.args.text.now c.in_ok-written.written (json_ends c.loop-at.writer c.args.text.now c.in_ok-written.written c.loop-at.at c.loop-at-test.false (c.in_ok-written.ensures ∙ c.in_ok-json.ensures) c.loop-at.invariant.json)
