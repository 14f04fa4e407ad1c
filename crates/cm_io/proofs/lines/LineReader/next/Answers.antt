use Rattle.std.proofs.Common.{◌∙◌, List, ℕ, false, refl, ap, sym, subst, arith}
use mathlib.Core.Bool.{true≢false}
use Rattle.cm_io.specs.LinesInside.{Reader, TakesPart}
use Rattle.std.specs.List.{Contains}
use Rattle.cm_io.proofs.lemmas.Line.{passed-filled, passed-kept, takes-line, told-fault, told-last, told-whole, unheld}
use Rattle.cm_io.proofs.lines.LineReader.next.Goals as goal

-- the line's end came
pub returns-in-Ok-true-clause-told : goal.returns-in-Ok-true-clause-told
returns-in-Ok-true-clause-told g c =
    told-whole _ _ _ _ c.args.self.now c.take_part.new.self c.parts.self.held _ c.take_part.new.line.items _ (c.in-Ok-true.ensures.over ∙ c.parts.invariant.over) c.parts.invariant.passed
    (rw c.in-Ok-true.field-0-test at c.in-Ok-true.ensures.part) c.whole_line.ensures.short c.whole_line.ensures.long

pub returns-in-Ok-true-clause-lines : goal.returns-in-Ok-true-clause-lines
returns-in-Ok-true-clause-lines g c = takes-line _ _ _ _ c.args.self.now c.take_part.new.self c.whole_line.result (returns-in-Ok-true-clause-told g c)

-- the source was at its end before
pub returns-then-self-clause-told : goal.returns-then-self-clause-told
returns-then-self-clause-told g c =
    let taken = rw c.in-Ok-false.field-0-test at c.in-Ok-false.ensures.part in
    let over = sym (ap (λ (v : Reader). v.over) c.self-in-parts.view_is) ∙ c.if-self.true in
    told-last _ _ _ _ c.args.self.now c.take_part.new.self c.parts.self.held _ c.take_part.new.line.items _ taken.1 over
    (λ not. absurd (true≢false (sym over ∙ c.in-Ok-false.ensures.over ∙ c.parts.invariant.over ∙ not))) c.parts.invariant.passed
    (subst (λ (kept : List ℕ). TakesPart c.parts.self.held kept c.parts.line.items c.take_part.new.line.items false) taken.1 taken)
    c.last_line.ensures.none c.last_line.ensures.short c.last_line.ensures.long

-- all that was held belongs to the line, and the source gave more
pub parts-preserved : goal.parts-preserved
parts-preserved g c =
    let taken = rw c.in-Ok-false.field-0-test at c.in-Ok-false.ensures.part in
    let was = c.in-Ok-false.ensures.over ∙ c.parts.invariant.over in
    let not = sym was ∙ sym (ap (λ (v : Reader). v.over) c.self-in-parts.view_is) ∙ c.if-self.false in
    record {
      more = (tt, tt);
      passed =
          passed-filled _ _ _ _ _ _ c.args.self.now.over _ c.parts.self.held _ _ _ not c.parts.invariant.passed taken.0 taken.2
          (c.in-Bytes.ensures.bytes, c.in-Bytes.ensures.gave) c.in-Bytes.ensures.order;
      over = c.in-Bytes.ensures.over (λ e. (cc)) ∙ was;
      ready = λ has. absurd (unheld c.parts.self.held taken.0 (subst (λ (h : List ℕ). Contains h 10) (sym (c.parts.invariant.ready has).0) has));
      untouched = λ over. absurd (true≢false (sym over ∙ not));
      count = omega (arith, c.in-Bytes.ensures.cause, c.parts.invariant.count);
      beside = c.in-Bytes.ensures.beside ∙ c.parts.invariant.beside;
      quiet = λ q. (c.in-Bytes.ensures.quiet (c.parts.invariant.quiet q)).0;
    }

-- all that was held is the last line, and the source is at its end
pub returns-in-End-clause-told : goal.returns-in-End-clause-told
returns-in-End-clause-told g c =
    let taken = rw c.in-Ok-false.field-0-test at c.in-Ok-false.ensures.part in
    let was = c.in-Ok-false.ensures.over ∙ c.parts.invariant.over in
    let not = sym was ∙ sym (ap (λ (v : Reader). v.over) c.self-in-parts.view_is) ∙ c.if-self.false in
    let end = c.in-End.ensures.bytes in
    told-last _ _ _ _ c.args.self.now c.fill.new.self c.parts.self.held _ c.take_part.new.line.items _ end.0 (c.in-End.ensures.ended refl)
    (λ still. end.2) (passed-kept _ _ _ _ _ _ c.args.self.now.over _ _ _ not c.parts.invariant.passed taken.0 end.1 c.in-End.ensures.gave (rw end.0 at c.in-End.ensures.order))
    (subst (λ (kept : List ℕ). TakesPart c.parts.self.held kept c.parts.line.items c.take_part.new.line.items false) taken.1 taken)
    c.last_line-in-End.ensures.none c.last_line-in-End.ensures.short c.last_line-in-End.ensures.long

pub returns-in-End-clause-lines : goal.returns-in-End-clause-lines
returns-in-End-clause-lines g c = takes-line _ _ _ _ c.args.self.now c.fill.new.self c.last_line-in-End.result (returns-in-End-clause-told g c)

-- the source failed, and what was held has no line end
pub returns-in-Failed-clause-told : goal.returns-in-Failed-clause-told
returns-in-Failed-clause-told g c =
    let taken = rw c.in-Ok-false.field-0-test at c.in-Ok-false.ensures.part in
    let was = c.in-Ok-false.ensures.over ∙ c.parts.invariant.over in
    let not = sym was ∙ sym (ap (λ (v : Reader). v.over) c.self-in-parts.view_is) ∙ c.if-self.false in
    let failed = c.in-Failed.ensures.bytes in
    told-fault _ _ _ _ c.args.self.now c.fill.new.self c.parts.self.held _ c.take_part.new.line.items failed.0 (c.in-Failed.ensures.over (λ e. (cc)) ∙ was)
    (passed-kept _ _ _ _ _ _ c.args.self.now.over _ _ _ not c.parts.invariant.passed taken.0 failed.1 c.in-Failed.ensures.gave (rw failed.0 at c.in-Failed.ensures.order))
    (subst (λ (kept : List ℕ). TakesPart c.parts.self.held kept c.parts.line.items c.take_part.new.line.items false) taken.1 taken)

-- what was held has no line end, and the reader wasn't at the end
pub returns-in-End-clause-ready : goal.returns-in-End-clause-ready
returns-in-End-clause-ready g c =
    let taken = rw c.in-Ok-false.field-0-test at c.in-Ok-false.ensures.part in
    λ has. absurd (unheld c.parts.self.held taken.0 (subst (λ (h : List ℕ). Contains h 10) (sym (c.parts.invariant.ready has).0) has))

pub returns-in-End-clause-over : goal.returns-in-End-clause-over
returns-in-End-clause-over g c =
    let was = c.in-Ok-false.ensures.over ∙ c.parts.invariant.over in
    let not = sym was ∙ sym (ap (λ (v : Reader). v.over) c.self-in-parts.view_is) ∙ c.if-self.false in
    λ over. absurd (true≢false (sym over ∙ not))

pub returns-in-Failed-clause-ready : goal.returns-in-Failed-clause-ready
returns-in-Failed-clause-ready g c =
    let taken = rw c.in-Ok-false.field-0-test at c.in-Ok-false.ensures.part in
    λ has. absurd (unheld c.parts.self.held taken.0 (subst (λ (h : List ℕ). Contains h 10) (sym (c.parts.invariant.ready has).0) has))

pub returns-in-Failed-clause-over : goal.returns-in-Failed-clause-over
returns-in-Failed-clause-over g c =
    let was = c.in-Ok-false.ensures.over ∙ c.parts.invariant.over in
    let not = sym was ∙ sym (ap (λ (v : Reader). v.over) c.self-in-parts.view_is) ∙ c.if-self.false in
    λ over. absurd (true≢false (sym over ∙ not))
