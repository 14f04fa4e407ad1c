use Rattle.std.proofs.Common.{◌≡◌, true}
use Rattle.std.specs.List.{Contains}
use Rattle.cm_io.specs.Outside.{AsSource}
use Rattle.cm_io.proofs.lemmas.Line.{Passed}
use Rattle.cm_io.proofs.lines.LineReader.next.Given as goal

abbrev pub invariant-parts : goal.invariant-parts
invariant-parts g l =
    let first : AsSource = record { left = g.S.Source.left l.fn.source; given = g.S.Source.given l.fn.source; faults = g.S.Source.faults l.fn.source } in
    let now : AsSource = record { left = g.S.Source.left l.source; given = g.S.Source.given l.source; faults = g.S.Source.faults l.source } in
    record {
      more : (goal.iterator-parts g).can_next l.iterator' × (goal.iterator-parts g).is_finite l.iterator';
      passed : Passed first now (g.S.Source.order l.fn.source) (g.S.Source.order l.source) l.fn.self.over l.fn.self.held l.self.held l.line.items;
      over : l.self.over ≡ l.fn.self.over;
      ready : Contains l.fn.self.held 10 → (l.self.held ≡ l.fn.self.held) × (l.source ≡ l.fn.source);
      untouched : l.fn.self.over ≡ true → l.source ≡ l.fn.source;
      count : g.S.Source.faults l.source ≡ g.S.Source.faults l.fn.source;
      beside : g.S.Source.beside l.source ≡ g.S.Source.beside l.fn.source;
      quiet : g.S.Source.quiet l.fn.source → g.S.Source.quiet l.source;
    }
