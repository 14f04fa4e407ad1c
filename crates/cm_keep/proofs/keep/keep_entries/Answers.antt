use Rattle.std.proofs.Common.{◌+◌, ◌++◌, ◌∙◌, string_bytes, drop, subst, sym}
use Rattle.cm_reply.specs.Journal.{line, entry_text, entries_text}
use Rattle.cm_keep.specs.Keeping.{Passes}
use Rattle.cm_keep.proofs.lemmas.Passing.{goes_on, next_line}
use Rattle.cm_keep.proofs.keep.keep_entries.Goals as goal

pub loop-index-preserved : goal.loop-index-preserved
loop-index-preserved g c =
    let i = c.loop-index.index in
    let es = c.args.entries.now in
    let e = c.index-entries-index.result in
    let line = line (entry_text (i + 1) e) in
    let rest = entries_text (i + 1 + 1) (drop (i + 1) es) in
    record {
      pending = c.in_default.ensures.pending;
      shown = c.in_default.ensures.shown ∙ c.loop-index.invariant.shown;
      names = c.in_default.ensures.names ∙ c.loop-index.invariant.names;
      asked = c.in_default.ensures.asked ∙ c.loop-index.invariant.asked;
      faults = c.in_default.ensures.cause ∙ c.loop-index.invariant.faults;
      passes = goes_on _ _ _ _ (string_bytes c.loop-index.held) _ line rest _ (subst (λ more. Passes (g.P.TextKeeper.draft c.args.keeper.now) (g.P.TextKeeper.draft c.loop-index.keeper) (string_bytes c.args.held.now) (string_bytes c.loop-index.held ++ more) (entries_text 1 es)) (next_line es i e c.loop-index-test.true (sym c.index-entries-index.is)) c.loop-index.invariant.passes) c.in_default.ensures.passes;
    }
