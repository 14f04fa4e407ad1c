use Rattle.std.proofs.Common.{◌≡◌, ◌+◌, ◌++◌, string_bytes, drop}
use Rattle.cm_reply.specs.Journal.{entries_text}
use Rattle.cm_keep.specs.Keeping.{Passes}
use Rattle.cm_keep.proofs.keep.keep_entries.Given as goal

-- what is held back and what is still to come are held back, as it were, of all that comes
abbrev pub invariant-loop-index : goal.invariant-loop-index
invariant-loop-index g l = record {
  pending : g.P.TextKeeper.pending l.keeper;
  shown : g.P.TextKeeper.shown l.keeper ≡ g.P.TextKeeper.shown l.fn.keeper;
  names : g.P.TextKeeper.names l.keeper ≡ g.P.TextKeeper.names l.fn.keeper;
  asked : g.P.TextKeeper.asked l.keeper ≡ g.P.TextKeeper.asked l.fn.keeper;
  faults : g.P.TextKeeper.faults l.keeper ≡ g.P.TextKeeper.faults l.fn.keeper;
  passes : Passes (g.P.TextKeeper.draft l.fn.keeper) (g.P.TextKeeper.draft l.keeper) (string_bytes l.fn.held)
      (string_bytes l.held ++ entries_text (l.index + 1) (drop l.index l.entries)) (entries_text 1 l.fn.entries);
}
