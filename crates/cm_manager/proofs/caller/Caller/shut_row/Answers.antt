use Rattle.std.proofs.Common.{sym, ◌∙◌}
use Rattle.cm_manager.proofs.lemmas.callers.CallerStops.{marked_runs, unmarked_runs}
use Rattle.cm_manager.proofs.lemmas.shutdowns.ShuttingDown.{marked_at, marked_next, none_or}
use Rattle.cm_manager.proofs.caller.Caller.shut_row.Goals as goal

pub stop_all-requires : goal.stop_all-requires
stop_all-requires g c = (
  c.type_bounds.sync-R,
  (marked_at c.marks_stay.ensures.marks c.args.doom c.args.inc _ _ _ (sym c.unmarked.ensures ∙ c.in-None.is) c.ask.ensures.turns.pass c.ask.ensures.asked).0,
)

pub returns-in-None : goal.returns-in-None
returns-in-None g c =
    let is = sym c.unmarked.ensures ∙ c.in-None.is in
    record {
      runs = marked_runs c.args.doom c.args.inc _ _ _ _ _ is c.ask.ensures.turns c.ask.ensures.asked c.stop_all.ensures.runs;
      marked =
          none_or _ _
          (marked_next c.marks_stay.ensures.stays c.args.doom c.args.inc _ _ c.stop_all.ensures.runs.helps.same
          (marked_at c.marks_stay.ensures.marks c.args.doom c.args.inc _ _ _ is c.ask.ensures.turns.pass c.ask.ensures.asked));
      over = c.stop_all.ensures.over;
    }

pub returns-in-Some : goal.returns-in-Some
returns-in-Some g c = record {
  runs = unmarked_runs c.args.doom c.args.inc _ _ _ _ (sym c.unmarked.ensures ∙ c.in-Some.is) c.ask.ensures.turns c.ask.ensures.asked;
  marked = tt;
  over = tt;
}
