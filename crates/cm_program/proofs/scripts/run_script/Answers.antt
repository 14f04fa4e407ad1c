use Rattle.std.proofs.Common.{◌≡◌, ◌⊎◌, inl, ℕ, List, Option, ◌∙◌, refl, sym, subst}
use Rattle.std.proofs.KnownBytes.{Keeps-refl}
use Rattle.cm_program.specs.Run.{ScriptStops}
use Rattle.cm_program.specs.Stock.{LoadsScript}
use Rattle.cm_program.specs.Written.{OfKnown, OfSome}
use Rattle.cm_program.specs.declared.stock.LoadedScript.{LoadedScript}
use Rattle.cm_program.specs.declared.scripts.Stop.{Stop}
use Rattle.cm_program.specs.Run.{IsRefusalStatus}
use Rattle.cm_program.specs.Headline.{RunsNothing}
use Rattle.cm_program.proofs.lemmas.whole.Run.{not_faulty, as_served, known_nothing, known_of_some, refused_runs, history_of, some_refused, some_served, some_unread}
use Rattle.cm_program.proofs.lemmas.Statuses.{not_run, run_goes_on}
use Rattle.cm_program.proofs.scripts.run_script.Goals as goal

known : (served : LoadedScript) (left : Option (List ℕ)) → OfSome (λ bytes. LoadsScript bytes served) left → OfKnown (λ bytes. LoadsScript bytes served) left
known served left some = known_of_some (λ bytes. LoadsScript bytes served) left some

pub returns-in-Ok : goal.returns-in-Ok
returns-in-Ok g c =
    record {
      gates = c.run_served.ensures.gates;
      read = not_run 3 c.run_served.result.status refl c.run_served.ensures.others;
      heard = λ three six. c.in-Ok.ensures.heard;
      quiet = c.in-Ok.ensures.quiet;
      write = c.run_served.ensures.cause;
      whole = c.run_served.ensures.whole;
      ended = λ none. c.in-Ok.ensures.ended;
      refused = not_run 7 c.run_served.result.status refl c.run_served.ensures.others;
      faulty = not_faulty (IsRefusalStatus c.run_served.result.status) (g.S.Source.left c.args.script.now) c.in-Ok.served (known c.in-Ok.served (g.S.Source.left c.args.script.now) c.in-Ok.ensures.good);
      headline = λ ended. as_served _ (g.S.Source.left c.args.script.now) c.in-Ok.served (known c.in-Ok.served (g.S.Source.left c.args.script.now) c.in-Ok.ensures.good) c.run_served.ensures.runs;
      some = λ ended. some_served _ _ _ _ c.in-Ok.served c.in-Ok.ensures.good c.run_served.ensures.runs;
      history = history_of g.G.Gates.log g.G.Gates.faults _ _ _ _ _ _ _ _ _ c.run_served.ensures.runs;
      empty = run_goes_on c.run_served.result.status c.run_served.ensures.others;
      unserved = not_faulty (RunsNothing c.run_served.result.book.entries c.args.gates c.run_served.result.gates) (g.S.Source.left c.args.script.now) c.in-Ok.served (known c.in-Ok.served (g.S.Source.left c.args.script.now) c.in-Ok.ensures.good);
      silent = run_goes_on c.run_served.result.status c.run_served.ensures.others;
      err = c.run_served.ensures.err;
      others = inl c.run_served.ensures.others;
    }

pub returns-in-Err-Refused-clause-headline : goal.returns-in-Err-Refused-clause-headline
returns-in-Err-Refused-clause-headline g c = λ ran. refused_runs _ (g.S.Source.left c.args.script.now) c.in-Err-Refused.fault (subst (λ (stop : Stop). ScriptStops stop (g.S.Source.left c.args.script.now)) c.in-Err-Refused.field-0-is c.in-Err-Refused.ensures.bad)

pub returns-clause-headline : goal.returns-clause-headline
returns-clause-headline g c = λ ran.
    known_nothing g.G.Gates.log g.G.Gates.faults (g.S.Source.left c.args.script.now) c.args.wanted c.args.repo c.args.gates c.ended-in-Err-Memory.result.gates c.ended-in-Err-Memory.result.book.entries c.ended-in-Err-Memory.result.status (g.K.Sink.written c.args.out.now)
    c.ended-in-Err-Memory.ensures.empty c.ended-in-Err-Memory.ensures.gates (c.ended-in-Err-Memory.ensures.status ∙ c.out_of_memory.ensures.status)

pub returns-in-Err-Refused-clause-some : goal.returns-in-Err-Refused-clause-some
returns-in-Err-Refused-clause-some g c = λ ran.
    some_refused _ _ _ _ (subst (λ (s : ℕ). (s ≡ 7) ⊎ (s ≡ 6)) (sym c.ended-in-Err-Refused.ensures.status) c.refuse.ensures.others)
    ((c.ended-in-Err-Refused.ensures.empty, c.ended-in-Err-Refused.ensures.gates), Keeps-refl _) ran

pub returns-clause-some : goal.returns-clause-some
returns-clause-some g c = λ ran.
    some_unread _ _ _ _ (c.ended-in-Err-Memory.ensures.status ∙ c.out_of_memory.ensures.status)
    ((c.ended-in-Err-Memory.ensures.empty, c.ended-in-Err-Memory.ensures.gates), Keeps-refl _)
